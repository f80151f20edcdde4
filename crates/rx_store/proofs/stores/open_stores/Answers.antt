use Rattle.std.proofs.Common.{◌≡◌, ◌≤◌, ◌+◌, ℕ, suc, ◌++◌, ◌∷◌, [], replicate, arith, ap, sym, subst, List}
use Rattle.rx_store.specs.Kept.{StoreView}
use Rattle.rx_store.specs.Kepts.{StoresAre}
use Rattle.rx_store.proofs.Opening.{opens-more}
use Rattle.rx_store.proofs.stores.open_stores.Goals as goal

pub loop-place-init : goal.loop-place-init
loop-place-init c = subst (λ (ss : List StoreView). StoresAre c.args.words 0 ss []) (sym c.new-stores.ensures.items) tt

pub loop-place-preserved : goal.loop-place-preserved
loop-place-preserved c =
    let k = c.in_ok-open.ensures in
    let at : c.in_ok-open.field-0.place.0 ≡ 0 + c.loop-place.place = omega (arith, ap (λ (s : StoreView). s.place.0) k) in
    let next : c.loop-place.place + 1 ≡ suc c.loop-place.place = omega arith in
    subst (λ (ss : List StoreView). StoresAre c.args.words 0 ss (replicate (c.loop-place.place + 1) [])) (sym c.in_ok-push.ensures.items)
    (subst (λ (v : ℕ). StoresAre c.args.words 0 (c.loop-place.stores.items ++ c.in_ok-open.field-0 ∷ []) (replicate v [])) (sym next)
    (opens-more c.args.words 0 c.loop-place.place c.loop-place.stores.items c.in_ok-open.field-0 c.loop-place.invariant
    at (ap (λ (s : StoreView). s.words) k) (ap (λ (s : StoreView). s.events) k)))

pub returns : goal.returns
returns c =
    let upto : c.loop-place.place ≤ c.args.places = c.loop-place.auto.place-end in
    let from : c.args.places ≤ c.loop-place.place = c.loop-place-test.false in
    let over : c.loop-place.place ≡ c.args.places = omega arith in
    subst (λ (v : ℕ). StoresAre c.args.words 0 c.loop-place.stores.items (replicate v [])) over c.loop-place.invariant
