use Rattle.std.proofs.Common.{◌≡◌, ◌∙◌, ℕ, ◌<◌, ◌≤◌, List, [], ◌∷◌, ◌++◌, length, map, get_or, ap, sym, subst, arith, rules, append_assoc, append-nil, Some, slice_get}
use Rattle.std.proofs.lemmas.Option.{slice_get_within, get_or_from_slice_get}
use Rattle.std.proofs.lemmas.List.{length-map}
use Rattle.rx_base.proofs.Elements.{empty-from}
use Rattle.rx_span.specs.Inside.Sorting.{next_of}
use Rattle.rx_span.specs.Inside.Kept.{IsKept}
use Rattle.rx_span.proofs.Passing.{next-there}
use Rattle.rx_span.proofs.Ties.{first-found}
use Rattle.rx_span.proofs.links.read.Goals as goal

within-map : {X : Type 0} (f : X → List ℕ) (xs : List X) (i : ℕ) (x : List ℕ) → slice_get (map f xs) i ≡ Some x → i < length xs
within-map f xs i x e = let l = slice_get_within (map f xs) i x e in let m = length-map xs f in omega arith

pub loop-rest-init : goal.loop-rest-init
loop-rest-init c = λ cs d h k. (d, k, ap (λ l. l ++ d) (sym c.open-chain.ensures))

pub path_at-requires : goal.path_at-requires
path_at-requires c =
    let r = c.requires in
    let v = c.loop-rest.invariant r.0 r.1 r.2 r.3 in
    let f = first-found r.0 (map (λ p. p.now) c.args.paths.now) c.args.links.now r.2 c.loop-rest.rest v.0 c.loop-rest-test.true v.1 in
    subst (λ n. n < length c.args.paths.now) (sym c.head_of-head.ensures) (within-map (λ p. p.now) c.args.paths.now c.loop-rest.rest.head f.path f.path_at)

pub bounds-links-head : goal.bounds-links-head
bounds-links-head c =
    let r = c.requires in
    let v = c.loop-rest.invariant r.0 r.1 r.2 r.3 in
    let f = first-found r.0 (map (λ p. p.now) c.args.paths.now) c.args.links.now r.2 c.loop-rest.rest v.0 c.loop-rest-test.true v.1 in
    subst (λ n. n < length c.args.links.now) (sym c.head_of-head.ensures) (slice_get_within c.args.links.now c.loop-rest.rest.head f.link f.link_at)

pub offset_bounds-links-head : goal.offset_bounds-links-head
offset_bounds-links-head c = let h : c.head_of-head.result < length c.args.links.now = bounds-links-head c in search rules

pub loop-rest-smaller : goal.loop-rest-smaller
loop-rest-smaller c =
    let r = c.requires in
    let v = c.loop-rest.invariant r.0 r.1 r.2 r.3 in
    let f = first-found r.0 (map (λ p. p.now) c.args.paths.now) c.args.links.now r.2 c.loop-rest.rest v.0 c.loop-rest-test.true v.1 in
    let e : get_or c.args.links.now c.head_of-head.result (record { length = 0; head = 0 }) ≡ f.link =
    ap (λ n. get_or c.args.links.now n (record { length = 0; head = 0 })) c.head_of-head.ensures
    ∙ get_or_from_slice_get c.args.links.now c.loop-rest.rest.head f.link (record { length = 0; head = 0 }) f.link_at in
    let n : (get_or c.args.links.now c.head_of-head.result (record { length = 0; head = 0 })).length ≡ length f.rest = ap (λ k. k.length) e ∙ f.kept.len in
    let m : c.loop-rest.rest.length ≡ length v.0 = v.1.len in
    let w : length v.0 ≡ length (f.path ∷ f.rest) = ap length f.whole in
    omega arith

pub loop-rest-preserved : goal.loop-rest-preserved
loop-rest-preserved c cs d h k =
    let v = c.loop-rest.invariant cs d h k in
    let f = first-found cs (map (λ p. p.now) c.args.paths.now) c.args.links.now h c.loop-rest.rest v.0 c.loop-rest-test.true v.1 in
    let e : get_or c.args.links.now c.head_of-head.result (record { length = 0; head = 0 }) ≡ f.link =
    ap (λ n. get_or c.args.links.now n (record { length = 0; head = 0 })) c.head_of-head.ensures
    ∙ get_or_from_slice_get c.args.links.now c.loop-rest.rest.head f.link (record { length = 0; head = 0 }) f.link_at in (
      f.rest,
      subst (λ l. IsKept cs l f.rest) (sym e) f.kept,
      v.2 ∙ ap (λ l. c.loop-rest.chain ++ l) f.whole ∙ sym (append_assoc c.loop-rest.chain (f.path ∷ []) f.rest)
          ∙ ap (λ y. (c.loop-rest.chain ++ y ∷ []) ++ f.rest) (sym (c.in_ok-from_slice.ensures ∙ c.path_at.ensures ∙ ap (λ n. next_of n (map (λ p. p.now) c.args.paths.now)) c.head_of-head.ensures ∙ next-there (λ p. p.now) c.args.paths.now c.loop-rest.rest.head f.path f.path_at)) ∙ ap (λ l. l ++ f.rest) (sym c.in_ok-push.ensures.ok),
    )

pub returns : goal.returns
returns c cs d h k =
    let v = c.loop-rest.invariant cs d h k in
    let e : c.loop-rest.rest.length ≡ length v.0 = v.1.len in
    let z : c.loop-rest.rest.length ≤ 0 = c.loop-rest-test.false in
    let none : v.0 ≡ [] = empty-from v.0 (omega arith) in
    sym (v.2 ∙ ap (λ l. c.loop-rest.chain ++ l) none ∙ append-nil c.loop-rest.chain)
