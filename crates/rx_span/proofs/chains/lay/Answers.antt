use Rattle.std.proofs.Common.{◌≡◌, ◌∙◌, ℕ, zero, suc, ◌<◌, ◌+◌, List, [], ◌∷◌, ◌++◌, ap, append_assoc, refl, arith, length, replicate}
use Rattle.std.proofs.lemmas.List.{length-append}
use Rattle.rx_span.specs.declared.chains.Kept.{Kept}
use Rattle.rx_span.specs.Inside.Kept.{none}
use Rattle.rx_span.proofs.chains.lay.Goals as goal

one_more : (k : ℕ) → replicate k none ++ none ∷ [] ≡ replicate (suc k) none
one_more zero = refl
one_more (suc k) = ap (λ l. none ∷ l) (one_more k)

push-more : (done rows new : List Kept) (p x : Kept) (k : ℕ) → rows ≡ done ++ p ∷ replicate k none → new ≡ rows ++ x ∷ [] → x ≡ none → new ≡ done ++ p ∷ replicate (suc k) none
push-more done rows new p x k e f g =
    f ∙ ap (λ y. rows ++ y ∷ []) g ∙ ap (λ l. l ++ none ∷ []) e ∙ append_assoc done (p ∷ replicate k none) (none ∷ []) ∙ ap (λ l. done ++ p ∷ l) (one_more k)

pub loop-rows-preserved : goal.loop-rows-preserved
loop-rows-preserved c =
    let i = c.loop-rows.invariant in
    let l : length c.push-in-loop-rows.new.self.items ≡ length c.loop-rows.rows.items + 1 = ap length c.in_ok-push-2.ensures.items ∙ length-append c.loop-rows.rows.items (c.none.result ∷ []) in
    let n : c.len.result ≡ length c.loop-rows.rows.items = omega (arith, c.len.ensures, c.loop-rows.rows.ok.0) in
    let t : c.len.result < c.args.len = c.loop-rows-test.true in
    let e : c.args.from + suc i.0 ≡ length c.loop-rows.rows.items = i.2 in
    (suc i.0, omega arith, omega arith, push-more _ c.loop-rows.rows.items c.push-in-loop-rows.new.self.items c.args.passed c.none.result i.0 i.3 c.in_ok-push-2.ensures.items c.none.ensures)
