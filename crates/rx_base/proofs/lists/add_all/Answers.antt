use Rattle.std.proofs.Common.{ap, ◌∙◌, ◌≡◌, ◌≤◌, ◌+◌, suc, ◌++◌, [], ◌∷◌, sym, subst, arith, ℕ, List, take, length}
use Rattle.std.proofs.lemmas.Option.{get_or_from_slice_get, slice_get_within}
use Rattle.std.proofs.Math.Seq.{take-suc}
use Rattle.rx_base.specs.declared.values.Fault.{Fault}
use Rattle.rx_base.proofs.lists.add_all.Goals as goal

pub loop-i-preserved : goal.loop-i-preserved
loop-i-preserved c =
    let xs = c.args.faults.now in
    let i = c.loop-i.i in
    let x = c.item.result in
    let low = slice_get_within xs i x c.item.ensures in
    let at = get_or_from_slice_get xs i x x c.item.ensures in
    let next : i + 1 ≡ suc i = omega arith in (
      c.push_reserved.ensures.items ∙ (ap (λ (l : List Fault). l ++ x ∷ []) c.loop-i.invariant.0 ∙ (sym (take-suc xs i x low ∙ ap (λ (y : Fault). take i xs ++ y ∷ []) at) ∙ ap (λ (n : ℕ). take n xs) (sym next))),
      subst (λ (n : ℕ). length xs ≤ n) (sym c.push_reserved.ensures.capacity) c.loop-i.invariant.1,
    )
