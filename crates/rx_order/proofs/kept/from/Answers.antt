use Rattle.std.proofs.Common.{◌≡◌, List, ℕ, true, sym, subst, drop, arith}
use Rattle.std.proofs.lemmas.List.{drop_all}
use Rattle.rx_rules.proofs.Common.{is_kept}
use Rattle.rx_order.proofs.Keeping.{kept-end}
use Rattle.rx_order.proofs.kept.from.Goals as goal

pub returns-in-Some : goal.returns-in-Some
returns-in-Some c s t h =
    let k : (x : List ℕ) → is_kept t x ≡ c.in-Some.kept = rw c.in-Some.is at c.kept_by.ensures s t h in
    sym (k (drop c.args.at c.args.x.now))

pub returns-then-at-x : goal.returns-then-at-x
returns-then-at-x c s t h = c.inside.ensures s t h (rw c.in-None.is at c.kept_by.ensures s t h)

pub returns-else-at-x : goal.returns-else-at-x
returns-else-at-x c s t h =
    let P : List ℕ → Type 0 = λ x. true ≡ is_kept t x in
    subst P (sym (drop_all c.args.at c.args.x.now (omega (arith, c.if-at-x.false)))) (kept-end t (rw c.in-None.is at c.kept_by.ensures s t h))
