use Rattle.std.proofs.Common.{◌≡◌, ◌∙◌, ◌<◌, ◌≤◌, ℕ, List, length, Some, slice_get, slice_index, sym, ap, subst, arith, inl, inr, nat_lt, ◌⊎◌}
use Rattle.std.specs.Ordering.{is_lt, nat_cmp}
use Rattle.std.proofs.lemmas.Bool.Decides.{nat_tests}
use Rattle.rx_span.specs.Inside.Sorting.{shared}
use Rattle.rx_span.proofs.Sharing.{order-at, order-end, at-index}
use Rattle.rx_span.proofs.paths.order.Goals as goal
use Rattle.rx_span.proofs.paths.order.Goals.{then-at-x-via-then-at-x, then-at-x-via-else-at-x+then-at-y}

less-cmp : (m n : ℕ) → is_lt (nat_cmp m n) ≡ nat_lt m n
less-cmp m n = grind (arith, nat_tests)

pub returns-then-at-x : goal.returns-then-at-x
returns-then-at-x c =
    let x = c.args.x.now in
    let y = c.args.y.now in
    let e : c.shared-at.result ≡ shared x y = c.shared-at.ensures in
    let over : (length x ≤ shared x y) ⊎ (length y ≤ shared x y) = elim c.then-at-x.branch [
      | then-at-x-via-then-at-x w ↦ inl (omega (arith, w.if-at-x.true))
      | then-at-x-via-else-at-x+then-at-y w ↦ inr (omega (arith, w.if-at-y.true))
    ] in
    ap is_lt c.cmp.ensures ∙ less-cmp (length x) (length y) ∙ sym (order-end x y over)

pub returns : goal.returns
returns c =
    let x = c.args.x.now in
    let y = c.args.y.now in
    let k = c.shared-at.result in
    let e : k ≡ shared x y = c.shared-at.ensures in
    let there : (z : List ℕ) → k < length z → slice_get z (shared x y) ≡ Some (slice_index z k) =
    λ z low. subst (λ n. slice_get z n ≡ Some (slice_index z k)) e (at-index z k low) in
    ap is_lt c.cmp-2.ensures ∙ less-cmp (slice_index x k) (slice_index y k)
    ∙ sym (order-at x y (slice_index x k) (slice_index y k) (there x (omega (arith, c.if-at-x.false))) (there y (omega (arith, c.if-at-y.false))))
