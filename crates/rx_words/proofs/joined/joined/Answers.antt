use Rattle.std.proofs.Common.{◌≡◌, ◌∙◌, ℕ, ◌+◌, List, [], ◌∷◌, ◌++◌, drop, get_or, subst, sym, ap, append-nil, map}
use Rattle.std.specs.List.Sorted.{IsPermutation, IsSorted}
use Rattle.std.specs.Ordering.{nat_cmp}
use Rattle.std.proofs.lemmas.List.{drop_all, at_drop_more}
use Rattle.rx_history.specs.JoinOrder.{NeverFalls}
use Rattle.rx_words.specs.Commands.{moment_in}
use Rattle.rx_words.proofs.Moments.{sorted-rises, sorted-is, at-least-last}
use Rattle.rx_words.proofs.joined.joined.Goals as goal

pub push-requires : goal.push-requires
push-requires c =
    let items : List ℕ = c.deref-moment-items.result.now in
    let i : ℕ = c.loop-moment.moment-index in
    let is : items ≡ c.sort_unstable.new.self.items = c.deref-moment-items.ensures.value in
    let up : IsSorted nat_cmp items = subst (IsSorted nat_cmp) (sym is) c.sort_unstable.ensures.sorted in
    let step : drop i items ≡ get_or items i 0 ∷ drop (i + 1) items = at_drop_more (λ xs. xs) items i 0 c.loop-moment-test.true in
    let parts : items ≡ c.loop-moment.list ++ get_or items i 0 ∷ drop (i + 1) items = sym c.loop-moment.invariant ∙ ap (λ xs. c.loop-moment.list ++ xs) step in
    at-least-last (get_or items i 0) c.loop-moment.list (drop (i + 1) items) (subst NeverFalls parts (sorted-rises items up))

pub returns : goal.returns
returns c =
    let items : List ℕ = c.deref-moment-items.result.now in
    let is : items ≡ c.sort_unstable.new.self.items = c.deref-moment-items.ensures.value in
    let same : IsPermutation (map moment_in c.args.joins.now) c.sort_unstable.new.self.items = subst (λ (es : List ℕ). IsPermutation es c.sort_unstable.new.self.items) c.in_ok-sorted.ensures c.sort_unstable.ensures.permutation in
    let none : drop c.loop-moment.moment-index items ≡ [] = drop_all c.loop-moment.moment-index items c.loop-moment-test.false in
    let whole : c.loop-moment.list ≡ items = sym (append-nil c.loop-moment.list) ∙ ap (λ xs. c.loop-moment.list ++ xs) (sym none) ∙ c.loop-moment.invariant in
    whole ∙ is ∙ sorted-is (map moment_in c.args.joins.now) c.sort_unstable.new.self.items same c.sort_unstable.ensures.sorted
