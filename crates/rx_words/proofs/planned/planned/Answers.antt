use Rattle.std.proofs.Common.{◌≡◌, ◌∙◌, ℕ, ◌+◌, List, [], ◌∷◌, ◌++◌, drop, get_or, subst, sym, ap, append-nil, map}
use Rattle.std.specs.List.Sorted.{IsPermutation, IsSortedBy}
use Rattle.std.proofs.lemmas.List.{drop_all, at_drop_more}
use Rattle.rx_rules.proofs.Common.{Kill}
use Rattle.rx_history.specs.KillOrder.{IsAscending, is_before}
use Rattle.rx_words.specs.Commands.{kill_in}
use Rattle.rx_words.proofs.KillPlans.{sorted-ascends, sorted-is, comes-last}
use Rattle.rx_words.proofs.planned.planned.Goals as goal

pub push-requires : goal.push-requires
push-requires c =
    let items : List Kill = c.deref-planned-items.result.now in
    let i : ℕ = c.loop-planned.planned-index in
    let d : Kill = record { place = record { 0 = 0 }; moment = 0 } in
    let is : items ≡ c.sort.new.list.items = c.deref-planned-items.ensures.value in
    let same : IsPermutation (map kill_in c.args.kills.now) items = subst (IsPermutation (map kill_in c.args.kills.now)) (sym is) (subst (λ (ks : List Kill). IsPermutation ks c.sort.new.list.items) c.in_ok-sorted.ensures c.sort.ensures.same) in
    let up : IsSortedBy is_before items = subst (IsSortedBy is_before) (sym is) c.sort.ensures.sorted in
    let step : drop i items ≡ get_or items i d ∷ drop (i + 1) items = at_drop_more (λ xs. xs) items i d c.loop-planned-test.true in
    let parts : items ≡ c.loop-planned.list ++ get_or items i d ∷ drop (i + 1) items = sym c.loop-planned.invariant ∙ ap (λ xs. c.loop-planned.list ++ xs) step in
    comes-last (get_or items i d) c.loop-planned.list (drop (i + 1) items) (subst IsAscending parts (sorted-ascends c.args.places c.args.joins.now c.args.kills.now items c.requires same up))

pub returns : goal.returns
returns c =
    let items : List Kill = c.deref-planned-items.result.now in
    let is : items ≡ c.sort.new.list.items = c.deref-planned-items.ensures.value in
    let same : IsPermutation (map kill_in c.args.kills.now) c.sort.new.list.items = subst (λ (ks : List Kill). IsPermutation ks c.sort.new.list.items) c.in_ok-sorted.ensures c.sort.ensures.same in
    let none : drop c.loop-planned.planned-index items ≡ [] = drop_all c.loop-planned.planned-index items c.loop-planned-test.false in
    let whole : c.loop-planned.list ≡ items = sym (append-nil c.loop-planned.list) ∙ ap (λ xs. c.loop-planned.list ++ xs) (sym none) ∙ c.loop-planned.invariant in
    whole ∙ is ∙ sorted-is c.args.places c.args.joins.now c.args.kills.now c.sort.new.list.items c.requires same c.sort.ensures.sorted
