use Rattle.std.proofs.Common.{◌∙◌, ap, sym, subst, map, reverse, rules}
use Rattle.std.specs.List.Sorted.{IsPermutation}
use Rattle.std.proofs.lemmas.List.Sorted.{answers_always, IsPermutation-map, IsPermutation-reverse}
use Rattle.rx_span.specs.Inside.Sorting.{comes, Descends}
use Rattle.rx_span.proofs.Lists.{sorted-descends, order-comes, map-reverse}
use Rattle.rx_span.proofs.paths.sorted.Goals as goal
use Rattle.rx_span.proofs.paths.sorted.Goals.{then-copies, else-copies+in_ok-sort_by}

pub returns-clause-same : goal.returns-clause-same
returns-clause-same c = λ xs h.
    let cut = c.in_ok-paths.ensures xs (c.deref.ensures.value ∙ h.numbers) (c.deref-2.ensures.value ∙ h.lengths) in
    elim c.if-copies.branch [
      | then-copies w ↦
          subst (IsPermutation xs)
          (sym (ap (λ v. map (λ p. p.now) v.items) w.paths-is ∙ ap (map (λ p. p.now)) w.reverse.ensures.items
          ∙ map-reverse (λ p. p.now) c.in_ok-paths.paths.items ∙ ap reverse cut))
          (IsPermutation-reverse xs)
      | else-copies+in_ok-sort_by w ↦
          subst (λ v. IsPermutation xs (map (λ p. p.now) v.items)) (sym w.paths-is)
          (subst (λ l. IsPermutation l (map (λ p. p.now) w.sort_by.new.self.items)) cut
          (IsPermutation-map (λ p. p.now) c.in_ok-paths.paths.items w.sort_by.new.self.items w.sort_by.ensures.permutation))
    ]

pub returns-clause-descends : goal.returns-clause-descends
returns-clause-descends c =
    let r = c.requires in
    let cut = c.in_ok-paths.ensures r.0 (c.deref.ensures.value ∙ r.1.numbers) (c.deref-2.ensures.value ∙ r.1.lengths) in
    elim c.if-copies.branch [
      | then-copies w ↦
          subst Descends
          (sym (ap (λ v. map (λ p. p.now) v.items) w.paths-is ∙ ap (map (λ p. p.now)) w.reverse.ensures.items
          ∙ map-reverse (λ p. p.now) c.in_ok-paths.paths.items ∙ ap reverse cut))
          (r.1.ascends w.if-copies.true)
      | else-copies+in_ok-sort_by w ↦
          subst (λ v. Descends (map (λ p. p.now) v.items)) (sym w.paths-is)
          (sorted-descends (λ p. p.now) w.sort_by.new.self.items r.0
          (w.in_ok-sort_by.ensures.sorted (λ a b. comes b.now a.now) (order-comes (λ p. p.now)) (answers_always _ _ _ (λ f a r g h. search rules)))
          r.2
          (subst (λ l. IsPermutation l (map (λ p. p.now) w.sort_by.new.self.items)) cut
          (IsPermutation-map (λ p. p.now) c.in_ok-paths.paths.items w.sort_by.new.self.items w.sort_by.ensures.permutation)))
    ]
