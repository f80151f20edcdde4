use Rattle.std.proofs.Common.{ℕ, ◌≡◌, ◌-◌, false, not, refl, sym, ◌∙◌, ap, Some, None, Option}
use Rattle.std.specs.Option.{is_some}
use Rattle.std.proofs.lemmas.Bool.{true≢false, not-true}
use Rattle.rx_rules.proofs.Common.{tree_of, death_of}
use Rattle.rx_coordinator.proofs.coordinator.Coordinator.may_die.Goals as goal

none_of : {X : Type 0} (o : Option X) → is_some o ≡ false → o ≡ None
none_of None e = refl
none_of (Some x) e = absurd (true≢false e)

pub returns-then-not-has_place : goal.returns-then-not-has_place
returns-then-not-has_place c = λ p es st. ((λ f. absurd (true≢false (sym f))), λ h. absurd (true≢false (sym ((c.has_place.ensures p es st).1 h.0) ∙ c.if-not-has_place.true)))

pub returns : goal.returns
returns c = λ p es st.
    let T = tree_of p es in
    let d = c.args.place in
    let died = c.has_died.ensures (16 - T.places) T st.tree in (
      (λ f. ((c.has_place.ensures p es st).0 c.if-not-has_place.false, c.if-place-eq0.false, none_of (death_of T d) (sym died ∙ not-true c.has_died.result f))),
      λ h. ap not (died ∙ ap (λ (o : Option ℕ). is_some o) h.2),
    )
