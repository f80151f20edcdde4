use Rattle.std.proofs.Common.{ℕ, suc, ◌≡◌, ◌-◌, ◌<◌, length, arith, refl, sym, ◌∙◌, subst}
use Rattle.rx_rules.proofs.Common.{PlaceId, tree_of, Allowed}
use Rattle.rx_rules.proofs.Widths.{limit-tree}
use Rattle.rx_rules.specs.declared.entries.Entry.TheVariants.{Join as JoinEntry}
use Rattle.rx_counts.specs.Stands.{StandsFor}
use Rattle.rx_coordinator.specs.declared.requests.Request.TheVariants.{Join}
use Rattle.rx_coordinator.proofs.Asking.{stands_after}
use Rattle.rx_coordinator.proofs.Allowing.{may_join, used_up}
use Rattle.rx_coordinator.proofs.Telling.{joins_told}
use Rattle.rx_coordinator.proofs.coordinator.Coordinator.join.Goals as goal

pub returns : goal.returns
returns c = λ p es st.
    let T = tree_of p es in
    let is : c.places-places.result ≡ T.places = c.places-places.ensures (16 - T.places) T st.tree in
    let low = c.if-places-ge16.false in
    let q : PlaceId = record { 0 = c.places-places.result } in
    let wide : length T.dead ≡ 16 = limit-tree p es in
    let most : c.places-places.result < length T.dead = omega (arith, low, wide) in
    let may : Allowed T (JoinEntry q) = (is, most) in
    let room : 16 - T.places ≡ suc (16 - suc T.places) = omega (arith, is, low) in
    let stood = c.join.ensures (16 - suc T.places) T (subst (λ (n : ℕ). StandsFor c.args.self.now.ledger n T) room st.tree) may in (
      JoinEntry q,
      refl,
      may,
      stands_after c.args.self.now _ p es (JoinEntry q) st may stood (record { tasks = st.numbers.tasks; scopes = st.numbers.scopes }) refl
          (λ t. st.seats t ∙ sym (joins_told T t)),
    )

pub returns-then-is_full : goal.returns-then-is_full
returns-then-is_full c = λ p es st.
    let T = tree_of p es in
    let is : c.places-places.result ≡ T.places = c.places-places.ensures (16 - T.places) T st.tree in
    let low = c.if-places-ge16.false in
    let wide : length T.dead ≡ 16 = limit-tree p es in
    (may_join T (omega (arith, is, low, wide)), used_up c.args.self.now p es st (c.is_full.ensures.0 c.if-is_full.true) Join (omega arith), st)
