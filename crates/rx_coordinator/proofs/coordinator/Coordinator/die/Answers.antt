use Rattle.std.proofs.Common.{ℕ, ◌-◌, length, arith, refl, sym, ◌∙◌, ap, subst}
use Rattle.std.proofs.lemmas.Bool.{true≢false}
use Rattle.rx_rules.specs.declared.entries.Entry.TheVariants.{Death as DeathEntry}
use Rattle.rx_rules.proofs.Common.{tree_of, strike}
use Rattle.rx_counts.specs.Stands.{StandsFor}
use Rattle.rx_coordinator.specs.declared.requests.Request.TheVariants.{Death}
use Rattle.rx_coordinator.proofs.Asking.{stands_after}
use Rattle.rx_coordinator.proofs.Allowing.{may_death, used_up}
use Rattle.rx_coordinator.proofs.Acting.{no_death}
use Rattle.rx_coordinator.proofs.Telling.{dies_told}
use Rattle.rx_coordinator.proofs.coordinator.Coordinator.die.Goals as goal
use Rattle.rx_rules.specs.declared.tasks.Blow.{Blow}
use Rattle.rx_coordinator.specs.Seats.{unhit}
use Rattle.rx_coordinator.proofs.Acting.{later_than}

pub returns-then-not-may_die : goal.returns-then-not-may_die
returns-then-not-may_die c = λ p es st. (no_death (tree_of p es) c.args.place (λ h. true≢false (sym ((c.may_die.ensures p es st).1 h) ∙ c.if-not-may_die.true)), st)

pub death-requires : goal.death-requires
death-requires c =
    let r = c.requires in
    let T = tree_of r.0 r.1 in
    let may = (c.may_die.ensures r.0 r.1 r.2).0 c.if-not-may_die.false in
    (16 - T.places, T, r.2.tree, record { dies = may; later = later_than c.args.self.now r.0 r.1 r.2 })

pub returns : goal.returns
returns c = λ p es st.
    let T = tree_of p es in
    let d = c.args.place in
    let may = (c.may_die.ensures p es st).0 c.if-not-may_die.false in
    let stood = c.death.ensures (16 - T.places) T st.tree (record { dies = may; later = later_than c.args.self.now p es st }) in
    let b : Blow = record { place = d; entry = length es } in
    let stood2 : StandsFor c.death.new.self (16 - T.places) (strike b T) = subst (λ (n : ℕ). (let k : Blow = record { place = d; entry = n } in StandsFor c.death.new.self (16 - T.places) (strike k T))) st.count stood in (
      DeathEntry d,
      refl,
      may,
      stands_after c.args.self.now _ p es (DeathEntry d) st may stood2 (record { tasks = st.numbers.tasks; scopes = st.numbers.scopes }) refl
          (λ t. c.strike.ensures t.0 ∙ (ap (unhit d) (st.seats t) ∙ sym (dies_told T b t))),
    )

pub returns-then-is_full : goal.returns-then-is_full
returns-then-is_full c = λ p es st.
    (may_death (tree_of p es) c.args.place ((c.may_die.ensures p es st).0 c.if-not-may_die.false), used_up c.args.self.now p es st (c.is_full.ensures.0 c.if-is_full.true) (Death c.args.place) (omega arith), st)
