use Rattle.std.proofs.Common.{refl, arith, inr}
use Rattle.rx_coordinator.proofs.Moves.{kept, died_waits, no_death_told}
use Rattle.rx_coordinator.proofs.parking.Parking.ask_death.Goals as goal

pub returns-in-Died : goal.returns-in-Died
returns-in-Died c = λ p es k.
    let a = c.in-Died.ensures p es k.stands in
    let ws = c.args.self.now.waiters in
    inr (
      (λ h. absurd h),
      (a.0, a.1, a.2, kept c.die.new.self ws _ p _ a.3 (died_waits p es c.args.place a.0 ws c.args.self.now.due _ (λ n. omega arith) a.1 k.all)),
      λ n. refl,
    )

pub returns-in_default : goal.returns-in_default
returns-in_default c = λ p es k.
    inr ((λ h. absurd h), no_death_told p es c.die.new.self c.args.self.now.waiters c.args.self.now.due k.all c.args.place c.die.result c.in_default.not-Died (c.die.ensures p es k.stands), λ n. refl)
