use Rattle.std.proofs.Common.{refl, sym, ◌∙◌, ap, subst, inr}
use Rattle.std.proofs.lemmas.Bool.{true≢false}
use Rattle.rx_rules.proofs.Common.{tree_of}
use Rattle.rx_coordinator.specs.declared.seats.Seat.{Seat}
use Rattle.rx_coordinator.specs.declared.requests.Request.TheVariants.{Release}
use Rattle.rx_coordinator.specs.declared.waiters.Waiter.TheVariants.{Task as TaskWaits}
use Rattle.rx_coordinator.specs.declared.parking.Parking.{Parking}
use Rattle.rx_coordinator.specs.Stands.{IsReplyTo}
use Rattle.rx_coordinator.specs.Parking.{Parks}
use Rattle.rx_coordinator.proofs.Acting.{held_seat}
use Rattle.rx_coordinator.proofs.Moves.{none_held, not_parked, none_parked, release_told, parked_told, waits_told}
use Rattle.rx_coordinator.proofs.parking.Parking.ask_release.Goals as goal

pub returns-in_default : goal.returns-in_default
returns-in_default c = λ p es k.
    inr ((λ h. refl), (none_held c.args.self.now.core p es k.stands c.args.task (λ w e. c.in_default.not-Some w (c.held.ensures ∙ e)), record { stands = k.stands; all = k.all }), λ n. refl)

pub returns-in-NotYet : goal.returns-in-NotYet
returns-in-NotYet c = λ p es k.
    let T = tree_of p es in
    let t = c.args.task in
    let ws = c.args.self.now.waiters in
    let w = c.in-Some.seat in
    let held = held_seat c.args.self.now.core p es k.stands t w (sym c.held.ensures ∙ c.in-Some.is) in
    let apart = not_parked T t w held.told ws c.args.self.now.due k.all (λ e. true≢false (sym (c.has.ensures.1 e) ∙ c.if-has.false)) in
    let a = c.in-NotYet.ensures p es k.stands in
    let both = waits_told T t w k.stands.tree.reached held.told held.seat (sym (ap (λ (y : Seat). y.waits) held.seat.is) ∙ held.waits) c.in-NotYet.place a.1 in
    let told = parked_told p es c.release.new.self ws c.args.self.now.due k.all (Release t) (TaskWaits t) w.who.inner c.in-NotYet.place c.park.new.self.waiters c.park.result refl a.0 a.1 a.2 both.0 both.1 c.park.ensures.parked in
    inr (
      (λ h. absurd (none_parked ws t apart h)),
      subst (λ (l : Parking). IsReplyTo p es (Release t) c.park.result (Parks l p)) (sym c.park.ensures.same) told.0,
      told.1,
    )

pub returns-in_default-release : goal.returns-in_default-release
returns-in_default-release c = λ p es k.
    let T = tree_of p es in
    let t = c.args.task in
    let ws = c.args.self.now.waiters in
    let w = c.in-Some.seat in
    let held = held_seat c.args.self.now.core p es k.stands t w (sym c.held.ensures ∙ c.in-Some.is) in
    let apart = not_parked T t w held.told ws c.args.self.now.due k.all (λ e. true≢false (sym (c.has.ensures.1 e) ∙ c.if-has.false)) in
    let told = release_told p es c.release.new.self ws c.args.self.now.due k.all t c.release.result k.stands.tree.reached apart c.in_default-release.not-NotYet (c.release.ensures p es k.stands) in
    inr ((λ h. absurd (none_parked ws t apart h)), told.0, told.1)
