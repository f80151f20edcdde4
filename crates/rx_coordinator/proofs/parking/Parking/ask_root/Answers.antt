use Rattle.std.proofs.Common.{refl, sym, ◌∙◌, subst, inr}
use Rattle.std.proofs.lemmas.Bool.{true≢false}
use Rattle.rx_rules.proofs.Common.{the_root, tree_of}
use Rattle.rx_coordinator.specs.declared.requests.Request.TheVariants.{Root}
use Rattle.rx_coordinator.specs.declared.waiters.Waiter.TheVariants.{Root as Host}
use Rattle.rx_coordinator.specs.declared.parking.Parking.{Parking}
use Rattle.rx_coordinator.specs.Stands.{IsReplyTo}
use Rattle.rx_coordinator.specs.Parking.{Parks}
use Rattle.rx_coordinator.proofs.Moves.{no_host, root_release_told, parked_told}
use Rattle.rx_coordinator.proofs.parking.Parking.ask_root.Goals as goal

pub returns-in-NotYet : goal.returns-in-NotYet
returns-in-NotYet c = λ p es k.
    let ws = c.args.self.now.waiters in
    let a = c.in-NotYet.ensures p es k.stands in
    let out = no_host (tree_of p es) ws c.args.self.now.due k.all (λ e. true≢false (sym (c.has_host.ensures.1 e) ∙ c.if-has_host.false)) in
    let told = parked_told p es c.release_root.new.self ws c.args.self.now.due k.all Root Host the_root c.in-NotYet.place c.park.new.self.waiters c.park.result refl a.0 a.1 a.2 refl (tt, a.1.busy) c.park.ensures.parked in
    inr (
      (λ h. absurd (out h)),
      subst (λ (l : Parking). IsReplyTo p es Root c.park.result (Parks l p)) (sym c.park.ensures.same) told.0,
      told.1,
    )

pub returns-in_default : goal.returns-in_default
returns-in_default c = λ p es k.
    let ws = c.args.self.now.waiters in
    let out = no_host (tree_of p es) ws c.args.self.now.due k.all (λ e. true≢false (sym (c.has_host.ensures.1 e) ∙ c.if-has_host.false)) in
    let told = root_release_told p es c.release_root.new.self ws c.args.self.now.due k.all c.release_root.result k.stands.tree.reached c.in_default.not-NotYet (c.release_root.ensures p es k.stands) in
    inr ((λ h. absurd (out h)), told.0, told.1)
