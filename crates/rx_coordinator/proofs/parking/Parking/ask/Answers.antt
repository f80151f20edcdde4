use Rattle.std.proofs.Common.{sym, subst}
use Rattle.rx_coordinator.specs.Parking.{Parks, AskedBeside}
use Rattle.rx_coordinator.specs.declared.requests.Request.{Request}
use Rattle.rx_coordinator.proofs.Moves.{others_beside}
use Rattle.rx_coordinator.proofs.parking.Parking.ask.Goals as goal

pub returns-in_default : goal.returns-in_default
returns-in_default c = λ p es k.
    others_beside p es c.args.request c.ask.result c.ask.new.self c.args.self.now.waiters c.args.self.now.due k.stands.tree.reached k.all c.in_default.not-Release c.in_default.not-Root c.in_default.not-End c.in_default.not-Death (c.ask.ensures p es k.stands)

pub returns-in-Release : goal.returns-in-Release
returns-in-Release c = λ p es k.
    subst (λ (q : Request). AskedBeside p es q c.args.self.now.waiters c.ask_release.result (Parks c.ask_release.new.self p) c.ask_release.new.self.waiters) (sym c.in-Release.is) (c.ask_release.ensures p es k)

pub returns-in-Root : goal.returns-in-Root
returns-in-Root c = λ p es k.
    subst (λ (q : Request). AskedBeside p es q c.args.self.now.waiters c.ask_root.result (Parks c.ask_root.new.self p) c.ask_root.new.self.waiters) (sym c.in-Root.is) (c.ask_root.ensures p es k)
