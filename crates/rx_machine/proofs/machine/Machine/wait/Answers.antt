use Rattle.std.proofs.Common.{◌≡◌, [], List, true, refl, ap, ◌∙◌, subst}
use Rattle.rx_rules.proofs.Common.{Fault, Term, Empty, granted, replaced}
use Rattle.rx_rules.specs.declared.entries.Act.TheVariants.{Wait}
use Rattle.rx_history.specs.Logs.{Log}
use Rattle.rx_history.specs.Next.{carried}
use Rattle.rx_chronicle.specs.Requests.{Granted}
use Rattle.rx_control.specs.declared.control.Control.{Control}
use Rattle.rx_control.specs.Stands.{StandsFor}
use Rattle.rx_machine.proofs.Asking.{memory-out}
use Rattle.rx_machine.proofs.Stepping.{stands-by, does-by}
use Rattle.rx_machine.proofs.Waited.{wait-may, waited}
use Rattle.rx_machine.proofs.machine.Machine.wait.Goals as goal

pub go_on-requires : goal.go_on-requires
go_on-requires g c =
    let here = c.requires.game.0 in
    let game = c.requires.game.1 in
    let w = c.deref_mut.result.now in
    let asks = does-by game.5 w c.deref_mut.ensures.value ∙ game.6.1 in
    (replaced game.3.term Empty, c.take_faults-thrown.ensures.after c.args.p.now.script game.3.term here game.6.0 (stands-by game.5 w c.deref_mut.ensures.value) (ap carried asks))

pub wait-requires-clause-asks : goal.wait-requires-clause-asks
wait-requires-clause-asks g c = let game = c.requires.game.1 in wait-may game.5 game.6.0 game.6.1

pub no_memory-requires : goal.no_memory-requires
no_memory-requires g c = let game = c.requires.game.1 in memory-out game.5 c.in-Err.fault c.in-Err.ensures.answer.0

pub seat_mover-requires : goal.seat_mover-requires
seat_mover-requires g c = c.requires.game.1.5.inside

pub returns-clause-made : goal.returns-clause-made
returns-clause-made g c = λ here code U k q G a asks.
    let fs = asks.0 in
    let shape = c.args.p.now.script in
    let w = c.deref_mut.result.now in
    let stands = stands-by a w c.deref_mut.ensures.value in
    let so = does-by a w c.deref_mut.ensures.value ∙ asks.1 in
    let faults : c.take_faults-thrown.result ≡ fs = c.take_faults-thrown.ensures.list shape q.term here fs stands (ap carried so) in
    let after = c.take_faults-thrown.ensures.after shape q.term here fs stands (ap carried so) in
    let same = c.take_faults-thrown.ensures.wait q.term here fs [] so in
    let resumed = subst (λ (v : List Fault). StandsFor shape c.go_on.new.control.value (granted v (replaced q.term Empty))) c.open.ensures (c.in_ok-go_on.ensures.ok (replaced q.term Empty) after) in
    let term = subst (λ (t : Term). StandsFor shape c.go_on.new.control.value t) same resumed in
    let vars = c.in_ok-go_on.ensures.vars ∙ (c.take_faults-thrown.ensures.vars ∙ ap (λ (v : Control). v.vars) c.deref_mut.ensures.value) in
    let did = subst (λ (v : List Fault). Granted c.args.self.now.chronicle c.args.mover.who (Wait c.args.mover.who.inner v) c.args.mover.batch c.wait.new.self) faults c.in-Ok.ensures.answer in
    waited a fs asks.1 _ (record (c.args.mover) { waits = true; control = c.go_on.new.control }) refl did term vars refl refl c.seat_mover.ensures

pub returns-in-Err-clause-refused : goal.returns-in-Err-clause-refused
returns-in-Err-clause-refused g c = ap (λ (h : Log). record (c.args.self.now) { chronicle = h }) c.in-Err.ensures.answer.1
