use Rattle.std.proofs.Common.{◌≡◌, List, refl, ap, ◌∙◌, subst}
use Rattle.rx_rules.proofs.Common.{Fault}
use Rattle.rx_rules.specs.declared.entries.Act.TheVariants.{End}
use Rattle.rx_history.specs.Logs.{Log}
use Rattle.rx_history.specs.Next.{carried}
use Rattle.rx_chronicle.specs.Requests.{Granted}
use Rattle.rx_machine.proofs.Asking.{memory-out}
use Rattle.rx_machine.proofs.Ended.{end-may, ended}
use Rattle.rx_machine.proofs.Stepping.{stands-by, does-by}
use Rattle.rx_machine.proofs.machine.Machine.end.Goals as goal

pub end-requires-clause-asks : goal.end-requires-clause-asks
end-requires-clause-asks g c = let game = c.requires.game.2.1 in end-may game.5 game.6.0 game.6.1

pub no_memory-requires : goal.no_memory-requires
no_memory-requires g c = let game = c.requires.game.2.1 in memory-out game.5 c.in-Err.fault c.in-Err.ensures.answer.0

pub returns-in-Ok-clause-made : goal.returns-in-Ok-clause-made
returns-in-Ok-clause-made g c = λ shape i here code U k q G a asks.
    let fs = asks.0 in
    let w = c.deref_mut.result.now in
    let so = does-by a w c.deref_mut.ensures.value ∙ asks.1 in
    let faults : c.take_faults-thrown.result ≡ fs = c.take_faults-thrown.ensures.list shape q.term here fs (stands-by a w c.deref_mut.ensures.value) (ap carried so) in
    let did = subst (λ (v : List Fault). Granted c.args.self.now.chronicle c.args.mover.who (End v) c.args.mover.batch c.end.new.self) faults c.in-Ok.ensures.answer in
    ended a fs asks.1 _ refl did refl

pub returns-in-Err-clause-refused : goal.returns-in-Err-clause-refused
returns-in-Err-clause-refused g c = ap (λ (h : Log). record (c.args.self.now) { chronicle = h }) c.in-Err.ensures.answer.1
