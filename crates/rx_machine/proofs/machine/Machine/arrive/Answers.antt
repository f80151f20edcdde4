use Rattle.std.proofs.Common.{refl, ap}
use Rattle.rx_rules.specs.declared.tasks.Where.TheVariants.{At}
use Rattle.rx_history.specs.Logs.{Log}
use Rattle.rx_machine.proofs.Landed.{arrive-may, arrive-out, landed}
use Rattle.rx_machine.proofs.machine.Machine.arrive.Goals as goal

pub arrive-requires-clause-asks : goal.arrive-requires-clause-asks
arrive-requires-clause-asks g c = arrive-may c.requires.game.5

pub no_memory-requires : goal.no_memory-requires
no_memory-requires g c = arrive-out c.requires.game.5 c.in-Err.fault c.in-Err.ensures.answer.0

pub put_back-requires : goal.put_back-requires
put_back-requires g c = c.requires.game.5.inside

pub returns-clause-made : goal.returns-clause-made
returns-clause-made g c = λ shape code U k G a.
    landed a _ (record (c.args.seat) { who = record (c.args.seat.who) { place = At c.args.to } }) c.open-batch.result c.open-batch.ensures refl c.in-Ok.ensures.answer refl refl refl c.put_back.ensures

pub returns-in-Err-clause-refused : goal.returns-in-Err-clause-refused
returns-in-Err-clause-refused g c = ap (λ (h : Log). record (c.args.self.now) { chronicle = h }) c.in-Err.ensures.answer.1
