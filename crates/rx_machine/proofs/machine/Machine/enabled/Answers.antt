use Rattle.std.proofs.Common.{◌∙◌, length, ap, sym}
use Rattle.rx_machine.proofs.BeforeTurn.{counted}
use Rattle.rx_machine.proofs.machine.Machine.enabled.Goals as goal

pub returns-clause-holds : goal.returns-clause-holds
returns-clause-holds g c = λ shape code U G h.
    c.len.ensures.len ∙ counted shape code U c.args.self.now G c.games_come.ensures c.fold_is_reached.ensures c.reached_is_sound.ensures h

pub returns-clause-finished : goal.returns-clause-finished
returns-clause-finished g c = λ U G f. c.len.ensures.len ∙ (ap length f.none_ready ∙ sym (ap length f.none_enabled))

pub returns-clause-refused : goal.returns-clause-refused
returns-clause-refused g c = λ U k G h. c.len.ensures.len ∙ h.ready
