use Rattle.std.proofs.Common.{Bool, ap, ◌∙◌}
use Rattle.rx_rank.specs.Numbers.{marked}
use Rattle.rx_machine.proofs.machine.Machine.note.Goals as goal

pub returns-clause-members : goal.returns-clause-members
returns-clause-members g c = λ shape code U G h. c.set.ensures.members ∙ ap (λ (b : Bool). marked b c.args.i c.args.self.now.ready.members) (c.is_able-able.ensures shape code U G h)
