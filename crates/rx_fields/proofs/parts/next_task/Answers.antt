use Rattle.std.proofs.Common.{sym}
use Rattle.rx_fields.proofs.Fronts.{task_first}
use Rattle.rx_fields.proofs.parts.next_task.Goals as goal

pub returns-in-Some : goal.returns-in-Some
returns-in-Some c = sym (task_first c.args.words.now c.lettered.new.self c.in-Some.n c.in-Some.ensures.low c.in-Some.ensures.some)
