use Rattle.std.proofs.Common.{sym}
use Rattle.rx_fields.proofs.Fronts.{scope_known}
use Rattle.rx_fields.proofs.parts.scope_field.Goals as goal

pub returns-in-Some : goal.returns-in-Some
returns-in-Some c = sym (scope_known c.args.words.now c.lettered.new.self c.in-Some.n c.in-Some.ensures.low c.in-Some.ensures.some)
