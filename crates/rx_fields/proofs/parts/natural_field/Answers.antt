use Rattle.std.proofs.Common.{sym}
use Rattle.rx_fields.proofs.Fronts.{natural_known}
use Rattle.rx_fields.proofs.parts.natural_field.Goals as goal

pub returns-in-Some : goal.returns-in-Some
returns-in-Some c = sym (natural_known c.args.words.now c.short_number.new.self c.in-Some.n c.in-Some.ensures.low c.in-Some.ensures.some)
