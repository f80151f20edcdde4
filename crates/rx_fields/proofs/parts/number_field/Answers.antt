use Rattle.rx_fields.proofs.Fronts.{number_known}
use Rattle.rx_fields.proofs.parts.number_field.Goals as goal

pub returns-in-Some : goal.returns-in-Some
returns-in-Some c = number_known c.args.words.now c.short_number.new.self c.in-Some.n c.from.result c.in-Some.ensures.low c.in-Some.ensures.some c.from.ensures
