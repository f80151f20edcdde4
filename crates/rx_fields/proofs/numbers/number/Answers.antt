use Rattle.rx_fields.proofs.Scanned.{stored_number}
use Rattle.rx_fields.proofs.numbers.number.Goals as goal

pub returns-in-Some : goal.returns-in-Some
returns-in-Some c = stored_number c.args.word.now c.in-Some.n c.from.result c.in-Some.ensures.some c.from.ensures
