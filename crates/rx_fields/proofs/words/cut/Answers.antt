use Rattle.rx_fields.proofs.Taken.{cut-is, lacks-all}
use Rattle.std.proofs.Common.{sym, ◌∙◌}
use Rattle.rx_fields.proofs.words.cut.Goals as goal

pub returns-then-len-bytes-clause-none : goal.returns-then-len-bytes-clause-none
returns-then-len-bytes-clause-none c = lacks-all c.args.stop c.args.bytes.now (sym c.run_len-len.ensures.run ∙ c.if-len-bytes.true)

pub returns-clause-some : goal.returns-clause-some
returns-clause-some c = cut-is c.args.stop c.run_len-len.result c.args.bytes.now c.run_len-len.ensures.run c.if-len-bytes.false
