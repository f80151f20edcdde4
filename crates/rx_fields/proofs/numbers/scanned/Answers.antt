use Rattle.std.proofs.Common.{◌∙◌}
use Rattle.rx_fields.proofs.Scanned.{scanned, scanned-none, scanned-less}
use Rattle.rx_fields.proofs.numbers.scanned.Goals as goal

pub returns-in_err-n : goal.returns-in_err-n
returns-in_err-n c = c.from_residual.ensures ∙ scanned-none c.args.word.now c.scan_num.result c.scan_num.ensures.exact c.in_err-n.was

pub returns-then-end-word : goal.returns-then-end-word
returns-then-end-word c = scanned c.args.word.now c.in_ok-n.n c.in_ok-n.end c.in_ok-n.ensures.stands c.if-end-word.true

pub returns-else-end-word : goal.returns-else-end-word
returns-else-end-word c = scanned-less c.args.word.now c.scan_num.result c.in_ok-n.n c.in_ok-n.end c.scan_num.ensures.exact c.in_ok-n.was c.if-end-word.false
