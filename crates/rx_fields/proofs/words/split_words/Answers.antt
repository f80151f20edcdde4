use Rattle.std.proofs.Common.{sym}
use Rattle.rx_fields.proofs.Taken.{word-first}
use Rattle.rx_fields.proofs.words.split_words.Goals as goal

pub returns : goal.returns
returns c = sym (word-first c.run_len-len.result c.args.line.now c.run_len-len.ensures.run)
