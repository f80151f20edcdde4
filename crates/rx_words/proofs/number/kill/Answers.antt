use Rattle.rx_kills.proofs.Spelling.{spelling-told}
use Rattle.rx_words.proofs.number.kill.Goals as goal

pub returns : goal.returns
returns c = spelling-told c.read_kill.result c.args.word.now c.read_kill.ensures.spelled c.read_kill.ensures.exact
