use Rattle.std.proofs.Common.{rules}
use Rattle.rx_book.proofs.Keeps.{tells}
use Rattle.rx_book.proofs.word.Word.tell.Goals as goal

pub load-requires : goal.load-requires
load-requires g c = (search rules, search rules, tells g.I.Dies.place _ _ _)
