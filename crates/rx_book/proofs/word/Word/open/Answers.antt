use Rattle.rx_book.proofs.Keeps.{opens}
use Rattle.rx_book.proofs.word.Word.open.Goals as goal

pub of_words-requires : goal.of_words-requires
of_words-requires g c = opens g.I.Dies.place
