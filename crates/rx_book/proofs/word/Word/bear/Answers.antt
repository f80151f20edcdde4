use Rattle.std.proofs.Common.{rules}
use Rattle.rx_book.proofs.Keeps.{bears}
use Rattle.rx_book.proofs.word.Word.bear.Goals as goal

pub split_seat-child-requires : goal.split_seat-child-requires
split_seat-child-requires g c = (search rules, search rules, bears g.I.Dies.place _ _ c.requires.1)
