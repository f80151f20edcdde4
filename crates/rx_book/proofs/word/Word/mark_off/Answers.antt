use Rattle.std.proofs.Common.{rules}
use Rattle.rx_book.proofs.Keeps.{marks_off}
use Rattle.rx_book.proofs.word.Word.mark_off.Goals as goal

pub split_seat-requires : goal.split_seat-requires
split_seat-requires g c = (search rules, search rules, marks_off g.I.Dies.place _ _ c.requires.1)
