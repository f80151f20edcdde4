use Rattle.std.proofs.Common.{rules}
use Rattle.rx_book.proofs.Keeps.{notes}
use Rattle.rx_book.proofs.word.Word.note.Goals as goal

pub split_seat-requires : goal.split_seat-requires
split_seat-requires g c = (search rules, search rules, notes g.I.Dies.place _ _)
