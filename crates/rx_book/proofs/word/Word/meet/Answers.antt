use Rattle.std.proofs.Common.{rules}
use Rattle.rx_book.proofs.Keeps.{meets}
use Rattle.rx_book.proofs.word.Word.meet.Goals as goal

pub join_seat-requires : goal.join_seat-requires
join_seat-requires g c = (search rules, search rules, search rules, search rules, meets g.I.Dies.place _ _ _ _)
