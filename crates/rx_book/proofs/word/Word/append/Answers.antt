use Rattle.std.proofs.Common.{rules}
use Rattle.rx_book.proofs.Keeps.{grows}
use Rattle.rx_book.proofs.word.Word.append.Goals as goal

pub fetch_add-requires : goal.fetch_add-requires
fetch_add-requires g c = (search rules, search rules, grows g.I.Dies.place _ _ _ g.E.Added.added _ c.requires.mark.0 c.requires.mark.1 c.requires.room c.requires.small c.requires.by)
