use Rattle.std.proofs.Common.{drop, length}
use Rattle.rx_book.proofs.books.record_new.Given as goal

abbrev pub ghosts-grow : goal.ghosts-grow
ghosts-grow g a = record { added = drop (length (g.O.Object.entries a._before.now.value)) (g.O.Object.entries a._object.now) }
