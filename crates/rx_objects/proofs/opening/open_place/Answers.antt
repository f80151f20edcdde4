use Rattle.std.proofs.Common.{◌∙◌}
use Rattle.rx_book.specs.Passes.{note_view}
use Rattle.rx_objects.proofs.Ending.{unseen_legal}
use Rattle.rx_objects.proofs.opening.open_place.Goals as goal

pub open-object-requires-clause-lawful : goal.open-object-requires-clause-lawful
open-object-requires-clause-lawful g c =
    unseen_legal (g.L.LedgerBook.name c.args.ledger.now).fixed (note_view c.in-Ok-note.note).seen c.requires.proper (c.in-Ok-note.ensures.seen.seen ∙ c.requires.unseen.0)
