use Rattle.std.proofs.Common.{◌∙◌}
use Rattle.rx_book.specs.Passes.{note_view}
use Rattle.rx_objects.proofs.Scene.{opened}
use Rattle.tests_of_runs.proofs.objects_worked.open_place.Goals as goal

pub open-object-requires-clause-lawful : goal.open-object-requires-clause-lawful
open-object-requires-clause-lawful c =
    opened c.args.ledger.now.fixed (note_view c.in_ok-note.note).seen c.requires.places.0 c.requires.places.1
    (c.in_ok-note.ensures.seen.seen ∙ (c.peek_deaths.ensures.later.same.0 ∙ c.requires.fresh))
