use Rattle.rx_live.proofs.Heard.{note_of_run}
use Rattle.rx_live.proofs.ending.meet_worker.Goals as goal

pub hear-requires-clause-note : goal.hear-requires-clause-note
hear-requires-clause-note g c = note_of_run g.N.Naming.ledger c.into_pass.result c.into_note.result c.into_pass.ensures.run c.into_note.ensures.own c.into_note.ensures.seen
