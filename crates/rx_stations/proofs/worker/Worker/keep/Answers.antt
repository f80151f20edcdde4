use Rattle.std.proofs.Common.{sym, subst}
use Rattle.rx_book.specs.Passes.{note_view}
use Rattle.rx_objects.specs.Ledger.{LedgerIsLegal}
use Rattle.rx_stations.proofs.Stationing.{met_of_run}
use Rattle.rx_stations.proofs.worker.Worker.keep.Goals as goal

pub of-requires : goal.of-requires
of-requires g c =
    let kept = c.into_pass-kept in
    let other = subst (LedgerIsLegal g.N.Naming.ledger.fixed) (sym c.into_note.ensures.seen.seen) c.into_pass.ensures.run.lawful in
    met_of_run g.N.Naming.ledger kept.result c.meet.new.pass (note_view c.into_note.result) kept.ensures.run other c.meet.ensures.own c.meet.ensures.met
