use Rattle.std.proofs.Common.{◌≡◌, length}
use Rattle.rx_live.specs.Inside.Ending.{SeatsFrom, views_of}
use Rattle.rx_live.proofs.Noted.{AreMet}
use Rattle.rx_live.proofs.ending.meet_notes.Given as goal

abbrev pub invariant-note : goal.invariant-note
invariant-note g l =
    SeatsFrom g.N.Naming.ledger 0 l.seats.items
    × (length l.seats.items ≡ length l.fn.seats.items)
    × AreMet l.fn.notes.items l.notes.items (views_of l.seats.items)

abbrev pub decreases-note : goal.decreases-note
decreases-note g l = length l.notes.items
