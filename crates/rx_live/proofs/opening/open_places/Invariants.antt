use Rattle.std.proofs.Common.{◌≡◌, length}
use Rattle.rx_book.specs.Passes.{view_of, word_of}
use Rattle.rx_live.proofs.Opened.{OpenFrom}
use Rattle.rx_live.proofs.opening.open_places.Given as goal

abbrev pub invariant-place : goal.invariant-place
invariant-place g l =
    OpenFrom g.N.Naming.ledger l.fn.words.items l.words.items l.places.stations.items l.places.seats.items l.places.first × (word_of l.host ≡ word_of l.fn.host) × (view_of l.host ≡ view_of l.fn.host)

abbrev pub decreases-place : goal.decreases-place
decreases-place g l = length l.words.items
