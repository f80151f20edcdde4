-- What begins a legal history of a book is legal.
use Rattle.std.proofs.Common.{ℕ, List, [], ◌∷◌, ◌++◌}
use Rattle.rx_rules.specs.declared.events.PlaceEvent.{PlaceEvent}
use Rattle.rx_rules.proofs.Common.{Block, Given}
use Rattle.rx_parts.specs.Ledger.{LedgerItem}
use Rattle.rx_parts.specs.Places.{MadeEvent, event_of, LegalFrom, LegalPlace}

from_begins : (code : Block) (U : Given) (p : ℕ) (before : List PlaceEvent) (low : ℕ) (seen : List LedgerItem) (k more : List MadeEvent) → LegalFrom code U p before low seen (k ++ more) → LegalFrom code U p before low seen k
from_begins code U p before low seen [] more h = tt
from_begins code U p before low seen (m ∷ k) more h = (h.0, h.1, h.2, from_begins code U p (before ++ event_of m ∷ []) m.stamp m.carried k more h.3)

-- a legal history of a place begins with legal ones
pub place_begins : (code : Block) (U : Given) (p : ℕ) (k more : List MadeEvent) → LegalPlace code U p (k ++ more) → LegalPlace code U p k
place_begins code U p k more h = from_begins code U p [] 0 [] k more h
