-- How long legal histories can be.
use Rattle.std.specs.Prelude.{ℕ, ◌+◌, ◌*◌, ◌≤◌, List, length}
use Rattle.rx_rules.specs.Code.{Block, work}
use Rattle.rx_rules.specs.Run.{Given, Proper}
use Rattle.rx_check.specs.Checked.{Meets}
use Rattle.rx_parts.specs.Ledger.{LedgerItem, LegalLedger}
use Rattle.rx_parts.specs.Places.{MadeEvent, LegalPlace}
use Rattle.rx_parts_bounds.specs.Nesting.{nest}

-- under a proper setup a legal history of the ledger has at most so many entries, as a whole run has
abbrev pub LedgerBounded : Type 0
LedgerBounded = (code : Block) (U : Given) (h : List LedgerItem) → Proper U → LegalLedger code U h
    → length h ≤ 4 * work code + U.places + 2 * length U.joins + 1

-- a legal history of a place has at most so many events
abbrev pub EventsBounded : Type 0
EventsBounded = (code : Block) (U : Given) (p : ℕ) (k : List MadeEvent) → LegalPlace code U p k
    → length k ≤ (1 + nest code) * work code

-- where the script meets the checker's rules, at most 3,400,000
abbrev pub EventsAreFew : Type 0
EventsAreFew = (code : Block) (U : Given) (p : ℕ) (k : List MadeEvent) → Meets code → LegalPlace code U p k → length k ≤ 3400000
