-- Good events, one after the other: where all events before it are good, an event is judged by its own stamp alone.
use Rattle.std.specs.Prelude.{ℕ, suc, ◌<◌, List, length, take}
use Rattle.rx_rules.specs.declared.entries.Entry.{Entry}
use Rattle.rx_rules.specs.declared.events.PlaceEvent.{PlaceEvent}
use Rattle.rx_rules.specs.Code.{Block}
use Rattle.rx_rules.specs.Plays.{journal_at}
use Rattle.rx_rules.specs.Run.{Given, NotFalling}
use Rattle.rx_rules.specs.Store.{IsStoreRun, opening_state}
use Rattle.rx_verdict.specs.Makes.{Between}
use Rattle.rx_verdict.specs.Verdicts.{HasCause, IsGood, Precedes, GoodBefore, AllGood}

-- up to event e the journal is the beginning of a run of the store and its stamps do not fall; a term makes the event with its
-- stamp between the entries, or it is a close at the place's death
pub record IsNextGood (code : Block) (U : Given) (es : List Entry) (js : List (List PlaceEvent)) (p e : ℕ) : Type 0 where
  pub law : IsStoreRun U.heap opening_state (take (suc e) (journal_at js p))
  pub rising : NotFalling 0 (take (suc e) (journal_at js p))
  pub cause : HasCause Between code U es js p e

-- an event is good only where that holds, and wherever it holds after good events
abbrev pub GoodGoesOn : Type 0
GoodGoesOn =
    (code : Block) (U : Given) (es : List Entry) (js : List (List PlaceEvent)) (p e : ℕ)
    → (((f : ℕ) → f < e → IsGood code U es js p f) → IsNextGood code U es js p e → IsGood code U es js p e)
    × (IsGood code U es js p e → IsNextGood code U es js p e)

-- so all events are good before the first for which it fails, and all where it holds of all
abbrev pub GoodTogether : Type 0
GoodTogether =
    (code : Block) (U : Given) (es : List Entry) (js : List (List PlaceEvent))
    → ((p e : ℕ) → ((q f : ℕ) → f < length (journal_at js q) → Precedes q f p e → IsNextGood code U es js q f)
    → GoodBefore code U es js p e)
    × (((p e : ℕ) → e < length (journal_at js p) → IsNextGood code U es js p e) → AllGood code U es js)
