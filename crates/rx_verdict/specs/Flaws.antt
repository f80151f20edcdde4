-- The first event that is not sound.
use Rattle.std.specs.Prelude.{◌≡◌, ℕ, suc, ◌<◌, Bool, true, false, List, length, take, Option, Some, None, slice_get, slice_index_or}
use Rattle.rx_rules.specs.declared.entries.Entry.{Entry}
use Rattle.rx_rules.specs.declared.events.PlaceEvent.{PlaceEvent}
use Rattle.rx_rules.specs.declared.events.PlaceEvent.TheVariants.{Done, Close}
use Rattle.rx_rules.specs.Plays.{journal_at}
use Rattle.rx_rules.specs.Store.{IsStoreRun, opening_state}
use Rattle.rx_rules.specs.Run.{NotFalling, death_number}
use Rattle.rx_verdict.specs.Verdicts.{Precedes}
use Rattle.rx_verdict.specs.declared.flaws.EventAt.{EventAt}
use Rattle.rx_verdict.specs.Lawful.{CellAsksSome}
use Rattle.rx_verdict.specs.Marked.{row_at}

-- the event is marked, and asks for no block of no words; or it is a close with the number of the death
abbrev pub CauseBy : Option ℕ → Bool → PlaceEvent → Type 0
CauseBy death mark (Done task stamp cell path) = (mark ≡ true) × CellAsksSome cell
CauseBy death mark (Close stamp) = death ≡ Some stamp

-- event number e of a journal is so, with these marks
abbrev pub CauseAt : Option ℕ → List Bool → ℕ → Option PlaceEvent → Type 0
CauseAt death row e None = ⊥
CauseAt death row e (Some event) = CauseBy death (slice_index_or row e false) event

-- Event number e of the journal is sound: the journal up to it is the beginning of a run of a store of w words, its stamps do not
-- fall, and the event is marked or the close at the death.
pub record IsSoundIn (w : ℕ) (death : Option ℕ) (j : List PlaceEvent) (row : List Bool) (e : ℕ) : Type 0 where
  pub law : IsStoreRun w opening_state (take (suc e) j)
  pub rising : NotFalling 0 (take (suc e) j)
  pub cause : CauseAt death row e (slice_get j e)

-- none where all events of the journal are sound, or else the number of the first that is not
abbrev pub IsFirstIn : ℕ → Option ℕ → List PlaceEvent → List Bool → Option ℕ → Type 0
IsFirstIn w death j row None = (e : ℕ) → e < length j → IsSoundIn w death j row e
IsFirstIn w death j row (Some n) =
    (n < length j) × ((e : ℕ) → e < n → IsSoundIn w death j row e) × (IsSoundIn w death j row n → ⊥)

-- event e of place p is sound
abbrev pub IsSound : ℕ → List Entry → List (List PlaceEvent) → List (List Bool) → ℕ → ℕ → Type 0
IsSound w es js ms p e = IsSoundIn w (death_number 0 (record { 0 = p }) es) (journal_at js p) (row_at ms p) e

-- none where all events are sound, or else the first that is not, by place and then by position
abbrev pub IsFirstFlaw : ℕ → List Entry → List (List PlaceEvent) → List (List Bool) → Option EventAt → Type 0
IsFirstFlaw w es js ms None = (p e : ℕ) → e < length (journal_at js p) → IsSound w es js ms p e
IsFirstFlaw w es js ms (Some at) =
    (at.number < length (journal_at js at.place.0))
    × ((q f : ℕ) → f < length (journal_at js q) → Precedes q f at.place.0 at.number → IsSound w es js ms q f)
    × (IsSound w es js ms at.place.0 at.number → ⊥)
