-- Reading line by line: what has been read, and which lines may come next.
use Rattle.std.specs.Prelude.{ℕ, ◌+◌, ◌-◌, ◌^◌, Bool, true, false, ◌&&◌, ◌||◌, not, ◌==◌, nat_le, nat_lt, List, [], ◌∷◌, ◌++◌}
use Rattle.std.specs.Prelude.{length, slice_get, Option, Some, None, option_map, if◌then◌else◌, codes}
use Rattle.std.specs.Str.{bytes_eq}
use Rattle.rx_base.specs.declared.ids.Kill.{Kill}
use Rattle.rx_rules.specs.declared.entries.Entry.{Entry}
use Rattle.rx_rules.specs.declared.events.PlaceEvent.{PlaceEvent}
use Rattle.rx_rules.specs.Run.{Given, in_all}
use Rattle.rx_text.specs.Numbers.{natural_text}
use Rattle.rx_fields.specs.Words.{pieces}
use Rattle.rx_fields.specs.Inside.Readers.{Reader, followed, done, keyed, all_read}
use Rattle.rx_history.specs.KillOrder.{is_before}
use Rattle.rx_fields.specs.Inside.FieldWords.{next, number_below, kill_of, count_at}
use Rattle.rx_trace.specs.Inside.EntryWords.{entry_at}
use Rattle.rx_trace.specs.Inside.EventWords.{event_at}

-- what has been read
pub data ReadingState : Type 0 where
  -- nothing
  Untitled : ReadingState
  -- the title
  Titled : ReadingState
  -- the numbers of places and of words of a heap
  Sized : ℕ → ℕ → ReadingState
  -- these numbers and the kills
  Listed : ℕ → ℕ → List Kill → ReadingState
  -- the setup
  Planned : Given → ReadingState
  -- the setup, and these entries
  Entering : Given → List Entry → ReadingState
  -- the setup, the entries, the journals before, and the events so far of one more
  Logging : Given → List Entry → List (List PlaceEvent) → List PlaceEvent → ReadingState
  -- everything
  Over : Given → List Entry → List (List PlaceEvent) → ReadingState

-- the line of the places and their heaps
abbrev pub sizes_at : Reader (ℕ × ℕ)
sizes_at = keyed (codes "places") (followed (count_at 16)
    (λ places. keyed (codes "heap") (followed (count_at 4096) (λ heap. done (places, heap)))))

-- whether a kill comes after those of a list and names none of their places
abbrev pub may_follow : List Kill → Kill → Bool
may_follow [] kill = true
may_follow (k ∷ ks) kill = is_before k kill && not (k.place.0 == kill.place.0) && may_follow ks kill

abbrev pub planned : Option Kill → List Kill → (List Kill → Option (List Kill)) → Option (List Kill)
planned None kills more = None
planned (Some kill) kills more = if not (kill.place.0 == 0) && may_follow kills kill then more (kills ++ kill ∷ []) else None

-- kills that follow those of a list
abbrev pub kills_of : List Kill → List (List ℕ) → Option (List Kill)
kills_of kills [] = Some kills
kills_of kills (w ∷ ws) = planned (kill_of w) kills (λ ks. kills_of ks ws)

-- the line of the kills
abbrev pub kills_line_of : List (List ℕ) → Option (List Kill)
kills_line_of [] = None
kills_line_of (w ∷ ws) = if bytes_eq w (codes "kills") then kills_of [] ws else None

-- moments, none below `low` or the one before it
abbrev pub joins_of : ℕ → List (List ℕ) → Option (List ℕ)
joins_of low [] = Some []
joins_of low (w ∷ ws) =
    next (number_below 1000001 w) (λ e. if nat_le low e then option_map (λ es. e ∷ es) (joins_of e ws) else None)

-- whether the place that joins at a moment has joined
abbrev pub has_joined : Option ℕ → ℕ → Bool
has_joined None moment = false
has_joined (Some e) moment = nat_le e moment

-- whether the place of a kill is there at its moment: it was there at the opening, or has joined
abbrev pub is_there : ℕ → List ℕ → Kill → Bool
is_there places joins k = nat_lt k.place.0 places || has_joined (slice_get joins (k.place.0 - places)) k.moment

-- whether this holds of all kills
abbrev pub all_there : ℕ → List ℕ → List Kill → Bool
all_there places joins [] = true
all_there places joins (k ∷ ks) = is_there places joins k && all_there places joins ks

-- the line of the joins, where so many places and these kills were told before
abbrev pub joins_line_of : ℕ → List Kill → List (List ℕ) → Option (List ℕ)
joins_line_of places kills [] = None
joins_line_of places kills (w ∷ ws) =
    if bytes_eq w (codes "joins")
    then next (joins_of 0 ws) (λ es. if nat_le (places + length es) 16 && all_there places es kills then Some es else None)
    else None

-- the line of an entry
abbrev pub entry_of : ℕ → ℕ → List ℕ → Option Entry
entry_of places n line = if nat_lt n (2 ^ 32) then all_read (keyed (natural_text n) (entry_at places) (pieces 32 line)) else None

-- the line of an event
abbrev pub event_line_of : ℕ → ℕ → List ℕ → Option PlaceEvent
event_line_of home n line = all_read (keyed (natural_text n) (event_at home) (pieces 32 line))

-- whether the line begins the journal of a place
abbrev pub begins_journal : ℕ → List ℕ → Bool
begins_journal p line = bytes_eq line (codes "journal " ++ natural_text p)

-- whether the line has to be an entry or an event, after which the state is of the same kind
abbrev pub told_there : ReadingState → List ℕ → Bool
told_there (Entering setup entries) line = not (begins_journal 0 line)
told_there (Logging setup entries journals events) line =
    not (begins_journal (length journals + 1) line && nat_lt (length journals + 1) (in_all setup))
    && not (bytes_eq line (codes "done") && length journals + 1 == in_all setup)
told_there _ line = false

abbrev pub state_with_sizes : Option (ℕ × ℕ) → Option ReadingState
state_with_sizes None = None
state_with_sizes (Some x) = Some (Sized x.0 x.1)

-- what has been read after one line more, or None where the line may not come next
abbrev pub read_line : ReadingState → List ℕ → Option ReadingState
read_line Untitled line = if bytes_eq line (codes "rx10 trace 2") then Some Titled else None
read_line Titled line = state_with_sizes (all_read (sizes_at (pieces 32 line)))
read_line (Sized places heap) line =
    option_map (λ kills. Listed places heap kills) (kills_line_of (pieces 32 line))
read_line (Listed places heap kills) line =
    option_map (λ joins. Planned (record { places = places; heap = heap; kills = kills; joins = joins }))
    (joins_line_of places kills (pieces 32 line))
read_line (Planned setup) line = if bytes_eq line (codes "history") then Some (Entering setup []) else None
read_line (Entering setup entries) line =
    if begins_journal 0 line then Some (Logging setup entries [] [])
    else option_map (λ e. Entering setup (entries ++ e ∷ [])) (entry_of (in_all setup) (length entries) line)
read_line (Logging setup entries journals events) line =
    if begins_journal (length journals + 1) line && nat_lt (length journals + 1) (in_all setup)
    then Some (Logging setup entries (journals ++ events ∷ []) [])
    else (if bytes_eq line (codes "done") && length journals + 1 == in_all setup
    then Some (Over setup entries (journals ++ events ∷ []))
    else option_map (λ e. Logging setup entries journals (events ++ e ∷ [])) (event_line_of (length journals) (length events) line))
read_line (Over setup entries journals) line = None
