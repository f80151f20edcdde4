-- The end of a run in parts: what the host asks for last, what its passes meet, and what the closed books give.
use Rattle.std.specs.Prelude.{◌≡◌, ℕ, suc, ◌<◌, ◌≤◌, false, List, [], ◌∷◌, ◌++◌, length, Option, Some, None, All, slice_get, slice_set}
use mathlib.Core.List.{IsPrefix}
use Rattle.rx_base.specs.declared.ids.PlaceId.{PlaceId}
use Rattle.rx_rules.specs.declared.entries.Entry.{Entry}
use Rattle.rx_rules.specs.declared.events.PlaceEvent.{PlaceEvent}
use Rattle.rx_rules.specs.declared.events.PlaceEvent.TheVariants.{Close}
use Rattle.rx_rules.specs.Code.{Block}
use Rattle.rx_rules.specs.Store.{IsStoreRun, opening_state}
use Rattle.rx_rules.specs.Run.{Proper, NoRoot, EndsWithRoot, IsRun, in_all, death_number}
use Rattle.rx_syntax.specs.Shape.{Stands}
use Rattle.rx_history.specs.Setups.{given}
use Rattle.rx_store.specs.Kept.{StoreView, last_stamp}
use Rattle.rx_book.specs.declared.views.Stamped.{Stamped}
use Rattle.rx_book.specs.declared.views.View.{View}
use Rattle.rx_book.specs.declared.passes.Pass.{Pass}
use Rattle.rx_book.specs.declared.passes.Note.{Note}
use Rattle.rx_book.specs.History.{items_of, entries_by}
use Rattle.rx_book.specs.Passes.{view_of, word_of, note_view}
use Rattle.rx_book.specs.Named.{BookName}
use Rattle.rx_book.specs.Calls.{Called, Met}
use Rattle.rx_ledger.specs.declared.asks.Reply.TheVariants.{RootDone}
use Rattle.rx_parts.specs.declared.items.EntryItem.{EntryItem}
use Rattle.rx_parts.specs.declared.items.EventItem.{EventItem}
use Rattle.rx_objects.specs.declared.ledger.LedgerFixed.{LedgerFixed}
use Rattle.rx_objects.specs.declared.ledger.LedgerOp.{LedgerOp}
use Rattle.rx_objects.specs.declared.ledger.LedgerReply.{LedgerReply}
use Rattle.rx_objects.specs.Mentioned.{entries_in}
use Rattle.rx_objects.specs.Asking.{host_number}
use Rattle.rx_objects.specs.Noted.{Notes, AllNoted, AreOfPlaces}
use Rattle.rx_objects.specs.Ledger.{LedgerIsLegal, LedgerDoes, is_root_done}
use Rattle.rx_objects.specs.Place.{shown, PlaceIsLegal, PlaceKeeps}

-- The entries of a history.
abbrev pub entries_at : List (Stamped EntryItem) → List Entry
entries_at h = entries_in (items_of h)

-- The root's release.

-- what the host knows by its pass: the pass has the host's number, and among its own entries is no release of the root
pub record HostKnows (v : View EntryItem) : Type 0 where
  pub number : v.number ≡ host_number
  pub own : v.mine ≡ entries_by v.number v.seen
  pub unreleased : NoRoot (entries_at v.mine)

-- the history that is seen ends with the root's release, and the notes have all events that its entries name
pub record RootIsTold (f : LedgerFixed) (notes : Notes) (seen : List (Stamped EntryItem)) : Type 0 where
  pub ends : EndsWithRoot (entries_at seen)
  pub noted : AllNoted notes (items_of seen)
  pub places_are : AreOfPlaces f.places notes

-- So it is where the host is told that the root is released. Another answer leaves the host as it was.
abbrev pub HostIsTold : Type 0
HostIsTold = (f : LedgerFixed) (place : EntryItem → Option ℕ) (v w : View EntryItem) (op : LedgerOp) (r : LedgerReply) → HostKnows v
    → Called place (LedgerDoes f) (LedgerIsLegal f) v op r w
    → (r.reply ≡ RootDone → RootIsTold f r.notes.items w.seen) × (is_root_done r.reply ≡ false → HostKnows w)

-- the host's pass is of the run's ledger and has seen its whole history, which ends with the root's release
pub record SeesEnd (L : BookName LedgerFixed) (pass : Pass EntryItem) : Type 0 where
  pub word : word_of pass ≡ L.word
  pub lawful : LedgerIsLegal L.fixed (view_of pass).seen
  pub ends : EndsWithRoot (entries_at (view_of pass).seen)

-- The places' books.

-- the host's pass of the note's place has seen what the note has seen
abbrev pub IsMet : List (View EventItem) → PlaceId × Note EventItem → Type 0
IsMet views n = (v : View EventItem) × (slice_get views n.0.0 ≡ Some v) × IsPrefix (note_view n.1).seen v.seen

-- a note is met by a meeting, and stays so
abbrev pub MeetingShows : Type 0
MeetingShows = (place : EventItem → Option ℕ) (views : List (View EventItem)) (p : PlaceId) (v w : View EventItem)
    (n : Note EventItem) → slice_get views p.0 ≡ Some v → Met place v (note_view n) w
    → IsMet (slice_set views p.0 w) (p, n)
    × ((other : PlaceId × Note EventItem) → IsMet views other → IsMet (slice_set views p.0 w) other)

-- The notes that the places kept.

-- a pass of the ledger's book has met a note with the view m: it has then seen all of h, and knows of at most n entries
pub record IsHeard (h : List (Stamped EntryItem)) (n : ℕ) (m : View EntryItem) : Type 0 where
  pub before : View EntryItem
  pub after : View EntryItem
  pub met : Met shown before m after
  pub whole : after.seen ≡ h
  pub within : after.reach ≤ n

-- a pass that has seen the root's release has seen no more once it has met a note
abbrev pub MeetingHears : Type 0
MeetingHears = (code : Block) (f : LedgerFixed) (v m w : View EntryItem) → Stands f.program.script code
    → EndsWithRoot (entries_at v.seen) → LedgerIsLegal f v.seen → LedgerIsLegal f m.seen → Met shown v m w
    → (w.seen ≡ v.seen) × (v.reach ≤ w.reach) × IsHeard v.seen w.reach m

-- place p at its end: the history of its closed book, which begins with what the host's pass had seen; and its store and the note
-- that it kept, which the host's pass of the ledger's book has met
pub record PlaceEnds (ledger : BookName LedgerFixed) (h : List (Stamped EntryItem)) (n : ℕ) (views : List (View EventItem)) (p : ℕ)
    (s : StoreView) (k : List (Stamped EventItem)) : Type 0 where
  pub lawful : PlaceIsLegal (record { place = record { 0 = p }; words = ledger.fixed.setup.heap; ledger = ledger }) k
  pub view : View EventItem
  pub pass : slice_get views p ≡ Some view
  pub begins : IsPrefix view.seen k
  pub note : Note EntryItem
  pub kept : PlaceKeeps (record { 0 = p }) s ledger (Some note) (items_of k)
  pub heard : IsHeard h n (note_view note)

-- the same of places p, p + 1, ..
abbrev pub EachEnds : BookName LedgerFixed → List (Stamped EntryItem) → ℕ → List (View EventItem) → ℕ → List StoreView
    → List (List (Stamped EventItem)) → Type 0
EachEnds ledger h n views p [] [] = Unit {0}
EachEnds ledger h n views p (s ∷ ss) (k ∷ ks) = PlaceEnds ledger h n views p s k × EachEnds ledger h n views (suc p) ss ks
EachEnds ledger h n views p [] (k ∷ ks) = ⊥
EachEnds ledger h n views p (s ∷ ss) [] = ⊥

-- places that have ended stay so where the host's pass knows of more entries, and one more may end
abbrev pub PlacesEnd : Type 0
PlacesEnd = (ledger : BookName LedgerFixed) (h : List (Stamped EntryItem)) (n m : ℕ) (views : List (View EventItem)) (ss : List StoreView)
    (ks : List (List (Stamped EventItem))) → EachEnds ledger h n views 0 ss ks → n ≤ m
    → EachEnds ledger h m views 0 ss ks
    × ((s : StoreView) (k : List (Stamped EventItem)) → PlaceEnds ledger h m views (length ss) s k
    → EachEnds ledger h m views 0 (ss ++ s ∷ []) (ks ++ k ∷ []))

-- no stamp of a place that has ended is above the number of its death, where its pass knows of no more entries than there are
abbrev pub StampsBeforeDeath : Type 0
StampsBeforeDeath = (code : Block) (ledger : BookName LedgerFixed) (h : List (Stamped EntryItem)) (n : ℕ)
    (views : List (View EventItem)) (p : PlaceId) (s : StoreView) (k : List (Stamped EventItem)) (d : ℕ)
    → Stands ledger.fixed.program.script code → p.0 < 16 → n ≤ length h → PlaceEnds ledger h n views p.0 s k
    → death_number 0 p (entries_at h) ≡ Some d → last_stamp s.events ≤ d

-- The whole.

-- the journal of a place that lives is that of its store; that of a place that died has its close behind
abbrev pub IsShut : Option ℕ → List PlaceEvent → List PlaceEvent → Type 0
IsShut None events j = j ≡ events
IsShut (Some d) events j = j ≡ events ++ Close d ∷ []

-- so are the journals of places p, p + 1, ..; and each is a run of a store with so many words
abbrev pub EachShut : List Entry → ℕ → ℕ → List StoreView → List (List PlaceEvent) → Type 0
EachShut es heap p [] [] = Unit {0}
EachShut es heap p (s ∷ ss) (j ∷ js) =
    IsShut (death_number 0 (record { 0 = p }) es) s.events j × IsStoreRun heap opening_state j × EachShut es heap (suc p) ss js
EachShut es heap p [] (j ∷ js) = ⊥
EachShut es heap p (s ∷ ss) [] = ⊥

-- the ledger's closed book has the history h, which ends with the root's release, and the notes that came with it have been met;
-- the book of each place is closed, and its store where the place has died
pub record IsEnded (ledger : BookName LedgerFixed) (h : List (Stamped EntryItem)) (js : List (List PlaceEvent)) : Type 0 where
  pub proper : Proper (given ledger.fixed.setup)
  pub lawful : LedgerIsLegal ledger.fixed h
  pub ends : EndsWithRoot (entries_at h)
  pub notes : Notes
  pub noted : AllNoted notes (items_of h)
  pub views : List (View EventItem)
  pub met : All (IsMet views) notes
  pub reach : ℕ
  pub long : reach ≤ length h
  pub stores : List StoreView
  pub histories : List (List (Stamped EventItem))
  pub places_end : EachEnds ledger h reach views 0 stores histories
  pub one_each : length histories ≡ in_all (given ledger.fixed.setup)
  pub passes : length views ≡ length histories
  pub shut : EachShut (entries_at h) ledger.fixed.setup.heap 0 stores js

-- such books are those of a whole run
abbrev pub BooksMakeRun : Type 0
BooksMakeRun = (code : Block) (ledger : BookName LedgerFixed) (h : List (Stamped EntryItem)) (js : List (List PlaceEvent))
    → Stands ledger.fixed.program.script code → IsEnded ledger h js → IsRun code (given ledger.fixed.setup) (entries_at h) js
