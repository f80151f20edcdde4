-- The end of a run in parts.
use Rattle.std.proofs.Common.{◌≡◌, ℕ, zero, suc, ◌+◌, ◌<◌, ◌≤◌, List, [], ◌∷◌, ◌++◌, map, length, Option, Some, None, All, slice_get, slice_set, refl, ap, sym, ◌∙◌, subst, arith, inl, inr}
use Rattle.std.proofs.lemmas.List.{append-nil, map-append, length-map}
use Rattle.std.proofs.lemmas.List.Elements.{All-weaker}
use Rattle.std.proofs.lemmas.Option.{slice_get_within}
use Rattle.std.proofs.lemmas.Bool.Decides.{eqb_tells}
use mathlib.Core.List.{IsPrefix}
use Rattle.rx_rules.proofs.Common.{PlaceId, Block, Given, Proper, EndsWithRoot, IsRun, death_number}
use Rattle.rx_rules.specs.declared.entries.Entry.{Entry}
use Rattle.rx_rules.specs.declared.events.PlaceEvent.{PlaceEvent}
use Rattle.rx_rules.specs.declared.events.PlaceEvent.TheVariants.{Close}
use Rattle.rx_syntax.specs.Shape.{Stands}
use Rattle.rx_history.specs.Setups.{given}
use Rattle.rx_store.specs.Kept.{StoreView, last_stamp}
use Rattle.rx_book.specs.declared.views.Stamped.{Stamped}
use Rattle.rx_book.specs.declared.views.View.{View}
use Rattle.rx_book.specs.declared.passes.Note.{Note}
use Rattle.rx_book.specs.History.{items_of}
use Rattle.rx_book.specs.Passes.{note_view}
use Rattle.rx_book.specs.Named.{BookName}
use Rattle.rx_base.proofs.Prefixes.{prefix-trans}
use Rattle.rx_parts.specs.Ledger.{LedgerItem, LegalLedger, entries_of}
use Rattle.rx_parts.specs.Places.{MadeEvent, journal_of, seen_by}
use Rattle.rx_parts.specs.Parts.{EachPlace, AreParts}
use Rattle.rx_parts.specs.Closing.{StampedTo, ClosedBy, EachClosed}
use Rattle.rx_parts.specs.Calling.{top_stamp}
use Rattle.rx_parts.proofs.Lists.{got_set, got_map, one_item}
use Rattle.rx_parts.proofs.Growing.{ledger-opens, top-stamp}
use Rattle.rx_parts.proofs.Reading.{root-ends}
use Rattle.rx_parts.proofs.Closing.{parts-run}
use Rattle.rx_parts.specs.declared.items.EntryItem.{EntryItem}
use Rattle.rx_parts.specs.declared.items.EventItem.{EventItem}
use Rattle.rx_parts.specs.Histories.{ledger_item, ledger_items, made_events}
use Rattle.rx_parts.proofs.Closes.{closes-fit, prefixes-stay}
use Rattle.rx_objects.specs.declared.ledger.LedgerFixed.{LedgerFixed}
use Rattle.rx_objects.specs.Noted.{Notes}
use Rattle.rx_objects.specs.Ledger.{LedgerIsLegal}
use Rattle.rx_objects.specs.Place.{last_carried, NoteKeeps}
use Rattle.rx_objects.specs.Laws.{ObjectsOpen, HasBeginning, NotesBegin}
use Rattle.rx_objects.specs.Ending.{IsMet, MeetingShows, MeetingHears, PlaceEnds, EachEnds, PlacesEnd, StampsBeforeDeath, IsShut, EachShut, BooksMakeRun}
use Rattle.rx_objects.proofs.Staying.{entries_same}
use Rattle.rx_objects.proofs.Places.{journal_same, carried_same, prefix_items, top_same, met_one}
use Rattle.rx_objects.proofs.Named.{noted_are_named}
use Rattle.rx_runs.proofs.Fitting.{set_other}

-- Histories without entries.

pub objects_open : ObjectsOpen
objects_open =
    ((λ f some few. record { made = λ code stands. ledger-opens code (given f.setup) some few; host = tt }), (λ f code stands. tt))

-- a setup has 1 to 16 places at first
few_places : (f : LedgerFixed) → Proper (given f.setup) → f.setup.places ≤ 16
few_places f proper = let few : f.setup.places + length f.setup.joins ≤ 16 = proper.few in omega (arith, few)

-- a history of which nothing is seen is legal
pub unseen_legal : (f : LedgerFixed) (seen : List (Stamped EntryItem)) → Proper (given f.setup) → seen ≡ [] → LedgerIsLegal f seen
unseen_legal f seen proper none = subst (LedgerIsLegal f) (sym none) (objects_open.0 f proper.some (few_places f proper))

-- Notes of places.

pub meeting_shows : MeetingShows
meeting_shows place views p v w n got met = ((w, got_set views p.0 v w got, met.theirs), others)
  where
    others : (m : PlaceId × Note EventItem) → IsMet views m → IsMet (slice_set views p.0 w) m
    others m (u, there, front) =
        elim (eqb_tells p.0 m.0.0) [
          | inl e ↦
              let one : u ≡ v = one_item (slice_get views m.0.0) u v there (subst (λ (k : ℕ). slice_get views k ≡ Some v) e.1 got) in (
                w,
                subst (λ (k : ℕ). slice_get (slice_set views p.0 w) k ≡ Some w) e.1 (got_set views p.0 v w got),
                prefix-trans (note_view m.1).seen v.seen w.seen (subst (λ (x : View EventItem). IsPrefix (note_view m.1).seen x.seen) one front) met.ours,
              )
          | inr o ↦ (u, set_other views p.0 m.0.0 w o.1 ∙ there, front)
        ]

-- Notes that places kept.

pub no_items : (h : List (Stamped EntryItem)) → ledger_items h ≡ [] → h ≡ []
no_items [] e = refl
no_items (x ∷ h) e = absurd (let f : ⊥ = cc e in f)

pub meeting_hears : MeetingHears
meeting_hears code f v m w stands ends ours theirs met = (
  all,
  (let e = met.greater in omega (arith, e)),
  record { before = v; after = w; met = met; whole = all; within = omega arith },
)
  where
    parts : ledger_items w.seen ≡ ledger_items v.seen ++ ledger_items met.ours.0
    parts = ap ledger_items (sym met.ours.1) ∙ map-append ledger_item v.seen met.ours.0

    legal : LegalLedger code (given f.setup) (ledger_items v.seen ++ ledger_items met.ours.0)
    legal = subst (LegalLedger code (given f.setup)) parts ((met_one (LedgerIsLegal f) v m w met ours theirs).made code stands)

    nothing : met.ours.0 ≡ []
    nothing = no_items met.ours.0 (root-ends code (given f.setup) (ledger_items v.seen) (ledger_items met.ours.0) legal (subst EndsWithRoot (sym (entries_same v.seen)) ends))

    all : w.seen ≡ v.seen
    all = sym met.ours.1 ∙ (ap (λ (l : List (Stamped EntryItem)). v.seen ++ l) nothing ∙ append-nil v.seen)

-- Places that have ended.

later : (ledger : BookName LedgerFixed) (h : List (Stamped EntryItem)) (n m : ℕ) (views : List (View EventItem)) (p : ℕ) (s : StoreView) (k : List (Stamped EventItem)) → n ≤ m
    → PlaceEnds ledger h n views p s k → PlaceEnds ledger h m views p s k
later ledger h n m views p s k le e =
    record {
      lawful = e.lawful;
      view = e.view;
      pass = e.pass;
      begins = e.begins;
      note = e.note;
      kept = e.kept;
      heard = record { before = e.heard.before; after = e.heard.after; met = e.heard.met; whole = e.heard.whole; within = (let w = e.heard.within in omega (arith, w, le)) };
    }

-- where more is heard, they have ended all the same
pub all_later : (ledger : BookName LedgerFixed) (h : List (Stamped EntryItem)) (n m : ℕ) (views : List (View EventItem)) → n ≤ m → (p : ℕ) (ss : List StoreView) (ks : List (List (Stamped EventItem)))
    → EachEnds ledger h n views p ss ks → EachEnds ledger h m views p ss ks
all_later ledger h n m views le p [] [] e = tt
all_later ledger h n m views le p (s ∷ ss) (k ∷ ks) e = (later ledger h n m views p s k le e.0, all_later ledger h n m views le (suc p) ss ks e.1)
all_later ledger h n m views le p [] (k ∷ ks) e = absurd e
all_later ledger h n m views le p (s ∷ ss) [] e = absurd e

one_more : (ledger : BookName LedgerFixed) (h : List (Stamped EntryItem)) (n : ℕ) (views : List (View EventItem)) (s : StoreView) (k : List (Stamped EventItem)) (p q : ℕ) (ss : List StoreView) (ks : List (List (Stamped EventItem)))
    → q ≡ p + length ss → EachEnds ledger h n views p ss ks → PlaceEnds ledger h n views q s k → EachEnds ledger h n views p (ss ++ s ∷ []) (ks ++ k ∷ [])
one_more ledger h n views s k p q [] [] is e x =
    let it : q ≡ p = omega (arith, is) in (subst (λ (z : ℕ). PlaceEnds ledger h n views z s k) it x, tt)
one_more ledger h n views s k p q (t ∷ ss) (j ∷ ks) is e x = (e.0, one_more ledger h n views s k (suc p) q ss ks (omega (arith, is)) e.1 x)
one_more ledger h n views s k p q [] (j ∷ ks) is e x = absurd e
one_more ledger h n views s k p q (t ∷ ss) [] is e x = absurd e

pub places_end : PlacesEnd
places_end ledger h n m views ss ks e le =
    let now = all_later ledger h n m views le 0 ss ks e in
    (now, (λ s k x. one_more ledger h m views s k 0 (length ss) ss ks (omega arith) now x))

-- the place at this number
record Got (ledger : BookName LedgerFixed) (h : List (Stamped EntryItem)) (n : ℕ) (views : List (View EventItem)) (p i : ℕ) (ks : List (List (Stamped EventItem))) : Type 0 where
  pub store : StoreView
  pub history : List (Stamped EventItem)
  pub got : slice_get ks i ≡ Some history
  pub ends : PlaceEnds ledger h n views (p + i) store history

at_place : (ledger : BookName LedgerFixed) (h : List (Stamped EntryItem)) (n : ℕ) (views : List (View EventItem)) (p i : ℕ) (ss : List StoreView) (ks : List (List (Stamped EventItem)))
    → i < length ks → EachEnds ledger h n views p ss ks → Got ledger h n views p i ks
at_place ledger h n views p i [] [] lt e = absurd (omega (arith, lt))
at_place ledger h n views p i [] (k ∷ ks) lt e = absurd e
at_place ledger h n views p i (s ∷ ss) [] lt e = absurd e
at_place ledger h n views p zero (s ∷ ss) (k ∷ ks) lt e =
    let same : p ≡ p + 0 = omega arith in
    record { store = s; history = k; got = refl; ends = subst (λ (z : ℕ). PlaceEnds ledger h n views z s k) same e.0 }
at_place ledger h n views p (suc i) (s ∷ ss) (k ∷ ks) lt e =
    let g = at_place ledger h n views (suc p) i ss ks (omega (arith, lt)) e.1 in
    let same : suc p + i ≡ p + suc i = omega arith in
    record { store = g.store; history = g.history; got = g.got; ends = subst (λ (z : ℕ). PlaceEnds ledger h n views z g.store g.history) same g.ends }

-- notes that were met begin the places' histories
notes_begin : (ledger : BookName LedgerFixed) (h : List (Stamped EntryItem)) (n : ℕ) (views : List (View EventItem)) (ss : List StoreView) (ks : List (List (Stamped EventItem))) (notes : Notes)
    → EachEnds ledger h n views 0 ss ks → length views ≡ length ks → All (IsMet views) notes → NotesBegin (map made_events ks) notes
notes_begin ledger h n views ss ks notes e all met = All-weaker (IsMet views) (HasBeginning (map made_events ks)) begins notes met
  where
    begins : (m : PlaceId × Note EventItem) → IsMet views m → HasBeginning (map made_events ks) m
    begins m (u, there, front) =
        let g = at_place ledger h n views 0 m.0.0 ss ks (let i = slice_get_within views m.0.0 u there in omega (arith, all, i)) e in
        let zero_more : 0 + m.0.0 ≡ m.0.0 = omega arith in
        let pass : slice_get views m.0.0 ≡ Some g.ends.view = subst (λ (i : ℕ). slice_get views i ≡ Some g.ends.view) zero_more g.ends.pass in
        let one : u ≡ g.ends.view = one_item (slice_get views m.0.0) u g.ends.view there pass in (
          made_events g.history,
          got_map made_events ks m.0.0 g.history g.got,
          prefixes-stay.1 (note_view m.1).seen g.history
              (prefix-trans (note_view m.1).seen u.seen g.history front (subst (λ (x : View EventItem). IsPrefix x.seen g.history) (sym one) g.ends.begins)),
        )

module _ (code : Block) (ledger : BookName LedgerFixed) (h : List (Stamped EntryItem)) (n : ℕ) (views : List (View EventItem)) (stands : Stands ledger.fixed.program.script code) (long : n ≤ length h) where
  abbrev U : Given
  U = given ledger.fixed.setup

  module _ (p : ℕ) (s : StoreView) (k : List (Stamped EventItem)) (e : PlaceEnds ledger h n views p s k) where
    keeps : NoteKeeps ledger (record { 0 = p }) (items_of k) e.note
    keeps = e.kept.noted

    -- the ledger's history begins with all that the place has seen
    seen_front : IsPrefix (seen_by (made_events k)) (ledger_items h)
    seen_front =
        subst (λ (l : List LedgerItem). IsPrefix l (ledger_items h)) (sym (carried_same [] k))
        (prefix_items (last_carried (items_of k)) h
        (subst (λ (l : List (Stamped EntryItem)). IsPrefix (last_carried (items_of k)) l) e.heard.whole
        (prefix-trans (last_carried (items_of k)) (note_view e.note).seen e.heard.after.seen keeps.last e.heard.met.theirs)))

    stamped : StampedTo (note_view e.note).reach (made_events k)
    stamped =
        top-stamp code U p (note_view e.note).reach (made_events k) (e.lawful code stands)
        (let t = top_same 0 (made_events k) ∙ ap last_stamp (journal_same k) in
        let l = keeps.stamped in omega (arith, t, l))

    low : (d : ℕ) → p < 16 → death_number 0 (record { 0 = p }) (entries_of (ledger_items h)) ≡ Some d → StampedTo d (made_events k)
    low d small died =
        let known : (note_view e.note).reach ≤ length e.heard.after.seen =
        (let g = e.heard.met.greater in
        let w = e.heard.within in
        let l = ap length e.heard.whole in omega (arith, g, w, l, long)) in
        let front : IsPrefix e.heard.after.seen h = ([], append-nil e.heard.after.seen ∙ e.heard.whole) in
        closes-fit e.heard.before (note_view e.note) e.heard.after h (record { 0 = p }) (made_events k) d small e.heard.met known front keeps.alive stamped died

    events_are : s.events ≡ journal_of (made_events k)
    events_are = sym e.kept.same ∙ sym (journal_same k)

    closed : (o : Option ℕ) (j : List PlaceEvent) → p < 16 → death_number 0 (record { 0 = p }) (entries_of (ledger_items h)) ≡ o → IsShut o s.events j → ClosedBy o (made_events k) j
    closed None j small is shut = shut ∙ events_are
    closed (Some d) j small is shut = (shut ∙ ap (λ (es : List PlaceEvent). es ++ Close d ∷ []) events_are, low d small is)

  each_place : (p : ℕ) (ss : List StoreView) (ks : List (List (Stamped EventItem))) → EachEnds ledger h n views p ss ks → EachPlace code U (ledger_items h) p (map made_events ks)
  each_place p [] [] e = tt
  each_place p (s ∷ ss) (k ∷ ks) e = (e.0.lawful code stands, seen_front p s k e.0, each_place (suc p) ss ks e.1)
  each_place p [] (k ∷ ks) e = absurd e
  each_place p (s ∷ ss) [] e = absurd e

  each_closed : (p : ℕ) (ss : List StoreView) (ks : List (List (Stamped EventItem))) (js : List (List PlaceEvent)) → p + length ks ≤ 16 → EachEnds ledger h n views p ss ks
      → EachShut (entries_of (ledger_items h)) U.heap p ss js → EachClosed U (entries_of (ledger_items h)) p (map made_events ks) js
  each_closed p [] [] [] few e shut = tt
  each_closed p (s ∷ ss) (k ∷ ks) (j ∷ js) few e shut = (
    closed p s k e.0 (death_number 0 (record { 0 = p }) (entries_of (ledger_items h))) j (omega (arith, few)) refl shut.0,
    shut.1,
    each_closed (suc p) ss ks js (omega (arith, few)) e.1 shut.2,
  )
  each_closed p [] (k ∷ ks) js few e shut = absurd e
  each_closed p (s ∷ ss) [] js few e shut = absurd e
  each_closed p [] [] (j ∷ js) few e shut = absurd shut
  each_closed p (s ∷ ss) (k ∷ ks) [] few e shut = absurd shut

-- the last stamp is not above d where none is
last_low : (d low : ℕ) (k : List MadeEvent) → low ≤ d → StampedTo d k → top_stamp low k ≤ d
last_low d low [] le h = le
last_low d low (m ∷ k) le h = last_low d m.stamp k h.0 h.1

pub stamps_before_death : StampsBeforeDeath
stamps_before_death code ledger h n views p s k d stands small long e died =
    let below = low code ledger h n views stands long p.0 s k e d small (ap (death_number 0 p) (entries_same h) ∙ died) in
    let last : top_stamp 0 (made_events k) ≤ d = last_low d 0 (made_events k) (omega arith) below in
    let t = top_same 0 (made_events k) ∙ ap last_stamp (sym (events_are code ledger h n views stands long p.0 s k e)) in omega (arith, t, last)

pub books_make_run : BooksMakeRun
books_make_run code ledger h js stands x =
    subst (λ (es : List Entry). IsRun code (given ledger.fixed.setup) es js) (entries_same h)
    (parts-run code (given ledger.fixed.setup) (ledger_items h) (map made_events x.histories) js are
    (subst EndsWithRoot (sym (entries_same h)) x.ends)
    (each_closed code ledger h x.reach x.views stands x.long 0 x.stores x.histories js (let f = x.proper.few in
    let o = x.one_each in omega (arith, f, o)) x.places_end
    (subst (λ (es : List Entry). EachShut es ledger.fixed.setup.heap 0 x.stores js) (sym (entries_same h)) x.shut)))
  where
    legal : LegalLedger code (given ledger.fixed.setup) (ledger_items h)
    legal = x.lawful.made code stands

    places : EachPlace code (given ledger.fixed.setup) (ledger_items h) 0 (map made_events x.histories)
    places = each_place code ledger h x.reach x.views stands x.long 0 x.stores x.histories x.places_end

    are : AreParts code (given ledger.fixed.setup) (ledger_items h) (map made_events x.histories)
    are =
        record {
          legal = legal;
          one_each = length-map x.histories made_events ∙ x.one_each;
          places = places;
          named = noted_are_named code (given ledger.fixed.setup) h (map made_events x.histories) x.notes legal places x.noted
              (notes_begin ledger h x.reach x.views x.stores x.histories x.notes x.places_end x.passes x.met);
        }
