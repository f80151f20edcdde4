-- The parts, closed, are a whole run.
use Rattle.std.proofs.Common.{◌≡◌, ℕ, zero, suc, ◌≤◌, List, [], ◌∷◌, ◌++◌, length, Option, Some, None, refl, Bool, true, false, cond, ◌==◌, take, ◌+◌, arith, ap, sym, ◌∙◌, subst}
use Rattle.std.specs.List.{filter_map}
use Rattle.std.proofs.lemmas.List.{append-nil}
use Rattle.std.proofs.lemmas.List.Elements.{filter_map-append}
use Rattle.rx_rules.proofs.Common.{PlaceId, Starts, EachPlays, BeginsWithArrival, birth_of, travels, cell_of, journal_at, moves_from, Given, AllJournals, AtHome, NotFalling, ClosesAt, close_in, death_number}
use Rattle.rx_rules.specs.declared.entries.Entry.{Entry}
use Rattle.rx_rules.specs.declared.entries.Entry.TheVariants.{Step, Root, Death, Join}
use Rattle.rx_rules.specs.declared.events.PlaceEvent.{PlaceEvent}
use Rattle.rx_rules.specs.declared.events.PlaceEvent.TheVariants.{Close}
use Rattle.rx_parts.specs.Ledger.{entries_of}
use Rattle.rx_parts.specs.Places.{MadeEvent, journal_of}
use Rattle.rx_parts.specs.Parts.{journals_of, EachStamped}
use Rattle.rx_parts.specs.Closing.{StampedTo, ClosedBy, EachClosed, PartsRun, StampsFit}
use Rattle.rx_parts.proofs.Whole.{parts-play}

-- a close is no event of a task
closed_cells : (o : Option ℕ) (k : List MadeEvent) (j : List PlaceEvent) (t : ℕ) → ClosedBy o k j → filter_map (cell_of t) j ≡ filter_map (cell_of t) (journal_of k)
closed_cells None k j t h = ap (filter_map (cell_of t)) h
closed_cells (Some n) k j t h = ap (filter_map (cell_of t)) h.0 ∙ filter_map-append (cell_of t) (journal_of k) (Close n ∷ []) ∙ append-nil (filter_map (cell_of t) (journal_of k))

pub cells_same : (U : Given) (es : List Entry) (p : ℕ) (ks : List (List MadeEvent)) (js : List (List PlaceEvent)) → EachClosed U es p ks js → (q t : ℕ) → filter_map (cell_of t) (journal_at js q) ≡ filter_map (cell_of t) (journal_at (journals_of ks) q)
cells_same U es p [] [] h q t = refl
cells_same U es p (k ∷ ks) (j ∷ js) h zero t = closed_cells (death_number 0 (record { 0 = p }) es) k j t h.0
cells_same U es p (k ∷ ks) (j ∷ js) h (suc q) t = cells_same U es (suc p) ks js h.2 q t
cells_same U es p [] (j ∷ js) h q t = absurd h
cells_same U es p (k ∷ ks) [] h q t = absurd h

each_same : (starts : Starts) (es : List Entry) (js ks : List (List PlaceEvent)) → ((q t : ℕ) → filter_map (cell_of t) (journal_at js q) ≡ filter_map (cell_of t) (journal_at ks q)) → (n : ℕ) (ss : Starts) → EachPlays starts es ks n ss → EachPlays starts es js n ss
each_same starts es js ks f n [] h = tt
each_same starts es js ks f n (s ∷ ss) h = (
  subst (λ v. BeginsWithArrival starts (birth_of es n).to (travels (birth_of es n)) (birth_of es n).low s.1 s.0 v (moves_from 0 es n)) (sym (f (birth_of es n).to.0 n)) h.0,
  each_same starts es js ks f (suc n) ss h.1,
)

no_close : (k : List MadeEvent) → filter_map close_in (journal_of k) ≡ []
no_close [] = refl
no_close (m ∷ k) = no_close k

closes_so : (o : Option ℕ) (k : List MadeEvent) (j : List PlaceEvent) → ClosedBy o k j → ClosesAt o j
closes_so None k j h = ap (filter_map close_in) h ∙ no_close k
closes_so (Some n) k j h = ap (filter_map close_in) h.0 ∙ filter_map-append close_in (journal_of k) (Close n ∷ []) ∙ ap (λ v. v ++ n ∷ []) (no_close k)

rises_to : (low n : ℕ) (k : List MadeEvent) → low ≤ n → StampedTo n k → NotFalling low (journal_of k) → NotFalling low (journal_of k ++ Close n ∷ [])
rises_to low n [] le s h = (le, tt)
rises_to low n (m ∷ k) le s h = (h.0, rises_to m.stamp n k s.0 s.1 h.1)

rises_so : (o : Option ℕ) (k : List MadeEvent) (j : List PlaceEvent) → ClosedBy o k j → NotFalling 0 (journal_of k) → NotFalling 0 j
rises_so None k j h r = subst (NotFalling 0) (sym h) r
rises_so (Some n) k j h r = subst (NotFalling 0) (sym h.0) (rises_to 0 n k (omega arith) h.1 r)

home_to : (es : List Entry) (p n : ℕ) (k : List MadeEvent) → AtHome es p (journal_of k) → AtHome es p (journal_of k ++ Close n ∷ [])
home_to es p n [] h = tt
home_to es p n (m ∷ k) h = (h.0, h.1, home_to es p n k h.2)

home_so : (es : List Entry) (p : ℕ) (o : Option ℕ) (k : List MadeEvent) (j : List PlaceEvent) → ClosedBy o k j → AtHome es p (journal_of k) → AtHome es p j
home_so es p None k j h r = subst (AtHome es p) (sym h) r
home_so es p (Some n) k j h r = subst (AtHome es p) (sym h.0) (home_to es p n k r)

all_journals : (U : Given) (es : List Entry) (p : ℕ) (ks : List (List MadeEvent)) (js : List (List PlaceEvent)) → EachClosed U es p ks js → EachStamped es p (journals_of ks) → AllJournals U es p js
all_journals U es p [] [] h s = tt
all_journals U es p (k ∷ ks) (j ∷ js) h s = (
  record {
    law = h.1;
    homes = home_so es p (death_number 0 (record { 0 = p }) es) k j h.0 s.1;
    rising = rises_so (death_number 0 (record { 0 = p }) es) k j h.0 s.0;
    closed = closes_so (death_number 0 (record { 0 = p }) es) k j h.0;
  },
  all_journals U es (suc p) ks js h.2 s.2,
)
all_journals U es p [] (j ∷ js) h s = absurd h
all_journals U es p (k ∷ ks) [] h s = absurd h

as_many : (U : Given) (es : List Entry) (p : ℕ) (ks : List (List MadeEvent)) (js : List (List PlaceEvent)) → EachClosed U es p ks js → length js ≡ length ks
as_many U es p [] [] h = refl
as_many U es p (k ∷ ks) (j ∷ js) h = ap suc (as_many U es (suc p) ks js h.2)
as_many U es p [] (j ∷ js) h = absurd h
as_many U es p (k ∷ ks) [] h = absurd h

pub parts-run : PartsRun
parts-run code U h ks js parts root closed =
    let both = parts-play code U h ks parts in
    record {
      folds = parts.legal.folds;
      ends = root;
      played = record { starts = both.0.starts; main = both.0.main; all = both.0.all; each = each_same both.0.starts (entries_of h) js (journals_of ks) (cells_same U (entries_of h) 0 ks js closed) 0 both.0.starts both.0.each };
      one_each = as_many U (entries_of h) 0 ks js closed ∙ parts.one_each;
      journals = all_journals U (entries_of h) 0 ks js closed both.1;
    }

-- Stamps and deaths.

death_from : (m n : ℕ) (p : PlaceId) (es : List Entry) → death_number m p es ≡ Some n → m ≤ n
death_from m n p [] h = absurd (let f : ⊥ = cc in f)
death_from m n p (Step t act batch ∷ es) h = let r : suc m ≤ n = death_from (suc m) n p es h in omega arith
death_from m n p (Root lost masked thrown ∷ es) h = let r : suc m ≤ n = death_from (suc m) n p es h in omega arith
death_from m n p (Join q ∷ es) h = let r : suc m ≤ n = death_from (suc m) n p es h in omega arith
death_from m n p (Death d ∷ es) h = either (d.0 == p.0) (λ k. death_from (suc m) n p es k) h where
  either : (b : Bool) → (death_number (suc m) p es ≡ Some n → suc m ≤ n) → cond b (Some m) (death_number (suc m) p es) ≡ Some n → m ≤ n
  either true f k = let e : m ≡ n = cc in omega arith
  either false f k = let r : suc m ≤ n = f k in omega arith

not_before : (m n reach : ℕ) (p : PlaceId) (es : List Entry) → death_number m p (take reach es) ≡ None → death_number m p es ≡ Some n → m + reach ≤ n
not_before m n reach p [] h k = absurd (let f : ⊥ = cc in f)
not_before m n zero p (e ∷ es) h k = let r : m ≤ n = death_from m n p (e ∷ es) k in omega arith
not_before m n (suc reach) p (Step t act batch ∷ es) h k = let r : suc m + reach ≤ n = not_before (suc m) n reach p es h k in omega arith
not_before m n (suc reach) p (Root lost masked thrown ∷ es) h k = let r : suc m + reach ≤ n = not_before (suc m) n reach p es h k in omega arith
not_before m n (suc reach) p (Join q ∷ es) h k = let r : suc m + reach ≤ n = not_before (suc m) n reach p es h k in omega arith
not_before m n (suc reach) p (Death d ∷ es) h k = either (d.0 == p.0) (λ a b. not_before (suc m) n reach p es a b) h k where
  either : (b : Bool) → (death_number (suc m) p (take reach es) ≡ None → death_number (suc m) p es ≡ Some n → suc m + reach ≤ n) → cond b (Some m) (death_number (suc m) p (take reach es)) ≡ None → cond b (Some m) (death_number (suc m) p es) ≡ Some n → m + suc reach ≤ n
  either true f a b = absurd (let g : ⊥ = cc in g)
  either false f a b = let r : suc m + reach ≤ n = f a b in omega arith

stamped_up : (r n : ℕ) (k : List MadeEvent) → r ≤ n → StampedTo r k → StampedTo n k
stamped_up r n [] le h = tt
stamped_up r n (m ∷ k) le h = (let s : m.stamp ≤ r = h.0 in omega arith, stamped_up r n k le h.1)

pub stamps-fit : StampsFit
stamps-fit es p reach n k none died h = let le : 0 + reach ≤ n = not_before 0 n reach p es none died in stamped_up reach n k (omega arith) h
