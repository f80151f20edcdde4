-- No statement is told twice in a run; and the order of a history, from what other tasks have still to begin.
use Rattle.std.proofs.Common.{◌≡◌, ℕ, zero, suc, ◌+◌, Bool, true, false, not, List, [], ◌∷◌, Some, slice_get, refl, sym, subst, arith, add-zero}
use Rattle.std.specs.List.{filter_map, list_all}
use Rattle.rx_rules.proofs.Common.{PlaceId, Block, opening, Term, Empty, items, Vars, no_vars, BeginsWithArrival, EachPlays, birth_of, travels, cell_of, journal_at, moves_from, Given, IsRun, InOrder, told, comes_before, Tree}
use Rattle.rx_rules.specs.declared.events.Cell.{Cell}
use Rattle.rx_rules.specs.declared.entries.Act.{Act}
use Rattle.rx_rules.specs.declared.entries.Entry.{Entry}
use Rattle.rx_rules.specs.declared.events.PlaceEvent.{PlaceEvent}
use Rattle.rx_history_laws.proofs.Paths.{Comes, comes-other, comes-kept}
use Rattle.rx_history_laws.proofs.TermOrder.{Todo, items-sorted}
use Rattle.rx_history_laws.proofs.Says.{Goes, on, travels as on_its_way}
use Rattle.rx_history_laws.proofs.TermCode.{start-coded}
use Rattle.rx_history_laws.proofs.NestedTerm.{items-nested}
use Rattle.rx_history_laws.proofs.Story.{Shape}
use Rattle.rx_history_laws.proofs.ToldPairs.{Keeps, Related, EachPair, Others}
use Rattle.rx_history_laws.proofs.HistoryPairs.{Any, Tale, told-from}
use Rattle.rx_history_laws.proofs.LawsHold.{tied-opening}
use Rattle.rx_history_laws.specs.Once.{IsNone, AllDiffer}

goes-begins : (starts : List (Term × Vars)) (here : PlaceId) (y : Bool) (low : ℕ) (vars : Vars) (t : Term) (cells : List (ℕ × Cell × List ℕ)) (moves : List (ℕ × Act × List (List ℕ))) → BeginsWithArrival starts here y low vars t cells moves → Goes Any starts t [] moves
goes-begins starts here false low vars t cells moves b = on here low vars cells tt b
goes-begins starts here true low vars t cells moves b = on_its_way here low vars cells tt refl b

each-goes : (starts : List (Term × Vars)) (es : List Entry) (js : List (List PlaceEvent)) (n : ℕ) (more : List (Term × Vars)) → EachPlays starts es js n more → (i : ℕ) (t : Term) (vars : Vars) → slice_get more i ≡ Some (t, vars) → Goes Any starts t [] (moves_from 0 es (n + i))
each-goes starts es js n [] p i t vars h = cc
each-goes starts es js n (s ∷ more) p zero t vars h =
    let same : s ≡ (t, vars) = let k : Some s ≡ Some (t, vars) = h in cc in
    let g = goes-begins starts (birth_of es n).to (travels (birth_of es n)) (birth_of es n).low s.1 s.0 (filter_map (cell_of n) (journal_at js (birth_of es n).to.0)) (moves_from 0 es n) p.0 in
    let here : Goes Any starts t [] (moves_from 0 es n) = subst (λ (v : Term × Vars). Goes Any starts v.0 [] (moves_from 0 es n)) same g in
    subst (λ k. Goes Any starts t [] (moves_from 0 es k)) (sym (add-zero n)) here
each-goes starts es js n (s ∷ more) p (suc i) t vars h =
    let next : suc n + i ≡ n + suc i = omega arith in
    subst (λ k. Goes Any starts t [] (moves_from 0 es k)) next (each-goes starts es js (suc n) more p.1 i t vars h)

-- the tasks of a run at its start
pub shape-start : (code : Block) → Shape code [] 1 (λ c. items code [] Empty)
shape-start code =
    record {
      sorted = λ c h. items-sorted code [] 0 Empty tt (λ m k y x. absurd x);
      apart = λ c d y hc hd a b. omega arith;
      coded = λ c h. start-coded code;
      ahead = λ c d x y hc hd o a b. absurd (o (omega arith));
      nested = λ c h. items-nested code [] 0 Empty tt;
      none_open = λ c h. refl;
      scope_ahead = λ c d x y m hd o a. absurd m;
      unopened = λ c d x y m hd a b. m;
    }

tale-start : (code : Block) (U : Given) (es : List Entry) (js : List (List PlaceEvent)) → (r : IsRun code U es js) → Tale r.played.starts 0 es 1 (λ c. items code [] Empty)
tale-start code U es js r =
    record {
      goes = λ c h. let e : 0 ≡ c = omega arith in subst (λ k. Goes Any r.played.starts (items code [] Empty) [] (moves_from 0 es k)) e (at_start 0 (items code [] Empty) (no_vars U.places) r.played.main);
      unborn = λ c t vars h g. at_start c t vars g;
    }
  where
    at_start : (c : ℕ) (t : Term) (vars : Vars) → slice_get r.played.starts c ≡ Some (t, vars) → Goes Any r.played.starts t [] (moves_from 0 es c)
    at_start c t vars g =
        let e : 0 + c ≡ c = omega arith in
        subst (λ k. Goes Any r.played.starts t [] (moves_from 0 es k)) e (each-goes r.played.starts es js 0 r.played.starts r.played.each c t vars g)

abbrev pub Differ : List ℕ → List ℕ → Type 0
Differ z w = z ≡ w → ⊥

-- what holds of each two statements that a run tells
pub run-pairs : (code : Block) (U : Given) (es : List Entry) (js : List (List PlaceEvent)) → (r : IsRun code U es js) → (K : List Entry → Tree → (ℕ → Term) → Type 0) → Keeps code r.played.starts K → K [] (opening U.places) (λ c. items code [] Empty) → (R : List ℕ → List ℕ → Type 0) → ((z w : List ℕ) → Comes z w → R z w) → Others code K R → EachPair R (told es)
run-pairs code U es js r K keeps start R own others =
    (told-from code r.played.starts K keeps R own others 0 [] (opening U.places) es (λ c. items code [] Empty) (tied-opening U.places r.folds.few) (shape-start code) (tale-start code U es js r) start r.folds.allowed).1

-- nothing more is kept
abbrev pub Nothing_more : List Entry → Tree → (ℕ → Term) → Type 0
Nothing_more past T f = Unit {0}

pub keeps_nothing : (code : Block) (starts : List (Term × Vars)) → Keeps code starts Nothing_more
keeps_nothing code starts =
    record {
      host = λ n past T e f i s a h k. tt;
      step = λ n past T t act batch told f i s sd a low lives none k. tt;
      birth = λ n past T t act batch told f i s sd a low lives c e new k. tt;
      inner = λ past T c after f s low m k. tt;
    }

different-one : (z : List ℕ) (zs : List (List ℕ)) → Related Differ z zs → IsNone z zs
different-one z [] h = tt
different-one z (y ∷ ys) h = (h.0, different-one z ys h.1)

different-all : (zs : List (List ℕ)) → EachPair Differ zs → AllDiffer zs
different-all [] h = tt
different-all (z ∷ zs) h = (different-one z zs h.0, different-all zs h.1)

-- no statement stands twice in the history of a run
pub told-once : (code : Block) (U : Given) (es : List Entry) (js : List (List PlaceEvent)) → IsRun code U es js → AllDiffer (told es)
told-once code U es js r =
    different-all (told es)
    (run-pairs code U es js r Nothing_more (keeps_nothing code r.played.starts) tt Differ (λ z w c e. comes-other w (subst (λ v. Comes v w) e c))
    (λ past T f i s k t here z todo deep c low o alive w h e. o (s.apart t c w here low (subst (Todo (f t)) e todo) h)))

-- The order of a history, from what is asked of other tasks: no living task has still to begin what is before a statement told.

abbrev pub NotAfter : Block → List ℕ → List ℕ → Type 0
NotAfter code z w = comes_before code w z ≡ false

abbrev pub FrontFirst : Block → (List Entry → Tree → (ℕ → Term) → Type 0) → Type 0
FrontFirst code K = Others code K (NotAfter code)

related-in_order : (code : Block) (y : List ℕ) (ys : List (List ℕ)) → Related (NotAfter code) y ys → list_all (λ x. not (comes_before code x y)) ys ≡ true
related-in_order code y [] h = refl
related-in_order code y (x ∷ ys) h = rw (h.0) (related-in_order code y ys h.1)

pub pairs-in_order : (code : Block) (ys : List (List ℕ)) → EachPair (NotAfter code) ys → InOrder code ys
pairs-in_order code [] h = tt
pairs-in_order code (y ∷ ys) h = (related-in_order code y ys h.0, pairs-in_order code ys h.1)

pub history-in_order : (code : Block) (U : Given) (es : List Entry) (js : List (List PlaceEvent)) → (r : IsRun code U es js) → (K : List Entry → Tree → (ℕ → Term) → Type 0) → Keeps code r.played.starts K → K [] (opening U.places) (λ c. items code [] Empty) → FrontFirst code K → InOrder code (told es)
history-in_order code U es js r K keeps start front =
    pairs-in_order code (told es) (run-pairs code U es js r K keeps start (NotAfter code) (comes-kept code) front)
