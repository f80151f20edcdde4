-- What a task tells at its next entry.
use Rattle.std.proofs.Common.{◌≡◌, ◌⊎◌, ℕ, suc, ◌≤◌, List, [], ◌∷◌, ◌++◌, Option, Some, None, refl, arith, sym, subst, ◌∙◌, inl, inr, append_assoc, append-nil}
use Rattle.rx_rules.proofs.Common.{PlaceId, Fault, Term, Raise, does, begins, granted, Answer, Gives, Fine, Fails, answered, after_it, Vars, Plays, asks, ends, stops, StartsSo, brought, vars_told, Block}
use Rattle.rx_rules.specs.declared.events.Cell.{Cell}
use Rattle.rx_rules.specs.declared.entries.Act.{Act}
use Rattle.rx_rules.specs.declared.entries.Act.TheVariants.{End}
use Rattle.rx_rules.specs.Plays.{local, stores, Fits}
use Rattle.rx_history_laws.proofs.Paths.{Comes}
use Rattle.rx_history_laws.proofs.TermCode.{Coded, local-coded, replaced-coded, after-coded}
use Rattle.rx_history_laws.proofs.NestedTerm.{Nested, EachStarts, local-nested, fine-nested, fails-nested, begun-inside}
use Rattle.rx_history_laws.proofs.Stacks.{done-closed, fits-not_end}
use Rattle.rx_history_laws.proofs.HeadsStep.{HeadsFrom, local-from, fine-head, fails-head}
use Rattle.rx_history_laws.proofs.Lies.{Moves, moves-from, moves-less}
use Rattle.rx_history_laws.proofs.TermOrder.{Todo, Sorted, Shrinks, Moved, IfLocal, local-moved, fine-moved, fails-moved}

-- z comes before each of the list
abbrev pub ComesAll : List ℕ → List (List ℕ) → Type 0
ComesAll z [] = Unit {0}
ComesAll z (y ∷ ys) = Comes z y × ComesAll z ys

-- Statements that a term begins in this order, with this left to begin: each is to be begun by the term, and comes before
-- those after it and before all that is left.
abbrev pub InTurn : Term → List (List ℕ) → Term → Type 0
InTurn t [] after = Unit {0}
InTurn t (z ∷ zs) after = Todo t z × ((y : List ℕ) → Todo after y → Comes z y) × ComesAll z zs × InTurn t zs after

pub in_turn-wider : (t u after : Term) → Shrinks t u → (zs : List (List ℕ)) → InTurn u zs after → InTurn t zs after
in_turn-wider t u after h [] i = tt
in_turn-wider t u after h (z ∷ zs) i = (h z i.0, i.1, i.2, in_turn-wider t u after h zs i.3)

pub in_turn-less : (t u after : Term) → Shrinks u after → (zs : List (List ℕ)) → InTurn t zs u → InTurn t zs after
in_turn-less t u after h [] i = tt
in_turn-less t u after h (z ∷ zs) i = (i.0, λ y k. i.1 y (h y k), i.2, in_turn-less t u after h zs i.3)

comes-all : (z : List ℕ) (t : Term) → ((y : List ℕ) → Todo t y → Comes z y) → (after : Term) (zs : List (List ℕ)) → InTurn t zs after → ComesAll z zs
comes-all z t h after [] i = tt
comes-all z t h after (y ∷ ys) i = (h y i.0, comes-all z t h after ys i.3)

-- each of the list lies within each of ps
abbrev pub AllWithin : List (List ℕ) → List (List ℕ) → Type 0
AllWithin ps [] = Unit {0}
AllWithin ps (z ∷ zs) = EachStarts ps z × AllWithin ps zs

-- the next entry of a task whose term is t and which has begun the batch
pub record Turn (Q : List (ℕ × Cell × List ℕ) → Type 0) (starts : List (Term × Vars)) (here : PlaceId) (t : Term) (batch : List (List ℕ)) (n : ℕ) (act : Act) (told : List (List ℕ)) (more : List (ℕ × Act × List (List ℕ))) : Type 0 where
  pub vars : Vars
  pub asking : Term
  pub fresh : List (List ℕ)
  pub tells : told ≡ batch ++ fresh
  pub sorted : Sorted asking
  pub shrinks : Shrinks t asking
  pub order : InTurn t fresh asking
  -- items of the script stay so
  pub coded : (code : Block) → Coded code t → Coded code asking
  -- the open scopes stay, and what is begun lies within them
  pub nested : (ps : List (List ℕ)) → Nested t ps → Nested asking ps
  pub inside : (ps : List (List ℕ)) → Nested t ps → AllWithin ps fresh
  -- no waiter comes to hold an item
  pub moves : (code : Block) → Coded code t → Moves code t asking
  -- where it ends, it has none open
  pub closed : (faults : List Fault) → act ≡ End faults → (ps : List (List ℕ)) → Nested asking ps → ps ≡ []
  -- it asks the ledger and goes on, or it ends
  pub goes : (Fits here asking (does vars here.0 asking) act × StartsSo starts asking vars act × ((low : ℕ) × (knows : Vars) × (cells : List (ℕ × Cell × List ℕ)) × Q cells × Plays starts here low knows (granted (brought act) asking) [] cells more)) ⊎ ((faults : List Fault) × (act ≡ End faults) × (more ≡ []) × Q [])

abbrev pub NextTurn : (List (ℕ × Cell × List ℕ) → Type 0) → List (Term × Vars) → PlaceId → Term → List (List ℕ) → List (ℕ × Act × List (List ℕ)) → Type 0
NextTurn Q starts here t batch [] = Unit {0}
NextTurn Q starts here t batch (m ∷ more) = Turn Q starts here t batch m.0 m.1 m.2 more

-- the next entry, if there is one, is not before `low`
abbrev pub FirstFrom : ℕ → List (ℕ × Act × List (List ℕ)) → Type 0
FirstFrom low [] = Unit {0}
FirstFrom low (m ∷ more) = low ≤ m.0

-- Q holds of the events that are left at the next entry, if there is one
abbrev pub BeforeNext : (List (ℕ × Cell × List ℕ) → Type 0) → List (ℕ × Cell × List ℕ) → List (ℕ × Act × List (List ℕ)) → Type 0
BeforeNext Q cells [] = Unit {0}
BeforeNext Q cells (m ∷ more) = Q cells

-- and goes on to hold where an event of the turn is taken away
abbrev pub Drops : (List (ℕ × Cell × List ℕ) → Type 0) → List (ℕ × Act × List (List ℕ)) → Type 0
Drops Q [] = Unit {0}
Drops Q (m ∷ more) = (stamp : ℕ) (cell : Cell) (x : List ℕ) (cells : List (ℕ × Cell × List ℕ)) → stamp ≤ m.0 → Q ((stamp, cell, x) ∷ cells) → Q cells

first-lower : (low high : ℕ) → low ≤ high → (moves : List (ℕ × Act × List (List ℕ))) → FirstFrom high moves → FirstFrom low moves
first-lower low high h [] k = tt
first-lower low high h (m ∷ more) k = omega arith

pub first-from : {starts : List (Term × Vars)} {here : PlaceId} {low : ℕ} {vars : Vars} {t : Term} {batch : List (List ℕ)} {cells : List (ℕ × Cell × List ℕ)} {moves : List (ℕ × Act × List (List ℕ))} → Plays starts here low vars t batch cells moves → FirstFrom low moves
first-from (local e p) = first-from p
first-from (stores {low = low} {moves = moves} {stamp = stamp} a le tells b p) = first-lower low stamp le moves (first-from p)
first-from (asks le fits so p) = le
first-from (ends le e) = le
first-from stops = tt

next-left : (Q : List (ℕ × Cell × List ℕ) → Type 0) (stamp : ℕ) (cell : Cell) (x : List ℕ) (cells : List (ℕ × Cell × List ℕ)) (moves : List (ℕ × Act × List (List ℕ))) → FirstFrom stamp moves → Drops Q moves → BeforeNext Q ((stamp, cell, x) ∷ cells) moves → BeforeNext Q cells moves
next-left Q stamp cell x cells [] f d h = tt
next-left Q stamp cell x cells (m ∷ more) f d h = d stamp cell x cells f h

-- a step before it
earlier : (Q : List (ℕ × Cell × List ℕ) → Type 0) (starts : List (Term × Vars)) (here : PlaceId) (t after : Term) (batch : List (List ℕ)) (o : Option (List ℕ)) → begins t ≡ o → ((code : Block) → Coded code t → Coded code after) → ((ps : List (List ℕ)) → Nested t ps → Nested after ps) → ((code : Block) → Coded code t → Moves code t after) → Moved t after → (moves : List (ℕ × Act × List (List ℕ))) → NextTurn Q starts here after (elim o as (λ _. List (List ℕ)) [ Some x ↦ batch ++ x ∷ [] | None ↦ batch ]) moves → NextTurn Q starts here t batch moves
earlier Q starts here t after batch o e k l g m [] h = tt
earlier Q starts here t after batch None e keep stay go m (x ∷ more) h =
    record {
      vars = h.vars;
      asking = h.asking;
      fresh = h.fresh;
      tells = h.tells;
      sorted = h.sorted;
      shrinks = λ y k. m.shrinks y (h.shrinks y k);
      order = in_turn-wider t after h.asking m.shrinks h.fresh h.order;
      coded = λ code c. h.coded code (keep code c);
      nested = λ ps n. h.nested ps (stay ps n);
      inside = λ ps n. h.inside ps (stay ps n);
      closed = h.closed;
      moves = λ code c y u f w l. go code c y u f w (h.moves code (keep code c) y u f w l);
      goes = h.goes;
    }
earlier Q starts here t after batch (Some z) e keep stay go m (x ∷ more) h =
    let b = m.begun z e in
    record {
      vars = h.vars;
      asking = h.asking;
      fresh = z ∷ h.fresh;
      tells = h.tells ∙ append_assoc batch (z ∷ []) h.fresh;
      sorted = h.sorted;
      shrinks = λ y k. m.shrinks y (h.shrinks y k);
      order = (b.0, λ y k. b.1 y (h.shrinks y k), comes-all z after b.1 h.asking h.fresh h.order, in_turn-wider t after h.asking m.shrinks h.fresh h.order);
      coded = λ code c. h.coded code (keep code c);
      nested = λ ps n. h.nested ps (stay ps n);
      inside = λ ps n. (begun-inside t z ps e n, h.inside ps (stay ps n));
      closed = h.closed;
      moves = λ code c y u f w l. go code c y u f w (h.moves code (keep code c) y u f w l);
      goes = h.goes;
    }

pub answer-moved : (a : Answer) (t : Term) (x : List ℕ) → begins t ≡ Some x → Sorted t → Moved t (answered a t)
answer-moved (Gives name value) t x e s = fine-moved t x e s
answer-moved Fine t x e s = fine-moved t x e s
answer-moved (Fails fault) t x e s = fails-moved t x (fault ∷ []) e s

pub answer-coded : (a : Answer) (t : Term) (code : Block) → Coded code t → Coded code (answered a t)
answer-coded (Gives name value) t code c = replaced-coded code t (after_it t) c (after-coded code t c)
answer-coded Fine t code c = replaced-coded code t (after_it t) c (after-coded code t c)
answer-coded (Fails fault) t code c = replaced-coded code t (Raise (fault ∷ [])) c tt

pub answer-nested : (a : Answer) (t : Term) (x : List ℕ) (ps : List (List ℕ)) → begins t ≡ Some x → Sorted t → Nested t ps → Nested (answered a t) ps
answer-nested (Gives name value) t x ps e s n = fine-nested t x ps e s n
answer-nested Fine t x ps e s n = fine-nested t x ps e s n
answer-nested (Fails fault) t x ps e s n = fails-nested t x (fault ∷ []) ps e s n

pub answer-moves : (a : Answer) (t : Term) (code : Block) → Coded code t → Moves code t (answered a t)
answer-moves (Gives name value) t code c = moves-less code t (answered (Gives name value) t) (fine-head t)
answer-moves Fine t code c = moves-less code t (answered Fine t) (fine-head t)
answer-moves (Fails fault) t code c = moves-less code t (answered (Fails fault) t) (fails-head t (fault ∷ []))

pub next-turn : {starts : List (Term × Vars)} {here : PlaceId} {low : ℕ} {vars : Vars} {t : Term} {batch : List (List ℕ)} {cells : List (ℕ × Cell × List ℕ)} {moves : List (ℕ × Act × List (List ℕ))} → (Q : List (ℕ × Cell × List ℕ) → Type 0) → Sorted t → Plays starts here low vars t batch cells moves → Drops Q moves → BeforeNext Q cells moves → NextTurn Q starts here t batch moves
next-turn Q s (local {vars = vars} {left = left} {t = t} {after = after} {batch = batch} {moves = moves} e p) d q =
    let m : Moved t after = subst (IfLocal (Moved t)) e (local-moved vars _ t s) in
    earlier Q _ _ t after batch (begins t) refl (λ code c. subst (IfLocal (Coded code)) e (local-coded code vars _ t c)) (λ ps n. subst (IfLocal (λ u. Nested u ps)) e (local-nested vars _ t ps s n))
    (λ code c. moves-from code t after c (subst (IfLocal (HeadsFrom code t)) e (local-from code vars _ t c))) m moves (next-turn Q m.sorted p d q)
next-turn Q s (stores {t = t} {batch = batch} {cells = cells} {moves = moves} {stamp = stamp} {cell = cell} {x = x} a le tells b p) d q =
    let m = answer-moved a t _ b s in
    earlier Q _ _ t (answered a t) batch (begins t) refl (answer-coded a t) (λ ps n. answer-nested a t _ ps b s n) (answer-moves a t) m moves (next-turn Q m.sorted p d (next-left Q stamp cell x cells moves (first-from p) d q))
next-turn Q s (asks {low = low} {vars = vars} {t = t} {batch = batch} {cells = cells} {n = n} {act = act} le fits so p) d q =
    record { vars = vars; asking = t; fresh = []; tells = sym (append-nil batch); sorted = s; shrinks = λ y h. h; order = tt; coded = λ code c. c; nested = λ ps m. m; inside = λ ps m. tt; moves = λ code c x u e w l. l; closed = λ faults e ps m. absurd (fits-not_end _ t _ act faults e fits); goes = inl (fits, so, (suc n, vars_told (does vars _ t) act vars, cells, q, p)) }
next-turn Q s (ends {vars = vars} {t = t} {batch = batch} {faults = faults} le e) d q =
    record { vars = vars; asking = t; fresh = []; tells = sym (append-nil batch); sorted = s; shrinks = λ y h. h; order = tt; coded = λ code c. c; nested = λ ps m. m; inside = λ ps m. tt; moves = λ code c x u e w l. l; closed = λ other k ps m. done-closed _ vars t faults e s ps m; goes = inr (faults, refl, refl, q) }
next-turn Q s stops d q = tt
