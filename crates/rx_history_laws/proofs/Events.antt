-- What a task does at its next event of the store.
use Rattle.std.proofs.Common.{◌≡◌, ℕ, suc, ◌≤◌, Bool, true, false, cond, ◌==◌, List, [], ◌∷◌, Some, None, ap, sym, subst, ◌∙◌, arith}
use Rattle.std.specs.List.{cons_option}
use Rattle.rx_rules.proofs.Common.{PlaceId, Block, Term, Vars, begins, answered, vars_after, Plays, asks, ends, stops, BeginsWithArrival, begun, moves_from}
use Rattle.rx_rules.specs.declared.events.Cell.{Cell}
use Rattle.rx_rules.specs.declared.entries.Act.{Act}
use Rattle.rx_rules.specs.declared.entries.Act.TheVariants.{Arrive}
use Rattle.rx_rules.specs.declared.entries.Entry.{Entry}
use Rattle.rx_rules.specs.declared.entries.Entry.TheVariants.{Step, Root, Death, Join}
use Rattle.rx_rules.specs.Plays.{local, stores}
use Rattle.rx_history_laws.proofs.Paths.{Comes}
use Rattle.rx_history_laws.proofs.TermOrder.{Todo, Sorted, Shrinks, Moved, IfLocal, local-moved}
use Rattle.rx_history_laws.proofs.TermCode.{Coded, local-coded}
use Rattle.rx_history_laws.proofs.NestedTerm.{Nested, EachStarts, local-nested, begun-inside}
use Rattle.rx_history_laws.proofs.HeadsStep.{HeadsFrom, local-from}
use Rattle.rx_history_laws.proofs.Lies.{Moves, moves-from}
use Rattle.rx_history_laws.proofs.Turns.{answer-moved, answer-coded, answer-nested, answer-moves}

-- the first event, if there is one, is not before `low`
abbrev pub EventFrom : ℕ → List (ℕ × Cell × List ℕ) → Type 0
EventFrom low [] = Unit {0}
EventFrom low (c ∷ cells) = low ≤ c.0

event-lower : (low high : ℕ) → low ≤ high → (cells : List (ℕ × Cell × List ℕ)) → EventFrom high cells → EventFrom low cells
event-lower low high h [] k = tt
event-lower low high h (c ∷ cells) k = omega arith

pub event-from : {starts : List (Term × Vars)} {here : PlaceId} {low : ℕ} {vars : Vars} {t : Term} {batch : List (List ℕ)} {cells : List (ℕ × Cell × List ℕ)} {moves : List (ℕ × Act × List (List ℕ))} → Plays starts here low vars t batch cells moves → EventFrom low cells
event-from (local e p) = event-from p
event-from (stores a le tells b p) = le
event-from (asks {low = low} {cells = cells} {n = n} le fits so p) = event-lower low (suc n) (omega arith) cells (event-from p)
event-from (ends le e) = tt
event-from stops = tt

-- the next entry, if there is one, is not before the stamp
abbrev pub IsDue : ℕ → List (ℕ × Act × List (List ℕ)) → Type 0
IsDue stamp [] = Unit {0}
IsDue stamp (m ∷ more) = stamp ≤ m.0

pub due-from : (stamp n : ℕ) → stamp ≤ n → (es : List Entry) (c : ℕ) → IsDue stamp (moves_from n es c)
due-from stamp n h [] c = tt
due-from stamp n h (Step t act batch ∷ es) c = due_step (t.0 == c) (due-from stamp (suc n) (omega arith) es c) where
  due_step : (y : Bool) → IsDue stamp (moves_from (suc n) es c) → IsDue stamp (cons_option (cond y (Some (n, act, batch)) None) (moves_from (suc n) es c))
  due_step true k = h
  due_step false k = k
due-from stamp n h (Root lost masked thrown ∷ es) c = due-from stamp (suc n) (omega arith) es c
due-from stamp n h (Death d ∷ es) c = due-from stamp (suc n) (omega arith) es c
due-from stamp n h (Join d ∷ es) c = due-from stamp (suc n) (omega arith) es c

-- the task between its next event and what comes after it
pub record NextEvent (starts : List (Term × Vars)) (here : PlaceId) (t : Term) (x : List ℕ) (cells : List (ℕ × Cell × List ℕ)) (moves : List (ℕ × Act × List (List ℕ))) : Type 0 where
  pub low : ℕ
  pub vars : Vars
  pub after : Term
  pub batch : List (List ℕ)
  pub plays : Plays starts here low vars after batch cells moves
  pub sorted : Sorted after
  pub shrinks : Shrinks t after
  pub todo : Todo t x
  pub comes : (y : List ℕ) → Todo after y → Comes x y
  pub coded : (code : Block) → Coded code t → Coded code after
  pub nested : (ps : List (List ℕ)) → Nested t ps → Nested after ps
  pub inside : (ps : List (List ℕ)) → Nested t ps → EachStarts ps x
  pub brings : (code : Block) → Coded code t → Moves code t after

event-local : (starts : List (Term × Vars)) (here : PlaceId) (t after : Term) (x : List ℕ) (cells : List (ℕ × Cell × List ℕ)) (moves : List (ℕ × Act × List (List ℕ))) → Moved t after → ((code : Block) → Coded code t → Coded code after) → ((ps : List (List ℕ)) → Nested t ps → Nested after ps) → ((code : Block) → Coded code t → Moves code t after) → NextEvent starts here after x cells moves → NextEvent starts here t x cells moves
event-local starts here t after x cells moves m keep stay go r =
    record {
      low = r.low;
      vars = r.vars;
      after = r.after;
      batch = r.batch;
      plays = r.plays;
      sorted = r.sorted;
      shrinks = λ y h. m.shrinks y (r.shrinks y h);
      todo = m.shrinks x r.todo;
      comes = r.comes;
      coded = λ code c. r.coded code (keep code c);
      nested = λ ps n. r.nested ps (stay ps n);
      inside = λ ps n. r.inside ps (stay ps n);
      brings = λ code c y u f w l. go code c y u f w (r.brings code (keep code c) y u f w l);
    }

too_late : (n stamp : ℕ) (cell : Cell) (x : List ℕ) (cells rest : List (ℕ × Cell × List ℕ)) → EventFrom (suc n) cells → cells ≡ (stamp, cell, x) ∷ rest → stamp ≤ n → ⊥
too_late n stamp cell x [] rest h e le = cc
too_late n stamp cell x (c ∷ cells) rest h e le =
    let one : ◌≡◌ {A = ℕ × Cell × List ℕ} c (stamp, cell, x) = cc in
    let same : c.0 ≡ stamp = ap (λ (v : ℕ × Cell × List ℕ). v.0) one in
    omega arith

pub next-event : {starts : List (Term × Vars)} {here : PlaceId} {low : ℕ} {vars : Vars} {t : Term} {batch : List (List ℕ)} {cells : List (ℕ × Cell × List ℕ)} {moves : List (ℕ × Act × List (List ℕ))} → Sorted t → Plays starts here low vars t batch cells moves → (stamp : ℕ) (cell : Cell) (x : List ℕ) (rest : List (ℕ × Cell × List ℕ)) → cells ≡ (stamp, cell, x) ∷ rest → IsDue stamp moves → NextEvent starts here t x rest moves
next-event s (local {vars = vars} {left = left} {t = t} {after = after} {moves = moves} e p) stamp cell x rest same due =
    let m : Moved t after = subst (IfLocal (Moved t)) e (local-moved vars _ t s) in
    event-local _ _ t after x rest moves m (λ code c. subst (IfLocal (Coded code)) e (local-coded code vars _ t c)) (λ ps n. subst (IfLocal (λ u. Nested u ps)) e (local-nested vars _ t ps s n))
    (λ code c. moves-from code t after c (subst (IfLocal (HeadsFrom code t)) e (local-from code vars _ t c))) (next-event m.sorted p stamp cell x rest same due)
next-event {starts = starts} {here = here} s (stores {low = low} {vars = vs} {t = t} {batch = batch} {cells = more} {moves = moves} {stamp = st} {cell = ce} {x = y} a le tells b p) stamp cell x rest same due =
    let one : ◌≡◌ {A = ℕ × Cell × List ℕ} (st, ce, y) (stamp, cell, x) = cc in
    let here_x : y ≡ x = ap (λ (v : ℕ × Cell × List ℕ). v.2) one in
    let tail : more ≡ rest = cc in
    let begins_x : begins t ≡ Some x = b ∙ ap Some here_x in
    let m = answer-moved a t x begins_x s in
    let is = m.begun x begins_x in
    record {
      low = st;
      vars = vars_after a vs;
      after = answered a t;
      batch = begun t batch;
      plays = subst (λ v. Plays starts here st (vars_after a vs) (answered a t) (begun t batch) v moves) tail p;
      sorted = m.sorted;
      shrinks = m.shrinks;
      todo = is.0;
      comes = is.1;
      coded = answer-coded a t;
      nested = λ ps n. answer-nested a t x ps begins_x s n;
      inside = λ ps n. begun-inside t x ps begins_x n;
      brings = answer-moves a t;
    }
next-event s (asks {cells = cells} {n = n} le fits so p) stamp cell x rest same due = absurd (too_late n stamp cell x cells rest (event-from p) same due)
next-event s (ends le e) stamp cell x rest same due = cc
next-event s stops stamp cell x rest same due = cc

-- a task that is on its way has no event that is due
pub none-due : (starts : List (Term × Vars)) (here : PlaceId) (low : ℕ) (vars : Vars) (t : Term) (cells : List (ℕ × Cell × List ℕ)) (moves : List (ℕ × Act × List (List ℕ))) → BeginsWithArrival starts here true low vars t cells moves → (stamp : ℕ) (cell : Cell) (x : List ℕ) (rest : List (ℕ × Cell × List ℕ)) → cells ≡ (stamp, cell, x) ∷ rest → IsDue stamp moves → ⊥
none-due starts here low vars t cells [] b stamp cell x rest same due = let bad : [] ≡ (stamp, cell, x) ∷ rest = sym b ∙ same in cc
none-due starts here low vars t cells ((n, Arrive p, batch) ∷ moves) b stamp cell x rest same due = too_late n stamp cell x cells rest (event-from b.1) same due
none-due starts here low vars t cells (m ∷ moves) b stamp cell x rest same due = absurd b

-- a task that begins after the stamp has none either
pub none-before : (starts : List (Term × Vars)) (here : PlaceId) (y : Bool) (n low : ℕ) (vars : Vars) (t : Term) (cells : List (ℕ × Cell × List ℕ)) (moves : List (ℕ × Act × List (List ℕ))) → BeginsWithArrival starts here y low vars t cells moves → suc n ≤ low → (stamp : ℕ) (cell : Cell) (x : List ℕ) (rest : List (ℕ × Cell × List ℕ)) → cells ≡ (stamp, cell, x) ∷ rest → stamp ≤ n → IsDue stamp moves → ⊥
none-before starts here true n low vars t cells moves b h stamp cell x rest same le due = none-due starts here low vars t cells moves b stamp cell x rest same due
none-before starts here false n low vars t cells moves b h stamp cell x rest same le due =
    too_late n stamp cell x cells rest (event-lower (suc n) low h cells (event-from b)) same le
