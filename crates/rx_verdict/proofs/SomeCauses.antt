-- What a script's tasks make asks for some words, where each `new` does.
use Rattle.std.proofs.Common.{◌≡◌, ℕ, zero, suc, ◌+◌, ◌<◌, ◌≤◌, Bool, true, false, cond, List, [], ◌∷◌, length, take, Option, Some, None, slice_get, refl, ap, sym, subst, ◌∙◌, arith, ⊎_elim}
use Rattle.std.specs.List.{filter_map, cons_option}
use Rattle.std.proofs.lemmas.Bool.{cases_lt, eq-eqb}
use Rattle.rx_base.proofs.Elements.{get-within}
use Rattle.std.proofs.lemmas.Option.{slice_get_within}
use Rattle.rx_rules.proofs.Common.{PlaceId, TaskId, Block, Term, Empty, Vars, Answer, Does, does, child, items, AllAllowed, opening, births, opens, Cells, Moves, Starts, Tells, StartsSo, brought, cell_of, journal_at, birth_of, travels, moves_from, Given}
use Rattle.rx_rules.specs.declared.entries.Act.{Act}
use Rattle.rx_rules.specs.declared.entries.Act.TheVariants.{Open, At as Calls, Spawn, Arrive, Wait, Release, End, Print, Census}
use Rattle.rx_rules.specs.declared.entries.Entry.{Entry}
use Rattle.rx_rules.specs.declared.events.Cell.{Cell}
use Rattle.rx_rules.specs.declared.events.Cell.TheVariants.{Make, MakeFull}
use Rattle.rx_rules.specs.declared.events.PlaceEvent.{PlaceEvent}
use Rattle.rx_rules.specs.declared.events.PlaceEvent.TheVariants.{Done}
use Rattle.rx_rules.specs.Terms as terms
use Rattle.rx_tree_laws.proofs.Histories.{none_yet}
use Rattle.rx_runs.specs.SomeWords.{MakesSome, TermMakesSome}
use Rattle.rx_verdict.specs.Makes as parts
use Rattle.rx_verdict.specs.Makes.{Makes, MakesEvent, StampRule, Landing, Made, cells_of}
use Rattle.rx_verdict.specs.Verdicts.{CauseOf, HasCause, events_before}
use Rattle.rx_verdict.proofs.Births.{Has, StartsTask, parent}
use Rattle.rx_verdict.proofs.Once.{made_at}
use Rattle.rx_verdict.specs.Lawful.{CellAsksSome}
use Rattle.rx_verdict.specs.Marks.{WholePass}
use Rattle.rx_runs.proofs.SomeWords.{Keeps, keeps, some-items, some-answered, some-granted, some-child}

-- what a call that asks for some words is told, asks for some
told-some : (d : Does) (here : PlaceId) (cell : Cell) (a : Answer) → Keeps d → Tells d here cell a → CellAsksSome cell
told-some (terms.Makes name words) here (Make n s g) a k t = subst (λ z. 0 < z) (sym t.0) k
told-some (terms.Makes name words) here (MakeFull n) a k t = subst (λ z. 0 < z) (sym t.0) k
told-some d here (Make n s g) a k t = absurd t
told-some d here (MakeFull n) a k t = absurd t
told-some d here _ a k t = tt

-- what a task of such a term starts is such a term
starts_some : (starts : Starts) (t : Term) (vars : Vars) (act : Act) (c : ℕ) (s : Term × Vars) → StartsTask act c → StartsSo starts t vars act → slice_get starts c ≡ Some s → TermMakesSome t → TermMakesSome s.0
starts_some starts t vars act c s b so at h =
    let it : slice_get starts b.0.0 ≡ Some (child t, vars) = subst (λ (o : Option TaskId). elim o as (λ _. Type 0) [ Some d ↦ slice_get starts d.0 ≡ Some (child t, vars) | None ↦ Unit {0} ]) b.1 so in
    let is : Some (child t, vars) ≡ Some s = sym it ∙ (ap (λ (i : ℕ). slice_get starts i) b.2 ∙ at) in
    let same : ◌≡◌ {A = Term × Vars} (child t, vars) s = cc in
    subst (λ (z : Term × Vars). TermMakesSome z.0) same (some-child t h)

module _ (starts : Starts) (here : PlaceId) (c : ℕ) (s : Term × Vars) (at : slice_get starts c ≡ Some s) where
  child_some : {vars : Vars} {t : Term} {batch : List (List ℕ)} {cells rest : Cells} {moves : Moves} → Makes starts here vars t batch cells moves rest → TermMakesSome t → Has c moves → TermMakesSome s.0
  child_some (parts.Makes.local {vars = vars} {t = t} g m) k h = child_some m (subst Keeps g (keeps vars here.0 t k)) h
  child_some (parts.Makes.stores {t = t} a tells b m) k h = child_some m (some-answered a t k) h
  child_some (parts.Makes.asks {vars = vars} {t = t} {moves = moves} {act = act} fits so m) k h =
      ⊎_elim (λ (b : StartsTask act c). starts_some starts t vars act c s b so at k) (λ (more : Has c moves). child_some m (some-granted (brought act) t k) more) h
  child_some (parts.Makes.ends {faults = faults} e) k h = absurd (⊎_elim (λ (b : StartsTask (End faults) c). let f : ⊥ = (let e : None ≡ Some b.0 = b.1 in cc) in f) (λ (f : ⊥). f) h)
  child_some parts.Makes.stops k h = absurd h

landing_has : (c : ℕ) (X : Type 0) (P : ℕ → Moves → Type 0) → ((low : ℕ) (moves : Moves) → P low moves → Has c moves → X) → (A : Type 0) (b : Bool) (low : ℕ) (moves : Moves) → Landing P A b low moves → Has c moves → X
landing_has c X P f A false low moves k h = f low moves k h
landing_has c X P f A true low [] k h = absurd h
landing_has c X P f A true low ((n, Arrive p, batch) ∷ moves) k h =
    ⊎_elim (λ (s : StartsTask (Arrive p) c). absurd (let e : None ≡ Some s.0 = s.1 in let g : ⊥ = cc in g)) (λ (more : Has c moves). f (suc n) moves k.1 more) h
landing_has c X P f A true low ((n, Open s r x, batch) ∷ moves) k h = absurd k
landing_has c X P f A true low ((n, Calls from to s r d x, batch) ∷ moves) k h = absurd k
landing_has c X P f A true low ((n, Spawn d s from to x, batch) ∷ moves) k h = absurd k
landing_has c X P f A true low ((n, Wait s thrown, batch) ∷ moves) k h = absurd k
landing_has c X P f A true low ((n, Release s lost masked thrown, batch) ∷ moves) k h = absurd k
landing_has c X P f A true low ((n, End thrown, batch) ∷ moves) k h = absurd k
landing_has c X P f A true low ((n, Print value x, batch) ∷ moves) k h = absurd k
landing_has c X P f A true low ((n, Census count x, batch) ∷ moves) k h = absurd k

landing_of : (X : Type 0) (P : ℕ → Moves → Type 0) → ((low : ℕ) (moves : Moves) → P low moves → X) → (b : Bool) (low : ℕ) (moves : Moves) → Landing P ⊥ b low moves → X
landing_of X P f false low moves k = f low moves k
landing_of X P f true low [] k = absurd k
landing_of X P f true low ((n, Arrive p, batch) ∷ moves) k = f (suc n) moves k.1
landing_of X P f true low ((n, Open s r x, batch) ∷ moves) k = absurd k
landing_of X P f true low ((n, Calls from to s r d x, batch) ∷ moves) k = absurd k
landing_of X P f true low ((n, Spawn d s from to x, batch) ∷ moves) k = absurd k
landing_of X P f true low ((n, Wait s thrown, batch) ∷ moves) k = absurd k
landing_of X P f true low ((n, Release s lost masked thrown, batch) ∷ moves) k = absurd k
landing_of X P f true low ((n, End thrown, batch) ∷ moves) k = absurd k
landing_of X P f true low ((n, Print value x, batch) ∷ moves) k = absurd k
landing_of X P f true low ((n, Census count x, batch) ∷ moves) k = absurd k

-- all terms at births are such terms
module _ (code : Block) (q : ℕ) (es : List Entry) (js : List (List PlaceEvent)) (some : 1 ≤ q) (few : q ≤ 16) (allowed : AllAllowed 0 (opening q) es) (begin : MakesSome code) (starts : Starts) (h : Made code q es js starts) where
  all_some : (n c : ℕ) → c < n → (s : Term × Vars) → slice_get starts c ≡ Some s → TermMakesSome s.0
  all_some zero c l s at = absurd (omega arith)
  all_some (suc zero) c l s at =
      let z : 0 ≡ c = omega arith in
      let is = sym h.main ∙ (ap (λ (i : ℕ). slice_get starts i) z ∙ at) in
      let term : items code [] Empty ≡ s.0 = cc in
      subst TermMakesSome term (some-items code [] 0 Empty begin tt)
  all_some (suc (suc n)) c l s at =
      let all : length starts ≡ 1 + births es = h.all in
      let inside : c < length starts = slice_get_within starts c s at in
      ⊎_elim (λ (lt : c < suc n). all_some (suc n) c lt s at)
      (λ (ge : suc n ≤ c).
      let p = parent 0 (opening q) es (opens q some few) none_yet allowed c (omega arith) (omega arith) in
      let low : p.0 < c = p.1 in
      let r = get-within starts p.0 (omega (arith, low)) in
      landing_has c (TermMakesSome s.0) (λ low moves. (rest : Cells) × Makes starts (birth_of es p.0).to r.0.1 r.0.0 [] (cells_of es js p.0) moves rest)
      (λ low moves m has. child_some starts (birth_of es p.0).to c s at m.1 (all_some (suc n) p.0 (omega (arith, low)) r.0 r.1) has) (Unit {0})
      (travels (birth_of es p.0)) (birth_of es p.0).low (moves_from 0 es p.0) (made_at code q es js starts h p.0 r.0 r.1) p.2)
      (cases_lt c (suc n))

-- an event that such a term makes
event_some : {rule : StampRule} {starts : Starts} {here : PlaceId} {low k : ℕ} {vars : Vars} {t : Term} {batch : List (List ℕ)} {cells : Cells} {moves : Moves} → MakesEvent rule starts here low vars t batch cells moves k → TermMakesSome t → (x : ℕ × Cell × List ℕ) → slice_get cells k ≡ Some x → CellAsksSome x.1
event_some {here = here} (parts.now {vars = vars} {t = t} {cell = cell} a keep tells b) h x at =
    let same : cell ≡ x.1 = cc in subst CellAsksSome same (told-some (does vars here.0 t) here cell a (keeps vars here.0 t h) tells)
event_some {here = here} (parts.MakesEvent.local {vars = vars} {t = t} g m) h x at = event_some m (subst Keeps g (keeps vars here.0 t h)) x at
event_some (parts.MakesEvent.stores {t = t} a tells b m) h x at = event_some m (some-answered a t h) x at
event_some (parts.MakesEvent.asks {t = t} {act = act} fits so m) h x at = event_some m (some-granted (brought act) t h) x at

-- an event of a journal among those of its task
counted : {X : Type 0} (o : Option X) (xs ys : List X) (x : X) → slice_get ys (length xs) ≡ Some x → slice_get (cons_option o ys) (length (cons_option o xs)) ≡ Some x
counted None xs ys x h = h
counted (Some y) xs ys x h = h

event_of : (j : List PlaceEvent) (e : ℕ) (u : TaskId) (stamp : ℕ) (cell : Cell) (x : List ℕ) → slice_get j e ≡ Some (Done u stamp cell x) → slice_get (filter_map (cell_of u.0) j) (events_before u.0 j e) ≡ Some (stamp, cell, x)
event_of [] e u stamp cell x h = absurd (let f : ⊥ = cc in f)
event_of (y ∷ j) zero u stamp cell x h =
    let same : y ≡ Done u stamp cell x = cc in
    let is : cell_of u.0 y ≡ Some (stamp, cell, x) = ap (cell_of u.0) same ∙ ap (λ (b : Bool). cond b (Some (stamp, cell, x)) None) (eq-eqb u.0 u.0 refl) in
    ap (λ (o : Option (ℕ × Cell × List ℕ)). slice_get (cons_option o (filter_map (cell_of u.0) j)) 0) is
event_of (y ∷ j) (suc e) u stamp cell x h = counted (cell_of u.0 y) (filter_map (cell_of u.0) (take e j)) (filter_map (cell_of u.0) j) (stamp, cell, x) (event_of j e u stamp cell x h)

-- where all entries are allowed and made, an event of a task that has its cause asks for some words
pub causes_ask_some : (rule : StampRule) (code : Block) (U : Given) (es : List Entry) (js : List (List PlaceEvent)) (p e : ℕ) (task : TaskId) (stamp : ℕ) (cell : Cell) (path : List ℕ) → MakesSome code → WholePass code U es js → slice_get (journal_at js p) e ≡ Some (Done task stamp cell path) → HasCause rule code U es js p e → CellAsksSome cell
causes_ask_some rule code U es js p e task stamp cell path begin whole at cause =
    let made = subst (CauseOf rule code U es js p e) at cause in
    let place : journal_at js p ≡ journal_at js (birth_of es task.0).to.0 = ap (journal_at js) (sym made.home) in
    let k = events_before task.0 (journal_at js p) e in
    let event : slice_get (cells_of es js task.0) k ≡ Some (stamp, cell, path) = ap (λ (j : List PlaceEvent). slice_get (filter_map (cell_of task.0) j) k) (sym place) ∙ event_of (journal_at js p) e task stamp cell path at in
    let start = all_some code U.places es js whole.some whole.few whole.allowed begin made.starts made.made (suc task.0) task.0 (omega arith) made.start made.begins in
    landing_of (CellAsksSome cell) (λ low moves. MakesEvent rule made.starts (birth_of es task.0).to low made.start.1 made.start.0 [] (cells_of es js task.0) moves k)
    (λ low moves m. event_some m start (stamp, cell, path) event) (travels (birth_of es task.0)) (birth_of es task.0).low (moves_from 0 es task.0) made.event
