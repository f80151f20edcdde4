-- The births, homes and entries of tasks, and the places, after one entry more.
use Rattle.std.proofs.Common.{◌≡◌, ◌≢◌, ℕ, suc, ◌+◌, ◌<◌, ◌≤◌, List, [], ◌∷◌, ◌++◌, length, Option, Some, None, refl, ap, sym, subst, ◌∙◌, arith, ⊎_elim}
use Rattle.std.proofs.lemmas.List.Sums.{sum_by-cons}
use Rattle.rx_rules.proofs.Common.{TaskId, Block, AllowedAct, made, made_act, AllAllowed, opening, tree_of, births, births_of, Birth, Moves, birth_in, birth_of, moves_from, started_by, Given, Tree}
use Rattle.rx_base.proofs.Elements.{get-within}
use Rattle.rx_rules.specs.declared.entries.Act.{Act}
use Rattle.rx_rules.specs.declared.entries.Act.TheVariants.{At as Calls, Spawn}
use Rattle.rx_rules.specs.declared.entries.Entry.{Entry}
use Rattle.rx_rules.specs.declared.entries.Entry.TheVariants.{Step, Root, Death, Join}
use Rattle.rx_rules.specs.declared.events.PlaceEvent.{PlaceEvent}
use Rattle.rx_rules.proofs.Append.{tree-push}
use Rattle.rx_rules.proofs.Numbers.{next-tree}
use Rattle.rx_tree_laws.specs.Histories.{FoldReached}
use Rattle.rx_tree_laws.proofs.Births.{birth-other, births-left}
use Rattle.rx_runs.specs.Ties.{birth_among}
use Rattle.rx_runs.proofs.Pushes.{birth-push}
use Rattle.rx_runs.proofs.Told.{StartsAt, Told, told, birth-new}
use Rattle.rx_verdict.specs.Marks.{after, home_of, low_of}
use Rattle.rx_verdict.specs.Parts.{IsQuiet}
use Rattle.rx_verdict.specs.Seats as pass
use Rattle.rx_verdict.specs.Seats.{Seated}
use Rattle.rx_verdict.proofs.Births.{actor_below, other_none, other_some, starts}
use Rattle.rx_verdict.proofs.Parting.{no_birth, no_moves}
use Rattle.rx_verdict.proofs.Passing.{Stage, newborn_none}
use Rattle.rx_runs.proofs.Knowing.{made_grows}

-- After more entries a task has the home and the last entry that it had, and no place has gone.
pub record Keeps (places : ℕ) (es later : List Entry) (u : ℕ) : Type 0 where
  pub home : home_of later u ≡ home_of es u
  pub low : low_of later u ≡ low_of es u
  pub wider : (tree_of places es).places ≤ (tree_of places later).places

-- Places.

pub places_stay : (places : ℕ) (es : List Entry) (e : Entry) → (tree_of places es).places ≤ (tree_of places (es ++ e ∷ [])).places
places_stay places es e = subst (λ (T : Tree). (tree_of places es).places ≤ T.places) (sym (tree-push places es e)) (made_grows (length es) (tree_of places es) e)

-- An entry of no task.

-- of one birth and entries, one home and one last entry
same_read : (places : ℕ) (es : List Entry) (e : Entry) (u : ℕ) → birth_of (es ++ e ∷ []) u ≡ birth_of es u → moves_from 0 (es ++ e ∷ []) u ≡ moves_from 0 es u → Keeps places es (es ++ e ∷ []) u
same_read places es e u birth moves =
    record {
      home = ap (λ (b : Birth). b.to) birth;
      low = λ j. after (birth j).low (moves j);
      wider = places_stay places es e;
    }

pub quiet_keeps : (places : ℕ) (es : List Entry) (e : Entry) → IsQuiet e → (u : ℕ) → Keeps places es (es ++ e ∷ []) u
quiet_keeps places es e q u =
    same_read places es e u (birth-push 0 es e u (no_birth (0 + length es) u e q)) (no_moves es e q u)

-- An act of a task.

-- it starts none, or the next
starts_next : (T : Tree) (t : TaskId) (act : Act) → AllowedAct T t act → StartsAt T.next_task act
starts_next T t (Calls from to s r c x) a = a.asks.3
starts_next T t (Spawn c s from to x) a = a.asks.1
starts_next T t act a = tt

after_push : (low : ℕ) (moves : Moves) (m : ℕ × Act × List (List ℕ)) → after low (moves ++ m ∷ []) ≡ suc m.0
after_push low [] m = refl
after_push low (x ∷ moves) m = after_push (suc x.0) moves m

-- a task that is not born yet has no birth
unborn : (n : ℕ) (T : Tree) (es : List Entry) → AllAllowed n T es → (c : ℕ) → T.next_task + births es ≤ c → birth_among n es c ≡ None
unborn n T [] a c le = refl
unborn n T (Step t act batch ∷ es) a c le =
    let sum = births-left n T (Step t act batch) es in
    let all : births (Step t act batch ∷ es) ≡ births_of (Step t act batch) + births es = sum_by-cons births_of (Step t act batch) es in
    let none : birth_in n c (Step t act batch) ≡ None =
    ⊎_elim
    (λ (s : (d : TaskId) × (started_by act ≡ Some d) × (d.0 ≡ T.next_task) × (births_of (Step t act batch) ≡ 1)).
    birth-other n c t act batch (other_some act c s.0 s.1 (λ e. let d = s.2 in let k = s.3 in omega (arith, d, k, e, all, le))))
    (λ (s : (started_by act ≡ None) × (births_of (Step t act batch) ≡ 0)). birth-other n c t act batch (other_none act c s.0))
    (starts T t act batch a.0) in
    ap (λ (o : Option Birth). elim o as (λ _. Option Birth) [ Some b ↦ Some b | None ↦ birth_among (suc n) es c ]) none
    ∙ unborn (suc n) (made_act T t act) es a.1 c (omega (arith, sum, le))
unborn n T (Root lost masked thrown ∷ es) a c le = unborn (suc n) (made n T (Root lost masked thrown)) es a.1 c (let sum = births-left n T (Root lost masked thrown) es in omega (arith, sum))
unborn n T (Death d ∷ es) a c le = unborn (suc n) (made n T (Death d)) es a.1 c (let sum = births-left n T (Death d) es in omega (arith, sum))
unborn n T (Join d ∷ es) a c le = unborn (suc n) (made n T (Join d)) es a.1 c (let sum = births-left n T (Join d) es in omega (arith, sum))

module _ (code : Block) (U : Given) (es : List Entry) (js : List (List PlaceEvent)) (seats : List pass.Seat) (p : Seated code U es js seats) (t : TaskId) (act : Act) (batch : List (List ℕ)) (may : AllowedAct (tree_of U.places es) t act) where
  abbrev more : List Entry
  more = es ++ Step t act batch ∷ []

  size : (tree_of U.places es).next_task ≡ 1 + births es
  size = next-tree U.places es

  -- the task that it starts has the next number
  pub starts_at : StartsAt (1 + births es) act
  starts_at = subst (λ (n : ℕ). StartsAt n act) size (starts_next (tree_of U.places es) t act may)

  told_so : Told (1 + births es) es more t act batch
  told_so = told (1 + births es) es t act batch starts_at

  -- the task that acts was born
  pub actor_born : FoldReached → t.0 < 1 + births es
  actor_born reached =
      let low = actor_below (tree_of U.places es) t act (reached U.places es p.some p.few p.allowed) may in
      let k = size in
      omega (arith, low, k)

  pub others_keep : (u : ℕ) → u < 1 + births es → t.0 ≢ u → Keeps U.places es more u
  others_keep u low ne = same_read U.places es (Step t act batch) u (told_so.births u low) (told_so.moves u ne)

  pub own_home : t.0 < 1 + births es → home_of more t.0 ≡ home_of es t.0
  own_home low = ap (λ (b : Birth). b.to) (told_so.births t.0 low)

  pub own_low : low_of more t.0 ≡ suc (length es)
  own_low = ap (λ (m : Moves). after (birth_of more t.0).low m) told_so.own ∙ after_push (birth_of more t.0).low (moves_from 0 es t.0) (length es, act, batch)

  -- the task that the act starts has the next number, and its birth
  pub newborn_birth : (c : TaskId) (b : Birth) → c.0 ≡ 1 + births es → birth_in (0 + length es) c.0 (Step t act batch) ≡ Some b → birth_of more c.0 ≡ b
  newborn_birth c b at in_it =
      let z : (opening U.places).next_task + births es ≤ c.0 = omega (arith, at) in
      birth-new 0 es (Step t act batch) c.0 b (unborn 0 (opening U.places) es p.allowed c.0 z) in_it

  -- and no entries
  pub newborn_moves : (c : TaskId) → t.0 < 1 + births es → c.0 ≡ 1 + births es → moves_from 0 more c.0 ≡ []
  newborn_moves c low at =
      let all : length p.starts ≡ 1 + births es = p.made.all in
      let s = get-within p.starts t.0 (omega (arith, low, all)) in
      let stage : Stage code U.places es js p.starts t act batch s.0 =
      record { some = p.some; few = p.few; allowed = p.allowed; made = p.made; next = may; start = s.1 } in
      ap (λ (n : ℕ). moves_from 0 more n) at ∙ newborn_none code U.places es js p.starts t act batch s.0 stage
