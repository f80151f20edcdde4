-- What is read of births, moves and deaths when a task's entry is appended.
use Rattle.std.proofs.Common.{◌≡◌, ◌≢◌, ℕ, suc, ◌+◌, ◌<◌, ◌==◌, cond, List, [], ◌∷◌, ◌++◌, length, Option, Some, None, refl, ap, ◌∙◌, sym, subst, arith}
use Rattle.std.specs.List.{cons_option}
use Rattle.std.proofs.lemmas.Bool.{eq-eqb, ne_eqb}
use Rattle.std.proofs.lemmas.List.{append-nil}
use Rattle.rx_rules.proofs.Common.{PlaceId, TaskId, Birth, birth_in, birth_from, birth_of, moves_from, started_by, death_number}
use Rattle.rx_rules.specs.declared.entries.Act.{Act}
use Rattle.rx_rules.specs.declared.entries.Act.TheVariants.{At as Calls, Spawn}
use Rattle.rx_rules.specs.declared.entries.Entry.{Entry}
use Rattle.rx_rules.specs.declared.entries.Entry.TheVariants.{Step}
use Rattle.rx_runs.specs.Ties.{birth_among}
use Rattle.rx_runs.proofs.Pushes.{moves-push, birth-push}
use Rattle.rx_runs.proofs.Journals.{death_same}

-- the task that the act starts has the number
abbrev pub IsNext : ℕ → Option TaskId → Type 0
IsNext size o = elim o [ Some c ↦ c.0 ≡ size | None ↦ Unit {0} ]

abbrev pub StartsAt : ℕ → Act → Type 0
StartsAt size act = IsNext size (started_by act)

pub birth_other : (size n m : ℕ) (t : TaskId) (act : Act) (batch : List (List ℕ)) → StartsAt size act → size ≢ m → birth_in n m (Step t act batch) ≡ None
birth_other size n m t (Calls from to s r c x) batch h o = rw (ne_eqb c.0 m (λ e. o (sym h ∙ e)))
birth_other size n m t (Spawn c s from to x) batch h o = rw (ne_eqb c.0 m (λ e. o (sym h ∙ e)))
birth_other size n m t _ batch h o = refl

abbrev among_then : Option Birth → Option Birth → Option Birth
among_then o rest = elim o [ Some b ↦ Some b | None ↦ rest ]

none_then : (o rest : Option Birth) → among_then o rest ≡ None → (o ≡ None) × (rest ≡ None)
none_then None rest h = (refl, h)
none_then (Some b) rest h = cc

-- a task that has no birth yet
pub among-push : (n : ℕ) (es : List Entry) (e : Entry) (t : ℕ) → birth_among n es t ≡ None → birth_in (n + length es) t e ≡ None → birth_among n (es ++ e ∷ []) t ≡ None
among-push n [] e t h k =
    let z : n + 0 ≡ n = omega arith in
    ap (λ (o : Option Birth). among_then o None) (subst (λ (i : ℕ). birth_in i t e ≡ None) z k)
among-push n (x ∷ es) e t h k =
    let z : n + length (x ∷ es) ≡ suc n + length es = omega arith in
    let two = none_then (birth_in n t x) (birth_among (suc n) es t) h in
    ap (λ (o : Option Birth). among_then o (birth_among (suc n) (es ++ e ∷ []) t)) two.0
    ∙ among-push (suc n) es e t two.1 (subst (λ (i : ℕ). birth_in i t e ≡ None) z k)

-- and one that has it now
pub birth-new : (n : ℕ) (es : List Entry) (e : Entry) (t : ℕ) (b : Birth) → birth_among n es t ≡ None → birth_in (n + length es) t e ≡ Some b → birth_from n (es ++ e ∷ []) t ≡ b
birth-new n [] e t b h k =
    let z : n + 0 ≡ n = omega arith in
    ap (λ (o : Option Birth). elim o [ Some v ↦ v | None ↦ birth_from (suc n) [] t ]) (subst (λ (i : ℕ). birth_in i t e ≡ Some b) z k)
birth-new n (x ∷ es) e t b h k =
    let z : n + length (x ∷ es) ≡ suc n + length es = omega arith in
    let two = none_then (birth_in n t x) (birth_among (suc n) es t) h in
    ap (λ (o : Option Birth). elim o [ Some v ↦ v | None ↦ birth_from (suc n) (es ++ e ∷ []) t ]) two.0
    ∙ birth-new (suc n) es e t b two.1 (subst (λ (i : ℕ). birth_in i t e ≡ Some b) z k)

-- what an entry of task t adds, where so many tasks were born
pub record Told (size : ℕ) (es more : List Entry) (t : TaskId) (act : Act) (batch : List (List ℕ)) : Type 0 where
  pub births : (m : ℕ) → m < size → birth_of more m ≡ birth_of es m
  pub moves : (m : ℕ) → t.0 ≢ m → moves_from 0 more m ≡ moves_from 0 es m
  pub own : moves_from 0 more t.0 ≡ moves_from 0 es t.0 ++ (length es, act, batch) ∷ []
  pub deaths : (p : PlaceId) → death_number 0 p more ≡ death_number 0 p es

pub told : (size : ℕ) (es : List Entry) (t : TaskId) (act : Act) (batch : List (List ℕ)) → StartsAt size act → Told size es (es ++ Step t act batch ∷ []) t act batch
told size es t act batch h =
    let z : 0 + length es ≡ length es = omega arith in
    let moved : (m : ℕ) → moves_from 0 (es ++ Step t act batch ∷ []) m ≡ moves_from 0 es m ++ cons_option (cond (t.0 == m) (Some (0 + length es, act, batch)) None) [] = λ m. moves-push 0 es (Step t act batch) m in
    record {
      births = λ m low. birth-push 0 es (Step t act batch) m (birth_other size (0 + length es) m t act batch h (λ e. omega arith));
      moves = λ m o. moved m ∙ rw (ne_eqb t.0 m o) (append-nil (moves_from 0 es m));
      own = moved t.0 ∙ rw (eq-eqb t.0 t.0 refl) (ap (λ (k : ℕ). moves_from 0 es t.0 ++ (k, act, batch) ∷ []) z);
      deaths = λ p. death_same p es (Step t act batch) refl;
    }
