-- Births in a history: the entries of a task come after its birth, and each task but the first has a starter with a lesser number.
use Rattle.std.proofs.Common.{◌≡◌, ◌⊎◌, ℕ, suc, ◌+◌, ◌<◌, ◌≤◌, ◌==◌, Bool, true, false, cond, List, [], ◌∷◌, Some, None, All, refl, ap, sym, subst, ◌∙◌, arith, inl, inr, ⊎_elim}
use Rattle.std.specs.List.{cons_option}
use Rattle.std.proofs.lemmas.Bool.{eq-eqb, ne_eqb, cases_eq, cases_lt}
use Rattle.rx_rules.proofs.Common.{TaskId, Tree, task_of, AllowedAct, made, made_act, AllAllowed, births, births_of, Reached, IsOlder, Moves, Birth, birth_in, birth_from, moves_from, started_by}
use Rattle.rx_rules.specs.declared.entries.Act.{Act}
use Rattle.rx_rules.specs.declared.entries.Act.TheVariants.{Open, At as Calls, Spawn, Arrive, Wait, Release, End, Print, Census}
use Rattle.rx_rules.specs.declared.entries.Entry.{Entry}
use Rattle.rx_rules.specs.declared.entries.Entry.TheVariants.{Step, Root, Death, Join}
use Rattle.rx_rules.specs.declared.tasks.Task.{Task}
use Rattle.rx_tree_laws.proofs.Births.{StartsOther, from-other, from-here, births-left}
use Rattle.rx_tree_laws.proofs.Reached.{sound}
use Rattle.rx_tree_laws.proofs.Reach.{task_below}
use Rattle.rx_tree_laws.proofs.Histories.{reached_now, dead-now}
use Rattle.rx_rules.proofs.Numbers.{next-made}
use Rattle.rx_verdict.proofs.Replays.{Rises}

-- the task that acts was born
below : (T : Tree) (t : TaskId) (x : Task) → Reached T → task_of T t ≡ Some x → t.0 < T.next_task
below T t x r e = task_below T.next_task T.tasks t x (sound r).tasks_fall e

pub actor_below : (T : Tree) (t : TaskId) (act : Act) → Reached T → AllowedAct T t act → t.0 < T.next_task
actor_below T t act h a = below T t a.task h a.stands

-- the birth that an entry tells
pub newborn : (n : ℕ) (t : TaskId) (act : Act) (batch : List (List ℕ)) (d : TaskId) → started_by act ≡ Some d → (b : Birth) × (birth_in n d.0 (Step t act batch) ≡ Some b) × (b.low ≡ suc n)
newborn n t (Calls from to s r c x) batch d e =
    let same : c ≡ d = cc in
    subst (λ (z : TaskId). (b : Birth) × (birth_in n z.0 (Step t (Calls from to s r c x) batch) ≡ Some b) × (b.low ≡ suc n)) same
    (record { from = from; to = to; low = suc n }, rw (eq-eqb c.0 c.0 refl), refl)
newborn n t (Spawn c s from to x) batch d e =
    let same : c ≡ d = cc in
    subst (λ (z : TaskId). (b : Birth) × (birth_in n z.0 (Step t (Spawn c s from to x) batch) ≡ Some b) × (b.low ≡ suc n)) same
    (record { from = from; to = to; low = suc n }, rw (eq-eqb c.0 c.0 refl), refl)
newborn n t _ batch d e = absurd (let f : ⊥ = cc in f)

-- an act starts no task, or the next
abbrev pub StartsNext : Tree → Act → ℕ → Type 0
StartsNext T act k = ((d : TaskId) × (started_by act ≡ Some d) × (d.0 ≡ T.next_task) × (k ≡ 1)) ⊎ ((started_by act ≡ None) × (k ≡ 0))

pub starts : (T : Tree) (t : TaskId) (act : Act) (batch : List (List ℕ)) → AllowedAct T t act → StartsNext T act (births_of (Step t act batch))
starts T t (Open s r x) batch a = inr (refl, refl)
starts T t (Calls from to s r c x) batch a = inl (c, refl, a.asks.3, refl)
starts T t (Spawn c s from to x) batch a = inl (c, refl, a.asks.1, refl)
starts T t (Arrive p) batch a = inr (refl, refl)
starts T t (Wait s thrown) batch a = inr (refl, refl)
starts T t (Release s lost masked thrown) batch a = inr (refl, refl)
starts T t (End thrown) batch a = inr (refl, refl)
starts T t (Print value x) batch a = inr (refl, refl)
starts T t (Census count x) batch a = inr (refl, refl)

pub other_none : (act : Act) (c : ℕ) → started_by act ≡ None → StartsOther act c
other_none act c e d f g = cc (e, f)

pub other_some : (act : Act) (c : ℕ) (d : TaskId) → started_by act ≡ Some d → (d.0 ≡ c → ⊥) → StartsOther act c
other_some act c d e ne b f g = let same : d ≡ b = cc (e, f) in ne (ap (λ (z : TaskId). z.0) same ∙ g)

pub rises_lower : (low high : ℕ) → low ≤ high → (moves : Moves) → Rises high moves → Rises low moves
rises_lower low high le [] r = tt
rises_lower low high le (m ∷ moves) r = (let first : high ≤ m.0 = r.0 in omega arith, r.1)

rises_cons : (n : ℕ) (act : Act) (batch : List (List ℕ)) (moves : Moves) → Rises (suc n) moves → (b : Bool) → Rises n (cons_option (cond b (Some (n, act, batch)) None) moves)
rises_cons n act batch moves r true = (omega arith, r)
rises_cons n act batch moves r false = rises_lower n (suc n) (omega arith) moves r

-- the numbers of entries rise
pub rises_from : (n : ℕ) (es : List Entry) (c : ℕ) → Rises n (moves_from n es c)
rises_from n [] c = tt
rises_from n (Step t act batch ∷ es) c = rises_cons n act batch (moves_from (suc n) es c) (rises_from (suc n) es c) (t.0 == c)
rises_from n (Root lost masked thrown ∷ es) c = rises_lower n (suc n) (omega arith) (moves_from (suc n) es c) (rises_from (suc n) es c)
rises_from n (Death d ∷ es) c = rises_lower n (suc n) (omega arith) (moves_from (suc n) es c) (rises_from (suc n) es c)
rises_from n (Join d ∷ es) c = rises_lower n (suc n) (omega arith) (moves_from (suc n) es c) (rises_from (suc n) es c)

-- the entries of a task that is yet to be born come after its birth
pub rises_birth : (n : ℕ) (T : Tree) (es : List Entry) → Reached T → All (IsOlder n) T.dead → AllAllowed n T es → (c : ℕ) → T.next_task ≤ c → Rises (birth_from n es c).low (moves_from n es c)
rises_birth n T [] r o a c le = tt
rises_birth n T (Root lost masked thrown ∷ es) r o a c le = rises_birth (suc n) (made n T (Root lost masked thrown)) es (reached_now n T (Root lost masked thrown) r o a.0) (dead-now n T (Root lost masked thrown) o) a.1 c le
rises_birth n T (Death d ∷ es) r o a c le = rises_birth (suc n) (made n T (Death d)) es (reached_now n T (Death d) r o a.0) (dead-now n T (Death d) o) a.1 c le
rises_birth n T (Join d ∷ es) r o a c le = rises_birth (suc n) (made n T (Join d)) es (reached_now n T (Join d) r o a.0) (dead-now n T (Join d) o) a.1 c le
rises_birth n T (Step t act batch ∷ es) r o a c le =
    let low : t.0 < T.next_task = actor_below T t act r a.0 in
    let next : (made_act T t act).next_task ≡ T.next_task + births_of (Step t act batch) = next-made n T (Step t act batch) in
    let rest : (made_act T t act).next_task ≤ c → Rises (birth_from (suc n) es c).low (moves_from (suc n) es c) = λ l. rises_birth (suc n) (made_act T t act) es (reached_now n T (Step t act batch) r o a.0) (dead-now n T (Step t act batch) o) a.1 c l in
    let mine : moves_from n (Step t act batch ∷ es) c ≡ moves_from (suc n) es c = ap (λ (b : Bool). cons_option (cond b (Some (n, act, batch)) None) (moves_from (suc n) es c)) (ne_eqb t.0 c (λ e. omega arith)) in
    subst (λ (v : Moves). Rises (birth_from n (Step t act batch ∷ es) c).low v) (sym mine)
    (⊎_elim
    (λ (s : (d : TaskId) × (started_by act ≡ Some d) × (d.0 ≡ T.next_task) × (births_of (Step t act batch) ≡ 1)).
    ⊎_elim
    (λ (same : s.0.0 ≡ c).
    let b = newborn n t act batch s.0 s.1 in
    let birth : birth_from n (Step t act batch ∷ es) s.0.0 ≡ b.0 = from-here n t act batch es s.0.0 b.0 b.1 in
    let lows : (birth_from n (Step t act batch ∷ es) c).low ≡ suc n = ap (λ (i : ℕ). (birth_from n (Step t act batch ∷ es) i).low) (sym same) ∙ ap (λ (z : Birth). z.low) birth ∙ b.2 in
    subst (λ (i : ℕ). Rises i (moves_from (suc n) es c)) (sym lows) (rises_from (suc n) es c))
    (λ (ne : s.0.0 ≡ c → ⊥).
    subst (λ (z : Birth). Rises z.low (moves_from (suc n) es c)) (sym (from-other n c t act batch es (other_some act c s.0 s.1 ne)))
    (rest (let d : s.0.0 ≡ T.next_task = s.2 in let k : births_of (Step t act batch) ≡ 1 = s.3 in let more : T.next_task ≡ c → ⊥ = λ e. ne (d ∙ e) in ⊎_elim (λ (lt : T.next_task < c). omega arith) (λ (ge : c ≤ T.next_task). absurd (more (omega arith))) (cases_lt T.next_task c))))
    (cases_eq s.0.0 c))
    (λ (s : (started_by act ≡ None) × (births_of (Step t act batch) ≡ 0)).
    subst (λ (z : Birth). Rises z.low (moves_from (suc n) es c)) (sym (from-other n c t act batch es (other_none act c s.0)))
    (rest (let k : births_of (Step t act batch) ≡ 0 = s.1 in omega arith)))
    (starts T t act batch a.0))

-- an entry of the list starts task c
abbrev pub StartsTask : Act → ℕ → Type 0
StartsTask act c = (d : TaskId) × (started_by act ≡ Some d) × (d.0 ≡ c)

abbrev pub Has : ℕ → Moves → Type 0
Has c [] = ⊥
Has c (m ∷ moves) = StartsTask m.1 c ⊎ Has c moves

has_more : (c n : ℕ) (act : Act) (batch : List (List ℕ)) (b : Bool) (moves : Moves) → Has c moves → Has c (cons_option (cond b (Some (n, act, batch)) None) moves)
has_more c n act batch true moves h = inr h
has_more c n act batch false moves h = h

-- each task that is yet to be born has a starter
pub parent : (n : ℕ) (T : Tree) (es : List Entry) → Reached T → All (IsOlder n) T.dead → AllAllowed n T es → (c : ℕ) → T.next_task ≤ c → c < T.next_task + births es → (u : ℕ) × (u < c) × Has c (moves_from n es u)
parent n T [] r o a c le lt = absurd (let none : births [] ≡ 0 = refl in omega (arith, none))
parent n T (Root lost masked thrown ∷ es) r o a c le lt = parent (suc n) (made n T (Root lost masked thrown)) es (reached_now n T (Root lost masked thrown) r o a.0) (dead-now n T (Root lost masked thrown) o) a.1 c le (let sum = births-left n T (Root lost masked thrown) es in omega (arith, sum))
parent n T (Death d ∷ es) r o a c le lt = parent (suc n) (made n T (Death d)) es (reached_now n T (Death d) r o a.0) (dead-now n T (Death d) o) a.1 c le (let sum = births-left n T (Death d) es in omega (arith, sum))
parent n T (Join d ∷ es) r o a c le lt = parent (suc n) (made n T (Join d)) es (reached_now n T (Join d) r o a.0) (dead-now n T (Join d) o) a.1 c le (let sum = births-left n T (Join d) es in omega (arith, sum))
parent n T (Step t act batch ∷ es) r o a c le lt =
    let low : t.0 < T.next_task = actor_below T t act r a.0 in
    let next : (made_act T t act).next_task ≡ T.next_task + births_of (Step t act batch) = next-made n T (Step t act batch) in
    let sum = births-left n T (Step t act batch) es in
    let rest : (made_act T t act).next_task ≤ c → (u : ℕ) × (u < c) × Has c (moves_from n (Step t act batch ∷ es) u) =
    λ l. let p = parent (suc n) (made_act T t act) es (reached_now n T (Step t act batch) r o a.0) (dead-now n T (Step t act batch) o) a.1 c l (omega (arith, sum)) in (p.0, p.1, has_more c n act batch (t.0 == p.0) (moves_from (suc n) es p.0) p.2) in
    ⊎_elim
    (λ (s : (d : TaskId) × (started_by act ≡ Some d) × (d.0 ≡ T.next_task) × (births_of (Step t act batch) ≡ 1)).
    ⊎_elim
    (λ (same : s.0.0 ≡ c).
    let mine : moves_from n (Step t act batch ∷ es) t.0 ≡ (n, act, batch) ∷ moves_from (suc n) es t.0 = ap (λ (b : Bool). cons_option (cond b (Some (n, act, batch)) None) (moves_from (suc n) es t.0)) (eq-eqb t.0 t.0 refl) in
    (t.0, omega arith, subst (λ (v : Moves). Has c v) (sym mine) (inl (s.0, s.1, same))))
    (λ (ne : s.0.0 ≡ c → ⊥).
    rest (let d : s.0.0 ≡ T.next_task = s.2 in let k : births_of (Step t act batch) ≡ 1 = s.3 in let more : T.next_task ≡ c → ⊥ = λ e. ne (d ∙ e) in ⊎_elim (λ (lt : T.next_task < c). omega arith) (λ (ge : c ≤ T.next_task). absurd (more (omega arith))) (cases_lt T.next_task c)))
    (cases_eq s.0.0 c))
    (λ (s : (started_by act ≡ None) × (births_of (Step t act batch) ≡ 0)). rest (let k : births_of (Step t act batch) ≡ 0 = s.1 in omega arith))
    (starts T t act batch a.0)
