-- A history of allowed entries folds to a tree that can be reached, and its dead are those that the history tells.
use Rattle.std.proofs.Common.{◌≡◌, ℕ, zero, suc, ◌+◌, ◌<◌, ◌≤◌, ◌==◌, cond, Bool, true, false, length, List, [], ◌∷◌, ◌++◌, not, filter, replicate, slice_index_or, slice_set, Option, Some, None, All, refl, sym, subst, ap, ◌∙◌, arith}
use Rattle.std.proofs.lemmas.Bool.{eqb-true, eqb-false}
use Rattle.std.proofs.lemmas.List.{length-replicate, get_or-set_same, get_or-set_other}
use Rattle.std.proofs.lemmas.List.Elements.{All-set}
use Rattle.rx_rules.proofs.Common.{PlaceId, TaskId, Fault, Tree, is_task, task_of, death_of, Allowed, made, made_act, after_end, change_scope, AllAllowed, wide_opening, fold_from, Reached, IsOlder, opens, acts, dies, joins, death_number}
use Rattle.rx_rules.specs.declared.entries.Act.TheVariants.{Open, At as Calls, Spawn, Arrive, Wait, Release, End, Print, Census}
use Rattle.rx_rules.specs.declared.entries.Entry.{Entry}
use Rattle.rx_rules.specs.declared.entries.Entry.TheVariants.{Step, Root, Death, Join}
use Rattle.rx_rules.specs.declared.entries.Act.{Act}
use Rattle.rx_rules.specs.Reached.{ends}
use Rattle.rx_tree_laws.specs.Sound.{Sound}
use Rattle.rx_tree_laws.specs.Histories.{FoldReached, DeadAsTold, WideFoldReached, WideDeadAsTold}
pub use Rattle.rx_tree_laws.proofs.Reach.{no_dead}
use Rattle.rx_tree_laws.proofs.Reached.{sound}

older : (n : ℕ) (o : Option ℕ) → IsOlder n o → IsOlder (suc n) o
older n None h = tt
older n (Some k) h = omega (arith, h)

all_older : (n : ℕ) (xs : List (Option ℕ)) → All (IsOlder n) xs → All (IsOlder (suc n)) xs
all_older n xs h = λ k d low. older n _ (h k d low)

dead-end : (T : Tree) (t : TaskId) (thrown : List Fault) → (after_end T t thrown).dead ≡ T.dead
dead-end T t thrown =
    elim (task_of T t) as
    (λ o. (elim o as (λ _. Tree) [
      | Some x ↦ change_scope (λ g. record g { ends = g.ends ++ thrown }) x.under (record T { tasks = filter (λ y. not (is_task t y)) T.tasks })
      | None ↦ T
    ]).dead ≡ T.dead) [
      | Some x ↦ refl
      | None ↦ refl
    ]

-- an act of a task leaves the dead as they are
pub dead-act : (T : Tree) (t : TaskId) (act : Act) → (made_act T t act).dead ≡ T.dead
dead-act T t (Open s r path) = refl
dead-act T t (Calls from to s r callee path) = refl
dead-act T t (Spawn child s from to path) = refl
dead-act T t (Arrive p) = refl
dead-act T t (Wait s thrown) = refl
dead-act T t (Release s lost masked thrown) = refl
dead-act T t (End thrown) = dead-end T t thrown
dead-act T t (Print value path) = refl
dead-act T t (Census places path) = refl

pub dead-now : (n : ℕ) (T : Tree) (e : Entry) → All (IsOlder n) T.dead → All (IsOlder (suc n)) (made n T e).dead
dead-now n T (Step t act batch) h = subst (λ (xs : List (Option ℕ)). All (IsOlder (suc n)) xs) (sym (dead-act T t act)) (all_older n T.dead h)
dead-now n T (Root lost masked thrown) h = all_older n T.dead h
dead-now n T (Join joined) h = all_older n T.dead h
dead-now n T (Death d) h = All-set (IsOlder (suc n)) T.dead d.0 (Some n) (omega arith) (all_older n T.dead h)

-- the deaths of a tree are older than the next entry
pub older-from : (n : ℕ) (T : Tree) (es : List Entry) → All (IsOlder n) T.dead → All (IsOlder (n + length es)) (fold_from n T es).dead
older-from n T [] o = let e : n ≡ n + 0 = omega arith in subst (λ (m : ℕ). All (IsOlder m) T.dead) e o
older-from n T (x ∷ es) o =
    let e : suc n + length es ≡ n + length (x ∷ es) = omega arith in
    subst (λ (m : ℕ). All (IsOlder m) (fold_from (suc n) (made n T x) es).dead) e (older-from (suc n) (made n T x) es (dead-now n T x o))

pub reached_now : (n : ℕ) (T : Tree) (e : Entry) → Reached T → All (IsOlder n) T.dead → Allowed T e → Reached (made n T e)
reached_now n T (Step t act batch) r o h = acts t act r h
reached_now n T (Root lost masked thrown) r o h = ends lost masked thrown r h
reached_now n T (Join p) r o h = joins p r h
reached_now n T (Death d) r o h = dies (record { place = d; entry = n }) r h o

reaches : (n : ℕ) (T : Tree) (es : List Entry) → Reached T → All (IsOlder n) T.dead → AllAllowed n T es → Reached (fold_from n T es)
reaches n T [] r o h = r
reaches n T (e ∷ es) r o h = reaches (suc n) (made n T e) es (reached_now n T e r o h.0) (dead-now n T e o) h.1

none_there : (n m k : ℕ) (d : Option ℕ) → k < m → IsOlder n (slice_index_or (replicate m None) k d)
none_there n zero k d low = absurd (omega arith)
none_there n (suc m) zero d low = tt
none_there n (suc m) (suc k) d low = none_there n m k d (omega arith)

pub none_yet_of : (limit : ℕ) → All (IsOlder 0) (replicate limit None)
none_yet_of limit = λ k d low. none_there 0 limit k d (subst (λ n. k < n) (length-replicate limit None) low)

pub none_yet : All (IsOlder 0) (replicate 16 None)
none_yet = none_yet_of 16

pub wide_fold_reached : WideFoldReached
wide_fold_reached limit places es low high h = reaches 0 (wide_opening limit places) es (opens places low high) (none_yet_of limit) h

pub fold_reached : FoldReached
fold_reached = wide_fold_reached 16

-- The dead.

abbrev first_of : Option ℕ → Option ℕ → Option ℕ
first_of (Some k) o = Some k
first_of None o = o

pub first_none : (o : Option ℕ) → first_of o None ≡ o
first_none None = refl
first_none (Some k) = refl

told_act : (T : Tree) (t : TaskId) (act : Act) (p : PlaceId) (later : Option ℕ) → first_of (death_of (made_act T t act) p) later ≡ first_of (death_of T p) later
told_act T t act p later = ap (λ (xs : List (Option ℕ)). first_of (slice_index_or xs p.0 None) later) (dead-act T t act)

told_death : (n : ℕ) (T : Tree) (d p : PlaceId) (later : Option ℕ) → d.0 < length T.dead → death_of T d ≡ None → (b : Bool) → (d.0 == p.0) ≡ b → first_of (slice_index_or (slice_set T.dead d.0 (Some n)) p.0 None) later ≡ first_of (death_of T p) (cond b (Some n) later)
told_death n T d p later low lives true e =
    let same : d.0 ≡ p.0 = eqb-true d.0 p.0 e in
    let it : d ≡ p = ap (λ (k : ℕ). let q : PlaceId = record { 0 = k } in q) same in
    subst (λ (q : PlaceId). first_of (slice_index_or (slice_set T.dead d.0 (Some n)) q.0 None) later ≡ first_of (death_of T q) (Some n)) it
    (ap (λ (o : Option ℕ). first_of o later) (get_or-set_same T.dead d.0 (Some n) None low) ∙ sym (ap (λ (o : Option ℕ). first_of o (Some n)) lives))
told_death n T d p later low lives false e = ap (λ (o : Option ℕ). first_of o later) (get_or-set_other T.dead d.0 p.0 (Some n) None (λ v. eqb-false d.0 p.0 e (sym v)))

told_from : (n : ℕ) (T : Tree) (es : List Entry) (p : PlaceId) → Reached T → All (IsOlder n) T.dead → AllAllowed n T es → death_of (fold_from n T es) p ≡ first_of (death_of T p) (death_number n p es)
told_from n T [] p r o h = sym (first_none (death_of T p))
told_from n T (Step t act batch ∷ es) p r o h =
    told_from (suc n) (made n T (Step t act batch)) es p (reached_now n T (Step t act batch) r o h.0) (dead-now n T (Step t act batch) o) h.1
    ∙ told_act T t act p (death_number (suc n) p es)
told_from n T (Root lost masked thrown ∷ es) p r o h =
    told_from (suc n) (made n T (Root lost masked thrown)) es p (reached_now n T (Root lost masked thrown) r o h.0) (dead-now n T (Root lost masked thrown) o) h.1
told_from n T (Join j ∷ es) p r o h =
    told_from (suc n) (made n T (Join j)) es p (reached_now n T (Join j) r o h.0) (dead-now n T (Join j) o) h.1
told_from n T (Death d ∷ es) p r o h =
    let s : Sound T = sound r in
    let inside : d.0 < length T.dead = (let a : d.0 < T.places = h.0.0 in let b : T.places ≤ length T.dead = s.few in omega arith) in
    told_from (suc n) (made n T (Death d)) es p (reached_now n T (Death d) r o h.0) (dead-now n T (Death d) o) h.1
    ∙ told_death n T d p (death_number (suc n) p es) inside h.0.2 (d.0 == p.0) refl

pub wide_dead_as_told : WideDeadAsTold
wide_dead_as_told limit places es p low high h =
    told_from 0 (wide_opening limit places) es p (opens places low high) (none_yet_of limit) h ∙ ap (λ (o : Option ℕ). first_of o (death_number 0 p es)) (no_dead limit p.0)

pub dead_as_told : DeadAsTold
dead_as_told = wide_dead_as_told 16
