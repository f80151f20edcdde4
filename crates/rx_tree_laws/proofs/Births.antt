-- The births of a history, entry by entry.
use Rattle.std.proofs.Common.{◌≡◌, ℕ, suc, ◌+◌, ◌<◌, List, [], ◌∷◌, Option, Some, None, refl, ap, sym, ◌∙◌, arith}
use Rattle.std.proofs.lemmas.Bool.{ne_eqb}
use Rattle.std.proofs.lemmas.List.Sums.{sum_by-cons}
use Rattle.rx_rules.proofs.Common.{TaskId, Tree, AllowedAct, made, made_act, AllAllowed, births, births_of, Birth, birth_in, birth_from, started_by}
use Rattle.rx_rules.specs.declared.entries.Act.{Act}
use Rattle.rx_rules.specs.declared.entries.Act.TheVariants.{At as Calls, Spawn}
use Rattle.rx_rules.specs.declared.entries.Entry.{Entry}
use Rattle.rx_rules.specs.declared.entries.Entry.TheVariants.{Step, Root, Death, Join}
use Rattle.rx_rules.proofs.Numbers.{next-made}

-- an entry that starts no task, or another
abbrev pub StartsOther : Act → ℕ → Type 0
StartsOther act c = (d : TaskId) → started_by act ≡ Some d → d.0 ≡ c → ⊥

pub birth-other : (n c : ℕ) (t : TaskId) (act : Act) (batch : List (List ℕ)) → StartsOther act c → birth_in n c (Step t act batch) ≡ None
birth-other n c t (Calls from to s r d x) batch o = rw (ne_eqb d.0 c (o d refl))
birth-other n c t (Spawn d s from to x) batch o = rw (ne_eqb d.0 c (o d refl))
birth-other n c t _ batch o = refl

pub from-other : (n c : ℕ) (t : TaskId) (act : Act) (batch : List (List ℕ)) (es : List Entry) → StartsOther act c → birth_from n (Step t act batch ∷ es) c ≡ birth_from (suc n) es c
from-other n c t act batch es o = ap (λ (v : Option Birth). elim v as (λ _. Birth) [ Some b ↦ b | None ↦ birth_from (suc n) es c ]) (birth-other n c t act batch o)

pub from-here : (n : ℕ) (t : TaskId) (act : Act) (batch : List (List ℕ)) (es : List Entry) (c : ℕ) (b : Birth) → birth_in n c (Step t act batch) ≡ Some b → birth_from n (Step t act batch ∷ es) c ≡ b
from-here n t act batch es c b e = ap (λ (v : Option Birth). elim v as (λ _. Birth) [ Some b ↦ b | None ↦ birth_from (suc n) es c ]) e

-- births add up
pub births-left : (n : ℕ) (T : Tree) (e : Entry) (es : List Entry) → T.next_task + births (e ∷ es) ≡ (made n T e).next_task + births es
births-left n T e es =
    let sum : births (e ∷ es) ≡ births_of e + births es = sum_by-cons births_of e es in
    let next : (made n T e).next_task ≡ T.next_task + births_of e = next-made n T e in
    omega (arith, sum, next)

-- the task that an act starts has the next number
pub started-next : (T : Tree) (t : TaskId) (act : Act) → AllowedAct T t act → (d : TaskId) → started_by act ≡ Some d → d.0 ≡ T.next_task
started-next T t (Calls from to s r c x) a d e = let same : c ≡ d = cc in ap (λ (v : TaskId). v.0) (sym same) ∙ a.asks.3
started-next T t (Spawn c s from to x) a d e = let same : c ≡ d = cc in ap (λ (v : TaskId). v.0) (sym same) ∙ a.asks.1
started-next T t _ a d e = absurd (let f : ⊥ = cc in f)

-- a task that was born before is not born again
pub born_before : (n : ℕ) (T : Tree) (es : List Entry) → AllAllowed n T es → (c : ℕ) → c < T.next_task → birth_from n es c ≡ record { from = record { 0 = 0 }; to = record { 0 = 0 }; low = 0 }
born_before n T [] a c l = refl
born_before n T (Step t act batch ∷ es) a c l =
    let next : (made_act T t act).next_task ≡ T.next_task + births_of (Step t act batch) = next-made n T (Step t act batch) in
    let other : StartsOther act c = λ d e k. (let new : d.0 ≡ T.next_task = started-next T t act a.0 d e in omega (arith, new, k, l)) in
    from-other n c t act batch es other ∙ born_before (suc n) (made_act T t act) es a.1 c (omega (arith, next, l))
born_before n T (Root lost masked thrown ∷ es) a c l = born_before (suc n) (made n T (Root lost masked thrown)) es a.1 c l
born_before n T (Death d ∷ es) a c l = born_before (suc n) (made n T (Death d)) es a.1 c l
born_before n T (Join d ∷ es) a c l = born_before (suc n) (made n T (Join d)) es a.1 c l
