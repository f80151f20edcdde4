-- The births of a history, by the number of the entry.
use Rattle.std.proofs.Common.{◌≡◌, ℕ, suc, ◌+◌, ◌<◌, ◌≤◌, true, ◌==◌, List, [], ◌∷◌, Some, None, refl, ap, sym, subst, ◌∙◌, arith, inl, inr}
use Rattle.std.proofs.lemmas.Bool.{eq-eqb, ne_eqb, cases_eq}
use Rattle.rx_rules.proofs.Common.{PlaceId, TaskId, Tree, death_of, AllowedAct, made, made_act, AllAllowed, births, Birth, birth_in, birth_from, started_by, born_so_far}
use Rattle.rx_rules.specs.declared.entries.Act.{Act}
use Rattle.rx_rules.specs.declared.entries.Act.TheVariants.{Open, At as Calling, Spawn, Arrive, Wait, Release, End, Print as Printed, Census as Counted}
use Rattle.rx_rules.specs.declared.entries.Entry.{Entry}
use Rattle.rx_rules.specs.declared.entries.Entry.TheVariants.{Step, Root, Death, Join}
use Rattle.rx_tree_laws.proofs.Births.{StartsOther, from-other, from-here, births-left}
use Rattle.rx_history_laws.proofs.Rows.{to_in}
use Rattle.rx_history_laws.proofs.ToldPairs.{Starting, starts_none, starts_one, starting}
use Rattle.rx_history_laws.proofs.Here.{stays_here, here-called, here-spawned}

pub to-same : (past : List Entry) (T : Tree) (t : TaskId) (act : Act) (batch : List (List ℕ)) → AllowedAct T t act → (c : ℕ) → c < T.next_task → to_in (born_so_far (Step t act batch ∷ past)) c ≡ to_in (born_so_far past) c
to-same past T t (Open s r x) batch a c h = refl
to-same past T t (Calling from to s r d x) batch a c h = let e : d.0 ≡ T.next_task = a.asks.3 in rw (ne_eqb d.0 c (λ k. omega arith))
to-same past T t (Spawn d s from to x) batch a c h = let e : d.0 ≡ T.next_task = a.asks.1 in rw (ne_eqb d.0 c (λ k. omega arith))
to-same past T t (Arrive p) batch a c h = refl
to-same past T t (Wait s thrown) batch a c h = refl
to-same past T t (Release s lost masked thrown) batch a c h = refl
to-same past T t (End thrown) batch a c h = refl
to-same past T t (Printed value x) batch a c h = refl
to-same past T t (Counted places x) batch a c h = refl

-- the task that an entry starts
pub record Newborn (n : ℕ) (past : List Entry) (T : Tree) (t : TaskId) (act : Act) (batch : List (List ℕ)) (d : TaskId) : Type 0 where
  pub from : PlaceId
  pub to : PlaceId
  pub birth : birth_in n d.0 (Step t act batch) ≡ Some (record { from = from; to = to; low = suc n })
  pub dest : to_in (born_so_far (Step t act batch ∷ past)) d.0 ≡ to.0
  pub target : to.0 < T.places
  pub here : (from.0 == to.0) ≡ true → death_of T to ≡ None → stays_here (made_act T t act) d.0 to.0 ≡ true

pub newborn : (n : ℕ) (past : List Entry) (T : Tree) (t : TaskId) (act : Act) (batch : List (List ℕ)) → AllowedAct T t act → (d : TaskId) → started_by act ≡ Some d → Newborn n past T t act batch d
newborn n past T t (Calling from to s r c x) batch a d e =
    let same : c ≡ d = cc in
    subst (Newborn n past T t (Calling from to s r c x) batch) same
    (record { from = from; to = to; birth = rw (eq-eqb c.0 c.0 refl); dest = rw (eq-eqb c.0 c.0 refl); target = a.asks.4; here = here-called T t s r c from to x })
newborn n past T t (Spawn c s from to x) batch a d e =
    let same : c ≡ d = cc in
    subst (Newborn n past T t (Spawn c s from to x) batch) same
    (record { from = from; to = to; birth = rw (eq-eqb c.0 c.0 refl); dest = rw (eq-eqb c.0 c.0 refl); target = a.asks.3; here = here-spawned T t c s from to x })
newborn n past T t (Open s r x) batch a d e = cc
newborn n past T t (Arrive p) batch a d e = cc
newborn n past T t (Wait s thrown) batch a d e = cc
newborn n past T t (Release s lost masked thrown) batch a d e = cc
newborn n past T t (End thrown) batch a d e = cc
newborn n past T t (Printed value x) batch a d e = cc
newborn n past T t (Counted places x) batch a d e = cc

-- a task that is yet to be born begins after entry n
pub birth-low : (n : ℕ) (T : Tree) (es : List Entry) → AllAllowed n T es → (c : ℕ) → T.next_task ≤ c → c < T.next_task + births es → suc n ≤ (birth_from n es c).low
birth-low n T [] a c le lt = absurd (let none : births [] ≡ 0 = refl in omega (arith, none))
birth-low n T (Root lost masked thrown ∷ es) a c le lt =
    let rest = birth-low (suc n) (made n T (Root lost masked thrown)) es a.1 c le (let sum = births-left n T (Root lost masked thrown) es in omega (arith, sum)) in omega arith
birth-low n T (Death d ∷ es) a c le lt =
    let rest = birth-low (suc n) (made n T (Death d)) es a.1 c le (let sum = births-left n T (Death d) es in omega (arith, sum)) in omega arith
birth-low n T (Join d ∷ es) a c le lt =
    let rest = birth-low (suc n) (made n T (Join d)) es a.1 c le (let sum = births-left n T (Join d) es in omega (arith, sum)) in omega arith
birth-low n T (Step t act batch ∷ es) a c le lt =
    by_start (starting n T t act batch a.0)
    (λ h. birth-low (suc n) (made n T (Step t act batch)) es a.1 c h (let sum = births-left n T (Step t act batch) es in omega (arith, sum)))
  where
    later : ((made n T (Step t act batch)).next_task ≤ c → suc (suc n) ≤ (birth_from (suc n) es c).low) → (made n T (Step t act batch)).next_task ≤ c → StartsOther act c → suc n ≤ (birth_from n (Step t act batch ∷ es) c).low
    later on h o =
        let rest = on h in
        subst (λ (b : Birth). suc n ≤ b.low) (sym (from-other n c t act batch es o)) (omega arith)

    by_start : Starting n T t act batch → ((made n T (Step t act batch)).next_task ≤ c → suc (suc n) ≤ (birth_from (suc n) es c).low) → suc n ≤ (birth_from n (Step t act batch ∷ es) c).low
    by_start (starts_none none same) on = later on (omega arith) (λ d e k. let bad : None ≡ Some d = sym none ∙ e in absurd (let f : ⊥ = cc in f))
    by_start (starts_one d e new more) on =
        elim (cases_eq d.0 c) [
          | inl here ↦
              let b = newborn n [] T t act batch a.0 d e in
              let it : birth_in n c (Step t act batch) ≡ Some (record { from = b.from; to = b.to; low = suc n }) = subst (λ v. birth_in n v (Step t act batch) ≡ Some (record { from = b.from; to = b.to; low = suc n })) here b.birth in
              subst (λ (v : Birth). suc n ≤ v.low) (sym (from-here n t act batch es c (record { from = b.from; to = b.to; low = suc n }) it)) (omega arith)
          | inr other ↦ later on (omega arith)
              (λ m k i. other (let same : d ≡ m = let j : Some d ≡ Some m = sym e ∙ k in cc in ap (λ (v : TaskId). v.0) same ∙ i))
        ]
