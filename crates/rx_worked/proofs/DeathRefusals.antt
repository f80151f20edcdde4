-- The histories of deaths that are no runs.
use Rattle.std.proofs.Common.{◌≡◌, ℕ, ◌≤◌, pos, true, false, List, [], ◌∷◌, Some, None, slice_get, arith, subst}
use Rattle.rx_rules.proofs.Common.{PlaceId, Fault, New, Term, Vars, no_vars, Empty, Run, items, Plays, asks, ends, EachPlays, BeginsNoRun, t, s, p}
use Rattle.rx_rules.specs.declared.entries.Act.{Act}
use Rattle.rx_rules.specs.declared.entries.Act.TheVariants.{End, Print}
use Rattle.rx_rules.specs.declared.tasks.Where.TheVariants.{Travel}
use Rattle.rx_rules.specs.declared.events.Cell.{Cell}
use Rattle.rx_rules.specs.declared.events.Cell.TheVariants.{Make}
use Rattle.rx_rules.specs.Plays.{local, stores}
use Rattle.rx_worked.specs.Deaths.{make_script, leaves_orphan, at_leaves_orphan, arrives_at_dead, KillOneEntryEarly, makes_between, stamped, StampIsBetween}

pub orphan_excluded : BeginsNoRun 4 leaves_orphan
orphan_excluded code heap kills joins rest js h =
    let e : false ≡ true = h.folds.allowed.1.1.1.1.1.1.1.1.1.1.1.1.1.0.asks.3.is_quiet in cc

pub at_orphan_excluded : BeginsNoRun 3 at_leaves_orphan
at_orphan_excluded code heap kills joins rest js h = let e : false ≡ true = h.folds.allowed.1.1.1.1.1.1.1.0.asks.3.is_quiet in cc

pub arrival_excluded : BeginsNoRun 2 arrives_at_dead
arrival_excluded code heap kills joins rest js h =
    let may = h.folds.allowed.1.1.1.0 in
    let found : Some (record { number = t 1; under = s 1; place = Travel (p 0) (p 1); waits = false; struck = Some (record { place = p 1; entry = 1 }) }) ≡ Some may.task = may.stands in
    let unstruck : may.task.struck ≡ None = may.unstruck in cc

pub early_kill_excluded : KillOneEntryEarly
early_kill_excluded code heap js h = let early : 4 ≤ 3 = h.folds.plan.1.1.1.0.1 in omega arith

-- the event between the two entries of task 0
abbrev made_at : ℕ → List (ℕ × Cell × List ℕ)
made_at k = (k, Make 4 0 1, 1 ∷ []) ∷ []

-- the two entries of task 0
abbrev two_moves : List (ℕ × Act × List (List ℕ))
two_moves = (0, Print (pos 1) (0 ∷ []), []) ∷ (1, End [], (1 ∷ []) ∷ []) ∷ []

-- an end is not before what comes before it
ends_by : {starts : List (Term × Vars)} {here : PlaceId} {low n : ℕ} {vars : Vars} {t : Term} {batch last : List (List ℕ)} {faults : List Fault} → Plays starts here low vars t batch [] ((n, End faults, last) ∷ []) → low ≤ n
ends_by (local e p) = ends_by p
ends_by (asks le fits so p) = le
ends_by (ends le e) = le

-- the block is made before the end
makes_by : {starts : List (Term × Vars)} {here : PlaceId} {low n k : ℕ} {vars : Vars} {batch last : List (List ℕ)} → Plays starts here low vars (Run (New 0 4) (1 ∷ []) Empty) batch (made_at k) ((n, End [], last) ∷ []) → (low ≤ k) × (k ≤ n)
makes_by (local e p) = absurd cc
makes_by (stores a le tells b p) = (le, ends_by p)
makes_by (asks le fits so p) = absurd fits

-- task 0 prints before that
between : {starts : List (Term × Vars)} {here : PlaceId} {low k : ℕ} {vars : Vars} → Plays starts here low vars (items make_script [] Empty) [] (made_at k) two_moves → k ≡ 1
between (local e p) = absurd cc
between (stores a le tells b p) = absurd tells
between {k = k} (asks le fits so p) =
    let bounds : (1 ≤ k) × (k ≤ 1) = makes_by p in
    let low : 1 ≤ k = bounds.0 in
    let up : k ≤ 1 = bounds.1 in omega (arith, low, up)

-- the start of task 0 is that of the script
main_between : (starts : List (Term × Vars)) (places k : ℕ) (own : List (Term × Vars)) → slice_get own 0 ≡ Some (items make_script [] Empty, no_vars places) → EachPlays starts makes_between (stamped k) 0 own → k ≡ 1
main_between starts places k [] e h = absurd cc
main_between starts places k (x ∷ more) e h =
    let same : x ≡ (items make_script [] Empty, no_vars places) = cc in
    between (subst (λ (x : Term × Vars). Plays starts (p 0) 0 x.1 x.0 [] (made_at k) two_moves) same h.0)

pub stamp_is_between : StampIsBetween
stamp_is_between U k h = main_between h.played.starts U.places k h.played.starts h.played.main h.played.each
