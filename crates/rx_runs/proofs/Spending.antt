-- No list of entries costs its terms more steps than the script's work pays for.
use Rattle.std.proofs.Common.{◌≡◌, ℕ, suc, ◌+◌, ◌*◌, ◌≤◌, Bool, true, false, List, [], ◌∷◌, length, slice_get, Option, Some, None, refl, ap, sym, arith}
use Rattle.rx_rules.proofs.Common.{PlaceId, TaskId, work, Term, Empty, Vars, items, answered, granted, child, made, births, opening, opens, Starts, Moves, brought, started_by, moves_from, birth_of, travels}
use Rattle.rx_rules.specs.declared.entries.Act.{Act}
use Rattle.rx_rules.specs.declared.entries.Act.TheVariants.{Arrive}
use Rattle.rx_rules.specs.declared.entries.Entry.{Entry}
use Rattle.rx_tree_laws.proofs.Histories.{none_yet}
use Rattle.rx_runs.specs.Steps.{steps, started_steps}
use Rattle.rx_runs.specs.AnyAnswers.{Works, local, answers, asks, ends, stops, BeginsWork, EachWorks, sum_of, StepsBounded}
use Rattle.rx_runs.proofs.Wider.{SoFor}
use Rattle.rx_runs.proofs.Weighing.{share}
use Rattle.rx_runs.proofs.Sinking.{steps_items, local_sinks, answer_sinks, entry_sinks}
use Rattle.rx_runs.proofs.Sharing.{of_moves, of_tasks, of_entries, brings, range, weight, given, all_hit, born_in_order, given_range, all_below}

-- One task.

-- what a start brings, of the tasks that start so
pub brings_share : (worth : Term → ℕ) (starts : Starts) (t : Term) (vars : Vars) (o : Option TaskId) → SoFor starts t vars o → brings (weight worth starts) o ≡ share worth (child t) o
brings_share worth starts t vars None h = refl
brings_share worth starts t vars (Some c) h = ap (λ (o : Option (Term × Vars)). elim o as (λ _. ℕ) [ Some s ↦ worth s.0 | None ↦ 0 ]) h

abbrev paid : Starts → Act → ℕ
paid starts act = brings (weight started_steps starts) (started_by act)

works_pay : {starts : Starts} {here : PlaceId} {n : ℕ} {vars : Vars} {t : Term} {moves : Moves} → Works starts here n vars t moves → n + of_moves (paid starts) moves ≤ steps t + 1
works_pay {here = here} {vars = vars} {t = t} (local {left = left} {after = after} e w) =
    let less : steps after + 1 ≤ steps t = local_sinks vars here.0 t after left e in
    omega (arith, less, works_pay w)
works_pay {here = here} {vars = vars} {t = t} (answers a h w) =
    let less : steps (answered a t) + 1 ≤ steps t = answer_sinks vars here.0 t a h in
    omega (arith, less, works_pay w)
works_pay {starts = starts} {here = here} {vars = vars} {t = t} (asks {act = act} fits so w) =
    let less : steps (granted (brought act) t) + share started_steps (child t) (started_by act) + 1 ≤ steps t = entry_sinks vars here t act fits in
    let same : brings (weight started_steps starts) (started_by act) ≡ share started_steps (child t) (started_by act) = brings_share started_steps starts t vars (started_by act) so in
    omega (arith, less, same, works_pay w)
works_pay (ends e) = omega arith
works_pay stops = omega arith

begins_pay : (starts : Starts) (here : PlaceId) (b : Bool) (n : ℕ) (vars : Vars) (t : Term) (moves : Moves) → BeginsWork starts here b n vars t moves → n + of_moves (paid starts) moves ≤ steps t + 1
begins_pay starts here false n vars t moves h = works_pay h
begins_pay starts here true n vars t [] h = let e : n ≡ 0 = h in omega arith
begins_pay starts here true n vars t ((k, Arrive p, batch) ∷ moves) h = omega (arith, works_pay h)
begins_pay starts here true n vars t ((k, _, batch) ∷ moves) h = absurd h

-- All tasks.

each_pay : (starts : Starts) (es : List Entry) (k : ℕ) (ss : Starts) (ns : List ℕ) → EachWorks starts es k ss ns → sum_of ns + of_tasks (paid starts) 0 es k ss ≤ given started_steps ss
each_pay starts es k [] [] h = omega arith
each_pay starts es k (s ∷ ss) (n ∷ ns) h =
    let here : n + of_moves (paid starts) (moves_from 0 es k) ≤ steps s.0 + 1 = begins_pay starts (birth_of es k).to (travels (birth_of es k)) n s.1 s.0 (moves_from 0 es k) h.0 in
    let rest : sum_of ns + of_tasks (paid starts) 0 es (suc k) ss ≤ given started_steps ss = each_pay starts es (suc k) ss ns h.1 in
    omega (arith, here, rest)
each_pay starts es k (s ∷ ss) [] h = absurd h
each_pay starts es k [] (n ∷ ns) h = absurd h

pub steps_bounded : StepsBounded
steps_bounded code U es n folds made =
    let starts : Starts = made.starts in
    let size : length starts ≡ 1 + births es = made.all in
    let long : length starts ≡ suc (births es) = omega (arith, size) in
    let spent : sum_of made.counts + of_tasks (paid starts) 0 es 0 starts ≤ given started_steps starts = each_pay starts es 0 starts made.counts made.each in
    let hit : of_entries (paid starts) es ≤ of_tasks (paid starts) 0 es 0 starts = all_hit (paid starts) 0 es starts (all_below 0 (opening U.places) es (length starts) (opens U.places folds.some folds.few) none_yet folds.allowed (omega (arith, size))) in
    let order : of_entries (paid starts) es ≡ range (weight started_steps starts) 1 (births es) = born_in_order (weight started_steps starts) 0 (opening U.places) es folds.allowed in
    let all : given started_steps starts ≡ range (weight started_steps starts) 0 (length starts) = given_range started_steps starts 0 starts (λ i. (let z : 0 + i ≡ i = omega arith in ap (slice_get starts) (sym z))) in
    let split : range (weight started_steps starts) 0 (length starts) ≡ weight started_steps starts 0 + range (weight started_steps starts) 1 (births es) = ap (range (weight started_steps starts) 0) long in
    let main : weight started_steps starts 0 ≡ steps (items code [] Empty) + 1 = ap (λ (o : Option (Term × Vars)). elim o as (λ _. ℕ) [ Some v ↦ started_steps v.0 | None ↦ 0 ]) made.main in
    let cost : steps (items code [] Empty) ≡ 3 * work code + 0 = steps_items code [] 0 Empty in
    omega (arith, spent, hit, order, all, split, main, cost, made.total)
