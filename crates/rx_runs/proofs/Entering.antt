-- No list of entries that terms make is longer than the script's work and the places pay for.
use Rattle.std.proofs.Common.{◌≡◌, ℕ, suc, ◌+◌, ◌*◌, ◌≤◌, Bool, true, false, cond, not, ◌||◌, ◌==◌, List, [], ◌∷◌, ◌++◌, length, filter, slice_get, Option, Some, None, All, refl, ap, ◌∙◌, sym, subst, arith}
use Rattle.std.specs.List.{find, list_any}
use Rattle.std.proofs.lemmas.Bool.{eqb-true, ne_eqb, true≢false, or_from, or_right}
use Rattle.rx_rules.proofs.Common.{PlaceId, TaskId, ScopeId, Fault, work, Term, Empty, Vars, items, answered, granted, child, Tree, is_scope, task_of, on_chain, the_root, without, after_end, made, made_act, Allowed, AllowedAct, births, births_of, AllAllowed, opening, Reached, IsOlder, opens, Event, plan_of, PlanKept, rest_of, Starts, Moves, Birth, brought, started_by, birth_in, birth_from, birth_of, travels, moves_from}
use Rattle.rx_rules.specs.declared.tasks.Task.{Task}
use Rattle.rx_rules.specs.declared.tasks.Scope.{Scope}
use Rattle.rx_rules.specs.declared.entries.Act.{Act}
use Rattle.rx_rules.specs.declared.entries.Act.TheVariants.{Open, At as Calls, Spawn, Arrive, Wait, Release, End, Print, Census}
use Rattle.rx_rules.specs.declared.entries.Entry.{Entry}
use Rattle.rx_rules.specs.declared.entries.Entry.TheVariants.{Step, Root, Death, Join}
use Rattle.rx_rules.proofs.Numbers.{next-made}
use Rattle.rx_tree_laws.specs.Chains.{meets}
use Rattle.rx_tree_laws.specs.Sound.{Sound}
use Rattle.rx_tree_laws.proofs.Stay.{any_faulted}
use Rattle.rx_tree_laws.proofs.Releasing.{on_meets, any_filter}
use Rattle.rx_tree_laws.proofs.Reached.{sound}
use Rattle.rx_tree_laws.proofs.Histories.{reached_now, dead-now, none_yet}
use Rattle.rx_runs.specs.Costs.{cost, started_cost}
use Rattle.rx_runs.specs.AnyAnswers.{Works, local, answers, asks, ends, stops, BeginsWork, EachWorks, MadeBounded}
use Rattle.rx_runs.proofs.Weighing.{share}
use Rattle.rx_runs.proofs.Costs.{cost_items, local_spends, answer_spends, entry_spends}
use Rattle.rx_runs.proofs.Spending.{brings_share}
use Rattle.rx_runs.proofs.Bounding.{one_less}
use Rattle.rx_runs.proofs.Plans.{plan_few}
use Rattle.rx_runs.proofs.Sharing.{of_moves, of_tasks, of_entries, brings, range, weight, given, all_hit, born_in_order, given_range, all_below}

-- One task.

abbrev fees : Starts → Act → ℕ
fees starts act = brings (weight started_cost starts) (started_by act)

-- an entry itself, and what it brings
abbrev due : Starts → Act → ℕ
due starts act = 1 + fees starts act

works_due : {starts : Starts} {here : PlaceId} {n : ℕ} {vars : Vars} {t : Term} {moves : Moves} → Works starts here n vars t moves → of_moves (due starts) moves ≤ cost t + 1
works_due {here = here} {vars = vars} {t = t} (local {left = left} {after = after} e w) =
    let less : cost after + 0 ≤ cost t = local_spends vars here.0 t after left e in
    omega (arith, less, works_due w)
works_due {here = here} {vars = vars} {t = t} (answers a h w) =
    let less : cost (answered a t) + 0 ≤ cost t = answer_spends vars here.0 t a h in
    omega (arith, less, works_due w)
works_due {starts = starts} {here = here} {vars = vars} {t = t} (asks {act = act} fits so w) =
    let less : cost (granted (brought act) t) + share started_cost (child t) (started_by act) + 1 ≤ cost t = entry_spends vars here t act fits in
    let same : brings (weight started_cost starts) (started_by act) ≡ share started_cost (child t) (started_by act) = brings_share started_cost starts t vars (started_by act) so in
    omega (arith, less, same, works_due w)
works_due (ends e) = omega arith
works_due stops = omega arith

abbrev one_if : Bool → ℕ
one_if b = cond b 1 0

begins_due : (starts : Starts) (here : PlaceId) (b : Bool) (n : ℕ) (vars : Vars) (t : Term) (moves : Moves) → BeginsWork starts here b n vars t moves → of_moves (due starts) moves ≤ cost t + 1 + one_if b
begins_due starts here false n vars t moves h = omega (arith, works_due h)
begins_due starts here true n vars t [] h = omega arith
begins_due starts here true n vars t ((k, Arrive p, batch) ∷ moves) h = omega (arith, works_due h)
begins_due starts here true n vars t ((k, Open s r x, batch) ∷ moves) h = absurd h
begins_due starts here true n vars t ((k, Calls from to s r c x, batch) ∷ moves) h = absurd h
begins_due starts here true n vars t ((k, Spawn c s from to x, batch) ∷ moves) h = absurd h
begins_due starts here true n vars t ((k, Wait s thrown, batch) ∷ moves) h = absurd h
begins_due starts here true n vars t ((k, Release s lost masked thrown, batch) ∷ moves) h = absurd h
begins_due starts here true n vars t ((k, End thrown, batch) ∷ moves) h = absurd h
begins_due starts here true n vars t ((k, Print value x, batch) ∷ moves) h = absurd h
begins_due starts here true n vars t ((k, Census places x, batch) ∷ moves) h = absurd h

-- All tasks.

one_most : (b : Bool) → one_if b ≤ 1
one_most true = omega arith
one_most false = omega arith

each_due : (starts : Starts) (es : List Entry) (k : ℕ) (ss : Starts) (ns : List ℕ) → EachWorks starts es k ss ns → of_tasks (due starts) 0 es k ss ≤ given started_cost ss
each_due starts es k [] [] h = omega arith
each_due starts es k (s ∷ ss) (n ∷ ns) h =
    let here : of_moves (due starts) (moves_from 0 es k) ≤ cost s.0 + 1 + one_if (travels (birth_of es k)) = begins_due starts (birth_of es k).to (travels (birth_of es k)) n s.1 s.0 (moves_from 0 es k) h.0 in
    let rest : of_tasks (due starts) 0 es (suc k) ss ≤ given started_cost ss = each_due starts es (suc k) ss ns h.1 in
    omega (arith, here, rest, one_most (travels (birth_of es k)))
each_due starts es k (s ∷ ss) [] h = absurd h
each_due starts es k [] (n ∷ ns) h = absurd h

-- the main task does not travel
main_due : (starts : Starts) (es : List Entry) (ss : Starts) (ns : List ℕ) → 1 ≤ length ss → travels (birth_of es 0) ≡ false → EachWorks starts es 0 ss ns → of_tasks (due starts) 0 es 0 ss + 1 ≤ given started_cost ss
main_due starts es [] ns some stay h = absurd (omega arith)
main_due starts es (s ∷ ss) [] some stay h = absurd h
main_due starts es (s ∷ ss) (n ∷ ns) some stay h =
    let here : of_moves (due starts) (moves_from 0 es 0) ≤ cost s.0 + 1 + one_if (travels (birth_of es 0)) = begins_due starts (birth_of es 0).to (travels (birth_of es 0)) n s.1 s.0 (moves_from 0 es 0) h.0 in
    let none : one_if (travels (birth_of es 0)) ≡ 0 = ap one_if stay in
    let rest : of_tasks (due starts) 0 es 1 ss ≤ given started_cost ss = each_due starts es 1 ss ns h.1 in
    omega (arith, here, none, rest)

no_birth : (n : ℕ) (T : Tree) (e : Entry) → 1 ≤ T.next_task → Allowed T e → birth_in n 0 e ≡ None
no_birth n T (Step t (Open s r x) batch) some may = refl
no_birth n T (Step t (Calls from to s r c x) batch) some may = let new : c.0 ≡ T.next_task = may.asks.3 in rw (ne_eqb c.0 0 (λ e. absurd (omega arith))) refl
no_birth n T (Step t (Spawn c s from to x) batch) some may = let new : c.0 ≡ T.next_task = may.asks.1 in rw (ne_eqb c.0 0 (λ e. absurd (omega arith))) refl
no_birth n T (Step t (Arrive p) batch) some may = refl
no_birth n T (Step t (Wait s thrown) batch) some may = refl
no_birth n T (Step t (Release s lost masked thrown) batch) some may = refl
no_birth n T (Step t (End thrown) batch) some may = refl
no_birth n T (Step t (Print value x) batch) some may = refl
no_birth n T (Step t (Census places x) batch) some may = refl
no_birth n T (Root lost masked thrown) some may = refl
no_birth n T (Death d) some may = refl
no_birth n T (Join p) some may = refl

main_stays : (n : ℕ) (T : Tree) (es : List Entry) → 1 ≤ T.next_task → AllAllowed n T es → travels (birth_from n es 0) ≡ false
main_stays n T [] some h = refl
main_stays n T (e ∷ es) some h =
    let next : (made n T e).next_task ≡ T.next_task + births_of e = next-made n T e in
    ap (λ (o : Option Birth). travels (elim o [ Some b ↦ b | None ↦ birth_from (suc n) es 0 ])) (no_birth n T e some h.0) ∙ main_stays (suc n) (made n T e) es (omega (arith, some, next)) h.1

-- Entries of tasks, deaths and joins, and the root's release.

abbrev planned : List Entry → ℕ
planned [] = 0
planned (Death d ∷ es) = 1 + planned es
planned (Join p ∷ es) = 1 + planned es
planned (Step t act batch ∷ es) = planned es
planned (Root lost masked thrown ∷ es) = planned es

abbrev roots : List Entry → ℕ
roots [] = 0
roots (Root lost masked thrown ∷ es) = 1 + roots es
roots (Step t act batch ∷ es) = roots es
roots (Death d ∷ es) = roots es
roots (Join p ∷ es) = roots es

-- each entry of a task once, and what it brings
all_kinds : (f : Act → ℕ) (es : List Entry) → length es + of_entries f es ≡ of_entries (λ act. 1 + f act) es + planned es + roots es
all_kinds f [] = refl
all_kinds f (Step t act batch ∷ es) = omega (arith, all_kinds f es)
all_kinds f (Root lost masked thrown ∷ es) = omega (arith, all_kinds f es)
all_kinds f (Death d ∷ es) = omega (arith, all_kinds f es)
all_kinds f (Join p ∷ es) = omega (arith, all_kinds f es)

few_planned : (n : ℕ) (xs : List Event) (es : List Entry) → PlanKept n xs es → planned es ≤ length xs
few_planned n xs [] h = omega arith
few_planned n xs (Step t act batch ∷ es) h = few_planned (suc n) xs es h.1
few_planned n xs (Root lost masked thrown ∷ es) h = few_planned (suc n) xs es h.1
few_planned n xs (Death d ∷ es) h = omega (arith, one_less n (Death d) xs h.0, few_planned (suc n) (rest_of xs) es h.1)
few_planned n xs (Join p ∷ es) h = omega (arith, one_less n (Join p) xs h.0, few_planned (suc n) (rest_of xs) es h.1)

abbrev Rootless : Tree → Type 0
Rootless T = list_any (is_scope the_root) T.scopes ≡ false

rootless_end : (T : Tree) (t : TaskId) (thrown : List Fault) → Rootless T → (o : Option Task) → task_of T t ≡ o → Rootless (after_end T t thrown)
rootless_end T t thrown r (Some x) e = rw (e, after_end) (any_faulted (λ g. g.body) (λ g. g.ends ++ thrown) (is_scope x.under) (is_scope the_root) (λ g. refl) T.scopes ∙ r)
rootless_end T t thrown r None e = rw (e, after_end) r

rootless_act : (T : Tree) (t : TaskId) (act : Act) → Sound T → AllowedAct T t act → Rootless T → Rootless (made_act T t act)
rootless_act T t (Open s p x) h may r = let new : s.0 ≡ T.next_scope = may.asks.1 in let some : 1 ≤ T.next_scope = h.numbered in or_from (s.0 == 0) (list_any (is_scope the_root) T.scopes) (ne_eqb s.0 0 (λ e. absurd (omega arith))) r
rootless_act T t (Calls from to s p c x) h may r = let new : s.0 ≡ T.next_scope = may.asks.1 in let some : 1 ≤ T.next_scope = h.numbered in or_from (s.0 == 0) (list_any (is_scope the_root) T.scopes) (ne_eqb s.0 0 (λ e. absurd (omega arith))) r
rootless_act T t (Spawn c s from to x) h may r = r
rootless_act T t (Arrive p) h may r = r
rootless_act T t (Wait s thrown) h may r = any_faulted (λ g. thrown) (λ g. g.ends) (is_scope s) (is_scope the_root) (λ g. refl) T.scopes ∙ r
rootless_act T t (Release s lost masked thrown) h may r = any_filter (is_scope the_root) (λ g. not (on_chain T s g.number)) T.scopes r
rootless_act T t (End thrown) h may r = rootless_end T t thrown r (task_of T t) refl
rootless_act T t (Print value x) h may r = r
rootless_act T t (Census places x) h may r = r

none_found : (s : ScopeId) (gs : List Scope) (g : Scope) → list_any (is_scope s) gs ≡ false → find (is_scope s) gs ≡ Some g → ⊥
none_found s [] g a e = cc
none_found s (k ∷ gs) g a e =
    (elim (is_scope s k) as (λ b. b || list_any (is_scope s) gs ≡ false → cond b (Some k) (find (is_scope s) gs) ≡ Some g → ⊥) [
      | true ↦ λ w v. true≢false w
      | false ↦ λ w v. none_found s gs g w v
    ]) a e

no_roots : (n : ℕ) (T : Tree) (es : List Entry) → Reached T → All (IsOlder n) T.dead → AllAllowed n T es → Rootless T → roots es ≡ 0
no_roots n T [] r o h less = refl
no_roots n T (Step t act batch ∷ es) r o h less = no_roots (suc n) (made n T (Step t act batch)) es (reached_now n T (Step t act batch) r o h.0) (dead-now n T (Step t act batch) o) h.1 (rootless_act T t act (sound r) h.0 less)
no_roots n T (Death d ∷ es) r o h less = no_roots (suc n) (made n T (Death d)) es (reached_now n T (Death d) r o h.0) (dead-now n T (Death d) o) h.1 less
no_roots n T (Join p ∷ es) r o h less = no_roots (suc n) (made n T (Join p)) es (reached_now n T (Join p) r o h.0) (dead-now n T (Join p) o) h.1 less
no_roots n T (Root lost masked thrown ∷ es) r o h less = absurd (none_found the_root T.scopes h.0.0 less h.0.1)

met_itself : (s : ScopeId) (gs : List Scope) → list_any (is_scope s) gs ≡ true → meets s gs (Some s) ≡ true
met_itself s [] h = absurd (true≢false (sym h))
met_itself s (g ∷ gs) h =
    (elim (is_scope s g) as (λ b. b || list_any (is_scope s) gs ≡ true → cond b (b || meets s gs g.parent) (meets s gs (Some s)) ≡ true) [
      | true ↦ λ k. refl
      | false ↦ λ k. met_itself s gs k
    ]) h

gone_if : (q : Scope → Bool) (gs : List Scope) → ((g : Scope) → is_scope the_root g ≡ true → list_any (is_scope the_root) gs ≡ true → q g ≡ false) → list_any (is_scope the_root) (filter q gs) ≡ false
gone_if q [] f = refl
gone_if q (g ∷ gs) f =
    (elim (is_scope the_root g) as (λ b. is_scope the_root g ≡ b → list_any (is_scope the_root) (cond (q g) (g ∷ filter q gs) (filter q gs)) ≡ false) [
      | true ↦ λ e.
          let out : q g ≡ false = f g e (ap (λ b. b || list_any (is_scope the_root) gs) e) in
          rw out (gone_if q gs (λ k w a. f k w (or_right (is_scope the_root g) (list_any (is_scope the_root) gs) a)))
      | false ↦ λ e.
          let rest : list_any (is_scope the_root) (filter q gs) ≡ false = gone_if q gs (λ k w a. f k w (or_right (is_scope the_root g) (list_any (is_scope the_root) gs) a)) in
          elim (q g) as (λ c. list_any (is_scope the_root) (cond c (g ∷ filter q gs) (filter q gs)) ≡ false) [
            | true ↦ or_from (is_scope the_root g) (list_any (is_scope the_root) (filter q gs)) e rest
            | false ↦ rest
          ]
    ]) refl

-- the root's release takes the root
root_released : (T : Tree) → Rootless (without T the_root)
root_released T =
    gone_if (λ g. not (on_chain T the_root g.number)) T.scopes
    (λ g e a.
    let same : g.number ≡ the_root = ap (λ (n : ℕ). let q : ScopeId = record { 0 = n } in q) (eqb-true g.number.0 0 e) in
    ap not (on_meets the_root T.scopes (Some g.number) ∙ subst (λ (v : ScopeId). meets the_root T.scopes (Some v) ≡ true) (sym same) (met_itself the_root T.scopes a)))

one_root : (n : ℕ) (T : Tree) (es : List Entry) → Reached T → All (IsOlder n) T.dead → AllAllowed n T es → roots es ≤ 1
one_root n T [] r o h = omega arith
one_root n T (Step t act batch ∷ es) r o h = one_root (suc n) (made n T (Step t act batch)) es (reached_now n T (Step t act batch) r o h.0) (dead-now n T (Step t act batch) o) h.1
one_root n T (Death d ∷ es) r o h = one_root (suc n) (made n T (Death d)) es (reached_now n T (Death d) r o h.0) (dead-now n T (Death d) o) h.1
one_root n T (Join p ∷ es) r o h = one_root (suc n) (made n T (Join p)) es (reached_now n T (Join p) r o h.0) (dead-now n T (Join p) o) h.1
one_root n T (Root lost masked thrown ∷ es) r o h =
    let none : roots es ≡ 0 = no_roots (suc n) (made n T (Root lost masked thrown)) es (reached_now n T (Root lost masked thrown) r o h.0) (dead-now n T (Root lost masked thrown) o) h.1 (root_released T) in
    omega (arith, none)

pub made_bounded : MadeBounded
made_bounded code U es n proper folds made =
    let starts : Starts = made.starts in
    let size : length starts ≡ 1 + births es = made.all in
    let long : length starts ≡ suc (births es) = omega (arith, size) in
    let stay : travels (birth_of es 0) ≡ false = main_stays 0 (opening U.places) es (omega arith) folds.allowed in
    let spent : of_tasks (due starts) 0 es 0 starts + 1 ≤ given started_cost starts = main_due starts es starts made.counts (omega (arith, size)) stay made.each in
    let hit : of_entries (due starts) es ≤ of_tasks (due starts) 0 es 0 starts = all_hit (due starts) 0 es starts (all_below 0 (opening U.places) es (length starts) (opens U.places folds.some folds.few) none_yet folds.allowed (omega (arith, size))) in
    let kinds : length es + of_entries (fees starts) es ≡ of_entries (due starts) es + planned es + roots es = all_kinds (fees starts) es in
    let order : of_entries (fees starts) es ≡ range (weight started_cost starts) 1 (births es) = born_in_order (weight started_cost starts) 0 (opening U.places) es folds.allowed in
    let all : given started_cost starts ≡ range (weight started_cost starts) 0 (length starts) = given_range started_cost starts 0 starts (λ i. (let z : 0 + i ≡ i = omega arith in ap (slice_get starts) (sym z))) in
    let split : range (weight started_cost starts) 0 (length starts) ≡ weight started_cost starts 0 + range (weight started_cost starts) 1 (births es) = ap (range (weight started_cost starts) 0) long in
    let main : weight started_cost starts 0 ≡ cost (items code [] Empty) + 2 = ap (λ (o : Option (Term × Vars)). elim o as (λ _. ℕ) [ Some v ↦ started_cost v.0 | None ↦ 0 ]) made.main in
    let first : cost (items code [] Empty) ≡ 4 * work code + 0 = cost_items code [] 0 Empty in
    let due_ones : planned es ≤ length (plan_of U) = few_planned 0 (plan_of U) es folds.plan in
    let few : length (plan_of U) + 1 ≤ U.places + 2 * length U.joins = plan_few U proper in
    let root : roots es ≤ 1 = one_root 0 (opening U.places) es (opens U.places folds.some folds.few) none_yet folds.allowed in
    omega (arith, spent, hit, kinds, order, all, split, main, first, due_ones, few, root)
