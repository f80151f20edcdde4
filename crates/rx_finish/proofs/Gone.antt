-- A task that has left a reached tree with a release is struck.
use Rattle.std.proofs.Common.{◌≡◌, Bool, true, false, cond, not, ◌&&◌, List, [], ◌∷◌, ◌++◌, filter, Some, None, is_some, refl, ◌⊎◌, ap, ◌∙◌, subst, inl, inr}
use Rattle.std.specs.List.{find, list_all}
use Rattle.std.proofs.lemmas.List.Folds.{list_all-append}
use Rattle.rx_rules.proofs.Common.{TaskId, ScopeId, Fault, Tree, is_task, task_of, is_under, the_root, after_end, change_scope, made_act, without, Reached, opens, acts, dies, joins}
use Rattle.rx_rules.specs.declared.tasks.Task.{Task}
use Rattle.rx_rules.specs.declared.entries.Act.{Act}
use Rattle.rx_rules.specs.declared.entries.Act.TheVariants.{Open, At as Calls, Spawn, Arrive, Wait, Release, End, Print, Census}
use Rattle.rx_rules.specs.Reached.{ends}
use Rattle.rx_tree_laws.specs.Blows.{blow_at}
use Rattle.rx_tree_laws.specs.Sound.{TaskFits, LeftFits, Sound}
use Rattle.rx_tree_laws.proofs.Changes.{each_found}
use Rattle.rx_finish.specs.declared.ledger.Caller.{Caller}
use Rattle.rx_finish.specs.Callers.{gone_of, CallerStands, HasLeft}
use Rattle.rx_finish.specs.Calls.{blow_of}

abbrev pub all_struck : List Task → Bool
all_struck xs = list_all (λ x. is_some x.struck) xs

-- what a release removes is struck
pick_struck : (p : Task → Bool) (x : Task) (rest : List Task) (a b : Bool) → is_some x.struck ≡ b → all_struck rest ≡ true → all_struck (cond (a && b) (x ∷ rest) rest) ≡ true
pick_struck p x rest true true e h = rw e h
pick_struck p x rest true false e h = h
pick_struck p x rest false b e h = h

filter_struck : (p : Task → Bool) (xs : List Task) → all_struck (filter (λ x. p x && is_some x.struck) xs) ≡ true
filter_struck p [] = refl
filter_struck p (x ∷ xs) = pick_struck p x (filter (λ x. p x && is_some x.struck) xs) (p x) (is_some x.struck) refl (filter_struck p xs)

released_struck : (T : Tree) (s : ScopeId) → all_struck T.gone ≡ true → all_struck (without T s).gone ≡ true
released_struck T s h =
    list_all-append (λ x. is_some x.struck) T.gone (filter (λ x. is_under T s x && is_some x.struck) T.tasks)
    ∙ rw (h, filter_struck (is_under T s) T.tasks)

gone-end : (T : Tree) (t : TaskId) (thrown : List Fault) → (after_end T t thrown).gone ≡ T.gone
gone-end T t thrown =
    elim (task_of T t) as
    (λ o. (elim o as (λ _. Tree) [
      | Some x ↦ change_scope (λ g. record g { ends = g.ends ++ thrown }) x.under (record T { tasks = filter (λ y. not (is_task t y)) T.tasks })
      | None ↦ T
    ]).gone ≡ T.gone) [
      | Some x ↦ refl
      | None ↦ refl
    ]

acted_struck : (T : Tree) (t : TaskId) (act : Act) → all_struck T.gone ≡ true → all_struck (made_act T t act).gone ≡ true
acted_struck T t (Open s r path) h = h
acted_struck T t (Calls from to s r callee path) h = h
acted_struck T t (Spawn child s from to path) h = h
acted_struck T t (Arrive p) h = h
acted_struck T t (Wait s thrown) h = h
acted_struck T t (Release s lost masked thrown) h = released_struck T s h
acted_struck T t (End thrown) h = ap all_struck (gone-end T t thrown) ∙ h
acted_struck T t (Print value path) h = h
acted_struck T t (Census places path) h = h

pub gone_struck : {T : Tree} → Reached T → all_struck T.gone ≡ true
gone_struck (opens places low high) = refl
gone_struck (acts {T = T} t act h may) = acted_struck T t act (gone_struck h)
gone_struck (ends {T = T} lost masked thrown h may) = released_struck T the_root (gone_struck h)
gone_struck (dies b h may old) = gone_struck h
gone_struck (joins p h may) = gone_struck h

-- one that is found there
found_next : (t : TaskId) (x y : Task) (rest : List Task) (a b : Bool) → is_task t y ≡ a → is_some y.struck ≡ b → find (is_task t) (y ∷ rest) ≡ Some x → all_struck (y ∷ rest) ≡ true → (find (is_task t) rest ≡ Some x → all_struck rest ≡ true → is_some x.struck ≡ true) → is_some x.struck ≡ true
found_next t x y rest true true e f h s ih = let same : Some y ≡ Some x = rw e at h in let this : y ≡ x = cc in subst (λ v. is_some v.struck ≡ true) this f
found_next t x y rest false true e f h s ih = ih (rw e at h) (rw f at s)
found_next t x y rest a false e f h s ih = let bad : false ≡ true = rw f at s in cc

found_struck : (t : TaskId) (x : Task) (xs : List Task) → find (is_task t) xs ≡ Some x → all_struck xs ≡ true → is_some x.struck ≡ true
found_struck t x [] h s = cc
found_struck t x (y ∷ ys) h s = found_next t x y ys (is_task t y) (is_some y.struck) refl refl h s (found_struck t x ys)

pub left_struck : (T : Tree) (t : TaskId) (x : Task) → Reached T → gone_of T t ≡ Some x → is_some x.struck ≡ true
left_struck T t x r h = found_struck t x T.gone h (gone_struck r)

-- the death that struck a caller is found from its place
pub blow_known : (T : Tree) (who : Caller) (P : Task → Type 0) → Sound T → CallerStands T who P ⊎ HasLeft T who → blow_of T who.task ≡ blow_at T.dead who.place
blow_known T who P h (inl c) = rw (c.stands, blow_of) ((each_found (TaskFits T.dead T.places T.scopes) (is_task who.task) T.tasks c.task h.tasks c.stands).struck ∙ ap (blow_at T.dead) c.says.place)
blow_known T who P h (inr c) = rw (c.none, blow_of, c.gone) ((each_found (LeftFits T.dead) (is_task who.task) T.gone c.task h.gone c.gone).struck ∙ ap (blow_at T.dead) c.says.place)
