-- Replies of worked calls, with the numbers that the tree gives.
use Rattle.std.proofs.Common.{◌≡◌, ℕ, ◌<◌, ◌^◌, [], Option, Some, None, zero, suc, replicate, slice_index_or, sym, ap, ◌∙◌, subst, inl, arith}
use Rattle.rx_rules.proofs.Common.{PlaceId, TaskId, ScopeId, IsOlder, Tree, task_of, inner, governs, made_act}
use Rattle.rx_rules.specs.declared.tasks.Task.{Task}
use Rattle.rx_rules.specs.declared.tasks.Where.{Where}
use Rattle.rx_rules.specs.declared.entries.Act.TheVariants.{Open, At as Calls, Spawn}
use Rattle.rx_finish.specs.declared.ledger.Caller.{Caller}
use Rattle.rx_finish.specs.Callers.{MayAsk}
use Rattle.rx_finish.specs.Calls.{Did}

abbrev pub tk : ℕ → TaskId
tk n = record { 0 = n }

abbrev pub sc : ℕ → ScopeId
sc n = record { 0 = n }

abbrev pub pl : ℕ → PlaceId
pl n = record { 0 = n }

abbrev pub who : ℕ → ℕ → ℕ → Where → Caller
who t s i w = record { task = tk t; scope = sc s; inner = sc i; place = w }

-- no place is dead yet
pub none_dead : (n m : ℕ) (k : ℕ) (d : Option ℕ) → k < m → IsOlder n (slice_index_or (replicate m None) k d)
none_dead n zero k d low = absurd (omega arith)
none_dead n (suc m) zero d low = tt
none_dead n (suc m) (suc k) d low = none_dead n m k d (omega arith)

-- a task that stands may ask
pub asks : (T : Tree) (who : Caller) (P : Task → Type 0) (x : Task) → task_of T who.task ≡ Some x → x.under ≡ who.scope → x.place ≡ who.place → inner T x ≡ who.inner → P x → T.next_task < 2 ^ 31 → T.next_scope < 2 ^ 31 → MayAsk T who P
asks T who P x e u p i h m n =
    record {
      caller = inl (record { task = x; stands = e; says = record { under = u; place = p }; inner_is = i; allowed = h });
      numbers = record { tasks = m; scopes = n };
    }

pub opened_next : (T : Tree) (who : Caller) (s : ScopeId) (S : Tree → Type 0) → Did T who (Open s who.inner []) S → S (made_act T who.task (Open (record { 0 = T.next_scope }) who.inner []))
opened_next T who s S d = subst (λ (n : ℕ). S (made_act T who.task (Open (record { 0 = n }) who.inner []))) d.allowed.asks.1 d.made

pub called_next : (T : Tree) (who : Caller) (s : ScopeId) (callee : TaskId) (from to : PlaceId) (S : Tree → Type 0) → Did T who (Calls from to s who.inner callee []) S → S (made_act T who.task (Calls from to (record { 0 = T.next_scope }) who.inner (record { 0 = T.next_task }) []))
called_next T who s callee from to S d =
    subst (λ (n : ℕ). S (made_act T who.task (Calls from to (record { 0 = T.next_scope }) who.inner (record { 0 = n }) []))) d.allowed.asks.3
    (subst (λ (n : ℕ). S (made_act T who.task (Calls from to (record { 0 = n }) who.inner callee []))) d.allowed.asks.1 d.made)

-- the task that is found is the one
the_task : (x y : Task) → Some x ≡ Some y → x ≡ y
the_task x y h = cc

pub spawned_next : (T : Tree) (who : Caller) (child : TaskId) (s : ScopeId) (from to : PlaceId) (S : Tree → Type 0) (x : Task) → task_of T who.task ≡ Some x → Did T who (Spawn child s from to []) S → S (made_act T who.task (Spawn (record { 0 = T.next_task }) (governs T x) from to []))
spawned_next T who child s from to S x e d =
    let same : d.allowed.task ≡ x = the_task d.allowed.task x (sym d.allowed.stands ∙ e) in
    subst (λ (n : ℕ). S (made_act T who.task (Spawn (record { 0 = n }) (governs T x) from to []))) d.allowed.asks.1
    (subst (λ (r : ScopeId). S (made_act T who.task (Spawn child r from to []))) (d.allowed.asks.2 ∙ ap (governs T) same) d.made)
