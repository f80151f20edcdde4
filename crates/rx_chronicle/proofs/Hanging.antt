-- Scopes that tasks hang under.
use Rattle.std.proofs.Common.{◌≡◌, ℕ, ◌<◌, ◌==◌, ◌||◌, true, false, cond, List, [], ◌∷◌, Some, None, refl, ap, ◌∙◌, sym, arith, inl, inr}
use Rattle.std.proofs.lemmas.Bool.{eqb-true, true≢false}
use Rattle.rx_rules.proofs.Common.{TaskId, ScopeId, Tree, task_of, is_scope, the_root, tree_of, Given, Folds}
use Rattle.rx_rules.specs.declared.entries.Entry.{Entry}
use Rattle.rx_rules.specs.declared.tasks.Task.{Task}
use Rattle.rx_rules.specs.declared.tasks.Scope.{Scope}
use Rattle.rx_tree_laws.specs.Chains.{meets, Falls}
use Rattle.rx_tree_laws.proofs.Reached.{sound}
use Rattle.rx_tree_laws.proofs.Reach.{fits_of}
use Rattle.rx_tree_laws.proofs.Histories.{fold_reached}
use Rattle.rx_finish.specs.declared.ledger.Caller.{Caller}
use Rattle.rx_finish.specs.Callers.{MayAsk}

start_below : (s u : ScopeId) (n : ℕ) (gs : List Scope) → Falls n gs → meets s gs (Some u) ≡ true → u.0 < n
start_below s u n [] f h = absurd (true≢false (sym h))
start_below s u n (g ∷ gs) f h =
    let below : g.number.0 < n = f.0 in
    (elim (g.number.0 == u.0) as (λ b. g.number.0 == u.0 ≡ b → cond b (is_scope s g || meets s gs g.parent) (meets s gs (Some u)) ≡ true → u.0 < n) [
      | true ↦ λ e k. let at : g.number.0 ≡ u.0 = eqb-true g.number.0 u.0 e in omega arith
      | false ↦ λ e k. let r : u.0 < g.number.0 = start_below s u g.number.0 gs f.1 k in omega arith
    ]) refl h

-- the scope that a task hangs under is among those that were opened
pub under_opened : (U : Given) (es : List Entry) (t : TaskId) (x : Task) → Folds U es → task_of (tree_of U.places es) t ≡ Some x → x.under.0 < (tree_of U.places es).next_scope
under_opened U es t x folds found =
    let h = sound (fold_reached U.places es folds.some folds.few folds.allowed) in
    start_below the_root x.under (tree_of U.places es).next_scope (tree_of U.places es).scopes h.falls (fits_of (tree_of U.places es) t x h found).rooted

-- a caller that stands hangs as it says
pub says_under : (T : Tree) (who : Caller) (P : Task → Type 0) (x : Task) → MayAsk T who P → task_of T who.task ≡ Some x → x.under ≡ who.scope
says_under T who P x h found =
    elim h.caller [
      | inl s ↦ (let same : Some s.task ≡ Some x = sym s.stands ∙ found in let it : s.task ≡ x = cc in sym (ap (λ (y : Task). y.under) it) ∙ s.says.under)
      | inr s ↦ absurd (let none : None ≡ Some x = sym s.none ∙ found in let v : ⊥ = cc in v)
    ]
