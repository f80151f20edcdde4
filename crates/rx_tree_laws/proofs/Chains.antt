-- A quiet scope is seen from its own counts.
use Rattle.std.proofs.Common.{◌≡◌, ℕ, ◌<◌, true, false, cond, ◌||◌, ◌==◌, List, [], ◌∷◌, Option, Some, refl, sym, arith}
use Rattle.std.proofs.lemmas.Bool.{eqb-true, ne_eqb, true≢false}
use Rattle.rx_rules.proofs.Common.{ScopeId, is_scope, wants}
use Rattle.rx_rules.specs.declared.tasks.Scope.{Scope}
use Rattle.rx_tree_laws.specs.Chains.{meets, Falls}

-- who is met is older
pub met_below : (s : ScopeId) (n : ℕ) (gs : List Scope) (want : Option ScopeId) → Falls n gs → meets s gs want ≡ true → s.0 < n
met_below s n [] want f h = absurd (true≢false (sym h))
met_below s n (g ∷ gs) want f h =
    let below : g.number.0 < n = f.0 in
    (elim (wants want g) as (λ a. cond a (is_scope s g || meets s gs g.parent) (meets s gs want) ≡ true → s.0 < n) [
      | true ↦ λ k.
          (elim (is_scope s g) as (λ b. is_scope s g ≡ b → b || meets s gs g.parent ≡ true → s.0 < n) [
            | true ↦ λ e j. let same : g.number.0 ≡ s.0 = eqb-true g.number.0 s.0 e in omega arith
            | false ↦ λ e j. let r : s.0 < g.number.0 = met_below s g.number.0 gs g.parent f.1 j in omega arith
          ]) refl k
      | false ↦ λ k. let r : s.0 < g.number.0 = met_below s g.number.0 gs want f.1 k in omega arith
    ]) h

-- a want below a scope's number passes it by
pub skips : (g : Scope) (u : ScopeId) → u.0 < g.number.0 → wants (Some u) g ≡ false
skips g u h = ne_eqb g.number.0 u.0 (λ e. absurd (omega arith))

pub meets_skips : (s : ScopeId) (g : Scope) (gs : List Scope) (u : ScopeId) → u.0 < g.number.0 → meets s (g ∷ gs) (Some u) ≡ meets s gs (Some u)
meets_skips s g gs u h = rw (skips g u h)

-- a walk that meets a scope starts at one of the list
pub met_start : (s : ScopeId) (n : ℕ) (gs : List Scope) (u : ScopeId) → Falls n gs → meets s gs (Some u) ≡ true → u.0 < n
met_start s n [] u f m = absurd (true≢false (sym m))
met_start s n (g ∷ gs) u f m =
    let below : g.number.0 < n = f.0 in
    (elim (g.number.0 == u.0) as (λ a. g.number.0 == u.0 ≡ a → cond a (is_scope s g || meets s gs g.parent) (meets s gs (Some u)) ≡ true → u.0 < n) [
      | true ↦ λ e k. let same : g.number.0 ≡ u.0 = eqb-true g.number.0 u.0 e in omega arith
      | false ↦ λ e k. let r : u.0 < g.number.0 = met_start s g.number.0 gs u f.1 k in omega arith
    ]) refl m
