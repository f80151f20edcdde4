-- The scopes under one, as a list of their numbers.
use Rattle.std.proofs.Common.{◌≡◌, ℕ, Bool, true, false, cond, ◌&&◌, ◌||◌, ◌==◌, List, [], ◌∷◌, map, filter, Some, refl, ap, ◌∙◌, sym}
use Rattle.std.specs.List.{list_any}
use Rattle.std.proofs.lemmas.Bool.{eqb-true}
use Rattle.rx_rules.proofs.Common.{ScopeId, is_scope, chain_in}
use Rattle.rx_rules.specs.declared.tasks.Scope.{Scope}
use Rattle.rx_tree.specs.Inside.Removal.{holds_scope}

same_scope : (a b : ScopeId) → (a.0 == b.0) ≡ true → a ≡ b
same_scope a b h = ap (λ (n : ℕ). record { 0 = n }) (eqb-true a.0 b.0 h)

stands_next : (q : Scope → Bool) (g : Scope) (gs : List Scope) (r : ScopeId) (b : Bool) → is_scope r g ≡ b → (list_any q (chain_in gs (Some r)) ≡ true → list_any (is_scope r) gs ≡ true) → list_any q (chain_in (g ∷ gs) (Some r)) ≡ true → list_any (is_scope r) (g ∷ gs) ≡ true
stands_next q g gs r true e ih h = rw e
stands_next q g gs r false e ih h = let rest : list_any q (chain_in gs (Some r)) ≡ true = rw e at h in rw e (ih rest)

-- a scope with a chain is one of the list
pub chain_stands : (q : Scope → Bool) (gs : List Scope) (r : ScopeId) → list_any q (chain_in gs (Some r)) ≡ true → list_any (is_scope r) gs ≡ true
chain_stands q [] r h = h
chain_stands q (g ∷ gs) r h = stands_next q g gs r (is_scope r g) refl (chain_stands q gs r) h

step_in : (g : Scope) (r : ScopeId) (P : ScopeId → Bool) (rest : Bool) (any : Bool) (b c : Bool) → P g.number ≡ b → (g.number.0 == r.0) ≡ c → rest ≡ (P r && any) → cond b (c || rest) rest ≡ (P r && (c || any))
step_in g r P rest any true true e f h = let same : P r ≡ true = sym (ap P (same_scope g.number r f)) ∙ e in rw same
step_in g r P rest any true false e f h = h
step_in g r P rest any false true e f h = let same : P r ≡ false = sym (ap P (same_scope g.number r f)) ∙ e in rw same (rw same at h)
step_in g r P rest any false false e f h = h

choose : (P : ScopeId → Bool) (g : Scope) (gs : List Scope) (r : ScopeId) (b : Bool) → P g.number ≡ b → holds_scope (map (λ g. g.number) (filter (λ g. P g.number) (g ∷ gs))) r ≡ cond b ((g.number.0 == r.0) || holds_scope (map (λ g. g.number) (filter (λ g. P g.number) gs)) r) (holds_scope (map (λ g. g.number) (filter (λ g. P g.number) gs)) r)
choose P g gs r true e = rw e
choose P g gs r false e = rw e

no_and : (b : Bool) → false ≡ (b && false)
no_and true = refl
no_and false = refl

-- the numbers of those that pass
pub holds_passing : (P : ScopeId → Bool) (gs : List Scope) (r : ScopeId) → holds_scope (map (λ g. g.number) (filter (λ g. P g.number) gs)) r ≡ (P r && list_any (is_scope r) gs)
holds_passing P [] r = no_and (P r)
holds_passing P (g ∷ gs) r =
    choose P g gs r (P g.number) refl
    ∙ step_in g r P (holds_scope (map (λ g. g.number) (filter (λ g. P g.number) gs)) r) (list_any (is_scope r) gs) (P g.number) (g.number.0 == r.0) refl refl (holds_passing P gs r)

and_self : (a b : Bool) → (a ≡ true → b ≡ true) → (a && b) ≡ a
and_self true b h = h refl
and_self false b h = refl

-- so a list of the scopes under s holds the scopes under s
pub holds_under : (gs : List Scope) (s r : ScopeId) → holds_scope (map (λ g. g.number) (filter (λ g. list_any (is_scope s) (chain_in gs (Some g.number))) gs)) r ≡ list_any (is_scope s) (chain_in gs (Some r))
holds_under gs s r =
    holds_passing (λ n. list_any (is_scope s) (chain_in gs (Some n))) gs r
    ∙ and_self (list_any (is_scope s) (chain_in gs (Some r))) (list_any (is_scope r) gs) (chain_stands (is_scope s) gs r)
