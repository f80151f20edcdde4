-- The adopter of a scope.
use Rattle.std.proofs.Common.{◌≡◌, ℕ, true, ◌==◌, Option, Some, None, is_some, option_map, IfSome, refl, sym, ap, ◌∙◌}
use Rattle.std.specs.List.{find}
use Rattle.std.proofs.lemmas.Bool.{eq-eqb, or_left, or_right}
use Rattle.rx_tree_laws.proofs.Parents.{based, parent_rooted}
use Rattle.rx_rules.proofs.Common.{ScopeId, Tree, chain_in, the_root, has_number}
use Rattle.rx_rules.specs.declared.tasks.Scope.{Scope}
use Rattle.rx_rules.specs.Counts.{adopter}
use Rattle.rx_tree_laws.specs.Chains.{meets}
use Rattle.rx_tree_laws.specs.Sound.{Sound}
use Rattle.rx_tree_laws.proofs.Changes.{each_found}
use Rattle.rx_tree_laws.proofs.Reached.{sound}
use Rattle.rx_counts.specs.declared.ledger.CountLedger.{CountLedger}
use Rattle.rx_counts.specs.Keeping.{stands_home, keeper}
use Rattle.rx_counts.specs.Stands.{StandsFor, HasScope}
use Rattle.rx_counts.proofs.Walks.{keeper_is}
use Rattle.rx_counts.proofs.Asking.{Kept, keeper_known}
use Rattle.rx_counts.proofs.Counts.{scope_record}
use Rattle.rx_counts.proofs.Sweeping.{meets_step}

told : (o : Option Scope) (k : ScopeId) → option_map (λ g. g.number.0) o ≡ Some k.0 → IfSome o (λ g. k ≡ g.number) × (is_some o ≡ true)
told (Some g) k e = let num : g.number.0 ≡ k.0 = cc in (ap (λ (n : ℕ). let q : ScopeId = record { 0 = n } in q) (sym num), refl)
told None k e = cc

pub adopter_told : (T : Tree) (s k : ScopeId) → keeper (stands_home T.dead) T.scopes (Some s) ≡ Some k.0 → IfSome (adopter T s) (λ g. k ≡ g.number) × (is_some (adopter T s) ≡ true)
adopter_told T s k e = told (find (stands_home T.dead) (chain_in T.scopes (Some s))) k (keeper_is (stands_home T.dead) T.scopes (Some s) ∙ e)

-- each scope that stands leads to the root
leads : (T : Tree) (s : ScopeId) (g : Scope) (p : Option ScopeId) → Sound T → g.parent ≡ p → find (has_number s.0) T.scopes ≡ Some g → (g.parent ≡ None → g.number.0 ≡ 0) → g.number.0 ≡ s.0 → meets the_root T.scopes (Some s) ≡ true
leads T s g None h e found base num = meets_step T.tasks T.next_scope T.scopes the_root s g h.falls h.opened found ∙ or_left (s.0 == 0) (meets the_root T.scopes g.parent) (eq-eqb s.0 0 (sym num ∙ base e))
leads T s g (Some u) h e found base num = meets_step T.tasks T.next_scope T.scopes the_root s g h.falls h.opened found ∙ or_right (s.0 == 0) (meets the_root T.scopes g.parent) (ap (meets the_root T.scopes) e ∙ parent_rooted T.tasks (has_number s.0) T.next_scope T.scopes g u h.falls h.opened found e)

pub scope_adopted : {room : ℕ} (l : CountLedger) (T : Tree) (s : ScopeId) → StandsFor l room T → HasScope T s → is_some (keeper (stands_home T.dead) T.scopes (Some s)) ≡ true
scope_adopted l T s st h =
    let k : Kept l.width T l.scopes s.0 = scope_record l T s st h in
    keeper_known T s (sound st.reached) (leads T s k.scope k.scope.parent (sound st.reached) refl k.stands (each_found (λ g. g.parent ≡ None → g.number.0 ≡ 0) (has_number s.0) T.scopes k.scope (based st.reached) k.stands) k.number)
