-- A walk by numbers goes along the chain.
use Rattle.std.proofs.Common.{◌≡◌, ℕ, Bool, true, false, cond, List, Option, Some, None, is_none, option_map, slice_index_or, refl, sym, ap, ◌∙◌, subst}
use Rattle.std.specs.List.{find}
use Rattle.std.specs.Global.{Box}
use Rattle.std.proofs.lemmas.Bool.{eqb-true}
use Rattle.rx_rules.proofs.Common.{PlaceId, ScopeId, Tree, is_scope, has_number}
use Rattle.rx_base.proofs.Elements.{find-passes}
use Rattle.rx_rules.specs.declared.tasks.Blow.{Blow}
use Rattle.rx_rules.specs.declared.tasks.Scope.{Scope}
use Rattle.rx_tree_laws.specs.Blows.{death_blow}
use Rattle.rx_counts.specs.declared.record.Record.{Record}
use Rattle.rx_counts.specs.Keeping.{stands_home, keeper}
use Rattle.rx_counts.specs.Stands.{Both, ShapeOf, IsShaped, record_at}
use Rattle.rx_counts.proofs.Walks.{keeper_step, keeper_missing, keeper_nothing, parent_older, OlderThan}

none_same : (o : Option ℕ) (p : PlaceId) → is_none (option_map (λ n. let b : Blow = record { place = p; entry = n } in b) o) ≡ is_none o
none_same (Some n) p = refl
none_same None p = refl

pub both_none : (P : Record → Scope → Type 0) (a : Option Record) (b : Option Scope) → Both P a b → a ≡ None → b ≡ None
both_none P (Some r) b h e = cc
both_none P None (Some g) h e = absurd h
both_none P None None h e = refl

pub both_some : (P : Record → Scope → Type 0) (a : Option Record) (b : Option Scope) (r : Record) → Both P a b → a ≡ Some r → (g : Scope) × (b ≡ Some g) × P r g
both_some P (Some q) (Some g) r h e = let same : q ≡ r = cc in (g, refl, subst (λ (v : Record). P v g) same h)
both_some P (Some q) None r h e = absurd h
both_some P None b r h e = cc

pub both_found : (P : Record → Scope → Type 0) (a : Option Record) (b : Option Scope) (g : Scope) → Both P a b → b ≡ Some g → (r : Record) × (a ≡ Some r) × P r g
both_found P (Some r) (Some h) g fits e = let same : h ≡ g = cc in (r, refl, subst (λ (v : Scope). P r v) same fits)
both_found P (Some r) None g fits e = cc
both_found P None (Some h) g fits e = absurd fits
both_found P None None g fits e = cc

-- the scope of which a record is
pub shape_in : (T : Tree) (rs : List (Option (Box Record))) (s : ScopeId) (r : Record) → IsShaped T rs → record_at rs s.0 ≡ Some r → (g : Scope) × (find (is_scope s) T.scopes ≡ Some g) × ShapeOf T.scopes r g
shape_in T rs s r h e = both_some (ShapeOf T.scopes) (record_at rs s.0) (find (has_number s.0) T.scopes) r (h.shapes s.0) e

pub walk_missing : (T : Tree) (rs : List (Option (Box Record))) (s : ScopeId) (keeps : Scope → Bool) → IsShaped T rs → record_at rs s.0 ≡ None → keeper keeps T.scopes (Some s) ≡ None
walk_missing T rs s keeps h e = keeper_missing keeps T.scopes s (both_none (ShapeOf T.scopes) (record_at rs s.0) (find (has_number s.0) T.scopes) (h.shapes s.0) e)

walk_step : (T : Tree) (rs : List (Option (Box Record))) (dead : List (Option ℕ)) (s : ScopeId) (r : Record) → IsShaped T rs → record_at rs s.0 ≡ Some r → keeper (stands_home dead) T.scopes (Some s) ≡ cond (is_none (death_blow dead r.home)) (Some s.0) (keeper (stands_home dead) T.scopes r.parent)
walk_step T rs dead s r h e =
    let k = shape_in T rs s r h e in
    let blow : is_none (death_blow dead r.home) ≡ stands_home dead k.0 = ap (λ (p : PlaceId). is_none (death_blow dead p)) k.2.home ∙ none_same (slice_index_or dead k.0.home.0 None) k.0.home in
    keeper_step T.tasks (stands_home dead) T.next_scope T.scopes s k.0 h.falls h.opened k.1
    ∙ ap (λ b. cond b (Some s.0) (keeper (stands_home dead) T.scopes k.0.parent)) (sym blow)
    ∙ ap (λ w. cond (is_none (death_blow dead r.home)) (Some s.0) (keeper (stands_home dead) T.scopes w)) (sym k.2.parent)

pub walk_older : (T : Tree) (rs : List (Option (Box Record))) (s : ScopeId) (r : Record) → IsShaped T rs → record_at rs s.0 ≡ Some r → OlderThan s.0 r.parent
walk_older T rs s r h e =
    let k = shape_in T rs s r h e in
    let num : k.0.number.0 ≡ s.0 = eqb-true k.0.number.0 s.0 (find-passes (is_scope s) T.scopes k.0 k.1) in
    subst (λ w. OlderThan s.0 w) (sym k.2.parent) (subst (λ m. OlderThan m k.0.parent) num (parent_older T.tasks (is_scope s) T.next_scope T.scopes k.0 h.falls h.opened k.1))

-- the three ends of the walk, and its step, in the words of the code
pub walk_here : (T : Tree) (rs : List (Option (Box Record))) (dead : List (Option ℕ)) (s : ScopeId) (r : Record) → IsShaped T rs → record_at rs s.0 ≡ Some r → is_none (death_blow dead r.home) ≡ true → Some s.0 ≡ keeper (stands_home dead) T.scopes (Some s)
walk_here T rs dead s r h e k = sym (walk_step T rs dead s r h e ∙ ap (λ b. cond b (Some s.0) (keeper (stands_home dead) T.scopes r.parent)) k)

pub walk_on : (T : Tree) (rs : List (Option (Box Record))) (dead : List (Option ℕ)) (s : ScopeId) (r : Record) → IsShaped T rs → record_at rs s.0 ≡ Some r → is_none (death_blow dead r.home) ≡ false → keeper (stands_home dead) T.scopes (Some s) ≡ keeper (stands_home dead) T.scopes r.parent
walk_on T rs dead s r h e k = walk_step T rs dead s r h e ∙ ap (λ b. cond b (Some s.0) (keeper (stands_home dead) T.scopes r.parent)) k

pub walk_end : (T : Tree) (rs : List (Option (Box Record))) (dead : List (Option ℕ)) (s : ScopeId) (r : Record) → IsShaped T rs → record_at rs s.0 ≡ Some r → is_none (death_blow dead r.home) ≡ false → r.parent ≡ None → keeper (stands_home dead) T.scopes (Some s) ≡ None
walk_end T rs dead s r h e k p = walk_on T rs dead s r h e k ∙ ap (keeper (stands_home dead) T.scopes) p ∙ keeper_nothing (stands_home dead) T.scopes
