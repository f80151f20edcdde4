use Rattle.std.proofs.Common.{◌≡◌, ◌<◌, true, false, Option, Some, None, refl, sym, ◌∙◌, ap, subst, arith, not}
use Rattle.std.proofs.lemmas.Bool.{true≢false}
use Rattle.rx_rules.proofs.Common.{ScopeId, the_root, on_chain, tree_of}
use Rattle.rx_coordinator.specs.declared.waiters.Waiter.{Waiter}
use Rattle.rx_coordinator.specs.Waiters.{waiter_at}
use Rattle.std.specs.Option.{is_some}
use Rattle.rx_tree_laws.proofs.Reached.{sound}
use Rattle.rx_tree_laws.proofs.Releasing.{on_meets}
use Rattle.rx_tree_laws.proofs.Freeing.{walk_goes_up}
use Rattle.rx_coordinator.specs.Inside.Rows.{parent_in, parent_or_root}
use Rattle.rx_coordinator.specs.Parking.{scope_numbered}
use Rattle.rx_coordinator.proofs.Waiting.{low_chain, step_up}
use Rattle.rx_coordinator.proofs.parking.Parking.nearest.Goals as goal

none_some : (o : Option Waiter) (w : Waiter) → is_some o ≡ false → o ≡ Some w → ⊥
none_some None w e i = (let v : ⊥ = cc in v)
none_some (Some x) w e i = true≢false e

is_there : (o : Option Waiter) → is_some o ≡ true → (w : Waiter) × (o ≡ Some w)
is_there None e = absurd (true≢false (sym e))
is_there (Some w) e = (w, refl)

pub returns-then-scope-eq0 : goal.returns-then-scope-eq0
returns-then-scope-eq0 c = λ p es st leads n who e chain.
    let T = tree_of p es in
    let ws = c.args.self.now.waiters in
    let s = c.scopes.scope in
    let on = (c.scopes.invariant p es st leads).1 n who e chain in
    let low = low_chain (scope_numbered n) s T.next_scope T.scopes (sound st.tree.reached).falls (sym (on_meets (scope_numbered n) T.scopes (Some s)) ∙ on) in
    let zero = c.if-scope-eq0.true in
    let same : n ≡ s.0 = omega (arith, low, zero) in
    none_some (waiter_at ws s.0) who (ap (λ (o : Option Waiter). is_some o) (sym c.at.ensures) ∙ (c.is_none.ensures ∙ ap not c.scopes-test.true)) (ap (waiter_at ws) (sym same) ∙ e)

pub scopes-smaller : goal.scopes-smaller
scopes-smaller c =
    let r = c.requires in
    let T = tree_of r.0 r.1 in
    let on = (c.scopes.invariant r.0 r.1 r.2 r.3).0 in
    let u = walk_goes_up T c.scopes.scope r.2.tree.reached on c.if-scope-eq0.false in
    let is : c.parent_of-scope.result ≡ u.parent = c.parent_of-scope.ensures r.0 r.1 r.2 ∙ (ap parent_in u.stands ∙ ap parent_or_root u.is_parent) in
    subst (λ (v : ScopeId). v.0 < c.scopes.scope.0) (sym is) u.older

pub scopes-preserved : goal.scopes-preserved
scopes-preserved c = λ p es st leads.
    let T = tree_of p es in
    let ws = c.args.self.now.waiters in
    let s = c.scopes.scope in
    let on = c.scopes.invariant p es st leads in
    let u = walk_goes_up T s st.tree.reached on.0 c.if-scope-eq0.false in
    let is : c.parent_of-scope.result ≡ u.parent = c.parent_of-scope.ensures p es st ∙ (ap parent_in u.stands ∙ ap parent_or_root u.is_parent) in
    let none : is_some (waiter_at ws s.0) ≡ false = ap (λ (o : Option Waiter). is_some o) (sym c.at.ensures) ∙ (c.is_none.ensures ∙ ap not c.scopes-test.true) in (
      subst (λ (v : ScopeId). on_chain T the_root v ≡ true) (sym is) u.leads,
      λ n who e chain.
          let at = on.1 n who e chain in
          let up = step_up (scope_numbered n) s u.parent u.scope T.next_scope T.scopes (sound st.tree.reached).falls u.stands u.is_parent u.older (λ k. none_some (waiter_at ws s.0) who none (ap (waiter_at ws) (sym k) ∙ e)) (sym (on_meets (scope_numbered n) T.scopes (Some s)) ∙ at) in
          subst (λ (v : ScopeId). on_chain T (scope_numbered n) v ≡ true) (sym is) (on_meets (scope_numbered n) T.scopes (Some u.parent) ∙ up),
    )

pub returns : goal.returns
returns c = λ p es st leads.
    let ws = c.args.self.now.waiters in
    let s = c.scopes.scope in
    let on = c.scopes.invariant p es st leads in
    (is_there (waiter_at ws s.0) (ap (λ (o : Option Waiter). is_some o) (sym c.at.ensures) ∙ (c.is_none.ensures ∙ ap not c.scopes-test.false)), on.1)
