use Rattle.std.proofs.Common.{◌&&◌, is_none, is_some, refl, ◌≡◌, List, ◌++◌, min, length, sum_by, filter, not, Some, sym, ◌∙◌, rules, ap}
use Rattle.std.specs.List.{list_any}
use Rattle.rx_rules.proofs.Common.{ScopeId, members, all_places, Tree, is_under, is_scope, chain_in, was_lost_at}
use Rattle.rx_rules.specs.declared.tasks.Task.{Task}
use Rattle.rx_rules.specs.declared.tasks.Scope.{Scope}
use Rattle.rx_tree.specs.Kept.{kept}
use Rattle.rx_finish.specs.Calls.{landing}
use Rattle.rx_tree.specs.Inside.Removal.{holds_scope}
use Rattle.rx_tree.proofs.Leaves.{find_none, find_some, names, leaves, three}
use Rattle.rx_tree.proofs.plain.TreeLedger.leave.Goals as goal

pub returns-in-Some : goal.returns-in-Some
returns-in-Some c =
    let found = find_some (λ x. is_under (kept c.args.self.now) c.args.s x && is_none x.struck) (λ x. landing x.place) c.args.self.now.tasks.items c.in-Some.place (sym c.hindrance.ensures ∙ c.in-Some.is) in
    (record { busy = found.0; by = found.1 }, refl)

pub returns-in-Err : goal.returns-in-Err
returns-in-Err c =
    (find_none (λ x. is_under (kept c.args.self.now) c.args.s x && is_none x.struck) (λ x. landing x.place) c.args.self.now.tasks.items (sym c.hindrance.ensures ∙ c.in_default.is), refl)

pub returns-in-Err-scopes_under : goal.returns-in-Err-scopes_under
returns-in-Err-scopes_under c =
    (find_none (λ x. is_under (kept c.args.self.now) c.args.s x && is_none x.struck) (λ x. landing x.place) c.args.self.now.tasks.items (sym c.hindrance.ensures ∙ c.in_default.is), refl)

pub returns-in-Err-keep_gone : goal.returns-in-Err-keep_gone
returns-in-Err-keep_gone c =
    let same : c.keep_gone.new.gone.items ≡ c.args.self.now.gone.items = c.in-Err-keep_gone.ensures.refused in
    (find_none (λ x. is_under (kept c.args.self.now) c.args.s x && is_none x.struck) (λ x. landing x.place) c.args.self.now.tasks.items (sym c.hindrance.ensures ∙ c.in_default.is), ap (λ xs. record (kept c.args.self.now) { gone = xs }) same)

pub returns : goal.returns
returns c =
    let T : Tree = kept c.args.self.now in
    let inside : List ScopeId = c.in-Ok-scopes_under.inside.items in
    let h : (r : ScopeId) → holds_scope inside r ≡ list_any (is_scope c.args.s) (chain_in c.args.self.now.scopes.items (Some r)) = λ r. search rules in
    let l : members c.lost_places-lost.result ≡ filter (λ p. list_any (λ x. holds_scope inside x.under && was_lost_at p x) c.args.self.now.tasks.items) all_places = c.lost_places-lost.ensures ∙ (ap (λ (ss : List ScopeId). filter (λ p. list_any (λ x. holds_scope ss x.under && was_lost_at p x) c.deref-2.result.now) all_places) c.deref-3.ensures.value ∙ ap (λ (xs : List Task). filter (λ p. list_any (λ x. holds_scope inside x.under && was_lost_at p x) xs) all_places) c.deref-2.ensures.value) in
    let m : c.masked_faults-masked.result ≡ min 4294967295 (sum_by (λ g. length (g.body ++ g.ends)) (filter (λ g. holds_scope inside g.number && not (is_scope c.args.s g)) c.args.self.now.scopes.items)) = c.masked_faults-masked.ensures ∙ (ap (λ (ss : List ScopeId). min 4294967295 (sum_by (λ g. length (g.body ++ g.ends)) (filter (λ g. holds_scope ss g.number && not (is_scope c.args.s g)) c.deref-4.result.now))) c.deref-5.ensures.value ∙ ap (λ (xs : List Scope). min 4294967295 (sum_by (λ g. length (g.body ++ g.ends)) (filter (λ g. holds_scope inside g.number && not (is_scope c.args.s g)) xs))) c.deref-4.ensures.value) in
    let a : c.remove_lost.new.tasks.items ≡ filter (λ x. not (holds_scope inside x.under && is_some x.struck)) c.args.self.now.tasks.items = c.remove_lost.ensures ∙ ap (λ (ss : List ScopeId). filter (λ x. not (holds_scope ss x.under && is_some x.struck)) c.args.self.now.tasks.items) c.deref-8.ensures.value in
    let b : c.keep_gone.new.gone.items ≡ c.args.self.now.gone.items ++ filter (λ x. holds_scope inside x.under && is_some x.struck) c.args.self.now.tasks.items = c.in-Ok-keep_gone.ensures.kept ∙ (ap (λ (ss : List ScopeId). c.args.self.now.gone.items ++ filter (λ x. holds_scope ss x.under && is_some x.struck) c.deref-6.result.now) c.deref-7.ensures.value ∙ ap (λ (xs : List Task). c.args.self.now.gone.items ++ filter (λ x. holds_scope inside x.under && is_some x.struck) xs) c.deref-6.ensures.value) in
    let g : c.remove_scopes.new.scopes.items ≡ filter (λ g. not (holds_scope inside g.number)) c.args.self.now.scopes.items = c.remove_scopes.ensures ∙ ap (λ (ss : List ScopeId). filter (λ g. not (holds_scope ss g.number)) c.args.self.now.scopes.items) c.deref-9.ensures.value in
    let q = find_none (λ x. is_under T c.args.s x && is_none x.struck) (λ x. landing x.place) c.args.self.now.tasks.items (sym c.hindrance.ensures ∙ c.in_default.is) in
    (names T c.args.s c.requires.1 inside c.lost_places-lost.result c.masked_faults-masked.result c.in-Ok.thrown h q l m c.in-Ok.ensures, leaves T _ c.args.s inside h (three T _ _ _ _ _ _ a b g))
