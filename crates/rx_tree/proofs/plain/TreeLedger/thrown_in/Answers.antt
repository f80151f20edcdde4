use Rattle.std.proofs.Common.{◌≡◌, None, Some, slice_index_or, sym, subst, rules}
use Rattle.std.specs.List.{find}
use Rattle.rx_rules.proofs.Common.{is_scope}
use Rattle.rx_tree.specs.Inside.Positions.{IsFirst, PassesNone}
use Rattle.rx_tree.proofs.Falling.{find_first, find_nothing}
use Rattle.rx_tree.proofs.plain.TreeLedger.thrown_in.Goals as goal

pub returns-in-Some : goal.returns-in-Some
returns-in-Some c =
    let first = subst (λ gs. IsFirst (is_scope c.args.s) gs c.in-Some.i) c.deref.ensures.value c.in-Some.ensures.found in
    let stands : find (is_scope c.args.s) c.args.self.now.scopes.items ≡ Some (slice_index_or c.args.self.now.scopes.items c.in-Some.i c.index-g.result.now) = sym (find_first (is_scope c.args.s) c.args.self.now.scopes.items c.in-Some.i c.index-g.result.now first) in
    search (rules, stands)

pub returns-in-None : goal.returns-in-None
returns-in-None c =
    let none = subst (λ gs. PassesNone (is_scope c.args.s) gs) c.deref.ensures.value c.in-None.ensures.none in
    let gone : find (is_scope c.args.s) c.args.self.now.scopes.items ≡ None = sym (find_nothing (is_scope c.args.s) c.args.self.now.scopes.items none) in
    search (rules, gone)
