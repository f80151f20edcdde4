use Rattle.std.proofs.Common.{refl, rules, sym, subst}
use Rattle.rx_rules.proofs.Common.{Tree}
use Rattle.rx_finish.specs.Calls.{IsUnstruck}
use Rattle.rx_tree.specs.Kept.{kept}
use Rattle.rx_finish.proofs.Allowed.{spawn_allowed}
use Rattle.rx_tree.proofs.Replies.{at_kept, did}
use Rattle.rx_tree.proofs.Falling.{in_order}
use Rattle.rx_tree.specs.Inside.Positions.{ScopesFallIn}
use Rattle.rx_tree.proofs.plain.TreeLedgerFinishLedger.spawn.Goals as goal

pub returns : goal.returns
returns c =
    let K : Tree = kept c.args.self.now in
    let u : IsUnstruck K c.args.who = search rules in
    at_kept K _ _
    (λ r may.
    (did K _ c.args.who _ r (spawn_allowed K c.args.who c.args.to _ _ r.0 may u (search rules) refl) (search rules), search rules))

pub blow-requires : goal.blow-requires
blow-requires c = in_order (kept c.args.self.now) _ c.reached_is_sound.ensures c.requires

pub find_governing-scope-requires : goal.find_governing-scope-requires
find_governing-scope-requires c = subst ScopesFallIn (sym c.deref.ensures.value) (in_order (kept c.args.self.now) _ c.reached_is_sound.ensures c.requires).scopes
