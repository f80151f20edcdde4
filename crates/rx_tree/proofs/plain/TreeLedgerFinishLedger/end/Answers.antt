use Rattle.std.proofs.Common.{◌≡◌, ◌++◌, List, sym, ap, ◌∙◌, rules, subst}
use Rattle.std.specs.Vec.{with_items}
use Rattle.std.proofs.lemmas.List.{with_items_is}
use Rattle.rx_rules.specs.declared.tasks.Scope.{Scope}
use Rattle.rx_rules.proofs.Common.{Tree, is_scope, change_first}
use Rattle.rx_finish.specs.Calls.{IsUnstruck}
use Rattle.rx_tree.specs.Kept.{kept}
use Rattle.rx_finish.specs.Callers.{IsBare}
use Rattle.rx_finish.proofs.Allowed.{end_allowed}
use Rattle.rx_finish.proofs.Unstruck.{ended_is}
use Rattle.rx_tree.proofs.Replies.{at_kept, did, by_rows}
use Rattle.rx_tree.proofs.Falling.{in_order}
use Rattle.rx_tree.specs.Inside.Positions.{ScopesFallIn}
use Rattle.rx_tree.proofs.plain.TreeLedgerFinishLedger.end.Goals as goal

pub returns : goal.returns
returns c =
    let K : Tree = kept c.args.self.now in
    let u : IsUnstruck K c.args.who = search rules in
    let noted : (with_items c.args.self.now.scopes c.note_ends.new.scopes).items ≡ change_first (is_scope c.args.who.scope) (λ g. record g { ends = g.ends ++ c.args.thrown }) K.scopes =
    with_items_is c.args.self.now.scopes c.note_ends.new.scopes (search rules)
    ∙ (c.in_default-note_ends.ensures.noted
    ∙ ap (λ (gs : List Scope). change_first (is_scope c.args.who.scope) (λ g. record g { ends = g.ends ++ c.args.thrown }) gs) c.deref_mut.ensures.value)
    in
    at_kept K _ _
    (λ r may.
    did K _ c.args.who _ r (end_allowed K c.args.who c.args.thrown r.0 may u)
    (by_rows K _ _ _ _ c.remove_task.ensures noted ∙ sym (ended_is K c.args.who (IsBare K c.args.who) c.args.thrown r.0 may u)))

pub blow-requires : goal.blow-requires
blow-requires c = in_order (kept c.args.self.now) _ c.reached_is_sound.ensures c.requires

pub note_ends-requires : goal.note_ends-requires
note_ends-requires c = subst ScopesFallIn (sym c.deref_mut.ensures.value) (in_order (kept c.args.self.now) _ c.reached_is_sound.ensures c.requires).scopes
