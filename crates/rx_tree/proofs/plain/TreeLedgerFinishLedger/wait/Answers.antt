use Rattle.std.proofs.Common.{◌≡◌, List, ap, ◌∙◌, rules, sym, subst}
use Rattle.std.specs.Vec.{with_items}
use Rattle.std.proofs.lemmas.List.{with_items_is}
use Rattle.rx_rules.specs.declared.tasks.Scope.{Scope}
use Rattle.rx_rules.proofs.Common.{Tree, is_task, is_scope, change_first, waiting}
use Rattle.rx_finish.specs.Calls.{IsUnstruck}
use Rattle.rx_tree.specs.Kept.{kept}
use Rattle.rx_finish.proofs.Allowed.{wait_allowed}
use Rattle.rx_tree.proofs.Replies.{at_kept, did, by_rows}
use Rattle.rx_tree.proofs.Falling.{in_order}
use Rattle.rx_tree.specs.Inside.Positions.{TasksFallIn, ScopesFallIn}
use Rattle.rx_tree.proofs.plain.TreeLedgerFinishLedger.wait.Goals as goal

pub returns : goal.returns
returns c =
    let K : Tree = kept c.args.self.now in
    let u : IsUnstruck K c.args.who = search rules in
    let waits : (with_items c.args.self.now.tasks c.set_waits.new.tasks).items ≡ change_first (is_task c.args.who.task) waiting K.tasks =
    with_items_is c.args.self.now.tasks c.set_waits.new.tasks (search rules)
    ∙ (c.set_waits.ensures ∙ ap (change_first (is_task c.args.who.task) waiting) c.deref_mut-2.ensures.value)
    in
    let noted : (with_items c.args.self.now.scopes c.note_body.new.scopes).items ≡ change_first (is_scope c.args.who.inner) (λ g. record g { body = c.args.thrown }) K.scopes =
    with_items_is c.args.self.now.scopes c.note_body.new.scopes (search rules)
    ∙ (c.note_body.ensures
    ∙ ap (λ (gs : List Scope). change_first (is_scope c.args.who.inner) (λ g. record g { body = c.args.thrown }) gs) c.deref_mut.ensures.value)
    in
    at_kept K _ _ (λ r may. did K _ c.args.who _ r (wait_allowed K c.args.who c.args.thrown r.0 may u) (by_rows K _ _ _ _ waits noted))

pub blow-requires : goal.blow-requires
blow-requires c = in_order (kept c.args.self.now) _ c.reached_is_sound.ensures c.requires

pub note_body-requires : goal.note_body-requires
note_body-requires c = subst ScopesFallIn (sym c.deref_mut.ensures.value) (in_order (kept c.args.self.now) _ c.reached_is_sound.ensures c.requires).scopes

pub set_waits-requires : goal.set_waits-requires
set_waits-requires c = subst TasksFallIn (sym c.deref_mut-2.ensures.value) (in_order (kept c.args.self.now) _ c.reached_is_sound.ensures c.requires).tasks
