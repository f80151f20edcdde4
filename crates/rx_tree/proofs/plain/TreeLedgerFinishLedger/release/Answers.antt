use Rattle.std.proofs.Common.{◌≡◌, ap, ◌∙◌, rules, sym, subst, Ok}
use Rattle.std.specs.Vec.{with_items}
use Rattle.std.proofs.lemmas.List.{with_items_is}
use Rattle.rx_rules.proofs.Common.{Tree, is_task, change_first, resumed}
use Rattle.rx_finish.specs.Calls.{IsUnstruck}
use Rattle.rx_tree.specs.Kept.{kept}
use Rattle.rx_tree.specs.Inside.Removal.{LeaveReply}
use Rattle.rx_tree.proofs.Replies.{at_kept, released, by_tasks}
use Rattle.rx_tree.proofs.Falling.{in_order, kept_narrow, kept_sound, left_in_order}
use Rattle.rx_tree.specs.Inside.Positions.{TasksFallIn}
use Rattle.rx_tree.proofs.plain.TreeLedgerFinishLedger.release.Goals as goal

pub returns : goal.returns
returns c =
    let K : Tree = kept c.args.self.now in
    let L : Tree = kept c.leave.new.self in
    let u : IsUnstruck K c.args.who = search rules in
    let left : LeaveReply K c.args.who.inner (Ok c.in_ok-outcome.outcome) L = c.in_ok-outcome.ensures in
    let goes_on : (with_items c.leave.new.self.tasks c.set_waits.new.tasks).items ≡ change_first (is_task c.args.who.task) resumed L.tasks =
    with_items_is c.leave.new.self.tasks c.set_waits.new.tasks (search rules)
    ∙ (c.set_waits.ensures ∙ ap (change_first (is_task c.args.who.task) resumed) c.deref_mut.ensures.value)
    in
    at_kept K _ _ (λ r may. released K L _ c.args.who c.in_ok-outcome.outcome r may u left (by_tasks L _ _ goes_on))

pub blow-requires : goal.blow-requires
blow-requires c = in_order (kept c.args.self.now) _ c.reached_is_sound.ensures c.requires

pub leave-requires : goal.leave-requires
leave-requires c = (in_order (kept c.args.self.now) _ c.reached_is_sound.ensures c.requires, kept_narrow (kept c.args.self.now) _ c.requires)

pub set_waits-requires : goal.set_waits-requires
set_waits-requires c =
    let K : Tree = kept c.args.self.now in
    let L : Tree = kept c.leave.new.self in
    let left : LeaveReply K c.args.who.inner (Ok c.in_ok-outcome.outcome) L = c.in_ok-outcome.ensures in
    subst TasksFallIn (sym c.deref_mut.ensures.value) (left_in_order K L c.args.who.inner (kept_sound K _ c.reached_is_sound.ensures c.requires) left.1)
