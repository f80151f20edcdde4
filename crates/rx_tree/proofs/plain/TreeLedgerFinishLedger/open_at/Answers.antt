use Rattle.std.proofs.Common.{◌≡◌, ◌∷◌, ◌+◌, suc, refl, ap, ◌∙◌, rules, arith}
use Rattle.std.specs.Vec.{with_items}
use Rattle.std.proofs.lemmas.List.{with_items_is}
use Rattle.rx_rules.specs.declared.tasks.Task.{Task}
use Rattle.rx_rules.proofs.Common.{Tree, is_task, change_first, home_for, place_number, born, opened, waiting}
use Rattle.rx_finish.specs.Calls.{IsUnstruck}
use Rattle.rx_tree.specs.Kept.{kept}
use Rattle.rx_rules.specs.declared.tasks.Kind.TheVariants.{Call}
use Rattle.rx_finish.specs.Callers.{IsMoving}
use Rattle.rx_finish.proofs.Allowed.{call_allowed}
use Rattle.rx_finish.proofs.Unstruck.{home_is}
use Rattle.rx_tree.proofs.Replies.{at_kept, did, by_births}
use Rattle.rx_tree.proofs.Falling.{in_order, kept_sound, born_first}
use Rattle.rx_tree.proofs.plain.TreeLedgerFinishLedger.open_at.Goals as goal

pub returns : goal.returns
returns c =
    let K : Tree = kept c.args.self.now in
    let u : IsUnstruck K c.args.who = search rules in
    at_kept K _ _
    (λ r may.
    let home : home_for K c.args.who.task ≡ place_number c.args.who.place = home_is K c.args.who IsMoving r.0 may.asks u in
    let callee : Task = born K (record { 0 = K.next_task }) (record { 0 = K.next_scope }) (place_number c.args.who.place) c.args.to in
    let tasks : c.insert_both.new.tasks.items ≡ callee ∷ K.tasks = search rules in
    let scopes : c.insert_both.new.scopes.items ≡ (opened K c.args.who.task Call (record { 0 = K.next_scope }) c.args.who.inner).scopes = search (rules, home) in
    let more_tasks : K.next_task + 1 ≡ suc K.next_task = omega arith in
    let more_scopes : K.next_scope + 1 ≡ suc K.next_scope = omega arith in
    let waits : (with_items c.insert_both.new.tasks c.set_waits.new.tasks).items ≡ change_first (is_task c.args.who.task) waiting (callee ∷ K.tasks) =
    with_items_is c.insert_both.new.tasks c.set_waits.new.tasks (search rules)
    ∙ (c.set_waits.ensures ∙ ap (change_first (is_task c.args.who.task) waiting) (c.deref_mut.ensures.value ∙ tasks))
    in
    (did K _ c.args.who _ r (call_allowed K c.args.who c.args.to _ _ r.0 may u refl refl) (by_births K _ _ _ _ _ _ _ _ waits scopes more_tasks more_scopes), search rules))

pub blow-requires : goal.blow-requires
blow-requires c = in_order (kept c.args.self.now) _ c.reached_is_sound.ensures c.requires

pub set_waits-requires : goal.set_waits-requires
set_waits-requires c =
    let K : Tree = kept c.args.self.now in
    let callee : Task = born K (record { 0 = K.next_task }) (record { 0 = K.next_scope }) (place_number c.args.who.place) c.args.to in
    born_first callee K.next_task K.tasks _ (kept_sound K _ c.reached_is_sound.ensures c.requires).tasks_fall refl (c.deref_mut.ensures.value ∙ search rules)
