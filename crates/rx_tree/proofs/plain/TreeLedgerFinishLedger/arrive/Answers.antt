use Rattle.std.proofs.Common.{◌≡◌, List, ap, ◌∙◌, rules, sym, subst}
use Rattle.std.specs.Vec.{with_items}
use Rattle.std.proofs.lemmas.List.{with_items_is}
use Rattle.rx_rules.specs.declared.tasks.Task.{Task}
use Rattle.rx_rules.proofs.Common.{Tree, is_task, change_first, PlaceId}
use Rattle.rx_finish.specs.Calls.{IsUnstruck}
use Rattle.rx_tree.specs.Kept.{kept}
use Rattle.rx_rules.specs.declared.tasks.Where.TheVariants.{At}
use Rattle.rx_finish.specs.Calls.{landing}
use Rattle.rx_finish.proofs.Allowed.{arrive_allowed}
use Rattle.rx_tree.proofs.Replies.{at_kept, did, by_tasks}
use Rattle.rx_tree.proofs.Falling.{in_order}
use Rattle.rx_tree.specs.Inside.Positions.{TasksFallIn}
use Rattle.rx_tree.proofs.plain.TreeLedgerFinishLedger.arrive.Goals as goal

pub returns : goal.returns
returns c =
    let K : Tree = kept c.args.self.now in
    let u : IsUnstruck K c.args.who = search rules in
    let lands : (with_items c.args.self.now.tasks c.land.new.tasks).items ≡ change_first (is_task c.args.who.task) (λ x. record x { place = At (landing c.args.who.place) }) K.tasks =
    with_items_is c.args.self.now.tasks c.land.new.tasks (search rules)
    ∙ (c.land.ensures
    ∙ (ap (λ (p : PlaceId). change_first (is_task c.args.who.task) (λ x. record x { place = At p }) c.deref_mut.result.now) c.landing_of.ensures
    ∙ ap (λ (xs : List Task). change_first (is_task c.args.who.task) (λ x. record x { place = At (landing c.args.who.place) }) xs) c.deref_mut.ensures.value))
    in
    at_kept K _ _ (λ r may. did K _ c.args.who _ r (arrive_allowed K c.args.who r.0 may u) (by_tasks K _ _ lands))

pub blow-requires : goal.blow-requires
blow-requires c = in_order (kept c.args.self.now) _ c.reached_is_sound.ensures c.requires

pub land-requires : goal.land-requires
land-requires c = subst TasksFallIn (sym c.deref_mut.ensures.value) (in_order (kept c.args.self.now) _ c.reached_is_sound.ensures c.requires).tasks
