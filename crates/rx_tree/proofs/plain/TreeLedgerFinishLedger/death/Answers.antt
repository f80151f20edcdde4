use Rattle.std.proofs.Common.{◌≡◌, length, map, slice_set, Some, ap, ◌∙◌, rules, ◌<◌, ◌≤◌, arith}
use Rattle.std.specs.Vec.{with_items}
use Rattle.std.proofs.lemmas.List.{with_items_is}
use Rattle.rx_rules.proofs.Common.{hit, Tree}
use Rattle.rx_tree.specs.Kept.{kept}
use Rattle.rx_tree.proofs.Places.{places_few}
use Rattle.rx_tree.proofs.Replies.{at_kept, died, by_tasks}
use Rattle.rx_tree.proofs.plain.TreeLedgerFinishLedger.death.Goals as goal

pub bounds-self-place : goal.bounds-self-place
bounds-self-place c =
    let T : Tree = c.requires.1 in
    let below : c.args.place.0 < T.places = c.requires.3.dies.0 in
    let few : T.places ≤ length T.dead = places_few c.requires.2.1.0 in
    let size : length T.dead ≡ 16 = c.requires.2.1.1 in
    omega arith

pub returns : goal.returns
returns c =
    let K : Tree = kept c.args.self.now in
    let struck : (with_items c.args.self.now.tasks c.strike_all.new.tasks).items ≡ map (hit (record { place = c.args.place; entry = c.args.at })) K.tasks =
    with_items_is c.args.self.now.tasks c.strike_all.new.tasks (search rules)
    ∙ (c.strike_all.ensures ∙ ap (map (hit (record { place = c.args.place; entry = c.args.at }))) c.deref_mut.ensures.value)
    in
    at_kept K _ _
    (λ r may. died K _ c.args.place c.args.at r may (by_tasks (record K { dead = slice_set K.dead c.args.place.0 (Some c.args.at) }) _ _ struck))
