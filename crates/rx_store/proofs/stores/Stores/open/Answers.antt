use Rattle.std.proofs.Common.{rules, ◌≡◌, ◌≤◌, length, ◌∙◌, arith, List, [], replicate}
use Rattle.std.proofs.lemmas.List.{length-replicate}
use Rattle.rx_rules.specs.declared.events.PlaceEvent.{PlaceEvent}
use Rattle.rx_store.proofs.Opening.{as_many}
use Rattle.rx_store.proofs.stores.Stores.open.Goals as goal

pub invariant_of-result : goal.invariant_of-result
invariant_of-result c =
    let many : length c.in_ok-items.items.items ≡ c.args.places = as_many c.args.words 0 c.in_ok-items.items.items (replicate {A = List PlaceEvent} c.args.places []) c.in_ok-items.ensures ∙ length-replicate {A = List PlaceEvent} c.args.places [] in
    let room : c.args.places ≤ c.reserve.new.self.spare = search rules in
    (search rules, omega (arith, many, room))
