use Rattle.std.proofs.Common.{◌≡◌, false, [], ap, rules}
use Rattle.rx_ledger.specs.Kept.{KeeperView}
use Rattle.rx_ticket.specs.declared.tickets.AnyTicket.TheVariants.{Running, Host}
use Rattle.tasks_by_hand.specs.declared.Job.{Job}
use Rattle.tasks_by_hand.proofs.Turns.{opening_ready, queue_opens}
use Rattle.tasks_by_hand.proofs.run.Goals as goal

pub turns-init : goal.turns-init
turns-init g c =
    let k = c.in-Ok.keeper in
    let js = c.push_reserved-2.new.self.items in
    let none : c.in_ok-jobs.jobs.items ≡ [] = search rules in
    let main : Job = record { task = Running c.in-Ok.ticket; inside = false; left = 4 } in
    let host : Job = record { task = Host; inside = false; left = 0 } in
    let one = c.push_reserved.ensures.items in
    let two = c.push_reserved-2.ensures.items in
    let empty = c.in-Ok.ensures.empty in
    opening_ready k c.in-Ok.ticket 4 0 js (ap (λ (x : KeeperView). x.setup.places) empty) (ap (λ (x : KeeperView). x.entries) empty) c.in-Ok.ensures.ticket
    (queue_opens c.in_ok-jobs.jobs.items c.push_reserved.new.self.items js main host none one two)
