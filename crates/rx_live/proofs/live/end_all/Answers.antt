use Rattle.std.proofs.Common.{◌∙◌}
use Rattle.rx_live.proofs.Finishing.{stays_trans}
use Rattle.rx_live.proofs.Whole.{run_ends}
use Rattle.rx_live.proofs.live.end_all.Goals as goal

pub returns-clause-ends : goal.returns-clause-ends
returns-clause-ends g c =
    let told = c.args.host.now in
    let closed = c.close_places.new.host in
    let final = c.meet_worker.new.host in
    let since = stays_trans closed c.meet_workers.new.host final c.meet_workers.ensures.1 c.meet_worker.ensures.1 in
    run_ends g.N.Naming.ledger told closed final c.args.ended.notes.items c.meet_notes.new.seats.items c.in-Some.stores.items c.requires.told c.meet_notes.ensures.met
    c.in-Some.ensures.ended c.meet_worker.ensures.0 (stays_trans told closed final c.close_places.ensures.host.1 since) since (c.meet_notes.ensures.seats.1 ∙ (c.requires.seats.1 ∙ c.requires.all))
