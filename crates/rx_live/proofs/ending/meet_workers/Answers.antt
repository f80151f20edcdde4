use Rattle.std.proofs.Common.{◌≡◌, ◌++◌, ◌∷◌, [], arith}
use Rattle.std.proofs.lemmas.List.{nil_from_length}
use Rattle.rx_live.proofs.Finishing.{stays_refl, stays_trans}
use Rattle.rx_live.proofs.Heard.{none_seen, one_more_seen, all_seen}
use Rattle.rx_live.proofs.ending.meet_workers.Goals as goal

pub worker-init : goal.worker-init
worker-init g c = (c.requires.host, stays_refl c.args.host.now, none_seen c.args.kept.items c.args.host.now)

pub worker-preserved : goal.worker-preserved
worker-preserved g c =
    let left : c.worker.kept.items ≡ c.pop.new.self.items ++ c.in-Some.one ∷ [] = c.in-Some.ensures.items in
    let met = c.meet_worker.ensures in (
      met.0,
      stays_trans c.args.host.now c.worker.host c.meet_worker.new.host c.worker.invariant.1 met.1,
      one_more_seen c.args.kept.items c.worker.kept.items c.pop.new.self.items c.worker.host c.meet_worker.new.host c.in-Some.one c.worker.invariant.2 left met.1 met.2,
    )

pub returns : goal.returns
returns g c =
    let none = nil_from_length c.worker.kept.items (omega (arith, c.in_default.ensures.cases.0, c.worker.kept.ok.0)) in
    (c.worker.invariant.0, c.worker.invariant.1, all_seen c.args.kept.items c.worker.kept.items c.worker.host c.worker.invariant.2 none)
