use Rattle.std.proofs.Common.{rules, ◌<◌, length, refl, ◌∙◌, subst}
use Rattle.std.proofs.lemmas.Option.{slice_get_read}
use Rattle.rx_base.specs.declared.ids.PlaceId.{PlaceId}
use Rattle.rx_activities.specs.Knowing.{IsNewSeat}
use Rattle.rx_stations.proofs.Stationing.{post_is}
use Rattle.rx_stations.proofs.worker.Worker.land.Goals as goal

pub land-left-requires-clause-seat : goal.land-left-requires-clause-seat
land-left-requires-clause-seat g c =
    let p = c.target-at.result in
    let s = c.index.result.now in
    let posts = c.args.hall.now.stations.items in
    let inside : p.0 < length posts = search rules in
    let got = slice_get_read posts (length posts) p.0 s refl inside c.index.ensures in
    let same = post_is posts p s c.requires.hall.places got in
    subst (λ (q : PlaceId). IsNewSeat g.N.Naming.ledger q c.new_seat-seat.result) (same ∙ c.target-at.ensures) c.new_seat-seat.ensures.seat
