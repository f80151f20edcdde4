use Rattle.std.proofs.Common.{◌∙◌}
use Rattle.rx_stations.proofs.Stationing.{post_is, place_moves}
use Rattle.rx_stations.proofs.worker.Worker.make_move.Goals as goal

pub turn-left-requires-clause-place : goal.turn-left-requires-clause-place
turn-left-requires-clause-place g c =
    let s = c.in-Some.station.now in
    let same = post_is c.args.hall.now.stations.items c.place.result s c.requires.hall.places c.in-Some.ensures in
    place_moves g.N.Naming.ledger s.place c.args.activity (g.P.PlaceBook.name c.book.result.now) (same ∙ c.place.ensures) c.book.ensures
