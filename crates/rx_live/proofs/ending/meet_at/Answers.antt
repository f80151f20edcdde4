use Rattle.std.proofs.Common.{length, refl}
use Rattle.std.proofs.lemmas.Option.{slice_get_read}
use Rattle.rx_live.proofs.Noted.{one_book, note_book}
use Rattle.rx_live.proofs.ending.meet_at.Goals as goal

pub meet-requires-clause-own : goal.meet-requires-clause-own
meet-requires-clause-own g c =
    one_book g.N.Naming.ledger c.args.stations.now.items c.args.seats.now.items c.args.at c.index.result.now c.index_mut.result.now (g.P.PlaceBook.name c.book.result.now) c.requires.stations c.requires.seats
    (slice_get_read c.args.stations.now.items (length c.args.stations.now.items) c.args.at c.index.result.now refl c.requires.inside.0 c.index.ensures)
    (slice_get_read c.args.seats.now.items (length c.args.seats.now.items) c.args.at c.index_mut.result.now refl c.requires.inside.1 c.index_mut.ensures.value)
    c.book.ensures

pub meet-requires-clause-note : goal.meet-requires-clause-note
meet-requires-clause-note g c =
    note_book g.N.Naming.ledger c.args.stations.now.items c.args.at c.index.result.now c.args.note (g.P.PlaceBook.name c.book.result.now) c.requires.stations
    (slice_get_read c.args.stations.now.items (length c.args.stations.now.items) c.args.at c.index.result.now refl c.requires.inside.0 c.index.ensures)
    c.requires.note c.book.ensures

pub returns : goal.returns
returns g c =
    record {
      before = c.index_mut.result.now;
      after = c.meet.new.seat;
      stood = slice_get_read c.args.seats.now.items (length c.args.seats.now.items) c.args.at c.index_mut.result.now refl c.requires.inside.1 c.index_mut.ensures.value;
      word = c.meet.ensures.own;
      met = c.meet.ensures.met;
      stands = refl;
    }
