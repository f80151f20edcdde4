use Rattle.std.proofs.Common.{◌∷◌, ap, sym, ◌∙◌, refl}
use Rattle.rx_rules.proofs.Common.{PlaceId}
use Rattle.rx_live.proofs.Opened.{born_first, first_left, when_put}
use Rattle.rx_live.proofs.opening.Places.add.Goals as goal

pub returns : goal.returns
returns g c = λ done.
    let L = g.N.Naming.ledger in
    let p = c.args.place in
    let once = first_left L p.0 c.args.first c.split.new.seat c.requires.first c.split.ensures.same.0 c.split.ensures.same.1 in
    record {
      station = c.in-Ok-open.station;
      of = ap (λ (q : PlaceId). q.0) c.in-Ok-open.ensures;
      stations_are = c.in_default-insert.ensures.items;
      seat = c.in-Ok.seat;
      word = (born_first L p c.args.first c.in-Ok.seat c.requires.first c.in-Ok.ensures.own c.in-Ok.ensures.new).word;
      seats_are = when_put _ c.insert-2.new.self.items (c.in-Ok.seat ∷ c.args.self.now.seats.items) c.args.self.now.seats.items c.insert-2.ensures.items (sym c.is_ok.ensures.value ∙ done);
      first_pass = c.split-2.new.seat;
      is_first = first_left L p.0 c.split.new.seat c.split-2.new.seat once c.split-2.ensures.same.0 c.split-2.ensures.same.1;
      first_is = refl;
    }
