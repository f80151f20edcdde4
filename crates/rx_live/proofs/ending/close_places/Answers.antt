use Rattle.std.proofs.Common.{rules, ◌≡◌, ◌++◌, ◌∷◌, [], List, Option, sym, subst}
use Rattle.rx_store.specs.Kept.{StoreView}
use Rattle.rx_book.specs.declared.passes.Note.{Note}
use Rattle.rx_book.specs.Passes.{view_of}
use Rattle.rx_parts.specs.declared.items.EntryItem.{EntryItem}
use Rattle.rx_stations.specs.Closed.{IsClosed}
use Rattle.rx_live.proofs.Closed.{ClosesFrom, none_closed, seat_is, one_closed}
use Rattle.rx_live.proofs.ending.close_places.Goals as goal

pub place-init : goal.place-init
place-init g c =
    subst (λ (l : List StoreView). ClosesFrom g.N.Naming.ledger c.args.stations.items c.args.seats.items c.args.host.now c.args.stations.items c.args.seats.items c.args.host.now l) (sym c.new-stores.ensures.items)
    (none_closed g.N.Naming.ledger c.args.stations.items c.args.seats.items c.args.host.now c.requires.host c.requires.seats.1)

pub close-store-requires : goal.close-store-requires
close-store-requires g c =
    let posts : c.place.stations.items ≡ c.pop.new.self.items ++ c.in-Some.station ∷ [] = search rules in
    let passes : c.place.seats.items ≡ c.pop-in-Some.new.self.items ++ c.in-Some-pop.seat ∷ [] = search rules in
    seat_is g.N.Naming.ledger c.args.stations.items c.args.seats.items c.args.host.now c.place.stations.items c.place.seats.items c.place.host c.place.stores.items c.place.invariant c.pop.new.self.items c.in-Some.station posts
    c.pop-in-Some.new.self.items c.in-Some-pop.seat passes c.requires.stations c.requires.seats.0

pub place-preserved : goal.place-preserved
place-preserved g c =
    let posts : c.place.stations.items ≡ c.pop.new.self.items ++ c.in-Some.station ∷ [] = search rules in
    let passes : c.place.seats.items ≡ c.pop-in-Some.new.self.items ++ c.in-Some-pop.seat ∷ [] = search rules in
    let stores : c.insert.new.self.items ≡ c.close-store.result.0 ∷ c.place.stores.items = search rules in
    let closed = subst (λ (o : Option (Note EntryItem)). IsClosed g.N.Naming.ledger c.in-Some.station.place.0 (view_of c.in-Some-pop.seat).seen c.close-store.result.0 o) c.in-Some-note.is c.close-store.ensures in
    subst (λ (l : List StoreView). ClosesFrom g.N.Naming.ledger c.args.stations.items c.args.seats.items c.args.host.now c.pop.new.self.items c.pop-in-Some.new.self.items c.hear.new.host l) (sym stores)
    (one_closed g.N.Naming.ledger c.args.stations.items c.args.seats.items c.args.host.now c.place.stations.items c.place.seats.items c.place.host c.place.stores.items c.place.invariant c.pop.new.self.items c.in-Some.station posts
    c.pop-in-Some.new.self.items c.in-Some-pop.seat passes c.requires.stations c.requires.seats.0 c.hear.new.host c.close-store.result.0 c.in-Some-note.note closed c.hear.ensures.host.0 c.hear.ensures.host.1 c.hear.ensures.heard)
