use Rattle.std.proofs.Common.{rules, ◌≡◌, ◌++◌, ◌∷◌, [], Some, Option, List, sym, ◌∙◌, subst, refl}
use Rattle.std.proofs.lemmas.List.{append-nil}
use Rattle.rx_book.specs.declared.passes.Note.{Note}
use Rattle.rx_book.specs.Passes.{view_of}
use Rattle.rx_parts.specs.declared.items.EntryItem.{EntryItem}
use Rattle.rx_parts.specs.declared.items.EventItem.{EventItem}
use Rattle.rx_objects.specs.declared.place.PlaceFixed.{PlaceFixed}
use Rattle.rx_objects.specs.Place.{events_called, items_at, PlaceView, PlaceKeeps, PlaceFits, CameBack, StoreAnswers}
use Rattle.rx_objects.proofs.Places.{came_back, item, items_now, keeps_on, answers}
use Rattle.rx_objects.proofs.place.PlaceObjectObject.apply.Goals as goal

pub returns-then-not-has_room-clause-did : goal.returns-then-not-has_room-clause-did
returns-then-not-has_room-clause-did g c =
    let s = c.self.inside in
    let L = g.S.Surroundings.ledger s.surroundings in
    let f : PlaceFixed = record { place = s.place; words = s.store.words; ledger = L } in
    let old = events_called s.calls in
    let kept = subst (λ (o : Option (Note EntryItem)). PlaceKeeps s.place s.store L o old) (sym c.take.ensures.value ∙ c.in-Some.is) c.self.invariant in
    let fits : PlaceFits f c.requires.0 c.requires.1 c.args.op =
    subst (λ (v : PlaceView). PlaceFits (record { place = v.place; words = v.words; ledger = v.ledger }) c.requires.0 c.requires.1 c.args.op) (sym c.self.view_is) c.requires.4 in
    subst (λ (v : PlaceView). (x : List EventItem) × (old ≡ v.entries ++ x) × ((x ≡ []) × CameBack (record { place = v.place; words = v.words; ledger = v.ledger }) c.args.op.pass c.exchange-note.new.pass)) c.self.view_is
    ([], sym (append-nil old), (refl, came_back f c.requires.0 c.requires.1 c.args.op fits c.exchange-note.new.pass c.in-Some.note old kept.noted c.exchange-note.ensures.met c.exchange-note.ensures.own.0))

pub invariant_of-self-2 : goal.invariant_of-self-2
invariant_of-self-2 g c =
    let s = c.self.inside in
    let L = g.S.Surroundings.ledger s.surroundings in
    let f : PlaceFixed = record { place = s.place; words = s.store.words; ledger = L } in
    let old = events_called s.calls in
    let kept = subst (λ (o : Option (Note EntryItem)). PlaceKeeps s.place s.store L o old) (sym c.take.ensures.value ∙ c.in-Some.is) c.self.invariant in
    let fits : PlaceFits f c.requires.0 c.requires.1 c.args.op =
    subst (λ (v : PlaceView). PlaceFits (record { place = v.place; words = v.words; ledger = v.ledger }) c.requires.0 c.requires.1 c.args.op) (sym c.self.view_is) c.requires.4 in
    let room = (c.has_room.ensures.room (search rules)).1 in
    let done = keeps_on f c.requires.0 c.requires.1 c.args.op fits c.exchange-note.new.pass c.in-Some.note old kept.noted c.exchange-note.ensures.met c.exchange-note.ensures.own.0
    s.store c.has_room.new.store c.ask-answer.new.store c.exchange-note.result c.ask-answer.result c.last_event.result.value kept c.has_room.ensures.same room c.ask-answer.ensures c.last_event.ensures c.exchange-note.ensures.own.1 c.exchange-note.ensures.seen in
    let now = items_now f c.requires.0 c.requires.1 c.args.op fits c.exchange-note.new.pass c.in-Some.note old kept.noted c.exchange-note.ensures.met c.exchange-note.ensures.own.0
    s.store c.has_room.new.store c.ask-answer.new.store c.exchange-note.result c.ask-answer.result c.last_event.result.value kept c.has_room.ensures.same room c.ask-answer.ensures c.last_event.ensures c.exchange-note.ensures.own.1 c.exchange-note.ensures.seen in
    subst (λ (es : List EventItem). PlaceKeeps s.place c.ask-answer.new.store L (Some c.exchange-note.result) es)
    (sym now ∙ (λ i. events_called (sym c.of-2.ensures i) ++ items_at c.last_event.result.value (view_of (sym c.of.ensures i)).seen)) done

pub returns-clause-did : goal.returns-clause-did
returns-clause-did g c =
    let s = c.self.inside in
    let L = g.S.Surroundings.ledger s.surroundings in
    let f : PlaceFixed = record { place = s.place; words = s.store.words; ledger = L } in
    let old = events_called s.calls in
    let kept = subst (λ (o : Option (Note EntryItem)). PlaceKeeps s.place s.store L o old) (sym c.take.ensures.value ∙ c.in-Some.is) c.self.invariant in
    let fits : PlaceFits f c.requires.0 c.requires.1 c.args.op =
    subst (λ (v : PlaceView). PlaceFits (record { place = v.place; words = v.words; ledger = v.ledger }) c.requires.0 c.requires.1 c.args.op) (sym c.self.view_is) c.requires.4 in
    let room = (c.has_room.ensures.room (search rules)).1 in
    let done = answers f c.requires.0 c.requires.1 c.args.op fits c.exchange-note.new.pass c.in-Some.note old kept.noted c.exchange-note.ensures.met c.exchange-note.ensures.own.0
    s.store c.has_room.new.store c.ask-answer.new.store c.exchange-note.result c.ask-answer.result c.last_event.result.value kept c.has_room.ensures.same room c.ask-answer.ensures c.last_event.ensures c.exchange-note.ensures.own.1 c.exchange-note.ensures.seen in
    let now = items_now f c.requires.0 c.requires.1 c.args.op fits c.exchange-note.new.pass c.in-Some.note old kept.noted c.exchange-note.ensures.met c.exchange-note.ensures.own.0
    s.store c.has_room.new.store c.ask-answer.new.store c.exchange-note.result c.ask-answer.result c.last_event.result.value kept c.has_room.ensures.same room c.ask-answer.ensures c.last_event.ensures c.exchange-note.ensures.own.1 c.exchange-note.ensures.seen in
    subst
    (λ (v : PlaceView). (x : List EventItem) × (events_called c.of-2.result.value ++ items_at c.last_event.result.value (view_of c.of.result.value).seen ≡ v.entries ++ x) × StoreAnswers (record { place = v.place; words = v.words; ledger = v.ledger }) v.entries c.args.op c.ask-answer.result c.exchange-note.new.pass x)
    c.self.view_is (
      item f c.requires.0 c.requires.1 c.args.op fits c.exchange-note.new.pass c.in-Some.note old kept.noted c.exchange-note.ensures.met c.exchange-note.ensures.own.0
          s.store c.has_room.new.store c.ask-answer.new.store c.exchange-note.result c.ask-answer.result c.last_event.result.value kept c.has_room.ensures.same room c.ask-answer.ensures c.last_event.ensures c.exchange-note.ensures.own.1 c.exchange-note.ensures.seen ∷ [],
      (λ i. events_called (c.of-2.ensures i) ++ items_at c.last_event.result.value (view_of (c.of.ensures i)).seen) ∙ now,
      done,
    )
