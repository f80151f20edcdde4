use Rattle.std.proofs.Common.{rules, ◌≡◌, ◌++◌, ◌∷◌, [], refl, ap, ◌∙◌, arith}
use Rattle.std.proofs.lemmas.Option.{slice_get_within}
use Rattle.rx_book.specs.Passes.{note_view, note_word}
use Rattle.rx_objects.specs.Noted.{Notes}
use Rattle.rx_live.specs.Inside.Ending.{views_of}
use Rattle.rx_live.proofs.Noted.{seats_stay, note_at, none_met, one_more_met, all_met}
use Rattle.rx_live.proofs.ending.meet_notes.Goals as goal

pub note-init : goal.note-init
note-init g c = (c.requires.seats.0, refl, none_met c.args.notes.items (views_of c.args.seats.now.items))

pub meet_at-requires-clause-inside : goal.meet_at-requires-clause-inside
meet_at-requires-clause-inside g c =
    let are = c.note.invariant.2 in
    let left : c.note.notes.items ≡ c.pop.new.self.items ++ (c.in-Some.place, c.in-Some.note) ∷ [] = search rules in
    let is = note_at g.N.Naming.ledger.fixed.places c.args.notes.items c.pop.new.self.items are.done (c.in-Some.place, c.in-Some.note) c.requires.notes (are.whole ∙ ap (λ (l : Notes). l ++ are.done) left) in
    let there = slice_get_within g.N.Naming.ledger.fixed.places c.in-Some.place.0 (note_word c.in-Some.note) is in
    let stations = c.requires.stations.1 in
    let seats = c.requires.seats.1 in
    let now = c.note.invariant.1 in (omega (arith, there, stations), omega (arith, there, stations, seats, now))

pub meet_at-requires-clause-note : goal.meet_at-requires-clause-note
meet_at-requires-clause-note g c =
    let are = c.note.invariant.2 in
    let left : c.note.notes.items ≡ c.pop.new.self.items ++ (c.in-Some.place, c.in-Some.note) ∷ [] = search rules in
    note_at g.N.Naming.ledger.fixed.places c.args.notes.items c.pop.new.self.items are.done (c.in-Some.place, c.in-Some.note) c.requires.notes (are.whole ∙ ap (λ (l : Notes). l ++ are.done) left)

pub note-preserved : goal.note-preserved
note-preserved g c =
    let left : c.note.notes.items ≡ c.pop.new.self.items ++ (c.in-Some.place, c.in-Some.note) ∷ [] = search rules in
    let inv = c.note.invariant in
    let stays = seats_stay g.N.Naming.ledger c.note.seats.items c.meet_at.new.seats.items c.in-Some.place.0 (note_view c.in-Some.note) inv.0 c.meet_at.ensures in (
      stays.0,
      stays.1 ∙ inv.1,
      one_more_met c.meeting_shows.ensures c.args.notes.items c.note.notes.items c.pop.new.self.items c.note.seats.items c.meet_at.new.seats.items c.in-Some.place c.in-Some.note inv.2 left c.meet_at.ensures,
    )

pub returns-clause-met : goal.returns-clause-met
returns-clause-met g c =
    let none : c.note.notes.items ≡ [] = search rules in
    all_met c.args.notes.items c.note.notes.items (views_of c.note.seats.items) c.note.invariant.2 none
