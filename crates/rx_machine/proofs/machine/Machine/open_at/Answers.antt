use Rattle.std.proofs.Common.{IfSome, rules, ◌^◌, ◌≡◌, ◌++◌, [], ◌∷◌, ◌+◌, ◌<◌, ℕ, length, List, Some, true, slice_set, refl, ap, ◌∙◌, sym, subst, arith}
use Rattle.std.proofs.lemmas.List.{length-append}
use Rattle.rx_rules.proofs.Common.{Fault, granted, begins, child, tree_in}
use Rattle.rx_history.specs.Logs.{Log}
use Rattle.rx_control.specs.Stands.{StandsFor}
use Rattle.rx_machine.proofs.Asking.{memory-out}
use Rattle.rx_machine.proofs.Finding.{set_before}
use Rattle.rx_machine.proofs.Spawned.{call-begins, call-may, called}
use Rattle.rx_machine.specs.Slots.{seat_of}
use Rattle.rx_control.specs.Seeds.{IsSeedOf}
use Rattle.rx_machine.specs.declared.seat.Mover.{Mover}
use Rattle.rx_machine.proofs.Called.{entries_few}
use Rattle.rx_machine.proofs.Born.{NewSeat}
use Rattle.rx_machine.specs.declared.seat.Work.TheVariants.{Seed as NotBegun}
use Rattle.rx_machine.proofs.machine.Machine.open_at.Goals as goal

pub prepare-requires : goal.prepare-requires
prepare-requires g c =
    let game = c.requires.game in
    let b = call-begins game.3 c.args.here.0 c.args.to.0 game.6 in (game.3.term, b.0, game.5.gone.seat_is.work.0, b.1)

pub overflow_cast-entry : goal.overflow_cast-entry
overflow_cast-entry g c =
    let few = entries_few c.requires.game.5 c.games_come.ensures in
    let same : c.len-entry.result ≡ length c.args.self.now.chronicle.entries = c.len-entry.ensures ∙ ap (λ (l : Log). length l.entries) c.history.ensures in
    let bound : c.len-entry.result < 2 ^ 32 = omega (arith, few, same) in
    search rules

pub go_on-requires : goal.go_on-requires
go_on-requires g c = let game = c.requires.game in (game.3.term, game.5.gone.seat_is.work.0)

pub open_at-requires-clause-asks : goal.open_at-requires-clause-asks
open_at-requires-clause-asks g c = let game = c.requires.game in call-may game.5 c.args.to c.known_places_are_there.ensures c.going_tells_no_places.ensures game.6

pub no_memory-requires : goal.no_memory-requires
no_memory-requires g c = let game = c.requires.game in memory-out game.5 c.in-Err.fault c.in-Err.ensures.answer.0

pub seat_mover-requires : goal.seat_mover-requires
seat_mover-requires g c =
    let inside : c.args.i < length c.args.self.now.seats.items = c.requires.game.5.inside in
    let more : length c.push_reserved.new.self.items ≡ length c.args.self.now.seats.items + 1 = ap (λ v. length v) (c.push_reserved.ensures.items ∙ ap (λ v. v ++ c.new_seat.result ∷ []) c.prepare.ensures.items) ∙ length-append c.args.self.now.seats.items (c.new_seat.result ∷ []) in
    omega (arith, inside, more)

pub returns-in-Ok-clause-made : goal.returns-in-Ok-clause-made
returns-in-Ok-clause-made g c = λ code U k q G a asks.
    let s = a.gone.seat_is in
    let b = call-begins q c.args.here.0 c.args.to.0 asks in
    let path = c.in_ok-path.ensures.path q.term b.0 s.work.0 b.1 in
    let at : begins q.term ≡ Some c.in_ok-path.path = b.1 ∙ ap (λ (x : List ℕ). Some x) (sym path) in
    let term = subst (λ (fs : List Fault). StandsFor c.args.p.now.script c.go_on.new.control.value (granted fs q.term)) c.open.ensures (c.in_ok-go_on.ensures.ok q.term s.work.0) in
    let grows = c.in_ok-path.ensures.seed q.term s.work.0 b.0 b.1 in
    let number : c.len-entry.result ≡ length c.args.self.now.chronicle.entries = c.len-entry.ensures ∙ ap (λ (l : Log). length l.entries) c.history.ensures in
    let slot = c.new_seat.result in
    let after : Mover = record (c.args.mover) { waits = true; who = record (c.args.mover.who) { inner = c.in-Ok.born.scope }; control = c.go_on.new.control } in
    let back : c.seat_mover.new.seats.items ≡ slice_set c.args.self.now.seats.items c.args.i (Some (seat_of after)) ++ slot ∷ [] =
    c.seat_mover.ensures ∙ (ap (λ v. slice_set v c.args.i (Some (seat_of after))) (c.push_reserved.ensures.items ∙ ap (λ v. v ++ slot ∷ []) c.prepare.ensures.items)
    ∙ set_before c.args.self.now.seats.items slot c.args.i (Some (seat_of after)) a.inside) in
    called a c.args.to _ after slot c.in_ok-path.seed c.in-Ok.born.scope c.in-Ok.born.child c.in_ok-path.path (c.reached_is_sound.ensures (tree_in U G) a.reached) asks at refl c.in-Ok.ensures.answer term c.in_ok-go_on.ensures.vars refl refl (subst (λ (x : List ℕ). IsSeedOf c.args.p.now.script c.in_ok-path.seed x (child q.term)) (sym path) grows.0) grows.1
    (record {
      lost = c.new_seat.ensures.lost ∙ c.in-Ok.ensures.lost;
      row = c.new_seat.ensures.row;
      rest = subst (λ (n : ℕ). IfSome slot (NewSeat (NotBegun n c.in_ok-path.seed) c.in-Ok.born.scope)) number c.new_seat.ensures.seat;
    })
    back

pub returns-in-Err-clause-refused : goal.returns-in-Err-clause-refused
returns-in-Err-clause-refused g c = ap (λ (h : Log). record (c.args.self.now) { chronicle = h; seats = c.prepare.new.seats }) c.in-Err.ensures.answer.1
