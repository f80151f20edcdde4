use Rattle.std.proofs.Common.{w64, ℤ, ◌≡◌, ℕ, List, Some, refl, ap, ◌∙◌, sym, subst}
use Rattle.std.proofs.lemmas.Int.{to_z-of_z}
use Rattle.rx_rules.proofs.Common.{Fault, granted, begins, Prints}
use Rattle.rx_rules.specs.declared.entries.Act.TheVariants.{Print}
use Rattle.rx_history.specs.Logs.{Log}
use Rattle.rx_chronicle.specs.Requests.{Granted}
use Rattle.rx_control.specs.Stands.{StandsFor}
use Rattle.rx_machine.proofs.Asking.{may-move, memory-out}
use Rattle.rx_machine.proofs.Printed.{print-begins, printed}
use Rattle.rx_machine.proofs.machine.Machine.print.Goals as goal

pub path_of-requires : goal.path_of-requires
path_of-requires g c =
    let here = c.requires.game.0 in
    let game = c.requires.game.1 in
    let b = print-begins game.3 here.0 c.args.value game.6 in (game.3.term, b.0, game.5.gone.seat_is.work.0, b.1)

pub go_on-requires : goal.go_on-requires
go_on-requires g c = let game = c.requires.game.1 in (game.3.term, game.5.gone.seat_is.work.0)

pub print-requires-clause-asks : goal.print-requires-clause-asks
print-requires-clause-asks g c = let game = c.requires.game.1 in may-move game.5 (Prints c.args.value) game.6 (λ f. let w : ⊥ = cc f in w)

pub no_memory-requires : goal.no_memory-requires
no_memory-requires g c = let game = c.requires.game.1 in memory-out game.5 c.in-Err.fault c.in-Err.ensures.answer.0

pub seat_mover-requires : goal.seat_mover-requires
seat_mover-requires g c = c.requires.game.1.5.inside

pub returns-clause-made : goal.returns-clause-made
returns-clause-made g c = λ here code U k q G a asks.
    let s = a.gone.seat_is in
    let b = print-begins q here.0 c.args.value asks in
    let path = c.in_ok-path.ensures q.term b.0 s.work.0 b.1 in
    let at : begins q.term ≡ Some c.in_ok-path.path = b.1 ∙ ap (λ (x : List ℕ). Some x) (sym path) in
    let term = subst (λ (fs : List Fault). StandsFor c.args.p.now.script c.go_on.new.control.value (granted fs q.term)) c.open.ensures (c.in_ok-go_on.ensures.ok q.term s.work.0) in
    let did = subst (λ (z : ℤ). Granted c.args.self.now.chronicle c.args.mover.who (Print z c.in_ok-path.path) c.args.mover.batch c.print.new.self) (to_z-of_z w64 c.args.value c.ranges.value) c.in-Ok.ensures.answer in
    printed a c.args.value asks _ (record (c.args.mover) { control = c.go_on.new.control }) c.in_ok-path.path at refl did term c.in_ok-go_on.ensures.vars refl refl c.seat_mover.ensures

pub returns-in-Err-clause-refused : goal.returns-in-Err-clause-refused
returns-in-Err-clause-refused g c = ap (λ (h : Log). record (c.args.self.now) { chronicle = h }) c.in-Err.ensures.answer.1
