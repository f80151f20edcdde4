use Rattle.std.proofs.Common.{◌≡◌, ℕ, List, Some, refl, ap, ◌∙◌, sym, subst}
use Rattle.rx_rules.proofs.Common.{Fault, granted, begins, Opens}
use Rattle.rx_history.specs.Logs.{Log}
use Rattle.rx_control.specs.Stands.{StandsFor}
use Rattle.rx_machine.proofs.Asking.{may-move, memory-out}
use Rattle.rx_machine.proofs.FinishBegun.{open-begins, finish-opened}
use Rattle.rx_machine.proofs.machine.Machine.open_finish.Goals as goal

pub path_of-requires : goal.path_of-requires
path_of-requires g c =
    let here = c.requires.game.0 in
    let game = c.requires.game.1 in
    let b = open-begins game.3 here.0 game.6 in (game.3.term, b.0, game.5.gone.seat_is.work.0, b.1)

pub go_on-requires : goal.go_on-requires
go_on-requires g c = let game = c.requires.game.1 in (game.3.term, game.5.gone.seat_is.work.0)

pub open_finish-requires-clause-asks : goal.open_finish-requires-clause-asks
open_finish-requires-clause-asks g c = let game = c.requires.game.1 in may-move game.5 Opens game.6 (λ f. let w : ⊥ = cc f in w)

pub no_memory-requires : goal.no_memory-requires
no_memory-requires g c = let game = c.requires.game.1 in memory-out game.5 c.in-Err.fault c.in-Err.ensures.answer.0

pub seat_mover-requires : goal.seat_mover-requires
seat_mover-requires g c = c.requires.game.1.5.inside

pub returns-clause-made : goal.returns-clause-made
returns-clause-made g c = λ here code U k q G a asks.
    let s = a.gone.seat_is in
    let b = open-begins q here.0 asks in
    let path = c.in_ok-path.ensures q.term b.0 s.work.0 b.1 in
    let at : begins q.term ≡ Some c.in_ok-path.path = b.1 ∙ ap (λ (x : List ℕ). Some x) (sym path) in
    let term = subst (λ (fs : List Fault). StandsFor c.args.p.now.script c.go_on.new.control.value (granted fs q.term)) c.open.ensures (c.in_ok-go_on.ensures.ok q.term s.work.0) in
    finish-opened a asks _ (record (c.args.mover) { who = record (c.args.mover.who) { inner = c.in-Ok.scope }; control = c.go_on.new.control }) c.in-Ok.scope c.in_ok-path.path at refl c.in-Ok.ensures.answer term c.in_ok-go_on.ensures.vars refl refl c.seat_mover.ensures

pub returns-in-Err-clause-refused : goal.returns-in-Err-clause-refused
returns-in-Err-clause-refused g c = ap (λ (h : Log). record (c.args.self.now) { chronicle = h }) c.in-Err.ensures.answer.1
