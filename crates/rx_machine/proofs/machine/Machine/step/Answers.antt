use Rattle.std.proofs.Common.{refl, subst}
use Rattle.rx_rules.proofs.Common.{Vars, does}
use Rattle.rx_control.specs.Stands.{AfterLocalStep}
use Rattle.rx_machine.proofs.Stepping.{told-by, stands-by, stepped-local}
use Rattle.rx_machine.proofs.Halting.{stopped, stopped-told}
use Rattle.rx_machine.proofs.Requested.{any_err}
use Rattle.rx_machine.proofs.machine.Machine.step.Goals as goal

pub next-requires : goal.next-requires
next-requires g c = let game = c.requires.game in (game.3.term, stands-by game.5 c.deref.result.now c.deref.ensures)

pub local_step-requires : goal.local_step-requires
local_step-requires g c = let game = c.requires.game in (game.3.term, game.5.gone.seat_is.work.0)

pub cell_step-requires : goal.cell_step-requires
cell_step-requires g c =
    let game = c.requires.game in
    record { game = (game.0, game.1, game.2, game.3, game.4, game.5, told-by game.5 _ c.deref.result.now c.deref.ensures c.in-Cell.ensures) }

pub returns-in_ok-local_step-in-Local-clause-next : goal.returns-in_ok-local_step-in-Local-clause-next
returns-in_ok-local_step-in-Local-clause-next g c = λ code U k q G a.
    let s = a.gone.seat_is in
    let e = told-by a _ c.deref.result.now c.deref.ensures c.in-Local.ensures in
    let left = c.in_ok-local_step-in-Local.ensures q.term s.work.0 in
    let leaves =
    subst (λ (v : Vars). AfterLocalStep c.args.p.now.script c.local_step.new.mover.control.value (does v c.args.here.0 q.term)) s.work.1 left.0 in
    stepped-local a c.local_step.new.mover c.terms_sink.ensures e leaves left.1 left.2 left.3

pub returns-in_err-local_step-in-Local-clause-refused : goal.returns-in_err-local_step-in-Local-clause-refused
returns-in_err-local_step-in-Local-clause-refused g c = any_err c.from_residual.result (λ code U k q G a. stopped a c.args.self.now refl refl)

pub returns-in_ok-cell_step-in-Cell-clause-next : goal.returns-in_ok-cell_step-in-Cell-clause-next
returns-in_ok-cell_step-in-Cell-clause-next g c = λ code U k q G a.
    c.in_ok-cell_step-in-Cell.ensures.next code U k q G a (told-by a _ c.deref.result.now c.deref.ensures c.in-Cell.ensures)

pub returns-in_err-cell_step-in-Cell-clause-refused : goal.returns-in_err-cell_step-in-Cell-clause-refused
returns-in_err-cell_step-in-Cell-clause-refused g c = any_err c.from_residual-in_err-cell_step-in-Cell.result (λ code U k q G a.
    let e = told-by a _ c.deref.result.now c.deref.ensures c.in-Cell.ensures in
    stopped-told a c.cell_step.new.self c.cell_step.ensures.same.chronicle (c.in_err-cell_step-in-Cell.ensures.refused code U k q G a e))
