use Rattle.std.proofs.Common.{List, false, refl, ap, subst, inl, inr}
use Rattle.rx_rules.proofs.Common.{Fault, granted}
use Rattle.rx_history.specs.Logs.{Log}
use Rattle.rx_control.specs.Stands.{StandsFor}
use Rattle.rx_machine.proofs.Released.{release-may, release-out, release-told, released}
use Rattle.rx_machine.proofs.Requested.{any_err}
use Rattle.rx_machine.proofs.machine.Machine.release.Goals as goal

pub release-requires-clause-asks : goal.release-requires-clause-asks
release-requires-clause-asks g c = let game = c.requires.game.1 in release-may game.5 game.6

pub no_memory-requires : goal.no_memory-requires
no_memory-requires g c = let game = c.requires.game.1 in release-out game.5 game.6 c.in-Err.fault c.in-Err.ensures.answer.0

pub go_on-requires : goal.go_on-requires
go_on-requires g c = let game = c.requires.game.1 in (game.3.term, game.5.gone.seat_is.work.0)

pub seat_mover-requires : goal.seat_mover-requires
seat_mover-requires g c = c.requires.game.1.5.inside

pub returns-clause-made : goal.returns-clause-made
returns-clause-made g c = λ here code U k q G a asks.
    let o = c.in-Ok.outcome in
    let term = subst (λ (v : List Fault). StandsFor c.args.p.now.script c.go_on.new.control.value (granted v q.term)) c.in_ok-raised.ensures (c.in_ok-go_on.ensures.ok q.term a.gone.seat_is.work.0) in
    released a asks o.lost o.masked o.thrown c.games_come.ensures c.reached_is_sound.ensures c.release_keeps_others.ensures c.release_pops_newest.ensures c.release_uncovers_parent.ensures _
    (record (c.args.mover) { waits = false; who = record (c.args.mover.who) { inner = c.note.result.parent }; control = c.go_on.new.control })
    refl c.in-Ok.ensures.answer term c.in_ok-go_on.ensures.vars refl c.note.ensures.parent c.seat_mover.ensures

pub returns-in-Err-clause-refused : goal.returns-in-Err-clause-refused
returns-in-Err-clause-refused g c = λ here code U k q G a asks. inl (ap (λ (h : Log). h.entries) c.in-Err.ensures.answer.1, refl)

pub returns-in-Err-clause-setup : goal.returns-in-Err-clause-setup
returns-in-Err-clause-setup g c = ap (λ (h : Log). h.setup) c.in-Err.ensures.answer.1

pub returns-in_err-raised-clause-refused : goal.returns-in_err-raised-clause-refused
returns-in_err-raised-clause-refused g c = any_err c.from_residual.result (λ here code U k q G a asks.
    let o = c.in-Ok.outcome in inr (release-told a asks o.lost o.masked o.thrown _ refl c.in-Ok.ensures.answer))

pub returns-in_err-raised-clause-setup : goal.returns-in_err-raised-clause-setup
returns-in_err-raised-clause-setup g c = any_err c.from_residual.result (ap (λ (h : Log). h.setup) c.in-Ok.ensures.answer.told)

pub returns-in_err-go_on-clause-refused : goal.returns-in_err-go_on-clause-refused
returns-in_err-go_on-clause-refused g c = any_err c.from_residual-in_err-go_on.result (λ here code U k q G a asks.
    let o = c.in-Ok.outcome in inr (release-told a asks o.lost o.masked o.thrown _ refl c.in-Ok.ensures.answer))

pub returns-in_err-go_on-clause-setup : goal.returns-in_err-go_on-clause-setup
returns-in_err-go_on-clause-setup g c = any_err c.from_residual-in_err-go_on.result (ap (λ (h : Log). h.setup) c.in-Ok.ensures.answer.told)
