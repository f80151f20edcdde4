use Rattle.std.proofs.Common.{List, ◌<◌, ◌^◌, ◌≡◌, ◌∙◌, rules, length, refl, ap, sym, subst, arith}
use Rattle.rx_rules.proofs.Common.{PlaceId, receives, answer_of, vars_after}
use Rattle.rx_rules.specs.declared.events.PlaceEvent.{PlaceEvent}
use Rattle.rx_history.specs.Logs.{Log}
use Rattle.rx_store.specs.Kept.{ends_closed}
use Rattle.rx_store.specs.Asked.{MayAskStore}
use Rattle.rx_control.specs.declared.control.Control.{Control}
use Rattle.rx_control.specs.Stands.{StandsFor}
use Rattle.rx_machine.specs.declared.seat.Mover.{Mover}
use Rattle.rx_machine.proofs.Called.{call_is, store_is, events_few, entries_few, called}
use Rattle.rx_machine.proofs.Halting.{acting-told, called-told}
use Rattle.rx_machine.proofs.Requested.{any_err}
use Rattle.rx_machine.proofs.machine.Machine.cell_step.Goals as goal

pub begin_call-requires : goal.begin_call-requires
begin_call-requires g c =
    let game = c.requires.game in
    let is = call_is game.5 c.args.op c.terms_sink.ensures c.terms_make_some.ensures c.going_makes_some.ensures game.6 in
    (game.3.term, is.begins.0, game.5.gone.seat_is.work.0, is.begins.1)

pub overflow_cast-m : goal.overflow_cast-m
overflow_cast-m g c =
    let game = c.requires.game in
    let few = entries_few game.5 c.games_come.ensures in
    let same : c.len.result ≡ length c.args.self.now.chronicle.entries = c.len.ensures ∙ ap (λ (l : Log). length l.entries) c.history.ensures in
    let bound : c.len.result < 2 ^ 32 = omega (arith, few, same) in
    search rules

pub call-requires : goal.call-requires
call-requires g c =
    let game = c.requires.game in
    let is = call_is game.5 c.args.op c.terms_sink.ensures c.terms_make_some.ensures c.going_makes_some.ensures game.6 in
    let s = store_is game.5 c.games_come.ensures in
    let few = events_few game.5 c.games_come.ensures c.few_events_are_told.ensures c.going_tells.ensures in
    (s.0, s.1.found, ap ends_closed s.1.events ∙ s.1.journal.is_open, subst (λ (p : PlaceId). MayAskStore p c.args.op) (sym s.1.place) is.may, subst (λ (l : List PlaceEvent). length l < 2 ^ 31) (sym s.1.events) few)

pub cell_done-requires : goal.cell_done-requires
cell_done-requires g c =
    let game = c.requires.game in
    let is = call_is game.5 c.args.op c.terms_sink.ensures c.terms_make_some.ensures c.going_makes_some.ensures game.6 in
    let b = c.in_ok-path.ensures game.3.term is.begins.0 game.5.gone.seat_is.work.0 is.begins.1 in
    (game.3.term, subst (λ (v : Control). StandsFor c.args.p.now.script v game.3.term) (sym (c.deref_mut.ensures.value ∙ ap (λ (v : Mover). v.control.value) b.1)) game.5.gone.seat_is.work.0)

pub returns-clause-next : goal.returns-clause-next
returns-clause-next g c = λ code U k q G a e.
    let is = call_is a c.args.op c.terms_sink.ensures c.terms_make_some.ensures c.going_makes_some.ensures e in
    let s = store_is a c.games_come.ensures in
    let b = c.in_ok-path.ensures q.term is.begins.0 a.gone.seat_is.work.0 is.begins.1 in
    let control : c.deref_mut.result.now ≡ c.args.mover.now.control.value = c.deref_mut.ensures.value ∙ ap (λ (v : Mover). v.control.value) b.1 in
    let asked = c.in_ok-answer.ensures.answer s.0 s.1.found in
    let done = c.in_ok-cell_done.ensures.ok q.term is.begins.0 (subst (λ (v : Control). StandsFor c.args.p.now.script v q.term) (sym control) a.gone.seat_is.work.0) is.begins.1 in
    called a _ _ c.args.op c.in_ok-answer.answer is.begins.0 s.0 asked.0 _ is is.begins.1 e s.1
    (record { chronicle = refl; seats = refl; ready = refl; failed = refl })
    asked.1 (ap (λ (v : Mover). v.who.task) b.1) (c.len.ensures ∙ (ap (λ (l : Log). length l.entries) c.history.ensures ∙ ap length a.but.shares.entries)) b.0 asked.2 done.0
    (done.1 ∙ ap (λ (v : Control). vars_after (answer_of (receives q.term) c.in_ok-answer.answer) v.vars) control) (ap (λ (v : Mover). v.batch) b.1) (ap (λ (v : Mover). v.who) b.1) (ap (λ (v : Mover). v.waits) b.1)

pub returns-in_err-path-clause-refused : goal.returns-in_err-path-clause-refused
returns-in_err-path-clause-refused g c = any_err c.from_residual.result (λ code U k q G a e. acting-told a c.args.self.now.stores.items refl)

pub returns-in_err-answer-clause-refused : goal.returns-in_err-answer-clause-refused
returns-in_err-answer-clause-refused g c = any_err c.from_residual-in_err-answer.result (λ code U k q G a e. acting-told a c.call.new.self.items (ap (λ v. v.items) c.in_err-answer.ensures.refused))

pub returns-in_err-cell_done-clause-refused : goal.returns-in_err-cell_done-clause-refused
returns-in_err-cell_done-clause-refused g c = any_err c.from_residual-in_err-cell_done.result (λ code U k q G a e.
    let is = call_is a c.args.op c.terms_sink.ensures c.terms_make_some.ensures c.going_makes_some.ensures e in
    let s = store_is a c.games_come.ensures in
    let b = c.in_ok-path.ensures q.term is.begins.0 a.gone.seat_is.work.0 is.begins.1 in
    let asked = c.in_ok-answer.ensures.answer s.0 s.1.found in
    called-told a c.args.op c.in_ok-answer.answer is.begins.0 s.0 asked.0 _ c.call.new.self.items is is.begins.1 e s.1
    asked.1 (ap (λ (v : Mover). v.who.task) b.1) (c.len.ensures ∙ (ap (λ (l : Log). length l.entries) c.history.ensures ∙ ap length a.but.shares.entries)) b.0 asked.2)
