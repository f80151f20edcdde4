use Rattle.std.proofs.Common.{refl, subst, sym, ◌∙◌}
use Rattle.std.proofs.lemmas.Bool.{true≢false}
use Rattle.rx_history.specs.Events.{events_of}
use Rattle.rx_verify.specs.declared.seat.Stop.{Stop}
use Rattle.rx_verify.proofs.AdmitPlay.{goes_along, halted, missed, next_of_task, stops_whole, Walked}
use Rattle.rx_verify.proofs.MarksWalk.{standing}
use Rattle.rx_verify.proofs.Reaching.{reached_by}
use Rattle.rx_verify.proofs.players.Players.play.Goals as goal

pub walk-requires : goal.walk-requires
walk-requires c =
    let r = c.requires.awaits in
    let h = c.requires.here in
    (r.0, r.1, r.2, c.args.number, h.0, r.3.script, standing c.args.p.now.script r.0 r.1 r.2 (events_of c.args.journals.now) c.args.number c.args.self.now r.3.players, h.1)

pub returns-then-not-is_whole : goal.returns-then-not-is_whole
returns-then-not-is_whole c = λ code U es a k.
    let h = c.requires.here in
    let js = events_of c.args.journals.now in
    let shape = c.args.p.now.script in
    let next = next_of_task es c.args.number U c.args.task c.args.act.now c.args.batch.now c.entries_come.ensures a.here in
    let w = c.in_ok-stop.ensures code U es c.args.number a.script (standing shape code U es js c.args.number c.args.self.now a.players) next in
    let along = goes_along shape code U es js c.args.number c.args.self.now c.args.task c.args.act.now c.args.batch.now a c.open-along.result c.walk.new.along w.1.player w.3 c.open-along.ensures h.0 h.1 in
    missed shape code U es js c.args.number c.args.self.now c.args.task c.args.act.now c.args.batch.now a c.walk.new.self c.in_ok-stop.stop c.parts_may_follow.ensures c.seats_ask.ensures c.seats_end.ensures c.seats_refuse.ensures (w.0, w.1, w.2)
    (λ e. true≢false (sym ((c.is_whole.ensures c.args.batch.now w.1.player.batch along).1 e) ∙ c.if-not-is_whole.true)) k

pub asker-requires : goal.asker-requires
asker-requires c =
    let r = c.requires.awaits in
    let js = events_of c.args.journals.now in
    let shape = c.args.p.now.script in
    let next = next_of_task r.2 c.args.number r.1 c.args.task c.args.act.now c.args.batch.now c.entries_come.ensures r.3.here in
    let w = c.in_ok-stop.ensures r.0 r.1 r.2 c.args.number r.3.script (standing shape r.0 r.1 r.2 js c.args.number c.args.self.now r.3.players) next in
    (w.1.seat, w.1.slot)

pub returns : goal.returns
returns c =
    let js = events_of c.args.journals.now in
    let shape = c.args.p.now.script in
    reached_by shape js c.args.number c.args.self.now c.walk.new.self c.args.task c.args.act.now c.args.batch.now c.in_ok-stop.stop c.asker.result c.requires.few c.parts_may_follow.ensures c.seats_ask.ensures c.seats_end.ensures c.asker.ensures
    (λ code U es a.
    let h = c.requires.here in
    let next = next_of_task es c.args.number U c.args.task c.args.act.now c.args.batch.now c.entries_come.ensures a.here in
    let w = c.in_ok-stop.ensures code U es c.args.number a.script (standing shape code U es js c.args.number c.args.self.now a.players) next in
    let on : Walked shape code U es js c.args.number c.args.self.now c.args.task c.args.act.now c.args.batch.now a c.walk.new.self c.in_ok-stop.stop = (w.0, w.1, w.2) in (
      stops_whole shape code U es js c.args.number c.args.self.now c.args.task c.args.act.now c.args.batch.now a c.walk.new.self c.in_ok-stop.stop c.in_ok-stop.stop c.open-along.result c.walk.new.along on w.3 c.open-along.ensures h.0 h.1
          (λ so_far g. (c.is_whole.ensures c.args.batch.now so_far g).0 c.if-not-is_whole.false) refl,
      λ is k. halted shape code U es js c.args.number c.args.self.now c.args.task c.args.act.now c.args.batch.now a c.walk.new.self c.parts_may_follow.ensures c.seats_refuse.ensures
          (subst (λ (v : Stop). Walked shape code U es js c.args.number c.args.self.now c.args.task c.args.act.now c.args.batch.now a c.walk.new.self v) is on) k,
    ))
