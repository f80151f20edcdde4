use Rattle.std.proofs.Common.{◌<◌, length, sym, ◌∙◌, arith}
use Rattle.std.proofs.lemmas.Bool.{true≢false}
use Rattle.rx_verdict.proofs.Replaying.{replays-on, few-made, closed-count, stopped-count}
use Rattle.rx_verdict.proofs.replay.lawful_events.Goals as goal

pub returns-then-closed : goal.returns-then-closed
returns-then-closed c =
    let low : c.loop-i.i < length c.args.journal.now.events = omega arith in
    closed-count c.args.heap c.loop-i.blocks c.loop-i.last c.loop-i.closed c.args.journal.now.events c.loop-i.i c.item-event.result.now c.item-event.ensures low c.loop-i.invariant c.if-closed.true

pub follows-requires : goal.follows-requires
follows-requires c =
    let low : c.loop-i.i < length c.args.journal.now.events = omega arith in
    let made = few-made c.args.heap c.loop-i.blocks c.loop-i.last c.loop-i.closed c.args.journal.now.events c.loop-i.i c.item-event.result.now c.item-event.ensures low c.loop-i.invariant in
    record { few = omega arith }

pub returns-then-not-follows : goal.returns-then-not-follows
returns-then-not-follows c =
    let low : c.loop-i.i < length c.args.journal.now.events = omega arith in
    stopped-count c.args.heap c.loop-i.blocks c.loop-i.last c.loop-i.closed c.args.journal.now.events c.loop-i.i c.item-event.result.now c.item-event.ensures low c.loop-i.invariant c.follows.new.blocks c.follows.result c.if-closed.false c.follows.ensures
    (λ t. true≢false (sym t ∙ c.if-not-follows.true))

pub loop-i-preserved : goal.loop-i-preserved
loop-i-preserved c =
    let low : c.loop-i.i < length c.args.journal.now.events = omega arith in
    replays-on c.args.heap c.loop-i.blocks c.loop-i.last c.loop-i.closed c.args.journal.now.events c.loop-i.i c.item-event.result.now c.item-event.ensures low c.loop-i.invariant
    c.follows.new.blocks c.stamp_of-last.result c.is_close-closed.result c.follows.result c.if-closed.false c.follows.ensures c.if-not-follows.false c.stamp_of-last.ensures c.is_close-closed.ensures
