use Rattle.std.proofs.Common.{rules, ◌≡◌, ◌<◌, ◌≤◌, ◌∙◌, length, refl, arith}
use Rattle.rx_machine.proofs.Deaths.{done-more, all-done}
use Rattle.rx_machine.proofs.planned.give_up.Goals as goal

pub loop-i-init : goal.loop-i-init
loop-i-init c = (refl, λ n low. absurd (omega (arith, low)), λ n high. refl)

pub loop-i-preserved : goal.loop-i-preserved
loop-i-preserved c =
    let first : c.len-i-end.result ≡ length c.args.seats.now.items = c.len-i-end.ensures ∙ search rules in
    let same : length c.loop-i.seats.items ≡ length c.args.seats.now.items = c.loop-i.invariant.0 in
    let before : c.loop-i.i < c.len-i-end.result = c.loop-i-test.true in
    done-more c.args.place c.args.seats.now.items c.loop-i.seats.items c.loop-i.i c.index_mut.result.now c.strike.new.slot (omega (arith, first, same, before)) c.index_mut.ensures.value c.strike.ensures c.loop-i.invariant

pub returns-clause-each : goal.returns-clause-each
returns-clause-each c =
    let first : c.len-i-end.result ≡ length c.args.seats.now.items = c.len-i-end.ensures ∙ search rules in
    let over : c.len-i-end.result ≤ c.loop-i.i = c.loop-i-test.false in
    all-done c.args.place c.args.seats.now.items c.loop-i.seats.items c.loop-i.i (omega (arith, first, over)) c.loop-i.invariant
