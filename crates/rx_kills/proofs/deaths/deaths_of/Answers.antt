use Rattle.std.proofs.Common.{◌≡◌, ◌≤◌, ◌+◌, suc, length, take, ap, sym, ◌∙◌, subst, arith}
use Rattle.rx_kills.specs.Deaths.{AreDeaths}
use Rattle.rx_kills.proofs.Dying.{take-next, length-front}
use Rattle.rx_kills.proofs.deaths.deaths_of.Goals as goal

pub loop-i-preserved : goal.loop-i-preserved
loop-i-preserved c =
    let es = c.args.history.now.entries in
    let i = c.loop-i.i in
    let e = c.item.result.now in
    let fits : i ≤ length es = omega arith in
    let long : length (take i es) ≡ i = length-front es i fits in
    let next : suc i ≡ i + 1 = omega arith in
    let front = sym (take-next es i e c.item.ensures) ∙ ap (λ n. take n es) next in
    subst (λ l. AreDeaths l c.note_death.new.deaths) front (c.note_death.ensures (take i es) long c.loop-i.invariant)
