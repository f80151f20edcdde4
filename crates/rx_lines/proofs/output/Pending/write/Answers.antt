use Rattle.std.proofs.Common.{[], refl, sym, append-nil, ◌∙◌}
use Rattle.rx_lines.proofs.Telling.{fails}
use Rattle.rx_lines.proofs.output.Pending.write.Goals as goal

pub returns-in-Err-clause-puts : goal.returns-in-Err-clause-puts
returns-in-Err-clause-puts g c = λ w f text now.
    let t = c.args.self.now in
    let front = c.in-Err.ensures.front in
    fails w f _ _ _ _ t _ text [] c.deref.result.now front.0 c.if-self.false refl
    (c.deref.ensures.value ∙ sym (append-nil t.text.items)) c.in-Err.ensures.fault c.in-Err.ensures.later front.1 front.2 now
