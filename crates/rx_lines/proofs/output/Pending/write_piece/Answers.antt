use Rattle.std.proofs.Common.{◌++◌, refl, ap, sym}
use Rattle.rx_lines.proofs.Telling.{written, fails}
use Rattle.rx_lines.proofs.output.Pending.write_piece.Goals as goal

pub returns-in-Ok : goal.returns-in-Ok
returns-in-Ok g c = λ w f text now.
    let t = c.args.self.now in
    written w f _ _ _ _ t t text c.args.piece.now c.args.piece.now c.if-self.false c.if-self.false c.requires
    (ap (λ z. z ++ c.args.piece.now) (sym c.requires)) c.in-Ok.ensures.later c.in-Ok.ensures.whole now

pub returns-in-Err : goal.returns-in-Err
returns-in-Err g c = λ w f text now.
    let t = c.args.self.now in
    let front = c.in-Err.ensures.front in
    fails w f _ _ _ _ t _ text c.args.piece.now c.args.piece.now front.0 c.if-self.false refl
    (ap (λ z. z ++ c.args.piece.now) (sym c.requires)) c.in-Err.ensures.fault c.in-Err.ensures.later front.1 front.2 now
