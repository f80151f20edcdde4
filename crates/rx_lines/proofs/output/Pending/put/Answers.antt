use Rattle.std.proofs.Common.{[], append-nil, refl}
use Rattle.rx_lines.proofs.Telling.{kept, without}
use Rattle.rx_lines.proofs.output.Pending.put.Goals as goal

pub returns-in-Err : goal.returns-in-Err
returns-in-Err g c = λ w f text now.
    let piece = c.args.piece.now in
    let there = without w f _ _ _ text (c.write_many.ensures w f text now) in
    let still = kept w f _ _ c.write_many.new.self _ text [] refl (let e = c.in-Err.ensures.items in let n = append-nil c.write_many.new.self.text.items in cc) there in
    c.write_piece.ensures w f text (without w f _ _ _ text (c.write.ensures.puts w f text (without w f _ _ _ text still)))
