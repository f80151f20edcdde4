use Rattle.std.proofs.Common.{◌++◌, codes}
use Rattle.rx_trace.specs.Parts.{lost_part, masked_part, thrown_part}
use Rattle.rx_lines.proofs.Telling.{joined}
use Rattle.rx_lines.proofs.entries.put_named.Goals as goal

pub returns : goal.returns
returns g c = λ w f text now.
    let a = lost_part c.args.outcome.now.lost in
    let b = masked_part c.args.outcome.now.masked in
    let d = thrown_part c.args.outcome.now.thrown in
    let e = codes "\n" in
    joined w f _ _ _ text ((a ++ b) ++ d) e (c.put.ensures w f (text ++ ((a ++ b) ++ d)) (joined w f _ _ _ text (a ++ b) d (c.put_thrown.ensures w f (text ++ (a ++ b)) (joined w f _ _ _ text a b (c.put_masked.ensures w f (text ++ a) (c.put_losses.ensures w f text now))))))
