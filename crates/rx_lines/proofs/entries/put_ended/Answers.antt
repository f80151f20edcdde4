use Rattle.std.proofs.Common.{◌++◌, codes}
use Rattle.rx_lines.specs.Inside.LogLines.{head_text}
use Rattle.rx_trace.specs.Parts.{thrown_part}
use Rattle.rx_lines.proofs.Telling.{joined}
use Rattle.rx_lines.proofs.entries.put_ended.Goals as goal

pub returns : goal.returns
returns g c = λ w f text now.
    let a = head_text c.args.n (codes " end") c.args.task in
    let b = thrown_part c.args.thrown.now in
    let d = codes "\n" in
    joined w f _ _ _ text (a ++ b) d (c.put.ensures w f (text ++ (a ++ b)) (joined w f _ _ _ text a b (c.put_thrown.ensures w f (text ++ a) (c.put_head.ensures w f text now))))
