use Rattle.std.proofs.Common.{◌++◌, codes}
use Rattle.rx_lines.specs.Replies.{fault_text}
use Rattle.rx_trace.specs.Parts.{part_text, lost_part, masked_part}
use Rattle.rx_lines.proofs.Telling.{joined}
use Rattle.rx_lines.proofs.replies.put_outcome.Goals as goal

pub returns : goal.returns
returns g c = λ w f text now.
    let a = lost_part c.args.outcome.now.lost in
    let b = masked_part c.args.outcome.now.masked in
    let d = part_text (codes " thrown") fault_text c.args.outcome.now.thrown in
    joined w f _ _ _ text (a ++ b) d (c.put_thrown.ensures w f (text ++ (a ++ b)) (joined w f _ _ _ text a b (c.put_masked.ensures w f (text ++ a) (c.put_losses.ensures w f text now))))
