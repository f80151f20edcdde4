use Rattle.std.proofs.Common.{◌++◌, codes}
use Rattle.rx_lines.specs.Inside.LogLines.{head_text}
use Rattle.rx_lines.specs.Replies.{numbered}
use Rattle.rx_lines.proofs.Telling.{joined}
use Rattle.rx_lines.proofs.entries.put_arrived.Goals as goal

pub returns : goal.returns
returns g c = λ w f text now.
    let a = head_text c.args.n (codes " arrive") c.args.task in
    let b = numbered (codes " ") c.args.place.0 in
    let d = codes "\n" in
    joined w f _ _ _ text (a ++ b) d (c.put.ensures w f (text ++ (a ++ b)) (joined w f _ _ _ text a b (c.put_place_number.ensures w f (text ++ a) (c.put_head.ensures w f text now))))
