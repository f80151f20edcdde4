use Rattle.std.proofs.Common.{◌++◌, codes}
use Rattle.rx_lines.specs.Replies.{numbered}
use Rattle.rx_lines.proofs.Telling.{joined}
use Rattle.rx_lines.proofs.entries.put_way.Goals as goal

pub returns : goal.returns
returns g c = λ w f text now.
    let a = numbered (codes " ") c.args.from.0 in
    let b = numbered (codes " ") c.args.to.0 in
    let d = codes " 0\n" in
    joined w f _ _ _ text (a ++ b) d (c.put.ensures w f (text ++ (a ++ b)) (joined w f _ _ _ text a b (c.put_place_number-2.ensures w f (text ++ a) (c.put_place_number.ensures w f text now))))
