use Rattle.std.proofs.Common.{◌++◌, codes}
use Rattle.rx_text.specs.Numbers.{natural_text}
use Rattle.rx_lines.specs.Replies.{numbered}
use Rattle.rx_lines.proofs.Telling.{joined}
use Rattle.rx_lines.proofs.entries.put_head.Goals as goal

pub returns : goal.returns
returns g c = λ w f text now.
    let a = natural_text c.args.n in
    let b = c.args.word.now in
    let d = numbered (codes " t") c.args.task.0 in
    joined w f _ _ _ text (a ++ b) d (c.put_numbered.ensures w f (text ++ (a ++ b)) (joined w f _ _ _ text a b (c.put.ensures w f (text ++ a) (c.put_long.ensures w f text now))))
