use Rattle.std.proofs.Common.{◌++◌, codes}
use Rattle.rx_lines.specs.Replies.{numbered, lost_text}
use Rattle.rx_lines.proofs.Telling.{joined}
use Rattle.rx_lines.proofs.replies.put_born.Goals as goal

pub returns : goal.returns
returns g c = λ w f text now.
    let a = c.args.word.now in
    let b = numbered (codes " t") c.args.born.child.0 in
    let d = numbered (codes " in s") c.args.born.scope.0 in
    let e = lost_text c.args.born.lost in
    joined w f _ _ _ text ((a ++ b) ++ d) e (c.put_lost.ensures w f (text ++ ((a ++ b) ++ d)) (joined w f _ _ _ text (a ++ b) d (c.put_numbered-2.ensures w f (text ++ (a ++ b)) (joined w f _ _ _ text a b (c.put_numbered.ensures w f (text ++ a) (c.put.ensures w f text now))))))
