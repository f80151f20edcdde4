use Rattle.std.proofs.Common.{◌++◌, codes}
use Rattle.rx_lines.specs.Inside.LogLines.{head_text, release_text}
use Rattle.rx_lines.specs.Replies.{numbered}
use Rattle.rx_lines.proofs.Telling.{joined}
use Rattle.rx_lines.proofs.entries.put_release.Goals as goal

pub returns : goal.returns
returns g c = λ w f text now.
    let a = head_text c.args.n (codes " release") c.args.task in
    let b = numbered (codes " s") c.args.scope.0 in
    let d = release_text c.args.outcome.now in
    joined w f _ _ _ text (a ++ b) d (c.put_named.ensures w f (text ++ (a ++ b)) (joined w f _ _ _ text a b (c.put_numbered.ensures w f (text ++ a) (c.put_head.ensures w f text now))))
