use Rattle.std.proofs.Common.{◌++◌, codes}
use Rattle.rx_lines.specs.Replies.{numbered}
use Rattle.rx_lines.proofs.Telling.{joined}
use Rattle.rx_lines.proofs.entries.put_scope.Goals as goal

pub returns : goal.returns
returns g c = λ w f text now.
    let a = numbered (codes " s") c.args.scope.0 in
    let b = numbered (codes " in s") c.args.parent.0 in
    joined w f _ _ _ text a b (c.put_numbered-2.ensures w f (text ++ a) (c.put_numbered.ensures w f text now))
