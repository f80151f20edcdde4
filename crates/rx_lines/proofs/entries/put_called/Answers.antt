use Rattle.std.proofs.Common.{◌++◌, codes}
use Rattle.rx_lines.specs.Inside.LogLines.{head_text, scope_text, way_text}
use Rattle.rx_lines.specs.Replies.{numbered}
use Rattle.rx_lines.proofs.Telling.{joined}
use Rattle.rx_lines.proofs.entries.put_called.Goals as goal

pub returns : goal.returns
returns g c = λ w f text now.
    let a = head_text c.args.n (codes " at") c.args.task in
    let b = scope_text c.args.born.scope c.args.parent in
    let d = numbered (codes " t") c.args.born.child.0 in
    let e = way_text c.args.from c.args.to in
    joined w f _ _ _ text ((a ++ b) ++ d) e (c.put_way.ensures w f (text ++ ((a ++ b) ++ d)) (joined w f _ _ _ text (a ++ b) d (c.put_numbered.ensures w f (text ++ (a ++ b)) (joined w f _ _ _ text a b (c.put_scope.ensures w f (text ++ a) (c.put_head.ensures w f text now))))))
