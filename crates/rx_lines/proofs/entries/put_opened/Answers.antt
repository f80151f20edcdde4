use Rattle.std.proofs.Common.{◌++◌, codes}
use Rattle.rx_lines.specs.Inside.LogLines.{head_text, scope_text}
use Rattle.rx_lines.proofs.Telling.{joined}
use Rattle.rx_lines.proofs.entries.put_opened.Goals as goal

pub returns : goal.returns
returns g c = λ w f text now.
    let a = head_text c.args.n (codes " open") c.args.task in
    let b = scope_text c.args.scope c.args.parent in
    let d = codes " 0\n" in
    joined w f _ _ _ text (a ++ b) d (c.put.ensures w f (text ++ (a ++ b)) (joined w f _ _ _ text a b (c.put_scope.ensures w f (text ++ a) (c.put_head.ensures w f text now))))
