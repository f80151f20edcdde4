use Rattle.std.proofs.Common.{◌++◌}
use Rattle.rx_text.specs.Numbers.{natural_text}
use Rattle.rx_lines.proofs.Telling.{joined}
use Rattle.rx_lines.proofs.replies.put_numbered.Goals as goal

pub returns : goal.returns
returns g c = λ w f text now.
    let a = c.args.word.now in
    let b = natural_text c.args.n in
    joined w f _ _ _ text a b (c.put_natural.ensures w f (text ++ a) (c.put.ensures w f text now))
