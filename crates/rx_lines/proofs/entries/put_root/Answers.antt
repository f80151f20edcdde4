use Rattle.std.proofs.Common.{◌++◌, codes}
use Rattle.rx_text.specs.Numbers.{natural_text}
use Rattle.rx_lines.specs.Inside.LogLines.{release_text}
use Rattle.rx_lines.proofs.Telling.{joined}
use Rattle.rx_lines.proofs.entries.put_root.Goals as goal

pub returns : goal.returns
returns g c = λ w f text now.
    let n = natural_text c.args.n in
    let word = codes " release host s0" in
    let rest = release_text c.args.outcome.now in
    joined w f _ _ _ text (n ++ word) rest
    (c.put_named.ensures w f (text ++ (n ++ word)) (joined w f _ _ _ text n word (c.put.ensures w f (text ++ n) (c.put_long.ensures w f text now))))
