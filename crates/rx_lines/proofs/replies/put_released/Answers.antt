use Rattle.std.proofs.Common.{◌++◌, codes}
use Rattle.rx_lines.specs.Replies.{outcome_text}
use Rattle.rx_lines.proofs.Telling.{joined}
use Rattle.rx_lines.proofs.replies.put_released.Goals as goal

pub returns : goal.returns
returns g c = λ w f text now.
    let a = codes "released" in
    let b = outcome_text c.args.outcome.now in
    joined w f _ _ _ text a b (c.put_outcome.ensures w f (text ++ a) (c.put.ensures w f text now))
