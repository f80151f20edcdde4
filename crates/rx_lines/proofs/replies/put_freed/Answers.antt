use Rattle.std.proofs.Common.{◌++◌, codes}
use Rattle.rx_lines.specs.Replies.{waiter_text, outcome_text}
use Rattle.rx_lines.proofs.Telling.{joined}
use Rattle.rx_lines.proofs.replies.put_freed.Goals as goal

pub returns : goal.returns
returns g c = λ w f text now.
    let a = waiter_text c.args.waiter in
    let b = outcome_text c.args.outcome.now in
    let d = codes "\n" in
    joined w f _ _ _ text (a ++ b) d (c.put.ensures w f (text ++ (a ++ b)) (joined w f _ _ _ text a b (c.put_outcome.ensures w f (text ++ a) (c.put_waiter.ensures w f text now))))
