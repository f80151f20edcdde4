use Rattle.std.proofs.Common.{◌++◌, codes}
use Rattle.rx_lines.specs.Replies.{answer_text}
use Rattle.rx_lines.proofs.Telling.{joined}
use Rattle.rx_lines.proofs.replies.put_answer.Goals as goal

pub returns : goal.returns
returns g c = λ w f text now.
    let a = answer_text c.args.answer.now in
    let b = codes "\n" in
    joined w f _ _ _ text a b (c.put.ensures w f (text ++ a) (c.put_answer_text.ensures w f text now))
