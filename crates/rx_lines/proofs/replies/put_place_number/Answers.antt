use Rattle.std.proofs.Common.{ℕ, ◌++◌, ap}
use Rattle.rx_lines.specs.Replies.{numbered}
use Rattle.rx_lines.proofs.Telling.{told-as}
use Rattle.rx_lines.proofs.replies.put_place_number.Goals as goal

pub returns : goal.returns
returns g c = λ w f text now.
    told-as w f _ _ _ (text ++ numbered c.args.word.now c.from.result) _ (ap (λ (n : ℕ). text ++ numbered c.args.word.now n) c.from.ensures) (c.put_numbered.ensures w f text now)
