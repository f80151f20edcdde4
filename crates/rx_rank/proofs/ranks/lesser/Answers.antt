use Rattle.std.proofs.Common.{◌∙◌, sym}
use Rattle.rx_rank.proofs.Least.{put-alone, put-before, put-after}
use Rattle.rx_rank.proofs.ranks.lesser.Goals as goal

pub returns-in-Some : goal.returns-in-Some
returns-in-Some c = λ ns e. put-after c.args.x c.in-Some.before ns (sym c.in-Some.is ∙ e) c.if-before-x.true

pub returns-in_default : goal.returns-in_default
returns-in_default c = λ ns e. put-before c.args.x c.in-Some.before ns (sym c.in-Some.is ∙ e) c.if-before-x.false

pub returns-in_default-2 : goal.returns-in_default-2
returns-in_default-2 c = λ ns e. put-alone c.args.x ns (sym c.in_default.is ∙ e)
