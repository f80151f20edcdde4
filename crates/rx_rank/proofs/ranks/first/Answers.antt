use Rattle.std.proofs.Common.{◌^◌, ◌∙◌, sym}
use Rattle.rx_rank.specs.Counts.{numbers, leaves}
use Rattle.rx_rank.proofs.Adding.{root-length}
use Rattle.rx_rank.proofs.Least.{none-least}
use Rattle.rx_rank.proofs.ranks.first.Goals as goal

pub returns-then-counts-eq0 : goal.returns-then-counts-eq0
returns-then-counts-eq0 c =
    none-least (numbers 0 (leaves c.args.counts.now)) (sym (root-length (2 ^ c.args.height) c.args.counts.now c.requires.tree) ∙ c.if-counts-eq0.true)
