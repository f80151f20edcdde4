use Rattle.std.proofs.Common.{◌∙◌}
use Rattle.rx_gen.specs.Lines.{lines}
use Rattle.rx_gen.proofs.Obeyed.{no-rule, work-is}
use Rattle.rx_gen.proofs.generator.generate.Goals as goal

pub unreachable-requires : goal.unreachable-requires
unreachable-requires c =
    let q = c.from.result in
    let n = c.args.size in
    no-rule q n c.in-Bad.rule c.in-Bad.node c.requires.size.1 (c.in-Err.ensures.bad c.in-Bad.rule c.in-Bad.node c.in-Bad.is (lines q n) c.in_ok-script.ensures)

pub returns-in-Ok-clause-work : goal.returns-in-Ok-clause-work
returns-in-Ok-clause-work c = (c.in-Ok.ensures.ok.1 (lines c.from.result c.args.size) c.in_ok-script.ensures).1 ∙ work-is c.from.result c.args.size
