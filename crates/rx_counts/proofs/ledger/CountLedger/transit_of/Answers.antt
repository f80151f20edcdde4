use Rattle.std.proofs.Common.{◌∙◌, sym}
use Rattle.rx_rules.specs.declared.tasks.Where.TheVariants.{Travel}
use Rattle.rx_counts.proofs.Counts.{cell_told, transit_is}
use Rattle.rx_counts.proofs.ledger.CountLedger.transit_of.Goals as goal

pub returns : goal.returns
returns c = λ room T s h.
    cell_told c.args.self.now T c.args.s (Travel c.args.from c.args.to) c.count_at.result s h
    c.count_at.ensures
    ∙ sym (transit_is T c.args.s c.args.from c.args.to)
