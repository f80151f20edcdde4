use Rattle.std.proofs.Common.{◌∙◌, sym}
use Rattle.rx_rules.specs.declared.tasks.Where.TheVariants.{At}
use Rattle.rx_counts.proofs.Counts.{cell_told, live_is}
use Rattle.rx_counts.proofs.ledger.CountLedger.live_at.Goals as goal

pub returns : goal.returns
returns c = λ room T s h.
    cell_told c.args.self.now T c.args.s (At c.args.p) c.count_at.result s h
    c.count_at.ensures
    ∙ sym (live_is T c.args.s c.args.p)
