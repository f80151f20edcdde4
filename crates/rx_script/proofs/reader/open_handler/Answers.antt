use Rattle.rx_script.proofs.Arena.{counts-open, on-ok}
use Rattle.rx_script.proofs.reader.open_handler.Goals as goal

pub returns-clause-counts : goal.returns-clause-counts
returns-clause-counts c = on-ok _ _ _ c.open.ensures (λ m. counts-open c.args.reader.now c.open.new.reader _ m)
