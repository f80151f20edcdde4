use Rattle.std.proofs.Common.{refl}
use Rattle.rx_counts.proofs.Beginning.{opened_first}
use Rattle.rx_counts.proofs.ledger.CountLedger.open_wide.Goals as goal

pub returns : goal.returns
returns c = λ room fits.
    let new = c.in_ok-root.ensures in
    opened_first room _ c.args.places c.args.width _ c.in_ok-root.root.sums _ c.new-scopes.ensures c.requires.0 c.requires.1 c.requires.2 fits refl refl refl refl refl refl
    new.kind new.home new.parent new.finish new.sums c.join.ensures new.body new.ends c.in-Ok.ensures.pushed
