use Rattle.std.proofs.Common.{refl, sym, subst}
use Rattle.rx_counts.specs.Inside.Opening.{IsZero}
use Rattle.rx_counts.proofs.Clearing.{nothing_is}
use Rattle.rx_counts.proofs.record.Record.give.Goals as goal

pub returns-clause-left : goal.returns-clause-left
returns-clause-left c = (record { kind = refl; home = refl; parent = refl; finish = refl }, nothing_is _ (subst (IsZero 0) (sym c.replace-given.ensures.after) c.nothing.ensures))
