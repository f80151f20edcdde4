use Rattle.std.proofs.Common.{refl}
use Rattle.rx_rules.proofs.Common.{Tree}
use Rattle.rx_counts.specs.declared.ledger.CountLedger.{CountLedger}
use Rattle.rx_counts.proofs.Totalling.{are, one_freed}
use Rattle.rx_counts.proofs.Asking.{room_kept}
use Rattle.rx_counts.proofs.Readying.{last_kept}
use Rattle.rx_counts.proofs.Sweeping.{freed, free_refused}
use Rattle.rx_counts.proofs.Stopping.{takes}
use Rattle.rx_counts.proofs.ledger.CountLedger.free.Goals as goal

pub returns-in-Err : goal.returns-in-Err
returns-in-Err c = λ room T s i. free_refused c.args.self.now T c.args.s c.in-Err.fault s (c.in-Err.ensures room T s i)

pub remove-requires : goal.remove-requires
remove-requires c = (last_kept c.args.self.now c.requires.1 c.args.s c.requires.2 c.requires.3).low

pub freed-self-requires : goal.freed-self-requires
freed-self-requires c =
    let T : Tree = c.requires.1 in
    let l : CountLedger = c.args.self.now in
    let o = c.in-Ok.ensures c.requires.0 T c.requires.2 c.requires.3 in
    (one_freed l.totals T c.args.s c.in-Ok.orphans (takes l T c.args.s c.in-Ok.orphans c.requires.2 c.requires.3 o.0.is_quiet o.1).many (are l.totals T c.requires.2.fit.totals)).0

pub returns-in-Ok : goal.returns-in-Ok
returns-in-Ok c = λ room T s i.
    let o = c.in-Ok.ensures room T s i in
    let t = takes c.args.self.now T c.args.s c.in-Ok.orphans s i o.0.is_quiet o.1 in
    (o.0, freed c.args.self.now _ T c.args.s c.in-Ok.orphans s i o.0.is_quiet refl refl refl refl refl c.freed-self.ensures t c.remove.ensures.len (c.remove.ensures.taken T t), room_kept c.args.self.now _ T T refl refl refl s.has_room)
