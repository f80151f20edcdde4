use Rattle.std.proofs.Common.{Bool, subst}
use Rattle.rx_chronicle.specs.Told.{Ending}
use Rattle.rx_chronicle.proofs.Ended.{root_or_none}
use Rattle.rx_chronicle.proofs.Granting.{seen}
use Rattle.rx_chronicle.proofs.chronicle.Chronicle.due.Goals as goal

pub returns-then-self-clause-none : goal.returns-then-self-clause-none
returns-then-self-clause-none g c = λ n.
    let es = c.args.self.now.entries in
    let k = seen c.self.view_is c.self.invariant in
    absurd (root_or_none es (subst (λ (e : Bool). Ending e es) c.if-self.true k.ending) n)
