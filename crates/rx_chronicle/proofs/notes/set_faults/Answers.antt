use Rattle.std.proofs.Common.{refl}
use Rattle.rx_chronicle.specs.declared.notes.Note.{Note}
use Rattle.rx_chronicle.proofs.Setting.{set_same, set_counts}
use Rattle.rx_chronicle.proofs.notes.set_faults.Goals as goal

pub returns-clause-parents : goal.returns-clause-parents
returns-clause-parents c = set_same (λ (n : Note). n.parent) c.args.notes.now.items c.args.s.0 c.index_mut.result.now c.args.faults (λ n k. refl) c.index_mut.ensures.value

pub returns-clause-openers : goal.returns-clause-openers
returns-clause-openers c = set_same (λ (n : Note). n.opener) c.args.notes.now.items c.args.s.0 c.index_mut.result.now c.args.faults (λ n k. refl) c.index_mut.ensures.value

pub returns-clause-faults : goal.returns-clause-faults
returns-clause-faults c = set_counts c.args.notes.now.items c.args.s.0 c.index_mut.result.now c.args.faults
