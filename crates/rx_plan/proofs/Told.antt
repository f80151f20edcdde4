-- What the next step tells of what a term does.
use Rattle.std.proofs.Common.{◌≡◌, List, Some, refl}
use Rattle.rx_rules.proofs.Common.{Fault, Vars, Term, Does, Local, Waits}
use Rattle.rx_history.specs.declared.step.Next.TheVariants.{Local as LocalStep, Book}
use Rattle.rx_history.specs.declared.step.Want.TheVariants.{Wait}
use Rattle.rx_history.specs.Next.{next_of, carried}

pub told_local : (d : Does) → next_of d ≡ LocalStep → (left : Term) × (vars : Vars) × (d ≡ Local left vars)
told_local (Local left vars) e = (left, vars, refl)
told_local _ e = cc

pub told_wait : (d : Does) → next_of d ≡ Book Wait → (faults : List Fault) × (carried d ≡ Some faults)
told_wait (Waits faults) e = (faults, refl)
told_wait _ e = cc
