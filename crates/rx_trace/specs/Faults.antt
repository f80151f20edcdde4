-- What a fault says.
use Rattle.std.specs.Prelude.{ℕ}
use Rattle.rx_trace.specs.declared.reader.TraceFault.{TraceFault}
use Rattle.rx_trace.specs.declared.reader.TraceFault.TheVariants.{BadLine, NoMemory}

-- where the fault is a bad line, this holds of its number
abbrev pub IfBadLine : TraceFault → (ℕ → Type 0) → Type 0
IfBadLine (BadLine number) P = P number
IfBadLine NoMemory P = Unit {0}
