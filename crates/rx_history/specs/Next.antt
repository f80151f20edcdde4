-- What is told of a next step.
use Rattle.std.specs.Prelude.{List, Option, Some, None}
use Rattle.rx_base.specs.declared.values.Fault.{Fault}
use Rattle.rx_rules.specs.Terms.{Does, Local, Makes, Gets, Puts, Forgets, Opens, Calls, Spawns, Waits, Releases, Prints, Counts, Done}
use Rattle.rx_history.specs.declared.step.CellOp.TheVariants.{Make, Get, Put, Forget}
use Rattle.rx_history.specs.declared.step.Want.TheVariants.{Open, At, Spawn, Wait, Release, Print, Census}
use Rattle.rx_history.specs.declared.step.Next.{Next}
use Rattle.rx_history.specs.declared.step.Next.TheVariants.{Local as LocalStep, Cell, Book, Done as Ended}

-- the next step, told of what a term does
abbrev pub next_of : Does → Next
next_of (Local left vars) = LocalStep
next_of (Makes name words) = Cell (Make words)
next_of (Gets name target index) = Cell (Get target index)
next_of (Puts target index value) = Cell (Put target index value)
next_of (Forgets target) = Cell (Forget target)
next_of Opens = Book Open
next_of (Calls place) = Book (At (record { 0 = place }))
next_of (Spawns place) = Book (Spawn (record { 0 = place }))
next_of (Waits faults) = Book Wait
next_of Releases = Book Release
next_of (Prints value) = Book (Print value)
next_of (Counts name) = Book Census
next_of (Done faults) = Ended

-- the faults that a wait or an end carries
abbrev pub carried : Does → Option (List Fault)
carried (Waits faults) = Some faults
carried (Done faults) = Some faults
carried _ = None
