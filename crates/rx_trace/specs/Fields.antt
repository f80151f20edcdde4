-- The fields of a trace's lines. A field stands after a blank.
use Rattle.std.specs.Prelude.{ℕ, ℤ, List, ◌++◌, codes}
use Rattle.rx_base.specs.declared.ids.PlaceId.{PlaceId}
use Rattle.rx_base.specs.declared.ids.TaskId.{TaskId}
use Rattle.rx_base.specs.declared.ids.ScopeId.{ScopeId}
use Rattle.rx_base.specs.declared.ids.GlobalRef.{GlobalRef}
use Rattle.rx_base.specs.declared.ids.Kill.{Kill}
use Rattle.rx_base.specs.declared.values.Fault.{Fault}
use Rattle.rx_base.specs.declared.values.Fault.TheVariants.{Dead, Thrown, Overflow, NoPlace, WrongPlace, Stale, Index, HeapFull}
use Rattle.rx_text.specs.Numbers.{number_text, natural_text}
use Rattle.rx_text.specs.Paths.{path_text}

-- a number that has no sign
abbrev pub natural_field : ℕ → List ℕ
natural_field n = codes " " ++ natural_text n

-- a number that may be below 0
abbrev pub number_field : ℤ → List ℕ
number_field n = codes " " ++ number_text n

-- a path
abbrev pub path_field : List ℕ → List ℕ
path_field path = codes " " ++ path_text path

-- a place is its number
abbrev pub place_field : PlaceId → List ℕ
place_field p = natural_field p.0

-- a task is `t` and its number
abbrev pub task_field : TaskId → List ℕ
task_field t = codes " t" ++ natural_text t.0

-- a scope is `s` and its number
abbrev pub scope_field : ScopeId → List ℕ
scope_field s = codes " s" ++ natural_text s.0

-- a block is its start and its generation; its home is the place of the journal
abbrev pub block_field : GlobalRef → List ℕ
block_field b = natural_field b.start ++ natural_field b.generation

-- a kill is its place and its moment
abbrev pub kill_field : Kill → List ℕ
kill_field k = natural_field k.place.0 ++ codes "@" ++ natural_text k.moment

-- a fault
abbrev pub fault_field : Fault → List ℕ
fault_field (Dead p) = codes " dead:" ++ natural_text p.0
fault_field (Thrown value) = codes " code:" ++ number_text value
fault_field Overflow = codes " overflow"
fault_field NoPlace = codes " noplace"
fault_field WrongPlace = codes " wrongplace"
fault_field Stale = codes " stale"
fault_field Index = codes " index"
fault_field HeapFull = codes " heapfull"
