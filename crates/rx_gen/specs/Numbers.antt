-- The numbers of a history, and their text.
use Rattle.std.specs.Prelude.{ℕ, ◌+◌, Bool, true, false, List, [], ◌∷◌, ◌++◌, length, codes}
use Rattle.std.specs.List.{count_by}
use Rattle.rx_base.specs.Sets.{members}
use Rattle.rx_rules.specs.declared.entries.Act.{Act}
use Rattle.rx_rules.specs.declared.entries.Act.TheVariants.{At, Spawn, Release, Print, Census}
use Rattle.rx_rules.specs.declared.entries.Entry.{Entry}
use Rattle.rx_rules.specs.declared.entries.Entry.TheVariants.{Step, Root, Death, Join}
use Rattle.rx_text.specs.Numbers.{natural_text}
use Rattle.rx_gen.specs.declared.numbers.Counts.{Counts}

-- a list is not empty
abbrev pub has_some : {A : Type 0} → List A → Bool
has_some [] = false
has_some (x ∷ xs) = true

-- a task is born: it is spawned, or called by an `at`
abbrev pub starts_by : Act → Bool
starts_by (At from to scope parent callee path) = true
starts_by (Spawn child scope from to path) = true
starts_by (Census places path) = false
starts_by _ = false

abbrev pub starts : Entry → Bool
starts (Step task act batch) = starts_by act
starts (Join place) = false
starts _ = false

-- a value is printed
abbrev pub prints_by : Act → Bool
prints_by (Print value path) = true
prints_by (Census places path) = false
prints_by _ = false

abbrev pub prints : Entry → Bool
prints (Step task act batch) = prints_by act
prints (Join place) = false
prints _ = false

-- a place dies
abbrev pub dies : Entry → Bool
dies (Death place) = true
dies (Join place) = false
dies _ = false

-- a scope or the root is released, and a place has lost tasks of it
abbrev pub loses_by : Act → Bool
loses_by (Release scope lost masked thrown) = has_some (members lost)
loses_by (Census places path) = false
loses_by _ = false

abbrev pub loses : Entry → Bool
loses (Step task act batch) = loses_by act
loses (Root lost masked thrown) = has_some (members lost)
loses (Death place) = false
loses (Join place) = false

-- the numbers of a history's entries; the first task is born with none
abbrev pub numbers : List Entry → Counts
numbers entries =
    record {
      entries = length entries;
      tasks = 1 + count_by starts entries;
      prints = count_by prints entries;
      deaths = count_by dies entries;
      losses = count_by loses entries;
    }

-- the line of one number
abbrev pub count_line : List ℕ → ℕ → List ℕ
count_line word n = word ++ codes " " ++ natural_text n ++ codes "\n"

-- the five lines
abbrev pub counts_text : Counts → List ℕ
counts_text c =
    count_line (codes "entries") c.entries ++ count_line (codes "tasks") c.tasks ++ count_line (codes "prints") c.prints
    ++ count_line (codes "deaths") c.deaths ++ count_line (codes "losses") c.losses
