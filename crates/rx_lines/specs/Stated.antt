-- The lines that a log has for entries.
use Rattle.std.specs.Prelude.{ℕ, List, [], ◌∷◌, map}
use Rattle.rx_rules.specs.declared.entries.Act.{Act}
use Rattle.rx_rules.specs.declared.entries.Act.TheVariants.{Open, At, Spawn}
use Rattle.rx_rules.specs.declared.entries.Entry.{Entry}
use Rattle.rx_rules.specs.declared.entries.Entry.TheVariants.{Step}
use Rattle.rx_trace.specs.EntryLines.{entry_lines}

-- A job has no statements. Where the line of an act names the statement that it comes from, the log names statement 0.
abbrev pub stated_act : Act → Act
stated_act (Open s r path) = Open s r (0 ∷ [])
stated_act (At from to s r callee path) = At from to s r callee (0 ∷ [])
stated_act (Spawn child s from to path) = Spawn child s from to (0 ∷ [])
stated_act act = act

abbrev pub stated : Entry → Entry
stated (Step t act batch) = Step t (stated_act act) batch
stated e = e

-- the lines of entries that are numbered from n, each as a trace has it
abbrev pub log_lines : ℕ → List Entry → List ℕ
log_lines n es = entry_lines n (map stated es)
