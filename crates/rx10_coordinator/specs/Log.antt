-- What a session tells its log.
use Rattle.std.specs.Prelude.{◌≡◌, ◌⊎◌, ℕ, ◌≤◌, ◌-◌, ◌^◌, List, [], ◌++◌, length, Option}
use Rattle.std.specs.Io.KnownBytes.{Consumes, IsAtEnd, Appends}
use Rattle.rx_base.specs.Outside.{Rose}
use Rattle.rx_rules.specs.declared.entries.Entry.{Entry}
use Rattle.rx_lines.specs.Session.{IsSession}
use Rattle.rx_lines.specs.Stated.{log_lines}
use Rattle.rx10_coordinator.specs.declared.status.Status.{Status}
use Rattle.rx10_coordinator.specs.declared.status.Status.TheVariants.{Done, WriteFault, LogFault}

-- a write of the output has failed, and then the session ended, or else for the log
abbrev pub HasFailed : ℕ → ℕ → Status → Type 0
HasFailed f g status = ((status ≡ WriteFault) ⊎ (status ≡ LogFault)) × Rose f g

-- The input, the output and the log before and after, and the faults of output and log. What was written is the text of a session of what
-- was heard, or a front of it where a write has failed; and what was appended to the log is the lines of the entries of that very session.
-- So no reply is written whose entry is not in the log. All that was read was heard, and nothing else stands in the log, unless a write to
-- the log has failed, and the status says so: then a part of the lines of further entries stands behind. Each status that says that a
-- write has failed comes only then.
pub record Logged (p : ℕ) (old new w v x y : Option (List ℕ)) (f g h i : ℕ) (status : Status) : Type 0 where
  pub heard : List ℕ
  pub unheard : List ℕ
  pub text : List ℕ
  pub written : List ℕ
  pub rest : List ℕ
  pub more : List Entry
  pub part : List ℕ
  pub left : List ℕ
  pub took : Consumes old new (heard ++ unheard)
  pub session : IsSession p heard text
  pub wrote : Appends w v written
  pub front : text ≡ written ++ rest
  pub whole : (rest ≡ []) ⊎ HasFailed f g status
  pub logged : Appends x y (log_lines 0 session.after.entries ++ part)
  pub torn : part ++ left ≡ log_lines (length session.after.entries) more
  pub kept : ((unheard ≡ []) × (part ≡ [])) ⊎ (status ≡ LogFault)
  pub fails : status ≡ WriteFault → Rose f g
  pub log_fails : status ≡ LogFault → Rose h i
  pub over : status ≡ Done → IsAtEnd new ⊎ (2 ^ 64 - 1 ≤ length heard)
