-- A log in the middle of a session.
use Rattle.std.specs.Prelude.{◌≡◌, ℕ, ◌≤◌, false, List, [], ◌++◌, length, Option, None, Result, Ok, Err}
use Rattle.std.specs.Io.KnownBytes.{Appends}
use Rattle.rx_base.specs.Outside.{Rose}
use Rattle.rx_rules.specs.declared.entries.Entry.{Entry}
use Rattle.rx10_coordinator.specs.declared.log.Log.{Log}
use Rattle.rx_lines.specs.Stated.{log_lines}

-- Since the log's sink had written x and failed h times, the lines of these entries were written. Now it has written y and failed i times,
-- and nothing waits. Where no log is kept, nothing is known of the sink's bytes.
pub record IsLogged (x : Option (List ℕ)) (h : ℕ) (y : Option (List ℕ)) (i : ℕ) (l : Log) (es : List Entry) : Type 0 where
  pub lines : Appends x y (log_lines 0 es)
  pub later : h ≤ i
  pub none : l.pending.text.items ≡ []
  pub whole : l.pending.is_failed ≡ false
  pub silent : l.is_kept ≡ false → x ≡ None

-- the same, but a write of the lines of further entries has failed: a part of them stands behind
pub record IsTorn (x : Option (List ℕ)) (h : ℕ) (y : Option (List ℕ)) (i : ℕ) (es : List Entry) : Type 0 where
  pub more : List Entry
  pub part : List ℕ
  pub left : List ℕ
  pub torn : part ++ left ≡ log_lines (length es) more
  pub lines : Appends x y (log_lines 0 es ++ part)
  pub rose : Rose h i

-- what holds where a call does its work, and what where it fails
abbrev pub OrElse : {T E : Type 0} → Result T E → Type 0 → Type 0 → Type 0
OrElse (Ok t) A B = A
OrElse (Err e) A B = B

-- what was written is a front of the text, and a write of the rest has failed
pub record IsCut (w : Option (List ℕ)) (f : ℕ) (v : Option (List ℕ)) (g : ℕ) (text : List ℕ) : Type 0 where
  pub part : List ℕ
  pub left : List ℕ
  pub all : text ≡ part ++ left
  pub wrote : Appends w v part
  pub rose : Rose f g

-- what is written is the text, and nothing waits
pub record IsWritten (w : Option (List ℕ)) (f : ℕ) (v : Option (List ℕ)) (g : ℕ) (l : Log) (text : List ℕ) : Type 0 where
  pub wrote : Appends w v text
  pub later : f ≤ g
  pub none : l.pending.text.items ≡ []
  pub whole : l.pending.is_failed ≡ false
