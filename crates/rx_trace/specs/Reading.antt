-- Which line of bytes is the first that a trace text cannot have.
use Rattle.std.specs.Prelude.{◌≡◌, ℕ, zero, suc, List, [], ◌∷◌, ◌++◌}
use Rattle.rx_rules.specs.declared.entries.Entry.{Entry}
use Rattle.rx_rules.specs.declared.events.PlaceEvent.{PlaceEvent}
use Rattle.rx_rules.specs.Run.{Given}
use Rattle.rx_trace.specs.Text.{trace_text}
use Rattle.rx_trace.specs.Limits.{IsWithin}
use Rattle.rx_fields.specs.Words.{Lacks}

-- the bytes are the text of some pair within the limits
abbrev pub IsText : List ℕ → Type 0
IsText bytes = (setup : Given) × (entries : List Entry) × (journals : List (List PlaceEvent)) × IsWithin setup entries journals
    × (bytes ≡ trace_text setup entries journals)

-- some such text begins with these bytes
abbrev pub BeginsText : List ℕ → Type 0
BeginsText front = (rest : List ℕ) × IsText (front ++ rest)

-- a line ends with its newline (the code 10) and has no other
abbrev pub IsLine : List ℕ → Type 0
IsLine line = (text : List ℕ) × Lacks 10 text × (line ≡ text ++ 10 ∷ [])

-- n lines
abbrev pub AreLines : ℕ → List ℕ → Type 0
AreLines zero bytes = bytes ≡ []
AreLines (suc n) bytes = (line : List ℕ) × (rest : List ℕ) × IsLine line × (bytes ≡ line ++ rest) × AreLines n rest

-- Line `number` is the first bad one, counted from 1: the lines before it begin a text, and with it they begin none. Where no
-- line follows them, the end of input or a part without its newline counts as the line, and the bytes are no text.
pub record IsBadLine (bytes : List ℕ) (number : ℕ) : Type 0 where
  pub earlier : ℕ
  pub counted : number ≡ suc earlier
  pub front : List ℕ
  pub rest : List ℕ
  pub lines : AreLines earlier front
  pub whole : bytes ≡ front ++ rest
  pub begins : BeginsText front
  pub stops : (line more : List ℕ) → IsLine line → rest ≡ line ++ more → BeginsText (front ++ line) → ⊥
  pub no_text : IsText bytes → ⊥

-- two pairs within the limits with one text are equal
abbrev pub TextsTellThePair : Type 0
TextsTellThePair = (setup other : Given) (entries others : List Entry) (journals logs : List (List PlaceEvent))
    → IsWithin setup entries journals → IsWithin other others logs → trace_text setup entries journals ≡ trace_text other others logs
    → (setup ≡ other) × (entries ≡ others) × (journals ≡ logs)

-- a text has no bad line
abbrev pub TextsHaveNoBadLine : Type 0
TextsHaveNoBadLine = (bytes : List ℕ) (number : ℕ) → IsText bytes → IsBadLine bytes number → ⊥
