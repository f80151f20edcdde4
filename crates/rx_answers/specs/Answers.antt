-- What is answered to bytes.
use Rattle.std.specs.Prelude.{◌≡◌, ℕ, Bool, true, false, List}
use Rattle.rx_rules.specs.Code.{Block}
use Rattle.rx_rules.specs.declared.entries.Entry.{Entry}
use Rattle.rx_rules.specs.declared.events.PlaceEvent.{PlaceEvent}
use Rattle.rx_rules.specs.Order.{told}
use Rattle.rx_rules.specs.Run.{Given, IsRun}
use Rattle.rx_verdict.specs.declared.verdict.Verdict.{Verdict}
use Rattle.rx_verdict.specs.declared.verdict.Verdict.TheVariants.{Run}
use Rattle.rx_verdict.specs.Verdicts.{IsVerdict}
use Rattle.rx_span.specs.Chains.{IsSpan}
use Rattle.rx_answers.specs.declared.answers.Question.{Question}
use Rattle.rx_answers.specs.declared.answers.Question.TheVariants.{Verify, Span}
use Rattle.rx_answers.specs.Cases.{IsCase}
use Rattle.rx_answers.specs.Lines.{verdict_line, span_text}

-- no flaw was found
abbrev pub is_run : Verdict → Bool
is_run Run = true
is_run _ = false

-- the text is that of the longest chain of these statements
abbrev pub IsChainText : Block → List (List ℕ) → List ℕ → Type 0
IsChainText code paths text = (count : ℕ) × (chain : List (List ℕ)) × IsSpan code paths count chain × (text ≡ span_text count chain)

-- the text of an answer: the line of the verdict; or where `span` is asked of a whole run, that of its longest chain
abbrev pub IsTextOf : Question → Verdict → Block → List (List ℕ) → List ℕ → Type 0
IsTextOf Verify v code paths text = text ≡ verdict_line v
IsTextOf Span Run code paths text = IsChainText code paths text
IsTextOf Span v code paths text = text ≡ verdict_line v

-- The bytes give something to judge, and this is the verdict on it; the text is that of the answer. The answer is a yes where the verdict
-- is `run`, and that is exactly where the entries and journals are a whole run of the script.
pub record IsAnswer (question : Question) (bytes text : List ℕ) (is_yes : Bool) : Type 0 where
  pub code : Block
  pub setup : Given
  pub entries : List Entry
  pub journals : List (List PlaceEvent)
  pub given : IsCase bytes code setup entries journals
  pub verdict : Verdict
  pub judged : IsVerdict code setup entries journals verdict
  pub tells : IsTextOf question verdict code (told entries) text
  pub comes_out : is_yes ≡ is_run verdict
  pub sound : is_yes ≡ true → IsRun code setup entries journals
  pub complete : IsRun code setup entries journals → is_yes ≡ true
