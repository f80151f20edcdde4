-- What bytes give to judge.
use Rattle.std.specs.Prelude.{◌≡◌, ℕ, List}
use Rattle.rx_rules.specs.Code.{Block}
use Rattle.rx_rules.specs.declared.entries.Entry.{Entry}
use Rattle.rx_rules.specs.declared.events.PlaceEvent.{PlaceEvent}
use Rattle.rx_rules.specs.Run.{Given}
use Rattle.rx_syntax.specs.Grammar.{IsScript}
use Rattle.rx_check.specs.Checked.{Meets}
use Rattle.rx_trace.specs.Text.{trace_text}
use Rattle.rx_trace.specs.Limits.{IsWithin}
use Rattle.rx_answers.specs.Pair.{IsPair}

-- The bytes are a pair of a script that meets the rules, and of the text of these entries and journals under this setup, which are
-- within the limits of a trace text. That they are a run is not asked here.
pub record IsCase (bytes : List ℕ) (code : Block) (U : Given) (entries : List Entry) (journals : List (List PlaceEvent)) : Type 0 where
  pub script : List ℕ
  pub trace : List ℕ
  pub pair : IsPair bytes script trace
  pub reads : IsScript script code
  pub meets : Meets code
  pub within : IsWithin U entries journals
  pub tells : trace ≡ trace_text U entries journals
