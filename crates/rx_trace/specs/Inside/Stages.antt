-- The state that a stage of the reader is.
use Rattle.std.specs.Prelude.{◌≤◌, ◌<◌, length}
use Rattle.rx_history.specs.Events.{events_of}
use Rattle.rx_history.specs.Setups.{given}
use Rattle.rx_rules.specs.Run.{in_all}
use Rattle.rx_trace.specs.declared.stage.Stage.{Stage}
use Rattle.rx_trace.specs.declared.stage.Stage.TheVariants as stages
use Rattle.rx_trace.specs.Inside.Machine.{ReadingState, Untitled, Titled, Sized, Listed, Planned, Entering, Logging, Over}

abbrev pub state_of : Stage → ReadingState
state_of stages.Untitled = Untitled
state_of stages.Titled = Titled
state_of (stages.Sized places heap) = Sized places heap
state_of (stages.Listed places heap kills) = Listed places heap kills
state_of (stages.Planned setup) = Planned (given setup)
state_of (stages.Entering history) = Entering (given history.setup) history.entries
state_of (stages.Logging history journals journal) = Logging (given history.setup) history.entries (events_of journals) journal.events
state_of (stages.Over history journals) = Over (given history.setup) history.entries (events_of journals)

-- there are at most 16 places in all, and not more journals
abbrev pub PlacesFit : Stage → Type 0
PlacesFit stages.Untitled = Unit {0}
PlacesFit stages.Titled = Unit {0}
PlacesFit (stages.Sized places heap) = places ≤ 16
PlacesFit (stages.Listed places heap kills) = places ≤ 16
PlacesFit (stages.Planned setup) = in_all (given setup) ≤ 16
PlacesFit (stages.Entering history) = in_all (given history.setup) ≤ 16
PlacesFit (stages.Logging history journals journal) =
    (in_all (given history.setup) ≤ 16) × (length journals.journals < in_all (given history.setup))
PlacesFit (stages.Over history journals) = Unit {0}
