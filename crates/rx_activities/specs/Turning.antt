-- What is known after a turn.
use Rattle.std.specs.Prelude.{◌≡◌}
use Rattle.rx_check.specs.Checked.{Checked}
use Rattle.rx_book.specs.Named.{BookName}
use Rattle.rx_objects.specs.declared.ledger.LedgerFixed.{LedgerFixed}
use Rattle.rx_activities.specs.declared.hand.Hand.{Hand}
use Rattle.rx_activities.specs.declared.replies.Answer.{Answer}
use Rattle.rx_activities.specs.declared.replies.Answer.TheVariants.{Goes, Waits, Over, Failed}
use Rattle.rx_activities.specs.Knowing.{IsOfRun, ActivityInvariant}

-- the activity belongs to a run of this program
abbrev pub BelongsToRun : Checked → Hand → Type 0
BelongsToRun p a = (L : BookName LedgerFixed) × (L.fixed.program ≡ p) × ActivityInvariant L a

-- in each run of this program in which it was known what the activity held, it is known what it holds now
abbrev pub StaysKnown : Checked → Hand → Hand → Type 0
StaysKnown p a b = (L : BookName LedgerFixed) → L.fixed.program ≡ p → ActivityInvariant L a → ActivityInvariant L b

-- an activity that goes on, or waits, knows what it has to; the pass of one that is over is of the run
abbrev pub LeavesHand : {N : Type 0} → BookName LedgerFixed → Hand → Answer N → Type 0
LeavesHand L hand (Goes began) = ActivityInvariant L hand
LeavesHand L hand Waits = ActivityInvariant L hand
LeavesHand L hand Over = IsOfRun L hand.pass
LeavesHand L hand Failed = IsOfRun L hand.pass
