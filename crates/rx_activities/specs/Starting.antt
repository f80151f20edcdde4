-- What is known of a task that is on its way, and of the main one before the first entry.
use Rattle.std.specs.Prelude.{◌≡◌, ◌+◌, ◌<◌, ◌≤◌, ◌^◌, [], length, Some, slice_get}
use Rattle.rx_rules.specs.Code.{Block}
use Rattle.rx_rules.specs.Run.{Proper}
use Rattle.rx_rules.specs.Terms.{Empty, items, no_vars}
use Rattle.rx_runs.specs.SomeWords.{TermMakesSome}
use Rattle.rx_finish.specs.declared.ledger.Caller.{Caller}
use Rattle.rx_finish.specs.Callers.{MayAskArrive}
use Rattle.rx_finish.specs.Calls.{landing}
use Rattle.rx_syntax.specs.Shape.{Stands}
use Rattle.rx_history.specs.Setups.{given}
use Rattle.rx_control.specs.declared.control.Control.{Control}
use Rattle.rx_control.specs.Stands.{StandsFor}
use Rattle.rx_book.specs.Named.{BookName}
use Rattle.rx_book.specs.declared.passes.Pass.{Pass}
use Rattle.rx_book.specs.Passes.{view_of, word_of}
use Rattle.rx_ledger.specs.Answering.{main_caller}
use Rattle.rx_ledger.specs.Owned.{own_told}
use Rattle.rx_tree_laws.specs.Held.{Unheld}
use Rattle.rx_tree_laws.specs.Spine.{NoScopeOpen}
use Rattle.rx_parts.specs.Ledger.{Actor, Away, LegalLedger}
use Rattle.rx_parts.specs.declared.items.EntryItem.{EntryItem}
use Rattle.rx_parts.specs.declared.items.EventItem.{EventItem}
use Rattle.rx_parts.specs.Histories.{ledger_items}
use Rattle.rx_objects.specs.declared.ledger.LedgerFixed.{LedgerFixed}
use Rattle.rx_activities.specs.Knowing.{entries_seen, tree_seen, IsOfRun}

-- by what was seen of the ledger the task is on its way to this place, and stands at its beginning
pub record ComesSo (code : Block) (L : BookName LedgerFixed) (c : Control) (who : Caller) (p : Pass EntryItem) : Type 0 where
  pub legal : LegalLedger code (given L.fixed.setup) (ledger_items (view_of p).seen)
  pub actor : Actor
  pub stands : slice_get legal.actors who.task.0 ≡ Some actor
  pub holder : actor.holder ≡ (view_of p).number
  pub away : actor.phase ≡ Away
  pub place : actor.birth.to ≡ landing who.place
  pub no_batch : actor.stand.batch ≡ []
  pub unnamed : actor.named ≡ []
  pub term : StandsFor L.fixed.program.script c actor.stand.term
  pub vars : c.vars ≡ actor.stand.vars
  pub some : TermMakesSome actor.stand.term
  pub known : actor.stand.vars.places ≤ (tree_seen L.fixed p).places
  pub unheld : Unheld actor.stand.term
  pub no_scope : NoScopeOpen actor.stand.term
  pub bare : own_told (entries_seen p) who.task ≡ []
  pub serves : length (entries_seen p) + 1 < 2 ^ 31 → MayAskArrive (tree_seen L.fixed p) who

-- what is known of a task on its way with this control, ticket and pass, whatever statements the script stands for
pub record TravellerInvariant (L : BookName LedgerFixed) (c : Control) (who : Caller) (p : Pass EntryItem) : Type 0 where
  pub pass : IsOfRun L p
  pub inside : (landing who.place).0 < (tree_seen L.fixed p).places
  pub stands : (code : Block) → Stands L.fixed.program.script code → ComesSo code L c who p

-- the control, the ticket and the passes of the main activity before the first entry
pub record IsOpening (L : BookName LedgerFixed) (control : Control) (ticket : Caller) (pass : Pass EntryItem) (seat : Pass EventItem)
    : Type 0 where
  pub proper : Proper (given L.fixed.setup)
  pub main : ticket ≡ main_caller
  pub word : word_of pass ≡ L.word
  pub number : (view_of pass).number ≡ []
  pub unseen : (view_of pass).seen ≡ []
  pub at : slice_get L.fixed.places 0 ≡ Some (word_of seat)
  pub seat_number : (view_of seat).number ≡ []
  pub seat_unseen : (view_of seat).seen ≡ []
  pub stands : (code : Block) → Stands L.fixed.program.script code → StandsFor L.fixed.program.script control (items code [] Empty)
      × (control.vars ≡ no_vars L.fixed.setup.places)
