-- What the closed book of a place leaves.
use Rattle.std.specs.Prelude.{◌≡◌, ℕ, List, Option}
use mathlib.Core.List.{IsPrefix}
use Rattle.rx_store.specs.Kept.{StoreView}
use Rattle.rx_book.specs.declared.views.Stamped.{Stamped}
use Rattle.rx_book.specs.declared.passes.Note.{Note}
use Rattle.rx_book.specs.History.{items_of}
use Rattle.rx_book.specs.Named.{BookName}
use Rattle.rx_parts.specs.declared.items.EntryItem.{EntryItem}
use Rattle.rx_parts.specs.declared.items.EventItem.{EventItem}
use Rattle.rx_objects.specs.declared.ledger.LedgerFixed.{LedgerFixed}
use Rattle.rx_objects.specs.Place.{PlaceIsLegal, PlaceKeeps}

-- the book of place p was closed by a pass that had seen this: its history, the store and the note that it kept
pub record IsClosed (L : BookName LedgerFixed) (p : ℕ) (seen : List (Stamped EventItem)) (s : StoreView) (note : Option (Note EntryItem))
    : Type 0 where
  pub history : List (Stamped EventItem)
  pub lawful : PlaceIsLegal (record { place = record { 0 = p }; words = L.fixed.setup.heap; ledger = L }) history
  pub begins : IsPrefix seen history
  pub kept : PlaceKeeps (record { 0 = p }) s L note (items_of history)
  pub words : s.words ≡ L.fixed.setup.heap
