-- The book of a place of a run, and the pass of its first caller.
use Rattle.std.specs.Prelude.{◌≡◌, ℕ, [], Some, slice_get}
use Rattle.rx_base.specs.declared.ids.PlaceId.{PlaceId}
use Rattle.rx_book.specs.declared.passes.Pass.{Pass}
use Rattle.rx_book.specs.Passes.{view_of, word_of}
use Rattle.rx_book.specs.Named.{BookName}
use Rattle.rx_parts.specs.declared.items.EventItem.{EventItem}
use Rattle.rx_objects.specs.declared.ledger.LedgerFixed.{LedgerFixed}
use Rattle.rx_objects.specs.declared.place.PlaceFixed.{PlaceFixed}

-- the book is that of place p of a run with this ledger
pub record PlaceIs (L : BookName LedgerFixed) (p : PlaceId) (b : BookName PlaceFixed) : Type 0 where
  pub at : slice_get L.fixed.places p.0 ≡ Some b.word
  pub here : b.fixed.place ≡ p
  pub ledger : b.fixed.ledger ≡ L

-- the book is that of place p, round a store with as many words as the run's heaps have
pub record IsPlaceBook (L : BookName LedgerFixed) (p : PlaceId) (b : BookName PlaceFixed) : Type 0 where
  pub book : PlaceIs L p b
  pub words : b.fixed.words ≡ L.fixed.setup.heap

-- a pass of the first caller of the book of place p, who has made and seen nothing
pub record IsFirst (L : BookName LedgerFixed) (p : ℕ) (s : Pass EventItem) : Type 0 where
  pub word : slice_get L.fixed.places p ≡ Some (word_of s)
  pub number : (view_of s).number ≡ []
  pub unseen : (view_of s).seen ≡ []
