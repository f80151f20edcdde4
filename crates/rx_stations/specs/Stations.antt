-- The places of a run, as its workers share them.
use Rattle.std.specs.Prelude.{◌≡◌, ℕ, suc, List, [], ◌∷◌, length}
use Rattle.std.specs.declared.alloc.Global.{Global}
use Rattle.crossbeam_queue.specs.SegTies.{SegId}
use Rattle.rx_base.specs.declared.ids.PlaceId.{PlaceId}
use Rattle.rx_check.specs.Checked.{Checked}
use Rattle.rx_book.specs.Named.{BookName}
use Rattle.rx_objects.specs.declared.ledger.LedgerFixed.{LedgerFixed}

-- a place, and its mailbox
pub record PostName : Type 0 where
  pub place : PlaceId
  pub mail : SegId Global

-- they are of places p, p + 1, ..
abbrev pub AreFrom : ℕ → List PostName → Type 0
AreFrom p [] = Unit {0}
AreFrom p (s ∷ ss) = (s.place.0 ≡ p) × AreFrom (suc p) ss

-- what workers share: the run's ledger and program, and each of its places
pub record IsHall (L : BookName LedgerFixed) (ledger : BookName LedgerFixed) (p : Checked) (posts : List PostName) : Type 0 where
  pub ledger_is : ledger ≡ L
  pub program : ledger.fixed.program ≡ p
  pub places : AreFrom 0 posts
  pub all : length posts ≡ length L.fixed.places
