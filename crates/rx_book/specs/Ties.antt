-- What lies under the lock of a book.
use Rattle.std.specs.Prelude.{◌≡◌, true, false, List, []}
use Rattle.std.specs.declared.snapshot.Snapshot.{Snapshot}
use Rattle.rx_book.specs.declared.views.Stamped.{Stamped}
use Rattle.rx_book.specs.declared.books.Locked.{Locked}
use Rattle.rx_book.specs.History.{items_of}
use Rattle.rx_book.specs.Replay.{Replays}

module _ {O I P R F : Type 0} (fixed : O → F) (entries : O → List I) (step : F → List I → P → R → List I → Type 0)
    (legal : F → List (Stamped I) → Type 0) where
  -- the marked seat is one of the word that the key names, and it has seen the object's whole history, which is legal and replays;
  -- what is fixed of the object is as it was in the key
  abbrev pub Tied : Snapshot (Locked O I) → Locked O I → Type 0
  Tied k l = (l.mark.table_id ≡ k.value.mark.table_id) × (l.mark.me.1 ≡ []) × (l.mark.me.0.marked ≡ true)
      × (l.mark.me.0.numbered ≡ false) × (entries l.object.value ≡ items_of l.mark.me.0.seen)
      × legal (fixed k.value.object.value) l.mark.me.0.seen × Replays (step (fixed k.value.object.value)) l.mark.me.0.seen
      × (fixed l.object.value ≡ fixed k.value.object.value)
