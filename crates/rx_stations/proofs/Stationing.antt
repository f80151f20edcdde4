-- Places in their order.
use Rattle.std.proofs.Common.{◌≡◌, ℕ, zero, suc, ◌+◌, List, [], ◌∷◌, Some, slice_get, ap, ◌∙◌, subst, arith}
use Rattle.std.proofs.lemmas.Option.{slice_get_within}
use Rattle.rx_base.specs.declared.ids.PlaceId.{PlaceId}
use Rattle.rx_book.specs.declared.views.View.{View}
use Rattle.rx_book.specs.Calls.{Met}
use Rattle.rx_book.specs.declared.passes.Pass.{Pass}
use Rattle.rx_book.specs.Passes.{view_of, word_of}
use Rattle.rx_book.specs.Named.{BookName}
use Rattle.rx_parts.specs.declared.items.EntryItem.{EntryItem}
use Rattle.rx_objects.specs.declared.ledger.LedgerFixed.{LedgerFixed}
use Rattle.rx_objects.specs.declared.place.PlaceFixed.{PlaceFixed}
use Rattle.rx_objects.specs.Ledger.{LedgerIsLegal}
use Rattle.rx_objects.specs.Place.{shown}
use Rattle.rx_objects.proofs.Places.{met_one}
use Rattle.rx_objects.specs.Opened.{PlaceIs}
use Rattle.rx_activities.specs.Knowing.{IsOfRun}
use Rattle.rx_stations.specs.Stations.{PostName, AreFrom}
use Rattle.rx_base.proofs.SameIds.{place-is}

-- the i-th of them is of place p + i
pub post_at : (p i : ℕ) (ss : List PostName) (s : PostName) → AreFrom p ss → slice_get ss i ≡ Some s → s.place.0 ≡ p + i
post_at p i [] s are is = absurd (let w = slice_get_within {A = PostName} [] i s is in omega (arith, w))
post_at p zero (x ∷ ss) s are is =
    let same : x ≡ s = cc is in
    let a = ap (λ (q : PostName). q.place.0) same in
    let b = are.0 in omega (arith, a, b)
post_at p (suc i) (x ∷ ss) s are is =
    let a = post_at (suc p) i ss s are.1 is in omega (arith, a)

-- the station at a place's number is that of the place
pub post_is : (ss : List PostName) (p : PlaceId) (s : PostName) → AreFrom 0 ss → slice_get ss p.0 ≡ Some s → s.place ≡ p
post_is ss p s are is = let a = post_at 0 p.0 ss s are is in place-is s.place p (omega (arith, a))

pub place_moves : (L : BookName LedgerFixed) (p q : PlaceId) (b : BookName PlaceFixed) → p ≡ q → PlaceIs L p b → PlaceIs L q b
place_moves L p q b same is = subst (λ (r : PlaceId). PlaceIs L r b) same is

-- a pass that has met a note of the run is of the run
pub met_of_run : (L : BookName LedgerFixed) (old new : Pass EntryItem) (n : View EntryItem) → IsOfRun L old → LedgerIsLegal L.fixed n.seen → word_of new ≡ word_of old → Met shown (view_of old) n (view_of new) → IsOfRun L new
met_of_run L old new n of lawful word met =
    record { word = word ∙ of.word; lawful = met_one (LedgerIsLegal L.fixed) (view_of old) n (view_of new) met of.lawful lawful }
