-- The books of a run before its first entry.
use Rattle.std.proofs.Common.{◌≡◌, ℕ, ◌+◌, ◌<◌, Bool, true, false, if◌then◌else◌, List, ◌++◌, length, Option, Some, IsSomeAnd, ap, sym, ◌∙◌}
use Rattle.atomic_table.specs.Seated.{TableId}
use Rattle.rx_rules.proofs.Common.{PlaceId}
use Rattle.rx_book.specs.declared.views.View.{View}
use Rattle.rx_book.specs.declared.passes.Pass.{Pass}
use Rattle.rx_book.specs.Kept.{born, parent_left}
use Rattle.rx_book.specs.Named.{BookName}
use Rattle.rx_book.specs.Passes.{view_of, word_of}
use Rattle.rx_parts.specs.declared.items.EventItem.{EventItem}
use Rattle.rx_objects.specs.declared.ledger.LedgerFixed.{LedgerFixed}
use Rattle.rx_objects.specs.Opened.{IsFirst}
use Rattle.rx_activities.specs.Knowing.{IsNewSeat}
use Rattle.rx_stations.specs.Stations.{PostName, AreFrom}
use Rattle.rx_live.specs.Inside.Ending.{SeatsFrom}

-- a first caller's pass stays so where passes are split from it
pub first_left : (L : BookName LedgerFixed) (p : ℕ) (s t : Pass EventItem) → IsFirst L p s → word_of t ≡ word_of s → view_of t ≡ parent_left (view_of s) → IsFirst L p t
first_left L p s t first word is =
    record {
      word = first.word ∙ ap Some (sym word);
      number = ap (λ (v : View EventItem). v.number) is ∙ first.number;
      unseen = ap (λ (v : View EventItem). v.seen) is ∙ first.unseen;
    }

-- a pass that is split from it has seen nothing
pub born_first : (L : BookName LedgerFixed) (p : PlaceId) (s t : Pass EventItem) → IsFirst L p.0 s → word_of t ≡ word_of s → view_of t ≡ born (view_of s) → IsNewSeat L p t
born_first L p s t first word is = record { word = first.word ∙ ap Some (sym word); unseen = ap (λ (v : View EventItem). v.seen) is ∙ first.unseen }

-- The places from those with these words on are open; the words in front of theirs are `front`.
pub record OpenFrom (L : BookName LedgerFixed) (whole front : List TableId) (posts : List PostName) (passes : List (Pass EventItem)) (starts : Option (Pass EventItem)) : Type 0 where
  pub rest : List TableId
  pub is : whole ≡ front ++ rest
  pub stations : AreFrom (length front) posts
  pub many : length posts ≡ length rest
  pub seats : SeatsFrom L (length front) passes
  pub as_many : length passes ≡ length rest
  pub first : length front < length whole → IsSomeAnd starts (IsFirst L (length front))

-- what a list is where one more was put into it
pub when_put : {X : Type 0} (b : Bool) (items put stayed : List X) → items ≡ (if b then put else stayed) → b ≡ true → items ≡ put
when_put true items put stayed is done = is
when_put false items put stayed is done = cc
