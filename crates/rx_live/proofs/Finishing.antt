-- The end of a run in parts, in its steps.
use Rattle.std.proofs.Common.{◌≡◌, ℕ, suc, ◌+◌, ◌≤◌, List, [], ◌∷◌, length, Option, Some, None, slice_get, refl, ap, sym, ◌∙◌, subst, arith}
use Rattle.rx_rules.proofs.Common.{Block, EndsWithRoot, death_number}
use Rattle.rx_syntax.specs.Shape.{Stands}
use Rattle.rx_store.specs.Kept.{StoreView}
use Rattle.rx_book.specs.declared.views.Stamped.{Stamped}
use Rattle.rx_book.specs.declared.views.View.{View}
use Rattle.rx_book.specs.declared.passes.Pass.{Pass}
use Rattle.rx_book.specs.declared.passes.Note.{Note}
use Rattle.rx_book.specs.Passes.{view_of, word_of, note_view}
use Rattle.rx_book.specs.Named.{BookName}
use Rattle.rx_parts.specs.declared.items.EntryItem.{EntryItem}
use Rattle.rx_parts.specs.declared.items.EventItem.{EventItem}
use Rattle.rx_objects.specs.declared.ledger.LedgerFixed.{LedgerFixed}
use Rattle.rx_objects.specs.Ledger.{LedgerIsLegal}
use Rattle.rx_objects.specs.Ending.{entries_at, IsHeard, PlaceEnds, EachEnds, StampsBeforeDeath, SeesEnd}
use Rattle.rx_objects.proofs.Ending.{all_later}
use Rattle.rx_stations.specs.Closed.{IsClosed}
use Rattle.rx_live.specs.Inside.Ending.{StaysAt, HaveWords, ShutsAt, MayBeShut}

pub sees_more : (L : BookName LedgerFixed) (old new : Pass EntryItem) → SeesEnd L old → word_of new ≡ word_of old → (view_of new).seen ≡ (view_of old).seen → SeesEnd L new
sees_more L old new sees word seen =
    record {
      word = word ∙ sees.word;
      lawful = subst (LedgerIsLegal L.fixed) (sym seen) sees.lawful;
      ends = subst (λ (h : List (Stamped EntryItem)). EndsWithRoot (entries_at h)) (sym seen) sees.ends;
    }

pub stays_refl : (p : Pass EntryItem) → StaysAt p p
stays_refl p = record { seen = refl; reach = omega arith }

pub stays_trans : (a b c : Pass EntryItem) → StaysAt a b → StaysAt b c → StaysAt a c
stays_trans a b c s t =
    record {
      seen = t.seen ∙ s.seen;
      reach = (let x = s.reach in
          let y = t.reach in omega (arith, x, y));
    }

-- Places that have ended.

-- a place that was closed, and whose note was heard, has ended
pub ends_so : (L : BookName LedgerFixed) (h : List (Stamped EntryItem)) (n : ℕ) (views : List (View EventItem)) (p : ℕ) (v : View EventItem) (s : StoreView) (note : Note EntryItem)
    → (closed : IsClosed L p v.seen s (Some note)) → slice_get views p ≡ Some v → IsHeard h n (note_view note) → PlaceEnds L h n views p s closed.history
ends_so L h n views p v s note closed pass heard =
    record { lawful = closed.lawful; view = v; pass = pass; begins = closed.begins; note = note; kept = closed.kept; heard = heard }

-- what is known of the places from p on, whose stores are these
pub record EndedFrom (L : BookName LedgerFixed) (h : List (Stamped EntryItem)) (n : ℕ) (views : List (View EventItem)) (p q : ℕ) (stores : List StoreView) : Type 0 where
  pub histories : List (List (Stamped EventItem))
  pub each : EachEnds L h n views p stores histories
  pub words : HaveWords L.fixed.setup.heap stores
  pub many : p + length histories ≡ q

pub none_ended : (L : BookName LedgerFixed) (h : List (Stamped EntryItem)) (n : ℕ) (views : List (View EventItem)) (q : ℕ) → EndedFrom L h n views q q []
none_ended L h n views q = record { histories = []; each = tt; words = tt; many = omega arith }

pub one_ended : (L : BookName LedgerFixed) (h : List (Stamped EntryItem)) (n m : ℕ) (views : List (View EventItem)) (p q : ℕ) (v : View EventItem) (s : StoreView) (note : Note EntryItem) (stores : List StoreView)
    → EndedFrom L h n views (suc p) q stores → n ≤ m → (closed : IsClosed L p v.seen s (Some note)) → slice_get views p ≡ Some v → IsHeard h m (note_view note) → EndedFrom L h m views p q (s ∷ stores)
one_ended L h n m views p q v s note stores e le closed pass heard =
    record {
      histories = closed.history ∷ e.histories;
      each = (ends_so L h m views p v s note closed pass heard, all_later L h n m views le (suc p) stores e.histories e.each);
      words = (closed.words, e.words);
      many = (let a = e.many in omega (arith, a));
    }

-- the stores of places that have ended may be shut
pub may_shut : (law : StampsBeforeDeath) (code : Block) (L : BookName LedgerFixed) (h : List (Stamped EntryItem)) (n : ℕ) (views : List (View EventItem)) → Stands L.fixed.program.script code → n ≤ length h
    → (p : ℕ) (ss : List StoreView) (ks : List (List (Stamped EventItem))) → p + length ks ≤ 16 → EachEnds L h n views p ss ks → MayBeShut (entries_at h) p ss
may_shut law code L h n views stands long p [] [] few e = tt
may_shut law code L h n views stands long p (s ∷ ss) (k ∷ ks) few e = (
  shuts (death_number 0 (record { 0 = p }) (entries_at h)) refl,
  may_shut law code L h n views stands long (suc p) ss ks (omega (arith, few)) e.1,
)
  where
    shuts : (o : Option ℕ) → death_number 0 (record { 0 = p }) (entries_at h) ≡ o → ShutsAt o s
    shuts None is = e.0.kept.is_open
    shuts (Some d) is = (e.0.kept.is_open, law code L h n views (record { 0 = p }) s k d stands (omega (arith, few)) long e.0 is)
may_shut law code L h n views stands long p [] (k ∷ ks) few e = absurd e
may_shut law code L h n views stands long p (s ∷ ss) [] few e = absurd e

-- so many stores as histories
pub as_many : (L : BookName LedgerFixed) (h : List (Stamped EntryItem)) (n : ℕ) (views : List (View EventItem)) (p : ℕ) (ss : List StoreView) (ks : List (List (Stamped EventItem)))
    → EachEnds L h n views p ss ks → length ss ≡ length ks
as_many L h n views p [] [] e = refl
as_many L h n views p (s ∷ ss) (k ∷ ks) e = ap suc (as_many L h n views (suc p) ss ks e.1)
as_many L h n views p [] (k ∷ ks) e = absurd e
as_many L h n views p (s ∷ ss) [] e = absurd e
