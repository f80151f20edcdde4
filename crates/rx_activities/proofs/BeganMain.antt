-- What the main activity knows before its first entry.
use Rattle.std.proofs.Common.{◌≡◌, ◌<◌, ◌≤◌, List, [], ◌∷◌, Some, slice_get, refl, ap, sym, subst, arith}
use mathlib.Core.List.{IsPrefix}
use Rattle.rx_rules.proofs.Common.{PlaceId, Block, tree_of, Empty}
use Rattle.rx_runs.specs.SomeWords.{MakesSome}
use Rattle.rx_finish.specs.declared.ledger.Caller.{Caller}
use Rattle.rx_ticket.specs.declared.tickets.AnyTicket.TheVariants.{Running}
use Rattle.rx_syntax.specs.Shape.{Stands}
use Rattle.rx_syntax.specs.Grammar.{AllInRange}
use Rattle.rx_control.specs.declared.control.Control.{Control}
use Rattle.rx_book.specs.declared.views.Stamped.{Stamped}
use Rattle.rx_book.specs.declared.passes.Pass.{Pass}
use Rattle.rx_book.specs.History.{items_of}
use Rattle.rx_book.specs.Passes.{view_of, word_of}
use Rattle.rx_book.specs.Named.{BookName}
use Rattle.rx_ledger.specs.Owned.{own_told}
use Rattle.rx_ledger.proofs.Rows.{main_begins}
use Rattle.rx_tree_laws.proofs.Holding.{unheld-items}
use Rattle.rx_tree_laws.proofs.Spines.{flat-items}
use Rattle.rx_control.proofs.SomeWords.{makes-some}
use Rattle.rx_parts.specs.Ledger.{main_actor}
use Rattle.rx_parts.specs.declared.items.EntryItem.{EntryItem}
use Rattle.rx_parts.specs.declared.items.EventItem.{EventItem}
use Rattle.rx_parts.specs.Histories.{cells_in}
use Rattle.rx_objects.specs.declared.ledger.LedgerFixed.{LedgerFixed}
use Rattle.rx_objects.specs.Ending.{entries_at}
use Rattle.rx_objects.specs.Place.{PlaceIsLegal, last_carried}
use Rattle.rx_objects.proofs.Scene.{opened, first}
use Rattle.rx_activities.specs.declared.hand.Hand.{Hand}
use Rattle.rx_activities.specs.Knowing.{IsOfRun, IsSeatAt, ActivityInvariant}
use Rattle.rx_activities.specs.Starting.{IsOpening}
use Rattle.rx_activities.specs.Inside.Births.{IsWith}
use Rattle.rx_activities.proofs.BeganAt.{BeginsSo, knows_at}
use Rattle.rx_runs.proofs.SomeWords.{some-items}
use Rattle.rx_check.proofs.OneTree.{one-tree}

-- a new pass of a place's book knows what it has to
pub new_seat : (L : BookName LedgerFixed) (p : PlaceId) (seat : Pass EventItem) (pass : Pass EntryItem) → slice_get L.fixed.places p.0 ≡ Some (word_of seat) → (view_of seat).seen ≡ [] → IsSeatAt L p seat pass
new_seat L p seat pass word unseen =
    record {
      word = word;
      lawful = subst (λ (l : List (Stamped EventItem)). PlaceIsLegal (record { place = p; words = L.fixed.setup.heap; ledger = L }) l) (sym unseen) (λ code stands. tt);
      carried = subst (λ (l : List (Stamped EventItem)). IsPrefix (last_carried (items_of l)) (view_of pass).seen) (sym unseen) ((view_of pass).seen, refl);
    }

module _ (L : BookName LedgerFixed) (control : Control) (ticket : Caller) (pass : Pass EntryItem) (seat : Pass EventItem) (o : IsOpening L control ticket pass seat) where
  some : 1 ≤ L.fixed.setup.places
  some = o.proper.some

  few : L.fixed.setup.places ≤ 16
  few = (let n = o.proper.few in omega (arith, n))

  -- what is true of no entries is true of those seen
  by_none : (P : List (Stamped EntryItem) → Type 0) → P [] → P (view_of pass).seen
  by_none P h = subst P (sym o.unseen) h

  run : IsOfRun L pass
  run = record { word = o.word; lawful = opened L.fixed (view_of pass).seen some few o.unseen }

  begins : (t code : Block) → Stands L.fixed.program.script t → AllInRange t → Stands L.fixed.program.script code → BeginsSo code L control (record { 0 = 0 }) pass seat ticket
  begins t code is fits stands =
      let so = o.stands code stands in
      let none : entries_at (view_of pass).seen ≡ [] = ap entries_at o.unseen in
      record {
        legal = first code L.fixed (view_of pass).seen some few o.unseen;
        actor = main_actor code L.fixed.setup.places;
        stands = ap (λ (w : Caller). slice_get (main_actor code L.fixed.setup.places ∷ []) w.task.0) o.main;
        holder = sym o.number;
        seated = sym o.seat_number;
        here = refl;
        at = refl;
        unnamed = refl;
        events = ap (cells_in ticket.task.0) o.seat_unseen;
        in_time = omega arith;
        no_batch = refl;
        term = so.0;
        vars = so.1;
        some = some-items code [] 0 Empty (subst (λ (b : Block). MakesSome b) (one-tree L.fixed.program.script t code is stands) (makes-some t fits)) tt;
        known = by_none (λ l. L.fixed.setup.places ≤ (tree_of L.fixed.setup.places (entries_at l)).places) (omega arith);
        unheld = unheld-items code [] 0 Empty tt;
        no_scope = flat-items code [] 0 Empty tt;
        bare = by_none (λ l. own_told (entries_at l) ticket.task ≡ []) refl;
        serves = λ short. main_begins L.fixed.setup.places (entries_at (view_of pass).seen) ticket none o.main;
      }

  pub main_knows : (t : Block) → Stands L.fixed.program.script t → AllInRange t → (a : Hand) → IsWith control (record { 0 = 0 }) pass seat (Running ticket) [] a → ActivityInvariant L a
  main_knows t is fits a o' =
      knows_at L control (record { 0 = 0 }) pass seat ticket a o' (ap (λ (w : Caller). w.place) o.main) run
      (new_seat L (record { 0 = 0 }) seat pass o.at o.seat_unseen)
      (by_none (λ l. 0 < (tree_of L.fixed.setup.places (entries_at l)).places) some)
      (λ code stands. begins t code is fits stands)
