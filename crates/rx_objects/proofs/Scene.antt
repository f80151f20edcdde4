-- What the main activity may ask before its first entry.
use Rattle.std.proofs.Common.{◌≡◌, ℕ, ◌≤◌, List, [], ◌∷◌, map, Option, Some, None, slice_get, refl, ap, sym, ◌∙◌, subst, arith}
use Rattle.std.proofs.lemmas.Option.{same_Some}
use Rattle.rx_rules.proofs.Common.{Block, Empty, items, no_vars, does, begins, tree_of, Given, Folds, Cells}
use Rattle.rx_history.specs.declared.step.Next.TheVariants.{Book as BookStep}
use Rattle.rx_history.specs.declared.step.Want.TheVariants.{Open as WantOpen}
use Rattle.rx_history.specs.Next.{next_of}
use Rattle.rx_history.specs.Setups.{given}
use Rattle.rx_history.specs.declared.asks.Ask.TheVariants.{Open as AskOpen}
use Rattle.rx_finish.specs.declared.ledger.Caller.{Caller}
use Rattle.rx_ticket.specs.declared.tickets.AnyTicket.TheVariants.{Running}
use Rattle.rx_ledger.specs.declared.asks.Request.{Request}
use Rattle.rx_ledger.specs.Asking.{MayApply}
use Rattle.rx_ledger.specs.Answering.{asker, main_caller}
use Rattle.rx_ledger.proofs.Rows.{main_begins}
use Rattle.rx_book.specs.declared.views.Stamped.{Stamped}
use Rattle.rx_book.specs.declared.views.View.{View}
use Rattle.rx_book.specs.declared.passes.Note.{Note}
use Rattle.rx_book.specs.History.{items_of}
use Rattle.rx_parts.specs.Ledger.{LegalLedger, RootIsLast, AllMake, main_actor, entries_of, Walks, stays}
use Rattle.rx_parts.proofs.Growing.{ledger-opens}
use Rattle.rx_parts.specs.declared.items.EntryItem.{EntryItem}
use Rattle.rx_parts.specs.declared.items.EventItem.{EventItem}
use Rattle.rx_parts.specs.Histories.{event_named, ledger_items}
use Rattle.rx_objects.specs.declared.ledger.LedgerFixed.{LedgerFixed}
use Rattle.rx_objects.specs.declared.ledger.LedgerOp.{LedgerOp}
use Rattle.rx_objects.specs.Ledger.{LedgerIsLegal}
use Rattle.rx_objects.specs.Mentioned.{events_new, entries_in}
use Rattle.rx_objects.specs.Asking.{Requests, Suits, RequestIsMade, HostAsks}
use Rattle.rx_objects.specs.Noted.{NoteSuits}
use Rattle.rx_objects.specs.Laws.{AsksLedger}
use Rattle.rx_objects.proofs.Fitting.{none_new}
use Rattle.rx_objects.proofs.Ending.{objects_open}
use Rattle.rx_plan.proofs.Requests.{asks_open}

-- the history without entries
pub opened : (f : LedgerFixed) (seen : List (Stamped EntryItem)) → 1 ≤ f.setup.places → f.setup.places ≤ 16 → seen ≡ [] → LedgerIsLegal f seen
opened f seen some few none = subst (LedgerIsLegal f) (sym none) (objects_open.0 f some few)

module _ (code : Block) (f : LedgerFixed) (seen : List (Stamped EntryItem)) (some : 1 ≤ f.setup.places) (few : f.setup.places ≤ 16) (none : seen ≡ []) where
  abbrev U : Given
  U = given f.setup

  -- with the main activity, as a record that shows it
  abbrev pub first : LegalLedger code U (ledger_items seen)
  first =
      record {
        folds = subst (λ (l : List (Stamped EntryItem)). Folds U (entries_of (ledger_items l))) (sym none) (ledger-opens code U some few).folds;
        last = subst (λ (l : List (Stamped EntryItem)). RootIsLast (entries_of (ledger_items l))) (sym none) tt;
        actors = main_actor code U.places ∷ [];
        made = subst (λ (l : List (Stamped EntryItem)). AllMake 0 (main_actor code U.places ∷ []) (ledger_items l) (main_actor code U.places ∷ [])) (sym none) refl;
      }

pub main_opens : (code : Block) (f : LedgerFixed) (v : View EntryItem) (op : LedgerOp) (path : List ℕ) → 1 ≤ f.setup.places → f.setup.places ≤ 16 → v.number ≡ [] → v.seen ≡ []
    → op.request ≡ record { ticket = Running main_caller; ask = AskOpen; batch = []; path = Some path } → op.mentions.before.value ≡ op.mentions.now.value → op.note ≡ None
    → next_of (does (no_vars f.setup.places) 0 (items code [] Empty)) ≡ BookStep WantOpen → begins (items code [] Empty) ≡ Some path → AsksLedger code f v op
main_opens code f v op path some few number none asks same no_note next begun =
    record {
      legal = first code f v.seen some few none;
      may = λ low. subst (MayApply (tree_of f.setup.places (entries_in (items_of v.seen)))) (sym asks)
          (main_begins f.setup.places (entries_in (items_of v.seen)) main_caller (ap (λ (l : List (Stamped EntryItem)). entries_in (items_of l)) none) refl, tt);
      holds = λ who is.
          let it : main_caller ≡ who = same_Some main_caller who (ap (λ (q : Request). asker q.ticket) (sym asks) ∙ is) in
          (main_actor code f.setup.places, ap (λ (w : Caller). slice_get (main_actor code f.setup.places ∷ []) w.task.0) (sym it), sym number);
      asks = subst (λ (q : Request). RequestIsMade (main_actor code f.setup.places ∷ []) v.reach v.number (map event_named (events_new op.mentions)) q) (sym asks) made;
      note = subst (λ (o : Option (Note EventItem)). NoteSuits f.places (items_of v.seen) op.request.ticket (map event_named (events_new op.mentions)) o) (sym no_note) nothing;
      host = subst (λ (q : Request). HostAsks v.number q.ask) (sym asks) tt;
    }
  where
    nothing : map event_named (events_new op.mentions) ≡ []
    nothing = ap (map event_named) (none_new op.mentions same)

    walks : Walks (record { 0 = 0 }) (main_actor code f.setup.places).stand (map event_named (events_new op.mentions)) (main_actor code f.setup.places).stand
    walks = subst (λ (l : Cells). Walks (record { 0 = 0 }) (main_actor code f.setup.places).stand l (main_actor code f.setup.places).stand) (sym nothing) stays

    made : Requests (main_actor code f.setup.places ∷ []) v.reach v.number (map event_named (events_new op.mentions)) [] (Some main_caller) (Suits AskOpen (Some path))
    made =
        record {
          who = main_caller;
          asks = refl;
          does = does (no_vars f.setup.places) 0 (items code [] Empty);
          may = record {
            actor = main_actor code f.setup.places;
            stands = refl;
            held = number;
            here = refl;
            stand = (main_actor code f.setup.places).stand;
            walks = walks;
            in_time = omega arith;
            begun = refl;
            asks = refl;
          };
          place = refl;
          suited = (asks_open (does (no_vars f.setup.places) 0 (items code [] Empty)) next, begun);
        }
