-- What an activity knows where its entries name all its events and its term has not gone on since its entry before: at the beginning
-- of the run, at its birth, and at its arrival.
use Rattle.std.proofs.Common.{◌≡◌, ◌+◌, ◌<◌, ◌≤◌, ◌^◌, List, [], ◌++◌, length, map, drop, reverse, Some, slice_get, ap, sym, ◌∙◌, subst, arith}
use Rattle.std.proofs.Math.Seq.{drop-length}
use mathlib.Core.List.{IsPrefix}
use Rattle.rx_rules.proofs.Common.{PlaceId, Block, tree_of, Cells}
use Rattle.rx_rules.specs.declared.tasks.Where.TheVariants.{At as Stays}
use Rattle.rx_runs.specs.SomeWords.{TermMakesSome}
use Rattle.rx_finish.specs.declared.ledger.Caller.{Caller}
use Rattle.rx_finish.specs.Callers.{MayAskMoving}
use Rattle.rx_ticket.specs.declared.tickets.AnyTicket.{AnyTicket}
use Rattle.rx_ticket.specs.declared.tickets.AnyTicket.TheVariants.{Running}
use Rattle.rx_syntax.specs.Shape.{Stands}
use Rattle.rx_history.specs.Setups.{given}
use Rattle.rx_control.specs.declared.control.Control.{Control}
use Rattle.rx_control.specs.Stands.{StandsFor}
use Rattle.rx_book.specs.declared.views.Stamped.{Stamped}
use Rattle.rx_book.specs.declared.views.View.{View}
use Rattle.rx_book.specs.declared.passes.Pass.{Pass}
use Rattle.rx_book.specs.History.{items_of}
use Rattle.rx_book.specs.Passes.{view_of, word_of}
use Rattle.rx_book.specs.Named.{BookName}
use Rattle.rx_ledger.specs.Owned.{Owned, own_told}
use Rattle.rx_ledger.specs.Answering.{asker}
use Rattle.rx_tree_laws.specs.Held.{is_held, Unheld}
use Rattle.rx_tree_laws.specs.Spine.{NoScopeOpen, Spine}
use Rattle.rx_tree_laws.proofs.Holding.{unheld-front}
use Rattle.rx_tree_laws.proofs.Spines.{flat-spine}
use Rattle.rx_parts.specs.Ledger.{Actor, Present, Walks, LegalLedger, stays}
use Rattle.rx_parts.specs.declared.items.EntryItem.{EntryItem}
use Rattle.rx_parts.specs.declared.items.EventItem.{EventItem}
use Rattle.rx_parts.specs.Histories.{event_named, ledger_items, cells_in}
use Rattle.rx_objects.specs.declared.ledger.LedgerFixed.{LedgerFixed}
use Rattle.rx_objects.specs.Mentioned.{as_named}
use Rattle.rx_objects.specs.Ending.{entries_at}
use Rattle.rx_objects.specs.Ledger.{LedgerIsLegal}
use Rattle.rx_objects.specs.Place.{PlaceIsLegal, last_carried}
use Rattle.rx_activities.specs.declared.hand.Hand.{Hand}
use Rattle.rx_activities.specs.Knowing.{entries_seen, tree_seen, kinds_told, since, TicketServes, IsOfRun, IsSeatAt, StandsSo, ActivityInvariant}
use Rattle.rx_activities.specs.Inside.Births.{IsWith}

-- by what was seen of the ledger the caller's task is at this place, stands right behind its last entry and has made no event here
pub record BeginsSo (code : Block) (L : BookName LedgerFixed) (c : Control) (place : PlaceId) (pass : Pass EntryItem) (seat : Pass EventItem) (who : Caller) : Type 0 where
  pub legal : LegalLedger code (given L.fixed.setup) (ledger_items (view_of pass).seen)
  pub actor : Actor
  pub stands : slice_get legal.actors who.task.0 ≡ Some actor
  pub holder : actor.holder ≡ (view_of pass).number
  pub seated : actor.seat ≡ (view_of seat).number
  pub here : actor.phase ≡ Present
  pub at : actor.birth.to ≡ place
  pub unnamed : actor.named ≡ []
  pub events : cells_in who.task.0 (view_of seat).seen ≡ []
  pub in_time : actor.stand.low ≤ (view_of pass).reach
  pub no_batch : actor.stand.batch ≡ []
  pub term : StandsFor L.fixed.program.script c actor.stand.term
  pub vars : c.vars ≡ actor.stand.vars
  pub some : TermMakesSome actor.stand.term
  pub known : actor.stand.vars.places ≤ (tree_seen L.fixed pass).places
  pub unheld : Unheld actor.stand.term
  pub no_scope : NoScopeOpen actor.stand.term
  pub bare : own_told (entries_seen pass) who.task ≡ []
  pub serves : length (entries_seen pass) + 1 < 2 ^ 31 → MayAskMoving (tree_seen L.fixed pass) who

-- where the pass is the one that was told, no event was made since
none_since : (a : Hand) → a.told.value ≡ a.seat → since a ≡ []
none_since a same =
    ap (λ (l : List (Stamped EventItem)). map event_named (map as_named l))
    (ap (λ (p : Pass EventItem). drop (length (view_of p).mine) (view_of a.seat).mine) same ∙ drop-length (view_of a.seat).mine)

module _ (L : BookName LedgerFixed) (c : Control) (place : PlaceId) (pass : Pass EntryItem) (seat : Pass EventItem) (who : Caller) (a : Hand) (o : IsWith c place pass seat (Running who) [] a) where
  same : a.told.value ≡ a.seat
  same = o.told ∙ sym o.seat_is

  none : since a ≡ []
  none = none_since a same

  -- what is true of what the pass has seen is true of it
  by_pass : (P : View EntryItem → Type 0) → P (view_of pass) → P (view_of a.pass)
  by_pass P h = subst P (sym o.view) h

  by_seat : (P : Pass EventItem → Type 0) → P seat → P a.seat
  by_seat P h = subst P (sym o.seat_is) h

  by_ticket : (P : AnyTicket → Type 0) → P (Running who) → P a.ticket
  by_ticket P h = subst P (sym o.ticket_is) h

  by_control : (P : Control → Type 0) → P c → P a.control.value
  by_control P h = subst P (sym o.control) h

  seat_at : IsSeatAt L place seat pass → IsSeatAt L a.place a.seat a.pass
  seat_at h =
      record {
        word = ap (λ (p : PlaceId). slice_get L.fixed.places p.0) o.place_is ∙ by_seat (λ s. slice_get L.fixed.places place.0 ≡ Some (word_of s)) h.word;
        lawful = subst (λ (p : PlaceId). PlaceIsLegal (record { place = p; words = L.fixed.setup.heap; ledger = L }) (view_of a.seat).seen) (sym o.place_is)
            (by_seat (λ s. PlaceIsLegal (record { place = place; words = L.fixed.setup.heap; ledger = L }) (view_of s).seen) h.lawful);
        carried = by_pass (λ v. IsPrefix (last_carried (items_of (view_of a.seat).seen)) v.seen)
            (by_seat (λ s. IsPrefix (last_carried (items_of (view_of s).seen)) (view_of pass).seen) h.carried);
      }

  stands_so : (code : Block) → BeginsSo code L c place pass seat who → StandsSo code L a who.task
  stands_so code b =
      let places = L.fixed.setup.places in
      let both = by_pass (λ v. (m : LegalLedger code (given L.fixed.setup) (ledger_items v.seen)) × (slice_get m.actors who.task.0 ≡ Some b.actor)) (b.legal, b.stands) in
      let front = unheld-front b.actor.stand.term b.unheld in
      let kinds : kinds_told (entries_seen pass) who.task ≡ [] = ap (λ (own : Owned). reverse (map (λ s. s.1) own)) b.bare in
      record {
        legal = both.0;
        actor = b.actor;
        stands = both.1;
        holder = by_pass (λ v. b.actor.holder ≡ v.number) b.holder;
        seated = by_seat (λ s. b.actor.seat ≡ (view_of s).number) b.seated;
        here = b.here;
        place = b.at ∙ sym o.place_is;
        events = by_seat (λ s. cells_in who.task.0 (view_of s).seen ≡ []) b.events ∙ (λ i. sym b.unnamed i ++ sym none i);
        stand = b.actor.stand;
        walks = subst (λ (l : Cells). Walks b.actor.birth.to b.actor.stand l b.actor.stand) (sym none) stays;
        in_time = by_pass (λ v. b.actor.stand.low ≤ v.reach) b.in_time;
        term = by_control (λ d. StandsFor L.fixed.program.script d b.actor.stand.term) b.term;
        vars = by_control (λ d. d.vars ≡ b.actor.stand.vars) b.vars;
        batch = o.batch_is ∙ sym b.no_batch;
        some = b.some;
        known = by_pass (λ v. b.actor.stand.vars.places ≤ (tree_of places (entries_at v.seen)).places) b.known;
        held = front.0;
        calm = λ yes. none;
        spine = by_pass (λ v. Spine b.actor.stand.term (kinds_told (entries_at v.seen) who.task)) (subst (Spine b.actor.stand.term) (sym kinds) (flat-spine b.actor.stand.term b.no_scope));
        serves = by_pass (λ v. length (entries_at v.seen) + 1 < 2 ^ 31 → TicketServes (tree_of places (entries_at v.seen)) (is_held b.actor.stand.term) a.ticket)
            (λ short. by_ticket (TicketServes (tree_of places (entries_seen pass)) (is_held b.actor.stand.term)) (front.1, b.serves short));
      }

  pub knows_at : who.place ≡ Stays place → IsOfRun L pass → IsSeatAt L place seat pass → place.0 < (tree_seen L.fixed pass).places → ((code : Block) → Stands L.fixed.program.script code → BeginsSo code L c place pass seat who) → ActivityInvariant L a
  knows_at is_at run at inside begins =
      record {
        who = who;
        asks = ap asker o.ticket_is;
        is_at = is_at ∙ ap Stays (sym o.place_is);
        pass = record { word = o.word ∙ run.word; lawful = by_pass (λ v. LedgerIsLegal L.fixed v.seen) run.lawful };
        seat = seat_at at;
        inside = subst (λ (p : PlaceId). p.0 < (tree_seen L.fixed a.pass).places) (sym o.place_is) (by_pass (λ v. place.0 < (tree_of L.fixed.setup.places (entries_at v.seen)).places) inside);
        older = (let e = ap (λ (p : Pass EventItem). length (view_of p).mine) same in omega (arith, e));
        unmade = λ no. none;
        stands = λ code stands. stands_so code (begins code stands);
      }
