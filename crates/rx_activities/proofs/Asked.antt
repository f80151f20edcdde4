-- What an activity shows by its pass of a request to the ledger.
use Rattle.std.proofs.Common.{◌≡◌, ◌+◌, ◌<◌, ◌^◌, ℕ, Bool, true, false, List, [], ◌++◌, length, map, Option, Some, None, slice_get, refl, ap, sym, ◌∙◌, subst}
use Rattle.std.proofs.lemmas.Option.{same_Some}
use Rattle.rx_rules.proofs.Common.{PlaceId, Fault, Block, Term, Does, Opens, Calls, Spawns, Waits, Releases, Prints, Counts, Done, does, begins, granted, place_number, Tree, Cells, Given, Folds}
use Rattle.rx_rules.specs.declared.entries.Entry.{Entry}
use Rattle.rx_rules.specs.declared.tasks.Kind.{Kind}
use Rattle.rx_rules.specs.declared.tasks.Kind.TheVariants.{Finish as OfFinish}
use Rattle.rx_rules.specs.declared.tasks.Where.TheVariants.{At as Stays}
use Rattle.rx_history.specs.Setups.{given}
use Rattle.rx_history.specs.declared.asks.Ask.{Ask}
use Rattle.rx_history.specs.declared.asks.Ask.TheVariants.{Open as AskOpen, At as AskCall, Spawn as AskSpawn, Arrive as AskArrive, Wait as AskWait, Release as AskRelease, End as AskEnd, Print as AskPrint, Root as AskRoot, Census as AskCensus}
use Rattle.rx_finish.specs.declared.ledger.Caller.{Caller}
use Rattle.rx_finish.specs.Callers.{MayAskMoving, MayAskTo, MayAskWait, MayAskRelease, MayAskEnd}
use Rattle.rx_ticket.specs.declared.tickets.AnyTicket.{AnyTicket}
use Rattle.rx_ticket.specs.declared.tickets.AnyTicket.TheVariants.{Moving, Running, Held, Host}
use Rattle.rx_ledger.specs.Answering.{asker}
use Rattle.rx_ledger.specs.Asking.{IsRunning, IsHeld, HasPath, NoPath, MayAskFor, MayApply}
use Rattle.rx_ledger.specs.Owned.{Owned, own_told}
use Rattle.rx_ledger.proofs.OwnTold.{may_wait_next, may_end_next}
use Rattle.rx_book.specs.declared.passes.Note.{Note}
use Rattle.rx_book.specs.History.{items_of}
use Rattle.rx_book.specs.Passes.{view_of, word_of, note_view, note_word}
use Rattle.rx_book.specs.Named.{BookName}
use Rattle.rx_tree_laws.specs.Held.{is_held}
use Rattle.rx_tree_laws.proofs.Beginning.{begins-so}
use Rattle.rx_tree_laws.specs.TermSteps.{BeginsStatement}
use Rattle.rx_tree_laws.proofs.Granting.{release_held}
use Rattle.rx_tree_laws.proofs.SpineGrants.{GrantsSpine, spine-grant, EmptyWhereDone, spine-done}
use Rattle.rx_tree_laws.proofs.Granting.{not_held}
use Rattle.rx_tree_laws.proofs.Targets.{targets-exist}
use Rattle.rx_tree_laws.specs.TermSteps.{Targets}
use Rattle.rx_parts.specs.Ledger.{Walks}
use Rattle.rx_parts.proofs.Reading.{actors-say}
use Rattle.rx_parts.specs.declared.items.EventItem.{EventItem}
use Rattle.rx_parts.specs.Histories.{event_named, ledger_items, cells_in}
use Rattle.rx_objects.specs.declared.ledger.LedgerFixed.{LedgerFixed}
use Rattle.rx_objects.specs.declared.ledger.LedgerOp.{LedgerOp}
use Rattle.rx_objects.specs.Asking.{Requests, Suits, AskIsMade, HostAsks}
use Rattle.rx_objects.specs.Laws.{HoldsTicket, AsksLedger}
use Rattle.rx_objects.specs.Mentioned.{events_new}
use Rattle.rx_objects.specs.Noted.{cells_named, asked_place, NoteSuits}
use Rattle.rx_objects.proofs.Named.{named_same}
use Rattle.rx_objects.proofs.Staying.{entries_same}
use Rattle.rx_activities.specs.declared.hand.Hand.{Hand}
use Rattle.rx_activities.specs.Knowing.{StandsSo, ActivityInvariant, TicketServes, since, entries_seen, tree_seen, kinds_told}
use Rattle.rx_activities.specs.Inside.Sending.{SuitsStep}
use Rattle.rx_tree_laws.proofs.Silent.{silent_so}
use Rattle.rx_tree_laws.specs.TermSteps.{Silent}
use Rattle.rx_ledger.proofs.TermAsks.{newest, none_own}

-- Tickets.

-- the ticket of a task that does not wait
serves_free : (T : Tree) (ticket : AnyTicket) (P : Caller → Type 0) → ((who : Caller) → asker ticket ≡ Some who → MayAskMoving T who → P who) → TicketServes T false ticket → IsRunning ticket P
serves_free T (Moving who) P f s = absurd s
serves_free T (Running who) P f s = f who refl s.1
serves_free T (Held who) P f s = absurd (let e : false ≡ true = s.0 in let g : ⊥ = cc e in g)
serves_free T Host P f s = absurd s

-- and of one that waits
serves_held : (T : Tree) (ticket : AnyTicket) → TicketServes T true ticket → IsHeld ticket (MayAskRelease T)
serves_held T (Moving who) s = absurd s
serves_held T (Running who) s = absurd (let e : true ≡ false = s.0 in let g : ⊥ = cc e in g)
serves_held T (Held who) s = s.1
serves_held T Host s = absurd s

-- where its task is
at_place : (ticket : AnyTicket) (who : Caller) → asker ticket ≡ Some who → asked_place ticket ≡ place_number who.place
at_place (Moving v) who e = ap (λ (w : Caller). place_number w.place) (same_Some v who e)
at_place (Running v) who e = ap (λ (w : Caller). place_number w.place) (same_Some v who e)
at_place (Held v) who e = ap (λ (w : Caller). place_number w.place) (same_Some v who e)
at_place Host who e = absurd (let g : ⊥ = cc e in g)

-- Paths.

has_path : (o : Option (List ℕ)) → (x : List ℕ) × (o ≡ Some x) → HasPath o
has_path o h = subst HasPath (sym h.1) tt

no_path : (o : Option (List ℕ)) → o ≡ None → NoPath o
no_path o h = subst NoPath (sym h) tt

-- Scopes.

abbrev pub kinds_of : Owned → List Kind
kinds_of own = map (λ s. s.1) own

-- the note is of the seat, and has seen as much
pub record OfSeat (a : Hand) (n : Note EventItem) : Type 0 where
  pub word : note_word n ≡ word_of a.seat
  pub seen : (note_view n).seen ≡ (view_of a.seat).seen

module _ (code : Block) (L : BookName LedgerFixed) (a : Hand) (k : ActivityInvariant L a) (s : StandsSo code L a k.who.task) where
  abbrev U : Given
  U = given L.fixed.setup

  abbrev es : List Entry
  es = entries_seen a.pass

  abbrev T : Tree
  T = tree_seen L.fixed a.pass

  abbrev t : Term
  t = s.stand.term

  abbrev d : Does
  d = does s.stand.vars a.place.0 s.stand.term

  abbrev ks : List Kind
  ks = kinds_told (entries_seen a.pass) k.who.task

  pub folds : Folds U es
  folds = subst (Folds U) (entries_same (view_of a.pass).seen) s.legal.folds

  free : (e : Does) → d ≡ e → (e ≡ Releases → ⊥) → is_held t ≡ false
  free e h never = not_held s.stand.vars a.place.0 t (λ f. never (sym h ∙ f))

  moving : length es + 1 < 2 ^ 31 → is_held t ≡ false → (P : Caller → Type 0) → ((who : Caller) → asker a.ticket ≡ Some who → MayAskMoving T who → P who) → IsRunning a.ticket P
  moving few e P f = serves_free T a.ticket P f (subst (λ (b : Bool). TicketServes T b a.ticket) e (s.serves few))

  path_so : (e : Does) → d ≡ e → BeginsStatement e (begins t)
  path_so e h = subst (λ (z : Does). BeginsStatement z (begins t)) h (begins-so s.stand.vars a.place.0 t)

  silent : (e : Does) → d ≡ e → Silent e (begins t)
  silent e h = subst (λ (z : Does). Silent z (begins t)) h (silent_so s.stand.vars a.place.0 t)

  targets : (e : Does) → d ≡ e → Targets T.places e
  targets e h = subst (λ (z : Does). Targets T.places z) h (targets-exist s.stand.vars a.place.0 T.places t k.inside s.known)

  may_wait : (thrown : List Fault) → d ≡ Waits thrown → (who : Caller) → asker a.ticket ≡ Some who → MayAskMoving T who → MayAskWait T who
  may_wait thrown h who is m =
      let spine : GrantsSpine ks (Waits thrown) (granted [] t) = subst (λ (z : Does). GrantsSpine ks z (granted [] t)) h (spine-grant ks s.stand.vars a.place.0 [] t s.spine) in
      let new = newest (own_told es k.who.task) spine.1.0 OfFinish spine.1.1 in
      may_wait_next U es who new.0 new.1 folds (ap (λ (w : Caller). own_told es w.task) (sym (same_Some k.who who (sym k.asks ∙ is))) ∙ new.2) m

  may_end : (thrown : List Fault) → d ≡ Done thrown → (who : Caller) → asker a.ticket ≡ Some who → MayAskMoving T who → MayAskEnd T who
  may_end thrown h who is m =
      let none : ks ≡ [] = subst (λ (z : Does). EmptyWhereDone ks z) h (spine-done ks s.stand.vars a.place.0 t s.spine) in
      may_end_next U es who folds (ap (λ (w : Caller). own_told es w.task) (sym (same_Some k.who who (sym k.asks ∙ is))) ∙ none_own (own_told es k.who.task) none) m

  -- the ledger may be asked
  pub may_for : (ask : Ask) → SuitsStep d ask → length es + 1 < 2 ^ 31 → MayAskFor T a.ticket (begins t) ask
  may_for AskOpen h few = (moving few (free Opens h (λ f. let g : ⊥ = cc f in g)) (MayAskMoving T) (λ who is m. m), has_path (begins t) (path_so Opens h))
  may_for (AskCall to) h few =
      (moving few (free (Calls to.0) h (λ f. let g : ⊥ = cc f in g)) (λ who. MayAskTo T who to) (λ who is m. record { asks = m; target = targets (Calls to.0) h }), has_path (begins t) (path_so (Calls to.0) h))
  may_for (AskSpawn to) h few =
      (moving few (free (Spawns to.0) h (λ f. let g : ⊥ = cc f in g)) (λ who. MayAskTo T who to) (λ who is m. record { asks = m; target = targets (Spawns to.0) h }), has_path (begins t) (path_so (Spawns to.0) h))
  may_for AskArrive h few = absurd h
  may_for (AskWait thrown) h few =
      (moving few (free (Waits thrown) h (λ f. let g : ⊥ = cc f in g)) (MayAskWait T) (may_wait thrown h), no_path (begins t) (silent (Waits thrown) h))
  may_for AskRelease h few =
      let waits : is_held t ≡ true = release_held s.stand.vars a.place.0 t h in
      (serves_held T a.ticket (subst (λ (b : Bool). TicketServes T b a.ticket) waits (s.serves few)), no_path (begins t) (silent Releases h))
  may_for (AskEnd thrown) h few =
      (moving few (free (Done thrown) h (λ f. let g : ⊥ = cc f in g)) (MayAskEnd T) (may_end thrown h), no_path (begins t) (silent (Done thrown) h))
  may_for (AskPrint value) h few =
      (moving few (free (Prints value) h (λ f. let g : ⊥ = cc f in g)) (MayAskMoving T) (λ who is m. m), has_path (begins t) (path_so (Prints value) h))
  may_for AskRoot h few = absurd h
  may_for AskCensus h few =
      (moving few (free (Counts h.0) h.1 (λ f. let g : ⊥ = cc f in g)) (MayAskMoving T) (λ who is m. m), has_path (begins t) (path_so (Counts h.0) h.1))

  module _ (op : LedgerOp) (ticket : op.request.ticket ≡ a.ticket) (path : op.request.path ≡ begins t) (suits : SuitsStep d op.request.ask) where
    pub may_apply : length es + 1 < 2 ^ 31 → MayApply T op.request
    may_apply few =
        subst (λ (x : AnyTicket). MayAskFor T x op.request.path op.request.ask) (sym ticket)
        (subst (λ (o : Option (List ℕ)). MayAskFor T a.ticket o op.request.ask) (sym path) (may_for op.request.ask suits few))

    pub holds : HoldsTicket s.legal.actors (view_of a.pass).number op.request.ticket
    holds who is =
        let same : k.who ≡ who = same_Some k.who who (sym k.asks ∙ (ap asker (sym ticket) ∙ is)) in
        (s.actor, ap (λ (w : Caller). slice_get s.legal.actors w.task.0) (sym same) ∙ s.stands, s.holder)

    module _ (batch : op.request.batch ≡ a.batch) (events : map event_named (events_new op.mentions) ≡ since a) where
      abbrev cells : Cells
      cells = map event_named (events_new op.mentions)

      requested : (suit : Term → Does → Type 0) → suit t d → Requests s.legal.actors (view_of a.pass).reach (view_of a.pass).number cells op.request.batch (asker op.request.ticket) suit
      requested suit h =
          record {
            who = k.who;
            asks = ap asker ticket ∙ k.asks;
            does = d;
            may = record {
              actor = s.actor;
              stands = s.stands;
              held = sym s.holder;
              here = s.here;
              stand = s.stand;
              walks = subst (λ (l : Cells). Walks s.actor.birth.to s.actor.stand l s.stand) (sym events) s.walks;
              in_time = s.in_time;
              begun = batch ∙ s.batch;
              asks = ap (λ (p : PlaceId). does s.stand.vars p.0 s.stand.term) s.place;
            };
            place = k.is_at ∙ ap (λ (p : PlaceId). Stays p) (sym s.place);
            suited = h;
          }

      asked : (ask : Ask) → SuitsStep d ask → AskIsMade s.legal.actors (view_of a.pass).reach (view_of a.pass).number cells op.request.batch (asker op.request.ticket) op.request.path ask
      asked AskOpen h = requested (Suits AskOpen op.request.path) (h, sym path)
      asked (AskCall to) h = requested (Suits (AskCall to) op.request.path) (h, sym path)
      asked (AskSpawn to) h = requested (Suits (AskSpawn to) op.request.path) (h, sym path)
      asked AskArrive h = absurd h
      asked (AskWait thrown) h = requested (Suits (AskWait thrown) op.request.path) h
      asked AskRelease h = requested (Suits AskRelease op.request.path) h
      asked (AskEnd thrown) h = requested (Suits (AskEnd thrown) op.request.path) h
      asked (AskPrint value) h = requested (Suits (AskPrint value) op.request.path) (h, sym path)
      asked AskRoot h = tt
      asked AskCensus h = requested (Suits AskCensus op.request.path) (h.0, h.1, sym path)

      named : s.actor.named ≡ cells_named k.who.task.0 (items_of (view_of a.pass).seen)
      named = ((actors-say code U (ledger_items (view_of a.pass).seen) s.legal).1 k.who.task.0 s.actor s.stands).named ∙ named_same k.who.task.0 (view_of a.pass).seen

      note_suits : (o : Option (Note EventItem)) → (o ≡ None → since a ≡ []) → ((n : Note EventItem) → o ≡ Some n → OfSeat a n) → NoteSuits L.fixed.places (items_of (view_of a.pass).seen) a.ticket cells o
      note_suits None none some = events ∙ none refl
      note_suits (Some n) none some = (
        ap (λ (p : PlaceId). slice_get L.fixed.places p.0) (at_place a.ticket k.who k.asks ∙ ap place_number k.is_at) ∙ (k.seat.word ∙ ap Some (sym (some n refl).word)),
        (λ who is.
            subst (λ (w : Caller). cells_in w.task.0 (note_view n).seen ≡ cells_named w.task.0 (items_of (view_of a.pass).seen) ++ cells) (same_Some k.who who (sym k.asks ∙ is))
            (ap (cells_in k.who.task.0) (some n refl).seen ∙ (s.events ∙ (ap (λ (l : Cells). l ++ since a) named ∙ ap (λ (l : Cells). cells_named k.who.task.0 (items_of (view_of a.pass).seen) ++ l) (sym events))))),
      )

      host_asks : (ask : Ask) → SuitsStep d ask → HostAsks (view_of a.pass).number ask
      host_asks AskRoot h = absurd h
      host_asks _ h = tt

      -- the condition of the ledger's book's call, of the activity's pass, from which others may have been split
      pub asks_so : (n : ℕ) → (op.note ≡ None → since a ≡ []) → ((m : Note EventItem) → op.note ≡ Some m → OfSeat a m) → AsksLedger code L.fixed (record (view_of a.pass) { splits = n }) op
      asks_so n none some =
          record {
            legal = s.legal;
            may = may_apply;
            holds = holds;
            asks = asked op.request.ask suits;
            note = subst (λ (x : AnyTicket). NoteSuits L.fixed.places (items_of (view_of a.pass).seen) x cells op.note) (sym ticket) (note_suits op.note none some);
            host = host_asks op.request.ask suits;
          }
