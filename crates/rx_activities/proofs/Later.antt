-- What an activity knew before others acted, it knows after.
use Rattle.std.proofs.Common.{◌≡◌, ◌+◌, ◌<◌, ◌≤◌, ◌^◌, ◌==◌, ℕ, Bool, true, false, cond, List, [], ◌∷◌, ◌++◌, length, map, reverse, Option, Some, None, slice_get, refl, ap, sym, ◌∙◌, subst, arith, length-append}
use Rattle.std.proofs.lemmas.Bool.{eqb-true}
use Rattle.std.proofs.lemmas.Option.{same_Some}
use Rattle.rx_rules.proofs.Common.{TaskId, Block, tree_of, Given, Folds}
use Rattle.rx_rules.specs.declared.entries.Entry.{Entry}
use Rattle.rx_rules.specs.declared.entries.Entry.TheVariants.{Step, Root, Death, Join}
use Rattle.rx_tree_laws.specs.Sound.{Each}
use Rattle.rx_history.specs.Setups.{given}
use Rattle.rx_history.specs.declared.asks.Ask.TheVariants.{Open as AskOpen, Release as AskRelease}
use Rattle.rx_finish.specs.declared.ledger.Caller.{Caller}
use Rattle.rx_ticket.specs.declared.tickets.AnyTicket.{AnyTicket}
use Rattle.rx_ticket.specs.declared.tickets.AnyTicket.TheVariants.{Moving, Running, Held, Host}
use Rattle.rx_ledger.specs.Answering.{asker}
use Rattle.rx_ledger.specs.Owned.{Owned, own_after, own_from, own_told, NumbersAreLeft}
use Rattle.rx_ledger.specs.Staying.{NotBy, NotOf}
use Rattle.rx_ledger.proofs.Called.{own_append}
use Rattle.rx_ledger.proofs.StaysGood.{tickets_stay_good, places_more}
use Rattle.rx_book.specs.declared.views.Stamped.{Stamped}
use Rattle.rx_book.specs.declared.passes.Pass.{Pass}
use Rattle.rx_book.specs.Passes.{view_of}
use Rattle.rx_book.specs.Named.{BookName}
use Rattle.rx_tree_laws.specs.Held.{is_held}
use Rattle.rx_tree_laws.specs.Spine.{Spine}
use Rattle.rx_parts.specs.Ledger.{LedgerItem, LegalLedger}
use Rattle.rx_parts.specs.Growing.{NoneBy}
use Rattle.rx_parts.specs.declared.items.EntryItem.{EntryItem}
use Rattle.rx_parts.specs.Histories.{ledger_item, ledger_items}
use Rattle.rx_objects.specs.declared.ledger.LedgerFixed.{LedgerFixed}
use Rattle.rx_objects.specs.Ending.{entries_at}
use Rattle.rx_objects.specs.Laws.{HoldsTicket}
use Rattle.rx_ledger.proofs.OwnTold.{numbers_are_left}
use Rattle.rx_parts.proofs.Growing.{task-stays}
use Rattle.rx_objects.proofs.Fitting.{others_spare}
use Rattle.rx_objects.proofs.Staying.{entries_same}
use Rattle.rx_activities.specs.declared.hand.Hand.{Hand}
use Rattle.rx_activities.specs.Knowing.{StandsSo, ActivityInvariant, TicketServes, kinds_told}
use Rattle.rx_activities.proofs.Calling.{with_pass}

-- what is known in a book is known by each name of it
pub of_named : (L M : BookName LedgerFixed) (hand : Hand) → L ≡ M → ActivityInvariant L hand → ActivityInvariant M hand
of_named L M hand is k = subst (λ (b : BookName LedgerFixed). ActivityInvariant b hand) is k

-- the scopes of a task stay where all entries are of others
pub own_stays : (t : TaskId) (own : Owned) (es : List Entry) → Each (NotBy t) es → own_from t own es ≡ own
own_stays t own [] h = refl
own_stays t own (Step u act batch ∷ es) h = go (own_stays t own es h.1) (u.0 == t.0) refl
  where
    go : own_from t own es ≡ own → (b : Bool) → (u.0 == t.0) ≡ b → own_from t (cond b (own_after act own) own) es ≡ own
    go rest true e = absurd (h.0 (sym (eqb-true u.0 t.0 e)))
    go rest false e = rest
own_stays t own (Root lost masked thrown ∷ es) h = own_stays t own es h.1
own_stays t own (Death d ∷ es) h = own_stays t own es h.1
own_stays t own (Join d ∷ es) h = own_stays t own es h.1

-- what the entries of others leave
pub told_stays : (t : TaskId) (es more : List Entry) → Each (NotBy t) more → own_told (es ++ more) t ≡ own_told es t
told_stays t es more h = own_append t [] es more ∙ own_stays t (own_told es t) more h

-- a ticket serves as before where its task has appended nothing
pub serves_later : (U : Given) (es more : List Entry) (waits : Bool) (ticket : AnyTicket) → Folds U (es ++ more) → Each (NotOf ticket) more → length (es ++ more) + 1 < 2 ^ 31 → NumbersAreLeft → TicketServes (tree_of U.places es) waits ticket → TicketServes (tree_of U.places (es ++ more)) waits ticket
serves_later U es more waits (Moving who) folds none short left s = absurd s
serves_later U es more waits (Running who) folds none short left s =
    (s.0, (tickets_stay_good U es more (record { ticket = Running who; ask = AskOpen; batch = []; path = Some [] }) folds none (left U.places (es ++ more) short) (s.1, tt)).0)
serves_later U es more waits (Held who) folds none short left s =
    (s.0, (tickets_stay_good U es more (record { ticket = Held who; ask = AskRelease; batch = []; path = None }) folds none (left U.places (es ++ more) short) (s.1, tt)).0)
serves_later U es more waits Host folds none short left s = absurd s

-- Histories as lists.

pub items_more : (g more : List (Stamped EntryItem)) → ledger_items (g ++ more) ≡ ledger_items g ++ ledger_items more
items_more [] more = refl
items_more (x ∷ g) more = ap (λ (l : List LedgerItem). ledger_item x ∷ l) (items_more g more)

pub entries_more : (g more : List (Stamped EntryItem)) → entries_at (g ++ more) ≡ entries_at g ++ entries_at more
entries_more [] more = refl
entries_more (x ∷ g) more = ap (λ (l : List Entry). x.item.entry ∷ l) (entries_more g more)

-- Of the ledger's history g an activity knew this of its task; others have appended `more` since.
module _ (code : Block) (L : BookName LedgerFixed) (a : Hand) (t : TaskId) (s : StandsSo code L a t) (who : Caller) (asks : asker a.ticket ≡ Some who) (own : who.task ≡ t) (more : List (Stamped EntryItem)) (alone : NoneBy (view_of a.pass).number (ledger_items more))
    (long : LegalLedger code (given L.fixed.setup) (ledger_items ((view_of a.pass).seen ++ more))) where
  abbrev pub U : Given
  U = given L.fixed.setup

  abbrev pub g : List (Stamped EntryItem)
  g = (view_of a.pass).seen

  -- the longer history as one list behind the other
  apart : LegalLedger code U (ledger_items g ++ ledger_items more)
  apart = subst (LegalLedger code U) (items_more g more) long

  stands_apart : slice_get apart.actors t.0 ≡ Some s.actor
  stands_apart = task-stays code U (ledger_items g) (ledger_items more) t.0 s.actor s.legal apart s.stands (subst (λ (c : List ℕ). NoneBy c (ledger_items more)) (sym s.holder) alone)

  pub actor_later : (m : LegalLedger code U (ledger_items (g ++ more))) × (slice_get m.actors t.0 ≡ Some s.actor)
  actor_later = subst (λ (l : List LedgerItem). (m : LegalLedger code U l) × (slice_get m.actors t.0 ≡ Some s.actor)) (sym (items_more g more)) (apart, stands_apart)

  -- no new entry is of the task
  pub spared : Each (NotOf a.ticket) (entries_at more)
  spared =
      let holds : HoldsTicket s.legal.actors (view_of a.pass).number a.ticket = λ w e. (s.actor, ap (λ (x : TaskId). slice_get s.legal.actors x.0) (same w e) ∙ s.stands, s.holder) in
      subst (Each (NotOf a.ticket)) (entries_same more) (others_spare code U (ledger_items g) (ledger_items more) (view_of a.pass).number a.ticket s.legal apart holds alone)
    where
      same : (w : Caller) → asker a.ticket ≡ Some w → w.task ≡ t
      same w e = ap (λ (o : Option Caller). elim o as (λ _. TaskId) [ Some x ↦ x.task | None ↦ w.task ]) (sym e ∙ asks) ∙ own

  by_others : (ticket : AnyTicket) → asker ticket ≡ Some who → (es : List Entry) → Each (NotOf ticket) es → Each (NotBy who.task) es
  by_others (Moving w) e es h = subst (λ (x : Caller). Each (NotBy x.task) es) (same_Some w who e) h
  by_others (Running w) e es h = subst (λ (x : Caller). Each (NotBy x.task) es) (same_Some w who e) h
  by_others (Held w) e es h = subst (λ (x : Caller). Each (NotBy x.task) es) (same_Some w who e) h
  by_others Host e es h = absurd (let f : ⊥ = cc in f)

  folds : Folds U (entries_at g ++ entries_at more)
  folds = subst (Folds U) (entries_same (g ++ more) ∙ entries_more g more) long.folds

  pub kinds_later : kinds_told (entries_at (g ++ more)) t ≡ kinds_told (entries_at g) t
  kinds_later =
      ap (λ (es : List Entry). kinds_told es t) (entries_more g more)
      ∙ ap (λ (o : Owned). reverse (map (λ s. s.1) o)) (told_stays t (entries_at g) (entries_at more) (subst (λ (x : TaskId). Each (NotBy x) (entries_at more)) own (by_others a.ticket asks (entries_at more) spared)))

  -- an activity with another pass of this longer history stands as before
  pub stands_later : (q : Pass EntryItem) → (view_of q).seen ≡ g ++ more → (view_of q).number ≡ (view_of a.pass).number → (view_of a.pass).reach ≤ (view_of q).reach → StandsSo code L (with_pass a q) t
  stands_later q seen number later =
      let places = L.fixed.setup.places in
      let both = subst (λ (h : List (Stamped EntryItem)). (m : LegalLedger code U (ledger_items h)) × (slice_get m.actors t.0 ≡ Some s.actor)) (sym seen) actor_later in
      let low = s.in_time in
      let known = s.known in
      let rise : (tree_of places (entries_at g)).places ≤ (tree_of places (entries_at g ++ entries_at more)).places = places_more places (entries_at g) (entries_at more) in
      let to = λ (P : List Entry → Type 0) (h : P (entries_at g ++ entries_at more)). subst P (sym (ap entries_at seen ∙ entries_more g more)) h in
      record {
        legal = both.0;
        actor = s.actor;
        stands = both.1;
        holder = s.holder ∙ sym number;
        seated = s.seated;
        here = s.here;
        place = s.place;
        events = s.events;
        stand = s.stand;
        walks = s.walks;
        in_time = omega (arith, later, low);
        term = s.term;
        vars = s.vars;
        batch = s.batch;
        some = s.some;
        known = to (λ es. s.stand.vars.places ≤ (tree_of places es).places) (omega (arith, known, rise));
        held = s.held;
        calm = s.calm;
        spine = subst (Spine s.stand.term) (sym (ap (λ (h : List (Stamped EntryItem)). kinds_told (entries_at h) t) seen ∙ kinds_later)) s.spine;
        serves = to (λ es. length es + 1 < 2 ^ 31 → TicketServes (tree_of places es) (is_held s.stand.term) a.ticket)
            (λ short. serves_later U (entries_at g) (entries_at more) (is_held s.stand.term) a.ticket folds spared short numbers_are_left (s.serves (let n = length-append (entries_at g) (entries_at more) in omega (arith, n, short))));
      }

  pub later_stand : (q : Pass EntryItem) (seen : (view_of q).seen ≡ g ++ more) (number : (view_of q).number ≡ (view_of a.pass).number) (later : (view_of a.pass).reach ≤ (view_of q).reach) → (stands_later q seen number later).stand ≡ s.stand
  unfolding stands_later
  later_stand q seen number later = refl
