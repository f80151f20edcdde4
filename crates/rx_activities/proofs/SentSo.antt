-- The same for given statements: what the task may ask where the call was made, and what its scopes and its ticket are after it.
use Rattle.std.proofs.Common.{◌≡◌, ◌+◌, ◌<◌, ◌≤◌, ◌^◌, ℕ, List, [], ◌∷◌, ◌++◌, length, map, Option, Some, slice_get, refl, ap, sym, ◌∙◌, subst, arith, append_assoc, length-append}
use Rattle.std.proofs.lemmas.Option.{same_Some}
use mathlib.Core.List.{IsPrefix}
use Rattle.rx_rules.proofs.Common.{PlaceId, TaskId, Block, Term, Vars, does, begins, tree_of, Given, Folds}
use Rattle.rx_base.proofs.Prefixes.{prefix-trans}
use Rattle.rx_rules.specs.declared.entries.Act.{Act}
use Rattle.rx_rules.specs.declared.entries.Entry.{Entry}
use Rattle.rx_rules.specs.declared.entries.Entry.TheVariants.{Step}
use Rattle.rx_rules.specs.declared.tasks.Where.TheVariants.{At as Stays}
use Rattle.rx_rules.specs.Plays.{Fits}
use Rattle.rx_tree_laws.specs.Sound.{Each}
use Rattle.rx_syntax.specs.Shape.{Shape, Stands}
use Rattle.rx_control.specs.declared.control.Control.{Control}
use Rattle.rx_history.specs.Next.{next_of}
use Rattle.rx_control.specs.Stands.{StandsFor}
use Rattle.rx_history.specs.Setups.{given}
use Rattle.rx_finish.specs.declared.ledger.Caller.{Caller}
use Rattle.rx_kills.specs.declared.schedule.Due.{Due}
use Rattle.rx_ticket.specs.declared.tickets.AnyTicket.{AnyTicket}
use Rattle.rx_ticket.specs.declared.tickets.AnyTicket.TheVariants.{Moving, Running, Held, Host}
use Rattle.rx_book.specs.declared.views.Stamped.{Stamped}
use Rattle.rx_book.specs.declared.views.View.{View}
use Rattle.rx_book.specs.declared.passes.Pass.{Pass}
use Rattle.rx_book.specs.History.{items_of}
use Rattle.rx_book.specs.Passes.{view_of, word_of}
use Rattle.rx_book.specs.Named.{BookName}
use Rattle.rx_ledger.specs.declared.asks.Reply.{Reply}
use Rattle.rx_ledger.specs.Told.{due_entries}
use Rattle.rx_ledger.specs.Answering.{asker}
use Rattle.rx_ledger.specs.Asking.{MayApply}
use Rattle.rx_ledger.specs.Calling.{owned_by}
use Rattle.rx_ledger.specs.GoingOn.{MayGoOn}
use Rattle.rx_ledger.specs.Kept.{Answered}
use Rattle.rx_ledger.specs.Owned.{own_told}
use Rattle.rx_ledger.specs.Staying.{NotBy, NotOf}
use Rattle.rx_ledger.proofs.Called.{front_folds, calls_own}
use Rattle.rx_ledger.proofs.GoesOn.{tickets_go_on}
use Rattle.rx_ledger.proofs.Keepers.{asks_after}
use Rattle.rx_ledger.proofs.OwnTold.{numbers_are_left}
use Rattle.rx_ledger.proofs.StaysGood.{tickets_stay_good, places_more}
use Rattle.rx_parts.specs.Ledger.{LegalLedger}
use Rattle.rx_parts.proofs.Prefixes.{prefix-legal}
use Rattle.rx_parts.specs.declared.items.EntryItem.{EntryItem}
use Rattle.rx_parts.specs.declared.items.EventItem.{EventItem}
use Rattle.rx_parts.specs.Histories.{ledger_items}
use Rattle.rx_objects.specs.declared.ledger.LedgerFixed.{LedgerFixed}
use Rattle.rx_objects.specs.Ledger.{LedgerIsLegal}
use Rattle.rx_objects.specs.Place.{PlaceIsLegal, last_carried}
use Rattle.rx_objects.specs.Ending.{entries_at}
use Rattle.rx_objects.proofs.Fitting.{others_spare}
use Rattle.rx_objects.proofs.Staying.{item_by, entries_same}
use Rattle.rx_activities.specs.declared.hand.Hand.{Hand}
use Rattle.rx_activities.specs.declared.replies.Child.{Child}
use Rattle.rx_activities.specs.Knowing.{IsOfRun, IsSeatAt, StandsSo, ActivityInvariant, entries_seen, tree_seen}
use Rattle.rx_activities.specs.Inside.Births.{IsWith}
use Rattle.rx_activities.specs.Inside.Sending.{SuitsStep, WasSent}
use Rattle.rx_activities.proofs.Asked.{may_apply, holds}
use Rattle.rx_activities.proofs.Granted.{OneAct, none_since}
use Rattle.rx_activities.proofs.Later.{entries_more, told_stays}
use Rattle.rx_activities.proofs.Sent.{called, between, lines, before, behind, applied, of_run, alone, more, longer, entries_now, lines_are, items_now, late, folds_so, events_are, due_items, item, hosts, whole, reach_now}

-- entries that are not of the ticket's task
by_others : (ticket : AnyTicket) (who : Caller) → asker ticket ≡ Some who → (es : List Entry) → Each (NotOf ticket) es → Each (NotBy who.task) es
by_others (Moving v) who e es h = subst (λ (x : Caller). Each (NotBy x.task) es) (same_Some v who e) h
by_others (Running v) who e es h = subst (λ (x : Caller). Each (NotBy x.task) es) (same_Some v who e) h
by_others (Held v) who e es h = subst (λ (x : Caller). Each (NotBy x.task) es) (same_Some v who e) h
by_others Host who e es h = absurd (let f : ⊥ = cc e in f)

module _ (shape : Shape) (L : BookName LedgerFixed) (rest : Hand) (reply : Reply) (child : Option Child) (w : WasSent shape L rest reply child) where
  abbrev c : List ℕ
  c = (view_of w.hand.pass).number

  abbrev g : List (Stamped EntryItem)
  g = (view_of w.hand.pass).seen

  abbrev U : Given
  U = given L.fixed.setup

  abbrev es : List Entry
  es = entries_seen w.hand.pass

  abbrev mid : List (Stamped EntryItem)
  mid = between shape L rest reply child w

  abbrev ls : List Entry
  ls = lines shape L rest reply child w

  abbrev new : List Entry
  new = (called shape L rest reply child w).replied.new

  -- there are no fewer places than before
  pub rise : (tree_seen L.fixed w.hand.pass).places ≤ (tree_of L.fixed.setup.places (entries_at (view_of rest.pass).seen)).places
  rise =
      subst (λ (l : List Entry). (tree_of L.fixed.setup.places (entries_seen w.hand.pass)).places ≤ (tree_of L.fixed.setup.places l).places)
      (sym (entries_more g (more shape L rest reply child w)) ∙ ap entries_at (longer shape L rest reply child w))
      (places_more L.fixed.setup.places (entries_seen w.hand.pass) (entries_at (more shape L rest reply child w)))

  module _ (program : L.fixed.program.script ≡ shape) (code : Block) (stands : Stands L.fixed.program.script code) (s : StandsSo code L w.hand w.knows.who.task) where
    abbrev t : Term
    t = s.stand.term

    pub term_so : StandsFor shape w.hand.control.value s.stand.term
    term_so = subst (λ (x : Shape). StandsFor x w.hand.control.value s.stand.term) program s.term

    pub suits_so : SuitsStep (does s.stand.vars w.hand.place.0 s.stand.term) w.op.request.ask
    suits_so = subst (λ (v : Vars). SuitsStep (does v w.hand.place.0 s.stand.term) w.op.request.ask) s.vars (w.asks s.stand.term term_so)

    pub path_so : w.op.request.path ≡ begins s.stand.term
    path_so = w.path s.stand.term term_so

    pub next_so : w.next ≡ next_of (does s.stand.vars w.hand.place.0 s.stand.term)
    next_so = w.does_next s.stand.term term_so ∙ ap (λ (v : Vars). next_of (does v w.hand.place.0 s.stand.term)) s.vars

    legal_between : LegalLedger code U (ledger_items g ++ ledger_items mid)
    legal_between =
        let items = map (item_by c w.op.mentions) new in
        prefix-legal code U (ledger_items g ++ ledger_items mid) items
        (subst (LegalLedger code U) (items_now shape L rest reply child w ∙ sym (append_assoc (ledger_items g) (ledger_items mid) items)) ((called shape L rest reply child w).lawful.made code stands))

    spared : Each (NotOf w.op.request.ticket) (entries_at mid)
    spared =
        subst (Each (NotOf w.op.request.ticket)) (entries_same mid)
        (others_spare code U (ledger_items g) (ledger_items mid) c w.op.request.ticket s.legal legal_between (holds code L w.hand w.knows s w.op w.ticket path_so suits_so) (alone shape L rest reply child w))

    pub may_between : length ls + 1 < 2 ^ 31 → MayApply (tree_of L.fixed.setup.places ls) w.op.request
    may_between few =
        let is = lines_are shape L rest reply child w in
        let size = ap length is in
        let sum = length-append es (entries_at mid) in
        let all = subst (Folds U) is (front_folds U ls new (folds_so shape L rest reply child w code stands)) in
        subst (λ (l : List Entry). MayApply (tree_of L.fixed.setup.places l) w.op.request) (sym is)
        (tickets_stay_good U es (entries_at mid) w.op.request all spared (numbers_are_left L.fixed.setup.places (es ++ entries_at mid) (omega (arith, few, size)))
        (may_apply code L w.hand w.knows s w.op w.ticket path_so suits_so (omega (arith, few, size, sum))))

    -- the scopes of the task
    pub own_now : own_told (entries_at (view_of rest.pass).seen) w.knows.who.task ≡ owned_by reply (own_told (entries_seen w.hand.pass) w.knows.who.task)
    own_now =
        let t = w.knows.who.task in
        let asks = ap asker w.ticket ∙ w.knows.asks in
        ap (λ (l : List Entry). own_told l t) (entries_now shape L rest reply child w)
        ∙ (calls_own (before shape L rest reply child w) (behind shape L rest reply child w) w.op.request reply w.knows.who asks (applied shape L rest reply child w)
        ∙ ap (owned_by reply) (ap (λ (l : List Entry). own_told l t) (lines_are shape L rest reply child w) ∙ told_stays t es (entries_at mid) (by_others w.op.request.ticket w.knows.who asks (entries_at mid) spared)))

    -- the tickets of the answer, which appended what was due and then this
    pub goes_on : (a : Answered (before shape L rest reply child w) w.op.request reply (behind shape L rest reply child w)) (tail : List Entry) → ls ++ new ≡ (ls ++ due_entries a.due) ++ tail
        → length (entries_at (view_of rest.pass).seen) + 1 < 2 ^ 31 → MayGoOn (tree_of L.fixed.setup.places (entries_at (view_of rest.pass).seen)) reply
    goes_on a tail added few =
        let is = entries_now shape L rest reply child w in
        let size = ap length is in
        let sum = length-append ls new in
        let all = folds_so shape L rest reply child w code stands in
        subst (λ (l : List Entry). MayGoOn (tree_of L.fixed.setup.places l) reply) (sym is)
        (tickets_go_on U (ls ++ due_entries a.due) (ls ++ new) w.op.request reply (front_folds U (ls ++ due_entries a.due) tail (subst (Folds U) added all))
        (asks_after L.fixed.setup.places ls a.due w.op.request (may_between (omega (arith, few, size, sum)))) a.answers (numbers_are_left L.fixed.setup.places (ls ++ new) (omega (arith, few, size))))

    -- the entry of an act
    pub one_act : (due : List Due) (who : Caller) (act : Act) (added : ls ++ new ≡ (ls ++ due_entries due) ++ Step who.task act w.op.request.batch ∷ []) → who ≡ w.knows.who
        → Fits w.hand.place s.stand.term (does s.stand.vars w.hand.place.0 s.stand.term) act → OneAct code L w.hand w.knows.who.task s act (view_of rest.pass)
    one_act due who act added same fits =
        record {
          between = ledger_items mid;
          due = due_items shape L rest reply child w due who act added;
          item = item shape L rest reply child w due who act added;
          alone = alone shape L rest reply child w;
          hosts = hosts shape L rest reply child w due who act added;
          by = refl;
          entry = λ i. Step ((same i).task) act (w.batch i);
          events = events_are shape L rest reply child w;
          fits = fits;
          late = late shape L rest reply child w;
          whole = whole shape L rest reply child w due who act added;
          number = (called shape L rest reply child w).same.0;
          reach = reach_now shape L rest reply child w due who act added;
        }

  -- an activity with what the call left, of whose term this is known, knows what it has to
  module _ (ctl : Control) (ticket : AnyTicket) (batch : List (List ℕ)) (h : Hand) (is : IsWith ctl rest.place rest.pass rest.seat ticket batch h) where
    at : h.place ≡ w.hand.place
    at = is.place_is ∙ w.place

    seat_seen : (view_of h.seat).seen ≡ (view_of w.hand.seat).seen
    seat_seen = ap (λ (p : Pass EventItem). (view_of p).seen) is.seat_is ∙ ap (λ (x : View EventItem). x.seen) w.seat.view

    pub pass_with : IsOfRun L h.pass
    pass_with =
        record {
          word = is.word ∙ (of_run shape L rest reply child w).word;
          lawful = subst (λ (x : View EntryItem). LedgerIsLegal L.fixed x.seen) (sym is.view) (of_run shape L rest reply child w).lawful;
        }

    pub seat_with : IsSeatAt L h.place h.seat h.pass
    seat_with =
        record {
          word = ap (λ (p : PlaceId). slice_get L.fixed.places p.0) at ∙ (w.knows.seat.word ∙ ap Some (sym (ap (λ (p : Pass EventItem). word_of p) is.seat_is ∙ w.seat.word)));
          lawful = subst (λ (p : PlaceId). PlaceIsLegal (record { place = p; words = L.fixed.setup.heap; ledger = L }) (view_of h.seat).seen) (sym at)
              (subst (λ (l : List (Stamped EventItem)). PlaceIsLegal (record { place = w.hand.place; words = L.fixed.setup.heap; ledger = L }) l) (sym seat_seen) w.knows.seat.lawful);
          carried = subst (λ (l : List (Stamped EventItem)). IsPrefix (last_carried (items_of l)) (view_of h.pass).seen) (sym seat_seen)
              (subst (λ (x : View EntryItem). IsPrefix (last_carried (items_of (view_of w.hand.seat).seen)) x.seen) (sym is.view)
              (prefix-trans (last_carried (items_of (view_of w.hand.seat).seen)) g (view_of rest.pass).seen w.knows.seat.carried (more shape L rest reply child w, longer shape L rest reply child w)));
        }

    pub knows_with : (who : Caller) → asker ticket ≡ Some who → who.task ≡ w.knows.who.task → who.place ≡ w.knows.who.place
        → ((code : Block) → Stands L.fixed.program.script code → StandsSo code L w.hand w.knows.who.task → StandsSo code L h w.knows.who.task) → ActivityInvariant L h
    knows_with who asks task place so =
        record {
          who = who;
          asks = ap asker is.ticket_is ∙ asks;
          is_at = place ∙ (w.knows.is_at ∙ ap (λ (p : PlaceId). Stays p) (sym at));
          pass = pass_with;
          seat = seat_with;
          inside = subst (λ (p : PlaceId). p.0 < (tree_seen L.fixed h.pass).places) (sym at)
              (subst (λ (x : View EntryItem). w.hand.place.0 < (tree_of L.fixed.setup.places (entries_at x.seen)).places) (sym is.view) (let i = w.knows.inside in let r = rise in omega (arith, i, r)));
          older = subst (λ (p : Pass EventItem). length (view_of p).mine ≤ length (view_of h.seat).mine) (sym (is.told ∙ sym is.seat_is)) (omega arith);
          unmade = λ e. none_since h rest.seat is.told is.seat_is;
          stands = λ code stands. subst (λ (x : TaskId). StandsSo code L h x) (sym task) (so code stands (w.knows.stands code stands));
        }
