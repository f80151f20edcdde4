-- A release that may not be made yet: the activity waits, and knows what it knew.
use Rattle.std.proofs.Common.{◌≡◌, ◌+◌, ◌<◌, ◌≤◌, ◌^◌, ℕ, Bool, true, List, [], ◌∷◌, ◌++◌, length, map, Option, Some, slice_get, refl, ap, sym, ◌∙◌, subst, arith, append_assoc, append-nil}
use Rattle.rx_rules.proofs.Common.{PlaceId, Block, Does, Releases, does, Tree, tree_of, Cells, Given}
use Rattle.rx_rules.specs.declared.entries.Entry.{Entry}
use Rattle.rx_syntax.specs.Shape.{Shape, Stands}
use Rattle.rx_control.specs.declared.control.Control.{Control}
use Rattle.rx_history.specs.declared.step.Next.TheVariants.{Book as BookStep}
use Rattle.rx_history.specs.declared.step.Want.TheVariants.{Release as WantRelease}
use Rattle.rx_control.specs.Stands.{StandsFor}
use Rattle.rx_history.specs.Setups.{given}
use Rattle.rx_history.specs.declared.asks.Ask.{Ask}
use Rattle.rx_history.specs.declared.asks.Ask.TheVariants.{Release as AskRelease}
use Rattle.rx_finish.specs.Callers.{MayAskRelease}
use Rattle.rx_ticket.specs.declared.tickets.AnyTicket.{AnyTicket}
use Rattle.rx_ticket.specs.declared.tickets.AnyTicket.TheVariants.{Moving, Running, Held, Host}
use Rattle.rx_book.specs.declared.views.View.{View}
use Rattle.rx_book.specs.declared.passes.Pass.{Pass}
use Rattle.rx_book.specs.Passes.{view_of}
use Rattle.rx_book.specs.Named.{BookName}
use Rattle.rx_ledger.specs.declared.asks.Request.{Request}
use Rattle.rx_ledger.specs.declared.asks.Reply.TheVariants.{NotYet}
use Rattle.rx_ledger.specs.Told.{due_entries}
use Rattle.rx_ledger.specs.Answering.{asker, MustWait, task, host}
use Rattle.rx_ledger.specs.Asking.{IsHeld, MayAskFor, MayApply}
use Rattle.rx_ledger.specs.Kept.{Answered}
use Rattle.rx_ledger.specs.Owned.{own_told}
use Rattle.rx_tree_laws.specs.Held.{is_held}
use Rattle.rx_tree_laws.specs.Spine.{Spine}
use Rattle.rx_tree_laws.proofs.Granting.{release_held}
use Rattle.rx_parts.specs.Ledger.{LedgerItem, Actor, Walks, LegalLedger, main_actor}
use Rattle.rx_parts.specs.Growing.{NoneBy}
use Rattle.rx_parts.specs.Calling.{AllHostItems}
use Rattle.rx_parts.proofs.Determined.{leads_once, leads_split}
use Rattle.rx_parts.proofs.Growing.{task-stays, hosts_lead}
use Rattle.rx_parts.proofs.Prefixes.{prefix-legal}
use Rattle.rx_parts.specs.declared.items.EntryItem.{EntryItem}
use Rattle.rx_parts.specs.declared.items.EventItem.{EventItem}
use Rattle.rx_parts.specs.Histories.{ledger_items, cells_in}
use Rattle.rx_objects.specs.declared.ledger.LedgerFixed.{LedgerFixed}
use Rattle.rx_objects.specs.Ending.{entries_at}
use Rattle.rx_objects.proofs.Staying.{item_by, all_hosts, cancel}
use Rattle.rx_activities.specs.declared.hand.Hand.{Hand}
use Rattle.rx_activities.specs.declared.replies.Child.{Child}
use Rattle.rx_activities.specs.Knowing.{StandsSo, ActivityInvariant, TicketServes, since, entries_seen, kinds_told}
use Rattle.rx_activities.specs.Inside.Births.{IsWith}
use Rattle.rx_activities.specs.Inside.Sending.{SuitsStep, WasSent}
use Rattle.rx_activities.proofs.Granted.{none_since}
use Rattle.rx_activities.proofs.GrantedReplies.{next_is}
use Rattle.rx_activities.proofs.GrantedSo.{kinds_now}
use Rattle.rx_activities.proofs.Sent.{called, between, lines, before, behind, applied, of_run, alone, items_now, reach_up}
use Rattle.rx_activities.proofs.SentSo.{rise, suits_so, own_now, goes_on, knows_with}

-- entries of the host leave what a history says of its tasks
hosts_leave : (code : Block) (U : Given) (h due : List LedgerItem) (short : LegalLedger code U h) (long : LegalLedger code U (h ++ due)) → AllHostItems due → long.actors ≡ short.actors
hosts_leave code U h due short long hosts =
    let cut = leads_split 0 (main_actor code U.places ∷ []) h due long.actors long.made in
    let same : cut.0 ≡ short.actors = leads_once 0 (main_actor code U.places ∷ []) h cut.0 short.actors cut.1 short.made in
    let still : cut.0 ≡ long.actors = leads_once (0 + length h) cut.0 due cut.0 long.actors (hosts_lead (0 + length h) cut.0 due hosts) cut.2 in
    sym still ∙ same

-- who is not answered yet asked for a release
asks_release : (d : Does) (T : Tree) (place : PlaceId) (q : Request) → MustWait T place q → SuitsStep d q.ask → (q.ask ≡ AskRelease) × (d ≡ Releases)
asks_release d T place q (task who asks u h) f = (ap (λ (z : Request). z.ask) asks, subst (λ (z : Ask). SuitsStep d z) (ap (λ (z : Request). z.ask) asks) f)
asks_release d T place q (host asks h) f = absurd (subst (λ (z : Ask). SuitsStep d z) (ap (λ (z : Request). z.ask) asks) f)

held_serves : (T : Tree) (ticket : AnyTicket) → IsHeld ticket (MayAskRelease T) → TicketServes T true ticket
held_serves T (Moving who) h = absurd h
held_serves T (Running who) h = absurd h
held_serves T (Held who) h = (refl, h)
held_serves T Host h = absurd h

module _ (shape : Shape) (L : BookName LedgerFixed) (rest : Hand) (child : Option Child) (program : L.fixed.program.script ≡ shape) (place : PlaceId) (request : Request) (w : WasSent shape L rest (NotYet place request) child)
    (h : Hand) (is : IsWith rest.control.value rest.place rest.pass rest.seat request.ticket request.batch h) where
  abbrev U : Given
  U = given L.fixed.setup

  abbrev c : List ℕ
  c = (view_of w.hand.pass).number

  abbrev g : List LedgerItem
  g = ledger_items (view_of w.hand.pass).seen

  abbrev mid : List LedgerItem
  mid = ledger_items (between shape L rest (NotYet place request) child w)

  answer : Answered (before shape L rest (NotYet place request) child w) w.op.request (NotYet place request) (behind shape L rest (NotYet place request) child w)
  answer = applied shape L rest (NotYet place request) child w

  abbrev due : List LedgerItem
  due = map (item_by c w.op.mentions) (due_entries answer.due)

  same : request ≡ w.op.request
  same = answer.answers.0

  new_is : (called shape L rest (NotYet place request) child w).replied.new ≡ due_entries answer.due
  new_is = cancel (lines shape L rest (NotYet place request) child w) (called shape L rest (NotYet place request) child w).replied.new (due_entries answer.due) answer.answers.2

  items_are : ledger_items (view_of rest.pass).seen ≡ (g ++ mid) ++ due
  items_are =
      items_now shape L rest (NotYet place request) child w
      ∙ (ap (λ (l : List Entry). g ++ (mid ++ map (item_by c w.op.mentions) l)) new_is ∙ sym (append_assoc g mid due))

  none_new : since h ≡ []
  none_new = none_since h rest.seat is.told is.seat_is

  module _ (code : Block) (stands : Stands L.fixed.program.script code) (s : StandsSo code L w.hand w.knows.who.task) where
    abbrev d : Does
    d = does s.stand.vars w.hand.place.0 s.stand.term

    abbrev now : List Entry
    now = entries_at (view_of rest.pass).seen

    releases : (w.op.request.ask ≡ AskRelease) × (does s.stand.vars w.hand.place.0 s.stand.term ≡ Releases)
    releases = asks_release d _ place w.op.request answer.answers.1 (suits_so shape L rest (NotYet place request) child w program code stands s)

    waits : is_held s.stand.term ≡ true
    waits = release_held s.stand.vars w.hand.place.0 s.stand.term releases.1

    unmade : since w.hand ≡ []
    unmade = s.calm waits

    still : rest.control.value ≡ w.hand.control.value
    still =
        let n : w.next ≡ BookStep WantRelease = next_is shape L rest (NotYet place request) child w program code stands s Releases releases.1 in
        w.control.same (λ e. let f = sym n ∙ e in let x : ⊥ = cc f in x) (λ e. let f = sym n ∙ e in let x : ⊥ = cc f in x)

    there : (m : LegalLedger code U ((g ++ mid) ++ due)) → slice_get m.actors w.knows.who.task.0 ≡ Some s.actor
    there m =
        let short = prefix-legal code U (g ++ mid) due m in
        let leave = hosts_leave code U (g ++ mid) due short m (all_hosts c w.op.mentions answer.due) in
        ap (λ (l : List Actor). slice_get l w.knows.who.task.0) leave
        ∙ task-stays code U g mid w.knows.who.task.0 s.actor s.legal short s.stands (subst (λ (x : List ℕ). NoneBy x mid) (sym s.holder) (alone shape L rest (NotYet place request) child w))

    there_so : (m : LegalLedger code U (ledger_items (view_of rest.pass).seen)) → slice_get m.actors w.knows.who.task.0 ≡ Some s.actor
    there_so m = subst (λ (l : List LedgerItem). (x : LegalLedger code U l) → slice_get x.actors w.knows.who.task.0 ≡ Some s.actor) (sym items_are) there m

    seen_so : (P : View EntryItem → Type 0) → P (view_of rest.pass) → P (view_of h.pass)
    seen_so P x = subst P (sym is.view) x

    serves_now : length now + 1 < 2 ^ 31 → TicketServes (tree_of L.fixed.setup.places now) (is_held s.stand.term) request.ticket
    serves_now few =
        let T = tree_of L.fixed.setup.places now in
        let may : MayApply (tree_of L.fixed.setup.places now) request =
        goes_on shape L rest (NotYet place request) child w program code stands s answer [] (answer.answers.2 ∙ sym (append-nil (lines shape L rest (NotYet place request) child w ++ due_entries answer.due))) few in
        let ask : request.ask ≡ AskRelease = ap (λ (z : Request). z.ask) same ∙ releases.0 in
        let held : MayAskFor (tree_of L.fixed.setup.places now) request.ticket request.path AskRelease = subst (λ (x : Ask). MayAskFor (tree_of L.fixed.setup.places now) request.ticket request.path x) ask may in
        subst (λ (b : Bool). TicketServes (tree_of L.fixed.setup.places now) b request.ticket) (sym waits) (held_serves (tree_of L.fixed.setup.places now) request.ticket held.0)

    pub stands_back : StandsSo code L h w.knows.who.task
    stands_back =
        let both : (m : LegalLedger code U (ledger_items (view_of h.pass).seen)) × (slice_get m.actors w.knows.who.task.0 ≡ Some s.actor) =
        seen_so (λ (x : View EntryItem). (m : LegalLedger code U (ledger_items x.seen)) × (slice_get m.actors w.knows.who.task.0 ≡ Some s.actor))
        ((of_run shape L rest (NotYet place request) child w).lawful.made code stands, there_so ((of_run shape L rest (NotYet place request) child w).lawful.made code stands)) in
        let ctl : h.control.value ≡ w.hand.control.value = is.control ∙ still in
        let low = s.in_time in
        let up = reach_up shape L rest (NotYet place request) child w in
        let known = s.known in
        let more = rise shape L rest (NotYet place request) child w in
        record {
          legal = both.0;
          actor = s.actor;
          stands = both.1;
          holder = s.holder ∙ sym (ap (λ (x : View EntryItem). x.number) is.view ∙ (called shape L rest (NotYet place request) child w).same.0);
          seated = s.seated ∙ sym (ap (λ (p : Pass EventItem). (view_of p).number) is.seat_is ∙ ap (λ (x : View EventItem). x.number) w.seat.view);
          here = s.here;
          place = s.place ∙ sym (is.place_is ∙ w.place);
          events = ap (λ (p : Pass EventItem). cells_in w.knows.who.task.0 (view_of p).seen) is.seat_is
              ∙ (ap (λ (x : View EventItem). cells_in w.knows.who.task.0 x.seen) w.seat.view ∙ (s.events ∙ ap (λ (l : Cells). s.actor.named ++ l) (unmade ∙ sym none_new)));
          stand = s.stand;
          walks = subst (λ (l : Cells). Walks s.actor.birth.to s.actor.stand l s.stand) (unmade ∙ sym none_new) s.walks;
          in_time = seen_so (λ (x : View EntryItem). s.stand.low ≤ x.reach) (omega (arith, low, up));
          term = subst (λ (x : Control). StandsFor L.fixed.program.script x s.stand.term) (sym ctl) s.term;
          vars = ap (λ (x : Control). x.vars) ctl ∙ s.vars;
          batch = is.batch_is ∙ (ap (λ (z : Request). z.batch) same ∙ (w.batch ∙ s.batch));
          some = s.some;
          known = seen_so (λ (x : View EntryItem). s.stand.vars.places ≤ (tree_of L.fixed.setup.places (entries_at x.seen)).places) (omega (arith, known, more));
          held = s.held;
          calm = λ e. none_new;
          spine = seen_so (λ (x : View EntryItem). Spine s.stand.term (kinds_told (entries_at x.seen) w.knows.who.task))
              (subst (Spine s.stand.term) (sym (kinds_now shape L rest (NotYet place request) child w program code stands s (own_told (entries_seen w.hand.pass) w.knows.who.task) (own_now shape L rest (NotYet place request) child w program code stands s))) s.spine);
          serves = subst (λ (y : AnyTicket). length (entries_at (view_of h.pass).seen) + 1 < 2 ^ 31 → TicketServes (tree_of L.fixed.setup.places (entries_at (view_of h.pass).seen)) (is_held s.stand.term) y) (sym is.ticket_is)
              (seen_so (λ (x : View EntryItem). length (entries_at x.seen) + 1 < 2 ^ 31 → TicketServes (tree_of L.fixed.setup.places (entries_at x.seen)) (is_held s.stand.term) request.ticket) serves_now);
        }

  pub knows_back : ActivityInvariant L h
  knows_back =
      knows_with shape L rest (NotYet place request) child w rest.control.value request.ticket request.batch h is w.knows.who (ap (λ (z : Request). asker z.ticket) same ∙ (ap asker w.ticket ∙ w.knows.asks)) refl refl
      (λ code stands s. stands_back code stands s)
