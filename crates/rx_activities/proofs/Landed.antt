-- The arrival of a task: what it shows for it, what is answered, and what it knows then.
use Rattle.std.proofs.Common.{◌≡◌, ◌+◌, ◌<◌, ◌^◌, Bool, List, [], ◌∷◌, ◌++◌, length, map, Option, Some, None, slice_get, refl, ap, sym, ◌∙◌, subst, arith}
use Rattle.std.proofs.lemmas.Option.{same_Some}
use Rattle.rx_rules.proofs.Common.{TaskId, Block, tree_of, Cells}
use Rattle.rx_rules.specs.declared.entries.Act.TheVariants.{Arrive}
use Rattle.rx_rules.specs.declared.entries.Entry.{Entry}
use Rattle.rx_rules.specs.declared.entries.Entry.TheVariants.{Step}
use Rattle.rx_rules.specs.declared.tasks.Where.TheVariants.{At as Stays}
use Rattle.rx_tree_laws.specs.Sound.{Each}
use Rattle.rx_finish.specs.declared.ledger.Caller.{Caller}
use Rattle.rx_finish.specs.Callers.{MayAskMoving, HasNumbers}
use Rattle.rx_finish.specs.Calls.{landing}
use Rattle.rx_ticket.specs.declared.tickets.AnyTicket.TheVariants.{Moving, Running}
use Rattle.rx_syntax.specs.Shape.{Stands}
use Rattle.rx_control.specs.declared.control.Control.{Control}
use Rattle.rx_history.specs.Setups.{given}
use Rattle.rx_history.specs.declared.asks.Ask.TheVariants.{Arrive as AskArrive}
use Rattle.rx_book.specs.declared.views.View.{View}
use Rattle.rx_book.specs.declared.passes.Note.{Note}
use Rattle.rx_book.specs.declared.passes.Pass.{Pass}
use Rattle.rx_book.specs.History.{items_of}
use Rattle.rx_book.specs.Passes.{view_of, word_of}
use Rattle.rx_book.specs.Named.{BookName}
use Rattle.rx_book.specs.Calls.{Called}
use Rattle.rx_ledger.specs.declared.asks.Request.{Request}
use Rattle.rx_ledger.specs.declared.asks.Reply.{Reply}
use Rattle.rx_ledger.specs.declared.asks.Reply.TheVariants.{Landed}
use Rattle.rx_ledger.specs.Told.{due_entries}
use Rattle.rx_ledger.specs.Answering.{Answers, Lands, asker}
use Rattle.rx_ledger.specs.Asking.{MayApply}
use Rattle.rx_ledger.specs.Kept.{KeeperView, is_refusal, Answered, AppliedIf}
use Rattle.rx_ledger.specs.Owned.{own_told}
use Rattle.rx_ledger.specs.Staying.{NotBy, NotOf}
use Rattle.rx_ledger.specs.Calling.{owned_by}
use Rattle.rx_ledger.proofs.Called.{calls_own}
use Rattle.rx_ledger.proofs.OwnTold.{numbers_are_left}
use Rattle.rx_ledger.proofs.GoesOn.{tickets_go_on}
use Rattle.rx_parts.specs.Ledger.{LedgerItem, Actor, LegalLedger, actor_arrived}
use Rattle.rx_parts.proofs.Telling.{arrival-tells}
use Rattle.rx_parts.specs.declared.items.EntryItem.{EntryItem}
use Rattle.rx_parts.specs.declared.items.EventItem.{EventItem}
use Rattle.rx_parts.specs.Histories.{event_named, ledger_items, cells_in}
use Rattle.rx_objects.specs.declared.ledger.LedgerFixed.{LedgerFixed}
use Rattle.rx_objects.specs.declared.ledger.LedgerOp.{LedgerOp}
use Rattle.rx_objects.specs.Mentioned.{events_new}
use Rattle.rx_objects.specs.Asking.{RequestIsMade, HostAsks}
use Rattle.rx_objects.specs.Noted.{NoteSuits}
use Rattle.rx_objects.specs.Ending.{entries_at}
use Rattle.rx_objects.specs.Ledger.{LedgerDoes, LedgerIsLegal}
use Rattle.rx_objects.specs.Laws.{AsksLedger, HoldsTicket}
use Rattle.rx_objects.specs.Place.{shown}
use Rattle.rx_objects.proofs.Fitting.{none_new}
use Rattle.rx_activities.specs.declared.hand.Hand.{Hand}
use Rattle.rx_activities.specs.Knowing.{IsOfRun, IsNewSeat, ActivityInvariant}
use Rattle.rx_activities.specs.Starting.{ComesSo, TravellerInvariant}
use Rattle.rx_activities.specs.Inside.Births.{IsWith}
use Rattle.rx_activities.specs.Inside.Sending.{IsReplied}
use Rattle.rx_activities.proofs.Later.{entries_more, told_stays}
use Rattle.rx_activities.proofs.BeganAt.{BeginsSo, knows_at}
use Rattle.rx_activities.proofs.BeganMain.{new_seat}
use Rattle.rx_activities.proofs.BornCalls as calls

-- the request of an arrival
abbrev pub arrival : Caller → Request
arrival who = record { ticket = Moving who; ask = AskArrive; batch = []; path = None }

module _ (L : BookName LedgerFixed) (control : Control) (coming : Caller) (pass : Pass EntryItem) (op : LedgerOp) (is : op.request ≡ arrival coming) (same : op.mentions.before.value ≡ op.mentions.now.value) where
  abbrev v : View EntryItem
  v = view_of pass

  abbrev events : Cells
  events = map event_named (events_new op.mentions)

  -- no event is mentioned
  nothing : events ≡ []
  nothing = ap (map event_named) (none_new op.mentions same)

  holds : (code : Block) (s : ComesSo code L control coming pass) → HoldsTicket s.legal.actors v.number op.request.ticket
  holds code s who asks =
      let it : coming ≡ who = same_Some coming who (ap (λ (q : Request). asker q.ticket) (sym is) ∙ asks) in
      (s.actor, ap (λ (w : Caller). slice_get s.legal.actors w.task.0) (sym it) ∙ s.stands, s.holder)

  -- what it shows
  pub arrival_asks : op.note ≡ None → (code : Block) → ComesSo code L control coming pass → AsksLedger code L.fixed v op
  arrival_asks none code s =
      record {
        legal = s.legal;
        may = λ few. subst (MayApply (tree_of L.fixed.setup.places (entries_at v.seen))) (sym is) (s.serves few, tt);
        holds = holds code s;
        asks = subst (λ (q : Request). RequestIsMade s.legal.actors v.reach v.number events q) (sym is)
            (record { who = coming; asks = refl; actor = s.actor; stands = s.stands; held = sym s.holder; away = s.away; no_events = nothing; no_batch = refl });
        note = subst (λ (o : Option (Note EventItem)). NoteSuits L.fixed.places (items_of v.seen) op.request.ticket events o) (sym none) nothing;
        host = subst (λ (q : Request). HostAsks v.number q.ask) (sym is) tt;
      }

-- whatever is answered, the pass is the run's
pub replied_run : (L : BookName LedgerFixed) (old new : Pass EntryItem) (op : LedgerOp) (r : Reply) → word_of old ≡ L.word → word_of new ≡ word_of old → IsReplied L.fixed (view_of old) op r (view_of new) → IsOfRun L new
replied_run L old new op r word own h = record { word = own ∙ word; lawful = h.called.lawful }

apart : (who : Caller) (es : List Entry) → Each (NotOf (Moving who)) es → Each (NotBy who.task) es
apart who [] h = tt
apart who (e ∷ es) h = (h.0, apart who es h.1)

-- Where it has landed.

module _ (L : BookName LedgerFixed) (control : Control) (coming : Caller) (pass : Pass EntryItem) (comes : TravellerInvariant L control coming pass) (seat : Pass EventItem) (new : IsNewSeat L (landing coming.place) seat) (op : LedgerOp) (is : op.request ≡ arrival coming)
    (same : op.mentions.before.value ≡ op.mentions.now.value) (own_seat : op.mentions.seat.value ≡ seat) (ticket : Caller) (w : Pass EntryItem) (word : word_of w ≡ word_of pass)
    (replied : IsReplied L.fixed (view_of pass) op (Landed ticket) (view_of w)) where
  abbrev f : LedgerFixed
  f = L.fixed

  abbrev there : View EntryItem
  there = view_of pass

  abbrev z : View EntryItem
  z = view_of w

  abbrev c : Called shown (LedgerDoes L.fixed) (LedgerIsLegal L.fixed) (view_of pass) op replied.answer (view_of w)
  c = replied.called

  abbrev was : KeeperView
  was = calls.was f there z op replied.answer c pass.own

  abbrev now : KeeperView
  now = calls.now f there z op replied.answer c pass.own

  abbrev applied : Answered was op.request replied.answer.reply now
  applied = subst (λ (b : Bool). AppliedIf b was op.request replied.answer.reply now) (ap is_refusal replied.is) c.replied.applied

  abbrev lines : List Entry
  lines = was.entries ++ due_entries applied.due

  lands : Lands (tree_of f.setup.places lines) lines op.request ticket now.entries
  lands = subst (λ (r : Reply). Answers (tree_of f.setup.places lines) lines op.request r now.entries) replied.is applied.answers

  who_is : lands.who ≡ coming
  who_is = same_Some lands.who coming (ap (λ (q : Request). asker q.ticket) (sym lands.asked ∙ is))

  abbrev e : Entry
  e = Step lands.who.task (Arrive (landing lands.who.place)) op.request.batch

  task_is : ticket.task ≡ lands.who.task
  task_is = ap (λ (x : Caller). x.task) lands.ticket_is

  place_is : ticket.place ≡ Stays (landing coming.place)
  place_is = ap (λ (x : Caller). x.place) lands.ticket_is ∙ ap (λ (x : Caller). Stays (landing x.place)) who_is

  -- as lemmas of calls have it
  abbrev hosts : List LedgerItem
  hosts = calls.hosts f there z op replied.answer c pass.own applied e lands.entry.added

  abbrev between : List LedgerItem
  between = calls.between f there z op replied.answer c pass.own applied e lands.entry.added

  abbrev item : LedgerItem
  item = calls.item f there z op replied.answer c pass.own applied e lands.entry.added

  module _ (code : Block) (stands : Stands L.fixed.program.script code) where
    s : ComesSo code L control coming pass
    s = comes.stands code stands

    legal : LegalLedger code (given f.setup) (ledger_items z.seen)
    legal = c.lawful.made code stands

    abbrev arrived : Actor
    arrived = actor_arrived (length (ledger_items there.seen ++ (between ++ hosts))) item (landing lands.who.place) s.actor

    stood : slice_get s.legal.actors lands.who.task.0 ≡ Some s.actor
    stood = ap (λ (x : Caller). slice_get s.legal.actors x.task.0) who_is ∙ s.stands

    got : slice_get legal.actors lands.who.task.0 ≡ Some arrived
    got =
        calls.told f there z op replied.answer c pass.own applied e lands.entry.added code s.legal legal lands.who.task.0 arrived
        (arrival-tells code (given f.setup) (ledger_items there.seen) between hosts item lands.who.task (landing lands.who.place) s.actor
        (calls.call f there z op replied.answer c pass.own applied e lands.entry.added code s.legal legal)
        (ap (λ (q : Request). Step lands.who.task (Arrive (landing lands.who.place)) q.batch) is)
        (ap (λ (all : List Actor). slice_get all lands.who.task.0) (calls.asked f there z op replied.answer c pass.own applied e lands.entry.added code s.legal legal) ∙ stood)
        (sym s.holder) s.away (nothing L control coming pass op is same))

    bare : own_told (entries_at z.seen) ticket.task ≡ []
    bare =
        ap (own_told (entries_at z.seen)) task_is
        ∙ (ap (λ (es : List Entry). own_told es lands.who.task) (calls.seen_lines f there z op replied.answer c pass.own)
        ∙ (calls_own was now op.request replied.answer.reply lands.who (ap (λ (q : Request). asker q.ticket) lands.asked) c.replied.applied
        ∙ (ap (λ (r : Reply). owned_by r (own_told was.entries lands.who.task)) replied.is
        ∙ (ap (λ (es : List Entry). own_told es lands.who.task) (entries_more there.seen c.between)
        ∙ (told_stays lands.who.task (entries_at there.seen) (entries_at c.between) (apart lands.who (entries_at c.between) others)
        ∙ (ap (λ (x : Caller). own_told (entries_at there.seen) x.task) who_is ∙ s.bare))))))
      where
        others : Each (NotOf (Moving lands.who)) (entries_at c.between)
        others =
            calls.spared f there z op replied.answer c pass.own applied e lands.entry.added code s.legal legal (Moving lands.who)
            (subst (HoldsTicket s.legal.actors there.number) (ap (λ (q : Request). q.ticket) lands.asked) (holds L control coming pass op is same code s))

    serves : length (entries_at z.seen) + 1 < 2 ^ 31 → MayAskMoving (tree_of f.setup.places (entries_at z.seen)) ticket
    serves few =
        let shorter = calls.fewer f there z op replied.answer c pass.own in
        let lines_are : entries_at z.seen ≡ now.entries = calls.seen_lines f there z op replied.answer c pass.own in
        let may : MayApply (tree_of f.setup.places (entries_at there.seen)) op.request =
        subst (MayApply (tree_of f.setup.places (entries_at there.seen))) (sym is) (s.serves (omega (arith, few, shorter)), tt) in
        let now_may = calls.may_there f there z op replied.answer c pass.own applied e lands.entry.added code s.legal legal (holds L control coming pass op is same code s) few may in
        subst (λ (es : List Entry). MayAskMoving (tree_of f.setup.places es) ticket) (sym lines_are)
        (tickets_go_on (given f.setup) lines now.entries op.request (Landed ticket)
        (calls.folds_there f there z op replied.answer c pass.own applied e lands.entry.added code s.legal legal) now_may lands
        (subst (λ (es : List Entry). HasNumbers (tree_of f.setup.places es)) lines_are (numbers_are_left f.setup.places (entries_at z.seen) few)))

    begins : BeginsSo code L control (landing coming.place) w seat ticket
    begins =
        record {
          legal = legal;
          actor = arrived;
          stands = ap (λ (t : TaskId). slice_get legal.actors t.0) task_is ∙ got;
          holder = s.holder ∙ sym c.same.0;
          seated = ap (λ (p : Pass EventItem). (view_of p).number) own_seat;
          here = refl;
          at = s.place;
          unnamed = s.unnamed;
          events = ap (cells_in ticket.task.0) new.unseen;
          in_time = (let n = calls.number f there z op replied.answer c pass.own applied e lands.entry.added code s.legal legal in
              let r = c.reached in omega (arith, n, r));
          no_batch = s.no_batch;
          term = s.term;
          vars = s.vars;
          some = s.some;
          known = (let n = s.known in let m = calls.more_places f there z op replied.answer c pass.own in omega (arith, n, m));
          unheld = s.unheld;
          no_scope = s.no_scope;
          bare = bare;
          serves = serves;
        }

  -- the task knows what it has to
  pub landed_knows : (a : Hand) → IsWith control (landing coming.place) w seat (Running ticket) [] a → ActivityInvariant L a
  landed_knows a o =
      let n = comes.inside in
      let m = calls.more_places f there z op replied.answer c pass.own in
      knows_at L control (landing coming.place) w seat ticket a o place_is (replied_run L pass w op (Landed ticket) comes.pass.word word replied)
      (new_seat L (landing coming.place) seat w new.word new.unseen) (omega (arith, n, m)) (λ code stands. begins code stands)
