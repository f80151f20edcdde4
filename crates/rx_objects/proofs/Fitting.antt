-- What a pass may ask by what it has seen fits the histories in which its call may be made.
use Rattle.std.proofs.Common.{◌≡◌, ℕ, ◌≤◌, cond, Bool, true, false, List, [], ◌∷◌, ◌++◌, map, drop, length, Option, Some, None, slice_get, refl, ap, sym, ◌∙◌, subst, arith, length-append}
use Rattle.std.proofs.lemmas.List.{append-nil, map-append}
use Rattle.std.proofs.Math.Seq.{drop-length}
use mathlib.Core.List.{IsPrefix}
use Rattle.rx_rules.proofs.Common.{TaskId, Block, Term, Does, Cells, Given, Folds}
use Rattle.rx_rules.specs.declared.entries.Entry.{Entry}
use Rattle.rx_rules.specs.declared.entries.Entry.TheVariants.{Step}
use Rattle.rx_rules.specs.declared.events.PlaceEvent.{PlaceEvent}
use Rattle.rx_tree_laws.specs.Sound.{Each}
use Rattle.rx_finish.specs.declared.ledger.Caller.{Caller}
use Rattle.rx_ticket.specs.declared.tickets.AnyTicket.{AnyTicket}
use Rattle.rx_ticket.specs.declared.tickets.AnyTicket.TheVariants.{Moving, Running, Held, Host}
use Rattle.rx_syntax.specs.Shape.{Stands}
use Rattle.rx_history.specs.Setups.{given}
use Rattle.rx_history.specs.declared.asks.Ask.{Ask}
use Rattle.rx_history.specs.declared.asks.Ask.TheVariants.{Arrive as AskArrive, Root as AskRoot}
use Rattle.rx_book.specs.declared.views.Stamped.{Stamped}
use Rattle.rx_book.specs.declared.views.View.{View}
use Rattle.rx_book.specs.declared.passes.Note.{Note}
use Rattle.rx_book.specs.declared.passes.Pass.{Pass}
use Rattle.rx_ledger.specs.declared.asks.Request.{Request}
use Rattle.rx_objects.specs.declared.mentions.Mentions.{Mentions}
use Rattle.rx_book.specs.History.{items_of, entries_by}
use Rattle.rx_book.specs.Passes.{view_of}
use Rattle.rx_book.specs.Calls.{BeginsWithSeen}
use Rattle.rx_ledger.specs.Answering.{asker}
use Rattle.rx_ledger.specs.Staying.{NotBy, NotOf}
use Rattle.rx_ledger.proofs.OwnTold.{numbers_are_left}
use Rattle.rx_ledger.proofs.StaysGood.{tickets_stay_good}
use Rattle.rx_parts.specs.Ledger.{LedgerItem, Actor, LegalLedger, entries_of}
use Rattle.rx_parts.specs.Places.{journal_of, seen_by}
use Rattle.rx_parts.specs.Reading.{is_of}
use Rattle.rx_parts.specs.Growing.{NoneBy, NoneOf}
use Rattle.rx_parts.specs.Calling.{MayCallStore}
use Rattle.rx_parts.proofs.Reading.{of_own}
use Rattle.rx_parts.proofs.Growing.{task-stays, others-act}
use Rattle.rx_parts.specs.declared.items.EntryItem.{EntryItem}
use Rattle.rx_parts.specs.declared.items.EventItem.{EventItem}
use Rattle.rx_parts.specs.Histories.{event_named, ledger_item, ledger_items, made_events}
use Rattle.rx_parts.proofs.Fitting.{caller-is-alone, call-fits}
use Rattle.rx_objects.specs.declared.ledger.LedgerOp.{LedgerOp}
use Rattle.rx_objects.specs.declared.ledger.LedgerFixed.{LedgerFixed}
use Rattle.rx_objects.specs.declared.place.PlaceOp.{PlaceOp}
use Rattle.rx_objects.specs.declared.place.PlaceFixed.{PlaceFixed}
use Rattle.rx_objects.specs.Mentioned.{as_named, events_new, entries_in}
use Rattle.rx_objects.specs.Asking.{Requests, CallerTravels, AskIsMade, RequestIsMade, HostAsks}
use Rattle.rx_objects.specs.Noted.{cells_at, cells_named, NoteSuits}
use Rattle.rx_objects.specs.Ledger.{MayBeAsked}
use Rattle.rx_objects.specs.Place.{last_carried, MayMeet, CallIsMade, PlaceIsLegal}
use Rattle.rx_objects.specs.Laws.{HoldsTicket, OthersSpare, AsksLedger, HostMayAsk, LedgerOpFits, CallIsShown, PlaceOpFits}
use Rattle.rx_objects.proofs.Staying.{entries_same}
use Rattle.rx_objects.proofs.Noting.{named_append}
use Rattle.rx_objects.proofs.Places.{journal_same, carried_same, prefix_items}

-- Entries of others.

not_by : (t : TaskId) (e : Entry) → is_of t.0 e ≡ false → NotBy t e
not_by t (Step u act batch) h = λ w. let s : is_of t.0 (Step u act batch) ≡ true = of_own t.0 (Step u act batch) u act batch refl (sym w) in let f : ⊥ = cc (h, s) in f
not_by t _ h = tt

spared : (ticket : AnyTicket) (t : TaskId) → ((e : Entry) → NotBy t e → NotOf ticket e) → (more : List LedgerItem) → NoneOf t.0 more → Each (NotOf ticket) (entries_of more)
spared ticket t to [] h = tt
spared ticket t to (i ∷ more) h = (to i.entry (not_by t i.entry h.0), spared ticket t to more h.1)

spared_host : (more : List LedgerItem) → Each (NotOf Host) (entries_of more)
spared_host [] = tt
spared_host (i ∷ more) = (tt, spared_host more)

none_of : (code : Block) (U : Given) (g more : List LedgerItem) (c : List ℕ) (ticket : AnyTicket) (who : Caller) → (short : LegalLedger code U g) → LegalLedger code U (g ++ more)
    → HoldsTicket short.actors c ticket → NoneBy c more → asker ticket ≡ Some who → NoneOf who.task.0 more
none_of code U g more c ticket who short long holds alone asks =
    let h = holds who asks in
    others-act code U g more who.task.0 h.0 short long h.1 (subst (λ (d : List ℕ). NoneBy d more) (sym h.2) alone)

pub others_spare : OthersSpare
others_spare code U g more c (Moving who) short long holds alone = spared (Moving who) who.task (λ e h. h) more (none_of code U g more c (Moving who) who short long holds alone refl)
others_spare code U g more c (Running who) short long holds alone = spared (Running who) who.task (λ e h. h) more (none_of code U g more c (Running who) who short long holds alone refl)
others_spare code U g more c (Held who) short long holds alone = spared (Held who) who.task (λ e h. h) more (none_of code U g more c (Held who) who short long holds alone refl)
others_spare code U g more c Host short long holds alone = spared_host more

-- What is asked.

module _ (code : Block) (U : Given) (g more : List LedgerItem) (c : List ℕ) (short : LegalLedger code U g) (long : LegalLedger code U (g ++ more)) (alone : NoneBy c more) (n m : ℕ) (le : n ≤ m) where
  got : (t : ℕ) (a : Actor) → slice_get short.actors t ≡ Some a → c ≡ a.holder → slice_get long.actors t ≡ Some a
  got t a h held = task-stays code U g more t a short long h (subst (λ (d : List ℕ). NoneBy d more) held alone)

  requests : (ev : Cells) (batch : List (List ℕ)) (o : Option Caller) (suits : Term → Does → Type 0) → Requests short.actors n c ev batch o suits → Requests long.actors m c ev batch o suits
  requests ev batch o suits r =
      record {
        who = r.who;
        asks = r.asks;
        does = r.does;
        may = record {
          actor = r.may.actor;
          stands = got r.who.task.0 r.may.actor r.may.stands r.may.held;
          held = r.may.held;
          here = r.may.here;
          stand = r.may.stand;
          walks = r.may.walks;
          in_time = (let l = r.may.in_time in omega (arith, l, le));
          begun = r.may.begun;
          asks = r.may.asks;
        };
        place = r.place;
        suited = r.suited;
      }

  comes : (ev : Cells) (batch : List (List ℕ)) (o : Option Caller) → CallerTravels short.actors c ev batch o → CallerTravels long.actors c ev batch o
  comes ev batch o r =
      record {
        who = r.who;
        asks = r.asks;
        actor = r.actor;
        stands = got r.who.task.0 r.actor r.stands r.held;
        held = r.held;
        away = r.away;
        no_events = r.no_events;
        no_batch = r.no_batch;
      }

  asked : (ev : Cells) (batch : List (List ℕ)) (o : Option Caller) (path : Option (List ℕ)) (a : Ask) → AskIsMade short.actors n c ev batch o path a → AskIsMade long.actors m c ev batch o path a
  asked ev batch o path AskArrive r = comes ev batch o r
  asked ev batch o path AskRoot r = tt
  asked ev batch o path _ r = requests ev batch o _ r

at_other : (t : ℕ) (e : Entry) (cells : Cells) → is_of t e ≡ false → cells_at t e cells ≡ []
at_other t (Step u act batch) cells h = ap (λ (b : Bool). cond b cells []) h
at_other t _ cells h = refl

none_named : (t : ℕ) (more : List (Stamped EntryItem)) → NoneOf t (ledger_items more) → cells_named t (items_of more) ≡ []
none_named t [] h = refl
none_named t (x ∷ more) h = λ i. at_other t x.item.entry (map event_named x.item.events) h.0 i ++ none_named t more h.1 i

pub items_append : (g more : List (Stamped EntryItem)) → items_of (g ++ more) ≡ items_of g ++ items_of more
items_append g more = map-append (λ (x : Stamped EntryItem). x.item) g more

module _ (f : LedgerFixed) (place : EntryItem → Option ℕ) (v : View EntryItem) (log : List (Stamped EntryItem)) (op : LedgerOp) (own : v.mine ≡ entries_by v.number v.seen) (begins : BeginsWithSeen place v log) where
  abbrev U : Given
  U = given f.setup

  abbrev more : List (Stamped EntryItem)
  more = begins.prefix.0

  whole : v.seen ++ more ≡ log
  whole = begins.prefix.1

  listed : ledger_items log ≡ ledger_items v.seen ++ ledger_items more
  listed = ap ledger_items (sym whole) ∙ map-append ledger_item v.seen more

  alone : NoneBy v.number (ledger_items more)
  alone = caller-is-alone v.number v.seen more (ap (entries_by v.number) whole ∙ sym begins.own ∙ own)

  abbrev events : Cells
  events = map event_named (events_new op.mentions)

  module _ (code : Block) (long : LegalLedger code U (ledger_items log)) (asks : AsksLedger code f v op) where
    long_parts : LegalLedger code U (ledger_items v.seen ++ ledger_items more)
    long_parts = subst (LegalLedger code U) listed long

    lines : entries_in (items_of v.seen) ++ entries_in (items_of more) ≡ entries_in (items_of log)
    lines =
        sym (map-append (λ (x : EntryItem). x.entry) (items_of v.seen) (items_of more))
        ∙ ap entries_in (sym (items_append v.seen more) ∙ ap items_of whole)

    others : Each (NotOf op.request.ticket) (entries_in (items_of more))
    others =
        subst (Each (NotOf op.request.ticket)) (entries_same more)
        (others_spare code U (ledger_items v.seen) (ledger_items more) v.number op.request.ticket asks.legal long_parts asks.holds alone)

    may : MayBeAsked f.setup.places (entries_in (items_of log)) op.request
    may few =
        let es = entries_in (items_of v.seen) in
        let fs = entries_in (items_of more) in
        let size = ap length lines in
        let sum = length-append es fs in
        subst (λ (l : List Entry). Rattle.rx_ledger.specs.Asking.MayApply (Rattle.rx_rules.specs.Fold.tree_of f.setup.places l) op.request) lines
        (tickets_stay_good U es fs op.request (subst (Folds U) (entries_same log ∙ sym lines) long.folds) others
        (numbers_are_left f.setup.places (es ++ fs) (omega (arith, few, size))) (asks.may (omega (arith, few, size, sum))))

    note_suits : (o : Option (Note EventItem)) → NoteSuits f.places (items_of v.seen) op.request.ticket events o → NoteSuits f.places (items_of log) op.request.ticket events o
    note_suits None h = h
    note_suits (Some n) h = (h.0, λ who is. h.1 who is ∙ ap (λ (l : Cells). l ++ events) (sym (same who is)))
      where
        same : (who : Caller) → asker op.request.ticket ≡ Some who → cells_named who.task.0 (items_of log) ≡ cells_named who.task.0 (items_of v.seen)
        same who is =
            ap (cells_named who.task.0) (sym (ap items_of whole) ∙ items_append v.seen more)
            ∙ (named_append who.task.0 (items_of v.seen) (items_of more)
            ∙ (ap (λ (l : Cells). cells_named who.task.0 (items_of v.seen) ++ l)
            (none_named who.task.0 more (none_of code U (ledger_items v.seen) (ledger_items more) v.number op.request.ticket who asks.legal long_parts asks.holds alone is))
            ∙ append-nil (cells_named who.task.0 (items_of v.seen))))

    made_later : RequestIsMade long.actors (length log) v.number events op.request
    made_later =
        subst (λ (w : List LedgerItem). (l : LegalLedger code U w) → RequestIsMade l.actors (length log) v.number events op.request) (sym listed)
        (λ l. asked code U (ledger_items v.seen) (ledger_items more) v.number asks.legal l alone v.reach (length log) begins.long events op.request.batch (asker op.request.ticket) op.request.path op.request.ask asks.asks)
        long

pub ledger_op_fits : LedgerOpFits
ledger_op_fits f place v log op code stands own begins legal asks =
    record {
      may = may f place v log op own begins code (legal.made code stands) (asks code stands);
      asks = λ other is long. made_later f place v log op own begins other long (asks other is);
      note = note_suits f place v log op own begins code (legal.made code stands) (asks code stands) op.note (asks code stands).note;
      host = (asks code stands).host;
    }

-- The root's release.

pub none_new : (m : Mentions) → m.before.value ≡ m.now.value → events_new m ≡ []
none_new m same =
    ap (map as_named)
    (ap (λ (p : Pass EventItem). drop (length (view_of p).mine) (view_of m.now.value).mine) same ∙ drop-length (view_of m.now.value).mine)

pub host_may_ask : HostMayAsk
host_may_ask code f v op legal number asks same none =
    record {
      legal = legal;
      may = λ few. subst (Rattle.rx_ledger.specs.Asking.MayApply (Rattle.rx_rules.specs.Fold.tree_of f.setup.places (entries_in (items_of v.seen)))) (sym asks) (tt, tt);
      holds = λ who is. absurd (let e : None ≡ Some who = ap (λ (q : Request). asker q.ticket) (sym asks) ∙ is in let w : ⊥ = cc e in w);
      asks = subst (λ (q : Request). RequestIsMade legal.actors v.reach v.number (map event_named (events_new op.mentions)) q) (sym asks) tt;
      note = subst (λ (o : Option (Note EventItem)). NoteSuits f.places (items_of v.seen) op.request.ticket (map event_named (events_new op.mentions)) o) (sym none)
          (ap (map event_named) (none_new op.mentions same));
      host = subst (λ (q : Request). HostAsks v.number q.ask) (sym asks) number;
    }

-- A call of the store.

module _ (f : PlaceFixed) (place : EventItem → Option ℕ) (v : View EventItem) (log : List (Stamped EventItem)) (op : PlaceOp) (own : v.mine ≡ entries_by v.number v.seen) (begins : BeginsWithSeen place v log) where
  abbrev V : Given
  V = given f.ledger.fixed.setup

  abbrev seen : List (Stamped EntryItem)
  seen = (view_of op.pass).seen

  call_made : (code : Block) → PlaceIsLegal f log → Stands f.ledger.fixed.program.script code → CallIsShown code f v op → (h : List (Stamped EntryItem)) → MayMeet f log (view_of op.pass) h → CallIsMade code f log h v.number op
  call_made code legal stands s h m =
      let rest = m.more.0 in
      let listed : ledger_items h ≡ ledger_items seen ++ ledger_items rest = ap ledger_items (sym m.more.1) ∙ map-append ledger_item seen rest in
      let alone : NoneBy (view_of op.pass).number (ledger_items rest) = caller-is-alone (view_of op.pass).number seen rest (ap (entries_by (view_of op.pass).number) m.more.1 ∙ m.alone) in
      let carried : IsPrefix (seen_by (made_events log)) (ledger_items h) = subst (λ (l : List LedgerItem). IsPrefix l (ledger_items h)) (sym (carried_same [] log)) (prefix_items (last_carried (items_of log)) h m.last) in
      record {
        does = s.does;
        asks = s.asks;
        call = subst (λ (js : List PlaceEvent). MayCallStore code V f.place.0 js (ledger_items h) v.number op.mark.task op.mark.stamp op.mark.path s.does) (journal_same log)
            (subst (λ (g : List LedgerItem). MayCallStore code V f.place.0 (journal_of (made_events log)) g v.number op.mark.task op.mark.stamp op.mark.path s.does) (sym listed)
            (call-fits code V f.place.0 place v log (ledger_items seen) (ledger_items rest) op.mark.task op.mark.stamp op.mark.path s.does own begins (legal code stands) s.call
            (subst (LegalLedger code V) listed (m.lawful.made code stands)) (subst (IsPrefix (seen_by (made_events log))) listed carried)
            (subst (λ (d : List ℕ). NoneBy d (ledger_items rest)) (sym s.held) alone)));
      }

pub place_op_fits : PlaceOpFits
place_op_fits f place v log op own begins legal asks =
    record {
      word = asks.word;
      lawful = asks.lawful;
      made = λ code stands h m. call_made f place v log op own begins code legal stands (asks.shown code stands) h m;
      stamped = asks.stamped;
      alive = asks.alive;
      cell = asks.cell;
    }
