-- What a task knows that was started, once its pass of the ledger's book has met a note of its starter's pass.
use Rattle.std.proofs.Common.{◌≡◌, ◌≢◌, ◌+◌, ◌<◌, ◌≤◌, ◌^◌, ◌==◌, ℕ, suc, Bool, true, false, cond, List, [], ◌∷◌, ◌++◌, length, map, drop, Option, Some, None, slice_get, refl, ap, sym, ◌∙◌, subst, arith}
use Rattle.std.proofs.lemmas.Bool.{eqb-true, eq-eqb, ne_eqb}
use Rattle.std.proofs.lemmas.Option.{same_Some}
use mathlib.Core.List.{IsPrefix}
use Rattle.rx_rules.proofs.Common.{PlaceId, TaskId, ScopeId, Block, place_number, AllowedAct, tree_of, Cells, started_by, Folds, does, Tree}
use Rattle.rx_rules.specs.declared.entries.Act.{Act}
use Rattle.rx_rules.specs.declared.entries.Entry.{Entry}
use Rattle.rx_rules.specs.declared.entries.Entry.TheVariants.{Step}
use Rattle.rx_rules.specs.declared.tasks.Where.TheVariants.{At as Stays, Travel}
use Rattle.rx_rules.specs.Plays.{Fits}
use Rattle.rx_tree_laws.proofs.Reach.{task_below}
use Rattle.rx_tree_laws.proofs.Reached.{sound}
use Rattle.rx_tree_laws.proofs.Histories.{fold_reached}
use Rattle.rx_runs.specs.Segments.{Stand}
use Rattle.rx_finish.specs.declared.ledger.Caller.{Caller}
use Rattle.rx_finish.specs.Callers.{HasNumbers, MayAskMoving, MayAskArrive}
use Rattle.rx_ticket.specs.declared.tickets.AnyTicket.{AnyTicket}
use Rattle.rx_ticket.specs.declared.tickets.AnyTicket.TheVariants.{Moving, Running}
use Rattle.rx_syntax.specs.Shape.{Stands}
use Rattle.rx_history.specs.Setups.{given}
use Rattle.rx_book.specs.declared.views.Stamped.{Stamped}
use Rattle.rx_book.specs.declared.views.View.{View}
use Rattle.rx_book.specs.declared.passes.Pass.{Pass}
use Rattle.rx_book.specs.History.{items_of}
use Rattle.rx_book.specs.Passes.{view_of, word_of, note_view}
use Rattle.rx_book.specs.Named.{BookName}
use Rattle.rx_book.specs.Kept.{born as split_of}
use Rattle.rx_book.specs.Calls.{Called}
use Rattle.rx_base.proofs.Prefixes.{prefix-whole, prefix-trans}
use Rattle.rx_ledger.specs.declared.asks.Reply.{Reply}
use Rattle.rx_ledger.specs.Told.{due_entries}
use Rattle.rx_ledger.specs.Answering.{fresh_caller, asker}
use Rattle.rx_ledger.specs.GoingOn.{MayStart}
use Rattle.rx_ledger.specs.Kept.{KeeperView, Answered}
use Rattle.rx_ledger.specs.Owned.{own_after, own_told}
use Rattle.rx_ledger.proofs.Called.{own_append}
use Rattle.rx_ledger.proofs.OwnTold.{numbers_are_left, unborn_owns}
use Rattle.rx_tree_laws.proofs.Granting.{unheld-child}
use Rattle.rx_tree_laws.proofs.SpineGrants.{flat-child}
use Rattle.rx_parts.specs.Ledger.{LedgerItem, Actor, Present, Away, Walks, LegalLedger, actor_born, actors_born}
use Rattle.rx_parts.specs.Calling.{EachSeated}
use Rattle.rx_parts.specs.Growing.{MayRequest}
use Rattle.rx_parts.proofs.Growing.{seat-makes}
use Rattle.rx_parts.proofs.Telling.{birth-tells}
use Rattle.rx_parts.specs.declared.items.EntryItem.{EntryItem}
use Rattle.rx_parts.specs.declared.items.EventItem.{EventItem}
use Rattle.rx_parts.specs.Histories.{event_named, ledger_items, made_events, cells_in}
use Rattle.rx_parts.proofs.Fitting.{cells-stay}
use Rattle.rx_objects.specs.declared.ledger.LedgerFixed.{LedgerFixed}
use Rattle.rx_objects.specs.Mentioned.{as_named, events_new}
use Rattle.rx_objects.specs.Ending.{entries_at}
use Rattle.rx_objects.specs.Ledger.{LedgerDoes, LedgerIsLegal}
use Rattle.rx_objects.specs.Place.{shown, PlaceIsLegal, last_carried}
use Rattle.rx_objects.proofs.Places.{carried_same, prefix_items}
use Rattle.rx_activities.specs.declared.hand.Hand.{Hand}
use Rattle.rx_activities.specs.declared.replies.Child.{Child}
use Rattle.rx_activities.specs.Knowing.{IsOfRun, IsSeatAt, StandsSo, ActivityInvariant, since}
use Rattle.rx_activities.specs.Starting.{ComesSo, TravellerInvariant}
use Rattle.rx_activities.specs.Inside.Births.{IsWith, HasMet, IsBorn, StaysWith, StartsKnowing}
use Rattle.rx_activities.specs.Inside.Sending.{WasSent, IsPrepared, SeatIsNew}
use Rattle.rx_activities.proofs.BeganAt.{BeginsSo, knows_at}
use Rattle.rx_runs.proofs.SomeWords.{some-child}
use Rattle.rx_activities.proofs.BornCalls as calls

-- what a pass without entries had seen before all entries
abbrev unseen : View EventItem → View EventItem
unseen v = record v { seen = []; mine = []; reach = 0; dead = 0 }

-- a pass that has made no entry has seen no event of the task that it seats
pub no_events : (t : ℕ) (s : Pass EventItem) → (view_of s).mine ≡ [] → EachSeated t (view_of s).number (made_events (view_of s).seen) → cells_in t (view_of s).seen ≡ []
no_events t s none seated =
    cells-stay (λ x. None) (unseen (view_of s)) (view_of s).seen t refl
    (record { prefix = ((view_of s).seen, refl); long = omega arith; deaths = refl; own = sym none ∙ s.own }) seated

module _ (L : BookName LedgerFixed) (rest : Hand) (reply : Reply) (child_of : Option Child) (w : WasSent L.fixed.program.script L rest reply child_of) where
  abbrev f : LedgerFixed
  f = L.fixed

  abbrev places : ℕ
  places = L.fixed.setup.places

  abbrev a : Hand
  a = w.hand

  abbrev k : ActivityInvariant L w.hand
  k = w.knows

  abbrev v : View EntryItem
  v = view_of w.sent

  abbrev z : View EntryItem
  z = view_of rest.pass

  abbrev c : Called shown (LedgerDoes L.fixed) (LedgerIsLegal L.fixed) (view_of w.sent) w.op w.replied.answer (view_of rest.pass)
  c = w.replied.called

  abbrev pub was : KeeperView
  was = calls.was f v z w.op w.replied.answer c w.sent.own

  abbrev pub now : KeeperView
  now = calls.now f v z w.op w.replied.answer c w.sent.own

  seen_is : v.seen ≡ (view_of a.pass).seen
  seen_is = ap (λ (x : View EntryItem). x.seen) w.pass.view

  number_is : v.number ≡ (view_of a.pass).number
  number_is = ap (λ (x : View EntryItem). x.number) w.pass.view

  reach_is : v.reach ≡ (view_of a.pass).reach
  reach_is = ap (λ (x : View EntryItem). x.reach) w.pass.view

  mine_is : (view_of w.op.mentions.now.value).mine ≡ (view_of a.seat).mine
  mine_is = ap (λ (p : Pass EventItem). (view_of p).mine) w.mentions.now ∙ ap (λ (x : View EventItem). x.mine) w.seat.view

  abbrev events : Cells
  events = map event_named (events_new w.op.mentions)

  -- what is mentioned is what the task made since
  events_are : events ≡ since a
  events_are = λ i. map event_named (map as_named (drop (length (view_of (w.mentions.before i)).mine) (mine_is i)))

  -- places grow
  more_known : (n : ℕ) → n ≤ (tree_of places (entries_at (view_of a.pass).seen)).places → n ≤ (tree_of places (entries_at z.seen)).places
  more_known n le =
      let m = calls.more_places f v z w.op w.replied.answer c w.sent.own in
      let was_known : n ≤ (tree_of places (entries_at v.seen)).places = subst (λ (l : List (Stamped EntryItem)). n ≤ (tree_of places (entries_at l)).places) (sym seen_is) le in
      omega (arith, m, was_known)

  -- The answer started task `new` for place `to`.
  module _ (am : Answered was w.op.request w.replied.answer.reply now) (who : Caller) (act : Act) (new : TaskId) (scope : ScopeId) (to : PlaceId) (asks : asker w.op.request.ticket ≡ Some who)
      (may : AllowedAct (tree_of places (was.entries ++ due_entries am.due)) who.task act) (added : now.entries ≡ (was.entries ++ due_entries am.due) ++ Step who.task act w.op.request.batch ∷ []) (starts : started_by act ≡ Some new)
      (born_is : (n : ℕ) (i : LedgerItem) (x : Stand) → actors_born n i act x ≡ actor_born n i (place_number who.place) to x ∷ []) (next : new.0 ≡ (tree_of places (was.entries ++ due_entries am.due)).next_task)
      (fits : (code : Block) (st : Stands L.fixed.program.script code) → Fits (k.stands code st).actor.birth.to (k.stands code st).stand.term (does (k.stands code st).stand.vars (k.stands code st).actor.birth.to.0 (k.stands code st).stand.term) act)
      (inside : to.0 < (tree_of places (entries_at z.seen)).places) (first : Block) (is_first : Stands L.fixed.program.script first) (ch : Child) (prepared : IsPrepared L.fixed.program.script a.control.value a.place to a.pass a.seat ch)
      (child_is : w.op.mentions.child.value ≡ ch.pass) (seat_is : (s : Pass EventItem) → ch.seat ≡ Some s → w.op.mentions.seat.value ≡ s) where
    abbrev there : List Entry
    there = was.entries ++ due_entries am.due

    abbrev from : PlaceId
    from = place_number who.place

    abbrev e : Entry
    e = Step who.task act w.op.request.batch

    abbrev between : List LedgerItem
    between = calls.between f v z w.op w.replied.answer c w.sent.own am e added

    abbrev hosts : List LedgerItem
    hosts = calls.hosts f v z w.op w.replied.answer c w.sent.own am e added

    abbrev item : LedgerItem
    item = calls.item f v z w.op w.replied.answer c w.sent.own am e added

    abbrev n : ℕ
    n = length (ledger_items v.seen ++ (between ++ hosts))

    who_is : who ≡ k.who
    who_is = same_Some who k.who (sym asks ∙ (ap asker w.ticket ∙ k.asks))

    from_is : from ≡ a.place
    from_is = ap (λ (x : Caller). place_number x.place) who_is ∙ ap place_number k.is_at

    -- What each code says.
    module _ (code : Block) (st : Stands L.fixed.program.script code) where
      abbrev s : StandsSo code L w.hand w.knows.who.task
      s = w.knows.stands code st

      both : (m : LegalLedger code (given f.setup) (ledger_items v.seen)) × (slice_get m.actors k.who.task.0 ≡ Some s.actor)
      both =
          subst (λ (x : View EntryItem). (m : LegalLedger code (given f.setup) (ledger_items x.seen)) × (slice_get m.actors k.who.task.0 ≡ Some s.actor)) (sym w.pass.view) (s.legal, s.stands)

      pub legal : LegalLedger code (given f.setup) (ledger_items z.seen)
      legal = c.lawful.made code st

      asked : (calls.call f v z w.op w.replied.answer c w.sent.own am e added code both.0 legal).short.actors ≡ both.0.actors
      asked = calls.asked f v z w.op w.replied.answer c w.sent.own am e added code both.0 legal

      abbrev ask : MayRequest (calls.call f v z w.op w.replied.answer c w.sent.own am e added code both.0 legal).short.actors v.reach v.number k.who.task events w.op.request.batch
          (does s.stand.vars s.actor.birth.to.0 s.stand.term)
      ask =
          record {
            actor = s.actor;
            stands = ap (λ (all : List Actor). slice_get all k.who.task.0) asked ∙ both.1;
            held = number_is ∙ sym s.holder;
            here = s.here;
            stand = s.stand;
            walks = subst (λ (l : Cells). Walks s.actor.birth.to s.actor.stand l s.stand) (sym events_are) s.walks;
            in_time = (let r = reach_is in let t = s.in_time in omega (arith, r, t));
            begun = w.batch ∙ s.batch;
            asks = refl;
          }

      abbrev pub born : Actor
      born = actor_born n item from to s.stand

      pub got : slice_get legal.actors new.0 ≡ Some born
      got =
          calls.told f v z w.op w.replied.answer c w.sent.own am e added code both.0 legal new.0 born
          (birth-tells code (given f.setup) (ledger_items v.seen) between hosts item v.reach k.who.task act w.op.request.batch (does s.stand.vars s.actor.birth.to.0 s.stand.term) new born
          (calls.call f v z w.op w.replied.answer c w.sent.own am e added code both.0 legal)
          (ap (λ (x : Caller). Step x.task act w.op.request.batch) who_is) (calls.low f v z w.op w.replied.answer c w.sent.own am e added code both.0 legal)
          ask (fits code st) starts (born_is n item s.stand))

      number : suc n ≡ z.reach
      number = calls.number f v z w.op w.replied.answer c w.sent.own am e added code both.0 legal ∙ sym c.reached

      folds_there : Folds (given f.setup) there
      folds_there = calls.folds_there f v z w.op w.replied.answer c w.sent.own am e added code both.0 legal

      -- the task has no scope
      pub bare : own_told (entries_at z.seen) new ≡ []
      bare =
          let so = sound (fold_reached places there folds_there.some folds_there.few folds_there.allowed) in
          let low : who.task.0 < (tree_of places there).next_task = task_below (tree_of places there).next_task (tree_of places there).tasks who.task may.task so.tasks_fall may.stands in
          let other : who.task.0 ≢ new.0 = λ x. absurd (omega (arith, low, next, x)) in
          let none : own_told there new ≡ [] = unborn_owns (given f.setup) there new folds_there (omega (arith, next)) in
          ap (λ (fs : List Entry). own_told fs new) (calls.ends f v z w.op w.replied.answer c w.sent.own am e added)
          ∙ (own_append new [] there (e ∷ [])
          ∙ (ap (λ (b : Bool). cond b (own_after act (own_told there new)) (own_told there new)) (ne_eqb who.task.0 new.0 other) ∙ none))

    -- The child's pass has met a note.
    module _ (met : Pass EntryItem) (h : HasMet ch.pass rest.pass met) where
      abbrev m : View EntryItem
      m = view_of met

      met_seen : m.seen ≡ z.seen
      met_seen =
          let own : (view_of ch.pass).seen ≡ v.seen = ap (λ (x : View EntryItem). x.seen) prepared.view ∙ sym seen_is in
          let o = ap length own in
          let t = ap length h.noted.seen in
          let l = h.meets.longer in
          let g = calls.longer f v z w.op w.replied.answer c w.sent.own in
          sym (prefix-whole (note_view h.note).seen m.seen h.meets.theirs (omega (arith, o, t, l, g))) ∙ h.noted.seen

      met_number : (view_of w.op.mentions.child.value).number ≡ m.number
      met_number = ap (λ (p : Pass EntryItem). (view_of p).number) child_is ∙ sym h.meets.same.0

      met_reach : z.reach ≤ m.reach
      met_reach = (let g = h.meets.greater in let r = h.noted.reach in omega (arith, g, r))

      by_seen : (P : List (Stamped EntryItem) → Type 0) → P z.seen → P m.seen
      by_seen P x = subst P (sym met_seen) x

      run : IsOfRun L met
      run = record { word = h.word ∙ (prepared.word ∙ k.pass.word); lawful = by_seen (LedgerIsLegal f) c.lawful }

      known : (x : ℕ) → x ≤ (tree_of places (entries_at (view_of a.pass).seen)).places → x ≤ (tree_of places (entries_at m.seen)).places
      known x le = by_seen (λ l. x ≤ (tree_of places (entries_at l)).places) (more_known x le)

      said : (code : Block) (st : Stands L.fixed.program.script code) → (l : LegalLedger code (given f.setup) (ledger_items m.seen)) × (slice_get l.actors new.0 ≡ Some (born code st))
      said code st = by_seen (λ x. (l : LegalLedger code (given f.setup) (ledger_items x)) × (slice_get l.actors new.0 ≡ Some (born code st))) (legal code st, got code st)

      bare_met : own_told (entries_at m.seen) new ≡ []
      bare_met = by_seen (λ l. own_told (entries_at l) new ≡ []) (bare first is_first)

      served : (P : Tree → Type 0) → (HasNumbers (tree_of places now.entries) → P (tree_of places now.entries)) → length (entries_at m.seen) + 1 < 2 ^ 31 → P (tree_of places (entries_at m.seen))
      served P go few =
          let lines_are : entries_at z.seen ≡ now.entries = calls.seen_lines f v z w.op w.replied.answer c w.sent.own in
          let few_z : length (entries_at z.seen) + 1 < 2 ^ 31 = subst (λ (l : List (Stamped EntryItem)). length (entries_at l) + 1 < 2 ^ 31) met_seen few in
          by_seen (λ l. P (tree_of places (entries_at l)))
          (subst (λ (es : List Entry). P (tree_of places es)) (sym lines_are)
          (go (subst (λ (es : List Entry). HasNumbers (tree_of places es)) lines_are (numbers_are_left places (entries_at z.seen) few_z))))

      -- on its way
      away_so : (from.0 == to.0) ≡ false → (length (entries_at m.seen) + 1 < 2 ^ 31 → MayAskArrive (tree_of places (entries_at m.seen)) (fresh_caller new scope (Travel from to))) → (code : Block) → Stands L.fixed.program.script code
          → ComesSo code L ch.control.value (fresh_caller new scope (Travel from to)) met
      away_so apart serves code st =
          let x = said code st in
          let s' = s code st in
          record {
            legal = x.0;
            actor = born code st;
            stands = x.1;
            holder = met_number;
            away = ap (λ (b : Bool). cond b Present Away) apart;
            place = refl;
            no_batch = refl;
            unnamed = refl;
            term = prepared.term s'.stand.term s'.term;
            vars = prepared.vars ∙ s'.vars;
            some = some-child s'.stand.term s'.some;
            known = known s'.stand.vars.places s'.known;
            unheld = unheld-child s'.stand.term;
            no_scope = flat-child s'.stand.term;
            bare = bare_met;
            serves = serves;
          }

      pub comes : (from.0 == to.0) ≡ false → (length (entries_at m.seen) + 1 < 2 ^ 31 → MayAskArrive (tree_of places (entries_at m.seen)) (fresh_caller new scope (Travel from to)))
          → TravellerInvariant L ch.control.value (fresh_caller new scope (Travel from to)) met
      comes apart serves =
          record {
            pass = run;
            inside = by_seen (λ l. to.0 < (tree_of places (entries_at l)).places) inside;
            stands = λ code st. away_so apart serves code st;
          }

      -- at its starter's place
      module _ (together : (from.0 == to.0) ≡ true) (sp : Pass EventItem) (is_seat : ch.seat ≡ Some sp) (word : word_of sp ≡ word_of a.seat) (view : view_of sp ≡ split_of (view_of a.seat))
          (serves : length (entries_at m.seen) + 1 < 2 ^ 31 → MayAskMoving (tree_of places (entries_at m.seen)) (fresh_caller new scope (Stays to))) where
        to_is : to ≡ rest.place
        to_is =
            let same : from.0 ≡ to.0 = eqb-true from.0 to.0 together in
            let ids : from ≡ to = ap (λ (x : ℕ). record { 0 = x }) same in
            sym ids ∙ (from_is ∙ sym w.place)

        seat_at : IsSeatAt L rest.place sp met
        seat_at =
            record {
              word = ap (λ (p : PlaceId). slice_get L.fixed.places p.0) w.place ∙ (k.seat.word ∙ ap Some (sym word));
              lawful = subst (λ (p : PlaceId). PlaceIsLegal (record { place = p; words = L.fixed.setup.heap; ledger = L }) (view_of sp).seen) (sym w.place)
                  (subst (λ (x : View EventItem). PlaceIsLegal (record { place = a.place; words = L.fixed.setup.heap; ledger = L }) x.seen) (sym view) k.seat.lawful);
              carried = subst (λ (x : View EventItem). IsPrefix (last_carried (items_of x.seen)) m.seen) (sym view)
                  (prefix-trans (last_carried (items_of (view_of a.seat).seen)) (view_of ch.pass).seen m.seen
                  (subst (λ (x : View EntryItem). IsPrefix (last_carried (items_of (view_of a.seat).seen)) x.seen) (sym prepared.view) k.seat.carried) h.meets.ours);
            }

        none : (code : Block) → Stands L.fixed.program.script code → cells_in new.0 (view_of sp).seen ≡ []
        none code st =
            let x = said code st in
            let carried = subst (λ (l : List LedgerItem). IsPrefix l (ledger_items m.seen)) (sym (carried_same [] (view_of sp).seen)) (prefix_items (last_carried (items_of (view_of sp).seen)) m.seen seat_at.carried) in
            let seats : EachSeated new.0 (born code st).seat (made_events (view_of sp).seen) =
            seat-makes code (given f.setup) rest.place.0 (ledger_items m.seen) (made_events (view_of sp).seen) new.0 (born code st) x.0 (seat_at.lawful code st) carried x.1 in
            no_events new.0 sp (ap (λ (y : View EventItem). y.mine) view) (subst (λ (d : List ℕ). EachSeated new.0 d (made_events (view_of sp).seen)) (ap (λ (p : Pass EventItem). (view_of p).number) (seat_is sp is_seat)) seats)

        here_so : (code : Block) → Stands L.fixed.program.script code → BeginsSo code L ch.control.value rest.place met sp (fresh_caller new scope (Stays to))
        here_so code st =
            let x = said code st in
            let s' = s code st in
            record {
              legal = x.0;
              actor = born code st;
              stands = x.1;
              holder = met_number;
              seated = ap (λ (p : Pass EventItem). (view_of p).number) (seat_is sp is_seat);
              here = ap (λ (b : Bool). cond b Present Away) together;
              at = to_is;
              unnamed = refl;
              events = none code st;
              in_time = (let y = number code st in let r = met_reach in omega (arith, y, r));
              no_batch = refl;
              term = prepared.term s'.stand.term s'.term;
              vars = prepared.vars ∙ s'.vars;
              some = some-child s'.stand.term s'.some;
              known = known s'.stand.vars.places s'.known;
              unheld = unheld-child s'.stand.term;
              no_scope = flat-child s'.stand.term;
              bare = bare_met;
              serves = serves;
            }

        pub knows : (hand : Hand) → IsWith ch.control.value rest.place met sp (Running (fresh_caller new scope (Stays to))) [] hand → ActivityInvariant L hand
        knows hand o =
            knows_at L ch.control.value rest.place met sp (fresh_caller new scope (Stays to)) hand o (ap Stays to_is) run seat_at
            (subst (λ (p : PlaceId). p.0 < (tree_of places (entries_at m.seen)).places) (sym w.place) (let x = k.inside in let y = known (suc a.place.0) (omega (arith, x)) in omega (arith, y)))
            (λ code st. here_so code st)

    -- The ticket of the task is one of these two.
    abbrev live : AnyTicket
    live = Running (fresh_caller new scope (Stays to))

    abbrev travels : AnyTicket
    travels = Moving (fresh_caller new scope (Travel from to))

    away : (ticket : AnyTicket) → ticket ≡ travels → (from.0 == to.0) ≡ false → (HasNumbers (tree_of places now.entries) → MayStart (tree_of places now.entries) (Some ticket)) → IsBorn L rest.place rest.pass ticket ch
    away ticket is apart serves =
        record {
          word = prepared.word ∙ k.pass.word;
          begins = λ met h.
              subst (λ (t : AnyTicket). StartsKnowing L rest.place t ch.control.value met ch.seat) (sym is)
              (comes met h apart (λ few. served met h (λ T. MayAskArrive T (fresh_caller new scope (Travel from to))) (λ numbers. subst (λ (t : AnyTicket). MayStart (tree_of places now.entries) (Some t)) is (serves numbers)) few));
        }

    here : (ticket : AnyTicket) → ticket ≡ live → (from.0 == to.0) ≡ true → (HasNumbers (tree_of places now.entries) → MayStart (tree_of places now.entries) (Some ticket)) → IsBorn L rest.place rest.pass ticket ch
    here ticket is together serves = with_seat ch.seat refl (subst (λ (b : Bool). SeatIsNew b a.seat ch.seat) same prepared.seat_is)
      where
        same : (to.0 == a.place.0) ≡ true
        same = (let x : from.0 ≡ to.0 = eqb-true from.0 to.0 together in let y = ap (λ (p : PlaceId). p.0) from_is in eq-eqb to.0 a.place.0 (sym x ∙ y))

        with_seat : (o : Option (Pass EventItem)) → ch.seat ≡ o → SeatIsNew true a.seat o → IsBorn L rest.place rest.pass ticket ch
        with_seat None is_seat n = absurd n
        with_seat (Some sp) is_seat n =
            record {
              word = prepared.word ∙ k.pass.word;
              begins = λ met h.
                  subst (λ (t : AnyTicket). StartsKnowing L rest.place t ch.control.value met ch.seat) (sym is)
                  (subst (λ (o : Option (Pass EventItem)). StaysWith L rest.place (fresh_caller new scope (Stays to)) ch.control.value met o) (sym is_seat)
                  (knows met h together sp is_seat n.0 n.1
                  (λ few. served met h (λ T. MayAskMoving T (fresh_caller new scope (Stays to))) (λ numbers. subst (λ (t : AnyTicket). MayStart (tree_of places now.entries) (Some t)) is (serves numbers)) few)));
            }

    -- the task knows what it has to
    pub is_born : (ticket : AnyTicket) → ticket ≡ cond (from.0 == to.0) live travels → (HasNumbers (tree_of places now.entries) → MayStart (tree_of places now.entries) (Some ticket)) → IsBorn L rest.place rest.pass ticket ch
    is_born ticket is serves = by (from.0 == to.0) refl is
      where
        by : (b : Bool) → (from.0 == to.0) ≡ b → ticket ≡ cond b live travels → IsBorn L rest.place rest.pass ticket ch
        by true e t = here ticket t e serves
        by false e t = away ticket t e serves
