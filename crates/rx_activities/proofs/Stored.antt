-- What an activity knows after the store's answer.
use Rattle.std.proofs.Common.{◌≡◌, ◌<◌, ◌≤◌, max, ℕ, Bool, true, false, List, [], ◌∷◌, ◌++◌, map, drop, length, Option, Some, Result, refl, ap, sym, ◌∙◌, subst, arith, length-append}
use Rattle.std.specs.List.{filter_map}
use Rattle.std.proofs.lemmas.List.{append-nil, map-append, drop-append-le}
use mathlib.Core.List.{IsPrefix}
use Rattle.rx_rules.proofs.Common.{PlaceId, TaskId, Value, Fault, Block, Term, Vars, Answer, does, begins, receives, answer_of, answered, vars_after, Cells, Tells, begun, cell_of, tree_of, Given}
use Rattle.rx_rules.specs.declared.entries.Entry.{Entry}
use Rattle.rx_runs.specs.Steps.{TermSinks}
use Rattle.rx_runs.specs.Segments.{Stand}
use Rattle.rx_syntax.specs.Shape.{Stands}
use Rattle.rx_history.specs.Setups.{given}
use Rattle.std.specs.Global.{Box}
use Rattle.rx_control.specs.declared.control.Control.{Control}
use Rattle.rx_history.specs.declared.step.CellOp.{CellOp}
use Rattle.rx_history.specs.declared.step.Next.TheVariants.{Cell as CellStep}
use Rattle.rx_history.specs.Next.{next_of}
use Rattle.rx_control.specs.Stands.{StandsFor}
use Rattle.rx_store.specs.Kept.{last_stamp}
use Rattle.rx_book.specs.declared.views.Stamped.{Stamped}
use Rattle.rx_book.specs.declared.views.View.{View}
use Rattle.rx_book.specs.declared.passes.Pass.{Pass}
use Rattle.rx_book.specs.History.{items_of, stamped, stamp_all, entries_by}
use Rattle.rx_book.specs.Passes.{view_of, word_of}
use Rattle.rx_book.specs.Named.{BookName}
use Rattle.rx_book.specs.Calls.{BeginsWithSeen, Called}
use Rattle.rx_book.proofs.History.{entries_by-append}
use Rattle.rx_base.proofs.Prefixes.{prefix-self}
use Rattle.rx_ledger.proofs.StaysGood.{places_more}
use Rattle.rx_tree_laws.specs.Held.{is_held, HeldInFront}
use Rattle.rx_store.proofs.StoreCalls.{IsCall}
use Rattle.rx_tree_laws.proofs.SpineGrants.{begun_is}
use Rattle.rx_tree_laws.proofs.Granting.{not_held}
use Rattle.rx_parts.specs.Ledger.{LedgerItem, Walks}
use Rattle.rx_parts.specs.Places.{MadeEvent, LegalPlace, journal_of, seen_by}
use Rattle.rx_parts.specs.Closing.{StampedTo}
use Rattle.rx_parts.specs.Growing.{NoneBy}
use Rattle.rx_parts.specs.Calling.{MayCallStore, EachSeated}
use Rattle.rx_parts.proofs.Lists.{one_item}
use Rattle.rx_parts.proofs.Growing.{top-stamp, seat-makes}
use Rattle.rx_parts.proofs.Telling.{event-tells}
use Rattle.rx_parts.specs.declared.items.EntryItem.{EntryItem}
use Rattle.rx_parts.specs.declared.items.EventItem.{EventItem}
use Rattle.rx_parts.specs.Histories.{event_named, ledger_items, made_event, made_events}
use Rattle.rx_parts.proofs.Fitting.{caller-is-alone, cells-stay}
use Rattle.rx_parts.proofs.Called.{others-between}
use Rattle.rx_objects.specs.declared.ledger.LedgerFixed.{LedgerFixed}
use Rattle.rx_objects.specs.declared.place.PlaceFixed.{PlaceFixed}
use Rattle.rx_objects.specs.declared.place.PlaceOp.{PlaceOp}
use Rattle.rx_objects.specs.declared.place.PlaceReply.{PlaceReply}
use Rattle.rx_objects.specs.declared.place.PlaceReply.TheVariants.{Cell as Answered, NoMemory}
use Rattle.rx_objects.specs.Mentioned.{as_named}
use Rattle.rx_objects.specs.Ending.{entries_at}
use Rattle.rx_objects.specs.Ledger.{LedgerIsLegal}
use Rattle.rx_objects.specs.Place.{events_in, last_carried, PlaceIsLegal, PlaceDoes, StoreAnswers, CameBack, item_told}
use Rattle.rx_objects.proofs.Begins.{place_begins}
use Rattle.rx_objects.proofs.Places.{journal_same, carried_same, carried_push, top_same, prefix_items}
use Rattle.rx_activities.specs.declared.hand.Hand.{Hand}
use Rattle.rx_activities.specs.Knowing.{StandsSo, ActivityInvariant, IsOfRun, TicketServes, since, kinds_told, entries_seen, tree_seen}
use Rattle.rx_activities.specs.Inside.Answered.{PartsAre}
use Rattle.rx_tree_laws.proofs.Granting.{answer_waits}
use Rattle.rx_tree_laws.proofs.SpineGrants.{answer_spine}
use Rattle.rx_tree_laws.proofs.Beginning.{begun_one}
use Rattle.rx_runs.proofs.Knowing.{answer_knows}
use Rattle.rx_runs.proofs.SomeWords.{some-answered}
use Rattle.rx_activities.proofs.Calling.{SeesOn, fixed_at, op_of, with_pass, walk_up, looked_stands, looked_stand, call_is}
use Rattle.rx_activities.proofs.Later.{stands_later, later_stand, entries_more}

-- the activity after the answer
abbrev pub stored : Hand → Box Control → List (List ℕ) → Pass EntryItem → Pass EventItem → Hand
stored a c batch p seat = record a { control = c; batch = batch; made = true; pass = p; seat = seat }

-- The task of activity a, whose pass has seen on, has called the store.
module _ (L : BookName LedgerFixed) (a : Hand) (k : ActivityInvariant L a) (q : Pass EntryItem) (word : word_of q ≡ word_of a.pass) (l : SeesOn (view_of a.pass) (view_of q)) (words n : ℕ) (x : List ℕ) (op : CellOp) (above : (view_of a.pass).reach ≤ n)
    (place : EventItem → Option ℕ) (answer : Result (Option Value) Fault) (p : Pass EntryItem) (seat : Pass EventItem)
    (called : Called place (PlaceDoes (fixed_at L a words)) (PlaceIsLegal (fixed_at L a words)) (view_of a.seat) (op_of k.who.task n x op q) (Answered answer p) (view_of seat)) where
  abbrev U : Given
  U = given L.fixed.setup

  abbrev t : TaskId
  t = k.who.task

  abbrev v : View EventItem
  v = view_of a.seat

  abbrev log : List (Stamped EventItem)
  log = v.seen ++ called.between

  abbrev d : StoreAnswers (fixed_at L a words) (items_of log) (op_of t n x op q) answer p called.added
  d = called.replied

  abbrev stamp : ℕ
  stamp = max n (last_stamp (events_in (items_of log)))

  abbrev item : EventItem
  item = item_told (items_of log) (op_of t n x op q) d.cell (view_of p).seen

  abbrev event : MadeEvent
  event = record { by = v.number; task = t; stamp = stamp; cell = d.cell; path = x; carried = ledger_items (view_of p).seen }

  -- The place's history.

  whole : (view_of seat).seen ≡ log ++ stamped v.number item ∷ []
  whole = called.whole ∙ ap (λ (xs : List EventItem). log ++ stamp_all v.number xs) d.one

  events_now : made_events (view_of seat).seen ≡ made_events log ++ event ∷ []
  events_now = ap made_events whole ∙ map-append made_event log (stamped v.number item ∷ [])

  -- it was legal before the call
  legal : (code : Block) → Stands L.fixed.program.script code → LegalPlace code U a.place.0 (made_events log)
  legal code stands = place_begins code U a.place.0 (made_events log) (event ∷ []) (subst (LegalPlace code U a.place.0) events_now (called.lawful code stands))

  -- others had appended what the seat had not seen
  others : entries_by v.number called.between ≡ []
  others =
      others-between v.number v.seen called.between called.added
      (ap (λ (xs : List (Stamped EventItem)). xs ++ stamp_all v.number called.added) (sym a.seat.own) ∙ (sym called.more ∙ (called.own ∙ ap (entries_by v.number) called.whole)))

  begins_log : BeginsWithSeen place v log
  begins_log =
      record {
        prefix = (called.between, refl);
        long = called.long;
        deaths = called.deaths;
        own = a.seat.own
            ∙ sym (entries_by-append v.number v.seen called.between ∙ (ap (λ (xs : List (Stamped EventItem)). entries_by v.number v.seen ++ xs) others ∙ append-nil (entries_by v.number v.seen)));
      }

  -- the ledger's history begins with what the place had seen
  carries : IsPrefix (seen_by (made_events log)) (ledger_items (view_of p).seen)
  carries = subst (λ (g : List LedgerItem). IsPrefix g (ledger_items (view_of p).seen)) (sym (carried_same [] log)) (prefix_items (last_carried (items_of log)) (view_of p).seen d.last)

  -- The ledger's history.

  alone : NoneBy (view_of q).number (ledger_items d.came.more.0)
  alone = caller-is-alone (view_of q).number (view_of q).seen d.came.more.0 (ap (entries_by (view_of q).number) d.came.more.1 ∙ d.came.alone)

  lawful : LedgerIsLegal L.fixed ((view_of q).seen ++ d.came.more.0)
  lawful = subst (LedgerIsLegal L.fixed) (sym d.came.more.1) d.came.lawful

  -- the new events
  since_now : (c : Box Control) (batch : List (List ℕ)) → since (stored a c batch p seat) ≡ since a ++ (stamp, d.cell, x) ∷ []
  since_now c batch =
      let m = length (view_of a.told.value).mine in
      let mine : (view_of seat).mine ≡ v.mine ++ stamped v.number item ∷ [] = called.more ∙ ap (λ (xs : List EventItem). v.mine ++ stamp_all v.number xs) d.one in
      let dropped : drop m (view_of seat).mine ≡ drop m v.mine ++ stamped v.number item ∷ [] = ap (drop m) mine ∙ drop-append-le m v.mine (stamped v.number item ∷ []) k.older in
      ap (λ (xs : List (Stamped EventItem)). map event_named (map as_named xs)) dropped
      ∙ (ap (map event_named) (map-append as_named (drop m v.mine) (stamped v.number item ∷ [])) ∙ map-append event_named (map as_named (drop m v.mine)) (as_named (stamped v.number item) ∷ []))

  -- What the call is for statements that the script stands for, where s is what the activity knew of the longer history.
  module _ (code : Block) (stands : Stands L.fixed.program.script code) (s : StandsSo code L (with_pass a p) t) (low : s.stand.low ≤ n) (sink : TermSinks) (next : CellStep op ≡ next_of (does a.control.value.vars a.place.0 s.stand.term)) (path : begins s.stand.term ≡ Some x) where
    abbrev ans : Answer
    ans = answer_of (receives s.stand.term) answer

    is : IsCall s.stand.term a.place op (does s.stand.vars a.place.0 s.stand.term)
    is = call_is code L (with_pass a p) t s op sink next

    seated : EachSeated t.0 v.number (made_events log)
    seated = subst (λ (c : List ℕ). EachSeated t.0 c (made_events log)) s.seated (seat-makes code U a.place.0 (ledger_items (view_of p).seen) (made_events log) t.0 s.actor s.legal (legal code stands) carries s.stands)

    abbrev call : MayCallStore code U a.place.0 (journal_of (made_events log)) (ledger_items (view_of p).seen) v.number t n x (does s.stand.vars s.actor.birth.to.0 s.stand.term)
    call =
        record {
          legal = s.legal;
          actor = s.actor;
          stands = s.stands;
          here = s.here;
          place = ap (λ (z : PlaceId). z.0) s.place;
          seated = sym s.seated;
          since = since a;
          earlier = cells-stay place v log t.0 a.seat.own begins_log seated ∙ s.events;
          stand = s.stand;
          walks = s.walks;
          asks = refl;
          begins = path;
          above = (let up = walk_up s.walks in omega (arith, up, low));
        }

    tells : Tells (does s.stand.vars s.actor.birth.to.0 s.stand.term) s.actor.birth.to d.cell ans
    tells =
        let asks : next_of (does s.stand.vars a.place.0 s.stand.term) ≡ CellStep op = ap (λ (y : Vars). next_of (does y a.place.0 s.stand.term)) (sym s.vars) ∙ sym next in
        subst (λ (z : PlaceId). Tells (does s.stand.vars z.0 s.stand.term) z d.cell ans) (sym s.place) (d.told (does s.stand.vars a.place.0 s.stand.term) (receives s.stand.term) asks is.receives)

    top : StampedTo stamp (made_events log)
    top = top-stamp code U a.place.0 stamp (made_events log) (legal code stands) (let e = top_same 0 (made_events log) ∙ ap last_stamp (journal_same log) in omega (arith, e))

    abbrev last : Stand
    last = record { low = stamp; vars = vars_after ans s.stand.vars; term = answered ans s.stand.term; batch = begun s.stand.term s.stand.batch }

    told : (filter_map (cell_of t.0) (journal_of (made_events log ++ event ∷ [])) ≡ s.actor.named ++ (since a ++ (stamp, d.cell, x) ∷ [])) × Walks s.actor.birth.to s.actor.stand (since a ++ (stamp, d.cell, x) ∷ []) last
    told = event-tells code U a.place.0 (made_events log) (ledger_items (view_of p).seen) v.number t n x (does s.stand.vars s.actor.birth.to.0 s.stand.term) event ans call refl refl (omega arith) top tells

    -- what is so afterwards
    pub stored_stands : (c : Box Control) (batch : List (List ℕ)) → StandsFor L.fixed.program.script c.value (answered ans s.stand.term) → c.value.vars ≡ vars_after ans a.control.value.vars → batch ≡ a.batch ++ x ∷ [] → StandsSo code L (stored a c batch p seat) t
    stored_stands c batch term vars made =
        let free : is_held s.stand.term ≡ false = not_held s.stand.vars a.place.0 s.stand.term is.free in
        let waits : HeldInFront (answered ans s.stand.term) × (is_held (answered ans s.stand.term) ≡ false) = answer_waits ans s.stand.term s.held in
        let now = since_now c batch in
        record {
          legal = s.legal;
          actor = s.actor;
          stands = s.stands;
          holder = s.holder;
          seated = s.seated ∙ sym called.same.0;
          here = s.here;
          place = s.place;
          events = ap (λ (ms : List MadeEvent). filter_map (cell_of t.0) (journal_of ms)) events_now ∙ (told.0 ∙ ap (λ (cs : Cells). s.actor.named ++ cs) (sym now));
          stand = last;
          walks = subst (λ (cs : Cells). Walks s.actor.birth.to s.actor.stand cs last) (sym now) told.1;
          in_time = d.stamped;
          term = term;
          vars = vars ∙ ap (vars_after ans) s.vars;
          batch = made ∙ (ap (λ (b : List (List ℕ)). b ++ x ∷ []) s.batch ∙ sym (begun_one s.stand.term s.stand.batch x path));
          some = some-answered ans s.stand.term s.some;
          known = subst (λ (m : ℕ). m ≤ (tree_seen L.fixed p).places) (sym (answer_knows ans s.stand.vars)) s.known;
          held = waits.0;
          calm = λ yes. absurd (let no : true ≡ false = sym yes ∙ waits.1 in cc);
          spine = answer_spine ans s.stand.term (kinds_told (entries_seen p) t) s.spine (begun_is s.stand.term x path);
          serves = λ short. subst (λ (b : Bool). TicketServes (tree_seen L.fixed p) b a.ticket) (free ∙ sym waits.1) (s.serves short);
        }

  -- what the activity knew it knows with the pass that came back
  came_stands : (code : Block) → Stands L.fixed.program.script code → (s : StandsSo code L (with_pass a p) t) × (s.stand.low ≤ n)
  came_stands code stands =
      let first = k.stands code stands in
      let looked = looked_stands L a q k word l code t first in
      let same = looked_stand L a q k word l code t first in
      let long = lawful.made code stands in
      let then = stands_later code L (with_pass a q) t looked k.who k.asks refl d.came.more.0 alone long p (sym d.came.more.1) d.came.number d.came.reach in
      let also = later_stand code L (with_pass a q) t looked k.who k.asks refl d.came.more.0 alone long p (sym d.came.more.1) d.came.number d.came.reach in
      let in_time = first.in_time in
      let lows : then.stand.low ≡ first.stand.low = ap (λ (z : Stand). z.low) (also ∙ same) in
      (then, omega (arith, lows, in_time, above))

  -- it knows what it has to
  pub stored_knows : TermSinks → (c : Box Control) (batch : List (List ℕ)) → word_of seat ≡ word_of a.seat
      → ((t : Term) → StandsFor L.fixed.program.script a.control.value t → CellStep op ≡ next_of (does a.control.value.vars a.place.0 t))
      → ((t : Term) → StandsFor L.fixed.program.script a.control.value t → begins t ≡ Some x)
      → ((t : Term) (y : List ℕ) → StandsFor L.fixed.program.script a.control.value t → begins t ≡ Some y → StandsFor L.fixed.program.script c.value (answered (answer_of (receives t) answer) t) × (c.value.vars ≡ vars_after (answer_of (receives t) answer) a.control.value.vars))
      → batch ≡ a.batch ++ x ∷ [] → ActivityInvariant L (stored a c batch p seat)
  stored_knows sink c batch own next path took made =
      record {
        who = k.who;
        asks = k.asks;
        is_at = k.is_at;
        pass = record { word = d.came.word ∙ (word ∙ k.pass.word); lawful = d.came.lawful };
        seat = record {
          word = k.seat.word ∙ ap Some (sym own);
          lawful = called.lawful;
          carried = subst (λ (h : List (Stamped EntryItem)). IsPrefix h (view_of p).seen) (sym last_now) (prefix-self (view_of p).seen);
        };
        inside = wider;
        older = (let e = ap length called.more ∙ length-append v.mine (stamp_all v.number called.added) in let old = k.older in omega (arith, e, old));
        unmade = λ no. absurd (let f : true ≡ false = no in cc);
        stands = λ code stands.
            let came = came_stands code stands in
            let s = came.0 in
            let begun = path s.stand.term s.term in
            let after = took s.stand.term x s.term begun in
            stored_stands code stands s came.1 sink (next s.stand.term s.term) begun c batch after.0 after.1 made;
      }
    where
      last_now : last_carried (items_of (view_of seat).seen) ≡ (view_of p).seen
      last_now = ap (λ (xs : List (Stamped EventItem)). last_carried (items_of xs)) whole ∙ (ap last_carried (map-append (λ (e : Stamped EventItem). e.item) log (stamped v.number item ∷ [])) ∙ carried_push [] (items_of log) item)

      wider : a.place.0 < (tree_seen L.fixed p).places
      wider =
          let places = L.fixed.setup.places in
          let few : a.place.0 < (tree_of places (entries_at (view_of a.pass).seen)).places = k.inside in
          let same : (view_of q).seen ≡ (view_of a.pass).seen = l.seen in
          let rise : (tree_of places (entries_at (view_of q).seen)).places ≤ (tree_of places (entries_at (view_of q).seen ++ entries_at d.came.more.0)).places = places_more places (entries_at (view_of q).seen) (entries_at d.came.more.0) in
          let at : entries_at (view_of p).seen ≡ entries_at (view_of q).seen ++ entries_at d.came.more.0 = ap entries_at (sym d.came.more.1) ∙ entries_more (view_of q).seen d.came.more.0 in
          let before : (tree_of places (entries_at (view_of q).seen)).places ≡ (tree_of places (entries_at (view_of a.pass).seen)).places = ap (λ (h : List (Stamped EntryItem)). (tree_of places (entries_at h)).places) same in
          let after : (tree_of places (entries_at (view_of p).seen)).places ≡ (tree_of places (entries_at (view_of q).seen ++ entries_at d.came.more.0)).places = ap (λ (es : List Entry). (tree_of places es).places) at in
          omega (arith, few, rise, before, after)

-- The pass of an answer.

pub answered_parts : (r : PlaceReply) (p : Pass EntryItem) (o : Option (Result (Option Value) Fault)) (answer : Result (Option Value) Fault) → PartsAre r p o → o ≡ Some answer → r ≡ Answered answer p
answered_parts (Answered b q) p o answer h e = let same : b ≡ answer = one_item o b answer h.1 e in λ i. Answered (same i) (sym h.0 i)
answered_parts (NoMemory q) p o answer h e = absurd (let f : ⊥ = cc in f)

-- it came back
pub came_back : (f : PlaceFixed) (before : List EventItem) (op : PlaceOp) (r : PlaceReply) (added : List EventItem) (p : Pass EntryItem) (o : Option (Result (Option Value) Fault)) → PlaceDoes f before op r added → PartsAre r p o → CameBack f op.pass p
came_back f before op (Answered b q) added p o d h = subst (CameBack f op.pass) (sym h.0) d.came
came_back f before op (NoMemory q) added p o d h = subst (CameBack f op.pass) (sym h.0) d.1

-- and is of the run
pub back_of_run : (L : BookName LedgerFixed) (f : PlaceFixed) (q p : Pass EntryItem) → f.ledger ≡ L → CameBack f q p → IsOfRun L q → IsOfRun L p
back_of_run L f q p of came run = record { word = came.word ∙ run.word; lawful = subst (λ (b : BookName LedgerFixed). LedgerIsLegal b.fixed (view_of p).seen) of came.lawful }

-- the same call, said of equal objects and equal answers
pub called_so : (place : EventItem → Option ℕ) (f f' : PlaceFixed) (v w : View EventItem) (op : PlaceOp) (r r' : PlaceReply) → f ≡ f' → r ≡ r' → Called place (PlaceDoes f) (PlaceIsLegal f) v op r w → Called place (PlaceDoes f') (PlaceIsLegal f') v op r' w
called_so place f f' v w op r r' same is h =
    subst (λ (x : PlaceReply). Called place (PlaceDoes f') (PlaceIsLegal f') v op x w) is
    (subst (λ (x : PlaceFixed). Called place (PlaceDoes x) (PlaceIsLegal x) v op r w) same h)
