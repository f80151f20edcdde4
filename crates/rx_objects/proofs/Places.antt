-- What a place's object does, and that its histories stay legal.
use Rattle.std.proofs.Common.{◌≡◌, ◌≤◌, ◌<◌, inl, inr, ℕ, false, Some, None, List, [], ◌∷◌, ◌++◌, Option, length, max, Result, refl, ap, sym, ◌∙◌, subst, arith, length-append}
use Rattle.std.proofs.lemmas.List.{append-nil, map-append}
use Rattle.std.proofs.lemmas.Bool.{cases_lt}
use mathlib.Core.List.{IsPrefix}
use Rattle.rx_rules.proofs.Common.{PlaceId, Value, Fault, has_bit, Block, Does, Makes, Gets, answer_of, Tells, Given}
use Rattle.rx_rules.specs.declared.events.PlaceEvent.{PlaceEvent}
use Rattle.rx_syntax.specs.Shape.{Stands}
use Rattle.rx_history.specs.Setups.{given}
use Rattle.rx_store.specs.Kept.{StoreView, last_stamp, stamp_from, ends_closed}
use Rattle.rx_store.specs.Answers.{event_told}
use Rattle.rx_store.proofs.Running.{closed_done, stamp_done}
use Rattle.rx_store.specs.Asked.{Receives, CallMade, CallIsTold}
use Rattle.rx_book.specs.declared.views.Stamped.{Stamped}
use Rattle.rx_book.specs.declared.views.View.{View}
use Rattle.rx_book.specs.declared.passes.Note.{Note}
use Rattle.rx_book.specs.declared.passes.Pass.{Pass}
use Rattle.rx_book.specs.Calls.{Met}
use Rattle.rx_book.specs.History.{items_of, stamp_all, has_death}
use Rattle.rx_book.specs.Passes.{view_of, word_of, note_view, note_word, IsAsSeen}
use Rattle.rx_base.proofs.Prefixes.{prefix-whole, prefix-self, prefix-trans}
use Rattle.rx_parts.specs.Ledger.{LedgerItem}
use Rattle.rx_parts.specs.Places.{MadeEvent, MayMake, LegalPlace, last_carried as last_seen, journal_of}
use Rattle.rx_parts.specs.Calling.{top_stamp}
use Rattle.rx_parts.proofs.Growing.{top-stamp, place-grows, call-makes}
use Rattle.rx_parts.specs.declared.items.EntryItem.{EntryItem}
use Rattle.rx_parts.specs.declared.items.EventItem.{EventItem}
use Rattle.rx_parts.specs.Histories.{ledger_item, ledger_items, made_event, made_events}
use Rattle.rx_objects.specs.declared.place.PlaceOp.{PlaceOp}
use Rattle.rx_objects.specs.declared.place.PlaceFixed.{PlaceFixed}
use Rattle.rx_objects.specs.declared.place.PlaceReply.{PlaceReply}
use Rattle.rx_objects.specs.declared.place.PlaceReply.TheVariants.{Cell as Answered, NoMemory}
use Rattle.rx_objects.specs.Ledger.{LedgerIsLegal}
use Rattle.rx_objects.specs.Place.{shown, items_at, event_in, events_in, carried_from, last_carried, PlaceIsLegal, CallIsMade, PlaceFits, CameBack, item_told, StoreAnswers, PlaceDoes, NoteKeeps, PlaceKeeps}

-- Items.

pub none_dies : (p : ℕ) (xs : List EventItem) → has_death (λ (x : EventItem). None) p xs ≡ false
none_dies p [] = refl
none_dies p (x ∷ xs) = none_dies p xs

pub events_push : (xs : List EventItem) (x : EventItem) → events_in (xs ++ x ∷ []) ≡ events_in xs ++ event_in x ∷ []
events_push xs x = map-append event_in xs (x ∷ [])

pub journal_same : (log : List (Stamped EventItem)) → journal_of (made_events log) ≡ events_in (items_of log)
journal_same [] = refl
journal_same (x ∷ log) = ap (λ (l : List PlaceEvent). event_in x.item ∷ l) (journal_same log)

pub carried_same : (h : List (Stamped EntryItem)) (log : List (Stamped EventItem)) → last_seen (ledger_items h) (made_events log) ≡ ledger_items (carried_from h (items_of log))
carried_same h [] = refl
carried_same h (x ∷ log) = carried_same x.item.carried log

pub carried_push : (h : List (Stamped EntryItem)) (xs : List EventItem) (x : EventItem) → carried_from h (xs ++ x ∷ []) ≡ x.carried
carried_push h [] x = refl
carried_push h (y ∷ xs) x = carried_push y.carried xs x

pub top_same : (n : ℕ) (k : List MadeEvent) → top_stamp n k ≡ stamp_from n (journal_of k)
top_same n [] = refl
top_same n (m ∷ k) = top_same m.stamp k

pub prefix_items : (g h : List (Stamped EntryItem)) → IsPrefix g h → IsPrefix (ledger_items g) (ledger_items h)
prefix_items g h (rest, e) = (ledger_items rest, sym (map-append ledger_item g rest) ∙ ap ledger_items e)

-- the name that waits for a store's answer
abbrev receiver : Does → Option ℕ
receiver (Makes name words) = Some name
receiver (Gets name target index) = Some name
receiver _ = None

receives_it : (d : Does) → Receives d (receiver d)
receives_it (Makes name words) = refl
receives_it (Gets name target index) = refl
receives_it _ = tt

-- Histories stay legal.

module _ (f : PlaceFixed) (log : List (Stamped EventItem)) (caller : List ℕ) (op : PlaceOp) (answer : Result (Option Value) Fault) (pass : Pass EntryItem) (added : List EventItem)
    (code : Block) (legal : LegalPlace code (given f.ledger.fixed.setup) f.place.0 (made_events log)) (made : CallIsMade code f log (view_of pass).seen caller op) (stands : Stands f.ledger.fixed.program.script code)
    (d : StoreAnswers f (items_of log) op answer pass added) where
  abbrev U : Given
  U = given f.ledger.fixed.setup

  abbrev stamp : ℕ
  stamp = max op.mark.stamp (last_stamp (events_in (items_of log)))

  abbrev next : MadeEvent
  next = record { by = caller; task = op.mark.task; stamp = stamp; cell = d.cell; path = op.mark.path; carried = ledger_items (view_of pass).seen }

  may : MayMake code U f.place.0 (events_in (items_of log)) next
  may =
      let to : made.call.actor.birth.to ≡ f.place = ap (λ (n : ℕ). record { 0 = n }) made.call.place in
      call-makes code U f.place.0 (events_in (items_of log)) (ledger_items (view_of pass).seen) caller op.mark.task op.mark.stamp stamp op.mark.path made.does d.cell (answer_of (receiver made.does) answer) (omega arith) made.call
      (subst (λ (p : PlaceId). Tells made.does p d.cell (answer_of (receiver made.does) answer)) (sym to) (d.told made.does (receiver made.does) made.asks (receives_it made.does)))

  grown : LegalPlace code U f.place.0 (made_events log ++ next ∷ [])
  grown =
      place-grows code U f.place.0 (made_events log) next legal (subst (λ (js : List PlaceEvent). MayMake code U f.place.0 js next) (sym (journal_same log)) may)
      (top-stamp code U f.place.0 stamp (made_events log) legal (let e = top_same 0 (made_events log) ∙ ap last_stamp (journal_same log) in omega (arith, e)))
      (subst (λ (g : List LedgerItem). IsPrefix g (ledger_items (view_of pass).seen)) (sym (carried_same [] log)) (prefix_items (last_carried (items_of log)) (view_of pass).seen d.last))

  pub answered_stays : LegalPlace code U f.place.0 (made_events (log ++ stamp_all caller added))
  answered_stays =
      subst (λ (l : List EventItem). LegalPlace code U f.place.0 (made_events (log ++ stamp_all caller l))) (sym d.one)
      (subst (LegalPlace code U f.place.0) (sym (map-append made_event log (stamp_all caller (item_told (items_of log) op d.cell (view_of pass).seen ∷ [])))) grown)

pub place_stays : (f : PlaceFixed) (log : List (Stamped EventItem)) (caller : List ℕ) (op : PlaceOp) (r : PlaceReply) (added : List EventItem)
    → PlaceIsLegal f log → PlaceFits f log caller op → PlaceDoes f (items_of log) op r added → PlaceIsLegal f (log ++ stamp_all caller added)
place_stays f log caller op (NoMemory pass) added legal fits (none, came) code stands =
    subst (λ (l : List EventItem). LegalPlace code (given f.ledger.fixed.setup) f.place.0 (made_events (log ++ stamp_all caller l))) (sym none)
    (subst (λ (l : List (Stamped EventItem)). LegalPlace code (given f.ledger.fixed.setup) f.place.0 (made_events l)) (sym (append-nil log)) (legal code stands))
place_stays f log caller op (Answered answer pass) added legal fits d code stands =
    answered_stays f log caller op answer pass added code (legal code stands) (fits.made code stands (view_of pass).seen (record { lawful = d.came.lawful; more = d.came.more; alone = d.came.alone; last = d.last })) stands d

-- The meeting.

-- what a pass has seen once it has met a note is what the one or the other had seen
pub met_one : (Q : List (Stamped EntryItem) → Type 0) (v n w : View EntryItem) → Met shown v n w → Q v.seen → Q n.seen → Q w.seen
met_one Q v n w met ours theirs =
    let e = met.longer in
    elim (cases_lt (length n.seen) (length v.seen)) [
      | inl less ↦ subst Q (prefix-whole v.seen w.seen met.ours (omega (arith, e))) ours
      | inr le ↦ subst Q (prefix-whole n.seen w.seen met.theirs (omega (arith, e))) theirs
    ]

-- the deaths that it knows are those that the one or the other knew
met_dead : (Q : ℕ → Type 0) (v n w : View EntryItem) → Met shown v n w → Q v.dead → Q n.dead → Q w.dead
met_dead Q v n w met ours theirs =
    let e = met.greater in
    elim (cases_lt n.reach v.reach) [
      | inl less ↦ subst Q (sym (met.newer.0 (omega (arith, e)))) ours
      | inr le ↦ subst Q (sym (met.newer.1 (omega (arith, e)))) theirs
    ]

module _ (f : PlaceFixed) (log : List (Stamped EventItem)) (caller : List ℕ) (op : PlaceOp) (fits : PlaceFits f log caller op) (w : Pass EntryItem) (n : Note EntryItem) (items : List EventItem)
    (keeps : NoteKeeps f.ledger f.place items n) (met : Met shown (view_of op.pass) (note_view n) (view_of w)) (word : word_of w ≡ f.ledger.word) where
  pub came_back : CameBack f op.pass w
  came_back =
      record {
        word = word ∙ sym fits.word;
        number = met.same.0;
        splits = met.same.1;
        mine = met.mine;
        more = met.ours;
        alone = sym met.own ∙ (met.mine ∙ op.pass.own);
        lawful = met_one (LedgerIsLegal f.ledger.fixed) (view_of op.pass) (note_view n) (view_of w) met fits.lawful keeps.lawful;
        reach = (let e = met.greater in omega (arith, e));
        alive = met_dead (λ d. has_bit d f.place.0 ≡ false) (view_of op.pass) (note_view n) (view_of w) met fits.alive keeps.alive;
      }

  module _ (s0 s1 s2 : StoreView) (n' : Note EntryItem) (answer : Result (Option Value) Fault) (event : PlaceEvent) (kept : PlaceKeeps f.place s0 f.ledger (Some n) items) (same : s1 ≡ record s0 { spare = s1.spare }) (room : length s1.events < 2147483648)
      (did : CallMade s1 s2 op.mark op.op answer) (is : (es : List PlaceEvent) (e : PlaceEvent) → s2.events ≡ es ++ e ∷ [] → event ≡ e) (own : note_word n' ≡ f.ledger.word) (seen : IsAsSeen (view_of w) (note_view n')) where
    before : s1.events ≡ events_in items
    before = ap (λ (s : StoreView). s.events) same ∙ sym kept.same

    abbrev stamp_now : ℕ
    stamp_now = max op.mark.stamp (last_stamp (events_in items))

    abbrev pub item : EventItem
    item = item_told items op did.cell (view_of w).seen

    told : event_told s1.events op.mark did.cell ≡ event_in item
    told = ap (λ (es : List PlaceEvent). event_told es op.mark did.cell) before

    event_is : event ≡ event_in item
    event_is = is s1.events (event_told s1.events op.mark did.cell) did.events ∙ told

    now : s2.events ≡ events_in items ++ event_in item ∷ []
    now = did.events ∙ (λ i. before i ++ told i ∷ [])

    pub items_now : items ++ items_at event (view_of w).seen ≡ items ++ item ∷ []
    items_now = ap (λ (e : PlaceEvent). items ++ items_at e (view_of w).seen) event_is

    stamp_low : stamp_now ≤ (view_of w).reach
    stamp_low =
        let a = fits.stamped in
        let b = keeps.stamped in
        let c = met.greater in omega (arith, a, b, c)

    pub keeps_on : PlaceKeeps f.place s2 f.ledger (Some n') (items ++ item ∷ [])
    keeps_on =
        record {
          same = events_push items item ∙ sym now;
          is_open = ap ends_closed now ∙ closed_done false (events_in items) op.mark.task stamp_now did.cell op.mark.path;
          short = (let e = ap length did.events ∙ length-append s1.events (event_told s1.events op.mark did.cell ∷ []) in omega (arith, e, room));
          home = did.place ∙ (ap (λ (s : StoreView). s.place) same ∙ kept.home);
          noted = record {
            word = own;
            lawful = subst (LedgerIsLegal f.ledger.fixed) (sym seen.seen) came_back.lawful;
            last = subst (λ (l : List (Stamped EntryItem)). IsPrefix l (note_view n').seen) (sym (carried_push [] items item ∙ sym seen.seen)) (prefix-self (note_view n').seen);
            stamped = (let e : last_stamp (events_in (items ++ item ∷ [])) ≡ stamp_now = ap last_stamp (events_push items item) ∙ stamp_done 0 (events_in items) op.mark.task stamp_now did.cell op.mark.path in
                let r = seen.reach in
                let low = stamp_low in omega (arith, e, r, low));
            alive = ap (λ (d : ℕ). has_bit d f.place.0) seen.dead ∙ came_back.alive;
          };
        }

    pub answers : StoreAnswers f items op answer w (item ∷ [])
    answers =
        record {
          cell = did.cell;
          told = subst (λ (p : PlaceId). CallIsTold p op.op answer did.cell) (ap (λ (s : StoreView). s.place) same ∙ kept.home) did.told;
          one = refl;
          last = prefix-trans (last_carried items) (note_view n).seen (view_of w).seen keeps.last met.theirs;
          came = came_back;
          stamped = stamp_low;
        }
