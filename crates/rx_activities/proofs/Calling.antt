-- What an activity shows by its passes of a call of its place's store.
use Rattle.std.proofs.Common.{◌≡◌, ◌+◌, ◌<◌, ◌≤◌, ◌^◌, ℕ, false, List, [], length, Option, Some, slice_get, refl, ap, sym, ◌∙◌, subst, arith}
use mathlib.Core.List.{IsPrefix}
use Rattle.rx_rules.proofs.Common.{has_bit, PlaceId, TaskId, Block, opening_state, Term, Vars, Does, Makes, Gets, Puts, Forgets, does, begins, tree_of, Given, Folds, Player, RunsWithoutEntry, stays as goes_none, Cells}
use Rattle.rx_runs.specs.Steps.{TermSinks}
use Rattle.rx_tree_laws.proofs.Beginning.{begins-so}
use Rattle.rx_tree_laws.specs.TermSteps.{BeginsStatement}
use Rattle.rx_store.proofs.StoreCalls.{IsCall, is_call}
use Rattle.rx_tree_laws.proofs.Receiving.{call-so}
use Rattle.rx_runs.specs.SomeWords.{AsksSome}
use Rattle.rx_runs.proofs.SomeWords.{goes_some}
use Rattle.rx_syntax.specs.Shape.{Stands}
use Rattle.rx_finish.specs.declared.ledger.Caller.{Caller}
use Rattle.rx_history.specs.Setups.{given}
use Rattle.rx_check.specs.Checked.{Checked}
use Rattle.rx_control.specs.declared.control.Control.{Control}
use Rattle.rx_history.specs.declared.step.CellOp.{CellOp}
use Rattle.rx_history.specs.declared.step.Next.TheVariants.{Cell as CellStep}
use Rattle.rx_history.specs.Next.{next_of}
use Rattle.rx_control.specs.Stands.{StandsFor}
use Rattle.rx_store.specs.Asked.{MayAskStore}
use Rattle.rx_book.specs.declared.views.Stamped.{Stamped}
use Rattle.rx_book.specs.declared.views.View.{View}
use Rattle.rx_book.specs.declared.passes.Pass.{Pass}
use Rattle.rx_book.specs.History.{items_of}
use Rattle.rx_book.specs.Kept.{parent_left}
use Rattle.rx_book.specs.Passes.{view_of, word_of}
use Rattle.rx_book.specs.Named.{BookName}
use Rattle.rx_book.specs.Calls.{Looked}
use Rattle.rx_tree_laws.specs.Held.{is_held}
use Rattle.rx_tree_laws.specs.Spine.{Spine}
use Rattle.rx_ledger.specs.Answering.{asker}
use Rattle.rx_parts.proofs.Lists.{one_item}
use Rattle.rx_parts.specs.Ledger.{Actor, Walks, LegalLedger, stays, local, stores}
use Rattle.rx_runs.specs.Segments.{Stand}
use Rattle.rx_parts.specs.declared.items.EntryItem.{EntryItem}
use Rattle.rx_parts.specs.Histories.{ledger_items}
use Rattle.rx_objects.specs.declared.ledger.LedgerFixed.{LedgerFixed}
use Rattle.rx_objects.specs.declared.place.PlaceFixed.{PlaceFixed}
use Rattle.rx_objects.specs.declared.place.PlaceOp.{PlaceOp}
use Rattle.rx_objects.specs.Laws.{AsksPlace}
use Rattle.rx_objects.specs.Ending.{entries_at}
use Rattle.rx_objects.specs.Ledger.{LedgerIsLegal}
use Rattle.rx_objects.specs.Place.{last_carried}
use Rattle.rx_objects.proofs.Staying.{entries_same}
use Rattle.rx_objects.specs.Opened.{PlaceIs}
use Rattle.rx_activities.specs.declared.hand.Hand.{Hand}
use Rattle.rx_activities.proofs.BelowFew.{few_there}
use Rattle.rx_activities.specs.Knowing.{StandsSo, ActivityInvariant, since, kinds_told, TicketServes}

-- what is fixed of the object of the activity's place, and the operation
abbrev pub fixed_at : BookName LedgerFixed → Hand → ℕ → PlaceFixed
fixed_at L a words = record { place = a.place; words = words; ledger = L }

abbrev pub op_of : TaskId → ℕ → List ℕ → CellOp → Pass EntryItem → PlaceOp
op_of t n x op q = record { mark = record { task = t; stamp = n; path = x }; op = op; pass = q }

pub fixed_is : (L : BookName LedgerFixed) (a : Hand) (b : BookName PlaceFixed) → PlaceIs L a.place b → b.fixed ≡ fixed_at L a b.fixed.words
fixed_is L a b is = λ i. record { place = is.here i; words = b.fixed.words; ledger = is.ledger i }

-- what an activity knows, said of the caller that has its ticket
abbrev pub asked_by : (L : BookName LedgerFixed) (a : Hand) (k : ActivityInvariant L a) (w : Caller) → asker a.ticket ≡ Some w → ActivityInvariant L a
asked_by L a k w e =
    let same : k.who ≡ w = one_item (asker a.ticket) k.who w k.asks e in
    record {
      who = w;
      asks = e;
      is_at = ap (λ (c : Caller). c.place) (sym same) ∙ k.is_at;
      pass = k.pass;
      seat = k.seat;
      inside = k.inside;
      older = k.older;
      unmade = k.unmade;
      stands = λ code stands. subst (λ (c : Caller). StandsSo code L a c.task) same (k.stands code stands);
    }

-- no stamp is below where a walk begins
pub walk_up : {here : PlaceId} {a z : Stand} {cells : Cells} → Walks here a cells z → a.low ≤ z.low
walk_up {a = a} stays = omega arith
walk_up (local h w) = walk_up w
walk_up (stores a low told b w) = (let up = walk_up w in omega (arith, low, up))

-- what a history says of a task, another list says that is equal to it
pub said : (code : Block) (U : Given) (t : ℕ) (a : Actor) (g h : List (Stamped EntryItem)) → h ≡ g → (l : LegalLedger code U (ledger_items g)) → slice_get l.actors t ≡ Some a → (m : LegalLedger code U (ledger_items h)) × (slice_get m.actors t ≡ Some a)
said code U t a g h e l s = subst (λ (x : List (Stamped EntryItem)). (m : LegalLedger code U (ledger_items x)) × (slice_get m.actors t ≡ Some a)) (sym e) (l, s)

-- a pass of the ledger's book has seen as much as before, and may know of more entries
pub record SeesOn (v w : View EntryItem) : Type 0 where
  pub later : v.reach ≤ w.reach
  pub seen : w.seen ≡ v.seen
  pub number : w.number ≡ v.number

-- so it has after a look at the ledger's word, and a split
pub sees_on : (v w z : View EntryItem) → Looked v w → z ≡ parent_left w → SeesOn v z
sees_on v w z l is =
    let reach : z.reach ≡ w.reach = ap (λ (x : View EntryItem). x.reach) is in
    let later = l.later in
    record {
      later = omega (arith, reach, later);
      seen = ap (λ (x : View EntryItem). x.seen) is ∙ l.same.0;
      number = ap (λ (x : View EntryItem). x.number) is ∙ l.same.2;
    }

-- the activity with another pass of the ledger's book
abbrev pub with_pass : Hand → Pass EntryItem → Hand
with_pass a q = record a { pass = q }

module _ (L : BookName LedgerFixed) (a : Hand) (q : Pass EntryItem) (k : ActivityInvariant L a) (word : word_of q ≡ word_of a.pass)
    (l : SeesOn (view_of a.pass) (view_of q)) where
  seen : (view_of q).seen ≡ (view_of a.pass).seen
  seen = l.seen

  -- what is true of what was seen stays so
  kept : (P : List (Stamped EntryItem) → Type 0) → P (view_of a.pass).seen → P (view_of q).seen
  kept P h = subst P (sym seen) h

  pub looked_stands : (code : Block) (t : TaskId) → StandsSo code L a t → StandsSo code L (with_pass a q) t
  looked_stands code t s =
      let places = L.fixed.setup.places in
      let both = said code (given L.fixed.setup) t.0 s.actor (view_of a.pass).seen (view_of q).seen seen s.legal s.stands in
      let later = l.later in
      let low = s.in_time in
      record {
        legal = both.0;
        actor = s.actor;
        stands = both.1;
        holder = s.holder ∙ sym l.number;
        seated = s.seated;
        here = s.here;
        place = s.place;
        events = s.events;
        stand = s.stand;
        walks = s.walks;
        in_time = omega (arith, later, low);
        term = s.term;
        vars = s.vars;
        batch = s.batch;
        some = s.some;
        known = kept (λ h. s.stand.vars.places ≤ (tree_of places (entries_at h)).places) s.known;
        held = s.held;
        calm = s.calm;
        spine = kept (λ h. Spine s.stand.term (kinds_told (entries_at h) t)) s.spine;
        serves = kept (λ h. length (entries_at h) + 1 < 2 ^ 31 → TicketServes (tree_of places (entries_at h)) (is_held s.stand.term) a.ticket) s.serves;
      }

  pub looked_stand : (code : Block) (t : TaskId) (s : StandsSo code L a t) → (looked_stands code t s).stand ≡ s.stand
  unfolding looked_stands
  looked_stand code t s = refl

  -- an activity whose pass sees on knows what it knew
  pub looked_knows : ActivityInvariant L (with_pass a q)
  looked_knows =
      record {
        who = k.who;
        asks = k.asks;
        is_at = k.is_at;
        pass = record { word = word ∙ k.pass.word; lawful = kept (LedgerIsLegal L.fixed) k.pass.lawful };
        seat = record { word = k.seat.word; lawful = k.seat.lawful; carried = kept (λ h. IsPrefix (last_carried (items_of (view_of a.seat).seen)) h) k.seat.carried };
        inside = kept (λ h. a.place.0 < (tree_of L.fixed.setup.places (entries_at h)).places) k.inside;
        older = k.older;
        unmade = k.unmade;
        stands = λ code stands. looked_stands code k.who.task (k.stands code stands);
      }

  -- and shows what a call of the store has to show, with a stamp between what it knew of and what it knows of
  pub asks_place : (words n : ℕ) (x : List ℕ) (op : CellOp) → (view_of a.pass).reach ≤ n → n ≤ (view_of q).reach → has_bit (view_of q).dead a.place.0 ≡ false → MayAskStore a.place op
      → ((t : Term) → StandsFor L.fixed.program.script a.control.value t → CellStep op ≡ next_of (does a.control.value.vars a.place.0 t)) → ((t : Term) → StandsFor L.fixed.program.script a.control.value t → begins t ≡ Some x)
      → AsksPlace (fixed_at L a words) (view_of a.seat) (op_of k.who.task n x op q)
  asks_place words n x op above below alive cell next begun =
      record {
        word = word ∙ k.pass.word;
        lawful = kept (LedgerIsLegal L.fixed) k.pass.lawful;
        shown = λ code stands.
            let s = k.stands code stands in
            let both = said code (given L.fixed.setup) k.who.task.0 s.actor (view_of a.pass).seen (view_of q).seen seen s.legal s.stands in
            let up = walk_up s.walks in
            let low = s.in_time in
            let at = λ (v : Vars) (p : PlaceId). next_of (does v p.0 s.stand.term) in
            record {
              does = does s.stand.vars s.actor.birth.to.0 s.stand.term;
              asks = (λ i. at (sym s.vars i) (s.place i)) ∙ sym (next s.stand.term s.term);
              call = record {
                legal = both.0;
                actor = s.actor;
                stands = both.1;
                here = s.here;
                place = ap (λ (p : PlaceId). p.0) s.place;
                seated = sym s.seated;
                since = since a;
                earlier = s.events;
                stand = s.stand;
                walks = s.walks;
                asks = refl;
                begins = begun s.stand.term s.term;
                above = omega (arith, up, low, above);
              };
              held = s.holder ∙ sym l.number;
            };
        stamped = below;
        alive = alive;
        cell = cell;
      }

-- what the call is for its statement, and the store that may be asked
pub call_is : (code : Block) (L : BookName LedgerFixed) (a : Hand) (t : TaskId) (s : StandsSo code L a t) (op : CellOp) → TermSinks → CellStep op ≡ next_of (does a.control.value.vars a.place.0 s.stand.term) → IsCall s.stand.term a.place op (does s.stand.vars a.place.0 s.stand.term)
call_is code L a t s op sink next =
    let p : Player = record { term = s.stand.term; vars = s.stand.vars; batch = [] } in
    let none : RunsWithoutEntry 0 0 t a.place p opening_state [] p opening_state [] = goes_none in
    let asks : AsksSome (does s.stand.vars a.place.0 s.stand.term) = (goes_some 0 0 t a.place p p opening_state opening_state [] [] none s.some).1 s.stand.vars in
    is_call s.stand.term a.place op (does s.stand.vars a.place.0 s.stand.term)
    (ap (λ (v : Vars). next_of (does v a.place.0 s.stand.term)) (sym s.vars) ∙ sym next) (begins-so s.stand.vars a.place.0 s.stand.term) (call-so s.stand.vars a.place.0 s.stand.term) asks
    (sink s.stand.vars a.place.0 s.stand.term)

-- where a call of the store is next, a statement begins
call_begins : (op : CellOp) (d : Does) (b : Option (List ℕ)) → next_of d ≡ CellStep op → BeginsStatement d b → (x : List ℕ) × (b ≡ Some x)
call_begins op (Makes name words) b e h = h
call_begins op (Gets name target index) b e h = h
call_begins op (Puts target index value) b e h = h
call_begins op (Forgets target) b e h = h
call_begins op _ b e h = absurd (let f : ⊥ = cc in f)

-- In each run of the program in which the activity is known, and calls the store next.
module _ (p : Checked) (L : BookName LedgerFixed) (a : Hand) (k : ActivityInvariant L a) (program : L.fixed.program ≡ p) (op : CellOp) (next : (t : Term) → StandsFor p.script a.control.value t → CellStep op ≡ next_of (does a.control.value.vars a.place.0 t)) where
  pub of_program : (c : Control) (t : Term) → StandsFor L.fixed.program.script c t → StandsFor p.script c t
  of_program c t s = subst (λ (q : Checked). StandsFor q.script c t) program s

  pub of_run : (c : Control) (t : Term) → StandsFor p.script c t → StandsFor L.fixed.program.script c t
  of_run c t s = subst (λ (q : Checked). StandsFor q.script c t) (sym program) s

  pub next_in_run : (t : Term) → StandsFor L.fixed.program.script a.control.value t → CellStep op ≡ next_of (does a.control.value.vars a.place.0 t)
  next_in_run t s = next t (of_program a.control.value t s)

  -- its place is one of 16
  pub place_small : (code : Block) → Stands p.script code → a.place.0 < 16
  place_small code stands =
      let legal = k.pass.lawful.made code (subst (λ (q : Checked). Stands q.script code) (sym program) stands) in
      let few : (tree_of L.fixed.setup.places (entries_at (view_of a.pass).seen)).places ≤ 16 = few_there (given L.fixed.setup) (entries_at (view_of a.pass).seen) (subst (Folds (given L.fixed.setup)) (entries_same (view_of a.pass).seen) legal.folds) in
      let low = k.inside in
      omega (arith, few, low)

  -- its control stands for a term, a statement of which begins, and its store may be asked
  pub call_asked : TermSinks → (code : Block) → Stands p.script code → (t : Term) × (x : List ℕ) × StandsFor p.script a.control.value t × (begins t ≡ Some x) × MayAskStore a.place op
  call_asked sink code stands =
      let s = k.stands code (subst (λ (q : Checked). Stands q.script code) (sym program) stands) in
      let is = call_is code L a k.who.task s op sink (next_in_run s.stand.term s.term) in
      (s.stand.term, is.begins.0, of_program a.control.value s.stand.term s.term, is.begins.1, is.may)

  -- the path of that statement is the one that was told
  pub call_path : (x : List ℕ) → ((t : Term) (y : List ℕ) → StandsFor p.script a.control.value t → begins t ≡ Some y → x ≡ y) → (t : Term) → StandsFor L.fixed.program.script a.control.value t → begins t ≡ Some x
  call_path x told t s =
      let b = call_begins op (does a.control.value.vars a.place.0 t) (begins t) (sym (next_in_run t s)) (begins-so a.control.value.vars a.place.0 t) in
      b.1 ∙ ap Some (sym (told t b.0 (of_program a.control.value t s) b.1))
