-- What a task that was started has, by the answers that start one.
use Rattle.std.proofs.Common.{◌≡◌, ◌≤◌, ◌<◌, ◌==◌, ℕ, Bool, true, false, cond, List, [], ◌∷◌, ◌++◌, Option, Some, None, is_some, refl, ap, sym, ◌∙◌, subst, arith}
use Rattle.std.proofs.lemmas.Option.{same_Some}
use Rattle.rx_rules.proofs.Common.{PlaceId, TaskId, ScopeId, Block, place_number, AllowedAct, tree_of, started_by, Term, Does, Calls, Spawns, does, begins, Folds, death_of}
use Rattle.rx_rules.specs.declared.entries.Act.{Act}
use Rattle.rx_rules.specs.declared.entries.Act.TheVariants.{At as ActCall, Spawn as ActSpawn}
use Rattle.rx_rules.specs.declared.entries.Entry.{Entry}
use Rattle.rx_rules.specs.declared.entries.Entry.TheVariants.{Step}
use Rattle.rx_rules.specs.Plays.{Fits}
use Rattle.rx_runs.specs.Segments.{Stand}
use Rattle.rx_finish.specs.declared.ledger.Caller.{Caller}
use Rattle.rx_finish.specs.Callers.{HasNumbers}
use Rattle.rx_ticket.specs.declared.tickets.AnyTicket.{AnyTicket}
use Rattle.rx_syntax.specs.Shape.{Shape, Stands}
use Rattle.rx_history.specs.Setups.{given}
use Rattle.rx_history.specs.declared.asks.Ask.TheVariants.{At as AskCall, Spawn as AskSpawn}
use Rattle.rx_control.specs.declared.control.Control.{Control}
use Rattle.rx_control.specs.Stands.{StandsFor}
use Rattle.rx_history.specs.Next.{next_of}
use Rattle.rx_book.specs.declared.views.View.{View}
use Rattle.rx_book.specs.Passes.{view_of}
use Rattle.rx_book.specs.declared.passes.Pass.{Pass}
use Rattle.rx_book.specs.Named.{BookName}
use Rattle.rx_ledger.specs.declared.asks.Request.{Request}
use Rattle.rx_ledger.specs.declared.asks.Reply.{Reply}
use Rattle.rx_ledger.specs.declared.asks.Reply.TheVariants.{Called, Spawned}
use Rattle.rx_ledger.specs.Told.{due_entries}
use Rattle.rx_ledger.specs.Answering.{Answers, OpensAt, StartsTask, ticket_of, asker}
use Rattle.rx_ledger.specs.Kept.{KeeperView, is_refusal, Answered, AppliedIf}
use Rattle.rx_ledger.specs.GoingOn.{MayStart}
use Rattle.rx_ledger.proofs.Begins.{children_begin}
use Rattle.rx_ledger.proofs.Called.{front_folds}
use Rattle.rx_ledger.proofs.StaysGood.{places_more}
use Rattle.rx_parts.specs.Ledger.{LedgerItem, actor_born, actors_born}
use Rattle.rx_parts.specs.declared.items.EntryItem.{EntryItem}
use Rattle.rx_parts.specs.declared.items.EventItem.{EventItem}
use Rattle.rx_objects.specs.declared.ledger.LedgerFixed.{LedgerFixed}
use Rattle.rx_objects.specs.declared.mentions.Mentions.{Mentions}
use Rattle.rx_objects.specs.Ending.{entries_at}
use Rattle.rx_objects.proofs.Staying.{entries_same}
use Rattle.rx_activities.specs.declared.replies.Child.{Child}
use Rattle.rx_activities.specs.declared.hand.Hand.{Hand}
use Rattle.rx_activities.specs.Knowing.{StandsSo}
use Rattle.rx_activities.specs.Inside.Births.{IsBorn, IsStarted}
use Rattle.rx_activities.specs.Inside.Sending.{WasSent, SuitsStep, target, ChildFor, ChildMentioned, IsPrepared}
use Rattle.rx_activities.proofs.Born as born
use Rattle.rx_activities.proofs.BornCalls as calls

-- a ticket that is there is one of the two
of_ticket : (lost there : Bool) (x y t : AnyTicket) → Some t ≡ cond lost None (Some (cond there x y)) → t ≡ cond there x y
of_ticket true there x y t e = absurd (let f : ⊥ = cc e in f)
of_ticket false there x y t e = ap (λ (o : Option AnyTicket). elim o as (λ _. AnyTicket) [ Some z ↦ z | None ↦ t ]) e

-- a child was prepared where the step starts one
started : (L : BookName LedgerFixed) (place to : PlaceId) (after : Pass EntryItem) (shape : Shape) (control : Control) (here : PlaceId) (pass : Pass EntryItem) (seat : Pass EventItem) (m : Mentions) (o : Option AnyTicket) (child : Option Child)
    → ChildFor shape control here (Some to) pass seat child → ChildMentioned child m
    → ((t : AnyTicket) (c : Child) → o ≡ Some t → IsPrepared shape control here to pass seat c → m.child.value ≡ c.pass → ((s : Pass EventItem) → c.seat ≡ Some s → m.seat.value ≡ s) → IsBorn L place after t c)
    → IsStarted L place after o child
started L place to after shape control here pass seat m None child f h make = tt
started L place to after shape control here pass seat m (Some t) None f h make = absurd f
started L place to after shape control here pass seat m (Some t) (Some c) f h make = make t c refl f h.0 h.1

module _ (L : BookName LedgerFixed) (rest : Hand) (reply : Reply) (child : Option Child) (code : Block) (st : Stands L.fixed.program.script code) (w : WasSent L.fixed.program.script L rest reply child) where
  abbrev f : LedgerFixed
  f = L.fixed

  abbrev z : View EntryItem
  z = view_of rest.pass

  abbrev was : KeeperView
  was = born.was L rest reply child w

  abbrev now : KeeperView
  now = born.now L rest reply child w

  -- the answer, where it is no refusal
  abbrev answered : is_refusal reply ≡ false → Answered was w.op.request w.replied.answer.reply now
  answered kept = subst (λ (b : Bool). AppliedIf b was w.op.request w.replied.answer.reply now) (ap is_refusal w.replied.is ∙ kept) w.replied.called.replied.applied

  abbrev there : is_refusal reply ≡ false → List Entry
  there kept = was.entries ++ due_entries (answered kept).due

  pub answers : (kept : is_refusal reply ≡ false) → Answers (tree_of f.setup.places (there kept)) (there kept) w.op.request reply now.entries
  answers kept = subst (λ (r : Reply). Answers (tree_of f.setup.places (there kept)) (there kept) w.op.request r now.entries) w.replied.is (answered kept).answers

  -- An act of the caller's task was granted, which starts one for a place.
  module _ (kept : is_refusal reply ≡ false) (who : Caller) (act : Act) (new : TaskId) (scope : ScopeId) (to : PlaceId) (path : List ℕ) (d : Does) (asks : asker w.op.request.ticket ≡ Some who)
      (may : AllowedAct (tree_of f.setup.places (there kept)) who.task act) (added : now.entries ≡ there kept ++ Step who.task act w.op.request.batch ∷ []) (starts : started_by act ≡ Some new)
      (born_is : (n : ℕ) (i : LedgerItem) (x : Stand) → actors_born n i act x ≡ actor_born n i (place_number who.place) to x ∷ []) (next : new.0 ≡ (tree_of f.setup.places (there kept)).next_task) (inside : to.0 < (tree_of f.setup.places (there kept)).places)
      (did : (t : Term) → StandsFor f.program.script w.hand.control.value t → does w.hand.control.value.vars w.hand.place.0 t ≡ d) (path_is : w.op.request.path ≡ Some path) (target_is : target (next_of d) ≡ Some to)
      (fits : (here : PlaceId) (t : Term) → place_number who.place ≡ here → begins t ≡ Some path → Fits here t d act)
      (o : Option AnyTicket) (o_is : o ≡ ticket_of (tree_of f.setup.places (there kept)) new scope (place_number who.place) to) (serves : Folds (given f.setup) (there kept) → HasNumbers (tree_of f.setup.places now.entries) → MayStart (tree_of f.setup.places now.entries) o) where
    abbrev e : Entry
    e = Step who.task act w.op.request.batch

    ends : entries_at z.seen ≡ there kept ++ e ∷ []
    ends = calls.seen_lines f (view_of w.sent) z w.op w.replied.answer w.replied.called w.sent.own ∙ added

    folds_there : Folds (given f.setup) (there kept)
    folds_there =
        front_folds (given f.setup) (there kept) (e ∷ [])
        (subst (Folds (given f.setup)) (entries_same z.seen ∙ ends) (w.replied.called.lawful.made code st).folds)

    inside_now : to.0 < (tree_of f.setup.places (entries_at z.seen)).places
    inside_now =
        (let m = subst (λ (es : List Entry). (tree_of f.setup.places (there kept)).places ≤ (tree_of f.setup.places es).places) (sym ends) (places_more f.setup.places (there kept) (e ∷ [])) in
        omega (arith, m, inside))

    -- the term of the caller's task
    says : (c : Block) (is : Stands f.program.script c)
        → (let s : StandsSo c L w.hand w.knows.who.task = w.knows.stands c is in Fits s.actor.birth.to s.stand.term (does s.stand.vars s.actor.birth.to.0 s.stand.term) act)
    says c is =
        let s : StandsSo c L w.hand w.knows.who.task = w.knows.stands c is in
        let same : who ≡ w.knows.who = same_Some who w.knows.who (sym asks ∙ (ap asker w.ticket ∙ w.knows.asks)) in
        let from : place_number who.place ≡ s.actor.birth.to = ap (λ (x : Caller). place_number x.place) same ∙ (ap place_number w.knows.is_at ∙ sym s.place) in
        let is_d : does s.stand.vars s.actor.birth.to.0 s.stand.term ≡ d = (λ i. does (sym s.vars i) (s.place i).0 s.stand.term) ∙ did s.stand.term s.term in
        subst (λ (x : Does). Fits s.actor.birth.to s.stand.term x act) (sym is_d) (fits s.actor.birth.to s.stand.term from (sym (w.path s.stand.term s.term) ∙ path_is))

    pub starts_it : IsStarted L rest.place rest.pass o child
    starts_it =
        let s : StandsSo code L w.hand w.knows.who.task = w.knows.stands code st in
        let is_target : target w.next ≡ Some to = ap target (w.does_next s.stand.term s.term ∙ ap next_of (did s.stand.term s.term)) ∙ target_is in
        started L rest.place to rest.pass f.program.script w.hand.control.value w.hand.place w.hand.pass w.hand.seat w.op.mentions o child
        (subst (λ (x : Option PlaceId). ChildFor f.program.script w.hand.control.value w.hand.place x w.hand.pass w.hand.seat child) is_target w.child_is) w.mentions.mentioned
        (λ t c is prepared child_is seat_is.
        born.is_born L rest reply child w (answered kept) who act new scope to asks may added starts born_is next says inside_now code st c prepared child_is seat_is t
        (of_ticket (is_some (death_of (tree_of f.setup.places (there kept)) to)) ((place_number who.place).0 == to.0) _ _ t (sym is ∙ o_is))
        (λ numbers. subst (MayStart (tree_of f.setup.places now.entries)) is (serves folds_there numbers)))

-- after a call
called_so : (L : BookName LedgerFixed) (rest : Hand) (ticket : Caller) (callee : Option AnyTicket) (child : Option Child) (code : Block) → Stands L.fixed.program.script code → WasSent L.fixed.program.script L rest (Called ticket callee) child → IsStarted L rest.place rest.pass callee child
called_so L rest ticket callee child code st w =
    let reply : Reply = Called ticket callee in
    let kept : is_refusal reply ≡ false = refl in
    let a : OpensAt (tree_of L.fixed.setup.places (there L rest reply child code st w kept)) (there L rest reply child code st w kept) w.op.request ticket callee (now L rest reply child code st w).entries = answers L rest reply child code st w kept in
    let ask : w.op.request.ask ≡ AskCall a.to = ap (λ (q : Request). q.ask) a.asked in
    starts_it L rest reply child code st w kept a.who (ActCall (place_number a.who.place) a.to a.scope a.who.inner a.child a.path) a.child a.scope a.to a.path (Calls a.to.0) (ap (λ (q : Request). asker q.ticket) a.asked)
    a.entry.allowed a.entry.added refl (λ n i x. refl) a.entry.allowed.asks.3 a.entry.allowed.asks.4
    (λ t is. subst (SuitsStep (does w.hand.control.value.vars w.hand.place.0 t)) ask (w.asks t is)) (ap (λ (q : Request). q.path) a.asked) refl (λ here t from path. (refl, from, path))
    callee a.callee_is (λ folds numbers. children_begin (given L.fixed.setup) (there L rest reply child code st w kept) (now L rest reply child code st w).entries w.op.request reply folds a numbers)

-- after a start
spawned_so : (L : BookName LedgerFixed) (rest : Hand) (ticket : Caller) (other : Option AnyTicket) (child : Option Child) (code : Block) → Stands L.fixed.program.script code → WasSent L.fixed.program.script L rest (Spawned ticket other) child → IsStarted L rest.place rest.pass other child
spawned_so L rest ticket other child code st w =
    let reply : Reply = Spawned ticket other in
    let kept : is_refusal reply ≡ false = refl in
    let a : StartsTask (tree_of L.fixed.setup.places (there L rest reply child code st w kept)) (there L rest reply child code st w kept) w.op.request ticket other (now L rest reply child code st w).entries = answers L rest reply child code st w kept in
    let ask : w.op.request.ask ≡ AskSpawn a.to = ap (λ (q : Request). q.ask) a.asked in
    starts_it L rest reply child code st w kept a.who (ActSpawn a.child a.scope (place_number a.who.place) a.to a.path) a.child a.scope a.to a.path (Spawns a.to.0) (ap (λ (q : Request). asker q.ticket) a.asked)
    a.entry.allowed a.entry.added refl (λ n i x. refl) a.entry.allowed.asks.1 a.entry.allowed.asks.3
    (λ t is. subst (SuitsStep (does w.hand.control.value.vars w.hand.place.0 t)) ask (w.asks t is)) (ap (λ (q : Request). q.path) a.asked) refl (λ here t from path. (refl, from, path))
    other a.started_is (λ folds numbers. children_begin (given L.fixed.setup) (there L rest reply child code st w kept) (now L rest reply child code st w).entries w.op.request reply folds a numbers)

-- the same of a script that is the run's
pub called_starts : (shape : Shape) (L : BookName LedgerFixed) (rest : Hand) (ticket : Caller) (callee : Option AnyTicket) (child : Option Child) (code : Block) → L.fixed.program.script ≡ shape → Stands shape code → WasSent shape L rest (Called ticket callee) child → IsStarted L rest.place rest.pass callee child
called_starts shape L rest ticket callee child code is st w =
    subst (λ (s : Shape). Stands s code → WasSent s L rest (Called ticket callee) child → IsStarted L rest.place rest.pass callee child) is (called_so L rest ticket callee child code) st w

pub spawned_starts : (shape : Shape) (L : BookName LedgerFixed) (rest : Hand) (ticket : Caller) (other : Option AnyTicket) (child : Option Child) (code : Block) → L.fixed.program.script ≡ shape → Stands shape code → WasSent shape L rest (Spawned ticket other) child → IsStarted L rest.place rest.pass other child
spawned_starts shape L rest ticket other child code is st w =
    subst (λ (s : Shape). Stands s code → WasSent s L rest (Spawned ticket other) child → IsStarted L rest.place rest.pass other child) is (spawned_so L rest ticket other child code) st w
