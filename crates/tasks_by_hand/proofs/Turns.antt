-- A turn keeps the queue ready.
use Rattle.std.proofs.Common.{◌≡◌, ℕ, ◌<◌, Bool, true, false, drop, List, [], ◌∷◌, ◌++◌, length, slice_index_or, Option, Some, None, refl, ap, ◌∙◌, sym, subst, arith, inl, inr, append-nil}
use Rattle.std.specs.Bool.{then_some}
use Rattle.std.specs.List.{remove}
use Rattle.std.specs.Option.{IfSome}
use Rattle.rx_rules.proofs.Common.{TaskId, ScopeId, Tree}
use Rattle.rx_rules.specs.declared.tasks.Kind.TheVariants.{Finish}
use Rattle.rx_rules.specs.declared.entries.Entry.{Entry}
use Rattle.rx_rules.specs.declared.tasks.Task.{Task}
use Rattle.rx_rules.proofs.Append.{tree-places}
use Rattle.rx_tree_laws.specs.Sound.{Each}
use Rattle.rx_finish.specs.declared.ledger.Caller.{Caller}
use Rattle.rx_history.specs.declared.setup.Setup.{Setup}
use Rattle.rx_finish.specs.Callers.{MayAsk, HasNumbers, MayAskMoving, MayAskRelease}
use Rattle.rx_ticket.specs.declared.tickets.AnyTicket.{AnyTicket}
use Rattle.rx_ticket.specs.declared.tickets.AnyTicket.TheVariants.{Moving, Running, Held, Host}
use Rattle.rx_history.specs.declared.asks.Ask.{Ask}
use Rattle.rx_history.specs.declared.asks.Ask.TheVariants.{Open, At as Calls, Spawn, Arrive, Wait, Release, End, Print, Root, Census}
use Rattle.rx_history.specs.Setups.{given}
use Rattle.rx_ledger.specs.declared.asks.Request.{Request}
use Rattle.rx_ledger.specs.declared.asks.Reply.{Reply}
use Rattle.rx_ledger.specs.declared.asks.Reply.TheVariants.{Opened, Called, Spawned, Landed, Waits, Released, Ended, Printed, Census as Counted}
use Rattle.rx_ledger.specs.declared.asks.Reply.TheVariants.{RootDone, NotYet, Lost, NoMemory}
use Rattle.rx_ledger.specs.Answering.{asker, main_caller}
use Rattle.rx_ledger.specs.Asking.{MayApply, MayAskFor}
use Rattle.rx_ledger.specs.Calling.{tree_seen, Differ, CallsGoOn, CallsKeepOthers, CallsOwn, CallsSpareScopes, StartedAreNew, IsNew, owned_by}
use Rattle.rx_ledger.specs.Holding.{asking_in, started_in}
use Rattle.rx_ledger.specs.GoingOn.{MayGoOn, MayBegin, MayStart}
use Rattle.rx_ledger.specs.Kept.{KeeperView, is_refusal, Refused, Answered, Applied, AppliedIf, IsHistory}
use Rattle.rx_ledger.specs.Owned.{Owned, own_told, MayWaitNext, MayEndNext}
use Rattle.rx_ledger.proofs.Called.{front_folds}
use Rattle.rx_ledger.proofs.Rows.{main_begins}
use Rattle.tasks_by_hand.specs.declared.Job.{Job}
use Rattle.tasks_by_hand.specs.Jobs.{JobTicketServes, Owns, OwnsSo, IsGoodJob, Apart, AllGoodJobs, IsReady, SuitsRunning, Suits, inside_after, jobs_of, jobs_after}

-- What a job asks for may be asked.

asks_running : MayWaitNext → MayEndNext → (k : KeeperView) (who : Caller) (inside : Bool) (ask : Ask) (path : Option (List ℕ)) → IsHistory k → k.setup.places ≡ 3 → MayAskMoving (tree_seen k) who → Owns inside (own_told k.entries who.task) → SuitsRunning inside ask path → MayAskFor (tree_seen k) (Running who) path ask
asks_running wait end k who inside Open path hist three may own s = (may, s.1)
asks_running wait end k who inside (Spawn to) path hist three may own s =
    (record { asks = may; target = (let some = s.0 in let all = tree-places k.setup.places k.entries in omega (arith, some, all, three)) }, s.1)
asks_running wait end k who true (Wait thrown) path hist three may own s =
    (wait (given k.setup) k.entries who own.0 [] (front_folds (given k.setup) k.entries k.behind hist.folds) own.1 may, s.1)
asks_running wait end k who false (Wait thrown) path hist three may own s = absurd (let z : ⊥ = (let e : false ≡ true = s.0 in cc) in z)
asks_running wait end k who false (End thrown) path hist three may own s =
    (end (given k.setup) k.entries who (front_folds (given k.setup) k.entries k.behind hist.folds) own may, s.1)
asks_running wait end k who true (End thrown) path hist three may own s = absurd (let z : ⊥ = (let e : true ≡ false = s.0 in cc) in z)
asks_running wait end k who inside (Print value) path hist three may own s = (may, s)
asks_running wait end k who inside Census path hist three may own s = (may, s)
asks_running wait end k who inside _ path hist three may own s = absurd s

pub may_ask : MayWaitNext → MayEndNext → (k : KeeperView) (t : AnyTicket) (inside : Bool) (ask : Ask) (path : Option (List ℕ)) → IsHistory k → k.setup.places ≡ 3 → JobTicketServes (tree_seen k) t → OwnsSo k inside t → Suits t inside ask path → MayAskFor (tree_seen k) t path ask
may_ask wait end k (Moving who) inside ask path hist three may own s =
    subst (λ (a : Ask). MayAskFor (tree_seen k) (Moving who) path a) (sym s.0)
    (subst (λ (p : Option (List ℕ)). MayAskFor (tree_seen k) (Moving who) p Arrive) (sym s.1) (may, tt))
may_ask wait end k (Running who) inside ask path hist three may own s = asks_running wait end k who inside ask path hist three may (own who refl) s
may_ask wait end k (Held who) inside ask path hist three may own s =
    subst (λ (a : Ask). MayAskFor (tree_seen k) (Held who) path a) (sym s.0)
    (subst (λ (p : Option (List ℕ)). MayAskFor (tree_seen k) (Held who) p Release) (sym s.1) (may, tt))
may_ask wait end k Host inside ask path hist three may own s =
    subst (λ (a : Ask). MayAskFor (tree_seen k) Host path a) (sym s.0)
    (subst (λ (p : Option (List ℕ)). MayAskFor (tree_seen k) Host p Root) (sym s.1) (tt, tt))

-- A request by which a ticket asks for the least.

abbrev least : AnyTicket → Request
least (Moving who) = record { ticket = Moving who; ask = Arrive; batch = []; path = None }
least (Running who) = record { ticket = Running who; ask = Open; batch = []; path = Some [] }
least (Held who) = record { ticket = Held who; ask = Release; batch = []; path = None }
least Host = record { ticket = Host; ask = Root; batch = []; path = None }

least_asks : (T : Tree) (t : AnyTicket) → JobTicketServes T t → MayApply T (least t)
least_asks T (Moving who) h = (h, tt)
least_asks T (Running who) h = (h, tt)
least_asks T (Held who) h = (h, tt)
least_asks T Host h = (tt, tt)

least_serves : (T : Tree) (t : AnyTicket) → MayApply T (least t) → JobTicketServes T t
least_serves T (Moving who) h = h.0
least_serves T (Running who) h = h.0
least_serves T (Held who) h = h.0
least_serves T Host h = tt

least_ticket : (t : AnyTicket) → (least t).ticket ≡ t
least_ticket (Moving who) = refl
least_ticket _ = refl

-- Other jobs stay good.

module _ (keep : CallsKeepOthers) (spare : CallsSpareScopes) (k k' : KeeperView) (q : Request) (r : Reply) (hist : IsHistory k') (few : HasNumbers (tree_seen k')) (h : Applied k q r k') where
  pub others : (j u : Job) → q.ticket ≡ j.task → IsGoodJob k u → Apart j u → IsGoodJob k' u
  others j u is fits apart =
      let p = least u.task in
      let other : Differ p q = λ v w a b e. apart w v (ap asker (sym is) ∙ b) (ap asker (sym (least_ticket u.task)) ∙ a) (sym e) in
      record {
        serves = least_serves (tree_seen k') u.task (keep k k' p q r hist other (least_asks (tree_seen k) u.task fits.serves) h few);
        owns = λ who asks.
            subst (λ (o : Owned). Owns u.inside o) (sym (spare k k' p q r who other (ap asker (least_ticket u.task) ∙ asks) h)) (fits.owns who asks);
      }

-- The job after the reply.

weaker : (T : Tree) (w : Caller) (P Q : Task → Type 0) → ((x : Task) → P x → Q x) → MayAsk T w P → MayAsk T w Q
weaker T w P Q f h =
    record {
      caller = elim h.caller [
        | inl s ↦ inl (record { task = s.task; stands = s.stands; says = s.says; inner_is = s.inner_is; allowed = f s.task s.allowed })
        | inr l ↦ inr l
      ];
      numbers = h.numbers;
    }

served : (T : Tree) (t : AnyTicket) (inside : Bool) (ask : Ask) (path : Option (List ℕ)) → Suits t inside ask path → MayAskFor T t path ask → JobTicketServes T t
served T (Moving w) inside ask path s may = (subst (λ (a : Ask). MayAskFor T (Moving w) path a) s.0 may).0
served T (Running w) inside Open path s may = may.0
served T (Running w) inside (Calls to) path s may = absurd s
served T (Running w) inside (Spawn to) path s may = may.0.asks
served T (Running w) inside Arrive path s may = absurd s
served T (Running w) inside (Wait thrown) path s may = weaker T w _ _ (λ x p. p.moving) may.0
served T (Running w) inside Release path s may = absurd s
served T (Running w) inside (End thrown) path s may = weaker T w _ _ (λ x p. p.moving) may.0
served T (Running w) inside (Print value) path s may = may.0
served T (Running w) inside Census path s may = may.0
served T (Running w) inside Root path s may = absurd s
served T (Held w) inside ask path s may = (subst (λ (a : Ask). MayAskFor T (Held w) path a) s.0 may).0
served T Host inside ask path s may = tt

served_by : (T : Tree) (q : Request) (inside : Bool) → Suits q.ticket inside q.ask q.path → (z : Request) → z ≡ q → MayApply T z → (t : AnyTicket) → Some z.ticket ≡ Some t → JobTicketServes T t
served_by T q inside suits z e may t is =
    let it : z.ticket ≡ t = cc in
    subst (λ (x : AnyTicket). JobTicketServes T x) it
    (served T z.ticket inside z.ask z.path (subst (λ (y : Request). Suits y.ticket inside y.ask y.path) (sym e) suits) may)

runs_on : (T : Tree) (w : Caller) (t : AnyTicket) → MayAskMoving T w → Some (Running w) ≡ Some t → JobTicketServes T t
runs_on T w t h e = let it : Running w ≡ t = cc in subst (λ (x : AnyTicket). JobTicketServes T x) it h

waits_on : (T : Tree) (w : Caller) (t : AnyTicket) → MayAskRelease T w → Some (Held w) ≡ Some t → JobTicketServes T t
waits_on T w t h e = let it : Held w ≡ t = cc in subst (λ (x : AnyTicket). JobTicketServes T x) it h

no_ticket : {C : Type 0} (t : AnyTicket) → None ≡ Some t → C
no_ticket t e = absurd (let z : ⊥ = cc in z)

came_back : (q z : Request) → NoMemory z ≡ NoMemory q → z ≡ q
came_back q z e = cc

goes_on : (T : Tree) (k k' : KeeperView) (q : Request) (r : Reply) (inside : Bool) → Suits q.ticket inside q.ask q.path → Applied k q r k' → MayGoOn T r → (t : AnyTicket) → asking_in r ≡ Some t → JobTicketServes T t
goes_on T k k' q (Opened ticket scope) inside s h g t e = runs_on T ticket t g e
goes_on T k k' q (Called ticket callee) inside s h g t e = waits_on T ticket t g e
goes_on T k k' q (Spawned ticket child) inside s h g t e = runs_on T ticket t g e
goes_on T k k' q (Landed ticket) inside s h g t e = runs_on T ticket t g e
goes_on T k k' q (Waits ticket) inside s h g t e = waits_on T ticket t g e
goes_on T k k' q (Released ticket outcome) inside s h g t e = runs_on T ticket t g e
goes_on T k k' q Ended inside s h g t e = no_ticket t e
goes_on T k k' q (Printed ticket) inside s h g t e = runs_on T ticket t g e
goes_on T k k' q (Counted ticket places) inside s h g t e = runs_on T ticket t g e
goes_on T k k' q RootDone inside s h g t e = no_ticket t e
goes_on T k k' q (NotYet place z) inside s h g t e = served_by T q inside s z h.answers.0 g t e
goes_on T k k' q (Lost place at) inside s h g t e = no_ticket t e
goes_on T k k' q (NoMemory z) inside s h g t e = served_by T q inside s z (came_back q z h.back) g t e

-- it is of the same task
record IsHis (q : Request) (v : Caller) : Type 0 where
  who : Caller
  asks : asker q.ticket ≡ Some who
  task : v.task ≡ who.task

his : (q : Request) (who ticket v : Caller) (a t : AnyTicket) → asker q.ticket ≡ Some who → ticket.task ≡ who.task → asker a ≡ Some ticket → Some a ≡ Some t → asker t ≡ Some v → IsHis q v
his q who ticket v a t asks task of e b =
    let it : a ≡ t = cc in
    let both : Some ticket ≡ Some v = sym of ∙ (ap asker it ∙ b) in
    let is : ticket ≡ v = cc in
    record { who = who; asks = asks; task = ap (λ (c : Caller). c.task) (sym is) ∙ task }

his_back : (q z : Request) (t : AnyTicket) (v : Caller) → z ≡ q → Some z.ticket ≡ Some t → asker t ≡ Some v → IsHis q v
his_back q z t v same e b =
    let it : z.ticket ≡ t = cc in
    record { who = v; asks = ap (λ (y : Request). asker y.ticket) (sym same) ∙ (ap asker it ∙ b); task = refl }

asked_by : (q y : Request) → q ≡ y → asker q.ticket ≡ asker y.ticket
asked_by q y e = ap (λ (z : Request). asker z.ticket) e

task_is : (v w : Caller) → v ≡ w → v.task ≡ w.task
task_is v w e = ap (λ (c : Caller). c.task) e

same_task : (k k' : KeeperView) (q : Request) (r : Reply) → Applied k q r k' → (t : AnyTicket) (v : Caller) → asking_in r ≡ Some t → asker t ≡ Some v → IsHis q v
same_task k k' q (Opened ticket scope) h t v e b = his q h.answers.who ticket v (Running ticket) t (asked_by q _ h.answers.asked) (task_is ticket _ h.answers.ticket_is) refl e b
same_task k k' q (Called ticket callee) h t v e b = his q h.answers.who ticket v (Held ticket) t (asked_by q _ h.answers.asked) (task_is ticket _ h.answers.ticket_is) refl e b
same_task k k' q (Spawned ticket child) h t v e b = his q h.answers.who ticket v (Running ticket) t (asked_by q _ h.answers.asked) (task_is ticket _ h.answers.ticket_is) refl e b
same_task k k' q (Landed ticket) h t v e b = his q h.answers.who ticket v (Running ticket) t (asked_by q _ h.answers.asked) (task_is ticket _ h.answers.ticket_is) refl e b
same_task k k' q (Waits ticket) h t v e b = his q h.answers.who ticket v (Held ticket) t (asked_by q _ h.answers.asked) (task_is ticket _ h.answers.ticket_is) refl e b
same_task k k' q (Released ticket outcome) h t v e b = his q h.answers.who ticket v (Running ticket) t (asked_by q _ h.answers.asked) (task_is ticket _ h.answers.ticket_is) refl e b
same_task k k' q (Printed ticket) h t v e b = his q h.answers.who ticket v (Running ticket) t (asked_by q _ h.answers.asked) (task_is ticket _ h.answers.ticket_is) refl e b
same_task k k' q (Counted ticket places) h t v e b = his q h.answers.who ticket v (Running ticket) t (asked_by q _ h.answers.asked) (task_is ticket _ h.answers.ticket_is) refl e b
same_task k k' q (NotYet place z) h t v e b = his_back q z t v h.answers.0 e b
same_task k k' q (NoMemory z) h t v e b = his_back q z t v (came_back q z h.back) e b
same_task k k' q _ h t v e b = no_ticket t e

-- what it owns
out_of_one : (inside : Bool) (own : Owned) → Owns inside own → drop 1 own ≡ []
out_of_one true own h = ap (λ (o : Owned). drop 1 o) h.1
out_of_one false own h = ap (λ (o : Owned). drop 1 o) h

into_one : (inside : Bool) (own : Owned) (s : ScopeId) → inside ≡ false → Owns inside own → Owns true ((s, Finish) ∷ own)
into_one true own s e h = absurd (let z : ⊥ = cc in z)
into_one false own s e h = (s, ap (λ (o : Owned). (s, Finish) ∷ o) h)

suits_as : (q y : Request) (inside : Bool) → Suits q.ticket inside q.ask q.path → q ≡ y → Suits y.ticket inside y.ask y.path
suits_as q y inside s e = subst (λ (z : Request). Suits z.ticket inside z.ask z.path) e s

owns_on : (k k' : KeeperView) (q : Request) (r : Reply) (inside : Bool) (own : Owned) → Suits q.ticket inside q.ask q.path → Applied k q r k' → Owns inside own → Owns (inside_after r inside) (owned_by r own)
owns_on k k' q (Opened ticket scope) inside own s h o = into_one inside own scope (suits_as q _ inside s h.answers.asked).0 o
owns_on k k' q (Called ticket callee) inside own s h o = absurd (suits_as q _ inside s h.answers.asked)
owns_on k k' q (Released ticket outcome) inside own s h o = out_of_one inside own o
owns_on k k' q _ inside own s h o = o

after_fits : CallsGoOn → CallsOwn → (k k' : KeeperView) (q : Request) (r : Reply) (j : Job) (left : ℕ) → q.ticket ≡ j.task → Suits q.ticket j.inside q.ask q.path → IsHistory k' → HasNumbers (tree_seen k') → IsGoodJob k j → MayApply (tree_seen k) q → Applied k q r k' → (t : AnyTicket) → asking_in r ≡ Some t → IsGoodJob k' (record { task = t; inside = inside_after r j.inside; left = left })
after_fits go own k k' q r j left is suits hist few fits may h t e =
    record {
      serves = goes_on (tree_seen k') k k' q r j.inside suits h (go k k' q r hist may h few).0 t e;
      owns = λ v b.
          let m = same_task k k' q r h t v e b in
          let before = fits.owns m.who (ap asker (sym is) ∙ m.asks) in
          subst (λ (n : TaskId). Owns (inside_after r j.inside) (own_told k'.entries n)) (sym m.task)
          (subst (λ (o : Owned). Owns (inside_after r j.inside) o) (sym (own k k' q r m.who m.asks h))
          (owns_on k k' q r j.inside (own_told k.entries m.who.task) suits h before));
    }

-- The job that was started.

starts_so : (T : Tree) (c : Option AnyTicket) (t : AnyTicket) → MayStart T c → c ≡ Some t → JobTicketServes T t
starts_so T None t h e = no_ticket t e
starts_so T (Some (Moving w)) t h e = let it : Moving w ≡ t = cc in subst (λ (x : AnyTicket). JobTicketServes T x) it h
starts_so T (Some (Running w)) t h e = let it : Running w ≡ t = cc in subst (λ (x : AnyTicket). JobTicketServes T x) it h
starts_so T (Some (Held w)) t h e = absurd h
starts_so T (Some Host) t h e = absurd h

begins : (T : Tree) (r : Reply) (t : AnyTicket) → MayBegin T r → started_in r ≡ Some t → JobTicketServes T t
begins T (Opened ticket scope) t h e = no_ticket t e
begins T (Called ticket callee) t h e = starts_so T callee t h e
begins T (Spawned ticket child) t h e = starts_so T child t h e
begins T (Landed ticket) t h e = no_ticket t e
begins T (Waits ticket) t h e = no_ticket t e
begins T (Released ticket outcome) t h e = no_ticket t e
begins T Ended t h e = no_ticket t e
begins T (Printed ticket) t h e = no_ticket t e
begins T (Counted ticket places) t h e = no_ticket t e
begins T RootDone t h e = no_ticket t e
begins T (NotYet place request) t h e = no_ticket t e
begins T (Lost place at) t h e = no_ticket t e
begins T (NoMemory request) t h e = no_ticket t e

fresh_apart : (k k' : KeeperView) (t : AnyTicket) → ((c : Caller) → asker t ≡ Some c → IsNew k k' c) → (u : Job) → IsGoodJob k u → Apart u (record { task = t; inside = false; left = 0 })
fresh_apart k k' t new u fits v w a b e =
    (new w b).other (least u.task) v (least_asks (tree_seen k) u.task fits.serves) (ap asker (least_ticket u.task) ∙ a) e

-- The queue.

keep_all : (k k' : KeeperView) (j : Job) → ((u : Job) → IsGoodJob k u → Apart j u → IsGoodJob k' u) → (js : List Job) → Each (Apart j) js → AllGoodJobs k js → AllGoodJobs k' js
keep_all k k' j f [] a h = tt
keep_all k k' j f (u ∷ us) a h = (f u h.0 a.0, h.1, keep_all k k' j f us a.1 h.2)

each_map : (P Q : Job → Type 0) → ((u : Job) → P u → Q u) → (js : List Job) → Each P js → Each Q js
each_map P Q f [] h = tt
each_map P Q f (u ∷ us) h = (f u h.0, each_map P Q f us h.1)

each_fit : (k : KeeperView) (P : Job → Type 0) → ((u : Job) → IsGoodJob k u → P u) → (js : List Job) → AllGoodJobs k js → Each P js
each_fit k P f [] h = tt
each_fit k P f (u ∷ us) h = (f u h.0, each_fit k P f us h.2)

each_snoc : (P : Job → Type 0) (js : List Job) (a : Job) → Each P js → P a → Each P (js ++ a ∷ [])
each_snoc P [] a h p = (p, tt)
each_snoc P (u ∷ us) a h p = (h.0, each_snoc P us a h.1 p)

fit_snoc : (k : KeeperView) (js : List Job) (a : Job) → AllGoodJobs k js → Each (λ u. Apart u a) js → IsGoodJob k a → AllGoodJobs k (js ++ a ∷ [])
fit_snoc k [] a h apart fits = (fits, tt, tt)
fit_snoc k (u ∷ us) a h apart fits = (h.0, each_snoc (Apart u) us a h.1 apart.0, fit_snoc k us a h.2 apart.1 fits)

setup_same : (k k' : KeeperView) (q : Request) (r : Reply) → Applied k q r k' → k'.setup ≡ k.setup
setup_same k k' q r h =
    (elim (is_refusal r) as (λ b. AppliedIf b k q r k' → k'.setup ≡ k.setup) [
      | true ↦ λ (f : Refused k q r k'). f.setup
      | false ↦ λ (a : Answered k q r k'). a.setup
    ]) h

module _ (go : CallsGoOn) (keep : CallsKeepOthers) (own : CallsOwn) (spare : CallsSpareScopes) (started : StartedAreNew) (k k' : KeeperView) (q : Request) (r : Reply) (j : Job) (js : List Job) (is : q.ticket ≡ j.task) (suits : Suits q.ticket j.inside q.ask q.path) (ready : IsReady k (j ∷ js)) (hist : IsHistory k') (few : HasNumbers (tree_seen k')) (may : MayApply (tree_seen k) q) (h : Applied k q r k') (left : ℕ) where
  abbrev after_is : AnyTicket → Job
  after_is t = record { task = t; inside = inside_after r j.inside; left = left }

  after_apart : (t : AnyTicket) → asking_in r ≡ Some t → (u : Job) → Apart j u → Apart u (after_is t)
  after_apart t e u apart v w a b same =
      let m = same_task k k' q r h t w e b in
      apart m.who v (ap asker (sym is) ∙ m.asks) a (sym (same ∙ ap (λ (n : TaskId). n.0) m.task))

  went : AllGoodJobs k' (js ++ jobs_of (asking_in r) (inside_after r j.inside) left)
  went = of (asking_in r) refl where
    kept : AllGoodJobs k' js
    kept = keep_all k k' j (λ u f a. others keep spare k k' q r hist few h j u is f a) js ready.fit.1 ready.fit.2

    of : (o : Option AnyTicket) → asking_in r ≡ o → AllGoodJobs k' (js ++ jobs_of o (inside_after r j.inside) left)
    of None e = subst (λ (us : List Job). AllGoodJobs k' us) (sym (append-nil js)) kept
    of (Some t) e =
        fit_snoc k' js (after_is t) kept (each_map (Apart j) (λ u. Apart u (after_is t)) (after_apart t e) js ready.fit.1)
        (after_fits go own k k' q r j left is suits hist few ready.fit.0 may h t e)

  all_apart : (c : Job) → Apart j c → Each (λ u. Apart u c) js → Each (λ u. Apart u c) (js ++ jobs_of (asking_in r) (inside_after r j.inside) left)
  all_apart c one rest = of (asking_in r) refl where
    of : (o : Option AnyTicket) → asking_in r ≡ o → Each (λ u. Apart u c) (js ++ jobs_of o (inside_after r j.inside) left)
    of None e = subst (λ (us : List Job). Each (λ u. Apart u c) us) (sym (append-nil js)) rest
    of (Some t) e = each_snoc (λ u. Apart u c) js (after_is t) rest
        (λ v w a b same.
        let m = same_task k k' q r h t v e a in
        one m.who w (ap asker (sym is) ∙ m.asks) b (sym (ap (λ (n : TaskId). n.0) m.task) ∙ same))

  pub ready_next : IsReady k' (jobs_after js r j.inside left)
  ready_next = record { places = ap (λ (s : Setup). s.places) (setup_same k k' q r h) ∙ ready.places; fit = of (started_in r) refl } where
    rest : List Job
    rest = js ++ jobs_of (asking_in r) (inside_after r j.inside) left

    of : (o : Option AnyTicket) → started_in r ≡ o → AllGoodJobs k' (rest ++ jobs_of o false 0)
    of None e = subst (λ (us : List Job). AllGoodJobs k' us) (sym (append-nil rest)) went
    of (Some t) e =
        let new : (c : Caller) → asker t ≡ Some c → IsNew k k' c = λ c b. started k k' q r t c hist h e b in
        let c : Job = record { task = t; inside = false; left = 0 } in
        fit_snoc k' rest c went
        (all_apart c (fresh_apart k k' t new j ready.fit.0) (each_fit k (λ u. Apart u c) (fresh_apart k k' t new) js ready.fit.2))
        (record { serves = begins (tree_seen k') r t (go k k' q r hist may h few).1 e; owns = λ v b. (new v b).bare })

-- The queue in a turn.

-- its first job is taken
pub taken : (js ks us : List Job) (j : Job) → 0 < length js → ks ≡ js → j ≡ slice_index_or ks 0 j → us ≡ remove ks 0 → js ≡ j ∷ us
taken [] ks us j few e v r = absurd (let z : ⊥ = omega (arith, few) in z)
taken (x ∷ xs) ks us j few e v r =
    let a : j ≡ x = v ∙ ap (λ (ls : List Job). slice_index_or ls 0 j) e in
    let b : us ≡ xs = r ∙ ap (λ (ls : List Job). remove ls 0) e in
    sym (ap (λ (y : Job). y ∷ us) a ∙ ap (λ (ls : List Job). x ∷ ls) b)

-- few entries are seen, or the turn answers nothing
then_true : {A : Type 0} (b : Bool) (x : A) (P : Type 0) → (b ≡ true → P) → IfSome (then_some b x) (λ _. P)
then_true true x P f = f refl
then_true false x P f = tt

pub if_few : {A : Type 0} (b : Bool) (x : A) (P : Type 0) (o : Option A) → o ≡ then_some b x → (b ≡ true → P) → IfSome o (λ _. P)
if_few {A} b x P o e f = subst (λ (z : Option A). IfSome z (λ _. P)) (sym e) (then_true b x P f)

-- The queue at the beginning.

no_caller : {C : Type 0} (v : Caller) → None ≡ Some v → C
no_caller v e = absurd (let z : ⊥ = cc in z)

main_fits : (k : KeeperView) (w : Caller) (left : ℕ) → k.entries ≡ [] → w ≡ main_caller → IsGoodJob k (record { task = Running w; inside = false; left = left })
main_fits k w left none is =
    record { serves = main_begins k.setup.places k.entries w none is; owns = λ v b. ap (λ (es : List Entry). own_told es v.task) none }

pub queue_opens : (us vs ws : List Job) (a b : Job) → us ≡ [] → vs ≡ us ++ a ∷ [] → ws ≡ vs ++ b ∷ [] → ws ≡ a ∷ b ∷ []
queue_opens us vs ws a b e f g = g ∙ ap (λ (js : List Job). js ++ b ∷ []) (f ∙ ap (λ (js : List Job). js ++ a ∷ []) e)

pub opening_ready : (k : KeeperView) (w : Caller) (left more : ℕ) (js : List Job) → k.setup.places ≡ 3 → k.entries ≡ [] → w ≡ main_caller → js ≡ record { task = Running w; inside = false; left = left } ∷ record { task = Host; inside = false; left = more } ∷ [] → IsReady k js
opening_ready k w left more js three none is e =
    record {
      places = three;
      fit = subst (λ (us : List Job). AllGoodJobs k us) (sym e)
          (main_fits k w left none is, ((λ v u x y f. no_caller u y), tt), (record { serves = tt; owns = λ v b. no_caller v b }, tt, tt));
    }
