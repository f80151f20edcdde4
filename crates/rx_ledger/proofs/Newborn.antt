-- A task that was just started.
use Rattle.std.proofs.Common.{◌≡◌, ◌≢◌, ℕ, ◌<◌, Bool, true, false, cond, List, [], ◌∷◌, ◌++◌, Option, Some, None, is_some, refl, ap, ◌∙◌, sym, subst, arith, inl, inr}
use Rattle.std.proofs.lemmas.Bool.{ne_eqb}
use Rattle.rx_rules.proofs.Common.{TaskId, Tree, death_of, AllowedAct, tree_of, Reached}
use Rattle.rx_rules.specs.declared.entries.Act.{Act}
use Rattle.rx_rules.specs.declared.entries.Entry.{Entry}
use Rattle.rx_rules.specs.declared.entries.Entry.TheVariants.{Step}
use Rattle.rx_rules.specs.declared.tasks.Task.{Task}
use Rattle.rx_tree_laws.proofs.Reach.{task_below}
use Rattle.rx_tree_laws.proofs.Reached.{sound}
use Rattle.rx_tree_laws.proofs.Histories.{fold_reached}
use Rattle.rx_history.specs.Setups.{given}
use Rattle.rx_history.specs.declared.asks.Ask.{Ask}
use Rattle.rx_history.specs.declared.asks.Ask.TheVariants.{Open, At as Calls, Spawn, Arrive, Wait, Release, End, Print, Root, Census}
use Rattle.rx_finish.specs.declared.ledger.Caller.{Caller}
use Rattle.rx_finish.specs.Callers.{MayAsk, MayAskMoving, MayAskTo, MayAskArrive, MayAskWait, MayAskRelease, MayAskEnd}
use Rattle.rx_ticket.specs.declared.tickets.AnyTicket.{AnyTicket}
use Rattle.rx_ticket.specs.declared.tickets.AnyTicket.TheVariants.{Moving, Running, Held, Host}
use Rattle.rx_ledger.specs.declared.asks.Request.{Request}
use Rattle.rx_ledger.specs.declared.asks.Reply.{Reply}
use Rattle.rx_ledger.specs.declared.asks.Reply.TheVariants.{Called, Spawned}
use Rattle.rx_ledger.specs.Told.{due_entries}
use Rattle.rx_ledger.specs.Answering.{asker}
use Rattle.rx_ledger.specs.Asking.{IsTravelling, IsRunning, IsHeld, IsHost, MayAskFor}
use Rattle.rx_ledger.specs.Calling.{IsNew, StartedAreNew}
use Rattle.rx_ledger.specs.Kept.{KeeperView, Answered, IsHistory}
use Rattle.rx_ledger.specs.Owned.{own_after, own_told}
use Rattle.rx_ledger.proofs.Called.{folds_between, own_append}
use Rattle.rx_ledger.proofs.Keepers.{asks_after}
use Rattle.rx_ledger.proofs.Others.{all_apart}
use Rattle.rx_ledger.proofs.OwnTold.{unborn_owns}

-- The number of who may ask was given.

number_given : (T : Tree) (who : Caller) (P : Task → Type 0) → Reached T → MayAsk T who P → who.task.0 < T.next_task
number_given T who P r h =
    elim h.caller [
      | inl s ↦ task_below T.next_task T.tasks who.task s.task (sound r).tasks_fall s.stands
      | inr l ↦ (all_apart r who.task l.task l.gone).low
    ]

same_caller : (v who : Caller) (P : Caller → Type 0) → Some v ≡ Some who → P v → P who
same_caller v who P e h = let it : v ≡ who = cc in subst P it h

of_moving : (t : AnyTicket) (who : Caller) (P : Caller → Type 0) → asker t ≡ Some who → IsTravelling t P → P who
of_moving (Moving v) who P e h = same_caller v who P e h
of_moving (Running v) who P e h = absurd h
of_moving (Held v) who P e h = absurd h
of_moving Host who P e h = absurd h

of_running : (t : AnyTicket) (who : Caller) (P : Caller → Type 0) → asker t ≡ Some who → IsRunning t P → P who
of_running (Moving v) who P e h = absurd h
of_running (Running v) who P e h = same_caller v who P e h
of_running (Held v) who P e h = absurd h
of_running Host who P e h = absurd h

of_held : (t : AnyTicket) (who : Caller) (P : Caller → Type 0) → asker t ≡ Some who → IsHeld t P → P who
of_held (Moving v) who P e h = absurd h
of_held (Running v) who P e h = absurd h
of_held (Held v) who P e h = same_caller v who P e h
of_held Host who P e h = absurd h

no_host : {C : Type 0} (t : AnyTicket) (who : Caller) → asker t ≡ Some who → IsHost t → C
no_host Host who e h = absurd (let both : None ≡ Some who = e in let v : ⊥ = cc in v)
no_host _ who e h = absurd h

asker_low : (T : Tree) (t : AnyTicket) (path : Option (List ℕ)) (ask : Ask) (who : Caller) → Reached T → asker t ≡ Some who → MayAskFor T t path ask → who.task.0 < T.next_task
asker_low T t path Open who r e h = number_given T who _ r (of_running t who (MayAskMoving T) e h.0)
asker_low T t path (Calls to) who r e h = number_given T who _ r ((of_running t who (λ v. MayAskTo T v to) e h.0).asks)
asker_low T t path (Spawn to) who r e h = number_given T who _ r ((of_running t who (λ v. MayAskTo T v to) e h.0).asks)
asker_low T t path Arrive who r e h = number_given T who _ r (of_moving t who (MayAskArrive T) e h.0)
asker_low T t path (Wait thrown) who r e h = number_given T who _ r (of_running t who (MayAskWait T) e h.0)
asker_low T t path Release who r e h = number_given T who _ r (of_held t who (MayAskRelease T) e h.0)
asker_low T t path (End thrown) who r e h = number_given T who _ r (of_running t who (MayAskEnd T) e h.0)
asker_low T t path (Print value) who r e h = number_given T who _ r (of_running t who (MayAskMoving T) e h.0)
asker_low T t path Census who r e h = number_given T who _ r (of_running t who (MayAskMoving T) e h.0)
asker_low T t path Root who r e h = no_host t who e h.0

-- The ticket of a task that is started is of the new number.

ticket_task : (lost there : Bool) (x y c : Caller) (t : AnyTicket) (n : TaskId) → Some t ≡ cond lost None (Some (cond there (Running x) (Moving y))) → asker t ≡ Some c → x.task ≡ n → y.task ≡ n → c.task ≡ n
ticket_task true there x y c t n e a p q = absurd (let v : ⊥ = cc in v)
ticket_task false true x y c t n e a p q =
    let it : t ≡ Running x = cc in
    let same : Some x ≡ Some c = sym (ap asker it) ∙ a in
    let is : x ≡ c = cc in
    ap (λ (w : Caller). w.task) (sym is) ∙ p
ticket_task false false x y c t n e a p q =
    let it : t ≡ Moving y = cc in
    let same : Some y ≡ Some c = sym (ap asker it) ∙ a in
    let is : y ≡ c = cc in
    ap (λ (w : Caller). w.task) (sym is) ∙ q

-- What follows of a task with the next number.

module _ (k k' : KeeperView) (q : Request) (r : Reply) (hist : IsHistory k') (a : Answered k q r k') where
  abbrev before : List Entry
  before = k.entries ++ due_entries a.due

  abbrev tree : Tree
  tree = tree_of k.setup.places before

  is_new : (who c : Caller) (act : Act) (n : TaskId) → AllowedAct tree who.task act → k'.entries ≡ before ++ Step who.task act q.batch ∷ [] → c.task ≡ n → n.0 ≡ tree.next_task → IsNew k k' c
  is_new who c act n may added his next =
      let folds = folds_between k k' q r hist a in
      let reached = fold_reached k.setup.places before folds.some folds.few folds.allowed in
      let mine : c.task.0 ≡ tree.next_task = ap (λ (m : TaskId). m.0) his ∙ next in
      let low : who.task.0 < tree.next_task = task_below tree.next_task tree.tasks who.task may.task (sound reached).tasks_fall may.stands in
      let other : who.task.0 ≢ c.task.0 = λ e. absurd (let v : ⊥ = omega (arith, low, mine, e) in v) in
      let none : own_told before c.task ≡ [] = unborn_owns (given k.setup) before c.task folds (omega (arith, mine)) in
      record {
        other = λ p w asks s e.
            let after = asks_after k.setup.places k.entries a.due p asks in
            let given_one : w.task.0 < tree.next_task = asker_low tree p.ticket p.path p.ask w reached s after in
            omega (arith, given_one, mine, e);
        bare =
            ap (λ (fs : List Entry). own_told fs c.task) added
            ∙ (own_append c.task [] before (Step who.task act q.batch ∷ [])
            ∙ (ap (λ (b : Bool). cond b (own_after act (own_told before c.task)) (own_told before c.task)) (ne_eqb who.task.0 c.task.0 other) ∙ none));
      }

no_start : {C : Type 0} (t : AnyTicket) → None ≡ Some t → C
no_start t s = absurd (let v : ⊥ = cc in v)

pub started_are_new : StartedAreNew
started_are_new k k' q (Called ticket callee) t c hist h s e =
    let a = h.answers in
    is_new k k' q (Called ticket callee) hist h a.who c _ a.child a.entry.allowed a.entry.added
    (ticket_task (is_some (death_of (tree k k' q (Called ticket callee) hist h) a.to)) _ _ _ c t a.child (sym s ∙ a.callee_is) e refl refl) a.entry.allowed.asks.3
started_are_new k k' q (Spawned ticket child) t c hist h s e =
    let a = h.answers in
    is_new k k' q (Spawned ticket child) hist h a.who c _ a.child a.entry.allowed a.entry.added
    (ticket_task (is_some (death_of (tree k k' q (Spawned ticket child) hist h) a.to)) _ _ _ c t a.child (sym s ∙ a.started_is) e refl refl) a.entry.allowed.asks.1
started_are_new k k' q _ t c hist h s e = no_start t s
