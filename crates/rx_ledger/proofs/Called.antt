-- What a call leaves to its caller and to the other tasks.
use Rattle.std.proofs.Common.{◌≡◌, ◌≢◌, ℕ, ◌==◌, Bool, true, false, cond, List, [], ◌∷◌, ◌++◌, Some, None, refl, ap, ◌∙◌, sym, subst, append_assoc, append-nil, inl, inr}
use Rattle.std.proofs.lemmas.Bool.{eq-eqb, ne_eqb}
use Rattle.rx_rules.proofs.Common.{TaskId, Tree, opening, tree_of, Given, Folds, plan_of}
use Rattle.rx_rules.specs.declared.entries.Act.{Act}
use Rattle.rx_rules.specs.declared.entries.Entry.{Entry}
use Rattle.rx_rules.specs.declared.entries.Entry.TheVariants.{Step, Root, Death, Join}
use Rattle.rx_tree_laws.specs.Sound.{Each}
use Rattle.rx_runs.proofs.Append.{allowed-first, plan-first}
use Rattle.rx_history.specs.Setups.{given}
use Rattle.rx_history.specs.declared.setup.Setup.{Setup}
use Rattle.rx_finish.specs.declared.ledger.Caller.{Caller}
use Rattle.rx_finish.specs.Callers.{HasNumbers}
use Rattle.rx_ticket.specs.declared.tickets.AnyTicket.{AnyTicket}
use Rattle.rx_ticket.specs.declared.tickets.AnyTicket.TheVariants.{Moving, Running, Held, Host}
use Rattle.rx_ledger.specs.declared.asks.Request.{Request}
use Rattle.rx_ledger.specs.declared.asks.Reply.{Reply}
use Rattle.rx_ledger.specs.declared.asks.Reply.TheVariants.{Opened, Called, Spawned, Landed, Waits, Released, Ended, Printed, Census as Counted, RootDone, NotYet, Lost, NoMemory}
use Rattle.rx_kills.specs.declared.schedule.Due.{Due}
use Rattle.rx_kills.specs.declared.schedule.Due.TheVariants.{Join as Joins, Death as Dies}
use Rattle.rx_kills.specs.Least.{entry_of}
use Rattle.rx_ledger.specs.Told.{due_entries}
use Rattle.rx_ledger.specs.Asking.{MayApply}
use Rattle.rx_ledger.specs.Answering.{Answers, asker}
use Rattle.rx_ledger.specs.Kept.{KeeperView, is_refusal, Refused, Answered, Applied, AppliedIf, IsHistory}
use Rattle.rx_ledger.specs.GoingOn.{MayGoOn, MayBegin}
use Rattle.rx_ledger.specs.Owned.{Owned, own_after, own_from, own_told}
use Rattle.rx_ledger.specs.Staying.{NotBy, NotOf}
use Rattle.rx_ledger.specs.Calling.{tree_seen, CallsGoOn, Differ, CallsKeepOthers, owned_by, CallsOwn, CallsSpareScopes}
use Rattle.rx_ledger.proofs.Keepers.{asks_after}
use Rattle.rx_ledger.proofs.GoesOn.{tickets_go_on}
use Rattle.rx_ledger.proofs.Begins.{children_begin}
use Rattle.rx_ledger.proofs.StaysGood.{tickets_stay_good}

-- Fronts.

-- what begins a history is one
pub front_folds : (U : Given) (es fs : List Entry) → Folds U (es ++ fs) → Folds U es
front_folds U es fs h =
    record { some = h.some; few = h.few; allowed = allowed-first 0 (opening U.places) es fs h.allowed; plan = plan-first 0 (plan_of U) es fs h.plan }

-- What an answer appends.

-- an entry of the caller, one of the host, or none
data Adds (q : Request) (es es' : List Entry) : Type 0 where
  acts : (who : Caller) (act : Act) → asker q.ticket ≡ Some who → es' ≡ es ++ Step who.task act q.batch ∷ [] → Adds q es es'
  other : (fs : List Entry) → ((t : AnyTicket) → Each (NotOf t) fs) → es' ≡ es ++ fs → Adds q es es'

no_more : (q : Request) (es es' : List Entry) → es' ≡ es → Adds q es es'
no_more q es es' e = other [] (λ t. tt) (e ∙ sym (append-nil es))

root_spares : (t : AnyTicket) (e : Entry) → ((u : AnyTicket) → NotOf u e) → Each (NotOf t) (e ∷ [])
root_spares t e f = (f t, tt)

not_root : (es es' : List Entry) (q : Request) (e : Entry) → ((u : AnyTicket) → NotOf u e) → es' ≡ es ++ e ∷ [] → Adds q es es'
not_root es es' q e f h = other (e ∷ []) (λ t. root_spares t e f) h

spares_all : (e : Entry) → ((who : Caller) → NotOf (Moving who) e) → ((who : Caller) → NotOf (Running who) e) → ((who : Caller) → NotOf (Held who) e) → (t : AnyTicket) → NotOf t e
spares_all e a b c (Moving who) = a who
spares_all e a b c (Running who) = b who
spares_all e a b c (Held who) = c who
spares_all e a b c Host = tt

adds : (T : Tree) (es : List Entry) (q : Request) (r : Reply) (es' : List Entry) → Answers T es q r es' → Adds q es es'
adds T es q (Opened ticket scope) es' h = acts h.who _ (ap (λ (z : Request). asker z.ticket) h.asked) h.entry.added
adds T es q (Called ticket callee) es' h = acts h.who _ (ap (λ (z : Request). asker z.ticket) h.asked) h.entry.added
adds T es q (Spawned ticket child) es' h = acts h.who _ (ap (λ (z : Request). asker z.ticket) h.asked) h.entry.added
adds T es q (Landed ticket) es' h = acts h.who _ (ap (λ (z : Request). asker z.ticket) h.asked) h.entry.added
adds T es q (Waits ticket) es' h = acts h.who _ (ap (λ (z : Request). asker z.ticket) h.asked) h.entry.added
adds T es q (Released ticket outcome) es' h = acts h.who _ (ap (λ (z : Request). asker z.ticket) h.asked) h.entry.added
adds T es q Ended es' h = acts h.who _ (ap (λ (z : Request). asker z.ticket) h.asked) h.entry.added
adds T es q (Printed ticket) es' h = acts h.who _ (ap (λ (z : Request). asker z.ticket) h.asked) h.entry.added
adds T es q (Counted ticket places) es' h = acts h.who _ (ap (λ (z : Request). asker z.ticket) h.asked) h.entry.added
adds T es q RootDone es' h =
    elim h.1 [
      | inl s ↦ no_more q es es' s.1
      | inr s ↦ not_root es es' q (Root s.lost s.masked s.thrown) (spares_all (Root s.lost s.masked s.thrown) (λ who. tt) (λ who. tt) (λ who. tt)) s.added
    ]
adds T es q (NotYet place request) es' h = no_more q es es' h.2
adds T es q (Lost place at) es' h = no_more q es es' h.1
adds T es q (NoMemory request) es' h = no_more q es es' h.1

-- what follows the entries of before, and whom it spares
record More (q : Request) (es es' : List Entry) : Type 0 where
  more : List Entry
  added : es' ≡ es ++ more
  spares : (p : Request) → Differ p q → Each (NotOf p.ticket) more

spares_one : (p q : Request) (who : Caller) (act : Act) → Differ p q → asker q.ticket ≡ Some who → NotOf p.ticket (Step who.task act q.batch)
spares_one p q who act d e = of p.ticket refl where
  of : (t : AnyTicket) → p.ticket ≡ t → NotOf t (Step who.task act q.batch)
  of (Moving v) s = d v who (ap asker s) e
  of (Running v) s = d v who (ap asker s) e
  of (Held v) s = d v who (ap asker s) e
  of Host s = tt

more_of : (q : Request) (es es' : List Entry) → Adds q es es' → More q es es'
more_of q es es' (acts who act e h) = record { more = Step who.task act q.batch ∷ []; added = h; spares = λ p d. (spares_one p q who act d e, tt) }
more_of q es es' (other fs spare h) = record { more = fs; added = h; spares = λ p d. spare p.ticket }

spare_one : (t : AnyTicket) (d : Due) → NotOf t (entry_of d)
spare_one (Moving who) (Dies d) = tt
spare_one (Moving who) (Joins p) = tt
spare_one (Running who) (Dies d) = tt
spare_one (Running who) (Joins p) = tt
spare_one (Held who) (Dies d) = tt
spare_one (Held who) (Joins p) = tt
spare_one Host (Dies d) = tt
spare_one Host (Joins p) = tt

spare_due : (t : AnyTicket) (ds : List Due) (fs : List Entry) → Each (NotOf t) fs → Each (NotOf t) (due_entries ds ++ fs)
spare_due t [] fs h = h
spare_due t (d ∷ ds) fs h = (spare_one t d, spare_due t ds fs h)

-- The history after a call that answers.

folds_seen : (k k' : KeeperView) → IsHistory k' → k'.setup ≡ k.setup → k'.behind ≡ [] → Folds (given k.setup) k'.entries
folds_seen k k' h setup whole =
    subst (λ (s : Setup). Folds (given s) k'.entries) setup
    (subst (λ (es : List Entry). Folds (given k'.setup) es) (ap (λ (bs : List Entry). k'.entries ++ bs) whole ∙ append-nil k'.entries) h.folds)

seen_as : (k k' : KeeperView) → k'.setup ≡ k.setup → tree_of k.setup.places k'.entries ≡ tree_seen k'
seen_as k k' e = ap (λ (s : Setup). tree_of s.places k'.entries) (sym e)

by_refusal : (r : Reply) (k k' : KeeperView) (q : Request) (C : Type 0) → Applied k q r k' → (Refused k q r k' → C) → (Answered k q r k' → C) → C
by_refusal r k k' q C h f g =
    (elim (is_refusal r) as (λ b. AppliedIf b k q r k' → C) [
      | true ↦ f
      | false ↦ g
    ]) h

-- the history after the deaths and joins that were due
pub folds_between : (k k' : KeeperView) (q : Request) (r : Reply) → IsHistory k' → (a : Answered k q r k') → Folds (given k.setup) (k.entries ++ due_entries a.due)
folds_between k k' q r hist a =
    let es = k.entries ++ due_entries a.due in
    let m = more_of q es k'.entries (adds (tree_of k.setup.places es) es q r k'.entries a.answers) in
    front_folds (given k.setup) es m.more (subst (λ (fs : List Entry). Folds (given k.setup) fs) m.added (folds_seen k k' hist a.setup a.whole))

pub calls_go_on : CallsGoOn
calls_go_on k k' q r hist may h few =
    by_refusal r k k' q (MayGoOn (tree_seen k') r × MayBegin (tree_seen k') r) h
    (λ (f : Refused k q r k').
    let same : tree_seen k ≡ tree_seen k' = ap (λ (es : List Entry). tree_of k.setup.places es) (sym f.entries) ∙ seen_as k k' f.setup in
    subst (λ (z : Reply). MayGoOn (tree_seen k') z × MayBegin (tree_seen k') z) (sym f.back) (subst (λ (T : Tree). MayApply T q) same may, tt))
    (λ (a : Answered k q r k').
    let U = given k.setup in
    let es = k.entries ++ due_entries a.due in
    let folds = folds_between k k' q r hist a in
    let same = seen_as k k' a.setup in
    let now : HasNumbers (tree_of k.setup.places k'.entries) = subst HasNumbers (sym same) few in
    let asked = asks_after k.setup.places k.entries a.due q may in
    subst (λ (T : Tree). MayGoOn T r × MayBegin T r) same
    (tickets_go_on U es k'.entries q r folds asked a.answers now, children_begin U es k'.entries q r folds a.answers now))

pub calls_keep_others : CallsKeepOthers
calls_keep_others k k' p q r hist apart may h few =
    by_refusal r k k' q (MayApply (tree_seen k') p) h
    (λ (f : Refused k q r k').
    let same : tree_seen k ≡ tree_seen k' = ap (λ (es : List Entry). tree_of k.setup.places es) (sym f.entries) ∙ seen_as k k' f.setup in
    subst (λ (T : Tree). MayApply T p) same may)
    (λ (a : Answered k q r k').
    let U = given k.setup in
    let es = k.entries ++ due_entries a.due in
    let m = more_of q es k'.entries (adds (tree_of k.setup.places es) es q r k'.entries a.answers) in
    let whole : k'.entries ≡ k.entries ++ (due_entries a.due ++ m.more) = m.added ∙ append_assoc k.entries (due_entries a.due) m.more in
    let all : Folds U k'.entries = folds_seen k k' hist a.setup a.whole in
    let same = seen_as k k' a.setup in
    let now : HasNumbers (tree_of k.setup.places k'.entries) = subst HasNumbers (sym same) few in
    let there = tickets_stay_good U k.entries (due_entries a.due ++ m.more) p (subst (λ (fs : List Entry). Folds U fs) whole all)
    (spare_due p.ticket a.due m.more (m.spares p apart)) (subst (λ (fs : List Entry). HasNumbers (tree_of k.setup.places fs)) whole now) may in
    subst (λ (T : Tree). MayApply T p) same (subst (λ (fs : List Entry). MayApply (tree_of k.setup.places fs) p) (sym whole) there))

-- The scopes of the caller.

pub own_append : (t : TaskId) (own : Owned) (es fs : List Entry) → own_from t own (es ++ fs) ≡ own_from t (own_from t own es) fs
own_append t own [] fs = refl
own_append t own (Step u act batch ∷ es) fs = own_append t (cond (u.0 == t.0) (own_after act own) own) es fs
own_append t own (Root lost masked thrown ∷ es) fs = own_append t own es fs
own_append t own (Death d ∷ es) fs = own_append t own es fs
own_append t own (Join d ∷ es) fs = own_append t own es fs

pub own_due : (t : TaskId) (own : Owned) (ds : List Due) → own_from t own (due_entries ds) ≡ own
own_due t own [] = refl
own_due t own (Dies d ∷ ds) = own_due t own ds
own_due t own (Joins p ∷ ds) = own_due t own ds

own_next : (es es' : List Entry) (who v : Caller) (act : Act) (batch : List (List ℕ)) → Some v ≡ Some who → es' ≡ es ++ Step v.task act batch ∷ [] → own_told es' who.task ≡ own_after act (own_told es who.task)
own_next es es' who v act batch e added =
    let same : v ≡ who = cc in
    let mine : (v.task.0 == who.task.0) ≡ true = eq-eqb v.task.0 who.task.0 (ap (λ (w : Caller). w.task.0) same) in
    ap (λ (fs : List Entry). own_told fs who.task) added
    ∙ (own_append who.task [] es (Step v.task act batch ∷ [])
    ∙ ap (λ (b : Bool). cond b (own_after act (own_told es who.task)) (own_told es who.task)) mine)

own_same : (es es' : List Entry) (t : TaskId) → es' ≡ es → own_told es' t ≡ own_told es t
own_same es es' t e = ap (λ (fs : List Entry). own_told fs t) e

own_answer : (T : Tree) (es : List Entry) (q : Request) (r : Reply) (es' : List Entry) (who : Caller) → asker q.ticket ≡ Some who → Answers T es q r es' → own_told es' who.task ≡ owned_by r (own_told es who.task)
own_answer T es q (Opened ticket scope) es' who e h = own_next es es' who h.who _ q.batch (sym (ap (λ (z : Request). asker z.ticket) h.asked) ∙ e) h.entry.added
own_answer T es q (Called ticket callee) es' who e h =
    own_next es es' who h.who _ q.batch (sym (ap (λ (z : Request). asker z.ticket) h.asked) ∙ e) h.entry.added
    ∙ ap (λ (w : Caller). owned_by (Called w callee) (own_told es who.task)) (sym h.ticket_is)
own_answer T es q (Spawned ticket child) es' who e h = own_next es es' who h.who _ q.batch (sym (ap (λ (z : Request). asker z.ticket) h.asked) ∙ e) h.entry.added
own_answer T es q (Landed ticket) es' who e h = own_next es es' who h.who _ q.batch (sym (ap (λ (z : Request). asker z.ticket) h.asked) ∙ e) h.entry.added
own_answer T es q (Waits ticket) es' who e h = own_next es es' who h.who _ q.batch (sym (ap (λ (z : Request). asker z.ticket) h.asked) ∙ e) h.entry.added
own_answer T es q (Released ticket outcome) es' who e h = own_next es es' who h.who _ q.batch (sym (ap (λ (z : Request). asker z.ticket) h.asked) ∙ e) h.entry.added
own_answer T es q Ended es' who e h = own_next es es' who h.who _ q.batch (sym (ap (λ (z : Request). asker z.ticket) h.asked) ∙ e) h.entry.added
own_answer T es q (Printed ticket) es' who e h = own_next es es' who h.who _ q.batch (sym (ap (λ (z : Request). asker z.ticket) h.asked) ∙ e) h.entry.added
own_answer T es q (Counted ticket places) es' who e h = own_next es es' who h.who _ q.batch (sym (ap (λ (z : Request). asker z.ticket) h.asked) ∙ e) h.entry.added
own_answer T es q RootDone es' who e h =
    let none : None ≡ Some who = sym (ap (λ (z : Request). asker z.ticket) h.0) ∙ e in
    absurd (let v : ⊥ = cc in v)
own_answer T es q (NotYet place request) es' who e h = own_same es es' who.task h.2
own_answer T es q (Lost place at) es' who e h = own_same es es' who.task h.1
own_answer T es q (NoMemory request) es' who e h = own_same es es' who.task h.1

pub calls_own : CallsOwn
calls_own k k' q r who e h =
    by_refusal r k k' q (own_told k'.entries who.task ≡ owned_by r (own_told k.entries who.task)) h
    (λ (f : Refused k q r k').
    own_same k.entries k'.entries who.task f.entries ∙ ap (λ (z : Reply). owned_by z (own_told k.entries who.task)) (sym f.back))
    (λ (a : Answered k q r k').
    let es = k.entries ++ due_entries a.due in
    own_answer (tree_of k.setup.places es) es q r k'.entries who e a.answers
    ∙ ap (owned_by r) (own_append who.task [] k.entries (due_entries a.due) ∙ own_due who.task (own_told k.entries who.task) a.due))

-- The scopes of another task.

not_by : (t : AnyTicket) (who : Caller) (e : Entry) → asker t ≡ Some who → NotOf t e → NotBy who.task e
not_by (Moving v) who e s h =
    let both : Some v ≡ Some who = s in
    let it : v ≡ who = cc in
    subst (λ (w : Caller). NotBy w.task e) it h
not_by (Running v) who e s h =
    let both : Some v ≡ Some who = s in
    let it : v ≡ who = cc in
    subst (λ (w : Caller). NotBy w.task e) it h
not_by (Held v) who e s h =
    let both : Some v ≡ Some who = s in
    let it : v ≡ who = cc in
    subst (λ (w : Caller). NotBy w.task e) it h
not_by Host who e s h = absurd (let both : None ≡ Some who = s in let v : ⊥ = cc in v)

own_spared : (t : AnyTicket) (who : Caller) (own : Owned) (fs : List Entry) → asker t ≡ Some who → Each (NotOf t) fs → own_from who.task own fs ≡ own
own_spared t who own [] s h = refl
own_spared t who own (Step u act batch ∷ fs) s h =
    let other : who.task.0 ≢ u.0 = not_by t who (Step u act batch) s h.0 in
    ap (λ (b : Bool). own_from who.task (cond b (own_after act own) own) fs) (ne_eqb u.0 who.task.0 (λ e. other (sym e)))
    ∙ own_spared t who own fs s h.1
own_spared t who own (Root lost masked thrown ∷ fs) s h = own_spared t who own fs s h.1
own_spared t who own (Death d ∷ fs) s h = own_spared t who own fs s h.1
own_spared t who own (Join d ∷ fs) s h = own_spared t who own fs s h.1

pub calls_spare_scopes : CallsSpareScopes
calls_spare_scopes k k' p q r who apart s h =
    by_refusal r k k' q (own_told k'.entries who.task ≡ own_told k.entries who.task) h
    (λ (f : Refused k q r k'). own_same k.entries k'.entries who.task f.entries)
    (λ (a : Answered k q r k').
    let es = k.entries ++ due_entries a.due in
    let m = more_of q es k'.entries (adds (tree_of k.setup.places es) es q r k'.entries a.answers) in
    ap (λ (fs : List Entry). own_told fs who.task) m.added
    ∙ (own_append who.task [] es m.more
    ∙ (own_spared p.ticket who (own_told es who.task) m.more s (m.spares p apart)
    ∙ (own_append who.task [] k.entries (due_entries a.due) ∙ own_due who.task (own_told k.entries who.task) a.due))))
