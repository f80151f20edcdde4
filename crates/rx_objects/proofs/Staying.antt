-- What the keeper appends keeps a history legal.
use Rattle.std.proofs.Common.{◌≡◌, ℕ, suc, Bool, true, false, List, [], ◌∷◌, ◌++◌, map, length, Some, refl, ap, sym, ◌∙◌, subst, append_assoc, inl, inr}
use Rattle.std.proofs.lemmas.List.{append-nil, map-append}
use Rattle.std.proofs.lemmas.Option.{same_Some}
use Rattle.rx_rules.proofs.Common.{PlaceId, Block, place_number, Term, Does, Cells, Given, Folds, Tree}
use Rattle.rx_rules.specs.declared.tasks.Where.TheVariants.{At as Stays}
use Rattle.rx_rules.specs.declared.entries.Act.{Act}
use Rattle.rx_rules.specs.declared.entries.Act.TheVariants.{Open, At as ActCall, Spawn, Arrive, Wait, Release, End, Print, Census}
use Rattle.rx_rules.specs.declared.entries.Entry.{Entry}
use Rattle.rx_rules.specs.declared.entries.Entry.TheVariants.{Step, Root}
use Rattle.rx_rules.specs.Plays.{Fits}
use Rattle.rx_history.specs.Setups.{given}
use Rattle.rx_finish.specs.declared.ledger.Caller.{Caller}
use Rattle.rx_finish.specs.Calls.{landing}
use Rattle.rx_kills.specs.declared.schedule.Due.{Due}
use Rattle.rx_kills.specs.declared.schedule.Due.TheVariants.{Join as Joins, Death as Dies}
use Rattle.rx_book.specs.declared.views.Stamped.{Stamped}
use Rattle.rx_book.specs.History.{items_of, stamp_all}
use Rattle.rx_book.specs.Passes.{view_of}
use Rattle.rx_ledger.specs.declared.asks.Request.{Request}
use Rattle.rx_ledger.specs.declared.asks.Reply.{Reply}
use Rattle.rx_ledger.specs.declared.asks.Reply.TheVariants.{Opened, Called, Spawned, Landed, Waits as Waited, Released, Ended, Printed, Census as Counted, RootDone, NotYet, Lost, NoMemory}
use Rattle.rx_ledger.specs.Told.{due_entries}
use Rattle.rx_ledger.specs.Answering.{Answers}
use Rattle.rx_ledger.specs.Kept.{KeeperView, is_refusal, AppliedIf}
use Rattle.rx_parts.specs.Ledger.{LedgerItem, Actor, RootIsLast, LegalLedger, entries_of}
use Rattle.rx_parts.specs.Growing.{MayRequest}
use Rattle.rx_parts.specs.Calling.{AllHostItems, Grants}
use Rattle.rx_parts.proofs.Growing.{call-step, host-step, arrival-step}
use Rattle.rx_parts.specs.declared.items.EntryItem.{EntryItem}
use Rattle.rx_parts.specs.Histories.{event_named, ledger_item, ledger_items}
use Rattle.rx_objects.specs.declared.mentions.Mentions.{Mentions}
use Rattle.rx_objects.specs.declared.ledger.LedgerOp.{LedgerOp}
use Rattle.rx_objects.specs.declared.ledger.LedgerReply.{LedgerReply}
use Rattle.rx_objects.specs.declared.ledger.LedgerFixed.{LedgerFixed}
use Rattle.rx_objects.specs.Mentioned.{events_new, item_for, entries_in}
use Rattle.rx_objects.specs.Asking.{Requests, CallerTravels, RequestIsMade, HostAsks}
use Rattle.rx_objects.specs.Ledger.{IsHosts, HostReleases, LedgerIsLegal, LedgerFits, LedgerDoes}

-- Items.

-- an entry of the caller that the operation brings about
abbrev pub item_by : List ℕ → Mentions → Entry → LedgerItem
item_by c m e =
    record { by = c; entry = e; events = map event_named (events_new m); holder = (view_of m.child.value).number; seat = (view_of m.seat.value).number }

pub items_stamped : (c : List ℕ) (m : Mentions) (es : List Entry) → ledger_items (stamp_all c (map (item_for m) es)) ≡ map (item_by c m) es
items_stamped c m [] = refl
items_stamped c m (e ∷ es) = ap (λ (l : List LedgerItem). item_by c m e ∷ l) (items_stamped c m es)

entries_by_items : (c : List ℕ) (m : Mentions) (es : List Entry) → entries_of (map (item_by c m) es) ≡ es
entries_by_items c m [] = refl
entries_by_items c m (e ∷ es) = ap (λ (l : List Entry). e ∷ l) (entries_by_items c m es)

pub entries_same : (log : List (Stamped EntryItem)) → entries_of (ledger_items log) ≡ entries_in (items_of log)
entries_same [] = refl
entries_same (x ∷ log) = ap (λ (l : List Entry). x.item.entry ∷ l) (entries_same log)

pub items_length : (log : List (Stamped EntryItem)) → length log ≡ length (ledger_items log)
items_length [] = refl
items_length (x ∷ log) = ap suc (items_length log)

host_item : (c : List ℕ) (m : Mentions) (d : Due) (rest : List LedgerItem) → AllHostItems rest → AllHostItems (map (item_by c m) (due_entries (d ∷ [])) ++ rest)
host_item c m (Joins p) rest h = (tt, h)
host_item c m (Dies p) rest h = (tt, h)

pub all_hosts : (c : List ℕ) (m : Mentions) (ds : List Due) → AllHostItems (map (item_by c m) (due_entries ds))
all_hosts c m [] = tt
all_hosts c m (d ∷ ds) = host_item c m d (map (item_by c m) (due_entries ds)) (all_hosts c m ds)

both_hosts : (xs ys : List LedgerItem) → AllHostItems xs → AllHostItems ys → AllHostItems (xs ++ ys)
both_hosts [] ys h k = k
both_hosts (x ∷ xs) ys h k = (h.0, both_hosts xs ys h.1 k)

pub cancel : {X : Type 0} (xs ys zs : List X) → xs ++ ys ≡ xs ++ zs → ys ≡ zs
cancel [] ys zs h = h
cancel (x ∷ xs) ys zs h = let e : xs ++ ys ≡ xs ++ zs = cc h in cancel xs ys zs e

-- what a caller with this ticket asks
record Asked (actors : List Actor) (n : ℕ) (c : List ℕ) (ev : Cells) (batch : List (List ℕ)) (who : Caller) (suits : Term → Does → Type 0) : Type 0 where
  pub does : Does
  pub may : MayRequest actors n c who.task ev batch does
  pub place : who.place ≡ Stays may.actor.birth.to
  pub suited : suits may.stand.term does

asked_of : (actors : List Actor) (n : ℕ) (c : List ℕ) (ev : Cells) (batch : List (List ℕ)) (who : Caller) (suits : Term → Does → Type 0)
    → Requests actors n c ev batch (Some who) suits → Asked actors n c ev batch who suits
asked_of actors n c ev batch who suits r =
    subst (λ (w : Caller). Asked actors n c ev batch w suits) (sym (same_Some who r.who r.asks)) (record { does = r.does; may = r.may; place = r.place; suited = r.suited })

module _ (code : Block) (U : Given) (h : List LedgerItem) (legal : LegalLedger code U h) (c : List ℕ) (m : Mentions) (ds : List Due) where
  abbrev events : Cells
  events = map event_named (events_new m)

  abbrev due : List LedgerItem
  due = map (item_by c m) (due_entries ds)

  abbrev Keeps : List Entry → Type 0
  Keeps tail =
      Folds U (entries_of (h ++ (due ++ map (item_by c m) tail))) → RootIsLast (entries_of (h ++ (due ++ map (item_by c m) tail)))
      → LegalLedger code U (h ++ (due ++ map (item_by c m) tail))

  abbrev Gives : List Entry → List Entry → Type 0
  Gives es es' = (tail : List Entry) × (es' ≡ es ++ tail) × Keeps tail

  abbrev IsMade : Request → Type 0
  IsMade q = RequestIsMade legal.actors (length h) c events q

  call : (who : Caller) (act : Act) (batch : List (List ℕ)) (d : Does) → (may : MayRequest legal.actors (length h) c who.task events batch d) → Grants may.actor.birth.to may.stand.term d act → Keeps (Step who.task act batch ∷ [])
  call who act batch d may grants folds last =
      call-step code U h due (item_by c m (Step who.task act batch)) who.task act batch d legal (all_hosts c m ds) folds last refl may grants

  none : (es es' : List Entry) → es' ≡ es → Gives es es'
  none es es' e =
      ([], e ∙ sym (append-nil es), (λ folds last. host-step code U h (due ++ []) legal (both_hosts due [] (all_hosts c m ds) tt) folds last))

  -- one granted act
  one : (q : Request) (who : Caller) (act : Act) (es es' : List Entry) (suits : Term → Does → Type 0) → es' ≡ es ++ Step who.task act q.batch ∷ []
      → Asked legal.actors (length h) c events q.batch who suits
      → ((here : PlaceId) (t : Term) (d : Does) → who.place ≡ Stays here → suits t d → Grants here t d act) → Gives es es'
  one q who act es es' suits added a grants = (Step who.task act q.batch ∷ [], added, call who act q.batch a.does a.may (grants a.may.actor.birth.to a.may.stand.term a.does a.place a.suited))

  answer_stays : (T : Tree) (es : List Entry) (q : Request) (r : Reply) (es' : List Entry) → IsMade q → Answers T es q r es' → Gives es es'
  answer_stays T es q (Opened ticket scope) es' f a =
      one q a.who (Open scope a.who.inner a.path) es es' _ a.entry.added (asked_of _ _ _ _ _ a.who _ (subst IsMade a.asked f))
      (λ here t d place s. inl (subst (λ (e : Does). Fits here t e (Open scope a.who.inner a.path)) (sym s.0) s.1))
  answer_stays T es q (Called ticket callee) es' f a =
      let act = ActCall (place_number a.who.place) a.to a.scope a.who.inner a.child a.path in
      one q a.who act es es' _ a.entry.added (asked_of _ _ _ _ _ a.who _ (subst IsMade a.asked f))
      (λ here t d place s. inl (subst (λ (e : Does). Fits here t e act) (sym s.0) (refl, ap place_number place, s.1)))
  answer_stays T es q (Spawned ticket child) es' f a =
      let act = Spawn a.child a.scope (place_number a.who.place) a.to a.path in
      one q a.who act es es' _ a.entry.added (asked_of _ _ _ _ _ a.who _ (subst IsMade a.asked f))
      (λ here t d place s. inl (subst (λ (e : Does). Fits here t e act) (sym s.0) (refl, ap place_number place, s.1)))
  answer_stays T es q (Landed ticket) es' f a =
      let k : CallerTravels legal.actors c events q.batch (Some a.who) = subst IsMade a.asked f in
      let who : a.who ≡ k.who = same_Some a.who k.who k.asks in (
        Step a.who.task (Arrive (landing a.who.place)) q.batch ∷ [],
        a.entry.added,
        (λ folds last.
            arrival-step code U h due (item_by c m (Step a.who.task (Arrive (landing a.who.place)) q.batch)) k.who.task (landing a.who.place) k.actor legal (all_hosts c m ds) folds last
            (λ i. Step (who i).task (Arrive (landing a.who.place)) (k.no_batch i)) k.stands k.held k.away k.no_events),
      )
  answer_stays T es q (Waited ticket) es' f a =
      let act = Wait a.who.inner a.thrown in
      one q a.who act es es' _ a.entry.added (asked_of _ _ _ _ _ a.who _ (subst IsMade a.asked f))
      (λ here t d place s. inl (subst (λ (e : Does). Fits here t e act) (sym s) refl))
  answer_stays T es q (Released ticket outcome) es' f a =
      let act = Release a.who.inner outcome.lost outcome.masked outcome.thrown in
      one q a.who act es es' _ a.entry.added (asked_of _ _ _ _ _ a.who _ (subst IsMade a.asked f))
      (λ here t d place s. inl (subst (λ (e : Does). Fits here t e act) (sym s) tt))
  answer_stays T es q Ended es' f a =
      one q a.who (End a.thrown) es es' _ a.entry.added (asked_of _ _ _ _ _ a.who _ (subst IsMade a.asked f))
      (λ here t d place s. inr (a.thrown, s, refl))
  answer_stays T es q (Printed ticket) es' f a =
      let act = Print a.value a.path in
      one q a.who act es es' _ a.entry.added (asked_of _ _ _ _ _ a.who _ (subst IsMade a.asked f))
      (λ here t d place s. inl (subst (λ (e : Does). Fits here t e act) (sym s.0) (refl, s.1)))
  answer_stays T es q (Counted ticket places) es' f a =
      let act = Census places a.path in
      one q a.who act es es' _ a.entry.added (asked_of _ _ _ _ _ a.who _ (subst IsMade a.asked f))
      (λ here t d place s. inl (subst (λ (e : Does). Fits here t e act) (sym s.1) s.2))
  answer_stays T es q RootDone es' f a =
      elim a.1 [
        | inl s ↦ none es es' s.1
        | inr s ↦ (
          Root s.lost s.masked s.thrown ∷ [],
          s.added,
          (λ folds last. host-step code U h (due ++ item_by c m (Root s.lost s.masked s.thrown) ∷ []) legal (both_hosts due (item_by c m (Root s.lost s.masked s.thrown) ∷ []) (all_hosts c m ds) (tt, tt)) folds last),
        )
      ]
  answer_stays T es q (NotYet place request) es' f a = none es es' a.2
  answer_stays T es q (Lost place at) es' f a = none es es' a.1
  answer_stays T es q (NoMemory request) es' f a = none es es' a.1

module _ (f : LedgerFixed) (log : List (Stamped EntryItem)) (caller : List ℕ) (op : LedgerOp) (r : LedgerReply) (added : List EntryItem) (code : Block) (legal : LegalLedger code (given f.setup) (ledger_items log))
    (made : RequestIsMade legal.actors (length log) caller (map event_named (events_new op.mentions)) op.request) (does : LedgerDoes f (items_of log) op r added) where
  abbrev items : List LedgerItem
  items = ledger_items log

  abbrev lines : List Entry
  lines = entries_in (items_of log)

  abbrev by_op : Entry → LedgerItem
  by_op = item_by caller op.mentions

  all : ledger_items (log ++ stamp_all caller added) ≡ items ++ map by_op does.new
  all = map-append ledger_item log (stamp_all caller added) ∙ (ap (λ (l : List EntryItem). items ++ ledger_items (stamp_all caller l)) does.items ∙ ap (λ (l : List LedgerItem). items ++ l) (items_stamped caller op.mentions does.new))

  whole : entries_of (items ++ map by_op does.new) ≡ lines ++ does.new
  whole = map-append (λ (i : LedgerItem). i.entry) items (map by_op does.new) ∙ (λ i. entries_same log i ++ entries_by_items caller op.mentions does.new i)

  by : (b : Bool) → is_refusal r.reply ≡ b → AppliedIf b (record { setup = f.setup; entries = lines; behind = does.behind }) op.request r.reply (record { setup = f.setup; entries = lines ++ does.new; behind = does.behind' }) → LegalLedger code (given f.setup) (ledger_items (log ++ stamp_all caller added))
  by true is a =
      let nothing : does.new ≡ [] = cancel lines does.new [] (a.entries ∙ sym (append-nil lines)) in
      subst (LegalLedger code (given f.setup)) (sym (all ∙ (ap (λ (l : List Entry). items ++ map by_op l) nothing ∙ append-nil items))) legal
  by false is a =
      let made' = subst (λ n. RequestIsMade legal.actors n caller (map event_named (events_new op.mentions)) op.request) (items_length log) made in
      let g = answer_stays code (given f.setup) items legal caller op.mentions a.due _ (lines ++ due_entries a.due) op.request r.reply (lines ++ does.new) made' a.answers in
      let new : does.new ≡ due_entries a.due ++ g.0 = cancel lines does.new (due_entries a.due ++ g.0) (g.1 ∙ append_assoc lines (due_entries a.due) g.0) in
      let more : map by_op does.new ≡ map by_op (due_entries a.due) ++ map by_op g.0 = ap (map by_op) new ∙ map-append by_op (due_entries a.due) g.0 in
      let end : items ++ map by_op does.new ≡ items ++ (map by_op (due_entries a.due) ++ map by_op g.0) = ap (λ (l : List LedgerItem). items ++ l) more in
      subst (LegalLedger code (given f.setup)) (sym (all ∙ end))
      (g.2 (subst (Folds (given f.setup)) (sym whole ∙ ap entries_of end) (does.folds is)) (subst RootIsLast (sym whole ∙ ap entries_of end) (does.last is)))

-- The root's release is the host's.

-- an entry of the caller c is the root's release only where c is the host
abbrev pub Releases : List ℕ → List Entry → Type 0
Releases c [] = Unit {0}
Releases c (e ∷ es) = IsHosts c e × Releases c es

releases_both : (c : List ℕ) (xs ys : List Entry) → Releases c xs → Releases c ys → Releases c (xs ++ ys)
releases_both c [] ys h k = k
releases_both c (x ∷ xs) ys h k = (h.0, releases_both c xs ys h.1 k)

releases_due : (c : List ℕ) (ds : List Due) → Releases c (due_entries ds)
releases_due c [] = tt
releases_due c (Joins p ∷ ds) = (tt, releases_due c ds)
releases_due c (Dies p ∷ ds) = (tt, releases_due c ds)

abbrev Ends : List ℕ → List Entry → List Entry → Type 0
Ends c es es' = (tail : List Entry) × (es' ≡ es ++ tail) × Releases c tail

no_end : (c : List ℕ) (es es' : List Entry) → es' ≡ es → Ends c es es'
no_end c es es' h = ([], h ∙ sym (append-nil es), tt)

ends : (c : List ℕ) (T : Tree) (es : List Entry) (q : Request) (r : Reply) (es' : List Entry) → HostAsks c q.ask → Answers T es q r es' → Ends c es es'
ends c T es q (Opened ticket scope) es' h a = (_, a.entry.added, (tt, tt))
ends c T es q (Called ticket callee) es' h a = (_, a.entry.added, (tt, tt))
ends c T es q (Spawned ticket child) es' h a = (_, a.entry.added, (tt, tt))
ends c T es q (Landed ticket) es' h a = (_, a.entry.added, (tt, tt))
ends c T es q (Waited ticket) es' h a = (_, a.entry.added, (tt, tt))
ends c T es q (Released ticket outcome) es' h a = (_, a.entry.added, (tt, tt))
ends c T es q Ended es' h a = (_, a.entry.added, (tt, tt))
ends c T es q (Printed ticket) es' h a = (_, a.entry.added, (tt, tt))
ends c T es q (Counted ticket places) es' h a = (_, a.entry.added, (tt, tt))
ends c T es q RootDone es' h a =
    elim a.1 [
      | inl s ↦ no_end c es es' s.1
      | inr s ↦ (_, s.added, (subst (λ (x : Request). HostAsks c x.ask) a.0 h, tt))
    ]
ends c T es q (NotYet place request) es' h a = no_end c es es' a.2
ends c T es q (Lost place at) es' h a = no_end c es es' a.1
ends c T es q (NoMemory request) es' h a = no_end c es es' a.1

new_releases : (c : List ℕ) (k k' : KeeperView) (q : Request) (r : Reply) (new : List Entry) → k'.entries ≡ k.entries ++ new → HostAsks c q.ask → (b : Bool) → AppliedIf b k q r k' → Releases c new
new_releases c k k' q r new is h true a =
    subst (Releases c) (cancel k.entries [] new (append-nil k.entries ∙ (sym a.entries ∙ is))) tt
new_releases c k k' q r new is h false a =
    let e = ends c _ (k.entries ++ due_entries a.due) q r k'.entries h a.answers in
    subst (Releases c) (cancel k.entries (due_entries a.due ++ e.0) new (sym (append_assoc k.entries (due_entries a.due) e.0) ∙ (sym e.1 ∙ is)))
    (releases_both c (due_entries a.due) e.0 (releases_due c a.due) e.2)

host_both : (xs ys : List (Stamped EntryItem)) → HostReleases xs → HostReleases ys → HostReleases (xs ++ ys)
host_both [] ys h k = k
host_both (x ∷ xs) ys h k = (h.0, host_both xs ys h.1 k)

host_stamped : (c : List ℕ) (m : Mentions) (es : List Entry) → Releases c es → HostReleases (stamp_all c (map (item_for m) es))
host_stamped c m [] h = tt
host_stamped c m (e ∷ es) h = (h.0, host_stamped c m es h.1)

pub ledger_stays : (f : LedgerFixed) (log : List (Stamped EntryItem)) (caller : List ℕ) (op : LedgerOp) (r : LedgerReply) (added : List EntryItem)
    → LedgerIsLegal f log → LedgerFits f log caller op → LedgerDoes f (items_of log) op r added → LedgerIsLegal f (log ++ stamp_all caller added)
ledger_stays f log caller op r added legal fits does =
    record {
      made = λ code stands. by f log caller op r added code (legal.made code stands) (fits.asks code stands (legal.made code stands)) does (is_refusal r.reply) refl does.applied;
      host = host_both log (stamp_all caller added) legal.host
          (subst (λ (l : List EntryItem). HostReleases (stamp_all caller l)) (sym does.items)
          (host_stamped caller op.mentions does.new (new_releases caller _ _ op.request r.reply does.new refl fits.host (is_refusal r.reply) does.applied)));
    }
