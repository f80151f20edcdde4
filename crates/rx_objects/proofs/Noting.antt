-- The notes go on to have all events that entries name.
use Rattle.std.proofs.Common.{◌≡◌, ℕ, cond, ◌==◌, Bool, true, false, List, [], ◌∷◌, ◌++◌, map, Option, Some, None, Contains, refl, ap, sym, ◌∙◌, subst, append_assoc, inl, inr, ◌⊎◌}
use Rattle.std.proofs.lemmas.List.{append-nil}
use Rattle.std.proofs.lemmas.List.Elements.{All-push, Contains-append_left, Contains-push}
use Rattle.std.proofs.lemmas.Bool.{eqb-true}
use Rattle.rx_rules.proofs.Common.{PlaceId, Cells, Tree}
use Rattle.rx_rules.specs.declared.entries.Act.{Act}
use Rattle.rx_rules.specs.declared.entries.Entry.{Entry}
use Rattle.rx_rules.specs.declared.entries.Entry.TheVariants.{Step, Root}
use Rattle.rx_kills.specs.declared.schedule.Due.{Due}
use Rattle.rx_kills.specs.declared.schedule.Due.TheVariants.{Join as Joins, Death as Dies}
use Rattle.rx_finish.specs.declared.ledger.Caller.{Caller}
use Rattle.rx_ticket.specs.declared.tickets.AnyTicket.{AnyTicket}
use Rattle.atomic_table.specs.Seated.{TableId}
use Rattle.rx_book.specs.declared.passes.Note.{Note}
use Rattle.rx_book.specs.Passes.{note_view}
use Rattle.rx_ledger.specs.declared.asks.Request.{Request}
use Rattle.rx_ledger.specs.declared.asks.Reply.{Reply}
use Rattle.rx_ledger.specs.declared.asks.Reply.TheVariants.{Opened, Called, Spawned, Landed, Waits, Released, Ended, Printed, Census as Counted, RootDone, NotYet, Lost, NoMemory}
use Rattle.rx_ledger.specs.Told.{due_entries}
use Rattle.rx_ledger.specs.Answering.{Answers, asker}
use Rattle.rx_ledger.specs.Kept.{KeeperView, is_refusal, Applied, AppliedIf}
use Rattle.rx_parts.specs.declared.items.EntryItem.{EntryItem}
use Rattle.rx_parts.specs.declared.items.EventItem.{EventItem}
use Rattle.rx_parts.specs.Histories.{event_named, cells_in}
use Rattle.rx_objects.specs.declared.mentions.Mentions.{Mentions}
use Rattle.rx_objects.specs.Mentioned.{events_new, item_for}
use Rattle.rx_objects.specs.Noted.{Notes, cells_at, cells_named, IsNoted, AllNoted, IsOfPlace, AreOfPlaces, asked_place, with_note, NoteSuits}
use Rattle.rx_objects.proofs.Staying.{cancel}

pub named_append : (t : ℕ) (xs ys : List EntryItem) → cells_named t (xs ++ ys) ≡ cells_named t xs ++ cells_named t ys
named_append t [] ys = refl
named_append t (x ∷ xs) ys = ap (λ (l : Cells). cells_at t x.entry (map event_named x.events) ++ l) (named_append t xs ys) ∙ sym (append_assoc (cells_at t x.entry (map event_named x.events)) (cells_named t xs) (cells_named t ys))

abbrev no_cells : Cells
no_cells = []

nothing : (b : Bool) → cond b no_cells no_cells ≡ no_cells
nothing true = refl
nothing false = refl

at_nothing : (t : ℕ) (e : Entry) → cells_at t e [] ≡ []
at_nothing t (Step u act batch) = nothing (u.0 == t)
at_nothing t _ = refl

module _ (m : Mentions) where
  abbrev events : Cells
  events = map event_named (events_new m)

  abbrev items : List Entry → List EntryItem
  items es = map (item_for m) es

  -- without events nothing is named
  named_none : (t : ℕ) (es : List Entry) → events ≡ [] → cells_named t (items es) ≡ []
  named_none t [] h = refl
  named_none t (e ∷ es) h = (λ i. cells_at t e (h i) ++ named_none t es h i) ∙ ap (λ (l : Cells). l ++ []) (at_nothing t e)

  -- what is due names nothing
  named_due : (t : ℕ) (ds : List Due) (es : List Entry) → cells_named t (items (due_entries ds ++ es)) ≡ cells_named t (items es)
  named_due t [] es = refl
  named_due t (Joins p ∷ ds) es = named_due t ds es
  named_due t (Dies p ∷ ds) es = named_due t ds es

-- what an answer appends: an entry of the caller, the root's release, or nothing
data Adds (ticket : AnyTicket) : List Entry → Type 0 where
  acts : (who : Caller) (act : Act) (batch : List (List ℕ)) → asker ticket ≡ Some who → Adds ticket (Step who.task act batch ∷ [])
  hosts : (es : List Entry) → ((m : Mentions) (t : ℕ) → cells_named t (map (item_for m) es) ≡ []) → Adds ticket es

abbrev Added : AnyTicket → List Entry → List Entry → Type 0
Added ticket es es' = (new : List Entry) × (es' ≡ es ++ new) × Adds ticket new

none_added : (ticket : AnyTicket) (es es' : List Entry) → es' ≡ es → Added ticket es es'
none_added ticket es es' h = ([], h ∙ sym (append-nil es), hosts [] (λ m t. refl))

added : (T : Tree) (es : List Entry) (q : Request) (r : Reply) (es' : List Entry) → Answers T es q r es' → Added q.ticket es es'
added T es q (Opened ticket scope) es' h = (_, h.entry.added, acts h.who _ q.batch (ap (λ (z : Request). asker z.ticket) h.asked))
added T es q (Called ticket callee) es' h = (_, h.entry.added, acts h.who _ q.batch (ap (λ (z : Request). asker z.ticket) h.asked))
added T es q (Spawned ticket child) es' h = (_, h.entry.added, acts h.who _ q.batch (ap (λ (z : Request). asker z.ticket) h.asked))
added T es q (Landed ticket) es' h = (_, h.entry.added, acts h.who _ q.batch (ap (λ (z : Request). asker z.ticket) h.asked))
added T es q (Waits ticket) es' h = (_, h.entry.added, acts h.who _ q.batch (ap (λ (z : Request). asker z.ticket) h.asked))
added T es q (Released ticket outcome) es' h = (_, h.entry.added, acts h.who _ q.batch (ap (λ (z : Request). asker z.ticket) h.asked))
added T es q Ended es' h = (_, h.entry.added, acts h.who _ q.batch (ap (λ (z : Request). asker z.ticket) h.asked))
added T es q (Printed ticket) es' h = (_, h.entry.added, acts h.who _ q.batch (ap (λ (z : Request). asker z.ticket) h.asked))
added T es q (Counted ticket places) es' h = (_, h.entry.added, acts h.who _ q.batch (ap (λ (z : Request). asker z.ticket) h.asked))
added T es q RootDone es' h =
    elim h.1 [
      | inl s ↦ none_added q.ticket es es' s.1
      | inr s ↦ (Root s.lost s.masked s.thrown ∷ [], s.added, hosts (Root s.lost s.masked s.thrown ∷ []) (λ m t. refl))
    ]
added T es q (NotYet place request) es' h = none_added q.ticket es es' h.2
added T es q (Lost place at) es' h = none_added q.ticket es es' h.1
added T es q (NoMemory request) es' h = none_added q.ticket es es' h.1

module _ (places : List TableId) (notes : Notes) (before : List EntryItem) (ticket : AnyTicket) (m : Mentions) where
  -- the notes have all that is named after the entries es
  abbrev NotedAfter : Option (Note EventItem) → List Entry → Type 0
  NotedAfter o es = AllNoted (with_note notes (asked_place ticket) o) (before ++ items m es)

  more_notes : (o : Option (Note EventItem)) (n : PlaceId × Note EventItem) → Contains notes n → Contains (with_note notes (asked_place ticket) o) n
  more_notes None n h = h
  more_notes (Some x) n h = Contains-append_left notes ((asked_place ticket, x) ∷ []) n h

  -- a task that names no more is noted as before
  same_noted : (o : Option (Note EventItem)) (es : List Entry) (t : ℕ) → cells_named t (items m es) ≡ [] → IsNoted notes before t → IsNoted (with_note notes (asked_place ticket) o) (before ++ items m es) t
  same_noted o es t none was = of was
    where
      same : cells_named t (before ++ items m es) ≡ cells_named t before
      same = named_append t before (items m es) ∙ (ap (λ (l : Cells). cells_named t before ++ l) none ∙ append-nil (cells_named t before))

      of : IsNoted notes before t → IsNoted (with_note notes (asked_place ticket) o) (before ++ items m es) t
      of (inl h) = inl (same ∙ h)
      of (inr h) = inr (h.0, more_notes o h.0 h.1, h.2 ∙ sym same)

  own : (n : Note EventItem) (who : Caller) (act : Act) (batch : List (List ℕ)) (ds : List Due) (t : ℕ)
      → cells_in who.task.0 (note_view n).seen ≡ cells_named who.task.0 before ++ events m
      → (b : Bool) → (who.task.0 == t) ≡ b → who.task.0 ≡ t ⊎ (b ≡ false) → IsNoted notes before t
      → IsNoted (with_note notes (asked_place ticket) (Some n)) (before ++ items m (due_entries ds ++ Step who.task act batch ∷ [])) t
  own n who act batch ds t has true e (inl is) was =
      let one : cells_named t (items m (Step who.task act batch ∷ [])) ≡ events m = ap (λ (b : Bool). cond b (events m) [] ++ []) e ∙ append-nil (events m) in
      let all : cells_named t (before ++ items m (due_entries ds ++ Step who.task act batch ∷ [])) ≡ cells_named t before ++ events m =
      named_append t before (items m (due_entries ds ++ Step who.task act batch ∷ [])) ∙ ap (λ (l : Cells). cells_named t before ++ l) (named_due m t ds (Step who.task act batch ∷ []) ∙ one) in
      let seen : cells_in t (note_view n).seen ≡ cells_named t before ++ events m = subst (λ (u : ℕ). cells_in u (note_view n).seen ≡ cells_named u before ++ events m) is has in
      inr ((asked_place ticket, n), Contains-push notes (asked_place ticket, n), seen ∙ sym all)
  own n who act batch ds t has true e (inr f) was = absurd (let g : ⊥ = cc f in g)
  own n who act batch ds t has false e d was =
      same_noted (Some n) (due_entries ds ++ Step who.task act batch ∷ []) t (named_due m t ds (Step who.task act batch ∷ []) ∙ ap (λ (b : Bool). cond b (events m) [] ++ []) e) was

  noted_all : (o : Option (Note EventItem)) (ds : List Due) (new : List Entry) → Adds ticket new → NoteSuits places before ticket (events m) o → AllNoted notes before → NotedAfter o (due_entries ds ++ new)
  noted_all None ds new adds none was t = same_noted None (due_entries ds ++ new) t (named_none m t (due_entries ds ++ new) none) (was t)
  noted_all (Some n) ds new (hosts es silent) suits was t = same_noted (Some n) (due_entries ds ++ es) t (named_due m t ds es ∙ silent m t) (was t)
  noted_all (Some n) ds new (acts who act batch asks) suits was t = own n who act batch ds t (suits.1 who asks) (who.task.0 == t) refl (tells (who.task.0 == t) refl) (was t)
    where
      tells : (b : Bool) → (who.task.0 == t) ≡ b → who.task.0 ≡ t ⊎ ((who.task.0 == t) ≡ false)
      tells true e = inl (eqb-true who.task.0 t e)
      tells false e = inr e

-- what is kept after a call: the note of the operation among the notes
pub noted_after : (places : List TableId) (notes : Notes) (before : List EntryItem) (m : Mentions) (o : Option (Note EventItem)) (k : KeeperView) (q : Request) (r : Reply) (k' : KeeperView) (new : List Entry)
    → Applied k q r k' → k'.entries ≡ k.entries ++ new → NoteSuits places before q.ticket (map event_named (events_new m)) o → AllNoted notes before
    → AllNoted (with_note notes (asked_place q.ticket) o) (before ++ map (item_for m) new)
noted_after places notes before m o k q r k' new applied grew suits was = by (is_refusal r) applied
  where
    to : (es : List Entry) → es ≡ new → AllNoted (with_note notes (asked_place q.ticket) o) (before ++ map (item_for m) es) → AllNoted (with_note notes (asked_place q.ticket) o) (before ++ map (item_for m) new)
    to es e h = subst (λ (l : List Entry). AllNoted (with_note notes (asked_place q.ticket) o) (before ++ map (item_for m) l)) e h

    by : (b : Bool) → AppliedIf b k q r k' → AllNoted (with_note notes (asked_place q.ticket) o) (before ++ map (item_for m) new)
    by true a =
        let none : new ≡ [] = cancel k.entries new [] (sym grew ∙ (a.entries ∙ sym (append-nil k.entries))) in
        to [] (sym none) (noted_all places notes before q.ticket m o [] [] (hosts [] (λ m t. refl)) suits was)
    by false a =
        let g = added _ (k.entries ++ due_entries a.due) q r k'.entries a.answers in
        let same : due_entries a.due ++ g.0 ≡ new = cancel k.entries (due_entries a.due ++ g.0) new (sym (append_assoc k.entries (due_entries a.due) g.0) ∙ (sym g.1 ∙ grew)) in
        to (due_entries a.due ++ g.0) same (noted_all places notes before q.ticket m o a.due g.0 g.2 suits was)

pub places_after : (places : List TableId) (notes : Notes) (before : List EntryItem) (ticket : AnyTicket) (ev : Cells) (o : Option (Note EventItem)) → NoteSuits places before ticket ev o → AreOfPlaces places notes → AreOfPlaces places (with_note notes (asked_place ticket) o)
places_after places notes before ticket ev None suits h = h
places_after places notes before ticket ev (Some n) suits h = All-push (IsOfPlace places) notes (asked_place ticket, n) h suits.0
