-- What the host is told with the root's release.
use Rattle.std.proofs.Common.{◌≡◌, ℕ, Bool, true, false, List, [], ◌∷◌, ◌++◌, if◌then◌else◌, Option, refl, ap, sym, ◌∙◌, subst, append_assoc, inl, inr}
use Rattle.std.proofs.lemmas.List.{append-nil, map-append}
use Rattle.rx_rules.specs.declared.entries.Entry.{Entry}
use Rattle.rx_rules.specs.declared.entries.Entry.TheVariants.{Step, Root, Death, Join}
use Rattle.rx_rules.proofs.Common.{NoRoot, EndsWithRoot, Tree}
use Rattle.rx_kills.specs.declared.schedule.Due.{Due}
use Rattle.rx_kills.specs.declared.schedule.Due.TheVariants.{Join as Joins, Death as Dies}
use Rattle.rx_book.specs.declared.views.Stamped.{Stamped}
use Rattle.rx_book.specs.declared.views.View.{View}
use Rattle.rx_book.specs.Numbers.{is_same}
use Rattle.rx_book.specs.History.{items_of, stamp_all, entries_by}
use Rattle.rx_book.specs.Calls.{Called}
use Rattle.rx_ledger.specs.declared.asks.Request.{Request}
use Rattle.rx_ledger.specs.declared.asks.Reply.{Reply}
use Rattle.rx_ledger.specs.declared.asks.Reply.TheVariants.{Opened, Called as CalledOut, Spawned, Landed, Waits, Released, Ended, Printed, Census as Counted, RootDone, NotYet, Lost, NoMemory}
use Rattle.rx_ledger.specs.Told.{due_entries}
use Rattle.rx_ledger.specs.Answering.{Answers}
use Rattle.rx_ledger.specs.Kept.{KeeperView, is_refusal, Applied, AppliedIf, Answered}
use Rattle.rx_parts.specs.Ledger.{RootIsLast}
use Rattle.rx_parts.specs.declared.items.EntryItem.{EntryItem}
use Rattle.rx_objects.specs.declared.ledger.LedgerOp.{LedgerOp}
use Rattle.rx_objects.specs.declared.ledger.LedgerReply.{LedgerReply}
use Rattle.rx_objects.specs.declared.ledger.LedgerFixed.{LedgerFixed}
use Rattle.rx_objects.specs.Mentioned.{entries_in}
use Rattle.rx_objects.specs.Asking.{host_number}
use Rattle.rx_objects.specs.Ledger.{IsHosts, HostReleases, LedgerIsLegal, LedgerDoes, HandsOut, frees, is_root_done}
use Rattle.rx_objects.specs.Ending.{entries_at, HostKnows, RootIsTold, HostIsTold}
use Rattle.rx_objects.proofs.Fitting.{items_append}
use Rattle.rx_objects.proofs.Staying.{cancel}
use Rattle.rx_objects.proofs.Leaving.{entries_mapped}

-- Histories without the root's release.

no_root_rest : (e : Entry) (es : List Entry) → NoRoot (e ∷ es) → NoRoot es
no_root_rest (Root lost masked thrown) es h = absurd h
no_root_rest _ es h = h

no_root_both : (es fs : List Entry) → NoRoot es → NoRoot fs → NoRoot (es ++ fs)
no_root_both [] fs h k = k
no_root_both (Step t act batch ∷ es) fs h k = no_root_both es fs h k
no_root_both (Root lost masked thrown ∷ es) fs h k = h
no_root_both (Death d ∷ es) fs h k = no_root_both es fs h k
no_root_both (Join d ∷ es) fs h k = no_root_both es fs h k

no_root_due : (ds : List Due) → NoRoot (due_entries ds)
no_root_due [] = tt
no_root_due (Joins p ∷ ds) = no_root_due ds
no_root_due (Dies p ∷ ds) = no_root_due ds

no_root_if : (b : Bool) (x : Stamped EntryItem) (l : List (Stamped EntryItem)) → NoRoot (entries_at (if b then x ∷ l else l)) → NoRoot (entries_at l)
no_root_if true x l h = no_root_rest x.item.entry (entries_at l) h
no_root_if false x l h = h

-- where the root's release is last, and is the host's, it stands among the host's entries
by_entry : (x : Stamped EntryItem) (log : List (Stamped EntryItem)) → NoRoot (entries_at (entries_by host_number (x ∷ log))) → (EndsWithRoot (entries_at log) → ⊥)
    → (y : Entry) → x.item.entry ≡ y → EndsWithRoot (y ∷ entries_at log) → IsHosts x.by y → ⊥
by_entry x log n rest (Root lost masked thrown) is e own =
    let mine : is_same x.by host_number ≡ true = ap (λ (c : List ℕ). is_same c host_number) own in
    let there : NoRoot (x.item.entry ∷ entries_at (entries_by host_number log)) =
    subst (λ (b : Bool). NoRoot (entries_at (if b then x ∷ entries_by host_number log else entries_by host_number log))) mine n in
    subst (λ (y : Entry). NoRoot (y ∷ entries_at (entries_by host_number log))) is there
by_entry x log n rest _ is e own = rest e

by_host : (log : List (Stamped EntryItem)) → EndsWithRoot (entries_at log) → HostReleases log → NoRoot (entries_at (entries_by host_number log)) → ⊥
by_host [] e h n = e
by_host (x ∷ log) e h n =
    by_entry x log n (λ f. by_host log f h.1 (no_root_if (is_same x.by host_number) x (entries_by host_number log) n)) x.item.entry refl e h.0

-- What an answer appends.

-- one that is last ends the history
root_ends : (es : List Entry) (x : Entry) → EndsWithRoot (x ∷ []) → RootIsLast (es ++ x ∷ []) → EndsWithRoot (es ++ x ∷ [])
root_ends [] x e h = e
root_ends (Step t act batch ∷ es) x e h = root_ends es x e h
root_ends (Root lost masked thrown ∷ es) x e h = h
root_ends (Death d ∷ es) x e h = root_ends es x e h
root_ends (Join d ∷ es) x e h = root_ends es x e h

abbrev Goes : List Entry → List Entry → Type 0
Goes es es' = (tail : List Entry) × (es' ≡ es ++ tail) × NoRoot tail

nothing : (es es' : List Entry) → es' ≡ es → Goes es es'
nothing es es' h = ([], h ∙ sym (append-nil es), tt)

-- another answer than the root's release appends none
goes : (T : Tree) (es : List Entry) (q : Request) (r : Reply) (es' : List Entry) → is_root_done r ≡ false → Answers T es q r es' → Goes es es'
goes T es q (Opened ticket scope) es' n a = (_, a.entry.added, tt)
goes T es q (CalledOut ticket callee) es' n a = (_, a.entry.added, tt)
goes T es q (Spawned ticket child) es' n a = (_, a.entry.added, tt)
goes T es q (Landed ticket) es' n a = (_, a.entry.added, tt)
goes T es q (Waits ticket) es' n a = (_, a.entry.added, tt)
goes T es q (Released ticket outcome) es' n a = (_, a.entry.added, tt)
goes T es q Ended es' n a = (_, a.entry.added, tt)
goes T es q (Printed ticket) es' n a = (_, a.entry.added, tt)
goes T es q (Counted ticket places) es' n a = (_, a.entry.added, tt)
goes T es q RootDone es' n a = absurd (let f : ⊥ = cc n in f)
goes T es q (NotYet place request) es' n a = nothing es es' a.2
goes T es q (Lost place at) es' n a = nothing es es' a.1
goes T es q (NoMemory request) es' n a = nothing es es' a.1

new_goes : (k k' : KeeperView) (q : Request) (r : Reply) (new : List Entry) → k'.entries ≡ k.entries ++ new → is_root_done r ≡ false → (b : Bool) → AppliedIf b k q r k' → NoRoot new
new_goes k k' q r new is n true a = subst NoRoot (cancel k.entries [] new (append-nil k.entries ∙ (sym a.entries ∙ is))) tt
new_goes k k' q r new is n false a =
    let g = goes _ (k.entries ++ due_entries a.due) q r k'.entries n a.answers in
    subst NoRoot (cancel k.entries (due_entries a.due ++ g.0) new (sym (append_assoc k.entries (due_entries a.due) g.0) ∙ (sym g.1 ∙ is)))
    (no_root_both (due_entries a.due) g.0 (no_root_due a.due) g.2)

pub items_stamped : (c : List ℕ) (xs : List EntryItem) → items_of (stamp_all c xs) ≡ xs
items_stamped c [] = refl
items_stamped c (x ∷ xs) = ap (λ (l : List EntryItem). x ∷ l) (items_stamped c xs)

entries_both : (xs ys : List EntryItem) → entries_in (xs ++ ys) ≡ entries_in xs ++ entries_in ys
entries_both xs ys = map-append (λ (x : EntryItem). x.entry) xs ys

module _ (f : LedgerFixed) (place : EntryItem → Option ℕ) (v w : View EntryItem) (op : LedgerOp) (r : LedgerReply) (host : HostKnows v) (c : Called place (LedgerDoes f) (LedgerIsLegal f) v op r w) where
  abbrev before : List (Stamped EntryItem)
  before = v.seen ++ c.between

  abbrev does : LedgerDoes f (items_of before) op r c.added
  does = c.replied

  abbrev lines : List Entry
  lines = entries_at before

  whole : items_of before ++ c.added ≡ items_of w.seen
  whole = ap (λ (l : List EntryItem). items_of before ++ l) (sym (items_stamped v.number c.added)) ∙ (sym (items_append before (stamp_all v.number c.added)) ∙ ap items_of (sym c.whole))

  new_lines : entries_in c.added ≡ does.new
  new_lines = ap entries_in does.items ∙ entries_mapped op.mentions does.new

  seen_lines : entries_at w.seen ≡ lines ++ does.new
  seen_lines = ap entries_in (sym whole) ∙ (entries_both (items_of before) c.added ∙ ap (λ (l : List Entry). lines ++ l) new_lines)

  abbrev old : KeeperView
  old = record { setup = f.setup; entries = lines; behind = does.behind }

  abbrev new : KeeperView
  new = record { setup = f.setup; entries = lines ++ does.new; behind = does.behind' }

  ends_there : r.reply ≡ RootDone → Answered old op.request RootDone new → EndsWithRoot (lines ++ does.new)
  ends_there is a =
      elim a.answers.1 [
        | inl s ↦ subst EndsWithRoot (sym s.1) s.0
        | inr s ↦
            subst EndsWithRoot (sym s.added)
            (root_ends (lines ++ due_entries a.due) (Root s.lost s.masked s.thrown) refl (subst RootIsLast s.added (does.last (ap is_refusal is))))
      ]

  ends : r.reply ≡ RootDone → EndsWithRoot (entries_at w.seen)
  ends is = subst EndsWithRoot (sym seen_lines) (ends_there is (subst (λ (z : Reply). Applied old op.request z new) is does.applied))

  -- where nothing was appended the host has no more entries
  idle : c.added ≡ [] → NoRoot (entries_at (entries_by host_number w.seen))
  idle none =
      subst (λ (l : List (Stamped EntryItem)). NoRoot (entries_at l))
      (sym (append-nil v.mine) ∙ (ap (λ (l : List EntryItem). v.mine ++ stamp_all v.number l) (sym none) ∙ (sym c.more ∙ (c.own ∙ ap (λ (d : List ℕ). entries_by d w.seen) host.number)))) host.unreleased

  handed : (xs : List EntryItem) → c.added ≡ xs → r.reply ≡ RootDone → HandsOut (frees r.reply c.added) f.places (items_of before ++ c.added) r.notes.items → HandsOut true f.places (items_of w.seen) r.notes.items
  handed [] none is h = absurd (by_host w.seen (ends is) c.lawful.host (idle none))
  handed (x ∷ xs) some is h =
      let freed : frees r.reply c.added ≡ true = λ i. frees (is i) (some i) in
      subst (λ (l : List EntryItem). HandsOut true f.places l r.notes.items) whole
      (subst (λ (b : Bool). HandsOut b f.places (items_of before ++ c.added) r.notes.items) freed h)

  told : r.reply ≡ RootDone → RootIsTold f r.notes.items w.seen
  told is =
      let h = handed c.added refl is does.notes in record { ends = ends is; noted = h.0; places_are = h.1 }

  goes_on : is_root_done r.reply ≡ false → HostKnows w
  goes_on other =
      record {
        number = c.same.0 ∙ host.number;
        own = c.own ∙ ap (λ (d : List ℕ). entries_by d w.seen) (sym c.same.0);
        unreleased = (let mine : entries_at w.mine ≡ entries_at v.mine ++ does.new =
            ap entries_at c.more
            ∙ (ap entries_in (items_append v.mine (stamp_all v.number c.added) ∙ ap (λ (l : List EntryItem). items_of v.mine ++ l) (items_stamped v.number c.added))
            ∙ (entries_both (items_of v.mine) c.added ∙ ap (λ (l : List Entry). entries_at v.mine ++ l) new_lines)) in
            subst NoRoot (sym mine) (no_root_both (entries_at v.mine) does.new host.unreleased (new_goes old new op.request r.reply does.new refl other (is_refusal r.reply) does.applied)));
      }

pub host_is_told : HostIsTold
host_is_told f place v w op r host c = (told f place v w op r host c, goes_on f place v w op r host c)
