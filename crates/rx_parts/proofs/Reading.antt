-- What legal histories say, entry by entry and event by event.
use Rattle.std.proofs.Common.{◌≡◌, ℕ, zero, suc, ◌+◌, ◌<◌, ◌≤◌, Bool, true, false, cond, ◌==◌, List, [], ◌∷◌, ◌++◌, length, slice_get, Option, Some, None, refl, arith, ap, sym, ◌∙◌, subst, append_assoc}
use Rattle.std.proofs.lemmas.Bool.{eq-eqb, ne_eqb}
use Rattle.std.proofs.lemmas.List.{append-nil, map-append}
use Rattle.rx_rules.proofs.Common.{TaskId, Block, Cells, move_of, Given, EndsWithRoot}
use Rattle.rx_rules.specs.declared.entries.Act.{Act}
use Rattle.rx_rules.specs.declared.entries.Act.TheVariants.{Arrive, End}
use Rattle.rx_rules.specs.declared.entries.Entry.{Entry}
use Rattle.rx_rules.specs.declared.entries.Entry.TheVariants.{Step, Root, Death, Join}
use Rattle.rx_parts.specs.Ledger.{LedgerItem, Actor, main_actor, ItemMakes, ends, AllMake, RootIsLast, LegalLedger, entries_of}
use Rattle.rx_parts.specs.Reading.{ActorsSay, is_of, named_by, RootEnds}
use Rattle.rx_parts.proofs.Lists.{outside}
use Rattle.rx_parts.proofs.Changes.{Change, same, lands, goes_on, leaves, changed, came}
use Rattle.rx_parts.proofs.Tasks.{here}
use Rattle.rx_parts.proofs.Along.{acts_old, sized_along}
use Rattle.rx_parts.proofs.Whole.{legal_moves, legal_birth}

-- The events that entries name.

of_other : (n k : ℕ) (e : Entry) → move_of n k e ≡ None → is_of k e ≡ false
of_other n k (Step u act batch) h = either (u.0 == k) refl where
  either : (b : Bool) → (u.0 == k) ≡ b → (u.0 == k) ≡ false
  either false e = e
  either true e = absurd (let f : Some (n, act, batch) ≡ None = ap (λ b. cond b (Some (n, act, batch)) None) (sym e) ∙ h in cc)
of_other n k _ h = refl

pub of_own : (k : ℕ) (e : Entry) (t : TaskId) (act : Act) (batch : List (List ℕ)) → e ≡ Step t act batch → t.0 ≡ k → is_of k e ≡ true
of_own k e t act batch is it = ap (is_of k) is ∙ eq-eqb t.0 k it

of_none : (k size : ℕ) (e : Entry) → ((u : TaskId) (act : Act) (batch : List (List ℕ)) → e ≡ Step u act batch → u.0 < size) → size ≤ k → is_of k e ≡ false
of_none k size (Step t act batch) h le = let low : t.0 < size = h t act batch refl in ne_eqb t.0 k (λ w. omega arith)
of_none k size _ h le = refl

abbrev names_if : Bool → LedgerItem → Cells
names_if b i = cond b i.events []

named_more : (n k : ℕ) (i : LedgerItem) (before after : List Actor) (a b : Actor) → Change n k i before after a b → b.named ≡ a.named ++ names_if (is_of k i.entry) i
named_more n k i before after a b (same h) = sym (append-nil a.named) ∙ ap (λ v. a.named ++ names_if v i) (sym (of_other n k i.entry h))
named_more n k i before after a b (lands t p it e by gone none) = sym (append-nil a.named) ∙ ap (λ v. a.named ++ v) (sym none) ∙ ap (λ v. a.named ++ names_if v i) (sym (of_own k i.entry t (Arrive p) [] e it))
named_more n k i before after a b (goes_on t act z it e by there walks low fits new) = ap (λ v. a.named ++ names_if v i) (sym (of_own k i.entry t act z.batch e it))
named_more n k i before after a b (leaves t faults z it e by there walks low done) = ap (λ v. a.named ++ names_if v i) (sym (of_own k i.entry t (End faults) z.batch e it))

abbrev named_in : Option Actor → Cells
named_in o = elim o [ Some a ↦ a.named | None ↦ [] ]

named_step : (n : ℕ) (before : List Actor) (i : LedgerItem) (after : List Actor) (k : ℕ) → ItemMakes n before i after → named_in (slice_get after k) ≡ named_in (slice_get before k) ++ names_if (is_of k i.entry) i
named_step n before i after k m = either (slice_get before k) refl where
  none_yet : slice_get before k ≡ None → (p : Option Actor) → slice_get after k ≡ p → named_in p ≡ names_if (is_of k i.entry) i
  none_yet e None f = ap (λ v. names_if v i) (sym (of_none k (length before) i.entry (acts_old m) (outside before k e)))
  none_yet e (Some b) f = let c = came m k b e f in ap (λ (v : Actor). v.named) c.is_it ∙ ap (λ v. names_if v i) (sym (of_none k (length before) i.entry (acts_old m) (outside before k e)))

  either : (o : Option Actor) → slice_get before k ≡ o → named_in (slice_get after k) ≡ named_in o ++ names_if (is_of k i.entry) i
  either None e = none_yet e (slice_get after k) refl
  either (Some a) e = let c = changed m k a e in ap named_in c.1 ∙ named_more n k i before after a c.0 c.2

named_along : (n : ℕ) (before : List Actor) (h : List LedgerItem) (last : List Actor) (k : ℕ) → AllMake n before h last → named_in (slice_get last k) ≡ named_in (slice_get before k) ++ named_by h k
named_along n before [] last k l = ap (λ v. named_in (slice_get v k)) (sym l) ∙ sym (append-nil (named_in (slice_get before k)))
named_along n before (i ∷ h) last k l =
    named_along (suc n) l.0 h last k l.2
    ∙ ap (λ v. v ++ named_by h k) (named_step n before i l.0 k l.1)
    ∙ append_assoc (named_in (slice_get before k)) (names_if (is_of k i.entry) i) (named_by h k)

legal_named : (code : Block) (U : Given) (h : List LedgerItem) (legal : LegalLedger code U h) (k : ℕ) (a : Actor) → slice_get legal.actors k ≡ Some a → a.named ≡ named_by h k
legal_named code U h legal k a got = sym (ap named_in got) ∙ named_along 0 (main_actor code U.places ∷ []) h legal.actors k legal.made ∙ none k where
  none : (k : ℕ) → named_in (slice_get (main_actor code U.places ∷ []) k) ++ named_by h k ≡ named_by h k
  none zero = refl
  none (suc k) = refl

pub actors-say : ActorsSay
actors-say code U h legal = (
  sized_along 0 (main_actor code U.places ∷ []) h legal.actors legal.made,
  λ t a got. record { birth = sym (legal_birth code U h legal t a got); moves = legal_moves code U h legal t a got; named = legal_named code U h legal t a got },
)

-- The release of the root.

none_after : (es fs : List Entry) → RootIsLast (es ++ fs) → EndsWithRoot es → fs ≡ []
none_after [] fs h r = absurd r
none_after (Step t act batch ∷ es) fs h r = none_after es fs h r
none_after (Death d ∷ es) fs h r = none_after es fs h r
none_after (Join p ∷ es) fs h r = none_after es fs h r
none_after (Root lost masked thrown ∷ es) fs h r = ap (λ v. v ++ fs) (sym r) ∙ h

no_entries : (h : List LedgerItem) → entries_of h ≡ [] → h ≡ []
no_entries [] e = refl
no_entries (i ∷ h) e = cc

pub root-ends : RootEnds
root-ends code U g more legal root =
    no_entries more (none_after (entries_of g) (entries_of more) (subst RootIsLast (map-append (λ (i : LedgerItem). i.entry) g more) legal.last) root)
