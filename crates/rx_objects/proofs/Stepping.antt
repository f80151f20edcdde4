-- What a keeper's call gives for the step of its book.
use Rattle.std.proofs.Common.{◌≡◌, ℕ, ◌<◌, ◌&&◌, Bool, true, false, nat_lt, List, [], ◌∷◌, ◌++◌, length, refl, ap, sym, ◌∙◌, subst, append_assoc, inl, inr, arith}
use Rattle.std.proofs.lemmas.List.{append-nil, length-append}
use Rattle.std.proofs.lemmas.Bool.{lt-ltb, ltb-true}
use Rattle.rx_rules.specs.declared.entries.Entry.{Entry}
use Rattle.rx_rules.specs.declared.entries.Entry.TheVariants.{Step, Root, Death, Join}
use Rattle.rx_rules.proofs.Common.{Folds, NoRoot, EndsWithRoot, Tree}
use Rattle.rx_history.specs.declared.setup.Setup.{Setup}
use Rattle.rx_history.specs.Setups.{given}
use Rattle.rx_kills.specs.declared.schedule.Due.{Due}
use Rattle.rx_kills.specs.declared.schedule.Due.TheVariants.{Join as Joins, Death as Dies}
use Rattle.rx_ledger.specs.declared.asks.Request.{Request}
use Rattle.rx_ledger.specs.declared.asks.Reply.{Reply}
use Rattle.rx_ledger.specs.declared.asks.Reply.TheVariants.{Opened, Called, Spawned, Landed, Waits, Released, Ended, Printed, Census as Counted, RootDone, NotYet, Lost, NoMemory}
use Rattle.rx_ledger.specs.Told.{due_entries}
use Rattle.rx_ledger.specs.Answering.{Answers}
use Rattle.rx_chronicle.specs.Told.{Ending}
use Rattle.rx_ledger.specs.Kept.{KeeperView, is_refusal, Applied, AppliedIf, Answered, IsHistory}
use Rattle.rx_runs.proofs.RootLast.{root_last-ends}
use Rattle.rx_parts.specs.Ledger.{RootIsLast}
use Rattle.rx_objects.specs.Ledger.{is_root_done, has_some, frees}
use Rattle.rx_objects.specs.Inside.Stepping.{Stepped}

abbrev Grew : List Entry → List Entry → Type 0
Grew es es' = (new : List Entry) × (es' ≡ es ++ new)

none_more : (es es' : List Entry) → es' ≡ es → Grew es es'
none_more es es' h = ([], h ∙ sym (append-nil es))

grows : (T : Tree) (es : List Entry) (q : Request) (r : Reply) (es' : List Entry) → Answers T es q r es' → Grew es es'
grows T es q (Opened ticket scope) es' h = (_, h.entry.added)
grows T es q (Called ticket callee) es' h = (_, h.entry.added)
grows T es q (Spawned ticket child) es' h = (_, h.entry.added)
grows T es q (Landed ticket) es' h = (_, h.entry.added)
grows T es q (Waits ticket) es' h = (_, h.entry.added)
grows T es q (Released ticket outcome) es' h = (_, h.entry.added)
grows T es q Ended es' h = (_, h.entry.added)
grows T es q (Printed ticket) es' h = (_, h.entry.added)
grows T es q (Counted ticket places) es' h = (_, h.entry.added)
grows T es q RootDone es' h = elim h.1 [ inl s ↦ none_more es es' s.1 | inr s ↦ (_, s.added) ]
grows T es q (NotYet place request) es' h = none_more es es' h.2
grows T es q (Lost place at) es' h = none_more es es' h.1
grows T es q (NoMemory request) es' h = none_more es es' h.1

no_root_last : (es : List Entry) → NoRoot es → RootIsLast es
no_root_last [] h = tt
no_root_last (Step t act batch ∷ es) h = no_root_last es h
no_root_last (Root lost masked thrown ∷ es) h = absurd h
no_root_last (Death d ∷ es) h = no_root_last es h
no_root_last (Join d ∷ es) h = no_root_last es h

root_last : (e : Bool) (es : List Entry) → Ending e es → RootIsLast es
root_last true es h = root_last-ends es h
root_last false es h = no_root_last es h

-- a longer history has something new
longer : (n m : ℕ) → n < m → nat_lt n m ≡ true
longer n m h = lt-ltb n m h

same_length : (n : ℕ) → nat_lt n n ≡ false
same_length n = by (nat_lt n n) refl
  where
    by : (b : Bool) → nat_lt n n ≡ b → b ≡ false
    by false e = refl
    by true e = absurd (let l = ltb-true n n e in omega (arith, l))

pub some_longer : {X : Type 0} (xs new : List X) → nat_lt (length xs) (length (xs ++ new)) ≡ has_some new
some_longer xs [] = ap (λ (l : List _). nat_lt (length xs) (length l)) (append-nil xs) ∙ same_length (length xs)
some_longer xs (x ∷ new) = longer (length xs) (length (xs ++ x ∷ new)) (let l = length-append xs (x ∷ new) in omega (arith, l))

pub grew : (k : KeeperView) (q : Request) (r : Reply) (k' : KeeperView) → Applied k q r k' → Grew k.entries k'.entries
grew k q r k' applied = by (is_refusal r) applied
  where
    by : (b : Bool) → AppliedIf b k q r k' → Grew k.entries k'.entries
    by true a = none_more k.entries k'.entries a.entries
    by false a =
        let g = grows _ (k.entries ++ due_entries a.due) q r k'.entries a.answers in
        (due_entries a.due ++ g.0, g.1 ∙ append_assoc k.entries (due_entries a.due) g.0)

pub stepped : (k : KeeperView) (q : Request) (r : Reply) (b : Bool) (k' : KeeperView) → Applied k q r k' → IsHistory k' → b ≡ (is_root_done r && nat_lt (length k.entries) (length k'.entries)) → Stepped k q r b k'
stepped k q r b k' applied is told = by (is_refusal r) refl applied
  where
    g : Grew k.entries k'.entries
    g = grew k q r k' applied

    frees_is : b ≡ frees r g.0
    frees_is = told ∙ ap (λ (c : Bool). is_root_done r && c) (ap (λ (es : List Entry). nat_lt (length k.entries) (length es)) g.1 ∙ some_longer k.entries g.0)

    by : (c : Bool) → is_refusal r ≡ c → AppliedIf c k q r k' → Stepped k q r b k'
    by true refused a =
        record {
          setup = a.setup;
          new = g.0;
          entries = g.1;
          applied = applied;
          folds = λ other. absurd (cc (refused, other));
          last = λ other. absurd (cc (refused, other));
          freed_is = frees_is;
        }
    by false other a =
        let all : k'.entries ++ k'.behind ≡ k'.entries = ap (λ (l : List Entry). k'.entries ++ l) a.whole ∙ append-nil k'.entries in
        record {
          setup = a.setup;
          new = g.0;
          entries = g.1;
          applied = applied;
          folds = λ _. subst (λ (U : Setup). Folds (given U) k'.entries) a.setup (subst (Folds (given k'.setup)) all is.folds);
          last = λ _. subst RootIsLast all (root_last is.root_last.0 (k'.entries ++ k'.behind) is.root_last.1);
          freed_is = frees_is;
        }

-- where the keeper is not asked
pub unasked : (k : KeeperView) (q : Request) → Stepped k q (NoMemory q) false k
unasked k q =
    record {
      setup = refl;
      new = [];
      entries = sym (append-nil k.entries);
      applied = record { back = refl; entries = refl; setup = refl };
      folds = λ w. absurd (let f : ⊥ = cc w in f);
      last = λ w. absurd (let f : ⊥ = cc w in f);
      freed_is = refl;
    }

-- The root's release.

pub no_root_front : (es fs : List Entry) → NoRoot (es ++ fs) → NoRoot es
no_root_front [] fs h = tt
no_root_front (Step t act batch ∷ es) fs h = no_root_front es fs h
no_root_front (Root lost masked thrown ∷ es) fs h = h
no_root_front (Death d ∷ es) fs h = no_root_front es fs h
no_root_front (Join d ∷ es) fs h = no_root_front es fs h

not_empty : {X : Type 0} (xs : List X) (y : X) (ys : List X) → xs ++ y ∷ ys ≡ [] → ⊥
not_empty [] y ys h = let f : ⊥ = cc h in f
not_empty (x ∷ xs) y ys h = let f : ⊥ = cc h in f

-- nothing that is followed is the root's release
pub none_before : (es : List Entry) (x : Entry) (fs : List Entry) → RootIsLast (es ++ x ∷ fs) → NoRoot es
none_before [] x fs h = tt
none_before (Step t act batch ∷ es) x fs h = none_before es x fs h
none_before (Root lost masked thrown ∷ es) x fs h = absurd (not_empty es x fs h)
none_before (Death d ∷ es) x fs h = none_before es x fs h
none_before (Join d ∷ es) x fs h = none_before es x fs h

due_not_end : (ds : List Due) → EndsWithRoot (due_entries ds) → ⊥
due_not_end [] h = h
due_not_end (Joins p ∷ ds) h = due_not_end ds h
due_not_end (Dies p ∷ ds) h = due_not_end ds h

-- what is due does not follow the root's release
due_after_end : (es : List Entry) (d : Due) (ds : List Due) → EndsWithRoot (es ++ due_entries (d ∷ ds)) → ⊥
due_after_end [] d ds h = due_not_end (d ∷ ds) h
due_after_end (Step t act batch ∷ es) d ds h = due_after_end es d ds h
due_after_end (Root lost masked thrown ∷ es) d ds h = not_empty es _ _ h
due_after_end (Death e ∷ es) d ds h = due_after_end es d ds h
due_after_end (Join e ∷ es) d ds h = due_after_end es d ds h

rooted_not : (es : List Entry) (x : Entry) → EndsWithRoot (x ∷ []) → NoRoot (es ++ x ∷ []) → ⊥
rooted_not [] (Root lost masked thrown) e h = h
rooted_not [] (Step t act batch) e h = e
rooted_not [] (Death d) e h = e
rooted_not [] (Join d) e h = e
rooted_not (Step t act batch ∷ es) x e h = rooted_not es x e h
rooted_not (Root lost masked thrown ∷ es) x e h = h
rooted_not (Death d ∷ es) x e h = rooted_not es x e h
rooted_not (Join d ∷ es) x e h = rooted_not es x e h

is_root_done-is : (r : Reply) → is_root_done r ≡ true → r ≡ RootDone
is_root_done-is RootDone h = refl
is_root_done-is _ h = absurd (let f : ⊥ = cc h in f)

and_parts : (a b : Bool) → (a && b) ≡ true → (a ≡ true) × (b ≡ true)
and_parts true true h = (refl, refl)
and_parts true false h = absurd (let f : ⊥ = cc h in f)
and_parts false b h = absurd (let f : ⊥ = cc h in f)

-- where the root's release was appended, it was not there before, and it is there now
pub record Freed (es es' : List Entry) : Type 0 where
  pub before : NoRoot es
  pub after : NoRoot es' → ⊥

freed_some : (es es' new : List Entry) → es' ≡ es ++ new → has_some new ≡ true → RootIsLast es' → NoRoot es
freed_some es es' [] h s last = absurd (let f : ⊥ = cc s in f)
freed_some es es' (x ∷ new) h s last = none_before es x new (subst RootIsLast h last)

pub freed : (k : KeeperView) (q : Request) (r : Reply) (b : Bool) (k' : KeeperView) → (s : Stepped k q r b k') → b ≡ true → Freed k.entries k'.entries
freed k q r b k' s told = at r (is_root_done-is r parts.0) s.applied (s.last (ap is_refusal (is_root_done-is r parts.0)))
  where
    parts : (is_root_done r ≡ true) × (has_some s.new ≡ true)
    parts = and_parts (is_root_done r) (has_some s.new) (sym s.freed_is ∙ told)

    came : (ds : List Due) → EndsWithRoot (k.entries ++ due_entries ds) → k'.entries ≡ k.entries ++ due_entries ds → NoRoot k'.entries → ⊥
    came [] ends same h = some s.new s.entries parts.1 (same ∙ append-nil k.entries)
      where
        some : (new : List Entry) → k'.entries ≡ k.entries ++ new → has_some new ≡ true → k'.entries ≡ k.entries → ⊥
        some [] e m w = let f : ⊥ = cc m in f
        some (x ∷ new) e m w = let l = ap length (sym e ∙ w) in let n = length-append k.entries (x ∷ new) in omega (arith, l, n)
    came (d ∷ ds) ends same h = due_after_end k.entries d ds ends

    done : Answered k q RootDone k' → NoRoot k'.entries → ⊥
    done a h =
        elim a.answers.1 [
          | inl w ↦ came a.due w.0 w.1 h
          | inr w ↦ rooted_not (k.entries ++ due_entries a.due) (Root w.lost w.masked w.thrown) refl (subst NoRoot w.added h)
        ]

    at : (r : Reply) → r ≡ RootDone → Applied k q r k' → RootIsLast k'.entries → Freed k.entries k'.entries
    at r e applied last =
        record {
          before = freed_some k.entries k'.entries s.new s.entries parts.1 last;
          after = λ h. done (subst (λ (z : Reply). Applied k q z k') e applied) h;
        }
