-- What a task has still to run keeps the rules, and its variables are of the kinds that the script gives them.
use Rattle.std.proofs.Common.{◌≡◌, ◌≢◌, ℕ, zero, suc, ℤ, ◌<◌, ◌≤◌, ◌==◌, true, false, ◌||◌, List, [], ◌∷◌, Option, Some, None, option_and_then, slice_get, slice_set, length, refl, ap, sym, subst, arith}
use Rattle.std.proofs.lemmas.Bool.{eqb-true, eqb-false}
use Rattle.rx_rules.proofs.Common.{GlobalRef, Fault, Value, Number, Ref, Stmt, Block, Nothing, Then, Vars, value_of, bound, Term, Empty, Run, Raise, Turns, Trying, Body, Held, items_from, has}
use Rattle.rx_check.specs.Rules.{Kind, ANumber, AReference, learned, assigned}
use Rattle.rx_check.specs.Defined.{IsDefined, beginning}
use Rattle.rx_check.proofs.Lawful.{Own, Inner, Lawful}

-- Variables.

-- a value of the kind
abbrev pub Holds : Option Kind → Option Value → Type 0
Holds (Some ANumber) (Some (Number z)) = Unit {0}
Holds (Some ANumber) (Some (Ref r)) = ⊥
Holds (Some ANumber) None = ⊥
Holds (Some AReference) (Some (Number z)) = ⊥
Holds (Some AReference) (Some (Ref r)) = Unit {0}
Holds (Some AReference) None = ⊥
Holds None v = ⊥

-- each known name has a value of its kind
abbrev pub Agrees : (ℕ → Option Kind) → Vars → List ℕ → Type 0
Agrees kinds vars known = (n : ℕ) → has n known ≡ true → Holds (kinds n) (value_of vars n)

-- what has a value of its kind keeps one
pub record Better (kinds : ℕ → Option Kind) (vars after : Vars) : Type 0 where
  pub cells : length after.values ≡ length vars.values
  pub holds : (n : ℕ) → Holds (kinds n) (value_of vars n) → Holds (kinds n) (value_of after n)

pub better-same : (kinds : ℕ → Option Kind) (vars : Vars) → Better kinds vars vars
better-same kinds vars = record { cells = refl; holds = λ n h. h }

set-length : (vs : List (Option Value)) (i : ℕ) (v : Option Value) → length (slice_set vs i v) ≡ length vs
set-length [] i v = refl
set-length (w ∷ vs) zero v = refl
set-length (w ∷ vs) (suc i) v = ap suc (set-length vs i v)

abbrev joined : Option (Option Value) → Option Value
joined o = option_and_then (λ v. v) o

set-here : (vs : List (Option Value)) (i : ℕ) (v : Option Value) → i < length vs → joined (slice_get (slice_set vs i v) i) ≡ v
set-here [] i v h = absurd (omega (arith, h))
set-here (w ∷ vs) zero None h = refl
set-here (w ∷ vs) zero (Some v) h = refl
set-here (w ∷ vs) (suc i) v h = set-here vs i v (omega (arith, h))

set-other : (vs : List (Option Value)) (i n : ℕ) (v : Option Value) → n ≢ i → joined (slice_get (slice_set vs i v) n) ≡ joined (slice_get vs n)
set-other [] i n v apart = refl
set-other (w ∷ vs) zero zero v apart = absurd (apart refl)
set-other (w ∷ vs) zero (suc n) v apart = refl
set-other (w ∷ vs) (suc i) zero v apart = refl
set-other (w ∷ vs) (suc i) (suc n) v apart = set-other vs i n v (λ e. apart (ap suc e))

bound-holds : (kinds : ℕ → Option Kind) (vars : Vars) (name : ℕ) (v : Value) → Holds (kinds name) (Some v) → name < length vars.values → Holds (kinds name) (value_of (bound name v vars) name)
bound-holds kinds vars name v h less = subst (λ (o : Option Value). Holds (kinds name) o) (sym (set-here vars.values name (Some v) less)) h

pub better-bound : (kinds : ℕ → Option Kind) (vars : Vars) (name : ℕ) (v : Value) → Holds (kinds name) (Some v) → name < length vars.values → Better kinds vars (bound name v vars)
better-bound kinds vars name v h less =
    record {
      cells = set-length vars.values name (Some v);
      holds = λ n old. elim (n == name) as (λ b. n == name ≡ b → Holds (kinds n) (value_of (bound name v vars) n)) [
        | true ↦ λ e. subst (λ (m : ℕ). Holds (kinds m) (value_of (bound name v vars) m)) (sym (eqb-true n name e)) (bound-holds kinds vars name v h less)
        | false ↦ λ e. subst (λ (o : Option Value). Holds (kinds n) o) (sym (set-other vars.values name n (Some v) (eqb-false n name e))) old
      ] refl;
    }

pub agrees-better : (kinds : ℕ → Option Kind) (vars after : Vars) (known : List ℕ) → Better kinds vars after → Agrees kinds vars known → Agrees kinds after known
agrees-better kinds vars after known b h = λ n k. b.holds n (h n k)

pub agrees-bound : (kinds : ℕ → Option Kind) (vars : Vars) (known : List ℕ) (name : ℕ) (v : Value) → Holds (kinds name) (Some v) → name < length vars.values → Agrees kinds vars known → Agrees kinds (bound name v vars) (name ∷ known)
agrees-bound kinds vars known name v h less a = λ n k.
    (elim (n == name) as (λ b. n == name ≡ b → (b || has n known) ≡ true → Holds (kinds n) (value_of (bound name v vars) n)) [
      | true ↦ λ e k. subst (λ (m : ℕ). Holds (kinds m) (value_of (bound name v vars) m)) (sym (eqb-true n name e)) (bound-holds kinds vars name v h less)
      | false ↦ λ e k. (better-bound kinds vars name v h less).holds n (a n k)
    ]) refl k

-- Terms.

-- the names of the first list are names of the second
abbrev pub Sub : List ℕ → List ℕ → Type 0
Sub some known = (n : ℕ) → has n some ≡ true → has n known ≡ true

-- Each item keeps the rules with the names that are known there. Names known after an item are among those that it makes known,
-- and those known inside an item have values by now.
abbrev pub Safe : (ℕ → Option Kind) → ℕ → Vars → List ℕ → Term → Type 0
Safe kinds q vars known Empty = Unit {0}
Safe kinds q vars known (Raise faults) = Unit {0}
Safe kinds q vars known (Run stmt x rest) =
    Own kinds q known stmt × Inner kinds q known stmt × ((some : List ℕ) × Sub some (learned (assigned stmt) known) × Safe kinds q vars some rest)
Safe kinds q vars known (Turns body x k times rest) = Lawful kinds q known body × ((some : List ℕ) × Sub some known × Safe kinds q vars some rest)
Safe kinds q vars known (Trying inside dead_only handler x rest) =
    ((more : List ℕ) × Agrees kinds vars more × Safe kinds q vars more inside) × Lawful kinds q known handler × ((some : List ℕ) × Sub some known × Safe kinds q vars some rest)
Safe kinds q vars known (Body inside rest) =
    ((more : List ℕ) × Agrees kinds vars more × Safe kinds q vars more inside) × ((some : List ℕ) × Sub some known × Safe kinds q vars some rest)
Safe kinds q vars known (Held rest) = Safe kinds q vars known rest

-- a term that may come later, where the names of a list are known
abbrev pub Later : (ℕ → Option Kind) → ℕ → Vars → List ℕ → Term → Type 0
Later kinds q vars known t = (some : List ℕ) × Sub some known × Safe kinds q vars some t

-- a term that may come now
abbrev pub Good : (ℕ → Option Kind) → ℕ → Vars → Term → Type 0
Good kinds q vars t = (known : List ℕ) × Agrees kinds vars known × Safe kinds q vars known t

pub later-same : (kinds : ℕ → Option Kind) (q : ℕ) (vars : Vars) (known : List ℕ) (t : Term) → Safe kinds q vars known t → Later kinds q vars known t
later-same kinds q vars known t h = (known, (λ n k. k), h)

pub later-good : (kinds : ℕ → Option Kind) (q : ℕ) (vars : Vars) (known : List ℕ) (t : Term) → Agrees kinds vars known → Later kinds q vars known t → Good kinds q vars t
later-good kinds q vars known t a h = (h.0, (λ n k. a n (h.1 n k)), h.2)

pub good-raise : (kinds : ℕ → Option Kind) (q : ℕ) (vars : Vars) (faults : List Fault) → Good kinds q vars (Raise faults)
good-raise kinds q vars faults = ([], (λ n k. cc), tt)

learned-more : (o : Option (ℕ × Kind)) (known : List ℕ) → Sub known (learned o known)
learned-more None known n h = h
learned-more (Some x) known n h = elim (n == x.0) as (λ b. (b || has n known) ≡ true) [
  | true ↦ refl
  | false ↦ h
]

pub later-items : (kinds : ℕ → Option Kind) (q : ℕ) (vars : Vars) (known : List ℕ) (b : Block) (x : List ℕ) (i : ℕ) (rest : Term) → Lawful kinds q known b → Later kinds q vars known rest → Later kinds q vars known (items_from b x i rest)
later-items kinds q vars known Nothing x i rest h r = r
later-items kinds q vars known (Then t ts) x i rest h r =
    later-same kinds q vars known (items_from (Then t ts) x i rest)
    (h.0, h.1, later-items kinds q vars (learned (assigned t) known) ts x (suc i) rest h.2 (r.0, (λ n k. learned-more (assigned t) known n (r.1 n k)), r.2))

-- with a better value for a name all stays so
pub safe-better : (kinds : ℕ → Option Kind) (q : ℕ) (vars after : Vars) (known : List ℕ) (t : Term) → Better kinds vars after → Safe kinds q vars known t → Safe kinds q after known t
safe-better kinds q vars after known Empty b h = tt
safe-better kinds q vars after known (Raise faults) b h = tt
safe-better kinds q vars after known (Run stmt x rest) b h = (h.0, h.1, (h.2.0, h.2.1, safe-better kinds q vars after h.2.0 rest b h.2.2))
safe-better kinds q vars after known (Turns body x k times rest) b h = (h.0, (h.1.0, h.1.1, safe-better kinds q vars after h.1.0 rest b h.1.2))
safe-better kinds q vars after known (Trying inside dead_only handler x rest) b h =
    ((h.0.0, agrees-better kinds vars after h.0.0 b h.0.1, safe-better kinds q vars after h.0.0 inside b h.0.2), h.1, (h.2.0, h.2.1, safe-better kinds q vars after h.2.0 rest b h.2.2))
safe-better kinds q vars after known (Body inside rest) b h =
    ((h.0.0, agrees-better kinds vars after h.0.0 b h.0.1, safe-better kinds q vars after h.0.0 inside b h.0.2), (h.1.0, h.1.1, safe-better kinds q vars after h.1.0 rest b h.1.2))
safe-better kinds q vars after known (Held rest) b h = safe-better kinds q vars after known rest b h

pub later-better : (kinds : ℕ → Option Kind) (q : ℕ) (vars after : Vars) (known : List ℕ) (t : Term) → Better kinds vars after → Later kinds q vars known t → Later kinds q after known t
later-better kinds q vars after known t b h = (h.0, h.1, safe-better kinds q vars after h.0 t b h.2)

-- What is defined.

number-held : (o : Option Value) → Holds (Some ANumber) o → (z : ℤ) × (o ≡ Some (Number z))
number-held None h = absurd h
number-held (Some (Number z)) h = (z, refl)
number-held (Some (Ref r)) h = absurd h

reference-held : (o : Option Value) → Holds (Some AReference) o → (r : GlobalRef) × (o ≡ Some (Ref r))
reference-held None h = absurd h
reference-held (Some (Number z)) h = absurd h
reference-held (Some (Ref r)) h = (r, refl)

own-defined : (kinds : ℕ → Option Kind) (q : ℕ) (vars : Vars) (known : List ℕ) (stmt : Stmt) → q ≤ length vars.values → Agrees kinds vars known → Own kinds q known stmt → IsDefined vars stmt
own-defined kinds q vars known stmt wide a o =
    record {
      numbers = λ n u.
          let f = o.numbers n u in number-held (value_of vars n) (subst (λ (k : Option Kind). Holds k (value_of vars n)) f.1 (a n f.0));
      targets = λ n u.
          let f = o.targets n u in reference-held (value_of vars n) (subst (λ (k : Option Kind). Holds k (value_of vars n)) f.1 (a n f.0));
      cell = λ n k e. let f = o.assigns (n, k) e in let less : n < q = f.1 in omega (arith, less, wide);
    }

pub safe-defined : (kinds : ℕ → Option Kind) (q : ℕ) (vars : Vars) (known : List ℕ) (t : Term) (stmt : Stmt) → q ≤ length vars.values → Agrees kinds vars known → Safe kinds q vars known t → beginning t ≡ Some stmt → IsDefined vars stmt
safe-defined kinds q vars known (Run s x rest) stmt wide a h e = let same : s ≡ stmt = cc in subst (IsDefined vars) same (own-defined kinds q vars known s wide a h.0)
safe-defined kinds q vars known (Trying inside dead_only handler x rest) stmt wide a h e = safe-defined kinds q vars h.0.0 inside stmt wide h.0.1 h.0.2 e
safe-defined kinds q vars known (Body inside rest) stmt wide a h e = safe-defined kinds q vars h.0.0 inside stmt wide h.0.1 h.0.2 e
safe-defined kinds q vars known _ stmt wide a h e = cc
