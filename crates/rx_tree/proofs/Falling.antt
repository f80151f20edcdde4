-- Searches in lists whose numbers fall.
use Rattle.std.proofs.Common.{◌≡◌, ℕ, zero, suc, ◌+◌, ◌<◌, ◌≤◌, Bool, true, false, cond, not, ◌&&◌, ◌==◌, ltb, List, [], ◌∷◌, Option, Some, None, is_some, length, drop, slice_index_or, refl, ap, sym, subst, ◌∙◌, arith, inl, inr}
use Rattle.std.specs.List.{find, list_any}
use Rattle.std.specs.List.Sorted.{IsPartitionPoint, IsPartitionedBy}
use Rattle.std.proofs.lemmas.List.{get_or_default}
use Rattle.std.proofs.lemmas.Bool.{eqb-true, ne_eqb, ltb-true, ltb-false, lt-ltb, cases_lt}
use Rattle.rx_rules.proofs.Common.{ScopeId, without, Reached, Tree, is_under, is_scope, wants, is_finish, the_root, governing_in, chain_in}
use Rattle.rx_rules.specs.declared.tasks.Task.{Task}
use Rattle.rx_rules.specs.declared.tasks.Scope.{Scope}
use Rattle.rx_tree_laws.specs.Chains.{Falls}
use Rattle.rx_tree_laws.specs.Sound.{TasksFall, Sound, ReachedSound}
use Rattle.rx_tree_laws.proofs.Stay.{fall_filter}
use Rattle.rx_tree.specs.Kept.{Narrow}
use Rattle.rx_tree.specs.Inside.Positions.{IsFirst, PassesNone, FallsIn, TasksFallIn, ScopesFallIn, RowsInOrder, BeginsAt}

-- the elements above t stand in front
pub parted : {X : Type 0} (f : X → ℕ) (t : ℕ) (xs : List X) → FallsIn f xs → IsPartitionedBy (λ x. ltb t (f x)) xs
parted f t xs falls = λ i j d le within h.
    elim (cases_lt i j) [
      | inl lt ↦
          let above : t < f (slice_index_or xs j d) = ltb-true t (f (slice_index_or xs j d)) h in
          let more : f (slice_index_or xs j d) < f (slice_index_or xs i d) = falls i j d lt within in
          lt-ltb t (f (slice_index_or xs i d)) (omega arith)
      | inr ge ↦ let same : i ≡ j = omega arith in rw same h
    ]

-- an element t is the first
pub first_found : {X : Type 0} (f : X → ℕ) (t : ℕ) (xs : List X) (i : ℕ) (e : X) → FallsIn f xs → i < length xs → (f (slice_index_or xs i e) == t) ≡ true → IsFirst (λ x. f x == t) xs i
first_found f t xs i e falls within h = (
  within,
  λ d. ap (λ x. f x == t) (get_or_default xs i d e within) ∙ h,
  λ k d below.
      let at : f (slice_index_or xs i d) ≡ t = eqb-true (f (slice_index_or xs i d)) t (ap (λ x. f x == t) (get_or_default xs i d e within) ∙ h) in
      let more : f (slice_index_or xs i d) < f (slice_index_or xs k d) = falls k i d below within in
      ne_eqb (f (slice_index_or xs k d)) t (λ e. absurd (omega arith)),
)

-- none is t where the first that is not above t is another
pub none_found : {X : Type 0} (f : X → ℕ) (t : ℕ) (xs : List X) (i : ℕ) → FallsIn f xs → IsPartitionPoint (λ x. ltb t (f x) ≡ true) (λ x. ltb t (f x) ≡ false) xs i → (i < length xs → (d : X) → (f (slice_index_or xs i d) == t) ≡ false) → PassesNone (λ x. f x == t) xs
none_found f t xs i falls point h = λ k d within.
    elim (cases_lt k i) [
      | inl lt ↦
          let above : t < f (slice_index_or xs k d) = ltb-true t (f (slice_index_or xs k d)) (point.0 k d (omega arith) lt) in
          ne_eqb (f (slice_index_or xs k d)) t (λ e. absurd (omega arith))
      | inr ge ↦
          elim (cases_lt i k) [
            | inl lt ↦
                let most : f (slice_index_or xs i d) ≤ t = ltb-false t (f (slice_index_or xs i d)) (point.1 i d (omega arith) (omega arith)) in
                let more : f (slice_index_or xs k d) < f (slice_index_or xs i d) = falls i k d lt within in
                ne_eqb (f (slice_index_or xs k d)) t (λ e. absurd (omega arith))
            | inr le ↦ let same : k ≡ i = omega arith in rw same (h (omega arith) d)
          ]
    ]

-- the same of one default
pub is_other : {X : Type 0} (f : X → ℕ) (t : ℕ) (xs : List X) (i : ℕ) (d e : X) → i < length xs → (f (slice_index_or xs i e) == t) ≡ false → (f (slice_index_or xs i d) == t) ≡ false
is_other f t xs i d e within h = ap (λ x. f x == t) (get_or_default xs i d e within) ∙ h

find_here : {X : Type 0} (p : X → Bool) (xs : List X) (i : ℕ) (d : X) → i < length xs → p (slice_index_or xs i d) ≡ true → ((k : ℕ) → k < i → p (slice_index_or xs k d) ≡ false) → find p xs ≡ Some (slice_index_or xs i d)
find_here p [] i d h holds before = absurd (omega arith)
find_here p (x ∷ xs) zero d h holds before = rw holds
find_here p (x ∷ xs) (suc i) d h holds before =
    let here : p x ≡ false = before zero (omega arith) in
    let inside : i < length xs = omega arith in
    rw here (find_here p xs i d inside holds (λ k below. before (suc k) (omega arith)))

-- what is found is the first
pub find_first : {X : Type 0} (p : X → Bool) (xs : List X) (i : ℕ) (d : X) → IsFirst p xs i → Some (slice_index_or xs i d) ≡ find p xs
find_first p xs i d h = sym (find_here p xs i d h.0 (h.1 d) (λ k below. h.2 k d below))

-- nothing is found where none passes
pub find_nothing : {X : Type 0} (p : X → Bool) (xs : List X) → PassesNone p xs → None ≡ find p xs
find_nothing p [] h = refl
find_nothing p (x ∷ xs) h =
    let here : p x ≡ false = h zero x (omega arith) in
    rw here (find_nothing p xs (λ k d below. h (suc k) d (let more : suc k < suc (length xs) = omega arith in more)))

chain_here : (s : ScopeId) (gs : List Scope) (start i : ℕ) (d : Scope) → start ≤ i → i < length gs → is_scope s (slice_index_or gs i d) ≡ true → ((k : ℕ) → k < i → is_scope s (slice_index_or gs k d) ≡ false) → chain_in (drop start gs) (Some s) ≡ slice_index_or gs i d ∷ chain_in (drop (suc i) gs) (slice_index_or gs i d).parent
chain_here s [] start i d le h holds before = absurd (omega arith)
chain_here s (g ∷ gs) zero zero d le h holds before = rw holds
chain_here s (g ∷ gs) zero (suc i) d le h holds before =
    let here : is_scope s g ≡ false = before zero (omega arith) in
    let inside : i < length gs = omega arith in
    rw here (chain_here s gs zero i d (omega arith) inside holds (λ k below. before (suc k) (omega arith)))
chain_here s (g ∷ gs) (suc start) zero d le h holds before = absurd (omega arith)
chain_here s (g ∷ gs) (suc start) (suc i) d le h holds before =
    let inside : i < length gs = omega arith in
    chain_here s gs start i d (omega arith) inside holds (λ k below. before (suc k) (omega arith))

-- the chain begins at the first row of the scope
pub begins_at : (s : ScopeId) (gs : List Scope) (start i : ℕ) → start ≤ i → IsFirst (is_scope s) gs i → BeginsAt gs start s i
begins_at s gs start i le h =
    let next : suc i ≡ i + 1 = omega arith in
    (le, h.0, λ d. chain_here s gs start i d le h.0 (h.1 d) (λ k below. h.2 k d below) ∙ ap (λ n. slice_index_or gs i d ∷ chain_in (drop n gs) (slice_index_or gs i d).parent) next)

-- there is no chain where no row from `start` on is the scope's
pub no_chain : (s : ScopeId) (gs : List Scope) (start : ℕ) → ((k : ℕ) (d : Scope) → start ≤ k → k < length gs → is_scope s (slice_index_or gs k d) ≡ false) → chain_in (drop start gs) (Some s) ≡ []
no_chain s [] zero h = refl
no_chain s [] (suc start) h = refl
no_chain s (g ∷ gs) zero h =
    let here : is_scope s g ≡ false = h zero g (omega arith) (omega arith) in
    rw here (no_chain s gs zero (λ k d le below. h (suc k) d (omega arith) (let more : suc k < suc (length gs) = omega arith in more)))
no_chain s (g ∷ gs) (suc start) h =
    no_chain s gs start (λ k d le below. h (suc k) d (omega arith) (let more : suc k < suc (length gs) = omega arith in more))

-- rows behind the one of the scope are not the scope's
pub none_behind : (s : ScopeId) (gs : List Scope) (start i : ℕ) → ScopesFallIn gs → i < start → IsFirst (is_scope s) gs i → chain_in (drop start gs) (Some s) ≡ []
none_behind s gs start i falls lt h =
    no_chain s gs start
    (λ k d le within.
    let at : (slice_index_or gs i d).number.0 ≡ s.0 = eqb-true (slice_index_or gs i d).number.0 s.0 (h.1 d) in
    let less : (slice_index_or gs k d).number.0 < (slice_index_or gs i d).number.0 = falls i k d (omega arith) within in
    ne_eqb (slice_index_or gs k d).number.0 s.0 (λ e. absurd (omega arith)))

-- what is said of a list holds of its rest
falls_tail : {X : Type 0} (f : X → ℕ) (x : X) (xs : List X) → FallsIn f (x ∷ xs) → FallsIn f xs
falls_tail f x xs falls = λ i j d lt within. falls (suc i) (suc j) d (omega arith) (let more : suc j < suc (length xs) = omega arith in more)

-- one more in front, above them all
falls_more : {X : Type 0} (f : X → ℕ) (x : X) (xs : List X) → FallsIn f xs → ((k : ℕ) (d : X) → k < length xs → f (slice_index_or xs k d) < f x) → FallsIn f (x ∷ xs)
falls_more f x xs falls low zero zero d lt within = absurd (omega arith)
falls_more f x xs falls low zero (suc j) d lt within = low j d (omega arith)
falls_more f x xs falls low (suc i) zero d lt within = absurd (omega arith)
falls_more f x xs falls low (suc i) (suc j) d lt within = let inside : j < length xs = omega arith in falls i j d (omega arith) inside

-- no scope above all rows is on a chain
chain_low : (s : ScopeId) (gs : List Scope) (want : Option ScopeId) → ((k : ℕ) (d : Scope) → k < length gs → (slice_index_or gs k d).number.0 < s.0) → list_any (is_scope s) (chain_in gs want) ≡ false
chain_low s [] want h = refl
chain_low s (g ∷ gs) want h =
    let low : g.number.0 < s.0 = h zero g (omega arith) in
    let here : is_scope s g ≡ false = ne_eqb g.number.0 s.0 (λ e. absurd (omega arith)) in
    let rest : (w : Option ScopeId) → list_any (is_scope s) (chain_in gs w) ≡ false = λ w. chain_low s gs w (λ k d below. h (suc k) d (let more : suc k < suc (length gs) = omega arith in more)) in
    elim (wants want g) as (λ b. list_any (is_scope s) (cond b (g ∷ chain_in gs g.parent) (chain_in gs want)) ≡ false) [
      | true ↦ rw here (rest g.parent)
      | false ↦ rest want
    ]

chain_below : (s w : ScopeId) (gs : List Scope) → ScopesFallIn gs → w.0 < s.0 → list_any (is_scope s) (chain_in gs (Some w)) ≡ false
chain_below s w [] falls lt = refl
chain_below s w (g ∷ gs) falls lt =
    (elim (g.number.0 == w.0) as (λ b. g.number.0 == w.0 ≡ b → list_any (is_scope s) (cond b (g ∷ chain_in gs g.parent) (chain_in gs (Some w))) ≡ false) [
      | true ↦ λ e.
          let same : g.number.0 ≡ w.0 = eqb-true g.number.0 w.0 e in
          let here : is_scope s g ≡ false = ne_eqb g.number.0 s.0 (λ e. absurd (omega arith)) in
          rw here
          (chain_low s gs g.parent
          (λ k d below.
          let less : (slice_index_or gs k d).number.0 < g.number.0 = falls zero (suc k) d (omega arith) (let more : suc k < suc (length gs) = omega arith in more) in
          omega arith))
      | false ↦ λ e. chain_below s w gs (falls_tail (λ g. g.number.0) g gs falls) lt
    ]) refl

-- a chain goes down, so that it does not come to a scope above its first
pub stays_below : (s w : ScopeId) (gs : List Scope) (start : ℕ) → ScopesFallIn gs → w.0 < s.0 → list_any (is_scope s) (chain_in (drop start gs) (Some w)) ≡ false
stays_below s w gs zero falls lt = chain_below s w gs falls lt
stays_below s w [] (suc start) falls lt = refl
stays_below s w (g ∷ gs) (suc start) falls lt = stays_below s w gs start (falls_tail (λ g. g.number.0) g gs falls) lt

-- no scope, no chain
no_want : (gs : List Scope) → chain_in gs None ≡ []
no_want [] = refl
no_want (g ∷ gs) = no_want gs

-- a chain of one scope that is not s
pub alone : (s w : ScopeId) (gs : List Scope) (start i : ℕ) (d : Scope) → BeginsAt gs start w i → is_scope s (slice_index_or gs i d) ≡ false → (slice_index_or gs i d).parent ≡ None → list_any (is_scope s) (chain_in (drop start gs) (Some w)) ≡ false
alone s w gs start i d begins other none =
    let chain : chain_in (drop start gs) (Some w) ≡ slice_index_or gs i d ∷ chain_in (drop (i + 1) gs) (slice_index_or gs i d).parent = begins.2 d in
    rw (chain, other, none, no_want (drop (i + 1) gs))

-- and of one that is no finish
pub alone_call : (w : ScopeId) (gs : List Scope) (start i : ℕ) (d : Scope) → BeginsAt gs start w i → is_finish (slice_index_or gs i d).kind ≡ false → (slice_index_or gs i d).parent ≡ None → governing_in (drop start gs) (Some w) ≡ the_root
alone_call w gs start i d begins other none =
    let chain : chain_in (drop start gs) (Some w) ≡ slice_index_or gs i d ∷ chain_in (drop (i + 1) gs) (slice_index_or gs i d).parent = begins.2 d in
    rw (chain, other, none, no_want (drop (i + 1) gs), governing_in, find)

-- The rows of a tree that can be reached are in order.
tasks_low : (n : ℕ) (xs : List Task) (k : ℕ) (d : Task) → TasksFall n xs → k < length xs → (slice_index_or xs k d).number.0 < n
tasks_low n [] k d falls within = absurd (omega arith)
tasks_low n (x ∷ xs) zero d falls within = falls.0
tasks_low n (x ∷ xs) (suc k) d falls within =
    let head : x.number.0 < n = falls.0 in
    let inside : k < length xs = omega arith in
    let rest : (slice_index_or xs k d).number.0 < x.number.0 = tasks_low x.number.0 xs k d falls.1 inside in
    omega arith

pub tasks_fall_in : (n : ℕ) (xs : List Task) → TasksFall n xs → TasksFallIn xs
tasks_fall_in n [] falls = λ i j d lt within. absurd (omega arith)
tasks_fall_in n (x ∷ xs) falls = falls_more (λ x. x.number.0) x xs (tasks_fall_in x.number.0 xs falls.1) (λ k d within. tasks_low x.number.0 xs k d falls.1 within)

scopes_low : (n : ℕ) (gs : List Scope) (k : ℕ) (d : Scope) → Falls n gs → k < length gs → (slice_index_or gs k d).number.0 < n
scopes_low n [] k d falls within = absurd (omega arith)
scopes_low n (g ∷ gs) zero d falls within = falls.0
scopes_low n (g ∷ gs) (suc k) d falls within =
    let head : g.number.0 < n = falls.0 in
    let inside : k < length gs = omega arith in
    let rest : (slice_index_or gs k d).number.0 < g.number.0 = scopes_low g.number.0 gs k d falls.1 inside in
    omega arith

pub scopes_fall_in : (n : ℕ) (gs : List Scope) → Falls n gs → ScopesFallIn gs
scopes_fall_in n [] falls = λ i j d lt within. absurd (omega arith)
scopes_fall_in n (g ∷ gs) falls = falls_more (λ g. g.number.0) g gs (scopes_fall_in g.number.0 gs falls.1) (λ k d within. scopes_low g.number.0 gs k d falls.1 within)

-- the tree that is kept, where it is one of those for which the ledger stands
pub kept_sound : (K : Tree) (M : Tree → Type 0) → ReachedSound → (room : ℕ) × (T : Tree) × ((K ≡ T) × Narrow T) × M T → Sound K
kept_sound K M law w = law K (subst Reached (sym w.2.0) w.2.1.0)

pub kept_narrow : (K : Tree) (M : Tree → Type 0) → (room : ℕ) × (T : Tree) × ((K ≡ T) × Narrow T) × M T → length K.dead ≡ 16
kept_narrow K M w = ap (λ (T : Tree). length T.dead) w.2.0 ∙ w.2.1.1

pub in_order : (K : Tree) (M : Tree → Type 0) → ReachedSound → (room : ℕ) × (T : Tree) × ((K ≡ T) × Narrow T) × M T → RowsInOrder K
in_order K M law w =
    let sound : Sound K = kept_sound K M law w in
    record {
      tasks = tasks_fall_in K.next_task K.tasks sound.tasks_fall;
      scopes = scopes_fall_in K.next_scope K.scopes sound.falls;
    }

-- with a newborn task
pub born_first : (x : Task) (n : ℕ) (xs ys : List Task) → TasksFall n xs → x.number.0 ≡ n → ys ≡ x ∷ xs → TasksFallIn ys
born_first x n xs ys falls e is = subst TasksFallIn (sym is) (tasks_fall_in (suc n) (x ∷ xs) (omega arith, subst (λ m. TasksFall m xs) (sym e) falls))

-- and after a release
pub left_in_order : (K L : Tree) (s : ScopeId) → Sound K → L ≡ without K s → TasksFallIn L.tasks
left_in_order K L s sound e =
    subst (λ (T : Tree). TasksFallIn T.tasks) (sym e)
    (tasks_fall_in K.next_task (without K s).tasks (fall_filter (λ x. not (is_under K s x && is_some x.struck)) K.next_task K.tasks sound.tasks_fall))
