-- Scopes as numbers with parents, and the chains in them.
use Rattle.std.proofs.Common.{◌≡◌, ℕ, ◌<◌, ◌≤◌, Bool, true, false, cond, ◌&&◌, ◌||◌, ◌==◌, List, [], ◌∷◌, ◌++◌, map, filter, Option, Some, None, option_map, refl, ap, sym, subst, ◌∙◌, arith, inl, inr}
use Rattle.std.specs.List.{list_any, list_all, find}
use Rattle.std.proofs.lemmas.Bool.{eqb-true, eq-eqb, ne_eqb, or_parts, or_cases, or_left, or_right, and_parts, cond_both, true≢false}
use Rattle.std.proofs.lemmas.List.Folds.{list_any-append}
use Rattle.rx_rules.proofs.Common.{ScopeId, Tree, is_finish, chain_in, wants, on_chain, is_scope, change_first, is_on, until}
use Rattle.rx_rules.specs.declared.tasks.Scope.{Scope}

pub record Bone : Type 0 where
  pub number : ℕ
  pub parent : Option ℕ
  pub finish : Bool

abbrev pub scope_number : ScopeId → ℕ
scope_number s = s.0

abbrev pub bone : Scope → Bone
bone g = record { number = g.number.0; parent = option_map scope_number g.parent; finish = is_finish g.kind }

abbrev pub bones : Tree → List Bone
bones T = map bone T.scopes

abbrev pub wanted : Option ℕ → Bone → Bool
wanted None b = false
wanted (Some n) b = b.number == n

abbrev pub line : List Bone → Option ℕ → List Bone
line [] w = []
line (b ∷ bs) w = cond (wanted w b) (b ∷ line bs b.parent) (line bs w)

abbrev pub nums : List Bone → List ℕ
nums [] = []
nums (b ∷ bs) = b.number ∷ nums bs

abbrev pub has_finish : List Bone → Bool
has_finish bs = list_any (λ b. b.finish) bs

-- the numbers fall, from below n
abbrev pub Falls : ℕ → List Bone → Type 0
Falls n [] = Unit {0}
Falls n (b ∷ bs) = (b.number < n) × Falls b.number bs

pub wants-bone : (w : Option ScopeId) (g : Scope) → wants w g ≡ wanted (option_map scope_number w) (bone g)
wants-bone None g = refl
wants-bone (Some s) g = refl

-- chains of the tree are lines of its bones
pub chain-bones : (gs : List Scope) (w : Option ScopeId) → map bone (chain_in gs w) ≡ line (map bone gs) (option_map scope_number w)
chain-bones [] w = refl
chain-bones (g ∷ gs) w = chain_step g gs w (wants w g) refl (chain-bones gs g.parent) (chain-bones gs w) where
  chain_step : (g : Scope) (gs : List Scope) (w : Option ScopeId) (x : Bool) → wants w g ≡ x → map bone (chain_in gs g.parent) ≡ line (map bone gs) (option_map scope_number g.parent) → map bone (chain_in gs w) ≡ line (map bone gs) (option_map scope_number w) → map bone (chain_in (g ∷ gs) w) ≡ line (map bone (g ∷ gs)) (option_map scope_number w)
  chain_step g gs w true e up on = rw (e, sym (wants-bone w g) ∙ e) (ap (λ l. bone g ∷ l) up)
  chain_step g gs w false e up on = rw (e, sym (wants-bone w g) ∙ e) on

any-is_scope : (s : ScopeId) (gs : List Scope) → list_any (is_scope s) gs ≡ is_on s.0 (nums (map bone gs))
any-is_scope s [] = refl
any-is_scope s (g ∷ gs) = ap (λ x. (g.number.0 == s.0) || x) (any-is_scope s gs)

pub on_chain-line : (T : Tree) (s from : ScopeId) → on_chain T s from ≡ is_on s.0 (nums (line (bones T) (Some from.0)))
on_chain-line T s from = any-is_scope s (chain_in T.scopes (Some from)) ∙ ap (λ l. is_on s.0 (nums l)) (chain-bones T.scopes (Some from))

-- numbers that stand are below n
pub has-below : (n k : ℕ) (bs : List Bone) → Falls n bs → is_on k (nums bs) ≡ true → k < n
has-below n k [] f h = cc
has-below n k (b ∷ bs) f h =
    elim (or_cases (b.number == k) (is_on k (nums bs)) h) [
      | inl e ↦ let same : b.number ≡ k = eqb-true b.number k e in let low : b.number < n = f.0 in omega arith
      | inr e ↦ let low : b.number < n = f.0 in let lower : k < b.number = has-below b.number k bs f.1 e in omega arith
    ]

-- what stands on a line stands
line_step-in : (b : Bone) (bs : List Bone) (w : Option ℕ) (k : ℕ) (x : Bool) → wanted w b ≡ x → (is_on k (nums (line bs b.parent)) ≡ true → is_on k (nums bs) ≡ true) → (is_on k (nums (line bs w)) ≡ true → is_on k (nums bs) ≡ true) → is_on k (nums (line (b ∷ bs) w)) ≡ true → is_on k (nums (b ∷ bs)) ≡ true
line_step-in b bs w k true e up on h =
    let g : ((b.number == k) || is_on k (nums (line bs b.parent))) ≡ true = rw e at h in
    elim (or_cases (b.number == k) (is_on k (nums (line bs b.parent))) g) [
      | inl here ↦ or_left (b.number == k) (is_on k (nums bs)) here
      | inr there ↦ or_right (b.number == k) (is_on k (nums bs)) (up there)
    ]
line_step-in b bs w k false e up on h =
    or_right (b.number == k) (is_on k (nums bs)) (on (rw e at h))

pub line-in : (bs : List Bone) (w : Option ℕ) (k : ℕ) → is_on k (nums (line bs w)) ≡ true → is_on k (nums bs) ≡ true
line-in [] w k h = h
line-in (b ∷ bs) w k h = line_step-in b bs w k (wanted w b) refl (line-in bs b.parent k) (line-in bs w k) h

-- a line that passes k goes on as the line from k

abbrev Splits : List Bone → Option ℕ → ℕ → Type 0
Splits bs w k = nums (line bs w) ≡ until k (nums (line bs w)) ++ nums (line bs (Some k))

split_step : (b : Bone) (bs : List Bone) (w : Option ℕ) (k : ℕ) (x y : Bool) → wanted w b ≡ x → (b.number == k) ≡ y → (is_on k (nums (line bs b.parent)) ≡ true → Splits bs b.parent k) → (is_on k (nums (line bs w)) ≡ true → Splits bs w k) → (is_on k (nums (line bs w)) ≡ true → (b.number == k) ≡ false) → is_on k (nums (line (b ∷ bs) w)) ≡ true → Splits (b ∷ bs) w k
split_step b bs w k true true ex ey up on below h = rw (ex, ey)
split_step b bs w k true false ex ey up on below h =
    let there : is_on k (nums (line bs b.parent)) ≡ true = rw (ex, ey) at h in
    rw (ex, ey) (ap (λ l. b.number ∷ l) (up there))
split_step b bs w k false true ex ey up on below h =
    let there : is_on k (nums (line bs w)) ≡ true = rw ex at h in
    absurd (true≢false (sym ey ∙ below there))
split_step b bs w k false false ex ey up on below h =
    let there : is_on k (nums (line bs w)) ≡ true = rw ex at h in
    rw (ex, ey) (on there)

pub split-line : (n : ℕ) (bs : List Bone) → Falls n bs → (w : Option ℕ) (k : ℕ) → is_on k (nums (line bs w)) ≡ true → nums (line bs w) ≡ until k (nums (line bs w)) ++ nums (line bs (Some k))
split-line n [] f w k h = cc
split-line n (b ∷ bs) f w k h =
    split_step b bs w k (wanted w b) (b.number == k) refl refl (split-line b.number bs f.1 b.parent k) (split-line b.number bs f.1 w k)
    (λ there. ne_eqb b.number k (λ same. let low : k < b.number = has-below b.number k bs f.1 (line-in bs w k there) in omega arith))
    h

-- what a line from k has, a line that passes k has
pub line_on : (n : ℕ) (bs : List Bone) → Falls n bs → (w : Option ℕ) (k s : ℕ) → is_on k (nums (line bs w)) ≡ true → is_on s (nums (line bs w)) ≡ false → is_on s (nums (line bs (Some k))) ≡ false
line_on n bs f w k s h none =
    let e = split-line n bs f w k h in
    let parts : (is_on s (until k (nums (line bs w))) || is_on s (nums (line bs (Some k)))) ≡ false = sym (list_any-append (λ g. g == s) (until k (nums (line bs w))) (nums (line bs (Some k)))) ∙ ap (is_on s) (sym e) ∙ none in
    (or_parts (is_on s (until k (nums (line bs w)))) (is_on s (nums (line bs (Some k)))) parts).1

-- where s is on the line and not on the line from k, it stands before k
pub before_on : (n : ℕ) (bs : List Bone) → Falls n bs → (w : Option ℕ) (k s : ℕ) → is_on k (nums (line bs w)) ≡ true → is_on s (nums (line bs w)) ≡ true → is_on s (nums (line bs (Some k))) ≡ false → is_on s (until k (nums (line bs w))) ≡ true
before_on n bs f w k s h all none =
    let e = split-line n bs f w k h in
    let parts : (is_on s (until k (nums (line bs w))) || is_on s (nums (line bs (Some k)))) ≡ true = sym (list_any-append (λ g. g == s) (until k (nums (line bs w))) (nums (line bs (Some k)))) ∙ ap (is_on s) (sym e) ∙ all in
    elim (or_cases (is_on s (until k (nums (line bs w)))) (is_on s (nums (line bs (Some k)))) parts) [
      | inl e ↦ e
      | inr e ↦ absurd (true≢false (sym e ∙ none))
    ]

-- Scopes that go.

filter_step : (keep : Bone → Bool) (b : Bone) (bs : List Bone) (w : Option ℕ) (x y : Bool) → wanted w b ≡ x → keep b ≡ y → (wanted w b ≡ true → keep b ≡ true) → (wanted w b ≡ true → line (filter keep bs) b.parent ≡ line bs b.parent) → (wanted w b ≡ false → line (filter keep bs) w ≡ line bs w) → line (filter keep (b ∷ bs)) w ≡ line (b ∷ bs) w
filter_step keep b bs w true true ex ey kept up on = rw (ey, ex) (ap (λ l. b ∷ l) (up ex))
filter_step keep b bs w true false ex ey kept up on = absurd (true≢false (sym (kept ex) ∙ ey))
filter_step keep b bs w false true ex ey kept up on = rw (ey, ex) (on ex)
filter_step keep b bs w false false ex ey kept up on = rw (ey, ex) (on ex)

-- a line all of whose scopes stay is the same among those that stay
pub line-filter : (keep : Bone → Bool) (bs : List Bone) (w : Option ℕ) → list_all keep (line bs w) ≡ true → line (filter keep bs) w ≡ line bs w
line-filter keep [] w h = refl
line-filter keep (b ∷ bs) w h =
    filter_step keep b bs w (wanted w b) (keep b) refl refl
    (λ e. let g : (keep b && list_all keep (line bs b.parent)) ≡ true = rw e at h in (and_parts (keep b) (list_all keep (line bs b.parent)) g).0)
    (λ e. let g : (keep b && list_all keep (line bs b.parent)) ≡ true = rw e at h in line-filter keep bs b.parent (and_parts (keep b) (list_all keep (line bs b.parent)) g).1)
    (λ e. line-filter keep bs w (rw e at h))

pub falls-weaker : (n m : ℕ) (bs : List Bone) → n ≤ m → Falls n bs → Falls m bs
falls-weaker n m [] h f = tt
falls-weaker n m (b ∷ bs) h f = (let low : b.number < n = f.0 in omega arith, f.1)

pub falls-filter : (keep : Bone → Bool) (n : ℕ) (bs : List Bone) → Falls n bs → Falls n (filter keep bs)
falls-filter keep n [] f = tt
falls-filter keep n (b ∷ bs) f =
    cond_both (keep b) (b ∷ filter keep bs) (filter keep bs) (Falls n) (λ e. (f.0, falls-filter keep b.number bs f.1))
    (λ e. falls-weaker b.number n (filter keep bs) (let low : b.number < n = f.0 in omega arith) (falls-filter keep b.number bs f.1))

-- a number that still stands stood before and passes
pub has-filter : (test : ℕ → Bool) (bs : List Bone) (k : ℕ) → is_on k (nums (filter (λ b. test b.number) bs)) ≡ true → (is_on k (nums bs) ≡ true) × (test k ≡ true)
has-filter test [] k h = cc
has-filter test (b ∷ bs) k h = filter_has_step test b bs k (test b.number) refl (has-filter test bs k) h where
  filter_has_step : (test : ℕ → Bool) (b : Bone) (bs : List Bone) (k : ℕ) (x : Bool) → test b.number ≡ x → (is_on k (nums (filter (λ b. test b.number) bs)) ≡ true → (is_on k (nums bs) ≡ true) × (test k ≡ true)) → is_on k (nums (filter (λ b. test b.number) (b ∷ bs))) ≡ true → (is_on k (nums (b ∷ bs)) ≡ true) × (test k ≡ true)
  filter_has_step test b bs k true e on h =
      let g : ((b.number == k) || is_on k (nums (filter (λ b. test b.number) bs))) ≡ true = rw e at h in
      elim (or_cases (b.number == k) (is_on k (nums (filter (λ b. test b.number) bs))) g) [
        | inl here ↦ (or_left (b.number == k) (is_on k (nums bs)) here, subst (λ n. test n ≡ true) (eqb-true b.number k here) e)
        | inr there ↦ (or_right (b.number == k) (is_on k (nums bs)) (on there).0, (on there).1)
      ]
  filter_has_step test b bs k false e on h =
      let r = on (rw e at h) in (or_right (b.number == k) (is_on k (nums bs)) r.0, r.1)

-- a change of a scope that keeps its bone changes no bone
pub bones-change : (p : Scope → Bool) (f : Scope → Scope) → ((g : Scope) → bone (f g) ≡ bone g) → (gs : List Scope) → map bone (change_first p f gs) ≡ map bone gs
bones-change p f same [] = refl
bones-change p f same (g ∷ gs) =
    cond_both (p g) (f g ∷ gs) (g ∷ change_first p f gs) (λ l. map bone l ≡ map bone (g ∷ gs)) (λ e. ap (λ x. x ∷ map bone gs) (same g))
    (λ e. ap (λ l. bone g ∷ l) (bones-change p f same gs))

pub bones-filter : (test : ℕ → Bool) (gs : List Scope) → map bone (filter (λ g. test g.number.0) gs) ≡ filter (λ b. test b.number) (map bone gs)
bones-filter test [] = refl
bones-filter test (g ∷ gs) = bones_filter_step test g gs (test g.number.0) refl (bones-filter test gs) where
  bones_filter_step : (test : ℕ → Bool) (g : Scope) (gs : List Scope) (x : Bool) → test g.number.0 ≡ x → map bone (filter (λ g. test g.number.0) gs) ≡ filter (λ b. test b.number) (map bone gs) → map bone (filter (λ g. test g.number.0) (g ∷ gs)) ≡ filter (λ b. test b.number) (map bone (g ∷ gs))
  bones_filter_step test g gs true e ih = rw e (ap (λ l. bone g ∷ l) ih)
  bones_filter_step test g gs false e ih = rw e ih

-- what a search among the scopes finds stands
pub find-stands : (p : Scope → Bool) (gs : List Scope) (g : Scope) → find p gs ≡ Some g → is_on g.number.0 (nums (map bone gs)) ≡ true
find-stands p [] g h = cc
find-stands p (x ∷ gs) g h = find_step p x gs g (p x) refl (find-stands p gs g) h where
  find_step : (p : Scope → Bool) (x : Scope) (gs : List Scope) (g : Scope) (b : Bool) → p x ≡ b → (find p gs ≡ Some g → is_on g.number.0 (nums (map bone gs)) ≡ true) → find p (x ∷ gs) ≡ Some g → is_on g.number.0 (nums (map bone (x ∷ gs))) ≡ true
  find_step p x gs g true e on h =
      let same : x ≡ g = let k : Some x ≡ Some g = rw e at h in cc in
      or_left (x.number.0 == g.number.0) (is_on g.number.0 (nums (map bone gs))) (eq-eqb x.number.0 g.number.0 (ap (λ (v : Scope). v.number.0) same))
  find_step p x gs g false e on h = or_right (x.number.0 == g.number.0) (is_on g.number.0 (nums (map bone gs))) (on (rw e at h))
