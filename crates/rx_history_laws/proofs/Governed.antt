-- The finish that governs a task, among the bones of the tree: what stands no further in than a finish of the chain stands on
-- the chain of the governing finish.
use Rattle.std.proofs.Common.{◌≡◌, ℕ, ◌<◌, ◌≤◌, Bool, true, false, cond, ◌==◌, List, [], ◌∷◌, map, Option, Some, None, refl, ap, sym, subst, ◌∙◌, arith, inl, inr}
use Rattle.std.specs.List.{find}
use Rattle.std.proofs.lemmas.Bool.{eqb-true, eq-eqb, ne_eqb, or_cases, or_left, or_right, true≢false}
use Rattle.rx_rules.proofs.Common.{ScopeId, Tree, is_finish, chain_in, the_root, inner, governs, is_on}
use Rattle.rx_rules.specs.declared.tasks.Task.{Task}
use Rattle.rx_rules.specs.declared.tasks.Scope.{Scope}
use Rattle.rx_history_laws.proofs.Lines.{Bone, bone, bones, wanted, line, nums, Falls, has-below, line-in, chain-bones}

abbrev pub first_num : List Bone → ℕ
first_num [] = 0
first_num (b ∷ bs) = cond b.finish b.number (first_num bs)

first_of_scopes : (gs : List Scope) → (elim (find (λ g. is_finish g.kind) gs) as (λ _. ScopeId) [ Some g ↦ g.number | None ↦ the_root ]).0 ≡ first_num (map bone gs)
first_of_scopes [] = refl
first_of_scopes (g ∷ gs) = by_kind g gs (is_finish g.kind) refl (first_of_scopes gs) where
  by_kind : (g : Scope) (gs : List Scope) (y : Bool) → is_finish g.kind ≡ y → (elim (find (λ g. is_finish g.kind) gs) as (λ _. ScopeId) [ Some g ↦ g.number | None ↦ the_root ]).0 ≡ first_num (map bone gs) → (elim (find (λ g. is_finish g.kind) (g ∷ gs)) as (λ _. ScopeId) [ Some g ↦ g.number | None ↦ the_root ]).0 ≡ first_num (map bone (g ∷ gs))
  by_kind g gs true e ih = rw e
  by_kind g gs false e ih = rw e ih

pub governs-first : (T : Tree) (x : Task) → (governs T x).0 ≡ first_num (line (bones T) (Some (inner T x).0))
governs-first T x =
    first_of_scopes (chain_in T.scopes (Some (inner T x))) ∙ ap first_num (chain-bones T.scopes (Some (inner T x)))

-- each bone with this number is a finish
abbrev pub AreFinish : ℕ → List Bone → Type 0
AreFinish m [] = Unit {0}
AreFinish m (b ∷ bs) = (b.number ≡ m → b.finish ≡ true) × AreFinish m bs

-- it stands further out, where the head is no finish
skips : (b : Bone) (l : List Bone) (m : ℕ) → b.finish ≡ false → (b.number ≡ m → b.finish ≡ true) → is_on m (nums (b ∷ l)) ≡ true → is_on m (nums l) ≡ true
skips b l m e f h =
    elim (or_cases (b.number == m) (is_on m (nums l)) h) [
      | inl y ↦ absurd (true≢false (sym (f (eqb-true b.number m y)) ∙ e))
      | inr y ↦ y
    ]

line_here : (b : Bone) (bs : List Bone) (w : Option ℕ) → wanted w b ≡ true → line (b ∷ bs) w ≡ b ∷ line bs b.parent
line_here b bs w e = rw e

line_there : (b : Bone) (bs : List Bone) (w : Option ℕ) → wanted w b ≡ false → line (b ∷ bs) w ≡ line bs w
line_there b bs w e = rw e

first_here : (b : Bone) (l : List Bone) → b.finish ≡ true → first_num (b ∷ l) ≡ b.number
first_here b l e = rw (e, first_num)

first_there : (b : Bone) (l : List Bone) → b.finish ≡ false → first_num (b ∷ l) ≡ first_num l
first_there b l e = rw (e, first_num)

abbrev HasFirst : List Bone → Type 0
HasFirst l = is_on (first_num l) (nums l) ≡ true

first_step : (b : Bone) (bs : List Bone) (w : Option ℕ) (m : ℕ) (y z : Bool) → wanted w b ≡ y → b.finish ≡ z → (b.number ≡ m → b.finish ≡ true) → (is_on m (nums (line bs b.parent)) ≡ true → HasFirst (line bs b.parent)) → (is_on m (nums (line bs w)) ≡ true → HasFirst (line bs w)) → is_on m (nums (line (b ∷ bs) w)) ≡ true → HasFirst (line (b ∷ bs) w)
first_step b bs w m true true e k f up on h =
    subst HasFirst (sym (line_here b bs w e))
    (subst (λ n. is_on n (nums (b ∷ line bs b.parent)) ≡ true) (sym (first_here b (line bs b.parent) k)) (or_left (b.number == b.number) (is_on b.number (nums (line bs b.parent))) (eq-eqb b.number b.number refl)))
first_step b bs w m true false e k f up on h =
    let g : is_on m (nums (b ∷ line bs b.parent)) ≡ true = rw e at h in
    subst HasFirst (sym (line_here b bs w e))
    (subst (λ n. is_on n (nums (b ∷ line bs b.parent)) ≡ true) (sym (first_there b (line bs b.parent) k)) (or_right (b.number == first_num (line bs b.parent)) (is_on (first_num (line bs b.parent)) (nums (line bs b.parent))) (up (skips b (line bs b.parent) m k f g))))
first_step b bs w m false z e k f up on h = subst HasFirst (sym (line_there b bs w e)) (on (rw e at h))

first-in : (B : List Bone) (w : Option ℕ) (m : ℕ) → AreFinish m B → is_on m (nums (line B w)) ≡ true → is_on (first_num (line B w)) (nums (line B w)) ≡ true
first-in [] w m f h = cc
first-in (b ∷ bs) w m f h =
    first_step b bs w m (wanted w b) b.finish refl refl f.0 (first-in bs b.parent m f.1) (first-in bs w m f.1) h

-- a line from a bone's number, below another bone
other_line : (b : Bone) (bs : List Bone) (g s : ℕ) (y : Bool) → (b.number == g) ≡ y → (y ≡ true → is_on s (nums (line bs b.parent)) ≡ true) → (y ≡ false → is_on s (nums (line bs (Some g))) ≡ true) → is_on s (nums (line (b ∷ bs) (Some g))) ≡ true
other_line b bs g s true e up on = rw e (or_right (b.number == s) (is_on s (nums (line bs b.parent))) (up refl))
other_line b bs g s false e up on = rw e (on refl)

abbrev IsOuter : List Bone → ℕ → List Bone → Type 0
IsOuter B s l = is_on s (nums (line B (Some (first_num l)))) ≡ true

outer_step : (b : Bone) (bs : List Bone) (w : Option ℕ) (m s : ℕ) (y z : Bool) → wanted w b ≡ y → b.finish ≡ z → Falls b.number bs → s ≤ m → (b.number ≡ m → b.finish ≡ true) → AreFinish m bs → (is_on m (nums (line bs b.parent)) ≡ true → is_on s (nums (line bs b.parent)) ≡ true → IsOuter bs s (line bs b.parent)) → (is_on m (nums (line bs w)) ≡ true → is_on s (nums (line bs w)) ≡ true → IsOuter bs s (line bs w)) → is_on m (nums (line (b ∷ bs) w)) ≡ true → is_on s (nums (line (b ∷ bs) w)) ≡ true → IsOuter (b ∷ bs) s (line (b ∷ bs) w)
outer_step b bs w m s true true ew ef falls le f rest up on hm hs =
    let g : is_on s (nums (b ∷ line bs b.parent)) ≡ true = rw ew at hs in
    let same : line (b ∷ bs) (Some b.number) ≡ b ∷ line bs b.parent = line_here b bs (Some b.number) (eq-eqb b.number b.number refl) in
    subst (IsOuter (b ∷ bs) s) (sym (line_here b bs w ew))
    (subst (λ n. is_on s (nums (line (b ∷ bs) (Some n))) ≡ true) (sym (first_here b (line bs b.parent) ef)) (subst (λ l. is_on s (nums l) ≡ true) (sym same) g))
outer_step b bs w m s true false ew ef falls le f rest up on hm hs =
    let gm : is_on m (nums (line bs b.parent)) ≡ true = skips b (line bs b.parent) m ef f (rw ew at hm) in
    let low : m < b.number = has-below b.number m bs falls (line-in bs b.parent m gm) in
    let gs : is_on s (nums (line bs b.parent)) ≡ true = elim (or_cases (b.number == s) (is_on s (nums (line bs b.parent))) (rw ew at hs)) [
      | inl y ↦ absurd (let e : b.number ≡ s = eqb-true b.number s y in omega arith)
      | inr y ↦ y
    ] in
    subst (IsOuter (b ∷ bs) s) (sym (line_here b bs w ew))
    (subst (λ n. is_on s (nums (line (b ∷ bs) (Some n))) ≡ true) (sym (first_there b (line bs b.parent) ef))
    (other_line b bs (first_num (line bs b.parent)) s (b.number == first_num (line bs b.parent)) refl (λ e. gs) (λ e. up gm gs)))
outer_step b bs w m s false z ew ef falls le f rest up on hm hs =
    let gm : is_on m (nums (line bs w)) ≡ true = rw ew at hm in
    let gs : is_on s (nums (line bs w)) ≡ true = rw ew at hs in
    let low : first_num (line bs w) < b.number = has-below b.number (first_num (line bs w)) bs falls (line-in bs w (first_num (line bs w)) (first-in bs w m rest gm)) in
    let other : (b.number == first_num (line bs w)) ≡ false = ne_eqb b.number (first_num (line bs w)) (λ e. omega arith) in
    subst (IsOuter (b ∷ bs) s) (sym (line_there b bs w ew))
    (other_line b bs (first_num (line bs w)) s (b.number == first_num (line bs w)) refl (λ e. absurd (true≢false (sym e ∙ other))) (λ e. on gm gs))

pub outer : (k : ℕ) (B : List Bone) → Falls k B → (w : Option ℕ) (m s : ℕ) → AreFinish m B → s ≤ m → is_on m (nums (line B w)) ≡ true → is_on s (nums (line B w)) ≡ true → is_on s (nums (line B (Some (first_num (line B w))))) ≡ true
outer k [] falls w m s f le hm hs = cc
outer k (b ∷ bs) falls w m s f le hm hs =
    outer_step b bs w m s (wanted w b) b.finish refl refl falls.1 le f.0 f.1 (outer b.number bs falls.1 b.parent m s f.1 le) (outer b.number bs falls.1 w m s f.1 le) hm hs

-- what a line from s has beyond s is below s
tail_step : (b : Bone) (bs : List Bone) (s n : ℕ) (l : List ℕ) (y : Bool) → (b.number == s) ≡ y → Falls b.number bs → (nums (line bs (Some s)) ≡ s ∷ l → is_on n l ≡ true → n < s) → nums (line (b ∷ bs) (Some s)) ≡ s ∷ l → is_on n l ≡ true → n < s
tail_step b bs s n l true e falls on h k =
    let g : b.number ∷ nums (line bs b.parent) ≡ s ∷ l = rw e at h in
    let same : b.number ≡ s = eqb-true b.number s e in
    let it : nums (line bs b.parent) ≡ l = cc in
    let low : n < b.number = has-below b.number n bs falls (line-in bs b.parent n (ap (is_on n) it ∙ k)) in
    omega arith
tail_step b bs s n l false e falls on h k = on (rw e at h) k

pub tail-below : (k : ℕ) (B : List Bone) → Falls k B → (s n : ℕ) (l : List ℕ) → nums (line B (Some s)) ≡ s ∷ l → is_on n l ≡ true → n < s
tail-below k [] falls s n l h m = cc
tail-below k (b ∷ bs) falls s n l h m = tail_step b bs s n l (b.number == s) refl falls.1 (tail-below b.number bs falls.1 s n l) h m
