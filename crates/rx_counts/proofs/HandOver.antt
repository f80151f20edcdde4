-- One scope gives its counts away.
use Rattle.std.proofs.Common.{◌≡◌, ℕ, ◌<◌, ◌+◌, Bool, true, false, cond, ◌&&◌, ◌==◌, not, List, [], ◌∷◌, Option, Some, None, count_by, refl, sym, ap, ◌∙◌, subst, arith}
use Rattle.std.specs.List.{find}
use Rattle.std.proofs.lemmas.Bool.{eqb-true, eq-eqb, ne_eqb, true≢false}
use Rattle.rx_rules.proofs.Common.{has_number, ScopeId, is_scope, wants}
use Rattle.std.proofs.Math.Bool.{and-false, and-true}
use Rattle.rx_tree_laws.proofs.Releasing.{each_all}
use Rattle.rx_rules.specs.declared.tasks.Task.{Task}
use Rattle.rx_rules.specs.declared.tasks.Scope.{Scope}
use Rattle.rx_tree_laws.specs.Chains.{Falls}
use Rattle.rx_counts.specs.Keeping.{keeper, is_number, kept_at}
use Rattle.rx_tree_laws.specs.Sound.{Each}
use Rattle.rx_counts.proofs.Counting.{one, count_split, count_none, count_same}

-- all keep as before but scope h
abbrev pub but : ScopeId → (Scope → Bool) → Scope → Bool
but h keeps g = keeps g && not (is_scope h g)

-- a keeper is a scope of the list
pub keeper_older : (keeps : Scope → Bool) (n m : ℕ) (gs : List Scope) (want : Option ScopeId) → Falls n gs → is_number m (keeper keeps gs want) ≡ true → m < n
keeper_older keeps n m [] want f e = absurd (true≢false (sym e))
keeper_older keeps n m (g ∷ gs) want f e =
    let below : g.number.0 < n = f.0 in
    (elim (wants want g) as (λ a. is_number m (cond a (cond (keeps g) (Some g.number.0) (keeper keeps gs g.parent)) (keeper keeps gs want)) ≡ true → m < n) [
      | true ↦ λ e2.
          (elim (keeps g) as (λ b. is_number m (cond b (Some g.number.0) (keeper keeps gs g.parent)) ≡ true → m < n) [
            | true ↦ λ e3. let same : g.number.0 ≡ m = eqb-true g.number.0 m e3 in omega arith
            | false ↦ λ e3. let r : m < g.number.0 = keeper_older keeps g.number.0 m gs g.parent f.1 e3 in omega arith
          ]) e2
      | false ↦ λ e2. let r : m < g.number.0 = keeper_older keeps g.number.0 m gs want f.1 e2 in omega arith
    ]) e

-- and it keeps counts
pub keeper_keeps : (keeps : Scope → Bool) (n m : ℕ) (gs : List Scope) (want : Option ScopeId) (g : Scope) → Falls n gs → keeper keeps gs want ≡ Some m → find (has_number m) gs ≡ Some g → keeps g ≡ true
keeper_keeps keeps n m [] want g f e found = cc
keeper_keeps keeps n m (k ∷ ks) want g f e found =
    (elim (wants want k) as (λ a. cond a (cond (keeps k) (Some k.number.0) (keeper keeps ks k.parent)) (keeper keeps ks want) ≡ Some m → keeps g ≡ true) [
      | true ↦ λ e2.
          (elim (keeps k) as (λ b. keeps k ≡ b → cond b (Some k.number.0) (keeper keeps ks k.parent) ≡ Some m → keeps g ≡ true) [
            | true ↦ λ live e3.
                let num : k.number.0 ≡ m = cc in
                let first : Some k ≡ Some g = sym (ap (λ b. cond b (Some k) (find (has_number m) ks)) (eq-eqb k.number.0 m num)) ∙ found in
                let same : k ≡ g = cc in
                subst (λ (v : Scope). keeps v ≡ true) same live
            | false ↦ λ live e3. keeper_keeps keeps k.number.0 m ks k.parent g f.1 e3 (further k ks m g (keeper_older keeps k.number.0 m ks k.parent f.1 (ap (is_number m) e3 ∙ eq-eqb m m refl)) found)
          ]) refl e2
      | false ↦ λ e2. keeper_keeps keeps k.number.0 m ks want g f.1 e2 (further k ks m g (keeper_older keeps k.number.0 m ks want f.1 (ap (is_number m) e2 ∙ eq-eqb m m refl)) found)
    ]) e
  where
    further : (k : Scope) (ks : List Scope) (m : ℕ) (g : Scope) → m < k.number.0 → find (has_number m) (k ∷ ks) ≡ Some g → find (has_number m) ks ≡ Some g
    further k ks m g low found = sym (ap (λ b. cond b (Some k) (find (has_number m) ks)) (ne_eqb k.number.0 m (λ q. absurd (omega arith)))) ∙ found

-- where the walk from h goes once h keeps nothing
abbrev pub heir : (Scope → Bool) → List Scope → ScopeId → Option ℕ
heir keeps gs h = keeper (but h keeps) gs (Some h)

heir_skips : (keeps : Scope → Bool) (g : Scope) (gs : List Scope) (h : ScopeId) (o : Option ℕ) → Falls g.number.0 gs → (is_number h.0 o ≡ true → h.0 < g.number.0) → cond (is_number h.0 o) (heir keeps gs h) o ≡ cond (is_number h.0 o) (heir keeps (g ∷ gs) h) o
heir_skips keeps g gs h o f low =
    (elim (is_number h.0 o) as (λ b. (b ≡ true → h.0 < g.number.0) → cond b (heir keeps gs h) o ≡ cond b (heir keeps (g ∷ gs) h) o) [
      | true ↦ λ k. let w : h.0 < g.number.0 = k refl in let e : g.number.0 == h.0 ≡ false = ne_eqb g.number.0 h.0 (λ q. absurd (omega arith)) in rw e
      | false ↦ λ k. refl
    ]) low

-- the keeper once h keeps nothing: the heir of h where it was h, and else the same
pub keeper_but : (keeps : Scope → Bool) (h : ScopeId) (n : ℕ) (gs : List Scope) (want : Option ScopeId) → Falls n gs → keeper (but h keeps) gs want ≡ cond (is_number h.0 (keeper keeps gs want)) (heir keeps gs h) (keeper keeps gs want)
keeper_but keeps h n [] want f = refl
keeper_but keeps h n (g ∷ gs) want f =
    elim (wants want g) as (λ a. cond a (cond (but h keeps g) (Some g.number.0) (keeper (but h keeps) gs g.parent)) (keeper (but h keeps) gs want) ≡ cond (is_number h.0 (cond a (cond (keeps g) (Some g.number.0) (keeper keeps gs g.parent)) (keeper keeps gs want))) (heir keeps (g ∷ gs) h) (cond a (cond (keeps g) (Some g.number.0) (keeper keeps gs g.parent)) (keeper keeps gs want))) [
      | true ↦
          (elim (keeps g) as (λ b. keeps g ≡ b → cond (b && not (is_scope h g)) (Some g.number.0) (keeper (but h keeps) gs g.parent) ≡ cond (is_number h.0 (cond b (Some g.number.0) (keeper keeps gs g.parent))) (heir keeps (g ∷ gs) h) (cond b (Some g.number.0) (keeper keeps gs g.parent))) [
            | true ↦ λ k.
                (elim (g.number.0 == h.0) as (λ c. g.number.0 == h.0 ≡ c → cond (not c) (Some g.number.0) (keeper (but h keeps) gs g.parent) ≡ cond c (heir keeps (g ∷ gs) h) (Some g.number.0)) [
                  | true ↦ λ e. rw (e, k)
                  | false ↦ λ e. refl
                ]) refl
            | false ↦ λ k. keeper_but keeps h g.number.0 gs g.parent f.1 ∙ heir_skips keeps g gs h (keeper keeps gs g.parent) f.1 (λ e. keeper_older keeps g.number.0 h.0 gs g.parent f.1 e)
          ]) refl
      | false ↦ keeper_but keeps h g.number.0 gs want f.1 ∙ heir_skips keeps g gs h (keeper keeps gs want) f.1 (λ e. keeper_older keeps g.number.0 h.0 gs want f.1 e)
    ]

-- h is nobody's keeper any more
pub never_but : (keeps : Scope → Bool) (h : ScopeId) (gs : List Scope) (want : Option ScopeId) → is_number h.0 (keeper (but h keeps) gs want) ≡ false
never_but keeps h [] want = refl
never_but keeps h (g ∷ gs) want =
    elim (wants want g) as (λ a. is_number h.0 (cond a (cond (but h keeps g) (Some g.number.0) (keeper (but h keeps) gs g.parent)) (keeper (but h keeps) gs want)) ≡ false) [
      | true ↦
          elim (keeps g) as (λ b. is_number h.0 (cond (b && not (is_scope h g)) (Some g.number.0) (keeper (but h keeps) gs g.parent)) ≡ false) [
            | true ↦
                (elim (g.number.0 == h.0) as (λ c. g.number.0 == h.0 ≡ c → is_number h.0 (cond (not c) (Some g.number.0) (keeper (but h keeps) gs g.parent)) ≡ false) [
                  | true ↦ λ e. never_but keeps h gs g.parent
                  | false ↦ λ e. e
                ]) refl
            | false ↦ never_but keeps h gs g.parent
          ]
      | false ↦ never_but keeps h gs want
    ]

-- a task is counted at s once h keeps nothing where it was counted there, or was counted at h and s is the heir
pub moved : (h s : ℕ) (o r : Option ℕ) (b : Bool) → (s ≡ h → ⊥) → one (b && is_number s (cond (is_number h o) r o)) ≡ one (b && is_number s o) + one ((b && is_number h o) && is_number s r)
moved h s None r true apart = refl
moved h s (Some m) r true apart =
    (elim (m == h) as (λ c. m == h ≡ c → one (is_number s (cond c r (Some m))) ≡ one (m == s) + one (c && is_number s r)) [
      | true ↦ λ e. let same : m ≡ h = eqb-true m h e in let other : m == s ≡ false = ne_eqb m s (λ q. apart (omega arith)) in rw other (omega arith)
      | false ↦ λ e. omega arith
    ]) refl
moved h s o r false apart = refl

-- For any property p of tasks, as "unstruck and at w", or "lost at p": the count at s once h keeps nothing.
pub count_moved : (p : Task → Bool) (keeps : Scope → Bool) (h : ScopeId) (s n : ℕ) (gs : List Scope) (ts : List Task) → Falls n gs → (s ≡ h.0 → ⊥) → count_by (λ x. p x && kept_at (but h keeps) gs s x) ts ≡ count_by (λ x. p x && kept_at keeps gs s x) ts + count_by (λ x. (p x && kept_at keeps gs h.0 x) && is_number s (heir keeps gs h)) ts
count_moved p keeps h s n gs ts f apart =
    count_split
    (λ x. p x && kept_at (but h keeps) gs s x)
    (λ x. p x && kept_at keeps gs s x)
    (λ x. (p x && kept_at keeps gs h.0 x) && is_number s (heir keeps gs h))
    ts
    (each_all _ (λ (x : Task). ap (λ o. one (p x && is_number s o)) (keeper_but keeps h n gs (Some x.under) f) ∙ moved h.0 s (keeper keeps gs (Some x.under)) (heir keeps gs h) (p x) apart) ts)

-- the part that moves is the whole count of h at the heir, and nothing elsewhere
pub moves_all : (p : Task → Bool) (ts : List Task) (b : Bool) → b ≡ true → count_by (λ x. p x && b) ts ≡ count_by p ts
moves_all p ts b e = count_same (λ x. p x && b) p ts (each_all _ (λ (x : Task). ap (λ c. p x && c) e ∙ and-true (p x)) ts)

pub moves_none : (p : Task → Bool) (ts : List Task) (b : Bool) → b ≡ false → count_by (λ x. p x && b) ts ≡ 0
moves_none p ts b e = count_none (λ x. p x && b) ts (each_all _ (λ (x : Task). ap (λ c. p x && c) e ∙ and-false (p x)) ts)

-- what the heir gets
pub count_heir : (p : Task → Bool) (keeps : Scope → Bool) (h : ScopeId) (s n : ℕ) (gs : List Scope) (ts : List Task) → Falls n gs → (s ≡ h.0 → ⊥) → is_number s (heir keeps gs h) ≡ true → count_by (λ x. p x && kept_at (but h keeps) gs s x) ts ≡ count_by (λ x. p x && kept_at keeps gs s x) ts + count_by (λ x. p x && kept_at keeps gs h.0 x) ts
count_heir p keeps h s n gs ts f apart e =
    let a = count_moved p keeps h s n gs ts f apart in
    let b = moves_all (λ x. p x && kept_at keeps gs h.0 x) ts (is_number s (heir keeps gs h)) e in
    omega arith

-- the counts of the others stay
pub count_other : (p : Task → Bool) (keeps : Scope → Bool) (h : ScopeId) (s n : ℕ) (gs : List Scope) (ts : List Task) → Falls n gs → (s ≡ h.0 → ⊥) → is_number s (heir keeps gs h) ≡ false → count_by (λ x. p x && kept_at (but h keeps) gs s x) ts ≡ count_by (λ x. p x && kept_at keeps gs s x) ts
count_other p keeps h s n gs ts f apart e =
    let a = count_moved p keeps h s n gs ts f apart in
    let b = moves_none (λ x. p x && kept_at keeps gs h.0 x) ts (is_number s (heir keeps gs h)) e in
    omega arith

-- h has none
pub count_left : (p : Task → Bool) (keeps : Scope → Bool) (h : ScopeId) (gs : List Scope) (ts : List Task) → count_by (λ x. p x && kept_at (but h keeps) gs h.0 x) ts ≡ 0
count_left p keeps h gs ts =
    count_none (λ x. p x && kept_at (but h keeps) gs h.0 x) ts (each_all _ (λ (x : Task). ap (λ c. p x && c) (never_but keeps h gs (Some x.under)) ∙ and-false (p x)) ts)

-- keepers depend on nothing but which scopes of the list keep
pub keeper_same : (p q : Scope → Bool) (gs : List Scope) (want : Option ScopeId) → Each (λ g. p g ≡ q g) gs → keeper p gs want ≡ keeper q gs want
keeper_same p q [] want h = refl
keeper_same p q (g ∷ gs) want h =
    ap (λ b. cond (wants want g) (cond b (Some g.number.0) (keeper p gs g.parent)) (keeper p gs want)) h.0
    ∙ ap (λ o. cond (wants want g) (cond (q g) (Some g.number.0) o) (keeper p gs want)) (keeper_same p q gs g.parent h.1)
    ∙ ap (λ o. cond (wants want g) (cond (q g) (Some g.number.0) (keeper q gs g.parent)) o) (keeper_same p q gs want h.1)
