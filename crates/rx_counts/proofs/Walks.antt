-- Walks along parents, on lists of scopes that change.
use Rattle.std.proofs.Common.{◌≡◌, ℕ, ◌<◌, ◌≤◌, Bool, true, false, cond, ◌||◌, ◌&&◌, ◌==◌, not, List, [], ◌∷◌, Option, Some, None, is_some, option_map, filter, refl, sym, ap, ◌∙◌, subst, arith}
use Rattle.std.specs.List.{find, list_any}
use Rattle.std.proofs.lemmas.Bool.{eqb-true, eq-eqb, true≢false, and_parts, or_parts}
use Rattle.std.proofs.Math.Bool.{and-true}
use Rattle.rx_tree_laws.proofs.Below.{found_low}
use Rattle.rx_rules.proofs.Common.{Fault, TaskId, ScopeId, is_scope, wants, the_root, chain_in, change_first, has_number}
use Rattle.rx_rules.specs.declared.tasks.Task.{Task}
use Rattle.rx_rules.specs.declared.tasks.Scope.{Scope}
use Rattle.rx_tree_laws.specs.Chains.{meets, Falls, HasOpener, Opened}
use Rattle.rx_tree_laws.specs.Sound.{Each}
use Rattle.rx_tree_laws.proofs.Chains.{met_start, skips}
use Rattle.rx_tree_laws.proofs.Releasing.{passes}
use Rattle.rx_tree_laws.proofs.Stay.{faulted, wants_faulted}
use Rattle.rx_counts.specs.Keeping.{keeper}

-- a walk through a filtered list
pub keeper_filter : (q keeps : Scope → Bool) (gs : List Scope) (want : Option ScopeId) → passes q gs want ≡ true → keeper keeps (filter q gs) want ≡ keeper keeps gs want
keeper_filter q keeps [] want h = refl
keeper_filter q keeps (g ∷ gs) want h =
    (elim (wants want g) as (λ a. wants want g ≡ a → cond a (q g && passes q gs g.parent) (passes q gs want) ≡ true → keeper keeps (cond (q g) (g ∷ filter q gs) (filter q gs)) want ≡ cond a (cond (keeps g) (Some g.number.0) (keeper keeps gs g.parent)) (keeper keeps gs want)) [
      | true ↦ λ w k.
          let parts = and_parts (q g) (passes q gs g.parent) k in
          rw (parts.0, w) (ap (cond (keeps g) (Some g.number.0)) (keeper_filter q keeps gs g.parent parts.1))
      | false ↦ λ w k.
          elim (q g) as (λ b. keeper keeps (cond b (g ∷ filter q gs) (filter q gs)) want ≡ keeper keeps gs want) [
            | true ↦ rw w (keeper_filter q keeps gs want k)
            | false ↦ keeper_filter q keeps gs want k
          ]
    ]) refl h

pub keeper_skips : (keeps : Scope → Bool) (g : Scope) (gs : List Scope) (u : ScopeId) → u.0 < g.number.0 → keeper keeps (g ∷ gs) (Some u) ≡ keeper keeps gs (Some u)
keeper_skips keeps g gs u h = rw (skips g u h)

abbrev pub OlderThan : ℕ → Option ScopeId → Type 0
OlderThan n None = Unit {0}
OlderThan n (Some r) = r.0 < n

older_parent : (ts : List Task) (g : Scope) (gs : List Scope) (o : Option TaskId) (want : Option ScopeId) → g.parent ≡ want → Falls g.number.0 gs → HasOpener ts g gs o → OlderThan g.number.0 want
older_parent ts g gs o None e f h = tt
older_parent ts g gs None (Some r) e f h = let k = h.1 in cc
older_parent ts g gs (Some o) (Some r) e f h = met_start the_root g.number.0 gs r f (sym (ap (meets the_root gs) e) ∙ h.rooted)

pub parent_older : (ts : List Task) (p : Scope → Bool) (n : ℕ) (gs : List Scope) (g : Scope) → Falls n gs → Opened ts gs → find p gs ≡ Some g → OlderThan g.number.0 g.parent
parent_older ts p n [] g f o e = cc
parent_older ts p n (h ∷ hs) g f o e =
    (elim (p h) as (λ b. cond b (Some h) (find p hs) ≡ Some g → OlderThan g.number.0 g.parent) [
      | true ↦ λ k. let same : h ≡ g = cc in subst (λ (v : Scope). OlderThan v.number.0 v.parent) same (older_parent ts h hs h.opener h.parent refl f.1 o.0)
      | false ↦ λ k. parent_older ts p h.number.0 hs g f.1 o.1 k
    ]) e

keeper_older_skips : (keeps : Scope → Bool) (g : Scope) (gs : List Scope) (n : ℕ) (want : Option ScopeId) → OlderThan n want → n ≤ g.number.0 → keeper keeps (g ∷ gs) want ≡ keeper keeps gs want
keeper_older_skips keeps g gs n None h le = refl
keeper_older_skips keeps g gs n (Some r) h le = rw (skips g r (let a : r.0 < n = h in omega arith))

pub keeper_step : (ts : List Task) (keeps : Scope → Bool) (n : ℕ) (gs : List Scope) (s : ScopeId) (g : Scope) → Falls n gs → Opened ts gs → find (is_scope s) gs ≡ Some g → keeper keeps gs (Some s) ≡ cond (keeps g) (Some s.0) (keeper keeps gs g.parent)
keeper_step ts keeps n [] s g f o e = cc
keeper_step ts keeps n (h ∷ hs) s g f o e =
    (elim (is_scope s h) as (λ b. is_scope s h ≡ b → cond b (Some h) (find (is_scope s) hs) ≡ Some g → cond b (cond (keeps h) (Some h.number.0) (keeper keeps hs h.parent)) (keeper keeps hs (Some s)) ≡ cond (keeps g) (Some s.0) (keeper keeps (h ∷ hs) g.parent)) [
      | true ↦ λ q k.
          let same : h ≡ g = cc in
          let num : h.number.0 ≡ s.0 = eqb-true h.number.0 s.0 q in
          let old : OlderThan h.number.0 h.parent = older_parent ts h hs h.opener h.parent refl f.1 o.0 in
          subst (λ (v : Scope). cond (keeps h) (Some h.number.0) (keeper keeps hs h.parent) ≡ cond (keeps v) (Some s.0) (keeper keeps (h ∷ hs) v.parent)) same
          (ap (λ m. cond (keeps h) (Some m) (keeper keeps hs h.parent)) num ∙ ap (cond (keeps h) (Some s.0)) (sym (keeper_older_skips keeps h hs h.number.0 h.parent old (omega arith))))
      | false ↦ λ q k.
          let low : g.number.0 < h.number.0 = found_low (is_scope s) h.number.0 hs g f.1 k in
          keeper_step ts keeps h.number.0 hs s g f.1 o.1 k ∙ ap (cond (keeps g) (Some s.0)) (sym (keeper_older_skips keeps h hs g.number.0 g.parent (parent_older ts (is_scope s) h.number.0 hs g f.1 o.1 k) (omega arith)))
    ]) refl e

pub keeper_missing : (keeps : Scope → Bool) (gs : List Scope) (s : ScopeId) → find (is_scope s) gs ≡ None → keeper keeps gs (Some s) ≡ None
keeper_missing keeps [] s e = refl
keeper_missing keeps (g ∷ gs) s e =
    (elim (is_scope s g) as (λ b. cond b (Some g) (find (is_scope s) gs) ≡ None → cond b (cond (keeps g) (Some g.number.0) (keeper keeps gs g.parent)) (keeper keeps gs (Some s)) ≡ None) [
      | true ↦ λ k. cc
      | false ↦ λ k. keeper_missing keeps gs s k
    ]) e

pub keeper_nothing : (keeps : Scope → Bool) (gs : List Scope) → keeper keeps gs None ≡ None
keeper_nothing keeps [] = refl
keeper_nothing keeps (g ∷ gs) = keeper_nothing keeps gs

older_more : (n m : ℕ) (want : Option ScopeId) → n ≤ m → OlderThan n want → OlderThan m want
older_more n m None le h = tt
older_more n m (Some r) le h = let a : r.0 < n = h in omega arith

wanted_number : (m : ℕ) (want : Option ScopeId) (g : Scope) → OlderThan m want → wants want g ≡ true → g.number.0 < m
wanted_number m None g h e = absurd (true≢false (sym e))
wanted_number m (Some r) g h e = let a : r.0 < m = h in let b : g.number.0 ≡ r.0 = eqb-true g.number.0 r.0 e in omega arith

pub keeper_low : (ts : List Task) (p q : Scope → Bool) (n m : ℕ) (gs : List Scope) (want : Option ScopeId) → Falls n gs → Opened ts gs → OlderThan m want → Each (λ g. g.number.0 < m → p g ≡ q g) gs → keeper p gs want ≡ keeper q gs want
keeper_low ts p q n m [] want f o low same = refl
keeper_low ts p q n m (g ∷ gs) want f o low same =
    (elim (wants want g) as (λ a. wants want g ≡ a → cond a (cond (p g) (Some g.number.0) (keeper p gs g.parent)) (keeper p gs want) ≡ cond a (cond (q g) (Some g.number.0) (keeper q gs g.parent)) (keeper q gs want)) [
      | true ↦ λ e.
          let num : g.number.0 < m = wanted_number m want g low e in
          let up : OlderThan m g.parent = older_more g.number.0 m g.parent (omega arith) (older_parent ts g gs g.opener g.parent refl f.1 o.0) in
          ap (λ b. cond b (Some g.number.0) (keeper p gs g.parent)) (same.0 num) ∙ ap (cond (q g) (Some g.number.0)) (keeper_low ts p q g.number.0 m gs g.parent f.1 o.1 up same.1)
      | false ↦ λ e. keeper_low ts p q g.number.0 m gs want f.1 o.1 low same.1
    ]) refl

-- Where the root stands and its home lives, each walk that meets it has a keeper, and the keeper stands.

pub keeper_exists : (keeps : Scope → Bool) (gs : List Scope) (want : Option ScopeId) → list_any (λ g. is_scope the_root g && not (keeps g)) gs ≡ false → meets the_root gs want ≡ true → is_some (keeper keeps gs want) ≡ true
keeper_exists keeps [] want k m = absurd (true≢false (sym m))
keeper_exists keeps (g ∷ gs) want k m =
    let parts = or_parts (is_scope the_root g && not (keeps g)) (list_any (λ g. is_scope the_root g && not (keeps g)) gs) k in
    (elim (wants want g) as (λ a. cond a (is_scope the_root g || meets the_root gs g.parent) (meets the_root gs want) ≡ true → is_some (cond a (cond (keeps g) (Some g.number.0) (keeper keeps gs g.parent)) (keeper keeps gs want)) ≡ true) [
      | true ↦ λ m2.
          (elim (keeps g) as (λ b. is_scope the_root g && not b ≡ false → is_some (cond b (Some g.number.0) (keeper keeps gs g.parent)) ≡ true) [
            | true ↦ λ q. refl
            | false ↦ λ q. keeper_exists keeps gs g.parent parts.1 (sym (ap (λ b. b || meets the_root gs g.parent) (sym (and-true (is_scope the_root g)) ∙ q)) ∙ m2)
          ]) parts.0
      | false ↦ λ m2. keeper_exists keeps gs want parts.1 m2
    ]) m

pub keeper_stands : (keeps : Scope → Bool) (k : ℕ) (gs : List Scope) (want : Option ScopeId) → keeper keeps gs want ≡ Some k → is_some (find (has_number k) gs) ≡ true
keeper_stands keeps k [] want e = cc
keeper_stands keeps k (g ∷ gs) want e =
    (elim (g.number.0 == k) as (λ b. g.number.0 == k ≡ b → is_some (cond b (Some g) (find (has_number k) gs)) ≡ true) [
      | true ↦ λ q. refl
      | false ↦ λ q.
          (elim (wants want g) as (λ a. cond a (cond (keeps g) (Some g.number.0) (keeper keeps gs g.parent)) (keeper keeps gs want) ≡ Some k → is_some (find (has_number k) gs) ≡ true) [
            | true ↦
                elim (keeps g) as (λ c. cond c (Some g.number.0) (keeper keeps gs g.parent) ≡ Some k → is_some (find (has_number k) gs) ≡ true) [
                  | true ↦ λ e2. let num : g.number.0 ≡ k = cc in absurd (true≢false (sym (eq-eqb g.number.0 k num) ∙ q))
                  | false ↦ λ e2. keeper_stands keeps k gs g.parent e2
                ]
            | false ↦ λ e2. keeper_stands keeps k gs want e2
          ]) e
    ]) refl

pub keeper_is : (p : Scope → Bool) (gs : List Scope) (want : Option ScopeId) → option_map (λ g. g.number.0) (find p (chain_in gs want)) ≡ keeper p gs want
keeper_is p [] want = refl
keeper_is p (g ∷ gs) want =
    elim (wants want g) as (λ a. option_map (λ g. g.number.0) (find p (cond a (g ∷ chain_in gs g.parent) (chain_in gs want))) ≡ cond a (cond (p g) (Some g.number.0) (keeper p gs g.parent)) (keeper p gs want)) [
      | true ↦
          elim (p g) as (λ b. option_map (λ g. g.number.0) (cond b (Some g) (find p (chain_in gs g.parent))) ≡ cond b (Some g.number.0) (keeper p gs g.parent)) [
            | true ↦ refl
            | false ↦ keeper_is p gs g.parent
          ]
      | false ↦ keeper_is p gs want
    ]

-- faults of scopes are not seen by a walk
module _ (b e : Scope → List Fault) (q keeps : Scope → Bool) (same : (g : Scope) → keeps (faulted b e g) ≡ keeps g) where
  pub keeper_faulted : (gs : List Scope) (want : Option ScopeId) → keeper keeps (change_first q (faulted b e) gs) want ≡ keeper keeps gs want
  keeper_faulted [] want = refl
  keeper_faulted (g ∷ gs) want =
      elim (q g) as (λ c. keeper keeps (cond c (faulted b e g ∷ gs) (g ∷ change_first q (faulted b e) gs)) want ≡ keeper keeps (g ∷ gs) want) [
        | true ↦ wants_faulted b e want g (cond (keeps (faulted b e g)) (Some g.number.0) (keeper keeps gs g.parent)) (keeper keeps gs want) ∙ ap (λ v. cond (wants want g) (cond v (Some g.number.0) (keeper keeps gs g.parent)) (keeper keeps gs want)) (same g)
        | false ↦ ap (λ v. cond (wants want g) (cond (keeps g) (Some g.number.0) v) (keeper keeps (change_first q (faulted b e) gs) want)) (keeper_faulted gs g.parent) ∙ ap (λ v. cond (wants want g) (cond (keeps g) (Some g.number.0) (keeper keeps gs g.parent)) v) (keeper_faulted gs want)
      ]
