-- How many scopes a release takes, and how many of them have a number below another.
use Rattle.std.proofs.Common.{◌≡◌, ℕ, min, ◌<◌, ◌≤◌, ◌+◌, ◌-◌, Bool, true, false, cond, ◌||◌, ◌&&◌, ◌==◌, not, ltb, List, [], ◌∷◌, Option, Some, None, count_by, refl, sym, ap, ◌∙◌, subst, arith, ⊎_elim}
use Rattle.std.specs.List.{find}
use Rattle.std.specs.Global.{Box}
use Rattle.std.proofs.lemmas.Bool.{eqb-true, eq-eqb, ne_eqb, true≢false, lt-ltb, cases_eq, cases_lt}
use Rattle.std.proofs.Math.Bool.{and-false, and-true}
use Rattle.rx_rules.proofs.Common.{ScopeId, Tree, is_scope, on_chain, quiet, masked_under, has_number}
use Rattle.rx_base.proofs.Elements.{find-passes}
use Rattle.rx_base.proofs.SameIds.{scope-is}
use Rattle.rx_rules.specs.declared.tasks.Scope.{Scope}
use Rattle.rx_tree_laws.specs.Chains.{meets, Falls}
use Rattle.rx_tree_laws.specs.Sound.{Each, Sound}
use Rattle.rx_tree_laws.proofs.Changes.{each_found, each_more}
use Rattle.rx_tree_laws.proofs.Releasing.{each_all, each_below, each_both, each_none, on_meets}
use Rattle.rx_tree_laws.proofs.Parents.{met_found}
use Rattle.rx_tree_laws.proofs.Reached.{sound}
use Rattle.rx_counts.specs.declared.record.Record.{Record}
use Rattle.rx_counts.specs.declared.ledger.CountLedger.{CountLedger}
use Rattle.rx_counts.specs.Keeping.{stands_home, keeper, is_number, is_orphan, orphans_of, faults_in, masked_of}
use Rattle.rx_counts.specs.Stands.{ShapeOf, StandsFor, record_at}
use Rattle.rx_counts.specs.Inside.Freeing.{IsLast, ScopesBelow, parent_gone}
use Rattle.rx_counts.proofs.Counting.{one, count_cons, count_split, count_none, none_counted, sum_same, sum_where}
use Rattle.rx_counts.proofs.Walks.{keeper_step}
use Rattle.rx_counts.proofs.Shapes.{both_none, shape_in}
use Rattle.rx_counts.proofs.Telling.{keeper_meets}
use Rattle.rx_counts.proofs.Lasting.{kept_here}
use Rattle.rx_counts.proofs.Asking.{shaped}
use Rattle.rx_counts.proofs.Released.{met_own}
use Rattle.rx_counts.proofs.Sweeping.{goes_now, meets_step, none_before}

-- how many of the scopes that go with s have a number below i
abbrev pub taken_below : ScopeId → List Scope → ℕ → ℕ
taken_below s gs i = count_by (λ g. meets s gs (Some g.number) && ltb g.number.0 i) gs

-- each scope is found by its number
pub each_stands : (n : ℕ) (gs : List Scope) → Falls n gs → Each (λ g. find (is_scope g.number) gs ≡ Some g) gs
each_stands n [] f = tt
each_stands n (g ∷ gs) f = (
  ap (λ b. cond b (Some g) (find (is_scope g.number) gs)) (eq-eqb g.number.0 g.number.0 refl),
  each_more (λ k. (k.number.0 < g.number.0) × (find (is_scope k.number) gs ≡ Some k)) (λ k. find (is_scope k.number) (g ∷ gs) ≡ Some k)
      (λ k b. ap (λ c. cond c (Some g) (find (is_scope k.number) gs))
      (ne_eqb g.number.0 k.number.0 (λ e. let lt : k.number.0 < g.number.0 = b.0 in absurd (omega arith))) ∙ b.1)
      gs (each_both (λ k. k.number.0 < g.number.0) (λ k. find (is_scope k.number) gs ≡ Some k) gs (each_below g.number.0 gs f.1)
      (each_stands g.number.0 gs f.1)),
)

-- Of one number there is one scope, or none.

pub count_missing : (p : Scope → Bool) (i : ℕ) (gs : List Scope) → find (has_number i) gs ≡ None
    → count_by (λ g. p g && has_number i g) gs ≡ 0
count_missing p i [] e = refl
count_missing p i (g ∷ gs) e =
    let a = count_cons (λ k. p k && has_number i k) g gs in
    (elim (has_number i g) as (λ b. has_number i g ≡ b → cond b (Some g) (find (has_number i) gs) ≡ None
    → count_by (λ k. p k && has_number i k) (g ∷ gs) ≡ 0) [
      | true ↦ λ k v. cc
      | false ↦ λ k v.
          let c : one (p g && has_number i g) ≡ 0 = ap (λ b. one (p g && b)) k ∙ ap one (and-false (p g)) in
          let d = count_missing p i gs v in
          omega arith
    ]) refl e

pub count_found : (p : Scope → Bool) (i n : ℕ) (gs : List Scope) (g : Scope) → Falls n gs → find (has_number i) gs ≡ Some g
    → count_by (λ k. p k && has_number i k) gs ≡ one (p g)
count_found p i n [] g f e = cc
count_found p i n (h ∷ hs) g f e =
    let a = count_cons (λ k. p k && has_number i k) h hs in
    (elim (has_number i h) as (λ b. has_number i h ≡ b → cond b (Some h) (find (has_number i) hs) ≡ Some g
    → count_by (λ k. p k && has_number i k) (h ∷ hs) ≡ one (p g)) [
      | true ↦ λ k v.
          let same : h ≡ g = cc in
          let num : h.number.0 ≡ i = eqb-true h.number.0 i k in
          let c : one (p h && has_number i h) ≡ one (p g) = ap (λ b. one (p h && b)) k ∙ ap one (and-true (p h))
          ∙ ap (λ x. one (p x)) same in
          let d : count_by (λ k. p k && has_number i k) hs ≡ 0 =
          count_none (λ k. p k && has_number i k) hs
          (each_more (λ x. x.number.0 < h.number.0) (λ x. p x && has_number i x ≡ false) (λ x lt. ap (λ b. p x && b)
          (ne_eqb x.number.0 i (λ q. absurd (omega arith))) ∙ and-false (p x)) hs (each_below h.number.0 hs f.1)) in
          omega arith
      | false ↦ λ k v.
          let c : one (p h && has_number i h) ≡ 0 = ap (λ b. one (p h && b)) k ∙ ap one (and-false (p h)) in
          let d = count_found p i h.number.0 hs g f.1 v in
          omega arith
    ]) refl e

-- One number more.

not_below : (m i : ℕ) → i ≤ m → ltb m i ≡ false
not_below m i le = grind arith

one_number : (a : Bool) (m i : ℕ) → one (a && ltb m (i + 1)) ≡ one (a && ltb m i) + one (a && (m == i))
one_number false m i = refl
one_number true m i =
    ⊎_elim
    (λ (k : m ≡ i). rw (lt-ltb m (i + 1) (omega arith), not_below m i (omega arith), eq-eqb m i k) refl)
    (λ (k : m ≡ i → ⊥).
    ⊎_elim
    (λ (lt : m < i). rw (lt-ltb m (i + 1) (omega arith), lt-ltb m i lt, ne_eqb m i k) refl)
    (λ (le : i ≤ m). rw (not_below m (i + 1) (over m i k le), not_below m i le, ne_eqb m i k) refl)
    (cases_lt m i))
    (cases_eq m i)
  where
    over : (m i : ℕ) → (m ≡ i → ⊥) → i ≤ m → i + 1 ≤ m
    over m i k le = ⊎_elim (λ (a : i < m). omega arith) (λ (b : m ≤ i). absurd (k (omega arith))) (cases_lt i m)

taken_on : (s : ScopeId) (gs : List Scope) (i : ℕ) → taken_below s gs (i + 1)
    ≡ taken_below s gs i + count_by (λ g. meets s gs (Some g.number) && has_number i g) gs
taken_on s gs i =
    count_split (λ g. meets s gs (Some g.number) && ltb g.number.0 (i + 1)) (λ g. meets s gs (Some g.number) && ltb g.number.0 i)
    (λ g. meets s gs (Some g.number) && has_number i g) gs
    (each_all _ (λ (g : Scope). one_number (meets s gs (Some g.number)) g.number.0 i) gs)

-- whether the code drops the number is whether one more is taken
taken_here : (T : Tree) (rs ps : List (Option (Box Record))) (s u : ScopeId) (n : ℕ) (goes : Bool) → ScopesBelow T s n rs
    → (goes ≡ (u.0 == s.0 || parent_gone ps (record_at ps u.0))) → ((v : ScopeId) → v.0 < u.0
    → record_at ps v.0 ≡ cond (meets s T.scopes (Some v)) None (record_at rs v.0)) → record_at ps u.0 ≡ record_at rs u.0
    → count_by (λ g. meets s T.scopes (Some g.number) && has_number u.0 g) T.scopes ≡ one goes
taken_here T rs ps s u n goes h e below above =
    (elim (record_at rs u.0) as (λ o. record_at rs u.0 ≡ o
    → count_by (λ g. meets s T.scopes (Some g.number) && has_number u.0 g) T.scopes ≡ one goes) [
      | Some r ↦ λ k.
          let g = shape_in T rs u r h.shaped k in
          let num : g.0.number ≡ u = scope-is g.0.number u (eqb-true g.0.number.0 u.0 (find-passes (is_scope u) T.scopes g.0 g.1)) in
          let is : goes ≡ meets s T.scopes (Some u) = e ∙ ap (λ o. u.0 == s.0 || parent_gone ps o) (above ∙ k)
          ∙ goes_now T rs ps s u r h.shaped k below in
          count_found (λ g. meets s T.scopes (Some g.number)) u.0 T.next_scope T.scopes g.0 h.shaped.falls g.1
          ∙ ap (λ (v : ScopeId). one (meets s T.scopes (Some v))) num ∙ ap one (sym is)
      | None ↦ λ k.
          let missing : find (has_number u.0) T.scopes ≡ None =
          both_none (ShapeOf T.scopes) (record_at rs u.0) (find (has_number u.0) T.scopes) (h.shaped.shapes u.0) k in
          let is : goes ≡ (u.0 == s.0 || false) = e ∙ ap (λ o. u.0 == s.0 || parent_gone ps o) (above ∙ k) in
          let apart : u.0 == s.0 ≡ false = ne_eqb u.0 s.0 (λ q.
          let f = met_found s T.scopes s h.stands in
          let m : find (is_scope s) T.scopes ≡ None = subst (λ (v : ℕ). find (has_number v) T.scopes ≡ None) q missing in cc) in
          count_missing (λ g. meets s T.scopes (Some g.number)) u.0 T.scopes missing ∙ sym (ap one (is ∙ ap (λ b. b || false) apart))
    ]) refl

-- The number that is left, before the first turn and in each.

pub left_first : (T : Tree) (rs : List (Option (Box Record))) (s : ScopeId) (n : ℕ) → ScopesBelow T s n rs
    → n + 1 + taken_below s T.scopes s.0 ≡ n + 1
left_first T rs s n h =
    let a : taken_below s T.scopes s.0 ≡ 0 =
    count_none (λ g. meets s T.scopes (Some g.number) && ltb g.number.0 s.0) T.scopes
    (each_all _ (λ (g : Scope).
    ⊎_elim
    (λ (lt : g.number.0 < s.0). ap (λ b. b && ltb g.number.0 s.0) (none_before T rs s g.number h.shaped lt))
    (λ (le : s.0 ≤ g.number.0). ap (λ b. meets s T.scopes (Some g.number) && b) (not_below g.number.0 s.0 le)
    ∙ and-false (meets s T.scopes (Some g.number)))
    (cases_lt g.number.0 s.0))
    T.scopes) in
    omega arith

pub left_on : (T : Tree) (rs ps : List (Option (Box Record))) (s : ScopeId) (i n left took : ℕ) (goes : Bool) → ScopesBelow T s n rs
    → (goes ≡ (i == s.0 || parent_gone ps (record_at ps i))) → ((v : ScopeId) → v.0 < i
    → record_at ps v.0 ≡ cond (meets s T.scopes (Some v)) None (record_at rs v.0)) → ((m : ℕ) → i ≤ m
    → record_at ps m ≡ record_at rs m) → took ≡ cond goes 1 0 → (left ≡ 0 → ⊥) → left + taken_below s T.scopes i ≡ n + 1
    → left - took + taken_below s T.scopes (i + 1) ≡ n + 1
left_on T rs ps s i n left took goes h e below above many some sum =
    let a = taken_on s T.scopes i in
    let u : ScopeId = record { 0 = i } in
    let b : count_by (λ g. meets s T.scopes (Some g.number) && has_number i g) T.scopes ≡ one goes =
    taken_here T rs ps s u n goes h e below (above i (omega arith)) in
    let c : one goes ≤ 1 = at_most goes in
    let d : 0 < left = ⊎_elim (λ (lt : 0 < left). lt) (λ (le : left ≤ 0). absurd (some (omega arith))) (cases_lt 0 left) in
    omega arith
  where
    at_most : (b : Bool) → one b ≤ 1
    at_most true = omega arith
    at_most false = omega arith

-- none is left: who has a number from i on stays
pub none_left : (T : Tree) (rs ps : List (Option (Box Record))) (s : ScopeId) (i n left : ℕ) → ScopesBelow T s n rs → ((v : ScopeId)
    → v.0 < i → record_at ps v.0 ≡ cond (meets s T.scopes (Some v)) None (record_at rs v.0)) → ((m : ℕ) → i ≤ m
    → record_at ps m ≡ record_at rs m) → left ≡ 0 → left + taken_below s T.scopes i ≡ n + 1 → (u : ScopeId)
    → record_at ps u.0 ≡ cond (meets s T.scopes (Some u)) None (record_at rs u.0)
none_left T rs ps s i n left h below above zero sum u =
    ⊎_elim
    (λ (lt : u.0 < i). below u lt)
    (λ (le : i ≤ u.0).
    above u.0 le ∙ (elim (record_at rs u.0) as (λ o. record_at rs u.0 ≡ o → o ≡ cond (meets s T.scopes (Some u)) None o) [
      | Some r ↦ λ k. let g = shape_in T rs u r h.shaped k in sym (ap (λ b. cond b None (Some r)) (stays g.0 g.1 le))
      | None ↦ λ k. both_nothing (meets s T.scopes (Some u))
    ]) refl)
    (cases_lt u.0 i)
  where
    both_nothing : (b : Bool) → None ≡ cond {A = Option Record} b None None
    both_nothing true = refl
    both_nothing false = refl

    two : (a b : Bool) → one a ≡ one (a && b) + one (a && not b)
    two true true = refl
    two true false = refl
    two false b = refl

    first_false : (a b : Bool) → a && not b ≡ false → b ≡ false → a ≡ false
    first_false true b e k = let q = rw k at e in absurd (true≢false q)
    first_false false b e k = refl

    stays : (g : Scope) → find (is_scope u) T.scopes ≡ Some g → i ≤ u.0 → meets s T.scopes (Some u) ≡ false
    stays g found le =
        let num : g.number ≡ u = scope-is g.number u (eqb-true g.number.0 u.0 (find-passes (is_scope u) T.scopes g found)) in
        let parts =
        count_split (λ k. meets s T.scopes (Some k.number)) (λ k. meets s T.scopes (Some k.number) && ltb k.number.0 i)
        (λ k. meets s T.scopes (Some k.number) && not (ltb k.number.0 i)) T.scopes
        (each_all _ (λ (k : Scope). two (meets s T.scopes (Some k.number)) (ltb k.number.0 i)) T.scopes) in
        let all : count_by (λ k. meets s T.scopes (Some k.number)) T.scopes ≡ n + 1 = h.many in
        let rest : count_by (λ k. meets s T.scopes (Some k.number) && not (ltb k.number.0 i)) T.scopes ≡ 0 = omega arith in
        let here : meets s T.scopes (Some g.number) && not (ltb g.number.0 i) ≡ false =
        each_found (λ k. meets s T.scopes (Some k.number) && not (ltb k.number.0 i) ≡ false) (is_scope u) T.scopes g
        (none_counted (λ k. meets s T.scopes (Some k.number) && not (ltb k.number.0 i)) T.scopes rest) found in
        ap (λ (v : ScopeId). meets s T.scopes (Some v)) (sym num) ∙ first_false (meets s T.scopes (Some g.number))
        (ltb g.number.0 i) here (not_below g.number.0 i (subst (λ (v : ScopeId). i ≤ v.0) (sym num) le))

-- What a release takes is the scope and its orphans.

one_more : (T : Tree) (s : ScopeId) (g : Scope) (h : Sound T) (i : IsLast T s) → quiet T s ≡ true
    → find (is_scope g.number) T.scopes ≡ Some g → is_scope s g && not (stands_home T.dead g) ≡ false
    → one (meets s T.scopes (Some g.number)) ≡ one (is_orphan (stands_home T.dead) T.scopes s.0 g) + one (true && has_number s.0 g)
one_more T s g h i still found own =
    let keeps : Scope → Bool = stands_home T.dead in
    let walk : keeper keeps T.scopes (Some g.number) ≡ cond (keeps g) (Some g.number.0) (keeper keeps T.scopes g.parent) =
    keeper_step T.tasks keeps T.next_scope T.scopes g.number g h.falls h.opened found in
    let step : meets s T.scopes (Some g.number) ≡ (g.number.0 == s.0 || meets s T.scopes g.parent) =
    meets_step T.tasks T.next_scope T.scopes s g.number g h.falls h.opened found in
    (elim (meets s T.scopes (Some g.number)) as (λ m. meets s T.scopes (Some g.number) ≡ m
    → one m ≡ one (is_orphan keeps T.scopes s.0 g) + one (g.number.0 == s.0)) [
      | true ↦ λ m.
          let here : is_number s.0 (keeper keeps T.scopes (Some g.number)) ≡ true = kept_here T s h i still g.number m in
          (elim (keeps g) as (λ b. keeps g ≡ b
          → 1 ≡ one (not b && is_number s.0 (keeper keeps T.scopes (Some g.number))) + one (g.number.0 == s.0)) [
            | true ↦ λ k. let is : g.number.0 == s.0 ≡ true =
                sym (ap (is_number s.0) (walk ∙ ap (λ b. cond b (Some g.number.0) (keeper keeps T.scopes g.parent)) k)) ∙ here in rw is refl
            | false ↦ λ k. let apart : g.number.0 == s.0 ≡ false = first (g.number.0 == s.0) (keeps g) own k in rw (here, apart) refl
          ]) refl
      | false ↦ λ m.
          let apart : g.number.0 == s.0 ≡ false = left_false (g.number.0 == s.0) (meets s T.scopes g.parent) (sym step ∙ m) in
          let none : is_number s.0 (keeper keeps T.scopes (Some g.number)) ≡ false =
          false_where (is_number s.0 (keeper keeps T.scopes (Some g.number))) (λ e. true≢false (sym (keeper_meets keeps s T.scopes (Some g.number) e) ∙ m)) in
          rw (none, apart, and-false (not (keeps g))) refl
    ]) refl
  where
    first : (a b : Bool) → a && not b ≡ false → b ≡ false → a ≡ false
    first true b e k = let q = rw k at e in absurd (true≢false q)
    first false b e k = refl

    left_false : (a b : Bool) → a || b ≡ false → a ≡ false
    left_false true b e = e
    left_false false b e = refl

    false_where : (a : Bool) → (a ≡ true → ⊥) → a ≡ false
    false_where true k = absurd (k refl)
    false_where false k = refl

-- So what a release masks are the faults of the orphans.

and_not : (a b c : Bool) → one a ≡ one b + one c → a && not c ≡ b
and_not true true false e = refl
and_not true false true e = refl
and_not false false false e = refl
and_not true true true e = absurd (omega arith)
and_not true false false e = absurd (omega arith)
and_not false true c e = absurd (let k : 0 ≡ 1 + one c = e in omega arith)
and_not false false true e = absurd (omega arith)

each_known : (T : Tree) (s : ScopeId) → Sound T → IsLast T s → Each (λ g. (find (is_scope g.number) T.scopes ≡ Some g) × (is_scope s g && not (stands_home T.dead g) ≡ false)) T.scopes
each_known T s h i =
    each_both (λ g. find (is_scope g.number) T.scopes ≡ Some g) (λ g. is_scope s g && not (stands_home T.dead g) ≡ false) T.scopes
    (each_stands T.next_scope T.scopes h.falls) (each_none (λ g. is_scope s g && not (stands_home T.dead g)) T.scopes i.keeps_it)

pub masked_named : (T : Tree) (s : ScopeId) → Sound T → IsLast T s → quiet T s ≡ true
    → masked_under T s ≡ masked_of (stands_home T.dead) T.scopes s.0
masked_named T s h i still =
    let keeps : Scope → Bool = stands_home T.dead in
    ap (min 4294967295)
    (sum_where faults_in (λ g. on_chain T s g.number && not (is_scope s g)) T.scopes
    ∙ sum_same (λ g. cond (on_chain T s g.number && not (is_scope s g)) (faults_in g) 0)
    (λ g. cond (is_orphan keeps T.scopes s.0 g) (faults_in g) 0) T.scopes
    (each_more (λ g. (find (is_scope g.number) T.scopes ≡ Some g) × (is_scope s g && not (keeps g) ≡ false))
    (λ g. cond (on_chain T s g.number && not (is_scope s g)) (faults_in g) 0 ≡ cond (is_orphan keeps T.scopes s.0 g) (faults_in g) 0)
    (λ g b. ap (λ v. cond v (faults_in g) 0)
    (ap (λ v. v && not (is_scope s g)) (on_meets s T.scopes (Some g.number))
    ∙ and_not (meets s T.scopes (Some g.number)) (is_orphan keeps T.scopes s.0 g) (is_scope s g) (one_more T s g h i still b.0 b.1)))
    T.scopes (each_known T s h i)))

pub takes : {room : ℕ} (l : CountLedger) (T : Tree) (s : ScopeId) (n : ℕ) → StandsFor l room T → IsLast T s → quiet T s ≡ true
    → n ≡ orphans_of (stands_home T.dead) T.scopes s.0 → ScopesBelow T s n l.scopes
takes l T s n st i still e =
    let h : Sound T = sound st.reached in
    let keeps : Scope → Bool = stands_home T.dead in
    let a = count_split (λ g. meets s T.scopes (Some g.number)) (is_orphan keeps T.scopes s.0) (λ g. true && has_number s.0 g) T.scopes
    (each_more (λ g. (find (is_scope g.number) T.scopes ≡ Some g) × (is_scope s g && not (keeps g) ≡ false))
    (λ g. one (meets s T.scopes (Some g.number)) ≡ one (is_orphan keeps T.scopes s.0 g) + one (true && has_number s.0 g))
    (λ g b. one_more T s g h i still b.0 b.1) T.scopes (each_known T s h i)) in
    let b : count_by (λ g. true && has_number s.0 g) T.scopes ≡ 1 =
    count_found (λ g. true) s.0 T.next_scope T.scopes i.scope h.falls i.stands in
    let c : count_by (is_orphan keeps T.scopes s.0) T.scopes ≡ n = sym e in
    record { shaped = shaped l T st; stands = met_own T s i; many = omega arith }
