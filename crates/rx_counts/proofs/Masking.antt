-- The masked numbers of the records.
use Rattle.std.proofs.Common.{◌≡◌, ℕ, min, ◌+◌, Bool, true, false, cond, ◌&&◌, ◌==◌, not, List, [], ◌∷◌, ◌++◌, Option, Some, None, IfSome, option_map, length, sum_by, refl, sym, ap, ◌∙◌, subst, arith, ⊎_elim}
use Rattle.std.specs.List.{find}
use Rattle.std.specs.Global.{Box}
use Rattle.std.proofs.lemmas.Bool.{eqb-true, eq-eqb, ne_eqb, true≢false, and_left, and_right, cases_eq}
use Rattle.std.proofs.lemmas.List.{length-append}
use Rattle.std.proofs.lemmas.List.Sums.{sum_by-cons}
use Rattle.rx_rules.proofs.Common.{Fault, ScopeId, Tree, is_scope, quiet, change_first, without, has_number}
use Rattle.rx_base.proofs.SameIds.{scope-is}
use Rattle.rx_base.proofs.Elements.{find-passes}
use Rattle.rx_rules.specs.declared.tasks.Task.{Task}
use Rattle.rx_rules.specs.declared.tasks.Scope.{Scope}
use Rattle.rx_tree_laws.specs.Chains.{meets, Falls, Opened}
use Rattle.rx_tree_laws.specs.Sound.{Sound, Each}
use Rattle.rx_tree_laws.proofs.Changes.{each_more}
use Rattle.rx_tree_laws.proofs.Releasing.{each_all}
use Rattle.rx_tree_laws.proofs.Stay.{faulted}
use Rattle.rx_counts.specs.declared.record.Sums.{Sums}
use Rattle.rx_counts.specs.declared.record.Record.{Record}
use Rattle.rx_counts.specs.Keeping.{stands_home, keeper, is_number, is_orphan, held, faults_in, masked_of}
use Rattle.rx_counts.specs.Stands.{AllMasked, Changed, ChangedBy, Pairs, Pushed, record_at, in_sums, masking}
use Rattle.rx_counts.specs.Inside.Freeing.{IsLast}
use Rattle.rx_counts.specs.Inside.Dying.{Emptied, Gained, given_by}
use Rattle.rx_counts.proofs.Counting.{sum_same}
use Rattle.rx_counts.proofs.HandOver.{but, heir, never_but, keeper_keeps, keeper_same}
use Rattle.rx_counts.proofs.Handing.{held_heir, held_other, held_left}
use Rattle.rx_counts.proofs.Lasting.{kept_here}
use Rattle.rx_counts.proofs.NewRecord.{held_further, held_new}
use Rattle.rx_counts.proofs.Released.{held_released, met_own}
use Rattle.rx_counts.proofs.Walks.{keeper_faulted, keeper_step}

-- Records that change.

abbrev HasMasked : (Scope → Bool) → List Scope → ℕ → Record → Type 0
HasMasked keeps gs n r = r.sums.masked ≡ masked_of keeps gs n

pub if_pairs : (R : Record → Record → Type 0) (P Q : Record → Type 0) (a c : Option Record) → ((r q : Record) → R r q → P r → Q q) → Pairs R a c → IfSome a P → IfSome c Q
if_pairs R P Q (Some r) (Some q) f p h = f r q p h
if_pairs R P Q (Some r) None f p h = absurd p
if_pairs R P Q None (Some q) f p h = absurd p
if_pairs R P Q None None f p h = tt

if_map : (f : Record → Record) (P Q : Record → Type 0) (a : Option Record) → ((r : Record) → a ≡ Some r → P r → Q (f r)) → IfSome a P → IfSome (option_map f a) Q
if_map f P Q (Some r) k h = k r refl h
if_map f P Q None k h = tt

if_more : (P Q : Record → Type 0) (a : Option Record) → ((r : Record) → P r → Q r) → IfSome a P → IfSome a Q
if_more P Q (Some r) k h = k r h
if_more P Q None k h = tt

-- where the masked numbers of the scopes are the same
pub masked_same : (keeps fresh : Scope → Bool) (gs hs : List Scope) (rs : List (Option (Box Record))) → ((n : ℕ) → held faults_in keeps gs n ≡ held faults_in fresh hs n) → AllMasked keeps gs rs → AllMasked fresh hs rs
masked_same keeps fresh gs hs rs same h n =
    if_more (HasMasked keeps gs n) (HasMasked fresh hs n) (record_at rs n) (λ r e. e ∙ ap (min 4294967295) (same n)) (h n)

-- and where the same scopes keep counts
pub masked_keeps : (p q : Scope → Bool) (gs : List Scope) (rs : List (Option (Box Record))) → Each (λ k. p k ≡ q k) gs → AllMasked p gs rs → AllMasked q gs rs
masked_keeps p q gs rs same h =
    masked_same p q gs gs rs
    (λ n. sum_same (λ k. cond (is_orphan p gs n k) (faults_in k) 0) (λ k. cond (is_orphan q gs n k) (faults_in k) 0) gs
    (each_more (λ k. p k ≡ q k) _ (λ (k : Scope) e. ap (λ b. cond (not b && is_number n (keeper p gs (Some k.number))) (faults_in k) 0) e ∙ ap (λ o. cond (not (q k) && is_number n o) (faults_in k) 0) (keeper_same p q gs (Some k.number) same)) gs same)) h

-- one record changes by f, and the masked numbers of the other scopes are the same
masked_one : (keeps fresh : Scope → Bool) (gs hs : List Scope) (f : Record → Record) (k : ℕ) (rs qs : List (Option (Box Record))) → ((r : Record) → record_at rs k ≡ Some r → HasMasked keeps gs k r → HasMasked fresh hs k (f r)) → ((n : ℕ) → (n ≡ k → ⊥) → held faults_in keeps gs n ≡ held faults_in fresh hs n) → Changed f k rs qs → AllMasked keeps gs rs → AllMasked fresh hs qs
masked_one keeps fresh gs hs f k rs qs here other c h n =
    ⊎_elim
    (λ (e : n ≡ k).
    subst (λ (m : ℕ). IfSome (record_at qs m) (HasMasked fresh hs m)) (sym e)
    (subst (λ o. IfSome o (HasMasked fresh hs k)) (sym c.here)
    (if_map f (HasMasked keeps gs k) (HasMasked fresh hs k) (record_at rs k) here (h k))))
    (λ (e : n ≡ k → ⊥).
    subst (λ o. IfSome o (HasMasked fresh hs n)) (sym (c.others n e))
    (if_more (HasMasked keeps gs n) (HasMasked fresh hs n) (record_at rs n) (λ r m. m ∙ ap (min 4294967295) (other n e)) (h n)))
    (cases_eq n k)

-- a change that leaves it
pub masked_changed : (keeps : Scope → Bool) (gs : List Scope) (f : Record → Record) (k : ℕ) (rs qs : List (Option (Box Record))) → ((r : Record) → (f r).sums.masked ≡ r.sums.masked) → Changed f k rs qs → AllMasked keeps gs rs → AllMasked keeps gs qs
masked_changed keeps gs f k rs qs same c h = masked_one keeps keeps gs gs f k rs qs (λ r e m. same r ∙ m) (λ n e. refl) c h

pub masked_by : (keeps : Scope → Bool) (gs : List Scope) (R : Record → Record → Type 0) (k : ℕ) (rs qs : List (Option (Box Record))) → ((r q : Record) → R r q → q.sums.masked ≡ r.sums.masked) → ChangedBy R k rs qs → AllMasked keeps gs rs → AllMasked keeps gs qs
masked_by keeps gs R k rs qs same c h n =
    ⊎_elim
    (λ (e : n ≡ k).
    subst (λ (m : ℕ). IfSome (record_at qs m) (HasMasked keeps gs m)) (sym e)
    (if_pairs R (HasMasked keeps gs k) (HasMasked keeps gs k) (record_at rs k) (record_at qs k) (λ r q a m. same r q a ∙ m) c.here (h k)))
    (λ (e : n ≡ k → ⊥). subst (λ o. IfSome o (HasMasked keeps gs n)) (sym (c.others n e)) (h n))
    (cases_eq n k)

pub masked_pairs : (keeps : Scope → Bool) (gs : List Scope) (R : Record → Record → Type 0) (rs qs : List (Option (Box Record))) → ((r q : Record) → R r q → q.sums.masked ≡ r.sums.masked) → ((n : ℕ) → Pairs R (record_at rs n) (record_at qs n)) → AllMasked keeps gs rs → AllMasked keeps gs qs
masked_pairs keeps gs R rs qs same c h n = if_pairs R (HasMasked keeps gs n) (HasMasked keeps gs n) (record_at rs n) (record_at qs n) (λ r q a m. same r q a ∙ m) (c n) (h n)

-- a new scope masks nothing
pub masked_opened : (keeps : Scope → Bool) (g : Scope) (gs : List Scope) (rs qs : List (Option (Box Record))) (r : Record) → length rs ≡ g.number.0 → Falls g.number.0 gs → keeps g ≡ true → r.sums.masked ≡ 0 → Pushed r rs qs → AllMasked keeps gs rs → AllMasked keeps (g ∷ gs) qs
masked_opened keeps g gs rs qs r len f kept none p h n =
    ⊎_elim
    (λ (e : n ≡ g.number.0).
    let at : record_at qs n ≡ Some r = ap (record_at qs) (e ∙ sym len) ∙ p.here in
    subst (λ o. IfSome o (HasMasked keeps (g ∷ gs) n)) (sym at)
    (none ∙ sym (ap (λ (m : ℕ). masked_of keeps (g ∷ gs) m) e ∙ ap (min 4294967295) (held_new faults_in keeps g gs f kept))))
    (λ (e : n ≡ g.number.0 → ⊥).
    subst (λ o. IfSome o (HasMasked keeps (g ∷ gs) n)) (sym (p.others n (λ q. e (q ∙ len))))
    (if_more (HasMasked keeps gs n) (HasMasked keeps (g ∷ gs) n) (record_at rs n) (λ v m. m ∙ ap (min 4294967295) (sym (held_further faults_in keeps g gs n f kept))) (h n)))
    (cases_eq n g.number.0)

-- The faults of one scope change.

sum_changed : (f : Scope → ℕ) (q : Scope → Bool) (c : Scope → Scope) (xs : List Scope) (x : Scope) → find q xs ≡ Some x → sum_by f (change_first q c xs) + f x ≡ sum_by f xs + f (c x)
sum_changed f q c [] x e = cc
sum_changed f q c (y ∷ ys) x e =
    (elim (q y) as (λ b. cond b (Some y) (find q ys) ≡ Some x → sum_by f (cond b (c y ∷ ys) (y ∷ change_first q c ys)) + f x ≡ sum_by f (y ∷ ys) + f (c x)) [
      | true ↦ λ k.
          let same : y ≡ x = cc in
          let a = sum_by-cons f (c y) ys in
          let b = sum_by-cons f y ys in
          let d : f (c y) ≡ f (c x) = ap (λ v. f (c v)) same in
          let m : f y ≡ f x = ap f same in
          omega arith
      | false ↦ λ k.
          let a = sum_by-cons f y (change_first q c ys) in
          let b = sum_by-cons f y ys in
          let d = sum_changed f q c ys x k in
          omega arith
    ]) e

module _ (b e : Scope → List Fault) (s : ScopeId) (keeps : Scope → Bool) (same : (g : Scope) → keeps (faulted b e g) ≡ keeps g) where
  -- what scope n has adopted holds as many more or less as s does, where n has adopted s
  held_change : (gs : List Scope) (n : ℕ) (g : Scope) → find (is_scope s) gs ≡ Some g → held faults_in keeps (change_first (is_scope s) (faulted b e) gs) n + cond (is_orphan keeps gs n g) (faults_in g) 0 ≡ held faults_in keeps gs n + cond (is_orphan keeps gs n g) (faults_in (faulted b e g)) 0
  held_change gs n g found =
      let hs : List Scope = change_first (is_scope s) (faulted b e) gs in
      let f : Scope → ℕ = λ k. cond (is_orphan keeps gs n k) (faults_in k) 0 in
      let a : held faults_in keeps hs n ≡ sum_by f hs =
      sum_same (λ k. cond (is_orphan keeps hs n k) (faults_in k) 0) f hs
      (each_all _ (λ (k : Scope). ap (λ o. cond (not (keeps k) && is_number n o) (faults_in k) 0) (keeper_faulted b e (is_scope s) keeps same gs (Some k.number))) hs) in
      let c = sum_changed f (is_scope s) (faulted b e) gs g found in
      let d : f (faulted b e g) ≡ cond (is_orphan keeps gs n g) (faults_in (faulted b e g)) 0 =
      ap (λ v. cond (not v && is_number n (keeper keeps gs (Some g.number))) (faults_in (faulted b e g)) 0) (same g) in
      together _ _ _ _ _ _ a c d
    where
      together : (x y u v w z : ℕ) → x ≡ y → y + u ≡ v + w → w ≡ z → x + u ≡ v + z
      together x y u v w z a c d = omega arith

  -- nothing, where n has not
  held_stays : (gs : List Scope) (n : ℕ) (g : Scope) → find (is_scope s) gs ≡ Some g → is_orphan keeps gs n g ≡ false → held faults_in keeps gs n ≡ held faults_in keeps (change_first (is_scope s) (faulted b e) gs) n
  held_stays gs n g found none =
      let a = held_change gs n g found in
      let c : cond (is_orphan keeps gs n g) (faults_in g) 0 ≡ 0 = ap (λ v. cond v (faults_in g) 0) none in
      let d : cond (is_orphan keeps gs n g) (faults_in (faulted b e g)) 0 ≡ 0 = ap (λ v. cond v (faults_in (faulted b e g)) 0) none in
      omega arith

  -- the faults of a scope that keeps counts are not masked
  pub masked_waits : (gs : List Scope) (g : Scope) (f : Record → Record) (rs qs : List (Option (Box Record))) → find (is_scope s) gs ≡ Some g → keeps g ≡ true → ((r : Record) → (f r).sums.masked ≡ r.sums.masked) → Changed f s.0 rs qs → AllMasked keeps gs rs → AllMasked keeps (change_first (is_scope s) (faulted b e) gs) qs
  masked_waits gs g f rs qs found kept alike c h =
      masked_same keeps keeps gs (change_first (is_scope s) (faulted b e) gs) qs
      (λ n. held_stays gs n g found (and_left (not (keeps g)) (is_number n (keeper keeps gs (Some g.number))) (ap not kept)))
      (masked_changed keeps gs f s.0 rs qs alike c h)

stopped_sum : (m h d : ℕ) → m ≡ min 4294967295 h → min 4294967295 (m + d) ≡ min 4294967295 (h + d)
stopped_sum m h d e = omega arith

more_ends : (thrown : List Fault) (g : Scope) → length (g.body ++ (g.ends ++ thrown)) ≡ length (g.body ++ g.ends) + length thrown
more_ends thrown g =
    let a = length-append g.body (g.ends ++ thrown) in
    let b = length-append g.ends thrown in
    let c = length-append g.body g.ends in
    omega arith

-- A task ends under s, whose keeper is k. Its faults are masked there, if it is not s.
pub masked_ended : (ts : List Task) (keeps : Scope → Bool) (n : ℕ) (gs : List Scope) (s : ScopeId) (g : Scope) (thrown : List Fault) (k : ℕ) (rs qs ps : List (Option (Box Record))) (f : Record → Record) → Falls n gs → Opened ts gs → ((v : Scope) → keeps (faulted (λ j. j.body) (λ j. j.ends ++ thrown) v) ≡ keeps v) → find (is_scope s) gs ≡ Some g → keeper keeps gs (Some s) ≡ Some k → ((r : Record) → (f r).sums.masked ≡ r.sums.masked) → Changed f s.0 rs qs → Changed (in_sums (masking (cond (k == s.0) 0 (length thrown)))) k qs ps → AllMasked keeps gs rs → AllMasked keeps (change_first (is_scope s) (faulted (λ j. j.body) (λ j. j.ends ++ thrown)) gs) ps
masked_ended ts keeps n gs s g thrown k rs qs ps f falls opened same found at alike c d h =
    let hs : List Scope = change_first (is_scope s) (faulted (λ j. j.body) (λ j. j.ends ++ thrown)) gs in
    let more : ℕ = cond (k == s.0) 0 (length thrown) in
    let num : g.number ≡ s = scope-is g.number s (eqb-true g.number.0 s.0 (find-passes (is_scope s) gs g found)) in
    let own : keeper keeps gs (Some g.number) ≡ Some k = ap (λ (v : ScopeId). keeper keeps gs (Some v)) num ∙ at in
    let step = keeper_step ts keeps n gs s g falls opened found in
    masked_one keeps keeps gs hs (in_sums (masking more)) k qs ps
    (λ r e m. stopped_sum r.sums.masked (held faults_in keeps gs k) more m ∙ ap (min 4294967295) (sym (grows hs own step)))
    (λ m apart. held_stays (λ j. j.body) (λ j. j.ends ++ thrown) s keeps same gs m g found (and_right (not (keeps g)) (is_number m (keeper keeps gs (Some g.number))) (ap (is_number m) own ∙ ne_eqb k m (λ v. apart (sym v)))))
    d (masked_changed keeps gs f s.0 rs qs alike c h)
  where
    grows : (hs : List Scope) → keeper keeps gs (Some g.number) ≡ Some k → keeper keeps gs (Some s) ≡ cond (keeps g) (Some s.0) (keeper keeps gs g.parent) → held faults_in keeps (change_first (is_scope s) (faulted (λ j. j.body) (λ j. j.ends ++ thrown)) gs) k ≡ held faults_in keeps gs k + cond (k == s.0) 0 (length thrown)
    grows hs own step =
        let a = held_change (λ j. j.body) (λ j. j.ends ++ thrown) s keeps same gs k g found in
        let here : is_number k (keeper keeps gs (Some g.number)) ≡ true = ap (is_number k) own ∙ eq-eqb k k refl in
        (elim (keeps g) as (λ b. keeps g ≡ b → held faults_in keeps (change_first (is_scope s) (faulted (λ j. j.body) (λ j. j.ends ++ thrown)) gs) k ≡ held faults_in keeps gs k + cond (k == s.0) 0 (length thrown)) [
          | true ↦ λ kept.
              let mine : Some k ≡ Some s.0 = sym at ∙ step ∙ ap (λ b. cond b (Some s.0) (keeper keeps gs g.parent)) kept in
              let is : k ≡ s.0 = cc in
              let stays = held_stays (λ j. j.body) (λ j. j.ends ++ thrown) s keeps same gs k g found (and_left (not (keeps g)) (is_number k (keeper keeps gs (Some g.number))) (ap not kept)) in
              let none : cond (k == s.0) 0 (length thrown) ≡ 0 = ap (λ b. cond b 0 (length thrown)) (eq-eqb k s.0 is) in
              omega arith
          | false ↦ λ kept.
              let apart : k == s.0 ≡ false = ne_eqb k s.0 (λ v. true≢false (sym (keeper_keeps keeps n k gs (Some s) g falls at (ap (λ (i : ℕ). find (has_number i) gs) v ∙ found)) ∙ kept)) in
              let orphan : is_orphan keeps gs k g ≡ true = ap (λ b. not b && is_number k (keeper keeps gs (Some g.number))) kept ∙ here in
              let x : cond (is_orphan keeps gs k g) (length (g.body ++ g.ends)) 0 ≡ length (g.body ++ g.ends) = ap (λ b. cond b (length (g.body ++ g.ends)) 0) orphan in
              let y : cond (is_orphan keeps gs k g) (length (g.body ++ (g.ends ++ thrown))) 0 ≡ length (g.body ++ (g.ends ++ thrown)) = ap (λ b. cond b (length (g.body ++ (g.ends ++ thrown))) 0) orphan in
              let z : cond (k == s.0) 0 (length thrown) ≡ length thrown = ap (λ b. cond b 0 (length thrown)) apart in
              plus _ _ _ _ _ _ _ _ a x y (more_ends thrown g) z
        ]) refl
      where
        plus : (p q u v w z t m : ℕ) → p + u ≡ q + v → u ≡ w → v ≡ z → z ≡ w + t → m ≡ t → p ≡ q + m
        plus p q u v w z t m a b c d e = omega arith

-- A release.

pub masked_released : (T : Tree) (s : ScopeId) (rs qs : List (Option (Box Record))) → Sound T → IsLast T s → quiet T s ≡ true → ((u : ScopeId) → record_at qs u.0 ≡ cond (meets s T.scopes (Some u)) None (record_at rs u.0)) → AllMasked (stands_home T.dead) T.scopes rs → AllMasked (stands_home T.dead) (without T s).scopes qs
masked_released T s rs qs h i still gone all n =
    let u : ScopeId = record { 0 = n } in
    (elim (meets s T.scopes (Some u)) as (λ b. meets s T.scopes (Some u) ≡ b → record_at qs n ≡ cond b None (record_at rs n) → IfSome (record_at qs n) (HasMasked (stands_home T.dead) (without T s).scopes n)) [
      | true ↦ λ m e. subst (λ o. IfSome o (HasMasked (stands_home T.dead) (without T s).scopes n)) (sym e) tt
      | false ↦ λ m e.
          let apart : n ≡ s.0 → ⊥ = λ v. true≢false (sym (met_own T s i) ∙ ap (λ (w : ScopeId). meets s T.scopes (Some w)) (scope-is s u (sym v)) ∙ m) in
          subst (λ o. IfSome o (HasMasked (stands_home T.dead) (without T s).scopes n)) (sym e)
          (if_more (HasMasked (stands_home T.dead) T.scopes n) (HasMasked (stands_home T.dead) (without T s).scopes n) (record_at rs n) (λ r k. k ∙ ap (min 4294967295) (sym (held_released faults_in T s n h (kept_here T s h i still) apart))) (all n))
    ]) refl (gone u)

-- A hand-over.

both_stopped : (m a b c d e f : ℕ) → m ≡ min 4294967295 (a + b) → a ≡ min 4294967295 c → b ≡ min 4294967295 (d + f) → d ≡ min 4294967295 e → m ≡ min 4294967295 (c + (e + f))
both_stopped m a b c d e f p q r s = omega arith

-- h gives to a, which masks what h masked and the faults of h
pub masked_hand : (keeps : Scope → Bool) (h : ScopeId) (a n : ℕ) (gs : List Scope) (rs ps qs : List (Option (Box Record))) (given : Sums) (g : Scope) (from : Record) → Falls n gs → find (has_number h.0) gs ≡ Some g → keeps g ≡ true → heir keeps gs h ≡ Some a → record_at rs h.0 ≡ Some from → length (from.body ++ from.ends) ≡ faults_in g → given ≡ given_by from → ChangedBy Emptied h.0 rs ps → ChangedBy (Gained given) a ps qs → AllMasked keeps gs rs → AllMasked (but h keeps) gs qs
masked_hand keeps h a n gs rs ps qs given g from f found kept is_heir has faults is_given emptied gained all m =
    let apart : a ≡ h.0 → ⊥ = λ e. true≢false (sym (ap (is_number h.0) is_heir ∙ eq-eqb a h.0 e) ∙ never_but keeps h gs (Some h)) in
    let his : from.sums.masked ≡ masked_of keeps gs h.0 = subst (λ o. IfSome o (HasMasked keeps gs h.0)) has (all h.0) in
    ⊎_elim
    (λ (e : m ≡ h.0).
    subst (λ (i : ℕ). IfSome (record_at qs i) (HasMasked (but h keeps) gs i)) (sym e)
    (subst (λ o. IfSome o (HasMasked (but h keeps) gs h.0)) (sym (gained.others h.0 (λ v. apart (sym v))))
    (if_pairs Emptied (λ r. Unit {0}) (HasMasked (but h keeps) gs h.0) (record_at rs h.0) (record_at ps h.0)
    (λ r q x u. x.1.masked ∙ sym (ap (min 4294967295) (held_left faults_in keeps h gs))) emptied.here (any_some (record_at rs h.0)))))
    (λ (e : m ≡ h.0 → ⊥).
    ⊎_elim
    (λ (k : m ≡ a).
    subst (λ (i : ℕ). IfSome (record_at qs i) (HasMasked (but h keeps) gs i)) (sym k)
    (if_pairs (Gained given) (HasMasked keeps gs a) (HasMasked (but h keeps) gs a) (record_at ps a) (record_at qs a)
    (λ r q x mine.
    both_stopped q.sums.masked r.sums.masked given.masked (held faults_in keeps gs a) from.sums.masked (held faults_in keeps gs h.0) (faults_in g) x.1.masked mine
    (ap (λ (v : Sums). v.masked) is_given ∙ ap (λ (v : ℕ). min 4294967295 (from.sums.masked + v)) faults) his
    ∙ ap (min 4294967295) (sym (held_heir faults_in keeps h a n gs g f found kept apart (ap (is_number a) is_heir ∙ eq-eqb a a refl))))
    gained.here (subst (λ o. IfSome o (HasMasked keeps gs a)) (sym (emptied.others a apart)) (all a))))
    (λ (k : m ≡ a → ⊥).
    subst (λ o. IfSome o (HasMasked (but h keeps) gs m)) (sym (gained.others m k ∙ emptied.others m e))
    (if_more (HasMasked keeps gs m) (HasMasked (but h keeps) gs m) (record_at rs m)
    (λ r v. v ∙ ap (min 4294967295) (sym (held_other faults_in keeps h m n gs g f found kept e (ap (is_number m) is_heir ∙ ne_eqb a m (λ w. k (sym w)))))) (all m)))
    (cases_eq m a))
    (cases_eq m h.0)
  where
    any_some : (o : Option Record) → IfSome o (λ r. Unit {0})
    any_some (Some r) = tt
    any_some None = tt
