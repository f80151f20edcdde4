-- What a death does to the sums of scopes: the hand-over.
use Rattle.std.proofs.Common.{◌≡◌, ℕ, zero, suc, ◌<◌, ◌+◌, Bool, true, false, cond, ◌||◌, ◌&&◌, not, ltb, List, [], ◌∷◌, ◌++◌, Option, Some, None, is_none, count_by, sum_by, length, IfSome, refl, sym, ap, ◌∙◌, subst, arith, ⊎_elim}
use Rattle.std.specs.List.{find}
use Rattle.std.specs.Global.{Box}
use Rattle.std.proofs.lemmas.Bool.{eqb-true, eq-eqb, ne_eqb, true≢false, and_parts, and_right, or_left, lt-ltb, cases_eq}
use Rattle.std.proofs.lemmas.List.Sums.{sum_by-cons}
use Rattle.std.proofs.Math.Bool.{and-false, and-true}
use Rattle.rx_tree_laws.proofs.Staying.{any_same}
use Rattle.rx_rules.proofs.Common.{has_bit, ScopeId, is_scope, was_lost_at, has_number}
use Rattle.rx_rules.specs.declared.tasks.Task.{Task}
use Rattle.rx_rules.specs.declared.tasks.Scope.{Scope}
use Rattle.rx_tree_laws.specs.Chains.{Falls}
use Rattle.rx_tree_laws.specs.Sound.{Each}
use Rattle.rx_tree_laws.proofs.Changes.{each_more}
use Rattle.rx_tree_laws.proofs.Releasing.{each_below, each_all, each_numbered}
use Rattle.rx_counts.specs.declared.record.Sums.{Sums}
use Rattle.rx_counts.specs.declared.record.Record.{Record}
use Rattle.rx_counts.specs.Keeping.{keeper, is_number, kept_at, same_where, is_orphan, held, orphans_of}
use Rattle.rx_counts.specs.Stands.{table_size, ShapeOf, SumsOf, RecordOf, Both, RecordsFit, Pairs, ChangedBy, record_at, in_sums}
use Rattle.rx_counts.specs.Inside.Dying.{Gains, IsNothing, Emptied, Gained, given_by}
use Rattle.rx_counts.proofs.Counting.{one, count_same, any_counted, sum_same, sum_none}
use Rattle.rx_counts.proofs.HandOver.{but, heir, keeper_but, never_but, moved, count_heir, count_other, count_left, keeper_same}
use Rattle.rx_counts.proofs.Joining.{both_more, number_is, sums_masking}

-- The orphans, once h keeps nothing.

orphan_bool : (h s : ℕ) (o r x : Option ℕ) (kp is : Bool) → (is ≡ true → kp ≡ true) → (is ≡ true → x ≡ r) → x ≡ cond (is_number h o) r o → (s ≡ h → ⊥) → one (not (kp && not is) && is_number s x) ≡ one (not kp && is_number s o) + (one ((not kp && is_number h o) && is_number s r) + one (is && is_number s r))
orphan_bool h s o r x true true a b c apart = let e = ap (λ v. one (is_number s v)) (b refl) in omega arith
orphan_bool h s o r x true false a b c apart = omega arith
orphan_bool h s o r x false true a b c apart = absurd (true≢false (sym (a refl)))
orphan_bool h s o r x false false a b c apart = let m = moved h s o r true apart in let e = ap (λ v. one (is_number s v)) c in omega arith

is_id : (h : ScopeId) (k : Scope) → is_scope h k ≡ true → k.number ≡ h
is_id h k e = ap (λ (n : ℕ). let q : ScopeId = record { 0 = n } in q) (eqb-true k.number.0 h.0 e)

-- what holds of parts holds of what they weigh
weighed : (p q r t : Bool) (w : ℕ) → one p ≡ one q + (one r + one t) → cond p w 0 ≡ cond q w 0 + (cond r w 0 + cond t w 0)
weighed true true false false w e = omega arith
weighed true false true false w e = omega arith
weighed true false false true w e = omega arith
weighed false false false false w e = refl
weighed true true true t w e = absurd (let k : 1 ≡ 1 + (1 + one t) = e in omega arith)
weighed true true false true w e = absurd (omega arith)
weighed true false true true w e = absurd (omega arith)
weighed true false false false w e = absurd (omega arith)
weighed false true r t w e = absurd (let k : 0 ≡ 1 + (one r + one t) = e in omega arith)
weighed false false true t w e = absurd (let k : 0 ≡ 0 + (1 + one t) = e in omega arith)
weighed false false false true w e = absurd (omega arith)

held_moved : (w : Scope → ℕ) (keeps : Scope → Bool) (h : ScopeId) (s n : ℕ) (gs : List Scope) (g : Scope) → Falls n gs → find (is_scope h) gs ≡ Some g → keeps g ≡ true → (s ≡ h.0 → ⊥) → held w (but h keeps) gs s ≡ held w keeps gs s + (sum_by (λ k. cond (is_orphan keeps gs h.0 k && is_number s (heir keeps gs h)) (w k) 0) gs + sum_by (λ k. cond (is_scope h k && is_number s (heir keeps gs h)) (w k) 0) gs)
held_moved w keeps h s n gs g f found kept apart =
    let lone : Each (λ k. is_scope h k ≡ true → keeps k ≡ true) gs = each_more (λ k. is_scope h k ≡ true → k ≡ g) (λ k. is_scope h k ≡ true → keeps k ≡ true) (λ (k : Scope) e q. ap keeps (e q) ∙ kept) gs (each_numbered h n gs g f found) in
    sum_three (λ k. cond (is_orphan (but h keeps) gs s k) (w k) 0) (λ k. cond (is_orphan keeps gs s k) (w k) 0) (λ k. cond (is_orphan keeps gs h.0 k && is_number s (heir keeps gs h)) (w k) 0) (λ k. cond (is_scope h k && is_number s (heir keeps gs h)) (w k) 0) gs
    (each_more (λ k. is_scope h k ≡ true → keeps k ≡ true) _ (λ (k : Scope) e. weighed (is_orphan (but h keeps) gs s k) (is_orphan keeps gs s k) (is_orphan keeps gs h.0 k && is_number s (heir keeps gs h)) (is_scope h k && is_number s (heir keeps gs h)) (w k)
    (orphan_bool h.0 s (keeper keeps gs (Some k.number)) (heir keeps gs h) (keeper (but h keeps) gs (Some k.number)) (keeps k) (is_scope h k) e (λ q. ap (λ (v : ScopeId). keeper (but h keeps) gs (Some v)) (is_id h k q)) (keeper_but keeps h n gs (Some k.number) f) apart)) gs lone)
  where
    sum_three : (p q r t : Scope → ℕ) (xs : List Scope) → Each (λ x. p x ≡ q x + (r x + t x)) xs → sum_by p xs ≡ sum_by q xs + (sum_by r xs + sum_by t xs)
    sum_three p q r t [] e = refl
    sum_three p q r t (x ∷ xs) e =
        let a = sum_by-cons p x xs in
        let b = sum_by-cons q x xs in
        let c = sum_by-cons r x xs in
        let d = sum_by-cons t x xs in
        let i = sum_three p q r t xs e.1 in
        let v : p x ≡ q x + (r x + t x) = e.0 in
        omega arith

all_true : (w : Scope → ℕ) (p : Scope → Bool) (gs : List Scope) (b : Bool) → b ≡ true → sum_by (λ k. cond (p k && b) (w k) 0) gs ≡ sum_by (λ k. cond (p k) (w k) 0) gs
all_true w p gs b e = sum_same (λ k. cond (p k && b) (w k) 0) (λ k. cond (p k) (w k) 0) gs (each_all _ (λ (k : Scope). ap (λ c. cond c (w k) 0) (ap (λ c. p k && c) e ∙ and-true (p k))) gs)

all_false : (w : Scope → ℕ) (p : Scope → Bool) (gs : List Scope) (b : Bool) → b ≡ false → sum_by (λ k. cond (p k && b) (w k) 0) gs ≡ 0
all_false w p gs b e = sum_none (λ k. cond (p k && b) (w k) 0) gs (each_all _ (λ (k : Scope). ap (λ c. cond c (w k) 0) (ap (λ c. p k && c) e ∙ and-false (p k))) gs)

-- a scope that is found is the only one of its number
sum_found : (w : Scope → ℕ) (h : ScopeId) (n : ℕ) (gs : List Scope) (g : Scope) → Falls n gs → find (is_scope h) gs ≡ Some g → sum_by (λ k. cond (is_scope h k) (w k) 0) gs ≡ w g
sum_found w h n [] g f e = cc
sum_found w h n (k ∷ ks) g f e =
    let a = sum_by-cons (λ j. cond (is_scope h j) (w j) 0) k ks in
    (elim (is_scope h k) as (λ b. is_scope h k ≡ b → cond b (Some k) (find (is_scope h) ks) ≡ Some g → sum_by (λ j. cond (is_scope h j) (w j) 0) (k ∷ ks) ≡ w g) [
      | true ↦ λ m v.
          let num : k.number.0 ≡ h.0 = eqb-true k.number.0 h.0 m in
          let none = sum_none (λ j. cond (is_scope h j) (w j) 0) ks (each_more (λ j. j.number.0 < k.number.0) (λ j. cond (is_scope h j) (w j) 0 ≡ 0) (λ (j : Scope) (low : j.number.0 < k.number.0). ap (λ b. cond b (w j) 0) (ne_eqb j.number.0 h.0 (λ q. absurd (omega arith)))) ks (each_below k.number.0 ks f.1)) in
          let same : k ≡ g = cc in
          let o : cond (is_scope h k) (w k) 0 ≡ w g = ap (λ b. cond b (w k) 0) m ∙ ap w same in
          omega arith
      | false ↦ λ m v.
          let o : cond (is_scope h k) (w k) 0 ≡ 0 = ap (λ b. cond b (w k) 0) m in
          let r = sum_found w h k.number.0 ks g f.1 v in
          omega arith
    ]) refl e

-- the heir has adopted h, and what h had adopted
pub held_heir : (w : Scope → ℕ) (keeps : Scope → Bool) (h : ScopeId) (s n : ℕ) (gs : List Scope) (g : Scope) → Falls n gs → find (is_scope h) gs ≡ Some g → keeps g ≡ true → (s ≡ h.0 → ⊥) → is_number s (heir keeps gs h) ≡ true → held w (but h keeps) gs s ≡ held w keeps gs s + (held w keeps gs h.0 + w g)
held_heir w keeps h s n gs g f found kept apart e =
    let a = held_moved w keeps h s n gs g f found kept apart in
    let b = all_true w (is_orphan keeps gs h.0) gs (is_number s (heir keeps gs h)) e in
    let c = all_true w (is_scope h) gs (is_number s (heir keeps gs h)) e in
    let d = sum_found w h n gs g f found in
    omega arith

pub held_other : (w : Scope → ℕ) (keeps : Scope → Bool) (h : ScopeId) (s n : ℕ) (gs : List Scope) (g : Scope) → Falls n gs → find (is_scope h) gs ≡ Some g → keeps g ≡ true → (s ≡ h.0 → ⊥) → is_number s (heir keeps gs h) ≡ false → held w (but h keeps) gs s ≡ held w keeps gs s
held_other w keeps h s n gs g f found kept apart e =
    let a = held_moved w keeps h s n gs g f found kept apart in
    let b = all_false w (is_orphan keeps gs h.0) gs (is_number s (heir keeps gs h)) e in
    let c = all_false w (is_scope h) gs (is_number s (heir keeps gs h)) e in
    omega arith

pub held_left : (w : Scope → ℕ) (keeps : Scope → Bool) (h : ScopeId) (gs : List Scope) → held w (but h keeps) gs h.0 ≡ 0
held_left w keeps h gs = sum_none (λ k. cond (is_orphan (but h keeps) gs h.0 k) (w k) 0) gs (each_all _ (λ (k : Scope). ap (λ b. cond b (w k) 0) (and_right (not (but h keeps k)) (is_number h.0 (keeper (but h keeps) gs (Some k.number))) (never_but keeps h gs (Some k.number)))) gs)

pub orphans_heir : (keeps : Scope → Bool) (h : ScopeId) (s n : ℕ) (gs : List Scope) (g : Scope) → Falls n gs → find (is_scope h) gs ≡ Some g → keeps g ≡ true → (s ≡ h.0 → ⊥) → is_number s (heir keeps gs h) ≡ true → orphans_of (but h keeps) gs s ≡ orphans_of keeps gs s + orphans_of keeps gs h.0 + 1
orphans_heir keeps h s n gs g f found kept apart e = let a = held_heir (λ k. 1) keeps h s n gs g f found kept apart e in omega arith

-- The sums.

sum_above : (a b c : ℕ) → c ≡ a + b → ltb 0 c ≡ (ltb 0 a || ltb 0 b)
sum_above zero b c e = ap (ltb 0) (let q : c ≡ b = omega arith in q)
sum_above (suc a) b c e = lt-ltb 0 c (omega arith) ∙ sym (or_left (ltb 0 (suc a)) (ltb 0 b) (lt-ltb 0 (suc a) (omega arith)))

sums_gains : (keeps : Scope → Bool) (h : ScopeId) (n a : ℕ) (gs : List Scope) (ts : List Task) (ra rh q : Sums) (g : Scope) → Falls n gs → find (is_scope h) gs ≡ Some g → keeps g ≡ true → (a ≡ h.0 → ⊥) → is_number a (heir keeps gs h) ≡ true → Gains ra rh q → SumsOf keeps gs ts ra a → SumsOf keeps gs ts rh h.0 → SumsOf (but h keeps) gs ts q a
sums_gains keeps h n a gs ts ra rh q g f found kept apart e s x y =
    record {
      cells = s.cells ∙ x.cells ∙ ap table_size (sym s.places);
      counts = λ w.
          let u = count_heir (λ t. is_none t.struck && same_where w t.place) keeps h a n gs ts f apart e in
          let v = s.counts w in
          let i = x.counts w in
          let j = y.counts w in
          omega arith;
      total =
          let u = count_heir (λ t. is_none t.struck) keeps h a n gs ts f apart e in
          let v = s.total in
          let i = x.total in
          let j = y.total in
          omega arith;
      orphans =
          let u = orphans_heir keeps h a n gs g f found kept apart e in
          let v = s.orphans in
          let i = x.orphans in
          let j = y.orphans in
          omega arith;
      lost = λ p low.
          let u = count_heir (was_lost_at p) keeps h a n gs ts f apart e in
          s.lost p low
          ∙ ap (λ c. c || has_bit rh.lost.0 p) (x.lost p low ∙ any_counted (λ t. was_lost_at p t && kept_at keeps gs a t) ts)
          ∙ ap (λ c. ltb 0 (count_by (λ t. was_lost_at p t && kept_at keeps gs a t) ts) || c) (y.lost p low ∙ any_counted (λ t. was_lost_at p t && kept_at keeps gs h.0 t) ts)
          ∙ sym (sum_above _ _ _ u)
          ∙ sym (any_counted (λ t. was_lost_at p t && kept_at (but h keeps) gs a t) ts);
    }

sums_gave : (keeps : Scope → Bool) (h : ScopeId) (gs : List Scope) (ts : List Task) (q : Sums) → IsNothing q → SumsOf (but h keeps) gs ts q h.0
sums_gave keeps h gs ts q s =
    record {
      cells = s.cells;
      counts = λ w. s.counts w ∙ sym (count_left (λ x. is_none x.struck && same_where w x.place) keeps h gs ts);
      total = s.total ∙ sym (count_left (λ x. is_none x.struck) keeps h gs ts);
      orphans = s.orphans ∙ sym (held_left (λ k. 1) keeps h gs);
      lost = λ p low. s.lost p low ∙ sym (any_counted (λ x. was_lost_at p x && kept_at (but h keeps) gs h.0 x) ts ∙ ap (ltb 0) (count_left (was_lost_at p) keeps h gs ts));
    }

sums_stay : (keeps : Scope → Bool) (h : ScopeId) (n m : ℕ) (gs : List Scope) (ts : List Task) (q : Sums) (g : Scope) → Falls n gs → find (is_scope h) gs ≡ Some g → keeps g ≡ true → (m ≡ h.0 → ⊥) → is_number m (heir keeps gs h) ≡ false → SumsOf keeps gs ts q m → SumsOf (but h keeps) gs ts q m
sums_stay keeps h n m gs ts q g f found kept apart e a =
    record {
      cells = a.cells;
      counts = λ w. a.counts w ∙ sym (count_other (λ x. is_none x.struck && same_where w x.place) keeps h m n gs ts f apart e);
      total = a.total ∙ sym (count_other (λ x. is_none x.struck) keeps h m n gs ts f apart e);
      orphans = a.orphans ∙ sym (held_other (λ k. 1) keeps h m n gs g f found kept apart e);
      lost = λ p low. a.lost p low ∙ any_counted (λ x. was_lost_at p x && kept_at keeps gs m x) ts ∙ ap (ltb 0) (sym (count_other (was_lost_at p) keeps h m n gs ts f apart e)) ∙ sym (any_counted (λ x. was_lost_at p x && kept_at (but h keeps) gs m x) ts);
    }

-- All records: h gives to a.

record_of_number : {size : ℕ} (keeps : Scope → Bool) (gs : List Scope) (ts : List Task) (o : Option Record) (g : Scope) → Both (RecordOf size keeps gs ts) o (Some g) → (r : Record) × (o ≡ Some r) × RecordOf size keeps gs ts r g
record_of_number {size = size} keeps gs ts (Some r) g h = (r, refl, h)
record_of_number {size = size} keeps gs ts None g h = absurd h

pair_some : (R : Record → Record → Type 0) (o p : Option Record) (r : Record) → Pairs R o p → o ≡ Some r → (q : Record) × (p ≡ Some q) × R r q
pair_some R (Some s) (Some q) r h e = let same : s ≡ r = cc in (q, refl, subst (λ (v : Record). R v q) same h)
pair_some R (Some s) None r h e = absurd h
pair_some R None p r h e = cc

both_at : (P : Record → Scope → Type 0) (o : Option Record) (b : Option Scope) (r : Record) (g : Scope) → o ≡ Some r → b ≡ Some g → P r g → Both P o b
both_at P o b r g e k h = subst (λ v. Both P v b) (sym e) (subst (λ v. Both P (Some r) v) (sym k) h)

pub all_hand : (size : ℕ) (keeps : Scope → Bool) (h : ScopeId) (a n : ℕ) (gs : List Scope) (ts : List Task) (rs ps qs : List (Option (Box Record))) (given : Sums) (g ga : Scope) → Falls n gs → find (has_number h.0) gs ≡ Some g → find (has_number a) gs ≡ Some ga → keeps g ≡ true → heir keeps gs h ≡ Some a → IfSome (record_at rs h.0) (λ r. given ≡ given_by r) → ChangedBy Emptied h.0 rs ps → ChangedBy (Gained given) a ps qs → RecordsFit size keeps gs ts rs → RecordsFit size (but h keeps) gs ts qs
all_hand size keeps h a n gs ts rs ps qs given g ga f found found_a kept is_heir took emptied gained all m =
    let apart : a ≡ h.0 → ⊥ = λ e. true≢false (sym (ap (is_number h.0) is_heir ∙ eq-eqb a h.0 e) ∙ never_but keeps h gs (Some h)) in
    let num_h : g.number.0 ≡ h.0 = number_is h.0 gs g found in
    let num_a : ga.number.0 ≡ a = number_is a gs ga found_a in
    let giver = record_of_number keeps gs ts (record_at rs h.0) g (subst (λ o. Both (RecordOf size keeps gs ts) (record_at rs h.0) o) found (all h.0)) in
    let taker = record_of_number keeps gs ts (record_at rs a) ga (subst (λ o. Both (RecordOf size keeps gs ts) (record_at rs a) o) found_a (all a)) in
    let is_given : given ≡ given_by giver.0 = subst (λ o. IfSome o (λ r. given ≡ given_by r)) giver.1 took in
    let left = pair_some Emptied (record_at rs h.0) (record_at ps h.0) giver.0 emptied.here giver.1 in
    let still_a : record_at ps a ≡ record_at rs a = emptied.others a apart in
    let new = pair_some (Gained given) (record_at ps a) (record_at qs a) taker.0 gained.here (still_a ∙ taker.1) in
    ⊎_elim
    (λ (e : m ≡ h.0).
    subst (λ (i : ℕ). Both (RecordOf size (but h keeps) gs ts) (record_at qs i) (find (has_number i) gs)) (sym e)
    (both_at (RecordOf size (but h keeps) gs ts) (record_at qs h.0) (find (has_number h.0) gs) left.0 g (gained.others h.0 (λ v. apart (sym v)) ∙ left.1) found
    (record {
      shape = let o = left.2.0 in let b = giver.2.shape in record { kind = o.kind ∙ b.kind; home = o.home ∙ b.home; parent = o.parent ∙ b.parent; finish = b.finish ∙ ap (λ (v : ScopeId). Some v.0) (sym o.finish) };
      sums = subst (SumsOf (but h keeps) gs ts left.0.sums) (sym num_h) (sums_gave keeps h gs ts left.0.sums left.2.1);
      faults = λ v. absurd (true≢false (sym (and_parts (keeps g) (not (is_scope h g)) v).1 ∙ ap not (eq-eqb g.number.0 h.0 num_h)));
      places = λ v. absurd (true≢false (sym (and_parts (keeps g) (not (is_scope h g)) v).1 ∙ ap not (eq-eqb g.number.0 h.0 num_h)));
    })))
    (λ (e : m ≡ h.0 → ⊥).
    ⊎_elim
    (λ (k : m ≡ a).
    subst (λ (i : ℕ). Both (RecordOf size (but h keeps) gs ts) (record_at qs i) (find (has_number i) gs)) (sym k)
    (both_at (RecordOf size (but h keeps) gs ts) (record_at qs a) (find (has_number a) gs) new.0 ga new.1 found_a
    (let is : new.0 ≡ in_sums (λ v. new.0.sums) taker.0 = new.2.0 in
    let b = taker.2 in
    record {
      shape = subst (λ (v : Record). ShapeOf gs v ga) (sym is) (record { kind = b.shape.kind; home = b.shape.home; parent = b.shape.parent; finish = b.shape.finish });
      sums =
          subst (SumsOf (but h keeps) gs ts new.0.sums) (sym num_a)
          (sums_gains keeps h n a gs ts taker.0.sums given new.0.sums g f found kept apart (ap (is_number a) is_heir ∙ eq-eqb a a refl) new.2.1 (subst (SumsOf keeps gs ts taker.0.sums) num_a b.sums)
          (subst (λ (v : Sums). SumsOf keeps gs ts v h.0) (sym is_given) (sums_masking keeps gs ts giver.0.sums h.0 (length (giver.0.body ++ giver.0.ends)) (subst (SumsOf keeps gs ts giver.0.sums) num_h giver.2.sums))));
      faults = λ v. let old = b.faults (and_parts (keeps ga) (not (is_scope h ga)) v).0 in (ap (λ (x : Record). x.body) is ∙ old.0, ap (λ (x : Record). x.ends) is ∙ old.1);
      places = λ v. new.2.1.places ∙ b.places (and_parts (keeps ga) (not (is_scope h ga)) v).0;
    })))
    (λ (k : m ≡ a → ⊥).
    subst (λ o. Both (RecordOf size (but h keeps) gs ts) o (find (has_number m) gs)) (sym (gained.others m k ∙ emptied.others m e))
    (both_more (RecordOf size keeps gs ts) (RecordOf size (but h keeps) gs ts) (record_at rs m) (find (has_number m) gs)
    (λ r j found_j b.
    let num : j.number.0 ≡ m = number_is m gs j found_j in
    record {
      shape = b.shape;
      sums = sums_stay keeps h n j.number.0 gs ts r.sums g f found kept (λ v. e (sym num ∙ v)) (ap (is_number j.number.0) is_heir ∙ ne_eqb a j.number.0 (λ v. k (sym num ∙ sym v))) b.sums;
      faults = λ v. b.faults (and_parts (keeps j) (not (is_scope h j)) v).0;
      places = λ v. b.places (and_parts (keeps j) (not (is_scope h j)) v).0;
    })
    (all m)))
    (cases_eq m a))
    (cases_eq m h.0)

-- Records by which scopes keep counts.

pub all_keeps : (size : ℕ) (p q : Scope → Bool) (gs : List Scope) (ts : List Task) (rs : List (Option (Box Record))) → Each (λ k. p k ≡ q k) gs → ((n : ℕ) (k : Scope) → find (has_number n) gs ≡ Some k → p k ≡ q k) → RecordsFit size p gs ts rs → RecordsFit size q gs ts rs
all_keeps size p q gs ts rs same found h n =
    both_more (RecordOf size p gs ts) (RecordOf size q gs ts) (record_at rs n) (find (has_number n) gs)
    (λ r g at a. record {
      shape = a.shape;
      sums =
          record {
            cells = a.sums.cells;
            counts = λ w. a.sums.counts w ∙ count_same _ _ ts (each_all _ (λ (x : Task). ap (λ o. (is_none x.struck && same_where w x.place) && is_number g.number.0 o) (keeper_same p q gs (Some x.under) same)) ts);
            total = a.sums.total ∙ count_same _ _ ts (each_all _ (λ (x : Task). ap (λ o. is_none x.struck && is_number g.number.0 o) (keeper_same p q gs (Some x.under) same)) ts);
            orphans = a.sums.orphans ∙ count_same (is_orphan p gs g.number.0) (is_orphan q gs g.number.0) gs (each_more (λ k. p k ≡ q k) _ (λ (k : Scope) e. ap (λ b. not b && is_number g.number.0 (keeper p gs (Some k.number))) e ∙ ap (λ o. not (q k) && is_number g.number.0 o) (keeper_same p q gs (Some k.number) same)) gs same);
            lost = λ i low. a.sums.lost i low ∙ any_same _ _ ts (each_all _ (λ (x : Task). ap (λ o. was_lost_at i x && is_number g.number.0 o) (keeper_same p q gs (Some x.under) same)) ts);
          };
      faults = λ k. a.faults (found n g at ∙ k);
      places = λ k. a.places (found n g at ∙ k);
    }) (h n)
