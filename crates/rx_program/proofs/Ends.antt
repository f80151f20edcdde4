-- The last entry of a run.
use Rattle.std.proofs.Common.{◌≡◌, ℕ, zero, suc, ◌+◌, ◌-◌, ◌<◌, ◌^◌, Bool, true, false, List, [], ◌∷◌, length, Some, refl, ap, sym, ◌∙◌, arith, slice_get, ◌==◌, ◌&&◌}
use Rattle.std.proofs.lemmas.Bool.{eqb-true}
use Rattle.std.proofs.lemmas.Bool.Decides.{nat_tests}
use Rattle.rx_rules.proofs.Common.{members, MembersMakeTheSet, PlaceSet, Fault, EndsWithRoot}
use Rattle.rx_rules.specs.declared.entries.Entry.{Entry}
use Rattle.rx_rules.specs.declared.entries.Entry.TheVariants.{Step, Root, Death, Join}
use Rattle.rx_program.specs.Top.{is_clean, status_by, status_of}

-- it is the root's release, whose losses and faults give the status
pub record IsLast (es : List Entry) (e : Entry) : Type 0 where
  pub lost : PlaceSet
  pub masked : ℕ
  pub thrown : List Fault
  pub is : e ≡ Root lost masked thrown
  pub status : status_of es ≡ status_by (is_clean lost thrown)

some-is : (x y : Entry) → Some x ≡ Some y → x ≡ y
some-is x y e = cc

wider : (x : Entry) (es : List Entry) (e : Entry) → status_of (x ∷ es) ≡ status_of es → IsLast es e → IsLast (x ∷ es) e
wider x es e same l = record { lost = l.lost; masked = l.masked; thrown = l.thrown; is = l.is; status = same ∙ l.status }

pub last-root : (es : List Entry) (i : ℕ) (e : Entry) → EndsWithRoot es → i + 1 ≡ length es → slice_get es i ≡ Some e → IsLast es e
last-root [] i e ends at get = absurd ends
last-root (Root lost masked thrown ∷ []) zero e ends at get =
    record { lost = lost; masked = masked; thrown = thrown; is = sym (some-is (Root lost masked thrown) e get); status = refl }
last-root (Root lost masked thrown ∷ []) (suc i) e ends at get = absurd (omega (arith, at))
last-root (Root lost masked thrown ∷ x ∷ es) i e ends at get = cc
last-root (Step t act batch ∷ []) i e ends at get = absurd ends
last-root (Step t act batch ∷ x ∷ es) zero e ends at get = absurd (omega (arith, at))
last-root (Step t act batch ∷ x ∷ es) (suc i) e ends at get = wider (Step t act batch) (x ∷ es) e refl (last-root (x ∷ es) i e ends (omega (arith, at)) get)
last-root (Death d ∷ []) i e ends at get = absurd ends
last-root (Death d ∷ x ∷ es) zero e ends at get = absurd (omega (arith, at))
last-root (Death d ∷ x ∷ es) (suc i) e ends at get = wider (Death d) (x ∷ es) e refl (last-root (x ∷ es) i e ends (omega (arith, at)) get)
last-root (Join p ∷ []) i e ends at get = absurd ends
last-root (Join p ∷ x ∷ es) zero e ends at get = absurd (omega (arith, at))
last-root (Join p ∷ x ∷ es) (suc i) e ends at get = wider (Join p) (x ∷ es) e refl (last-root (x ∷ es) i e ends (omega (arith, at)) get)

-- a status by a test
pub by-test : (lost : PlaceSet) (masked : ℕ) (thrown : List Fault) (es : List Entry) (l : IsLast es (Root lost masked thrown)) → (b : Bool) → b ≡ is_clean lost thrown → status_by b ≡ status_of es
by-test lost masked thrown es l b e = ap status_by (e ∙ same lost masked thrown l.lost l.masked l.thrown l.is) ∙ sym l.status
  where
    same : (a : PlaceSet) (m : ℕ) (x : List Fault) (d : PlaceSet) (n : ℕ) (y : List Fault) → Root a m x ≡ Root d n y → is_clean a x ≡ is_clean d y
    same a m x d n y e = cc

-- nothing was lost where no place is a member
none-lost : MembersMakeTheSet → (lost : PlaceSet) → lost.0 < 2 ^ 16 → (lost.0 == 0) ≡ (length (members lost) == 0)
none-lost one lost small = by (lost.0 == 0) (length (members lost) == 0) refl refl
  where
    nothing : PlaceSet
    nothing = record { 0 = 0 }

    empty : (ms : List ℕ) → (length ms == 0) ≡ true → ms ≡ []
    empty [] e = refl
    empty (m ∷ ms) e = let some : 0 < length (m ∷ ms) = omega arith in absurd (grind (arith, nat_tests))

    by : (a b : Bool) → (lost.0 == 0) ≡ a → (length (members lost) == 0) ≡ b → a ≡ b
    by true true e f = refl
    by false false e f = refl
    by true false e f =
        let zero : lost.0 ≡ 0 = eqb-true lost.0 0 e in
        let same : members lost ≡ members nothing = ap (λ n. let s : PlaceSet = record { 0 = n } in members s) zero in
        sym (ap (λ ms. length ms == 0) same) ∙ f
    by false true e f =
        let same : lost ≡ nothing = one lost nothing small (omega arith) (empty (members lost) f) in
        sym e ∙ ap (λ (s : PlaceSet). s.0 == 0) same

-- where something was lost the test of both answers so
pub not-clean : MembersMakeTheSet → (lost : PlaceSet) (thrown : List Fault) → lost.0 < 2 ^ 16 → (lost.0 ≡ 0 → ⊥) → (lost.0 == 0) ≡ is_clean lost thrown
not-clean one lost thrown small other =
    let some : (lost.0 == 0) ≡ false = grind (arith, nat_tests) in
    some ∙ sym (ap (λ b. b && (length thrown == 0)) (sym (none-lost one lost small) ∙ some))

-- there is one
pub some-entry : (es : List Entry) → EndsWithRoot es → 0 < length es
some-entry [] ends = absurd ends
some-entry (e ∷ es) ends = omega arith

-- the entry before the end is it
pub last-entry : (es : List Entry) (n : ℕ) (e : Entry) → EndsWithRoot es → n ≡ length es → slice_get es (n - 1) ≡ Some e → IsLast es e
last-entry es n e ends is get =
    let some : 0 < length es = some-entry es ends in last-root es (n - 1) e ends (omega (arith, some, is)) get
