-- The members of a set of places.
use Rattle.std.proofs.Common.{◌≡◌, ℕ, ◌/◌, ◌%◌, ◌<◌, ◌^◌, Bool, true, false, cond, List, [], ◌∷◌, zero, suc, refl, ap, sym, ◌∙◌, subst, arith, slice_index_or, ◌↔◌, IsTrue, Contains, filter, Some, slice_get}
use Rattle.std.specs.Int.{bit_at}
use Rattle.std.proofs.lemmas.List.Elements.{All-contains, filter_passes}
use Rattle.std.proofs.lemmas.Nat.Bits.{bit_at-lt, bit_at-suc, bit_at_lowest}
use Rattle.rx_base.specs.declared.place_set.PlaceSet.{PlaceSet}
use Rattle.rx_base.specs.Sets.{all_places, has_bit, members, MembersMakeTheSet}
use Rattle.rx_base.proofs.Numbers.{digit-is}

-- each place stands at its own number
pub place-at : (p : ℕ) → p < 16 → slice_get all_places p ≡ Some p
place-at zero below = refl
place-at (suc zero) below = refl
place-at (suc (suc zero)) below = refl
place-at (suc (suc (suc zero))) below = refl
place-at (suc (suc (suc (suc zero)))) below = refl
place-at (suc (suc (suc (suc (suc zero))))) below = refl
place-at (suc (suc (suc (suc (suc (suc zero)))))) below = refl
place-at (suc (suc (suc (suc (suc (suc (suc zero))))))) below = refl
place-at (suc (suc (suc (suc (suc (suc (suc (suc zero)))))))) below = refl
place-at (suc (suc (suc (suc (suc (suc (suc (suc (suc zero))))))))) below = refl
place-at (suc (suc (suc (suc (suc (suc (suc (suc (suc (suc zero)))))))))) below = refl
place-at (suc (suc (suc (suc (suc (suc (suc (suc (suc (suc (suc zero))))))))))) below = refl
place-at (suc (suc (suc (suc (suc (suc (suc (suc (suc (suc (suc (suc zero)))))))))))) below = refl
place-at (suc (suc (suc (suc (suc (suc (suc (suc (suc (suc (suc (suc (suc zero))))))))))))) below = refl
place-at (suc (suc (suc (suc (suc (suc (suc (suc (suc (suc (suc (suc (suc (suc zero)))))))))))))) below = refl
place-at (suc (suc (suc (suc (suc (suc (suc (suc (suc (suc (suc (suc (suc (suc (suc zero))))))))))))))) below = refl
place-at (suc (suc (suc (suc (suc (suc (suc (suc (suc (suc (suc (suc (suc (suc (suc (suc p)))))))))))))))) below = absurd (omega arith)

later : (x p : ℕ) (xs : List ℕ) → Contains xs p → Contains (x ∷ xs) p
later x p xs (k, below, is) = (suc k, omega arith, is)

-- what passes the test is kept
pub kept : (f : ℕ → Bool) (p : ℕ) (xs : List ℕ) → f p ≡ true → Contains xs p → Contains (filter f xs) p
kept f p [] passes (k, below, is) = absurd (omega arith)
kept f p (x ∷ xs) passes (zero, below, is) =
    let here : f x ≡ true = ap f is ∙ passes in
    rw here (zero, omega arith, is)
kept f p (x ∷ xs) passes (suc k, below, is) =
    let rest : Contains (filter f xs) p = kept f p xs passes (k, omega arith, is) in
    elim (f x) as (λ b. Contains (cond b (x ∷ filter f xs) (filter f xs)) p) [ true ↦ later x p (filter f xs) rest | false ↦ rest ]

there : (p : ℕ) → p < 16 → slice_index_or all_places p p ≡ p
there zero below = refl
there (suc zero) below = refl
there (suc (suc zero)) below = refl
there (suc (suc (suc zero))) below = refl
there (suc (suc (suc (suc zero)))) below = refl
there (suc (suc (suc (suc (suc zero))))) below = refl
there (suc (suc (suc (suc (suc (suc zero)))))) below = refl
there (suc (suc (suc (suc (suc (suc (suc zero))))))) below = refl
there (suc (suc (suc (suc (suc (suc (suc (suc zero)))))))) below = refl
there (suc (suc (suc (suc (suc (suc (suc (suc (suc zero))))))))) below = refl
there (suc (suc (suc (suc (suc (suc (suc (suc (suc (suc zero)))))))))) below = refl
there (suc (suc (suc (suc (suc (suc (suc (suc (suc (suc (suc zero))))))))))) below = refl
there (suc (suc (suc (suc (suc (suc (suc (suc (suc (suc (suc (suc zero)))))))))))) below = refl
there (suc (suc (suc (suc (suc (suc (suc (suc (suc (suc (suc (suc (suc zero))))))))))))) below = refl
there (suc (suc (suc (suc (suc (suc (suc (suc (suc (suc (suc (suc (suc (suc zero)))))))))))))) below = refl
there (suc (suc (suc (suc (suc (suc (suc (suc (suc (suc (suc (suc (suc (suc (suc zero))))))))))))))) below = refl
there (suc (suc (suc (suc (suc (suc (suc (suc (suc (suc (suc (suc (suc (suc (suc (suc p)))))))))))))))) below = absurd (omega arith)

-- a place is a member where its bit is set
pub member-bit : (s : PlaceSet) (p : ℕ) → p < 16 → IsTrue (has_bit s.0 p) ↔ Contains (members s) p
member-bit s p below = (
  λ set. kept (has_bit s.0) p all_places set (p, below, there p below),
  λ in_it. All-contains (λ x. has_bit s.0 x ≡ true) (members s) p (filter_passes (has_bit s.0) all_places) in_it,
)

both : (a b : Bool) → (a ≡ true → b ≡ true) → (b ≡ true → a ≡ true) → a ≡ b
both true b f g = sym (f refl)
both false true f g = g refl
both false false f g = refl

-- sets with the same members have the same bits
same-bits : (a b : PlaceSet) → members a ≡ members b → (p : ℕ) → p < 16 → has_bit a.0 p ≡ has_bit b.0 p
same-bits a b same p below =
    both _ _
    (λ set. (member-bit b p below).1 (let P : List ℕ → Type 0 = λ xs. Contains xs p in subst P same ((member-bit a p below).0 set)))
    (λ set. (member-bit a p below).1 (let P : List ℕ → Type 0 = λ xs. Contains xs p in subst P (sym same) ((member-bit b p below).0 set)))

bit-is : (m n i : ℕ) → has_bit m i ≡ has_bit n i → bit_at m i ≡ bit_at n i
bit-is m n i same = digit-is (bit_at m i) (bit_at n i) (bit_at-lt m i) (bit_at-lt n i) same

-- numbers of k bits with the same bits are one
from-bits : (k m n : ℕ) → m < 2 ^ k → n < 2 ^ k → ((i : ℕ) → i < k → bit_at m i ≡ bit_at n i) → m ≡ n
from-bits zero m n low_m low_n same = omega arith
from-bits (suc k) m n low_m low_n same =
    let half : m / 2 ≡ n / 2 =
    from-bits k (m / 2) (n / 2) (omega arith) (omega arith)
    (λ i below. sym (bit_at-suc m i) ∙ same (suc i) (omega arith) ∙ bit_at-suc n i) in
    let low : m % 2 ≡ n % 2 = sym (bit_at_lowest m) ∙ same 0 (omega arith) ∙ bit_at_lowest n in
    omega arith

-- sets with the same members are one
pub same-sets : MembersMakeTheSet
same-sets a b low_a low_b same =
    let bits : a.0 ≡ b.0 = from-bits 16 a.0 b.0 low_a low_b (λ i below. bit-is a.0 b.0 i (same-bits a b same i below)) in
    let set : ℕ → PlaceSet = λ n. record { 0 = n } in
    ap set bits

-- a set whose number is not 0 has a member
pub some-member : (set : PlaceSet) → set.0 < 2 ^ 16 → (set.0 ≡ 0 → ⊥) → members set ≡ [] → ⊥
some-member set small not_zero none =
    let empty : PlaceSet = record { 0 = 0 } in
    let same : set ≡ empty = same-sets set empty small (omega arith) none in
    not_zero (ap (λ s. s.0) same)
