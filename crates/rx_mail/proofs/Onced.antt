-- No position is taken twice, and each message is the one that was sent there.
use Rattle.std.proofs.Common.{◌≡◌, ◌≢◌, ℕ, zero, suc, ◌+◌, ◌-◌, ◌<◌, ◌≤◌, ◌==◌, Bool, true, false, List, [], ◌∷◌, length, refl, ap, sym, ◌∙◌, arith, subst, ◌⊎◌, inl, inr, if◌then◌else◌}
use Rattle.std.proofs.lemmas.Bool.{eqb-true}
use mathlib.Core.Option.{some, some-injective}
use lib.ListN.{get_elem?}
use Rattle.rx_mail.specs.declared.letters.Taken.{Taken}
use Rattle.rx_mail.specs.declared.letters.Letters.{Letters}
use Rattle.rx_mail.specs.Posts.{taken_by, letters_of}
use Rattle.rx_mail.specs.Once.{Has, TakenOnce, TakenAsSent}

module _ {M : Type 0} where
  -- the taker of what a pass took, and the message, count positions from n on
  record Stood (id n : ℕ) (ks : List ℕ) (xs : List M) (t : Taken M) : Type 0 where
    off : ℕ
    at : t.at ≡ n + off
    taker : get_elem? ks off ≡ some id
    letter : get_elem? xs off ≡ some t.letter

  later : (id n k : ℕ) (ks : List ℕ) (x : M) (xs : List M) (t : Taken M) → Stood id (suc n) ks xs t → Stood id n (k ∷ ks) (x ∷ xs) t
  later id n k ks x xs t s = record { off = suc s.off; at = s.at ∙ (let e : suc n + s.off ≡ n + suc s.off = omega arith in e); taker = s.taker; letter = s.letter }

  stood : (id n : ℕ) (ks : List ℕ) (xs : List M) (t : Taken M) → Has t (taken_by id n ks xs) → Stood id n ks xs t
  stood id n [] xs t h = absurd h
  stood id n (k ∷ ks) [] t h = absurd h
  stood id n (k ∷ ks) (x ∷ xs) t h =
      (elim (k == id) as (λ b. k == id ≡ b → Has t (if b then record { at = n; letter = x } ∷ taken_by id (suc n) ks xs else taken_by id (suc n) ks xs) → Stood id n (k ∷ ks) (x ∷ xs) t) [
        | true ↦ λ e w. elim w [
          | inl same ↦ record { off = 0; at = ap (λ (z : Taken M). z.at) same ∙ (let z : n ≡ n + 0 = omega arith in z); taker = ap (λ (j : ℕ). some j) (eqb-true k id e); letter = ap (λ (z : Taken M). some z.letter) (sym same) }
          | inr rest ↦ later id n k ks x xs t (stood id (suc n) ks xs t rest)
        ]
        | false ↦ λ e w. later id n k ks x xs t (stood id (suc n) ks xs t w)
      ]) refl h

  pub taken_once : TakenOnce M
  taken_once items views i j v w t u d vi wj apart tv uw same =
      let a = stood i 0 d.takers (letters_of d.log) t (subst (λ (l : List (Taken M)). Has t l) (d.each i v vi).took tv) in
      let b = stood j 0 d.takers (letters_of d.log) u (subst (λ (l : List (Taken M)). Has u l) (d.each j w wj).took uw) in
      let offs : a.off ≡ b.off = (let x = a.at in let y = b.at in omega (arith, x, y, same)) in
      apart (some-injective i j (sym a.taker ∙ (ap (λ (n : ℕ). get_elem? d.takers n) offs ∙ b.taker)))

  pub taken_as_sent : TakenAsSent M
  taken_as_sent items views i v t d vi tv =
      let a = stood i 0 d.takers (letters_of d.log) t (subst (λ (l : List (Taken M)). Has t l) (d.each i v vi).took tv) in
      let z : 0 + a.off ≡ a.off = omega arith in
      ap (λ (n : ℕ). get_elem? (letters_of d.log) n) (a.at ∙ z) ∙ a.letter
