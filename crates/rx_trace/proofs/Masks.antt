-- How many faults are masked.
use Rattle.std.proofs.Common.{◌≡◌, ℕ, ◌≤◌, Bool, true, false, cond, ◌==◌, List, [], ◌∷◌, ◌++◌, refl, ap, sym, ◌∙◌, subst, arith, ◌≢◌, Some, codes}
use Rattle.std.specs.Str.{bytes_eq}
use Rattle.std.proofs.lemmas.Bool.{eqb-true, eqb-false, ne_eqb}
use Rattle.rx_base.proofs.Elements.{same-bytes}
use Rattle.rx_trace.specs.Fields.{natural_field}
use Rattle.rx_trace.specs.Parts.{masked_part}
use Rattle.rx_trace.specs.Limits.{IsShort}
use Rattle.rx_fields.specs.Inside.FieldWords.{masked_of}
use Rattle.rx_fields.specs.Inside.Readers.{word}
use Rattle.rx_fields.specs.Inside.PartWords.{masked_read}
use Rattle.rx_fields.proofs.Cuts.{bytes-same}
use Rattle.rx_trace.proofs.Faults.{plain-word-is}
use Rattle.rx_trace.proofs.ReadFields.{masked-takes, masked-item, word-again}
use Rattle.rx_trace.proofs.Spelt.{Read, Takes, takes-done, takes-word, behind, AgainPart}

abbrev IsMasked : ℕ → List ℕ → Type 0
IsMasked n t = (t ≡ masked_part n) × IsShort n

abbrev pair : ℕ → List (List ℕ) → ℕ × List (List ℕ)
pair n ws = (n, ws)

-- no fault is masked
part-none : [] ≡ masked_part 0
unfolding masked_part
part-none = refl

-- some are
part-some : (n : ℕ) → 1 ≤ n → codes " masked" ++ natural_field n ≡ masked_part n
unfolding masked_part
part-some n some = let apart : n ≢ 0 = λ z. omega arith in sym (ap (λ b. cond b [] (codes " masked" ++ natural_field n)) (ne_eqb n 0 apart))

pub masked-take : Takes masked_read (λ n t. (t ≡ masked_part n) × IsShort n)
masked-take = record { takes = t }
  where
    nothing : (ws : List (List ℕ)) (n : ℕ) (rest : List (List ℕ)) → Some (pair 0 ws) ≡ Some (pair n rest) → Read IsMasked ws n rest
    nothing ws n rest e =
        let known : IsMasked 0 [] = (part-none, omega arith) in
        (takes-done 0 IsMasked known).takes ws n rest e

    told : (w : List ℕ) (n : ℕ) → masked_of w ≡ Some n → IsMasked n ((32 ∷ codes "masked") ++ (32 ∷ w))
    told w n e = let is = masked-takes w n e in (ap (λ t. codes " masked" ++ t) is.0 ∙ part-some n is.2, is.1)

    by : (w : List ℕ) (ws : List (List ℕ)) (n : ℕ) (rest : List (List ℕ)) (b : Bool) → bytes_eq w (codes "masked") ≡ b → cond b (word masked_of ws) (Some (pair 0 (w ∷ ws))) ≡ Some (pair n rest) → Read IsMasked (w ∷ ws) n rest
    by w ws n rest true is e =
        behind IsMasked (codes "masked") w ws n rest (bytes-same w (codes "masked") is)
        ((takes-word masked_of (λ k t. IsMasked k ((32 ∷ codes "masked") ++ t)) told).takes ws n rest e)
    by w ws n rest false is e = nothing (w ∷ ws) n rest e

    t : (ws : List (List ℕ)) (n : ℕ) (rest : List (List ℕ)) → masked_read ws ≡ Some (n, rest) → Read IsMasked ws n rest
    t [] n rest e = nothing [] n rest e
    t (w ∷ ws) n rest e = by w ws n rest (bytes_eq w (codes "masked")) refl e

-- the first word is another
abbrev pub Unmasked : List (List ℕ) → Type 0
Unmasked [] = Unit {0}
Unmasked (w ∷ ws) = bytes_eq w (codes "masked") ≡ false

none-read : (rest : List (List ℕ)) → Unmasked rest → masked_read rest ≡ Some (0, rest)
none-read [] u = refl
none-read (w ∷ ws) u = ap (λ b. cond b (word masked_of ws) (Some (0, w ∷ ws))) u

pub masked-again : (n : ℕ) → IsShort n → AgainPart masked_read n (masked_part n) (codes "masked") Unmasked
masked-again n short = by (n == 0) refl
  where
    none : AgainPart masked_read 0 (masked_part 0) (codes "masked") Unmasked
    none = record { again = record { front = []; spelled = part-none; plain = tt; reads = none-read }; starts = tt }

    by : (b : Bool) → (n == 0) ≡ b → AgainPart masked_read n (masked_part n) (codes "masked") Unmasked
    by true e = subst (λ k. AgainPart masked_read k (masked_part k) (codes "masked") Unmasked) (sym (eqb-true n 0 e)) none
    by false e =
        let apart : n ≢ 0 = eqb-false n 0 e in
        let some : 1 ≤ n = omega (arith, apart) in
        let one = word-again masked_of natural_field n (masked-item n short some) in
        record {
          again = record {
            front = codes "masked" ∷ one.front;
            spelled = ap (λ t. codes " masked" ++ t) one.spelled ∙ part-some n some;
            plain = (plain-word-is (codes "masked") refl, one.plain);
            reads = λ rest u. ap (λ b. cond b (word masked_of (one.front ++ rest)) (Some (0, codes "masked" ∷ (one.front ++ rest)))) (same-bytes (codes "masked")) ∙ one.reads rest tt;
          };
          starts = refl;
        }
