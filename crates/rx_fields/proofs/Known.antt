-- Whether a word is a number that is known.
use Rattle.std.proofs.Common.{◌≡◌, ℕ, ◌<◌, ◌^◌, ◌==◌, Bool, true, false, List, refl, ap, sym, ◌∙◌, arith, Some, None}
use Rattle.std.specs.Str.{bytes_eq}
use Rattle.std.proofs.lemmas.Bool.{eqb-true, eqb-false}
use Rattle.std.proofs.lemmas.Option.{same_Some, none-some}
use Rattle.rx_base.proofs.Elements.{same-bytes}
use Rattle.rx_text.specs.Numbers.{natural_text}
use Rattle.rx_fields.specs.Inside.FieldWords.{natural_of}
use Rattle.rx_fields.proofs.Cuts.{bytes-same}
use Rattle.rx_fields.proofs.Figures.{below-takes, below-again}

-- a word that is another number is not this one
pub same_number : (w : List ℕ) (m n : ℕ) → n < 2 ^ 32 → natural_of w ≡ Some m → bytes_eq w (natural_text n) ≡ (m == n)
same_number w m n low e = by (m == n) refl (bytes_eq w (natural_text n)) refl
  where
    by : (a : Bool) → (m == n) ≡ a → (b : Bool) → bytes_eq w (natural_text n) ≡ b → b ≡ a
    by true same b is = sym is ∙ ap (bytes_eq w) (sym ((below-takes (2 ^ 32) w m e).0 ∙ ap natural_text (eqb-true m n same))) ∙ same-bytes w
    by false other false is = refl
    by false other true is =
        let same : m ≡ n = same_Some m n (sym e ∙ ap natural_of (bytes-same w (natural_text n) is) ∙ below-again (2 ^ 32) n low (omega arith)) in
        absurd (eqb-false m n other same)

-- a word that is no number is not this one
pub no_number_there : (w : List ℕ) (n : ℕ) → n < 2 ^ 32 → natural_of w ≡ None → bytes_eq w (natural_text n) ≡ false
no_number_there w n low e = by (bytes_eq w (natural_text n)) refl
  where
    by : (b : Bool) → bytes_eq w (natural_text n) ≡ b → b ≡ false
    by false is = refl
    by true is = absurd (none-some n (sym e ∙ ap natural_of (bytes-same w (natural_text n) is) ∙ below-again (2 ^ 32) n low (omega arith)))
