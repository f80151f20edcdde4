-- Lines that begin with a number.
use Rattle.std.proofs.Common.{◌≡◌, ℕ, Bool, true, false, cond, ◌==◌, List, [], ◌∷◌, length, refl, ap, sym, ◌∙◌, arith, Some, None}
use Rattle.std.specs.Str.{bytes_eq}
use Rattle.std.proofs.lemmas.Bool.{eqb-true}
use Rattle.rx_base.proofs.Elements.{same-bytes}
use Rattle.rx_text.specs.Numbers.{natural_text}
use Rattle.rx_fields.specs.Inside.FieldWords.{next}
use Rattle.rx_fields.specs.Inside.Readers.{Reader, all_read, behind, keyed}

-- the words behind a number that is known
pub behind_known : (ws left : List (List ℕ)) (n : ℕ) → ws ≡ natural_text n ∷ left → behind (natural_text n) ws ≡ Some left
behind_known ws left n is = ap (behind (natural_text n)) is ∙ ap (λ b. cond b (Some left) None) (same-bytes (natural_text n))

-- a reader behind a word reads the words behind it
pub keyed_behind : {A : Type 0} (key : List ℕ) (r : Reader A) (ws : List (List ℕ)) → keyed key r ws ≡ next (behind key ws) r
keyed_behind key r [] = refl
keyed_behind {A} key r (w ∷ ws) = by (bytes_eq w key)
  where
    by : (b : Bool) → cond b (r ws) None ≡ next (cond b (Some ws) None) r
    by true = refl
    by false = refl

-- what a reader answers behind a word, where nothing is left
pub read_behind : {A : Type 0} (key : List ℕ) (r : Reader A) (ws left rest : List (List ℕ)) (a : A) → Some left ≡ behind key ws → Some (a, rest) ≡ r left → (length rest == 0) ≡ true → Some a ≡ all_read (keyed key r ws)
read_behind {A} key r ws left rest a first read none =
    sym (ap all_read (keyed_behind key r ws ∙ ap (λ o. next o r) (sym first) ∙ sym read) ∙ whole rest none)
  where
    whole : (rest : List (List ℕ)) → (length rest == 0) ≡ true → all_read (Some (a, rest)) ≡ Some a
    whole [] e = refl
    whole (w ∷ ws) e = absurd (let none : length (w ∷ ws) ≡ 0 = eqb-true (length (w ∷ ws)) 0 e in omega arith)
