-- What the rule of a mailbox says of two passes, and of what a pass took.
use Rattle.std.specs.Prelude.{◌≡◌, ◌≢◌, ℕ, List, [], ◌∷◌, ◌⊎◌}
use mathlib.Core.Option.{some}
use lib.ListN.{get_elem?}
use Rattle.rx_mail.specs.declared.letters.Taken.{Taken}
use Rattle.rx_mail.specs.declared.letters.Letters.{Letters}
use Rattle.rx_mail.specs.Posts.{Delivers, letters_of}

module _ {M : Type 0} where
  -- this message was taken, at this position
  abbrev pub Has : Taken M → List (Taken M) → Type 0
  Has t [] = ⊥
  Has t (x ∷ xs) = (t ≡ x) ⊎ Has t xs

-- no position is taken by two passes
abbrev pub TakenOnce : Type 0 → Type 0
TakenOnce M =
    (items : List M) (views : List (Letters M)) (i j : ℕ) (v w : Letters M) (t u : Taken M) → Delivers items views
    → get_elem? views i ≡ some v → get_elem? views j ≡ some w → i ≢ j → Has t v.took → Has u w.took → t.at ≢ u.at

-- what is taken at a position is what was sent there
abbrev pub TakenAsSent : Type 0 → Type 0
TakenAsSent M =
    (items : List M) (views : List (Letters M)) (i : ℕ) (v : Letters M) (t : Taken M) → (d : Delivers items views)
    → get_elem? views i ≡ some v → Has t v.took → get_elem? (letters_of d.log) t.at ≡ some t.letter
