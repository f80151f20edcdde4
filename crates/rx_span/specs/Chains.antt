-- The longest chain of statements.
use Rattle.std.specs.Prelude.{◌≡◌, ◌⊎◌, ℕ, ◌≤◌, true, List, [], ◌∷◌, length}
use Rattle.rx_rules.specs.Code.{Block}
use Rattle.rx_rules.specs.Order.{comes_before}
use Rattle.rx_span.specs.Paths.{NotAfter}

-- each statement is before the next
abbrev pub IsChain : Block → List (List ℕ) → Type 0
IsChain code [] = Unit {0}
IsChain code (x ∷ []) = Unit {0}
IsChain code (x ∷ y ∷ c) = (comes_before code x y ≡ true) × IsChain code (y ∷ c)

-- x is one of these
abbrev pub In : List ℕ → List (List ℕ) → Type 0
In x [] = ⊥
In x (y ∷ ys) = (x ≡ y) ⊎ In x ys

-- each is one of those
abbrev pub AllIn : List (List ℕ) → List (List ℕ) → Type 0
AllIn [] ys = Unit {0}
AllIn (x ∷ xs) ys = In x ys × AllIn xs ys

-- the number of these statements, and a chain of them than which none is longer: of those that are as long it comes first
pub record IsSpan (code : Block) (ys : List (List ℕ)) (count : ℕ) (chain : List (List ℕ)) : Type 0 where
  pub counted : count ≡ length ys
  pub is_chain : IsChain code chain
  pub among : AllIn chain ys
  pub longest : (d : List (List ℕ)) → IsChain code d → AllIn d ys → length d ≤ length chain
  pub first : (d : List (List ℕ)) → IsChain code d → AllIn d ys → length d ≡ length chain → NotAfter chain d

-- there is one such number and one such chain
abbrev pub OneSpan : Type 0
OneSpan =
    (code : Block) (ys : List (List ℕ)) (m n : ℕ) (c d : List (List ℕ)) → IsSpan code ys m c → IsSpan code ys n d → (m ≡ n) × (c ≡ d)
