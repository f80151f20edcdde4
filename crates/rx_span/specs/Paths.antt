-- The paths of a script, and the order in which lists of numbers come.
use Rattle.std.specs.Prelude.{◌≡◌, ◌⊎◌, ℕ, zero, suc, ◌<◌, List, [], ◌∷◌}
use Rattle.rx_rules.specs.Code.{Stmt, Async, AtAsync, At, Finish, If, Repeat, Try, Block, Nothing, Then}
use Rattle.rx_rules.specs.declared.entries.Entry.{Entry}
use Rattle.rx_rules.specs.declared.events.PlaceEvent.{PlaceEvent}
use Rattle.rx_rules.specs.Order.{told}
use Rattle.rx_rules.specs.Run.{Given, IsRun}

-- x names the statement or one inside it; any number may stand for a turn
abbrev mutual
  pub Names : Stmt → List ℕ → Type 0
  Names s [] = Unit {0}
  Names (Async body) (i ∷ x) = NamesIn body i x
  Names (AtAsync place body) (i ∷ x) = NamesIn body i x
  Names (At place body) (i ∷ x) = NamesIn body i x
  Names (Finish body) (i ∷ x) = NamesIn body i x
  Names (If test first other) (zero ∷ i ∷ x) = NamesIn first i x
  Names (If test first other) (suc zero ∷ i ∷ x) = NamesIn other i x
  Names (Repeat times body) (k ∷ i ∷ x) = NamesIn body i x
  Names (Try body dead_only handler) (zero ∷ i ∷ x) = NamesIn body i x
  Names (Try body dead_only handler) (suc zero ∷ i ∷ x) = NamesIn handler i x
  Names s x = ⊥

  -- the statement at position i, or one inside it
  pub NamesIn : Block → ℕ → List ℕ → Type 0
  NamesIn Nothing i x = ⊥
  NamesIn (Then first rest) zero x = Names first x
  NamesIn (Then first rest) (suc i) x = NamesIn rest i x

-- x is a path of the script
abbrev pub IsPath : Block → List ℕ → Type 0
IsPath code [] = ⊥
IsPath code (i ∷ x) = NamesIn code i x

-- each is a path of the script
abbrev pub ArePaths : Block → List (List ℕ) → Type 0
ArePaths code [] = Unit {0}
ArePaths code (x ∷ xs) = IsPath code x × ArePaths code xs

-- the history of a whole run tells paths of its script alone
abbrev pub RunTellsPaths : Type 0
RunTellsPaths =
    (code : Block) (U : Given) (es : List Entry) (js : List (List PlaceEvent)) → IsRun code U es js → ArePaths code (told es)

-- x comes before y, number by number from the front; a path comes before those that go on from it
abbrev pub ComesBefore : List ℕ → List ℕ → Type 0
ComesBefore [] [] = ⊥
ComesBefore [] (j ∷ y) = Unit {0}
ComesBefore (i ∷ x) [] = ⊥
ComesBefore (i ∷ x) (j ∷ y) = (i < j) ⊎ ((i ≡ j) × ComesBefore x y)

-- the list c is d or comes before it, path by path from the front
abbrev pub NotAfter : List (List ℕ) → List (List ℕ) → Type 0
NotAfter [] d = Unit {0}
NotAfter (x ∷ c) [] = ⊥
NotAfter (x ∷ c) (y ∷ d) = ComesBefore x y ⊎ ((x ≡ y) × NotAfter c d)
