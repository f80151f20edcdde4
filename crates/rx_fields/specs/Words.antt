-- Lines and words: how bytes are cut.
use Rattle.std.specs.Prelude.{◌≢◌, ℕ, ◌==◌, List, [], ◌∷◌, Option, Some, None, if◌then◌else◌}
use Rattle.std.specs.List.{AllByRecursion, flat_map}

-- the byte c is not among them
abbrev pub Lacks : ℕ → List ℕ → Type 0
Lacks c bytes = AllByRecursion (λ b. b ≢ c) bytes

-- one byte more in front of the first piece
abbrev pub grown : ℕ → List (List ℕ) → List (List ℕ)
grown b [] = []
grown b (w ∷ ws) = (b ∷ w) ∷ ws

-- the pieces between the bytes c
abbrev pub pieces : ℕ → List ℕ → List (List ℕ)
pieces c [] = [] ∷ []
pieces c (b ∷ bs) = if b == c then [] ∷ pieces c bs else grown b (pieces c bs)

-- all but the first
abbrev pub later : List (List ℕ) → List (List ℕ)
later [] = []
later (w ∷ ws) = ws

-- the words of what is left of a line: of nothing, or of bytes that begin with a blank (the code 32)
abbrev pub words_left : List ℕ → List (List ℕ)
words_left rest = later (pieces 32 rest)

-- words, each after a blank
abbrev pub fields : List (List ℕ) → List ℕ
fields ws = flat_map (λ w. 32 ∷ w) ws

-- what is left after these bytes in front
abbrev pub stripped : List ℕ → List ℕ → Option (List ℕ)
stripped [] bytes = Some bytes
stripped (p ∷ ps) [] = None
stripped (p ∷ ps) (b ∷ bs) = if b == p then stripped ps bs else None

-- the first word and those after it
abbrev pub first_word : List (List ℕ) → Option (List ℕ × List (List ℕ))
first_word [] = None
first_word (w ∷ ws) = Some (w, ws)

-- what a reader answers that leaves these words
abbrev pub answer_left : {A : Type 0} → Option A → List (List ℕ) → Option (A × List (List ℕ))
answer_left None ws = None
answer_left (Some a) ws = Some (a, ws)
