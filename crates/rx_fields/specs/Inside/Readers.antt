-- Readers of the words of a line, and how they are put together.
use Rattle.std.specs.Prelude.{ℕ, Bool, true, ◌==◌, List, [], ◌∷◌, Option, Some, None, option_map, if◌then◌else◌}
use Rattle.std.specs.Str.{bytes_eq}

-- whether a word that stands before these bytes ends there: nothing stands there, or a blank
abbrev pub is_word_end : List ℕ → Bool
is_word_end [] = true
is_word_end (b ∷ bs) = b == 32

-- the value and the words that are left after it
abbrev pub Reader : Type 0 → Type 0
Reader A = List (List ℕ) → Option (A × List (List ℕ))

abbrev pub after : {A B : Type 0} → Option (A × List (List ℕ)) → (A → Reader B) → Option (B × List (List ℕ))
after None f = None
after (Some x) f = f x.0 x.1

-- one reader after another
abbrev pub followed : {A B : Type 0} → Reader A → (A → Reader B) → Reader B
followed r f ws = after (r ws) f

-- nothing more is read
abbrev pub done : {A : Type 0} → A → Reader A
done a ws = Some (a, ws)

-- one word
abbrev pub word : {A : Type 0} → (List ℕ → Option A) → Reader A
word of [] = None
word of (w ∷ ws) = option_map (λ a. (a, ws)) (of w)

-- this word, and then another reader
abbrev pub keyed : {A : Type 0} → List ℕ → Reader A → Reader A
keyed key r [] = None
keyed key r (w ∷ ws) = if bytes_eq w key then r ws else None

-- the words behind this one
abbrev pub behind : List ℕ → List (List ℕ) → Option (List (List ℕ))
behind key [] = None
behind key (w ∷ ws) = if bytes_eq w key then Some ws else None

-- the reader after this word, and where it is another word the other reader
abbrev pub either : {A : Type 0} → List ℕ → Reader A → Reader A → Reader A
either key r other [] = None
either key r other (w ∷ ws) = if bytes_eq w key then r ws else other (w ∷ ws)

-- an item more where the word is one, and else no more
abbrev pub gathered : {A : Type 0} → Option A → List ℕ → List (List ℕ) → List A × List (List ℕ) → List A × List (List ℕ)
gathered None w ws more = ([], w ∷ ws)
gathered (Some a) w ws more = (a ∷ more.0, more.1)

-- as many items as there are
abbrev pub many : {A : Type 0} → (List ℕ → Option A) → List (List ℕ) → List A × List (List ℕ)
many of [] = ([], [])
many of (w ∷ ws) = gathered (of w) w ws (many of ws)

abbrev pub one_or_more : {A : Type 0} → List A × List (List ℕ) → Option (List A × List (List ℕ))
one_or_more ([], ws) = None
one_or_more (x ∷ xs, ws) = Some (x ∷ xs, ws)

-- a part: its word and one item or more, or nothing
abbrev pub part : {A : Type 0} → List ℕ → (List ℕ → Option A) → Reader (List A)
part key of [] = Some ([], [])
part key of (w ∷ ws) = if bytes_eq w key then one_or_more (many of ws) else Some ([], w ∷ ws)

-- the value where nothing is left
abbrev pub all_read : {A : Type 0} → Option (A × List (List ℕ)) → Option A
all_read None = None
all_read (Some (a, [])) = Some a
all_read (Some (a, w ∷ ws)) = None
