-- What stands in front of bytes.
use Rattle.std.proofs.Common.{◌≡◌, ℕ, ◌<◌, ◌≤◌, ◌^◌, true, cond, nat_lt, List, [], ◌∷◌, ◌++◌, length, ap, sym, ◌∙◌, arith, append-nil, ◌≢◌, Some, None, option_map, ℤ, pos}
use Rattle.std.specs.Int.{w64}
use mir.Val.{to_z, of_z}
use Rattle.std.proofs.lemmas.Bool.{eqb-true, le-ltb}
use Rattle.rx_base.specs.declared.ids.PlaceId.{PlaceId}
use Rattle.rx_base.specs.declared.ids.TaskId.{TaskId}
use Rattle.rx_base.specs.declared.ids.ScopeId.{ScopeId}
use Rattle.rx_text.specs.Numbers.{natural_text}
use Rattle.rx_fields.specs.Words.{Lacks, pieces, words_left}
use Rattle.rx_fields.specs.Inside.FieldWords.{next, natural_of, number_below, task_spelt, natural_at, number_at, place_at, task_at, scope_at}
use Rattle.rx_fields.specs.Inside.PartWords.{left_of, item_of}
use Rattle.rx_fields.specs.Inside.Readers.{is_word_end}
use Rattle.rx_fields.proofs.Cuts.{all-map, pieces-cut, pieces-one}
use Rattle.rx_fields.proofs.Figures.{IsFigure, natural-figures, below-again}
use Rattle.rx_fields.proofs.Scanned.{stored_number, below_by_natural}

-- the text of a number has no blank
pub no-blank : (n : ℕ) → n < 2 ^ 32 → Lacks 32 (natural_text n)
no-blank n low = all-map IsFigure (λ b. b ≢ 32) (λ b f. f.0) (natural_text n) (natural-figures n (omega arith))

-- nor has it a dot
pub no_dot : (n : ℕ) → n < 2 ^ 32 → Lacks 46 (natural_text n)
no_dot n low = all-map IsFigure (λ b. b ≢ 46) (λ b f. f.2) (natural_text n) (natural-figures n (omega arith))

-- a word that ends there is the first piece
pub word-then : (w rest : List ℕ) → Lacks 32 w → is_word_end rest ≡ true → pieces 32 (w ++ rest) ≡ w ∷ words_left rest
word-then w [] lacks end = ap (pieces 32) (append-nil w) ∙ pieces-one 32 w lacks
word-then w (b ∷ bs) lacks end =
    let blank : b ≡ 32 = eqb-true b 32 end in
    ap (λ c. pieces 32 (w ++ c ∷ bs)) blank ∙ pieces-cut 32 w bs lacks ∙ ap (λ c. w ∷ words_left (c ∷ bs)) (sym blank)

-- a number in front is the first piece
pub line_first : (line rest : List ℕ) (n : ℕ) → n < 2 ^ 32 → line ≡ natural_text n ++ rest → is_word_end rest ≡ true → pieces 32 line ≡ natural_text n ∷ words_left rest
line_first line rest n low is end = ap (pieces 32) is ∙ word-then (natural_text n) rest (no-blank n low) end

-- a number behind a blank is the first word
pub number_first : (left tail rest : List ℕ) (n : ℕ) → n < 2 ^ 32 → left ≡ 32 ∷ tail → tail ≡ natural_text n ++ rest → is_word_end rest ≡ true → words_left left ≡ natural_text n ∷ words_left rest
number_first left tail rest n low blank is end = ap words_left blank ∙ line_first tail rest n low is end

-- so are a letter and a number
pub letter_first : (letter : ℕ) (left more tail rest : List ℕ) (n : ℕ) → letter ≢ 32 → n < 2 ^ 32 → left ≡ 32 ∷ more → more ≡ letter ∷ tail → tail ≡ natural_text n ++ rest → is_word_end rest ≡ true
    → words_left left ≡ (letter ∷ natural_text n) ∷ words_left rest
letter_first letter left more tail rest n other low blank first is end =
    ap words_left blank ∙ ap (pieces 32) (first ∙ ap (λ t. letter ∷ t) is) ∙ word-then (letter ∷ natural_text n) rest (other, no-blank n low) end

-- the number is read again
pub read_again : (n : ℕ) → n < 2 ^ 32 → natural_of (natural_text n) ≡ Some n
read_again n low = below-again (2 ^ 32) n low (omega arith)

-- bytes that are all a number are its word
pub all_natural : (w rest : List ℕ) (n : ℕ) → n < 2 ^ 32 → w ≡ natural_text n ++ rest → length rest ≡ 0 → natural_of w ≡ Some n
all_natural w [] n low is none = ap natural_of (is ∙ append-nil (natural_text n)) ∙ read_again n low
all_natural w (b ∷ bs) n low is none = absurd (omega arith)

pub natural_known : (ws left : List (List ℕ)) (n : ℕ) → n < 2 ^ 32 → ws ≡ natural_text n ∷ left → natural_at ws ≡ Some (n, left)
natural_known ws left n low is = ap natural_at is ∙ ap (option_map (λ a. (a, left))) (read_again n low)

pub number_known : (ws left : List (List ℕ)) (n : ℕ) (z : ℤ) → n < 2 ^ 32 → ws ≡ natural_text n ∷ left → z ≡ pos n → Some (to_z w64 (of_z w64 z), left) ≡ number_at ws
number_known ws left n z low is e = ap (option_map (λ a. (a, left))) (stored_number (natural_text n) n z (read_again n low) e) ∙ sym (ap number_at is)

pub place_known : (places : ℕ) (ws left : List (List ℕ)) (n : ℕ) → places < 2 ^ 32 → n < places → ws ≡ natural_text n ∷ left → place_at places ws ≡ Some (record { 0 = n }, left)
place_known places ws left n few low is =
    ap (place_at places) is ∙ ap (λ o. option_map (λ a. (a, left)) (option_map (λ k. place k) o)) (below-again places n low (omega arith))
  where
    place : ℕ → PlaceId
    place k = record { 0 = k }

pub no_place_known : (places : ℕ) (ws left : List (List ℕ)) (n : ℕ) → places < 2 ^ 32 → n < 2 ^ 32 → places ≤ n → ws ≡ natural_text n ∷ left → place_at places ws ≡ None
no_place_known places ws left n few low high is =
    ap (place_at places) is ∙ ap (λ o. option_map (λ a. (a, left)) (option_map (λ k. place k) o)) none
  where
    place : ℕ → PlaceId
    place k = record { 0 = k }

    none : number_below places (natural_text n) ≡ None
    none = below_by_natural places (natural_text n) few ∙ ap (λ o. next o (λ k. cond (nat_lt k places) (Some k) None)) (read_again n low) ∙ ap (λ b. cond b (Some n) None) (le-ltb n places high)

pub task_known : (ws left : List (List ℕ)) (n : ℕ) → n < 2 ^ 32 → ws ≡ (116 ∷ natural_text n) ∷ left → task_at ws ≡ Some (record { 0 = n }, left)
task_known ws left n low is = ap task_at is ∙ ap (λ o. option_map (λ a. (a, left)) (option_map (λ k. task k) o)) (read_again n low)
  where
    task : ℕ → TaskId
    task k = record { 0 = k }

pub scope_known : (ws left : List (List ℕ)) (n : ℕ) → n < 2 ^ 32 → ws ≡ (115 ∷ natural_text n) ∷ left → scope_at ws ≡ Some (record { 0 = n }, left)
scope_known ws left n low is = ap scope_at is ∙ ap (λ o. option_map (λ a. (a, left)) (option_map (λ k. scope k) o)) (read_again n low)
  where
    scope : ℕ → ScopeId
    scope k = record { 0 = k }

-- a task in front is taken
pub task_first : (ws left : List (List ℕ)) (n : ℕ) → n < 2 ^ 32 → ws ≡ (116 ∷ natural_text n) ∷ left → item_of task_spelt ws ≡ (Some (record { 0 = n }), left)
task_first ws left n low is = ap (item_of task_spelt) is ∙ ap (λ o. left_of (option_map (λ k. task k) o) (116 ∷ natural_text n) left) (read_again n low)
  where
    task : ℕ → TaskId
    task k = record { 0 = k }
