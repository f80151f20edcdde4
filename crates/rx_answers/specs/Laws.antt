-- What determines an answer, and worked lines.
use Rattle.std.specs.Prelude.{◌≡◌, ℕ, Bool, List, [], ◌∷◌, codes}
use Rattle.rx_verdict.specs.declared.verdict.Verdict.TheVariants.{Event}
use Rattle.rx_answers.specs.declared.answers.Question.{Question}
use Rattle.rx_answers.specs.Answers.{IsAnswer}
use Rattle.rx_answers.specs.Lines.{verdict_line, span_text}

-- the same bytes have one answer to a question
abbrev pub AnswerIsOne : Type 0
AnswerIsOne =
    (question : Question) (bytes text other : List ℕ) (a b : Bool) → IsAnswer question bytes text a → IsAnswer question bytes other b
    → (text ≡ other) × (a ≡ b)

-- the text tells whether an answer is a yes, whatever the bytes
abbrev pub TextTellsAnswer : Type 0
TextTellsAnswer =
    (question : Question) (bytes others text : List ℕ) (a b : Bool) → IsAnswer question bytes text a → IsAnswer question others text b
    → a ≡ b

-- the line of a flaw, and the lines of a chain of three of seven statements
abbrev pub WorkedLines : Type 0
WorkedLines =
    (verdict_line (Event (record { 0 = 1 }) 2) ≡ codes "event 1 2\n")
    × (span_text 7 ((0 ∷ 0 ∷ 0 ∷ []) ∷ (0 ∷ 1 ∷ 0 ∷ []) ∷ (1 ∷ []) ∷ []) ≡ codes "statements 7\nchain 3\n0.0.0\n0.1.0\n1\n")
