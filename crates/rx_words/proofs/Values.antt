-- What is made of a value that is to spell a number.
use Rattle.std.proofs.Common.{◌≡◌, ℕ, Option, Some, None, refl, ap, sym, ◌∙◌}
use Rattle.rx_words.specs.declared.said.Said.{Said}
use Rattle.rx_words.specs.declared.taking.Took.{Took}
use Rattle.rx_words.specs.declared.taking.Took.TheVariants.{NotAnOption, BadValue, Good}
use Rattle.rx_words.specs.Words.{Wants, good}
use Rattle.rx_words.specs.Commands.{wants_of, IsInRange, IsTaken}
use Rattle.rx_words.specs.Inside.Taking.{NumberIsTaken}

-- `said` gives what all options have said, by what this one says
pub number-taken : (took : Took) (spelled new : Option ℕ) (said : Option ℕ → Said) (wants : ℕ → Wants) → ((n : ℕ) → wants n ≡ wants_of (said (Some n)))
    → (took ≡ Good → IsInRange (said new)) → NumberIsTaken took new spelled → IsTaken took (said new) (good spelled wants)
number-taken Good (Some n) new said wants same within h = (same n ∙ ap (λ (o : Option ℕ). wants_of (said o)) (sym h), within refl)
number-taken Good None new said wants same within h = absurd h
number-taken BadValue (Some n) new said wants same within h = absurd h
number-taken BadValue None new said wants same within h = tt
number-taken NotAnOption (Some n) new said wants same within h = absurd h
number-taken NotAnOption None new said wants same within h = absurd h
