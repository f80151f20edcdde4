-- The picks that a seed gives.
use Rattle.std.specs.Prelude.{ℕ}
use Rattle.rand_pcg.specs.Lcg.{Lcg, started, increment_of, state_after}
use Rattle.rand_pcg.specs.Pcg.{multiplier_64, output_xsh_rr}

-- the generator of a seed, on stream 0
abbrev pub generator_of : ℕ → Lcg
generator_of seed = started 64 multiplier_64 seed (increment_of 64 0)

-- the 32-bit word that a generator's j-th call from now on gives: the output of its state after j steps
abbrev pub word_at : Lcg → ℕ → ℕ
word_at g j = output_xsh_rr (state_after 64 multiplier_64 g.increment j g.state)

-- the j-th word of a seed, from 0
abbrev pub seed_word : ℕ → ℕ → ℕ
seed_word seed = word_at (generator_of seed)
