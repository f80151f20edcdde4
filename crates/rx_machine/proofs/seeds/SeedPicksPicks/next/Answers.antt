use Rattle.std.proofs.Common.{◌≡◌, ◌∙◌, ℕ, suc, ap, refl}
use Rattle.rand_pcg.specs.Lcg.{Lcg, next, state_after}
use Rattle.rand_pcg.specs.Pcg.{multiplier_64, output_xsh_rr}
use Rattle.rx_machine.specs.Seeds.{word_at}
use Rattle.rx_machine.proofs.seeds.SeedPicksPicks.next.Goals as goal

now-first : (g : Lcg) → output_xsh_rr g.state ≡ word_at g 0
unfolding state_after
now-first g = refl

one-on : (g : Lcg) (j : ℕ) → word_at (next 64 multiplier_64 g) j ≡ word_at g (suc j)
unfolding state_after
one-on g j = refl

pub returns-clause-now : goal.returns-clause-now
returns-clause-now c = ap (λ (p : ℕ × Lcg). p.0) c.next_word.ensures ∙ now-first c.args.self.now.generator

pub returns-clause-later : goal.returns-clause-later
returns-clause-later c = λ j. ap (λ (p : ℕ × Lcg). word_at p.1 j) c.next_word.ensures ∙ one-on c.args.self.now.generator j
