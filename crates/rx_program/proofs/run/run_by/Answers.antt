use Rattle.std.proofs.Common.{ℕ, List, sym, ap, ◌∙◌, slice_index_or}
use Rattle.rx_words.specs.Commands.{source_of}
use Rattle.rx_words.specs.declared.command.PickWords.{PickWords}
use Rattle.rx_program.specs.Top.{picks_of}
use Rattle.rx_program.proofs.run.run_by.Goals as goal

pub returns-in_ok-open-in-Zeros-clause-picked : goal.returns-in_ok-open-in-Zeros-clause-picked
returns-in_ok-open-in-Zeros-clause-picked c =
    c.run_program.ensures.picked (picks_of (source_of c.args.picks)) (λ j. c.in_ok-open-in-Zeros.ensures j ∙ sym (ap (λ (p : PickWords). picks_of (source_of p) j) c.in-Zeros.is))

pub returns-in_ok-open-in-List-clause-picked : goal.returns-in_ok-open-in-List-clause-picked
returns-in_ok-open-in-List-clause-picked c =
    c.run_program-in-List.ensures.picked (picks_of (source_of c.args.picks)) (λ j. c.in_ok-open-in-List.ensures j ∙ ap (λ (ns : List ℕ). slice_index_or ns j 0) c.deref.ensures.value ∙ sym (ap (λ (p : PickWords). picks_of (source_of p) j) c.in-List.is))

pub returns-in-Seed-clause-picked : goal.returns-in-Seed-clause-picked
returns-in-Seed-clause-picked c =
    c.run_program-in-Seed.ensures.picked (picks_of (source_of c.args.picks)) (λ j. c.open-in-Seed.ensures j ∙ sym (ap (λ (p : PickWords). picks_of (source_of p) j) c.in-Seed.is))
