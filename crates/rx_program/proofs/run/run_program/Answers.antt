use Rattle.std.proofs.Common.{sym, ap, subst, arith, length}
use Rattle.rx_rules.proofs.Common.{start_game, Given, EndsWithRoot}
use Rattle.rx_history.specs.Setups.{given}
use Rattle.rx_program.proofs.run.run_program.Goals as goal

pub run-requires : goal.run-requires
run-requires g c =
    let w = c.checked.ensures in
    let U : Given = given c.args.setup in
    record { game = λ works. (w.0, U, start_game w.0 U, c.in_ok-machine.ensures w.0 w.1) }

pub returns-clause-picked : goal.returns-clause-picked
returns-clause-picked g c numbers same code stands =
    let U : Given = given c.args.setup in
    let holds = c.in_ok-machine.ensures code stands in
    let r = c.in_ok-history.ensures.picked code U holds in
    let made = c.few_picks_are_used.ensures U _ numbers r.turns (start_game code U) r.game (λ i h. same i) r.made in
    (record { turns = r.turns; game = r.game; made = made; ended = r.ended; entries = r.entries; journals = r.journals }, (c.in_ok-history.ensures.ran code U (start_game code U) holds).gives.setup)

pub returns-clause-ended : goal.returns-clause-ended
returns-clause-ended g c =
    let w = c.checked.ensures in
    let U : Given = given c.args.setup in
    let r = c.in_ok-history.ensures.picked w.0 U (c.in_ok-machine.ensures w.0 w.1) in
    subst EndsWithRoot (sym r.entries) r.ended

pub returns-clause-few : goal.returns-clause-few
returns-clause-few g c =
    let w = c.checked.ensures in
    let U : Given = given c.args.setup in
    let r = c.in_ok-history.ensures.picked w.0 U (c.in_ok-machine.ensures w.0 w.1) in
    let bound = c.entries_are_bounded.ensures w.0 U _ r.turns r.game c.requires r.made in
    let work = w.6 in
    let places = c.requires.few in
    let size = ap (λ es. length es) r.entries in
    omega (arith, bound, work, places, size)
