use Rattle.std.proofs.Common.{◌≡◌, ◌+◌, ◌*◌, ◌-◌, ◌≤◌, length, map}
use Rattle.rx_rules.proofs.Common.{Block}
use Rattle.rx_syntax.specs.Shape.{Stands}
use Rattle.rx_span.specs.Inside.Sorting.{next_of, backwards}
use Rattle.rx_span.specs.Inside.Best.{best_chains}
use Rattle.rx_span.specs.Inside.Kept.{Linked}
use Rattle.rx_span.proofs.States.{State}
use Rattle.rx_span.proofs.links.link.Given as goal

-- the paths before `at` are passed, and the table is that before the path at it
abbrev pub invariant-loop-at : goal.invariant-loop-at
invariant-loop-at g l =
    record {
      within : l.at ≤ length l.paths;
      links : length l.links.items ≡ l.at;
      rows : l.from ≤ length l.rows.items;
      from : l.from ≤ length (next_of l.at (map (λ p. p.now) l.paths));
      looks : l.steps ≤ l.initial.steps + 65 * l.at;
      linked : (code : Block) → Stands l.program.script code → Linked (best_chains code (backwards l.at (map (λ p. p.now) l.paths))) (map (λ p. p.now) l.paths) l.links.items;
      state : (code : Block) → Stands l.program.script code → State code (next_of l.at (map (λ p. p.now) l.paths)) (backwards l.at (map (λ p. p.now) l.paths)) l.rows.items l.from l.passed;
    }

abbrev pub decreases-loop-at : goal.decreases-loop-at
decreases-loop-at g l = length l.paths - l.at
