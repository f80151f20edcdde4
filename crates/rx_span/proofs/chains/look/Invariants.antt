use Rattle.std.proofs.Common.{◌≡◌, ◌+◌, ◌≤◌, length, drop, max}
use Rattle.rx_span.specs.Inside.Kept.{kept_from, follow, past}
use Rattle.rx_span.proofs.chains.look.Given as goal

-- what the rows from `at` on tell
abbrev pub invariant-loop-at : goal.invariant-loop-at
invariant-loop-at g l =
    record {
      within : l.at ≤ length l.rows;
      follows : l.follows ≡ follow (drop l.at l.marks) (drop l.at l.rows);
      kept : l.kept ≡ kept_from (drop l.at l.marks);
      passed : l.passed ≡ past (drop (max l.at l.from) l.rows) l.fn.inside;
      looks : l.steps + l.at ≡ l.initial.steps + length l.rows;
    }

abbrev pub decreases-loop-at : goal.decreases-loop-at
decreases-loop-at g l = l.at
