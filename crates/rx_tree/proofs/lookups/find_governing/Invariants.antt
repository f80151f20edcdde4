use Rattle.std.proofs.Common.{◌≡◌, ◌-◌, ◌≤◌, length, drop, Some}
use Rattle.rx_rules.proofs.Common.{governing_in}
use Rattle.rx_tree.proofs.lookups.find_governing.Given as goal

abbrev pub invariant-up : goal.invariant-up
invariant-up l =
    (l.start ≤ length l.scopes) × (governing_in l.scopes (Some l.fn.from) ≡ governing_in (drop l.start l.scopes) (Some l.want))

abbrev pub decreases-up : goal.decreases-up
decreases-up l = length l.scopes - l.start
