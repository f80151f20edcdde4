use Rattle.std.proofs.Common.{◌≡◌, ◌++◌, drop, filter}
use Rattle.std.specs.List.{flat_map}
use Rattle.rx_base.specs.Sets.{all_places, has_bit, members}
use Rattle.rx_monitor.specs.Text.{field}
use Rattle.rx_monitor.proofs.text.put_places.Given as goal

-- what is written and what is left are the whole
abbrev pub invariant-loop-p : goal.invariant-loop-p
invariant-loop-p l = l.out.items ++ flat_map field (filter (has_bit l.set.0) (drop l.p all_places)) ≡ l.fn.out.items ++ flat_map field (members l.set)
