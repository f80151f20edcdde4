use Rattle.std.proofs.Common.{◌≡◌, ◌++◌, drop, filter}
use Rattle.std.specs.List.{flat_map}
use Rattle.rx_rules.proofs.Common.{all_places, has_bit, members}
use Rattle.rx_trace.specs.Fields.{natural_field}
use Rattle.rx_trace.proofs.parts.put_places.Given as goal

-- what is written and what is left are the whole
abbrev pub invariant-loop-p : goal.invariant-loop-p
invariant-loop-p l = l.out.items ++ flat_map natural_field (filter (has_bit l.set.0) (drop l.p all_places)) ≡ l.fn.out.items ++ flat_map natural_field (members l.set)
