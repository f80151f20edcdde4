use Rattle.std.proofs.Common.{◌≡◌, ℕ, List, ◌++◌, drop, filter}
use Rattle.std.specs.List.{flat_map}
use Rattle.rx_rules.proofs.Common.{all_places, has_bit, members}
use Rattle.rx_trace.specs.Fields.{natural_field}
use Rattle.rx_lines.specs.Inside.Telling.{Puts}
use Rattle.rx_lines.proofs.replies.put_places.Given as goal

-- what is told and what is left are the whole
abbrev pub invariant-loop-p : goal.invariant-loop-p
invariant-loop-p g l =
    (done : List ℕ) × Puts g.K.Sink.written g.K.Sink.faults l.fn.out l.fn.pending l.out l.pending done
    × (done ++ flat_map natural_field (filter (has_bit l.set.0) (drop l.p all_places)) ≡ flat_map natural_field (members l.set))
