use Rattle.std.proofs.Common.{◌≡◌, ℕ, List, ◌++◌, drop}
use Rattle.std.specs.List.{flat_map}
use Rattle.rx_trace.specs.Fields.{fault_field}
use Rattle.rx_lines.specs.Inside.Telling.{Puts}
use Rattle.rx_lines.proofs.entries.put_faults.Given as goal

-- what is told and what is left are the whole
abbrev pub invariant-loop-i : goal.invariant-loop-i
invariant-loop-i g l =
    (done : List ℕ) × Puts g.L.Sink.written g.L.Sink.faults l.fn.log l.fn.pending l.log l.pending done
    × (done ++ flat_map fault_field (drop l.i l.faults) ≡ flat_map fault_field l.faults)
