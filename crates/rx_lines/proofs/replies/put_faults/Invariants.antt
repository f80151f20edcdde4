use Rattle.std.proofs.Common.{◌≡◌, ℕ, List, ◌++◌, drop}
use Rattle.std.specs.List.{flat_map}
use Rattle.rx_lines.specs.Replies.{fault_text}
use Rattle.rx_lines.specs.Inside.Telling.{Puts}
use Rattle.rx_lines.proofs.replies.put_faults.Given as goal

-- what is told and what is left are the whole
abbrev pub invariant-loop-i : goal.invariant-loop-i
invariant-loop-i g l =
    (done : List ℕ) × Puts g.K.Sink.written g.K.Sink.faults l.fn.out l.fn.pending l.out l.pending done
    × (done ++ flat_map fault_text (drop l.i l.faults) ≡ flat_map fault_text l.faults)
