use Rattle.std.proofs.Common.{ℕ, List, ◌++◌, take, Option}
use Rattle.rx10_coordinator.specs.Inside.Desk.{LinesAnswered}
use Rattle.rx10_coordinator.proofs.serve.take_all.Given as goal

-- the bytes so far were taken
abbrev pub invariant-bytes : goal.invariant-bytes
invariant-bytes g l =
    (p : ℕ) (w : Option (List ℕ)) (f : ℕ) (x : Option (List ℕ)) (h : ℕ) (given : List ℕ)
    → LinesAnswered p w f (g.K.Sink.written l.fn.out) (g.K.Sink.faults l.fn.out) x h (g.L.Sink.written l.fn.log) (g.L.Sink.faults l.fn.log) l.fn.desk l.fn.received given
    → LinesAnswered p w f (g.K.Sink.written l.out) (g.K.Sink.faults l.out) x h (g.L.Sink.written l.log) (g.L.Sink.faults l.log) l.desk l.received (given ++ take l.i l.bytes)
