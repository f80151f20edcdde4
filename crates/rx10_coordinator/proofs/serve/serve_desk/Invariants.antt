use Rattle.std.proofs.Common.{◌≤◌, ℕ, List, [], length, Option}
use Rattle.std.specs.Io.KnownBytes.{Consumes}
use Rattle.rx10_coordinator.specs.Inside.Desk.{LinesAnswered}
use Rattle.rx10_coordinator.proofs.serve.serve_desk.Given as goal

-- all that was read is answered
abbrev pub invariant-chunks : goal.invariant-chunks
invariant-chunks g l = record {
  later : g.S.Source.faults l.fn.input ≤ g.S.Source.faults l.input;
  served : (p : ℕ) (w : Option (List ℕ)) (f : ℕ) (x : Option (List ℕ)) (h : ℕ)
      → LinesAnswered p w f (g.K.Sink.written l.fn.out) (g.K.Sink.faults l.fn.out) x h (g.L.Sink.written l.fn.log) (g.L.Sink.faults l.fn.log) l.fn.desk l.fn.received []
      → (bytes : List ℕ) × Consumes (g.S.Source.left l.fn.input) (g.S.Source.left l.input) bytes × (l.counter ≤ length bytes)
      × LinesAnswered p w f (g.K.Sink.written l.out) (g.K.Sink.faults l.out) x h (g.L.Sink.written l.log) (g.L.Sink.faults l.log) l.desk l.received bytes;
}
