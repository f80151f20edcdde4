use Rattle.std.proofs.Common.{◌≤◌, ◌+◌, ◌-◌, vec_len}
use Rattle.std.specs.Io.KnownBytes.{Consumes}
use Rattle.rx_program.proofs.outside.read_all.Given as goal

-- what was taken from the source so far
abbrev pub invariant-reads : goal.invariant-reads
invariant-reads g l = record {
  took : Consumes (g.S.Source.left l.fn.input) (g.S.Source.left l.input) l.bytes.items;
  later : g.S.Source.faults l.fn.input ≤ g.S.Source.faults l.input;
  short : vec_len l.bytes ≤ l.fn.most + 1;
}

abbrev pub decreases-reads : goal.decreases-reads
decreases-reads g l = l.fn.most + 1 - vec_len l.bytes
