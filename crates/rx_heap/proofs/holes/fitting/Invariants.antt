use Rattle.std.proofs.Common.{◌<◌, take, All}
use Rattle.rx_heap.specs.Inside.Longest.{IsBounded}
use Rattle.rx_heap.proofs.holes.fitting.Given as goal

abbrev pub invariant-loop-group : goal.invariant-loop-group
invariant-loop-group l = All (λ most. most < l.n) (take l.group l.longest) × All (IsBounded l.longest) l.holes
