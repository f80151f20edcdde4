use Rattle.std.proofs.Common.{◌≡◌, take}
use Rattle.std.specs.List.{count_by}
use Rattle.rx_gen.specs.Numbers.{starts, prints, dies, loses}
use Rattle.rx_gen.proofs.counting.counts.Given as goal

-- what has been counted so far
abbrev pub invariant-loop-i : goal.invariant-loop-i
invariant-loop-i l =
    (l.started ≡ count_by starts (take l.i l.history.entries)) × (l.prints ≡ count_by prints (take l.i l.history.entries))
    × (l.deaths ≡ count_by dies (take l.i l.history.entries)) × (l.losses ≡ count_by loses (take l.i l.history.entries))
