use Rattle.std.proofs.Common.{◌≡◌, drop}
use Rattle.rx_check.specs.Inside.Walk.{kind_in, seen_all}
use Rattle.rx_check.proofs.names.kind_of.Given as goal

-- the names so far are others
abbrev pub invariant-loop-one : goal.invariant-loop-one
invariant-loop-one l = kind_in (seen_all l.seen) l.name.0 ≡ kind_in (seen_all (drop l.one-index l.seen)) l.name.0
