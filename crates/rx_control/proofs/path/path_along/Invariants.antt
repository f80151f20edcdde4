use Rattle.std.proofs.Common.{◌≡◌, ◌++◌, drop, flat_map}
use Rattle.rx_control.specs.Stands.{numbers, path_of}
use Rattle.rx_control.proofs.path.path_along.Given as goal

-- what is written and what is left are the whole
abbrev pub invariant-loop-frame : goal.invariant-loop-frame
invariant-loop-frame l = l.path ++ flat_map numbers (drop l.frame-index l.frames) ≡ path_of l.base l.frames
