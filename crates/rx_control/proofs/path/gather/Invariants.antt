use Rattle.std.proofs.Common.{◌≡◌, ◌++◌, drop, take, flat_map}
use Rattle.rx_control.specs.Stands.{numbers, path_of}
use Rattle.rx_control.proofs.path.gather.Given as goal

-- what is written and what is left are the whole
abbrev pub invariant-loop-frame : goal.invariant-loop-frame
invariant-loop-frame l = take l.len l.room ++ flat_map numbers (drop l.frame-index l.frames) ≡ path_of l.base l.frames
