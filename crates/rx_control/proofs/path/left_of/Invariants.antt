use Rattle.std.proofs.Common.{◌≡◌, ◌++◌, ℕ, List, drop, flat_map, ◌↔◌}
use Rattle.rx_control.specs.Stands.{numbers, path_of}
use Rattle.rx_control.proofs.path.left_of.Given as goal

-- the path goes on behind what is passed as what is left goes on
abbrev pub invariant-loop-frame : goal.invariant-loop-frame
invariant-loop-frame l = (rest : List ℕ) → (l.path ≡ path_of l.base l.frames ++ rest) ↔ (l.left ≡ flat_map numbers (drop l.frame-index l.frames) ++ rest)
