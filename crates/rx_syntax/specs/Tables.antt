-- Names as lists of bytes.
use Rattle.std.specs.Prelude.{ℕ, List, map, Vec}
use Rattle.std.specs.Global.{Global}

-- the bytes of each name
abbrev pub names_of : Vec (Vec ℕ Global) Global → List (List ℕ)
names_of names = map (λ n. n.items) names.items
