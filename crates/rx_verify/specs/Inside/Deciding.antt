-- What a yes and a no say.
use Rattle.std.specs.Prelude.{Bool, true, false}

-- what was asked holds, and so does what comes of it; or it does not hold
abbrev pub Decides : Bool → Type 0 → Type 0 → Type 0
Decides true P Q = P × Q
Decides false P Q = P → ⊥
