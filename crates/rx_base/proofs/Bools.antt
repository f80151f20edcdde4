-- Tests that are joined.
use Rattle.std.proofs.Common.{◌≡◌, Bool, true, false, ◌&&◌, ◌||◌, refl}

pub and-first : (a b : Bool) → (a && b) ≡ true → a ≡ true
and-first true b both = refl
and-first false b both = both

pub and-second : (a b : Bool) → (a && b) ≡ true → b ≡ true
and-second true b both = both
and-second false b both = cc

pub or-first : (a b : Bool) → (a || b) ≡ false → a ≡ false
or-first true b neither = neither
or-first false b neither = refl

pub or-assoc : (a b c : Bool) → (a || (b || c)) ≡ ((a || b) || c)
or-assoc true b c = refl
or-assoc false b c = refl

-- the equation of or-false of std, read the other way round
pub same-or-false : (b : Bool) → b ≡ (b || false)
same-or-false true = refl
same-or-false false = refl
