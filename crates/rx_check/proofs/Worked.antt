-- The rules on small scripts.
use Rattle.std.proofs.Common.{◌≡◌, ℕ, zero, suc, pos, Some, None, refl}
use Rattle.rx_rules.proofs.Common.{Num, Name, SetTo, Forget, Census, Print, Finish, Repeat, Block, Nothing, Then}
use Rattle.rx_check.specs.Rules.{verdict}

-- `print x;`
pub unknown-name : verdict (Then (Print (Name 0)) Nothing) ≡ Some (1, 0)
unknown-name = refl

-- `set x = 1; forget x;`
pub number-as-target : verdict (Then (SetTo 0 (Num (pos 1))) (Then (Forget 0) Nothing)) ≡ Some (2, 1)
number-as-target = refl

-- `census n; forget n;`
pub census-makes-number : verdict (Then (Census 0) (Then (Forget 0) Nothing)) ≡ Some (2, 1)
census-makes-number = refl

-- `census n; print n;`
pub counted-name-is-known : verdict (Then (Census 0) (Then (Print (Name 0)) Nothing)) ≡ None
counted-name-is-known = refl

-- so many `finish` in one another, with these statements in the innermost
abbrev pub nested : ℕ → Block → Block
nested zero b = b
nested (suc n) b = Then (Finish (nested n b)) Nothing

abbrev pub print_one : Block
print_one = Then (Print (Num (pos 1))) Nothing

pub too-deep : verdict (nested 33 print_one) ≡ Some (3, 33)
too-deep = refl

pub deepest : verdict (nested 32 print_one) ≡ None
deepest = refl

-- `set` of so many names, the last of them first
abbrev pub names : ℕ → Block
names zero = Nothing
names (suc n) = Then (SetTo n (Num (pos 1))) (names n)

pub too-many-names : verdict (names 33) ≡ Some (4, 32)
too-many-names = refl

pub most-names : verdict (names 32) ≡ None
most-names = refl

-- `repeat 9 { repeat 11109 { } }`, and the same with a `print` after it
abbrev pub turns : Block → Block
turns after = Then (Repeat 9 (Then (Repeat 11109 Nothing) Nothing)) after

pub most-work : verdict (turns Nothing) ≡ None
most-work = refl

pub too-much-work : verdict (turns print_one) ≡ Some (5, 0)
too-much-work = refl
