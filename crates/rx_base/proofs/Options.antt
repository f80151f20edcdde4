-- What a test tells of an option.
use Rattle.std.proofs.Common.{◌≡◌, true, false, Option, Some, None, is_some, is_none, refl, sym}
use Rattle.std.proofs.lemmas.Bool.{true≢false}

pub some-of : {X : Type 0} (o : Option X) → is_some o ≡ true → (x : X) × (o ≡ Some x)
some-of (Some x) e = (x, refl)
some-of None e = absurd (true≢false (sym e))

pub none-of : {X : Type 0} (o : Option X) → is_some o ≡ false → o ≡ None
none-of (Some x) e = absurd (true≢false e)
none-of None e = refl

pub none-from : {X : Type 0} (o : Option X) → is_none o ≡ true → o ≡ None
none-from None e = refl
none-from (Some x) e = cc
