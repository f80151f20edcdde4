-- Joins: the first that is one too many, and whether a kill's place joins later.
use Rattle.std.proofs.Common.{◌≡◌, ℕ, zero, suc, ◌+◌, ◌-◌, ◌<◌, ◌≤◌, Bool, true, false, List, [], ◌∷◌, length, nat_le, nat_lt, ◌==◌, ◌||◌, Some, None, refl, ap, ◌∙◌, arith, get_or, slice_get, if◌then◌else◌}
use Rattle.std.proofs.lemmas.Bool.Decides.{nat_tests}
use Rattle.rx_rules.proofs.Common.{Kill}
use Rattle.rx_words.specs.Words.{bad_join, joins_later}

-- the join behind those for which there is room
too-many-at : (places room : ℕ) (js : List (ℕ × ℕ)) (d : ℕ × ℕ) → places + room ≡ 16 → room < length js → bad_join places js ≡ Some (get_or js room d).0
too-many-at places room [] d e less = absurd (omega arith)
too-many-at places zero (j ∷ js) d e less = let full : nat_le 16 places ≡ true = grind (arith, nat_tests) in rw full refl
too-many-at places (suc room) (j ∷ js) d e less =
    let some : nat_le 16 places ≡ false = grind (arith, nat_tests) in
    rw some (too-many-at (suc places) room js d (omega arith) (omega arith))

pub one_too_many : (places : ℕ) (js : List (ℕ × ℕ)) (d : ℕ × ℕ) → places ≤ 16 → 16 - places < length js → bad_join places js ≡ Some (get_or js (16 - places) d).0
one_too_many places js d few less = too-many-at places (16 - places) js d (omega arith) less

-- none, where there is room for all of them
few-at : (places room : ℕ) (js : List (ℕ × ℕ)) → places + room ≡ 16 → length js ≤ room → bad_join places js ≡ None
few-at places room [] e less = refl
few-at places zero (j ∷ js) e less = absurd (omega arith)
few-at places (suc room) (j ∷ js) e less =
    let some : nat_le 16 places ≡ false = grind (arith, nat_tests) in
    rw some (few-at (suc places) room js (omega arith) (omega arith))

pub few_enough : (places : ℕ) (js : List (ℕ × ℕ)) → places ≤ 16 → length js ≤ 16 - places → bad_join places js ≡ None
few_enough places js few less = few-at places (16 - places) js (omega arith) less

-- and where none is bad, there is room for all of them
pub room-for : (places : ℕ) (js : List (ℕ × ℕ)) → places ≤ 16 → bad_join places js ≡ None → places + length js ≤ 16
room-for places [] few e = omega arith
room-for places (j ∷ js) few e = by (nat_le 16 places) refl (room-for (suc places) js) e
  where
    by : (b : Bool) → nat_le 16 places ≡ b → (suc places ≤ 16 → bad_join (suc places) js ≡ None → suc places + length js ≤ 16) → (if b then Some j.0 else bad_join (suc places) js) ≡ None → places + length (j ∷ js) ≤ 16
    by true t more e = cc
    by false t more e = let rest = more (grind (arith, nat_tests)) e in omega arith

-- a place below those that join does not join
pub not-later : (k : Kill) (p : ℕ) (joins : List ℕ) → k.place.0 < p → joins_later k p joins ≡ false
not-later k p [] less = refl
not-later k p (e ∷ es) less =
    let other : (k.place.0 == p) ≡ false = grind (arith, nat_tests) in rw other (not-later k (suc p) es (omega arith))

-- nor does one behind them
pub none-later : (k : Kill) (p i : ℕ) (joins : List ℕ) → k.place.0 ≡ p + i → length joins ≤ i → joins_later k p joins ≡ false
none-later k p i [] is less = refl
none-later k p zero (e ∷ es) is less = absurd (omega arith)
none-later k p (suc i) (e ∷ es) is less =
    let other : (k.place.0 == p) ≡ false = grind (arith, nat_tests) in rw other (none-later k (suc p) i es (omega arith) (omega arith))

-- the place that joins at a moment joins later where the kill's moment is below it
pub later-at : (k : Kill) (p i e : ℕ) (joins : List ℕ) → k.place.0 ≡ p + i → slice_get joins i ≡ Some e → joins_later k p joins ≡ nat_lt k.moment e
later-at k p i e [] is at = cc
later-at k p zero e (m ∷ ms) is at =
    let here : (k.place.0 == p) ≡ true = grind (arith, nat_tests) in
    let none : joins_later k (suc p) ms ≡ false = not-later k (suc p) ms (omega arith) in
    rw (here, none) (or-none (nat_lt k.moment m) ∙ ap (nat_lt k.moment) (some-is m e at))
  where
    some-is : (m e : ℕ) → Some m ≡ Some e → m ≡ e
    some-is m e h = cc

    or-none : (b : Bool) → (b || false) ≡ b
    or-none true = refl
    or-none false = refl
later-at k p (suc i) e (m ∷ ms) is at =
    let other : (k.place.0 == p) ≡ false = grind (arith, nat_tests) in rw other (later-at k (suc p) i e ms (omega arith) at)
