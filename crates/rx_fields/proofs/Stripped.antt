-- What stands after other bytes.
use Rattle.std.proofs.Common.{◌≡◌, ℕ, Bool, true, false, cond, ◌&&◌, ◌==◌, List, [], ◌∷◌, length, take, drop, refl, Some, None}
use Rattle.std.specs.Str.{bytes_eq}
use Rattle.rx_fields.specs.Words.{stripped}

-- these bytes stand in front
pub strips : (word prefix : List ℕ) → bytes_eq (take (length prefix) word) prefix ≡ true → stripped prefix word ≡ Some (drop (length prefix) word)
strips word [] e = refl
strips [] (p ∷ ps) e = cc
strips (b ∷ bs) (p ∷ ps) e = by (b == p) refl e (strips bs ps)
  where
    by : (t : Bool) → (b == p) ≡ t → (t && bytes_eq (take (length ps) bs) ps) ≡ true → (bytes_eq (take (length ps) bs) ps ≡ true → stripped ps bs ≡ Some (drop (length ps) bs)) → cond t (stripped ps bs) None ≡ Some (drop (length (p ∷ ps)) (b ∷ bs))
    by true h f more = more f
    by false h f more = cc

-- they don't
pub strips_not : (word prefix : List ℕ) → bytes_eq (take (length prefix) word) prefix ≡ false → stripped prefix word ≡ None
strips_not word [] e = cc
strips_not [] (p ∷ ps) e = refl
strips_not (b ∷ bs) (p ∷ ps) e = by (b == p) refl e (strips_not bs ps)
  where
    by : (t : Bool) → (b == p) ≡ t → (t && bytes_eq (take (length ps) bs) ps) ≡ false → (bytes_eq (take (length ps) bs) ps ≡ false → stripped ps bs ≡ None) → cond t (stripped ps bs) None ≡ None
    by true h f more = more f
    by false h f more = refl
