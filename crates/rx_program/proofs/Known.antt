-- What is known of bytes over two calls.
use Rattle.std.proofs.Common.{◌≡◌, ℕ, List, ◌++◌, Option, Some, None, ap, sym, ◌∙◌, append_assoc, append-nil}
use Rattle.std.specs.Io.KnownBytes.{Consumes, IsAtEnd}

pub consumes-more : (a b c : Option (List ℕ)) (x y : List ℕ) → Consumes a b x → Consumes b c y → Consumes a c (x ++ y)
consumes-more None b c x y h k = tt
consumes-more (Some xs) None c x y h k = absurd h
consumes-more (Some xs) (Some ys) None x y h k = k
consumes-more (Some xs) (Some ys) (Some zs) x y h k = h ∙ ap (λ r. x ++ r) k ∙ sym (append_assoc x y zs)

-- a source that was read to its end gave all its bytes
pub all-read : (a b : Option (List ℕ)) (bytes given : List ℕ) → a ≡ Some given → Consumes a b bytes → IsAtEnd b → bytes ≡ given
all-read None b bytes given e h k = cc
all-read (Some xs) None bytes given e h k = absurd h
all-read (Some xs) (Some ys) bytes given e h k =
    let one : xs ≡ given = some-is xs given e in
    sym (append-nil bytes) ∙ ap (λ r. bytes ++ r) (sym k) ∙ sym h ∙ one
  where
    some-is : (x y : List ℕ) → Some x ≡ Some y → x ≡ y
    some-is x y e = cc
