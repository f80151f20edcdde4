-- The lines are of the grammar, without names.
use Rattle.std.proofs.Common.{◌≡◌, ℕ, ◌+◌, ◌≤◌, zero, suc, List, [], Some, slice_get, refl, arith}
use Rattle.std.proofs.Math.Nat.{mod-le}
use Rattle.rx_syntax.specs.Lexical.{most}
use Rattle.rx_syntax.specs.Grammar.{spellings, InRange, AllInRange}
use Rattle.rx_syntax.specs.Tokens.{NamesInOrder, AreNames}
use Rattle.rx_syntax.specs.Texts.{AreSpelled}
use Rattle.rx_gen.specs.Lines.{line, lines_from, lines}

line-fits : (q i : ℕ) → InRange (line q i)
line-fits q i = (((((tt, tt), tt), tt), tt), tt)

pub all-fit : (q i n : ℕ) → AllInRange (lines_from q i n)
all-fit q i zero = tt
all-fit q i (suc n) = (line-fits q i, all-fit q (i + 1) n)

in-order : (q i n : ℕ) → NamesInOrder 0 (spellings (lines_from q i n)) 0
in-order q i zero = refl
in-order q i (suc n) = in-order q (i + 1) n

no-name : (i : ℕ) (name : List ℕ) → slice_get [] i ≡ Some name → ⊥
no-name i name h = cc

pub are-names : (q n : ℕ) → AreNames [] (spellings (lines q n))
are-names q n = record { are_names = λ i name h. absurd (no-name i name h); distinct = λ i j name h k. absurd (no-name i name h); in_order = in-order q 0 n }

small : (n : ℕ) → n ≤ 20000 → n ≤ most
small n h = omega (arith, h)

pub spelled : (q i n : ℕ) → i + n ≤ 20000 → AreSpelled (spellings (lines_from q i n))
spelled q i zero h = tt
spelled q i (suc n) h =
    (small _ (omega (arith, mod-le i q, h)), (small _ (omega (arith, mod-le (i + 1) q, h)), (small i (omega (arith, h)), spelled q (i + 1) n (omega (arith, h)))))
