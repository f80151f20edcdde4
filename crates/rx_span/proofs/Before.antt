-- A statement that comes before another in the order of statements comes before it number by number.
use Rattle.std.proofs.Common.{◌≡◌, ℕ, true, List}
use Rattle.rx_rules.proofs.Common.{Block, comes_before}
use Rattle.rx_history_laws.proofs.Paths.{below-comes, comes_before-below}
use Rattle.rx_span.specs.Paths.{ComesBefore}

pub before-comes : (code : Block) (x y : List ℕ) → comes_before code x y ≡ true → ComesBefore x y
before-comes code x y h = below-comes x y (comes_before-below code x y h)
