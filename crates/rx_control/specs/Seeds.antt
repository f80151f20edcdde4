-- What a seed stands for.
use Rattle.std.specs.Prelude.{◌≡◌, ℕ, List, Option, Some, None}
use Rattle.rx_rules.specs.Code.{Block}
use Rattle.rx_rules.specs.Terms.{Term, Empty, items}
use Rattle.rx_syntax.specs.Shape.{Shape, BlockStands}
use Rattle.rx_syntax.specs.declared.nodes.BlockId.{BlockId}
use Rattle.rx_control.specs.declared.birth.Seed.{Seed}

-- a block at whose front a task begins whose paths go on from this one
abbrev pub BodyIs : Shape → Option BlockId → List ℕ → Term → Type 0
BodyIs s None x t = t ≡ Empty
BodyIs s (Some k) x t = (b : Block) × BlockStands s k b × (t ≡ items b x Empty)

-- the seed of a task that the statement with this path started, which has this term to run
abbrev pub IsSeedOf : Shape → Seed → List ℕ → Term → Type 0
IsSeedOf s seed x t = BodyIs s seed.body x t
