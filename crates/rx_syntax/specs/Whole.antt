-- What a script by number keeps.
use Rattle.rx_rules.specs.Code.{Block}
use Rattle.rx_syntax.specs.Shape.{Shape, IsSmall, Stands}
use Rattle.rx_syntax.specs.Grammar.{AllInRange, spellings}
use Rattle.rx_syntax.specs.Tokens.{AreNames}
use Rattle.rx_syntax.specs.Texts.{AreSpelled}

-- it stands for a script of the grammar, with its names
pub record IsWhole (s : Shape) : Type 0 where
  pub small : IsSmall s.blocks
  pub tree : Block
  pub stands : Stands s tree
  pub fits : AllInRange tree
  pub names : AreNames s.names (spellings tree)
  pub spelled : AreSpelled (spellings tree)
