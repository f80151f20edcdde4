-- What a call of the keeper gives for the step of its book.
use Rattle.std.specs.Prelude.{◌≡◌, Bool, false, List, ◌++◌}
use Rattle.rx_rules.specs.declared.entries.Entry.{Entry}
use Rattle.rx_rules.specs.Run.{Folds}
use Rattle.rx_history.specs.Setups.{given}
use Rattle.rx_ledger.specs.declared.asks.Request.{Request}
use Rattle.rx_ledger.specs.declared.asks.Reply.{Reply}
use Rattle.rx_ledger.specs.Kept.{KeeperView, is_refusal, Applied}
use Rattle.rx_parts.specs.Ledger.{RootIsLast}
use Rattle.rx_objects.specs.Ledger.{frees}

-- entries are appended to a history, which stays what a ledger can know; and it is told whether the root's release is among them
pub record Stepped (k : KeeperView) (q : Request) (r : Reply) (freed : Bool) (k' : KeeperView) : Type 0 where
  pub setup : k'.setup ≡ k.setup
  pub new : List Entry
  pub entries : k'.entries ≡ k.entries ++ new
  pub applied : Applied k q r k'
  pub folds : is_refusal r ≡ false → Folds (given k.setup) k'.entries
  pub last : is_refusal r ≡ false → RootIsLast k'.entries
  pub freed_is : freed ≡ frees r new
