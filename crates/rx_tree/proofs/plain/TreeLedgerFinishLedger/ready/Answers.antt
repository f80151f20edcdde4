use Rattle.rx_tree.specs.Kept.{kept}
use Rattle.rx_tree.proofs.Falling.{in_order}
use Rattle.rx_tree.proofs.plain.TreeLedgerFinishLedger.ready.Goals as goal

pub blow-requires : goal.blow-requires
blow-requires c = in_order (kept c.args.self.now) _ c.reached_is_sound.ensures c.requires

pub is_quiet-requires : goal.is_quiet-requires
is_quiet-requires c = in_order (kept c.args.self.now) _ c.reached_is_sound.ensures c.requires
