use Rattle.rx_tree.specs.Kept.{kept}
use Rattle.rx_tree.proofs.Replies.{at_kept, root_released}
use Rattle.rx_tree.proofs.Falling.{in_order, kept_narrow}
use Rattle.rx_tree.proofs.plain.TreeLedgerFinishLedger.release_root.Goals as goal

pub returns : goal.returns
returns c =
    at_kept (kept c.args.self.now) _ _ (λ r has. root_released (kept c.args.self.now) _ c.leave.result r has c.leave.ensures)

pub leave-requires : goal.leave-requires
leave-requires c = (in_order (kept c.args.self.now) _ c.reached_is_sound.ensures c.requires, kept_narrow (kept c.args.self.now) _ c.requires)
