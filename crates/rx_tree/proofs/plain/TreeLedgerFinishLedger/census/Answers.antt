use Rattle.std.proofs.Common.{refl, sym, ◌∙◌}
use Rattle.rx_tree.specs.Kept.{kept}
use Rattle.rx_finish.proofs.Allowed.{census_allowed}
use Rattle.rx_tree.proofs.Replies.{at_kept}
use Rattle.rx_tree.proofs.Falling.{in_order}
use Rattle.rx_tree.proofs.plain.TreeLedgerFinishLedger.census.Goals as goal

pub returns-in-None : goal.returns-in-None
returns-in-None c =
    at_kept (kept c.args.self.now) _ _
    (λ r may. census_allowed (kept c.args.self.now) c.args.who c.args.self.now.places r.0 may (sym c.blow.ensures ∙ c.in-None.is) refl)

pub blow-requires : goal.blow-requires
blow-requires c = in_order (kept c.args.self.now) _ c.reached_is_sound.ensures c.requires
