use Rattle.std.proofs.Common.{◌≡◌, refl, rules}
use Rattle.rx_rules.proofs.Common.{Tree, home_for, place_number}
use Rattle.rx_finish.specs.Callers.{IsMoving}
use Rattle.rx_finish.specs.Calls.{IsUnstruck}
use Rattle.rx_tree.specs.Kept.{kept}
use Rattle.rx_finish.proofs.Allowed.{open_allowed}
use Rattle.rx_finish.proofs.Unstruck.{home_is}
use Rattle.rx_tree.proofs.Replies.{at_kept, did}
use Rattle.rx_tree.proofs.Falling.{in_order}
use Rattle.rx_tree.proofs.plain.TreeLedgerFinishLedger.open_finish.Goals as goal

pub returns : goal.returns
returns c =
    let K : Tree = kept c.args.self.now in
    let u : IsUnstruck K c.args.who = search rules in
    at_kept K _ _
    (λ r may.
    let home : home_for K c.args.who.task ≡ place_number c.args.who.place = home_is K c.args.who IsMoving r.0 may u in
    did K _ c.args.who _ r (open_allowed K c.args.who _ r.0 may u refl) (search (rules, home)))

pub blow-requires : goal.blow-requires
blow-requires c = in_order (kept c.args.self.now) _ c.reached_is_sound.ensures c.requires
