use Rattle.std.proofs.Common.{◌≡◌, ◌+◌, suc, arith}
use Rattle.rx_rules.proofs.Common.{Tree}
use Rattle.rx_tree.specs.Kept.{kept}
use Rattle.rx_finish.specs.Callers.{MayJoin}
use Rattle.rx_tree.proofs.Replies.{at_kept, joined, by_places}
use Rattle.rx_tree.proofs.plain.TreeLedgerFinishLedger.join.Goals as goal

pub returns : goal.returns
returns c =
    let K : Tree = kept c.args.self.now in
    at_kept K (λ T. MayJoin T c.args.place) _
    (λ r may.
    let next : c.args.place.0 ≡ K.places = may.0 in
    let more : c.args.place.0 + 1 ≡ suc K.places = omega arith in
    joined K _ c.args.place r may (by_places K _ _ more))
