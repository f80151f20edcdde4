use Rattle.std.proofs.Common.{ap, sym, ◌∙◌, subst, ◌∷◌, [], length, length-append}
use Rattle.rx_monitor.specs.Boards.{StandInOrder}
use Rattle.rx_monitor.proofs.Watches.{stand_longer, stand_snoc}
use Rattle.rx_monitor.proofs.board.BoardReader.snap_behind.Goals as goal

pub returns-clause-items : goal.returns-clause-items
returns-clause-items c =
    let old = c.args.self.now.list in
    let seen = c.snap.new.self.list in
    let items = c.args.items.now.items in
    let more = c.in_ok-push.ensures.items in (
      ap length more ∙ length-append items (c.snap.result ∷ []),
      subst (StandInOrder seen 0) (sym more) (stand_snoc seen c.snap.result items c.snap.ensures.last (stand_longer old seen 0 items c.snap.ensures.begins c.requires)),
    )
