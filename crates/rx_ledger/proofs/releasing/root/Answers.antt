use Rattle.rx_ledger.proofs.Replying.{root_done, root_refused, answered_as}
use Rattle.std.proofs.Common.{refl}
use Rattle.rx_ledger.proofs.releasing.root.Goals as goal

pub returns-in-Ok : goal.returns-in-Ok
returns-in-Ok g c = root_done c.args.chronicle.now c.root.new.self c.args.batch c.in-Ok.ensures.done

pub returns-in-Err : goal.returns-in-Err
returns-in-Err g c =
    let h = c.args.chronicle.now in
    let h' = c.root.new.self in
    answered_as h h' _ _ c.in-Err.fault _ c.refused.ensures refl (root_refused h h' c.args.batch c.in-Err.fault c.in-Err.ensures.refused c.in-Err.ensures.same)
