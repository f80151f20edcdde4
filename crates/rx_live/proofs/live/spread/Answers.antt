use denote.Exit.{no}
use denote.Param.Send.{param_sync, arg_sync}
use Rattle.rx_live.proofs.Crosses.{borrowed_sync}
use Rattle.rx_live.proofs.live.spread.Goals as goal

pub map_indices-requires-sync-F : goal.map_indices-requires-sync-F
map_indices-requires-sync-F g c κs within =
    let b = c.type_bounds in param_sync _ _ (arg_sync _ no _ (borrowed_sync _ _ _ _ _ _ g.N.Naming g.P.PlaceBook _ _ _ _ _ b.send-N b.sync-L b.sync-P b.sync-G b.sync-R))
