use denote.Param.Send.{sendable}
use Rattle.rx_activities.proofs.Crosses.{activity_send}
use Rattle.tests_of_runs.proofs.threads.activities_move.Goals as goal

pub may_move-requires-send-T : goal.may_move-requires-send-T
may_move-requires-send-T g c κs within = search (activity_send, sendable) depth 60 fits 20000
