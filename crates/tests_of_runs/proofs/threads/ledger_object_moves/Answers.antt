use denote.Param.Send.{sendable}
use Rattle.rx_objects.proofs.Crosses.{ledger_object_send}
use Rattle.tests_of_runs.proofs.threads.ledger_object_moves.Goals as goal

pub may_move-requires-send-T : goal.may_move-requires-send-T
may_move-requires-send-T c κs = search (ledger_object_send, sendable) depth 60 fits 20000
