use denote.Param.Send.{sendable}
use Rattle.rx_book.proofs.books.Book.TheSendSync as book
use Rattle.rx_objects.proofs.Crosses.{ledger_object_send, ledger_and_gate_send, place_object_send}
use Rattle.tests_of_runs.proofs.threads.place_object_moves.Goals as goal

pub may_move-requires-send-T : goal.may_move-requires-send-T
may_move-requires-send-T g c κs within = search (book.the_sync, place_object_send, ledger_and_gate_send, ledger_object_send, sendable) depth 60 fits 20000
