use denote.Param.Send.{sendable}
use Rattle.std.proofs.Crossing.{crosses}
use Rattle.rx_book.proofs.books.Book.TheSendSync as book
use Rattle.rx_objects.proofs.Crosses.{place_object_send, ledger_and_gate_send}
use Rattle.rx_live.proofs.live.run_named.Goals as goal

pub run_all-requires-sync-P : goal.run_all-requires-sync-P
run_all-requires-sync-P g c κs within = search (book.the_sync, place_object_send, ledger_and_gate_send, crosses, sendable) depth 60 fits 20000
