use denote.Param.Send.{sendable}
use Rattle.rx_book.proofs.books.Book.TheSendSync as book
use Rattle.rx_objects.proofs.Crosses.{ledger_object_send}
use Rattle.tests_of_runs.proofs.threads.ledger_crosses.Goals as goal

pub may_share-requires-sync-T : goal.may_share-requires-sync-T
may_share-requires-sync-T c κs = search (book.the_sync, ledger_object_send, sendable) depth 60 fits 20000
