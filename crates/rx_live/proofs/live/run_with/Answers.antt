use denote.Param.Send.{sendable}
use Rattle.std.proofs.Crossing.{crosses}
use Rattle.rx_counts.specs.Stands.{StandsFor}
use Rattle.rx_history.specs.Events.{events_of}
use Rattle.rx_book.proofs.books.Book.TheSendSync as books
use Rattle.rx_objects.proofs.Crosses.{ledger_object_send}
use Rattle.rx_live.proofs.Whole.{proper_so, host_born, is_main, few_stores, shut_so, run_so, stands_so, shows_so}
use Rattle.rx_live.proofs.live.run_with.Goals as goal

pub run_named-done-requires-sync-L : goal.run_named-done-requires-sync-L
run_named-done-requires-sync-L g c κs within = search (books.the_sync, ledger_object_send, crosses, sendable) depth 60 fits 20000

pub run_named-done-requires-clause-host : goal.run_named-done-requires-clause-host
run_named-done-requires-clause-host g c κs within =
    let book = c.in_ok-book.book in
    host_born book c.in_ok-book.pass c.in-Ok-split.host (proper_so book c.args.setup.now c.in_ok-book.ensures.setup c.requires.proper) c.in_ok-book.ensures.own c.in_ok-book.ensures.fresh c.in-Ok-split.ensures.own c.in-Ok-split.ensures.new

pub run_named-done-requires-clause-main : goal.run_named-done-requires-clause-main
run_named-done-requires-clause-main g c κs within =
    let made = c.in_ok-book.ensures in
    is_main c.in_ok-book.book c.args.setup.now c.args.p.now c.in-Ok.control.value c.in_ok-book.ticket c.in_ok-book.pass c.split.new.pass c.in-Ok.words.items made.setup made.program made.places made.ticket made.own made.fresh c.split.ensures.same
    c.in-Ok.ensures.words c.in-Ok.ensures.control

pub close_stores-requires-clause-most : goal.close_stores-requires-clause-most
close_stores-requires-clause-most g c =
    let book = c.in_ok-book.book in
    few_stores book c.run_named-done.new.host c.in-Some.field-0.stores.items (proper_so book c.args.setup.now c.in_ok-book.ensures.setup c.requires.proper) c.in-Some.ensures.ends

pub close_stores-requires-clause-stores : goal.close_stores-requires-clause-stores
close_stores-requires-clause-stores g c =
    shut_so c.stamps_before_death.ensures c.checked.ensures.0 c.in_ok-book.book c.args.setup.now c.args.p.now c.run_named-done.new.host c.in-Some.field-0.stores.items c.in-Some-close_ledger.closed.history.entries
    c.in_ok-book.ensures.setup c.in_ok-book.ensures.program c.requires.proper c.close_ledger.ensures.reach c.in-Some.ensures.ends c.in-Some-close_ledger.ensures.entries c.checked.ensures.1

pub returns-clause-run : goal.returns-clause-run
returns-clause-run g c = λ code script.
    run_so c.books_make_run.ensures code c.in_ok-book.book c.args.setup.now c.args.p.now c.run_named-done.new.host c.in-Some.field-0.stores.items c.in-Some-close_ledger.closed.history.entries
    (events_of c.in-Ok-close_stores.journals) c.in_ok-book.ensures.setup c.in_ok-book.ensures.program c.requires.proper c.close_ledger.ensures.reach c.in-Some.ensures.ends c.in-Some-close_ledger.ensures.entries
    c.in-Ok-close_stores.ensures script

pub returns-clause-ledger : goal.returns-clause-ledger
returns-clause-ledger g c =
    stands_so StandsFor c.in-Some-close_ledger.closed.ledger c.in_ok-book.book.fixed.setup c.args.setup.now c.in-Some-close_ledger.closed.history.entries c.in_ok-book.ensures.setup c.in-Some-close_ledger.ensures.ledger

pub returns-clause-board : goal.returns-clause-board
returns-clause-board g c =
    shows_so c.in-Some-close_ledger.closed.board c.args.board c.in_ok-book.book.fixed.board c.in_ok-book.book.fixed.setup c.args.setup.now c.in-Some-close_ledger.closed.history.entries
    c.in_ok-book.ensures.setup c.in_ok-book.ensures.board c.in-Some-close_ledger.ensures.board
