use Rattle.rx_objects.proofs.closing.close_book.Goals as goal

pub returns-clause-closed : goal.returns-clause-closed
returns-clause-closed g c = let cl = c.in-Ok.ensures.closed in (cl.history, cl.whole, cl.lawful, cl.begins.prefix, cl.begins.long)
