use Rattle.rx_book.specs.Passes.{view_of}
use Rattle.rx_live.proofs.Released.{is_answered}
use Rattle.rx_live.proofs.ending.release.Goals as goal

pub returns-clause-answered : goal.returns-clause-answered
returns-clause-answered g c =
    is_answered c.host_is_told.ensures (g.L.LedgerBook.name c.args.ledger.now).fixed _ (view_of c.args.host.now) (view_of c.call-reply.new.pass) _ c.call-reply.result c.answer_of.result c.requires.host c.call-reply.ensures.called c.answer_of.ensures
