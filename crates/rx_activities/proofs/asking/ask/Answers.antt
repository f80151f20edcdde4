use Rattle.std.proofs.Common.{sym, subst}
use Rattle.rx_syntax.specs.Shape.{Stands}
use Rattle.rx_check.specs.Checked.{Checked}
use Rattle.rx_book.specs.Passes.{view_of}
use Rattle.rx_activities.proofs.asking.ask.Goals as goal

pub call-answer-requires-clause-fits : goal.call-answer-requires-clause-fits
call-answer-requires-clause-fits g c = λ h legal begins.
    let b = c.checked.ensures in
    c.ledger_op_fits.ensures (g.L.LedgerBook.name c.args.ledger.now).fixed _ (view_of c.args.pass.now) h c.args.op b.0 (subst (λ (p : Checked). Stands p.script b.0) (sym c.requires.program) b.1) c.args.pass.now.own begins legal
    (λ code stands. c.requires.asks code (subst (λ (p : Checked). Stands p.script code) c.requires.program stands))
