use Rattle.std.proofs.Common.{sym, ◌∙◌, subst}
use Rattle.rx_activities.specs.declared.hand.Hand.{Hand}
use Rattle.rx_activities.specs.Knowing.{ActivityInvariant}
use Rattle.rx_activities.specs.Inside.Stepping.{IsNext}
use Rattle.rx_activities.proofs.Later.{of_named}
use Rattle.rx_activities.proofs.turn.make_turn.Goals as goal

pub activity_of-requires : goal.activity_of-requires
activity_of-requires g c =
    let L = g.L.LedgerBook.name c.args.ledger.now in
    of_named L _ _ c.requires.ledger
    (c.in-Ok.ensures.known L c.requires.program (subst (λ (h : Hand). ActivityInvariant L h) (sym c.deref_mut.ensures.value) c.requires.known))

pub call_store-answer-requires-clause-next : goal.call_store-answer-requires-clause-next
call_store-answer-requires-clause-next g c = λ t stands.
    sym c.in-Cell.is ∙ subst (λ (h : Hand). IsNext c.args.p.now h c.in-Ok.next) (sym c.deref_mut-in-Cell.ensures.value) c.in-Ok.ensures.next t stands

pub call_ledger-answer-requires-clause-next : goal.call_ledger-answer-requires-clause-next
call_ledger-answer-requires-clause-next g c =
    subst (λ (h : Hand). IsNext c.args.p.now h c.in-Ok.next) (sym c.deref_mut-in_default.ensures.value) c.in-Ok.ensures.next
