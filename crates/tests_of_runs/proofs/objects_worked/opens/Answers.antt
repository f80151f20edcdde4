use Rattle.std.proofs.Common.{◌≡◌, [], Some, None, ap, sym, ◌∙◌, subst, refl}
use Rattle.rx_rules.proofs.Common.{Term, Empty, items, does, Vars}
use Rattle.rx_syntax.specs.Shape.{Stands}
use Rattle.rx_check.specs.Checked.{Checked}
use Rattle.rx_history.specs.Next.{next_of}
use Rattle.rx_history.specs.declared.step.Next.TheVariants.{Book as BookStep}
use Rattle.rx_history.specs.declared.asks.Ask.TheVariants.{Open as AskOpen}
use Rattle.rx_ticket.specs.declared.tickets.AnyTicket.TheVariants.{Running}
use Rattle.rx_ledger.specs.declared.asks.Request.{Request}
use Rattle.rx_ledger.specs.Answering.{main_caller}
use Rattle.rx_book.specs.Passes.{view_of}
use Rattle.rx_objects.specs.declared.ledger.LedgerFixed.{LedgerFixed}
use Rattle.rx_objects.specs.declared.ledger.LedgerOp.{LedgerOp}
use Rattle.rx_objects.proofs.Fitting.{ledger_op_fits}
use Rattle.rx_objects.proofs.Scene.{main_opens}
use Rattle.tests_of_runs.proofs.objects_worked.opens.Goals as goal

pub next-requires : goal.next-requires
next-requires g c = let b = c.checked.ensures in (items b.0 [] Empty, (c.requires.control b.0 b.1).0)

pub call-requires-clause-fits : goal.call-requires-clause-fits
call-requires-clause-fits g c = λ h legal begins_there.
    let f : LedgerFixed = c.args.ledger.now.fixed in
    let path = c.in-Ok-Some.path in
    let request : Request = record { ticket = Running c.args.ticket; ask = AskOpen; batch = c.open.result; path = Some path } in
    let op : LedgerOp = record { request = request; note = None; mentions = c.nothing_new-mentions.result } in
    let is : request ≡ record { ticket = Running main_caller; ask = AskOpen; batch = []; path = Some path } =
    λ i. record { ticket = Running (c.requires.ticket i); ask = AskOpen; batch = c.open.ensures i; path = Some path } in
    let b = c.checked.ensures in
    ledger_op_fits f _ (view_of c.args.pass.now) h op b.0 (subst (λ (p : Checked). Stands p.script b.0) (sym c.requires.program) b.1) c.args.pass.now.own begins_there legal
    (λ code stands.
    let t : Term = items code [] Empty in
    let control = c.requires.control code (subst (λ (p : Checked). Stands p.script code) c.requires.program stands) in
    let told = next_of (does c.args.control.now.vars 0 t) in
    let next : c.next.result ≡ told = c.next.ensures t control.0 in
    main_opens code f (view_of c.args.pass.now) op path c.requires.places.0 c.requires.places.1 c.requires.pass.1 c.requires.pass.2 is c.nothing_new-mentions.ensures refl
    (ap (λ (v : Vars). next_of (does v 0 t)) (sym control.1) ∙ (sym {b = told} next ∙ (c.in-Book.is ∙ ap BookStep c.in-Open.is)))
    (sym (c.in-Ok-Some.ensures t control.0) ∙ c.in-Ok-Some.field-0-is))
