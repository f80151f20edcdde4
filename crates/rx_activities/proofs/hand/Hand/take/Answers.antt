use Rattle.std.proofs.Common.{◌≡◌, None, List, ap, sym, subst}
use Rattle.rx_rules.proofs.Common.{Fault}
use Rattle.rx_syntax.specs.Shape.{Shape, Stands}
use Rattle.rx_check.specs.Checked.{Checked}
use Rattle.rx_ticket.specs.declared.tickets.AnyTicket.TheVariants.{Running, Held}
use Rattle.rx_ledger.specs.declared.asks.Reply.{Reply}
use Rattle.rx_activities.specs.Inside.Sending.{WasSent, WasGranted}
use Rattle.rx_activities.proofs.Births.{called_starts, spawned_starts}
use Rattle.rx_activities.proofs.Counted.{counted_granted}
use Rattle.rx_activities.proofs.GrantedReplies.{opened_granted, called_granted, spawned_granted, waited_granted, released_granted, printed_granted}
use Rattle.rx_activities.proofs.SentBack.{knows_back}
use Rattle.rx_activities.proofs.SentNever.{never_lands}
use Rattle.rx_activities.proofs.hand.Hand.take.Goals as goal

pub go_on-requires-clause-granted : goal.go_on-requires-clause-granted
go_on-requires-clause-granted g c =
    let shape = c.args.p.now.script in
    let L = g.L.LedgerBook.name c.args.ledger.now in
    let program : (g.L.LedgerBook.name c.args.ledger.now).fixed.program.script ≡ c.args.p.now.script = ap (λ (p : Checked). p.script) c.requires.program in
    let b = c.checked.ensures in
    let w = subst (λ (r : Reply). WasSent c.args.p.now.script (g.L.LedgerBook.name c.args.ledger.now) c.args.self.now r c.args.child) c.in-Opened.is c.requires.sent in
    subst (λ (fs : List Fault). WasGranted c.args.p.now.script (g.L.LedgerBook.name c.args.ledger.now) c.args.self.now (Running c.in-Opened.ticket) fs None None) (sym c.open-none.ensures)
    (opened_granted shape L c.args.self.now c.args.child program c.in-Opened.ticket c.in-Opened.scope w b.0 (subst (λ (x : Shape). Stands x b.0) (sym program) b.1))

pub go_on-requires-in-Called-clause-granted : goal.go_on-requires-in-Called-clause-granted
go_on-requires-in-Called-clause-granted g c =
    let shape = c.args.p.now.script in
    let L = g.L.LedgerBook.name c.args.ledger.now in
    let program : (g.L.LedgerBook.name c.args.ledger.now).fixed.program.script ≡ c.args.p.now.script = ap (λ (p : Checked). p.script) c.requires.program in
    let b = c.checked.ensures in
    let w = subst (λ (r : Reply). WasSent c.args.p.now.script (g.L.LedgerBook.name c.args.ledger.now) c.args.self.now r c.args.child) c.in-Called.is c.requires.sent in
    subst (λ (fs : List Fault). WasGranted c.args.p.now.script (g.L.LedgerBook.name c.args.ledger.now) c.args.self.now (Held c.in-Called.ticket) fs c.in-Called.callee c.args.child) (sym c.open-none.ensures)
    (called_granted shape L c.args.self.now c.args.child program c.in-Called.ticket c.in-Called.callee w b.0 (subst (λ (x : Shape). Stands x b.0) (sym program) b.1)
    (called_starts shape L c.args.self.now c.in-Called.ticket c.in-Called.callee c.args.child b.0 program b.1 w))

pub go_on-requires-in-Spawned-clause-granted : goal.go_on-requires-in-Spawned-clause-granted
go_on-requires-in-Spawned-clause-granted g c =
    let shape = c.args.p.now.script in
    let L = g.L.LedgerBook.name c.args.ledger.now in
    let program : (g.L.LedgerBook.name c.args.ledger.now).fixed.program.script ≡ c.args.p.now.script = ap (λ (p : Checked). p.script) c.requires.program in
    let b = c.checked.ensures in
    let w = subst (λ (r : Reply). WasSent c.args.p.now.script (g.L.LedgerBook.name c.args.ledger.now) c.args.self.now r c.args.child) c.in-Spawned.is c.requires.sent in
    subst (λ (fs : List Fault). WasGranted c.args.p.now.script (g.L.LedgerBook.name c.args.ledger.now) c.args.self.now (Running c.in-Spawned.ticket) fs c.in-Spawned.started c.args.child) (sym c.open-none.ensures)
    (spawned_granted shape L c.args.self.now c.args.child program c.in-Spawned.ticket c.in-Spawned.started w b.0 (subst (λ (x : Shape). Stands x b.0) (sym program) b.1)
    (spawned_starts shape L c.args.self.now c.in-Spawned.ticket c.in-Spawned.started c.args.child b.0 program b.1 w))

pub go_on-requires-in-Waits-clause-granted : goal.go_on-requires-in-Waits-clause-granted
go_on-requires-in-Waits-clause-granted g c =
    let shape = c.args.p.now.script in
    let L = g.L.LedgerBook.name c.args.ledger.now in
    let program : (g.L.LedgerBook.name c.args.ledger.now).fixed.program.script ≡ c.args.p.now.script = ap (λ (p : Checked). p.script) c.requires.program in
    let b = c.checked.ensures in
    let w = subst (λ (r : Reply). WasSent c.args.p.now.script (g.L.LedgerBook.name c.args.ledger.now) c.args.self.now r c.args.child) c.in-Waits.is c.requires.sent in
    subst (λ (fs : List Fault). WasGranted c.args.p.now.script (g.L.LedgerBook.name c.args.ledger.now) c.args.self.now (Held c.in-Waits.ticket) fs None None) (sym c.open-none.ensures)
    (waited_granted shape L c.args.self.now c.args.child program c.in-Waits.ticket w b.0 (subst (λ (x : Shape). Stands x b.0) (sym program) b.1))

pub go_on-requires-in-Printed-clause-granted : goal.go_on-requires-in-Printed-clause-granted
go_on-requires-in-Printed-clause-granted g c =
    let shape = c.args.p.now.script in
    let L = g.L.LedgerBook.name c.args.ledger.now in
    let program : (g.L.LedgerBook.name c.args.ledger.now).fixed.program.script ≡ c.args.p.now.script = ap (λ (p : Checked). p.script) c.requires.program in
    let b = c.checked.ensures in
    let w = subst (λ (r : Reply). WasSent c.args.p.now.script (g.L.LedgerBook.name c.args.ledger.now) c.args.self.now r c.args.child) c.in-Printed.is c.requires.sent in
    subst (λ (fs : List Fault). WasGranted c.args.p.now.script (g.L.LedgerBook.name c.args.ledger.now) c.args.self.now (Running c.in-Printed.ticket) fs None None) (sym c.open-none.ensures)
    (printed_granted shape L c.args.self.now c.args.child program c.in-Printed.ticket w b.0 (subst (λ (x : Shape). Stands x b.0) (sym program) b.1))

pub go_on-requires-in-Ok-clause-granted : goal.go_on-requires-in-Ok-clause-granted
go_on-requires-in-Ok-clause-granted g c =
    let shape = c.args.p.now.script in
    let L = g.L.LedgerBook.name c.args.ledger.now in
    let program : (g.L.LedgerBook.name c.args.ledger.now).fixed.program.script ≡ c.args.p.now.script = ap (λ (p : Checked). p.script) c.requires.program in
    let b = c.checked.ensures in
    let w = subst (λ (r : Reply). WasSent c.args.p.now.script (g.L.LedgerBook.name c.args.ledger.now) c.args.self.now r c.args.child) c.in-Released.is c.requires.sent in
    subst (λ (fs : List Fault). WasGranted c.args.p.now.script (g.L.LedgerBook.name c.args.ledger.now) c.args.self.now (Running c.in-Released.ticket) fs None None) (sym c.in-Ok.ensures)
    (released_granted shape L c.args.self.now c.args.child program c.in-Released.ticket c.in-Released.outcome w b.0 (subst (λ (x : Shape). Stands x b.0) (sym program) b.1))

pub count-requires-clause-counted : goal.count-requires-clause-counted
count-requires-clause-counted g c =
    let shape = c.args.p.now.script in
    let L = g.L.LedgerBook.name c.args.ledger.now in
    let program : (g.L.LedgerBook.name c.args.ledger.now).fixed.program.script ≡ c.args.p.now.script = ap (λ (p : Checked). p.script) c.requires.program in
    let b = c.checked.ensures in
    let w = subst (λ (r : Reply). WasSent c.args.p.now.script (g.L.LedgerBook.name c.args.ledger.now) c.args.self.now r c.args.child) c.in-Census.is c.requires.sent in
    counted_granted shape L c.args.self.now c.args.child program c.in-Census.ticket c.in-Census.places w b.0 (subst (λ (x : Shape). Stands x b.0) (sym program) b.1)

pub unreachable-requires : goal.unreachable-requires
unreachable-requires g c =
    let shape = c.args.p.now.script in
    let L = g.L.LedgerBook.name c.args.ledger.now in
    let program : (g.L.LedgerBook.name c.args.ledger.now).fixed.program.script ≡ c.args.p.now.script = ap (λ (p : Checked). p.script) c.requires.program in
    let b = c.checked.ensures in
    let w = subst (λ (r : Reply). WasSent c.args.p.now.script (g.L.LedgerBook.name c.args.ledger.now) c.args.self.now r c.args.child) c.in-Landed.is c.requires.sent in
    never_lands shape L c.args.self.now c.args.child program b.0 (subst (λ (x : Shape). Stands x b.0) (sym program) b.1) c.in-Landed.ticket w

pub returns-in-NotYet : goal.returns-in-NotYet
returns-in-NotYet g c =
    let program : (g.L.LedgerBook.name c.args.ledger.now).fixed.program.script ≡ c.args.p.now.script = ap (λ (p : Checked). p.script) c.requires.program in
    let w = subst (λ (r : Reply). WasSent c.args.p.now.script (g.L.LedgerBook.name c.args.ledger.now) c.args.self.now r c.args.child) c.in-NotYet.is c.requires.sent in
    knows_back c.args.p.now.script (g.L.LedgerBook.name c.args.ledger.now) c.args.self.now c.args.child program c.in-NotYet.place c.in-NotYet.request w c.keep.new.self c.keep.ensures
