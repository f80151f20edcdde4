use Rattle.std.proofs.Common.{ap, ◌∙◌, refl, Some, ◌∷◌}
use Rattle.rx_rules.proofs.Common.{TaskId}
use Rattle.rx_rules.specs.declared.tasks.Kind.TheVariants.{Finish}
use Rattle.rx_ticket.specs.declared.tickets.AnyTicket.TheVariants.{Running}
use Rattle.rx_history.specs.declared.asks.Ask.TheVariants.{Open}
use Rattle.rx_ledger.specs.declared.asks.Request.{Request}
use Rattle.rx_ledger.specs.declared.asks.Reply.TheVariants.{Opened}
use Rattle.rx_ledger.specs.Owned.{Owned, own_told}
use Rattle.tests_of_ledgers.proofs.Scenes.{opened_task}
use Rattle.tests_of_ledgers.proofs.ledger_worked.opens.Goals as goal

pub returns-clause-owns : goal.returns-clause-owns
returns-clause-owns g c =
    let k = c.args.keeper.now in
    let k' = c.ask.new.keeper in
    let w = c.args.ticket in
    let s = c.in-Opened.scope in
    let q : Request = record { ticket = Running w; ask = Open; batch = c.open.result; path = Some c.open-2.result } in
    let h = c.in-Opened.ensures.applied in (
      s,
      ap (λ (t : TaskId). own_told k'.entries t) (opened_task k k' q w c.in-Opened.ticket s refl h)
          ∙ (c.calls_own.ensures k k' q (Opened c.in-Opened.ticket s) w refl h ∙ ap (λ (o : Owned). (s, Finish) ∷ o) c.requires.bare),
    )
