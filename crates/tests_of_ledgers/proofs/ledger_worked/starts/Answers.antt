use Rattle.std.proofs.Common.{ap, ◌∙◌, refl, Some, arith}
use Rattle.rx_rules.proofs.Common.{TaskId}
use Rattle.rx_rules.proofs.Append.{tree-places}
use Rattle.rx_ticket.specs.declared.tickets.AnyTicket.TheVariants.{Running}
use Rattle.rx_history.specs.declared.asks.Ask.TheVariants.{Spawn}
use Rattle.rx_ledger.specs.declared.asks.Request.{Request}
use Rattle.rx_ledger.specs.declared.asks.Reply.TheVariants.{Spawned}
use Rattle.rx_ledger.specs.Owned.{own_told}
use Rattle.tests_of_ledgers.proofs.Scenes.{spawned_task}
use Rattle.tests_of_ledgers.proofs.ledger_worked.starts.Goals as goal

pub ask-requires : goal.ask-requires
ask-requires g c =
    let k = c.args.keeper.now in
    (record { asks = c.requires.asks; target = (let a = c.requires.places in let b = tree-places k.setup.places k.entries in omega (arith, a, b)) }, tt)

pub returns-clause-owns : goal.returns-clause-owns
returns-clause-owns g c =
    let k = c.args.keeper.now in
    let k' = c.ask.new.keeper in
    let w = c.args.ticket in
    let t = c.in-Spawned.ticket in
    let q : Request = record { ticket = Running w; ask = Spawn (record { 0 = 1 }); batch = c.open.result; path = Some c.open-2.result } in
    let h = c.in-Spawned.ensures.applied in (
      c.requires.owns.0,
      ap (λ (n : TaskId). own_told k'.entries n) (spawned_task k k' q w t c.in-Spawned.child refl h)
          ∙ (c.calls_own.ensures k k' q (Spawned t c.in-Spawned.child) w refl h ∙ c.requires.owns.1),
    )
