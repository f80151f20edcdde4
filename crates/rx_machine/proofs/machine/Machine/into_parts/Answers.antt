use Rattle.std.proofs.Common.{List, sym, subst}
use Rattle.rx_rules.specs.declared.events.PlaceEvent.{PlaceEvent}
use Rattle.rx_history.specs.Logs.{Log}
use Rattle.rx_history.specs.Events.{events_of}
use Rattle.rx_machine.specs.Refusals.{HasBegun}
use Rattle.rx_machine.proofs.Whole.{gives-so}
use Rattle.rx_machine.proofs.machine.Machine.into_parts.Goals as goal

pub returns-clause-holds : goal.returns-clause-holds
returns-clause-holds g c = λ shape code U G h.
    gives-so g.L.FinishLedger.stands U c.args.self G _ c.into_parts-history.ensures.history c.into_journals.ensures c.into_parts-history.ensures.ledger h.seated.shares.setup h.seated.shares.entries h.seated.stores

pub returns-clause-finished : goal.returns-clause-finished
returns-clause-finished g c = λ U G f.
    gives-so g.L.FinishLedger.stands U c.args.self G _ c.into_parts-history.ensures.history c.into_journals.ensures c.into_parts-history.ensures.ledger f.setup f.entries f.stores

pub returns-clause-refused : goal.returns-clause-refused
returns-clause-refused g c = λ U k G h.
    subst (λ (l : Log). HasBegun U k G l.entries (events_of c.into_journals.result)) (sym c.into_parts-history.ensures.history)
    (subst (λ (js : List (List PlaceEvent)). HasBegun U k G c.args.self.chronicle.entries js) (sym c.into_journals.ensures) h.begun)
