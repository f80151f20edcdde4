use Rattle.std.proofs.Common.{◌≡◌, ◌∙◌, ℕ, [], length, replicate, refl, ap, sym, subst}
use Rattle.rx_rules.proofs.Common.{Block, opening, Proper}
use Rattle.rx_check.proofs.OneTree.{one-tree}
use Rattle.rx_history.specs.Logs.{Log}
use Rattle.rx_history.specs.Setups.{given}
use Rattle.rx_history.specs.declared.setup.Setup.{Setup}
use Rattle.rx_store.specs.Kepts.{StoresAre}
use Rattle.rx_machine.specs.Holds.{RunsOn}
use Rattle.rx_machine.proofs.Programs.{runs-on}
use Rattle.rx_machine.proofs.FirstGame.{opens-so, opens-ready}
use Rattle.rx_machine.proofs.machine.Machine.open.Goals as goal

pub open-requires-2-clause-proper : goal.open-requires-2-clause-proper
open-requires-2-clause-proper g c = subst (λ (s : Setup). Proper (given s)) (sym c.in_ok-copy.ensures) c.requires.proper

pub open-requires-2-clause-opened : goal.open-requires-2-clause-opened
open-requires-2-clause-opened g c = subst (λ (s : Setup). g.L.FinishLedger.stands c.args.ledger (length s.joins) (opening s.places)) (sym c.in_ok-copy.ensures) c.requires.opened

pub returns-in-Ok : goal.returns-in-Ok
returns-in-Ok g c = λ code written.
    let U = given c.args.setup.now in
    let w = c.checked.ensures in
    let one : w.0 ≡ code = one-tree c.args.p.now.script w.0 code w.1 written in
    let on : RunsOn code U = subst (λ (t : Block). RunsOn t U) one (runs-on w.0 U c.requires.proper w.2 w.6) in
    record {
      seated = opens-so c.args.p.now.script code U _ c.in_ok-root_seat.field-0 on
          (ap (λ (l : Log). given l.setup) c.in-Ok.ensures.empty ∙ ap given c.in_ok-copy.ensures) (ap (λ (l : Log). l.entries) c.in-Ok.ensures.empty) refl
          (subst (λ (n : ℕ). StoresAre c.args.setup.now.heap 0 c.in_ok-stores.stores.items (replicate n [])) c.all_places.ensures c.in_ok-stores.ensures) c.in_ok-seats.ensures c.in_ok-root_seat.ensures.row.0 c.in_ok-root_seat.ensures.row.1
          (c.in_ok-root_seat.ensures.work code written);
      unreleased = tt;
      ready = opens-ready code U c.in_ok-ready.ready.members c.in_ok-ready.ensures;
    }
