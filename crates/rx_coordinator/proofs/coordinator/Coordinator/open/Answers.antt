use Rattle.std.proofs.Common.{◌-◌, ◌==◌, false, cond, arith, refl, Some, Option, ap, ◌∙◌, sym}
use Rattle.rx_rules.proofs.Common.{TaskId}
use Rattle.rx_rules.specs.declared.tasks.Where.TheVariants.{At}
use Rattle.rx_coordinator.specs.declared.seats.Seat.{Seat}
use Rattle.rx_coordinator.proofs.Asking.{main_told}
use Rattle.rx_coordinator.proofs.coordinator.Coordinator.open.Goals as goal

pub returns : goal.returns
returns c =
    let low = c.requires.1 in
    record {
      some = c.requires.0;
      few = c.requires.1;
      allowed = tt;
      tree = c.in_ok-ledger.ensures (16 - c.args.places) (omega (arith, low));
      numbers = record { tasks = omega arith; scopes = omega arith };
      count = refl;
      seats = λ (t : TaskId). c.in_ok-put.ensures.put t.0 ∙ (ap (λ (o : Option Seat). cond (t.0 == 0) (Some (record { who = record { task = record { 0 = 0 }; scope = record { 0 = 0 }; inner = record { 0 = 0 }; place = At (record { 0 = 0 }) }; waits = false })) o) (c.none-seats.ensures t.0) ∙ sym (main_told c.args.places t));
    }
