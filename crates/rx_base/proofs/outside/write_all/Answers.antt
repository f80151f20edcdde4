use Rattle.std.proofs.Common.{length-drop, take-add, arith}
use Rattle.std.proofs.lemmas.List.{take_rest}
use Rattle.std.proofs.KnownBytes.{Appends-trans}
use Rattle.rx_base.proofs.outside.write_all.Goals as goal

pub writes-preserved : goal.writes-preserved
writes-preserved g c =
    let bound = simp take_rest at c.in-Ok.ensures.bound in
    record {
      wrote = rw take-add (Appends-trans _ _ _ _ _ c.writes.invariant.wrote (simp take_rest at c.in-Ok.ensures.bytes));
      later = omega (arith, c.in-Ok.ensures.cause.later, c.writes.invariant.later);
      within = omega (arith, bound, length-drop c.writes.done c.args.bytes.now);
    }
