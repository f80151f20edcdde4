use Rattle.std.proofs.Common.{[], ◌++◌, ap, refl, arith, drop_of_length-le}
use Rattle.std.specs.List.{flat_map}
use Rattle.rx_trace.specs.Fields.{fault_field}
use Rattle.rx_trace.proofs.Lines.{fields-more}
use Rattle.rx_lines.proofs.Telling.{with_none, joined, whole}
use Rattle.rx_lines.proofs.entries.put_faults.Goals as goal

pub loop-i-init : goal.loop-i-init
loop-i-init g c = ([], λ w f text now. with_none w f _ _ _ text now, refl)

pub loop-i-preserved : goal.loop-i-preserved
loop-i-preserved g c =
    let so = c.loop-i.invariant in (
      so.0 ++ fault_field c.item.result,
      λ w f text now. joined w f _ _ _ text so.0 _ (c.put_fault.ensures w f (text ++ so.0) (so.1 w f text now)),
      fields-more fault_field _ so.0 _ _ c.loop-i.i _ c.item.ensures so.2 refl,
    )

pub returns : goal.returns
returns g c = λ w f text now.
    let so = c.loop-i.invariant in
    whole w f _ _ _ text so.0 _ _ (ap (flat_map fault_field) (drop_of_length-le c.args.faults.now (omega arith))) so.2 (so.1 w f text now)
