use Rattle.std.proofs.Common.{[], ◌++◌, ◌∷◌, ap, refl, arith, drop_of_length-le, filter}
use Rattle.std.specs.List.{flat_map}
use Rattle.rx_rules.proofs.Common.{all_places, has_bit}
use Rattle.rx_trace.specs.Fields.{natural_field}
use Rattle.rx_trace.proofs.Places.{places-more}
use Rattle.rx_lines.proofs.Telling.{with_none, joined, whole}
use Rattle.rx_lines.proofs.replies.put_places.Goals as goal

pub loop-p-init : goal.loop-p-init
loop-p-init g c = ([], λ w f text now. with_none w f _ _ _ text now, refl)

pub loop-p-preserved : goal.loop-p-preserved
loop-p-preserved g c =
    let so = c.loop-p.invariant in (
      so.0 ++ flat_map natural_field (filter (has_bit c.args.set.0) (c.loop-p.p ∷ [])),
      λ w f text now. joined w f _ _ _ text so.0 _ (c.put_place_if_member.ensures w f (text ++ so.0) (so.1 w f text now)),
      places-more _ _ so.0 _ c.loop-p.p c.loop-p-test.true so.2 refl,
    )

pub returns : goal.returns
returns g c = λ w f text now.
    let so = c.loop-p.invariant in
    whole w f _ _ _ text so.0 _ _ (ap (λ ps. flat_map natural_field (filter (has_bit c.args.set.0) ps)) (drop_of_length-le all_places {i = c.loop-p.p} (omega arith))) so.2 (so.1 w f text now)
