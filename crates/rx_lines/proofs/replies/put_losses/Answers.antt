use Rattle.std.proofs.Common.{◌≡◌, ◌++◌, refl, arith, codes}
use Rattle.std.specs.List.{flat_map}
use Rattle.rx_rules.proofs.Common.{members}
use Rattle.rx_trace.specs.Fields.{natural_field}
use Rattle.rx_trace.proofs.Places.{lost-none, lost-text}
use Rattle.rx_lines.proofs.Telling.{told-as}
use Rattle.rx_lines.proofs.replies.put_losses.Goals as goal

pub returns-then-lost-eq0 : goal.returns-then-lost-eq0
returns-then-lost-eq0 g c = λ w f text now. told-as w f _ _ _ text _ (lost-none c.args.lost text (omega arith)) now

pub returns : goal.returns
returns g c = λ w f text now.
    let word = text ++ codes " lost" in
    let all = word ++ flat_map natural_field (members c.args.lost) in
    told-as w f _ _ _ all _ (lost-text c.args.lost text word all (omega arith) (λ (zero : c.args.lost.0 ≡ 0). omega arith) refl refl)
    (c.put_places.ensures w f word (c.put.ensures w f text now))
