use Rattle.std.proofs.Common.{◌==◌, ◌+◌, ◌++◌, ◌∙◌, ap, sym}
use Rattle.rx_rules.proofs.Common.{PlaceId}
use Rattle.rx_lines.specs.Inside.LogLines.{spawn_line, arrive_line}
use Rattle.rx_lines.proofs.Telling.{told-to, joined}
use Rattle.rx_lines.proofs.LogLines.{lost-stays, here-stays, far-lands, sent-stays, sent-lands}
use Rattle.rx_lines.proofs.entries.put_sent.Goals as goal

pub returns-then-born : goal.returns-then-born
returns-then-born g c = λ w f text now.
    let k = c.args.note.now in
    let b = c.args.born in
    told-to w f _ _ _ _ _ (c.put_spawned.ensures w f text now)
    (ap (λ z. text ++ z) (sent-stays k b c.args.n c.place_of-from.result c.place_of-from.ensures (lost-stays k b c.if-born.true)))

pub returns-then-eq : goal.returns-then-eq
returns-then-eq g c = λ w f text now.
    let k = c.args.note.now in
    let b = c.args.born in
    let here = ap (λ (q : PlaceId). q.0 == k.to.0) (sym c.place_of-from.ensures) ∙ (sym c.eq.ensures ∙ c.if-eq.true) in
    told-to w f _ _ _ _ _ (c.put_spawned.ensures w f text now)
    (ap (λ z. text ++ z) (sent-stays k b c.args.n c.place_of-from.result c.place_of-from.ensures (here-stays k b c.if-born.false here)))

pub returns : goal.returns
returns g c = λ w f text now.
    let k = c.args.note.now in
    let b = c.args.born in
    let q = c.place_of-from.result in
    let far = ap (λ (q : PlaceId). q.0 == k.to.0) (sym c.place_of-from.ensures) ∙ (sym c.eq.ensures ∙ c.if-eq.false) in
    told-to w f _ _ _ _ _
    (joined w f _ _ _ text (spawn_line c.args.n k.task b.child b.scope q k.to) (arrive_line (c.args.n + 1) b.child k.to) (c.put_arrived.ensures w f _ (c.put_spawned.ensures w f text now)))
    (ap (λ z. text ++ z) (sent-lands k b c.args.n q c.place_of-from.ensures (far-lands k b c.if-born.false far)))
