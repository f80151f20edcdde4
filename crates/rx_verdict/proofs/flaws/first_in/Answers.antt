use Rattle.std.proofs.Common.{◌<◌, length, sym, subst, ◌∙◌, arith, below_more, slice_get}
use Rattle.std.proofs.lemmas.Bool.{true≢false}
use Rattle.rx_verdict.specs.Marked.{row_at}
use Rattle.rx_verdict.specs.Flaws.{CauseBy, CauseAt}
use Rattle.rx_verdict.proofs.Sounding.{wants-at, sound-below, flaw-after, flaw-at}
use Rattle.rx_verdict.proofs.flaws.first_in.Goals as goal

pub has_cause-requires : goal.has_cause-requires
has_cause-requires c = wants-at c.in_ok-lawful.lawful c.loop-number.number c.args.journal.now.events c.item-event.result.now c.in_ok-lawful.ensures.lawful.some (omega arith) c.item-event.ensures

pub returns-then-not-has_cause : goal.returns-then-not-has_cause
returns-then-not-has_cause c =
    let j = c.args.journal.now.events in
    let row = row_at c.args.marks.now c.args.place.0 in
    let count = c.in_ok-lawful.ensures in
    let within = count.within in (
      omega arith,
      λ e l. sound-below c.args.heap c.args.death j row c.in_ok-lawful.lawful e count (omega arith) (c.loop-number.invariant e l),
      flaw-at c.args.heap c.args.death j row c.loop-number.number c.item-event.result.now c.item-event.ensures
          (λ cause. true≢false (sym (c.has_cause.ensures.1 (subst (λ b. CauseBy c.args.death b c.item-event.result.now) (sym c.is_marked.ensures) cause)) ∙ c.if-not-has_cause.true)),
    )

pub loop-number-preserved : goal.loop-number-preserved
loop-number-preserved c =
    let row = row_at c.args.marks.now c.args.place.0 in
    let by = subst (λ b. CauseBy c.args.death b c.item-event.result.now) c.is_marked.ensures (c.has_cause.ensures.0 c.if-not-has_cause.false) in
    below_more (λ e. CauseAt c.args.death row e (slice_get c.args.journal.now.events e)) c.loop-number.number c.loop-number.invariant
    (subst (CauseAt c.args.death row c.loop-number.number) (sym c.item-event.ensures) by)

pub returns-then-lawful-len : goal.returns-then-lawful-len
returns-then-lawful-len c =
    let j = c.args.journal.now.events in
    let row = row_at c.args.marks.now c.args.place.0 in
    let count = c.in_ok-lawful.ensures in
    let low : c.in_ok-lawful.lawful < length j = omega arith in (
      low,
      λ e l. sound-below c.args.heap c.args.death j row c.in_ok-lawful.lawful e count l (c.loop-number.invariant e (omega arith)),
      flaw-after c.args.heap c.args.death j row c.in_ok-lawful.lawful count low,
    )

pub returns-else-lawful-len : goal.returns-else-lawful-len
returns-else-lawful-len c =
    let j = c.args.journal.now.events in
    let row = row_at c.args.marks.now c.args.place.0 in
    let count = c.in_ok-lawful.ensures in
    λ e l.
    let low : e < c.in_ok-lawful.lawful = omega arith in
    sound-below c.args.heap c.args.death j row c.in_ok-lawful.lawful e count low (c.loop-number.invariant e (omega arith))
