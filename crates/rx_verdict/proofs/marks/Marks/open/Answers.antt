use Rattle.std.proofs.Common.{◌≤◌, length, subst, arith, ◌≡◌, ◌++◌, [], ◌∷◌, Bool, false, List, replicate, take, ap, sym, ◌∙◌}
use Rattle.rx_history.specs.Events.{events_of}
use Rattle.rx_verdict.specs.Marked.{no_marks, HasShape}
use Rattle.rx_verdict.proofs.EventsOfJournals.{unmarked-next, events-at, journals-long}
use Rattle.rx_verdict.proofs.MarkedEvents.{marks_begin_empty}
use Rattle.rx_kills.proofs.Dying.{take-whole}
use Rattle.rx_verdict.proofs.marks.Marks.open.Goals as goal

pub loop-p-preserved : goal.loop-p-preserved
loop-p-preserved c =
    let next = unmarked-next (events_of c.args.journals.now) c.loop-p.p c.item.result.now.events (events-at c.args.journals.now c.loop-p.p c.item.result.now c.item.ensures) in
    let row : c.in_ok-open_row.field-0 ≡ replicate c.len-in-loop-p.result false = c.in_ok-open_row.ensures in
    let long = ap (λ n. replicate n false) c.len-in-loop-p.ensures in
    c.in_ok-push.ensures.items ∙ (ap (λ (rows : List (List Bool)). rows ++ c.in_ok-open_row.field-0 ∷ []) c.loop-p.invariant ∙ (ap (λ (r : List Bool). no_marks (take c.loop-p.p (events_of c.args.journals.now)) ++ r ∷ []) (row ∙ long) ∙ sym next))

pub returns-clause-shape : goal.returns-clause-shape
returns-clause-shape c =
    let js = events_of c.args.journals.now in
    let long = journals-long c.args.journals.now.journals in
    let over : length js ≤ c.loop-p.p = omega arith in
    let is = c.loop-p.invariant ∙ ap no_marks (take-whole js c.loop-p.p over) in
    subst (HasShape js) (sym is) (marks_begin_empty js).0
