use Rattle.std.proofs.Common.{ap, ◌∙◌, ◌≡◌, ◌+◌, ◌<◌, ◌++◌, [], ◌∷◌, List, length, arith, length-append, sym, subst}
use Rattle.rx_rules.specs.declared.entries.Entry.{Entry}
use Rattle.rx_history.specs.Logs.{Log}
use Rattle.rx_kills.specs.Least.{entry_of}
use Rattle.rx_chronicle.specs.Requests.{plan_told}
use Rattle.rx_ledger.proofs.Going.{due_more, shorter}
use Rattle.rx_ledger.proofs.due.make_due.Goals as goal

pub loop-at-preserved : goal.loop-at-preserved
loop-at-preserved g c =
    let told = c.in_ok-at.ensures.told in
    let number = c.in_ok-at.ensures.number in
    let mid = c.room.new.self in
    let new = c.pass.new.self in
    let entries = ap (λ (h : Log). h.entries) c.pass.ensures in
    let size : length new.entries ≡ length mid.entries + 1 = ap (λ (es : List Entry). length es) entries ∙ length-append mid.entries (entry_of c.in-Some.due ∷ []) in (
      due_more c.args.chronicle.now c.loop-at.chronicle new c.in-Some.due c.loop-at.invariant.0
          (ap (λ (h : Log). h.setup) c.pass.ensures ∙ told.1)
          (entries ∙ ap (λ (es : List Entry). es ++ entry_of c.in-Some.due ∷ []) told.0),
      (let at = number.0 in let low = number.1 in omega (arith, at, low, size)),
    )

pub loop-at-smaller : goal.loop-at-smaller
loop-at-smaller g c =
    let told = c.in_ok-at.ensures.told in
    subst (λ (h : Log). length (plan_told h) < length (plan_told c.loop-at.chronicle)) (sym c.pass.ensures)
    (shorter c.loop-at.chronicle c.room.new.self c.in-Some.due told.1 told.0 c.in-Some.ensures.due)
