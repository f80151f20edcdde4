use Rattle.std.proofs.Common.{◌≡◌, ℕ, ◌+◌, length, ◌++◌, ◌∷◌, [], List, slice_get, subst, sym, ap, ◌∙◌, arith}
use Rattle.std.proofs.lemmas.List.{length_push}
use Rattle.rx_history.specs.Events.{events_of}
use Rattle.rx_verdict.proofs.EventsOfJournals.{events-at, journals-long}
use Rattle.rx_verify.specs.declared.table.Row.{Row}
use Rattle.rx_verify.proofs.Rows.{RowsAre, rows_more, table_is}
use Rattle.rx_verify.proofs.table.EventTable.open.Goals as goal

pub loop-p-preserved : goal.loop-p-preserved
loop-p-preserved c =
    let js = events_of c.args.journals.now in
    let rows = c.loop-p.rows.items in
    let size : length rows ≡ c.loop-p.p = c.loop-p.invariant.0 in
    let pushed : c.push.new.self.items ≡ rows ++ c.in_ok-open.field-0 ∷ [] = c.in_ok-push.ensures.items in (
      ap length pushed ∙ (length_push rows c.in_ok-open.field-0 ∙ ap (λ (n : ℕ). n + 1) size),
      subst (λ (l : List Row). RowsAre js c.args.tasks l) (sym pushed)
          (rows_more js c.args.tasks rows c.item.result.now.events c.in_ok-open.field-0 c.loop-p.invariant.1
          (ap (λ (n : ℕ). slice_get js n) size ∙ events-at c.args.journals.now c.loop-p.p c.item.result.now c.item.ensures) c.in_ok-open.ensures),
    )

pub returns : goal.returns
returns c =
    let long = journals-long c.args.journals.now.journals in
    let size = c.loop-p.invariant.0 in
    table_is (events_of c.args.journals.now) c.args.tasks _ (omega (arith, long, size)) c.loop-p.invariant.1
