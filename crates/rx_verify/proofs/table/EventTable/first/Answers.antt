use Rattle.std.proofs.Common.{ℕ, Option, length, subst, sym, arith, refl}
use Rattle.std.proofs.lemmas.Option.{slice_get_read, slice_get_past}
use Rattle.rx_rules.proofs.Common.{journal_at}
use Rattle.rx_verify.specs.declared.table.Row.{Row}
use Rattle.rx_verify.specs.Events.{IsFirst}
use Rattle.rx_verify.specs.Table.{row_first}
use Rattle.rx_verify.proofs.table.EventTable.first.Goals as goal

pub returns-then-place-len : goal.returns-then-place-len
returns-then-place-len c = λ js tasks is lt.
    let rows = c.args.self.now.rows.items in
    let ok = c.args.self.now.rows.ok.0 in
    let there = slice_get_read rows (length rows) c.args.place.0 c.index.result.now refl (omega (arith, ok)) c.index.ensures in
    let told = subst (λ (o : Option Row). IsFirst c.args.task.0 (journal_at js c.args.place.0) 0 (row_first o c.args.task.0)) there (is.first c.args.place.0 c.args.task.0 lt) in
    subst (λ (n : ℕ). IsFirst c.args.task.0 (journal_at js c.args.place.0) 0 n) (sym c.first.ensures) told

pub returns-else-place-len : goal.returns-else-place-len
returns-else-place-len c = λ js tasks is lt.
    let rows = c.args.self.now.rows.items in
    let ok = c.args.self.now.rows.ok.0 in
    let none = slice_get_past rows c.args.place.0 (omega (arith, ok)) in
    subst (λ (o : Option Row). IsFirst c.args.task.0 (journal_at js c.args.place.0) 0 (row_first o c.args.task.0)) none (is.first c.args.place.0 c.args.task.0 lt)
