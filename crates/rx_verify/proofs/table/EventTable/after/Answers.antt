use Rattle.std.proofs.Common.{ℕ, suc, Option, length, subst, sym, arith, refl}
use Rattle.std.proofs.lemmas.Option.{slice_get_read, slice_get_past}
use Rattle.rx_rules.proofs.Common.{journal_at}
use Rattle.rx_verify.specs.declared.table.Row.{Row}
use Rattle.rx_verify.specs.Events.{IsFirst}
use Rattle.rx_verify.specs.Table.{row_after}
use Rattle.rx_verify.proofs.table.EventTable.after.Goals as goal

pub returns-then-place-len : goal.returns-then-place-len
returns-then-place-len c = λ js tasks t stamp cell path is lt at.
    let rows = c.args.self.now.rows.items in
    let ok = c.args.self.now.rows.ok.0 in
    let there = slice_get_read rows (length rows) c.args.place.0 c.index.result.now refl (omega (arith, ok)) c.index.ensures in
    let told = subst (λ (o : Option Row). IsFirst t (journal_at js c.args.place.0) (suc c.args.at) (row_after o c.args.at)) there (is.after c.args.place.0 c.args.at t stamp cell path lt at) in
    subst (λ (n : ℕ). IsFirst t (journal_at js c.args.place.0) (suc c.args.at) n) (sym c.after.ensures) told

pub returns-else-place-len : goal.returns-else-place-len
returns-else-place-len c = λ js tasks t stamp cell path is lt at.
    let rows = c.args.self.now.rows.items in
    let ok = c.args.self.now.rows.ok.0 in
    let none = slice_get_past rows c.args.place.0 (omega (arith, ok)) in
    subst (λ (o : Option Row). IsFirst t (journal_at js c.args.place.0) (suc c.args.at) (row_after o c.args.at)) none (is.after c.args.place.0 c.args.at t stamp cell path lt at)
