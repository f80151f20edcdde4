use Rattle.std.proofs.Common.{◌≡◌, ℕ, suc, ◌+◌, ◌≤◌, length, refl, ap, sym, subst, ◌∙◌, arith}
use Rattle.rx_rules.proofs.Common.{Block, work, no_vars}
use Rattle.rx_check.proofs.OneTree.{one-tree}
use Rattle.rx_history.specs.Events.{events_of}
use Rattle.rx_verify.specs.Table.{TableIs}
use Rattle.rx_verify.proofs.Opening.{opened, one_item}
use Rattle.rx_verify.proofs.players.Players.open.Goals as goal

pub returns : goal.returns
returns c = λ code U es written same long.
    let js = events_of c.args.journals.now in
    let w = c.checked.ensures in
    let one : w.0 ≡ code = one-tree c.args.p.now.script w.0 code w.1 written in
    let small : work code ≤ 100000 = subst (λ (t : Block). work t ≤ 100000) one w.6 in
    let some : 1 ≤ U.places = subst (λ (n : ℕ). 1 ≤ n) (sym same) c.requires.some in
    let few : U.places ≤ 16 = subst (λ (n : ℕ). n ≤ 16) (sym same) c.requires.few in
    let at = c.in_ok-control.ensures.stands code written in
    let tasks : c.args.entries + 1 ≡ suc (length es) = omega (arith, long) in
    let table : TableIs js (suc (length es)) c.in_ok-table.table = subst (λ (n : ℕ). TableIs js n c.in_ok-table.table) tasks c.in_ok-table.ensures in
    let first = c.first.ensures js (suc (length es)) table (omega arith) in
    opened c.args.p.now.script code U es js c.in_ok-new.field-0 _ _ c.in_ok-new.ensures.ok c.seats_tell.ensures c.marks_begin_empty.ensures some few small (c.main.ensures.steps code) at.0 (at.1 ∙ ap no_vars (sym same)) refl refl
    first refl (one_item c.new-slots.result.items c.push.new.self.items _ c.in_ok-push.ensures.items c.new-slots.ensures.items) table c.in_ok-marks.ensures.none
    (one_item c.new-parents.result.items c.push-2.new.self.items _ c.in_ok-push-2.ensures.items c.new-parents.ensures.items)
