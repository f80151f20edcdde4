use Rattle.std.proofs.Common.{◌≡◌, ◌+◌, Some, ℤ, rules, sym, subst, slice_get}
use Rattle.std.proofs.lemmas.Int.{to_z-of_z}
use mir.Val.{SFits, of_z, to_z}
use mir.Syntax.{w64}
use Rattle.rx_rules.specs.declared.events.Cell.TheVariants.{GetRefused}
use Rattle.rx_rules.specs.declared.events.Cell.TheVariants.{Get}
use Rattle.rx_store.specs.Table.{Table, EventFits}
use Rattle.rx_store.proofs.Holding.{all_live}
use Rattle.rx_store.proofs.Lookups.{at_table}
use Rattle.rx_store.proofs.Telling.{get_told, get_refused}
use Rattle.rx_store.proofs.blocks.Blocks.get.Goals as goal

pub read-requires-clause-live : goal.read-requires-clause-live
read-requires-clause-live c =
    let live = all_live c.self.inside.heap c.self.inside.slots.items _ c.self.invariant.2.holds in
    live.live c.args.r.start c.in-Ok.held.now (at_table c.self.inside.slots.items c.deref.result.now c.args.r.start c.in-Ok.held.now c.deref.ensures.value c.in-Ok.ensures.found.slot)

pub returns-in-Ok-clause-told : goal.returns-in-Ok-clause-told
returns-in-Ok-clause-told c =
    let h = c.in-Ok.held.now in
    let fits : SFits w64 c.read.result = search rules in
    let V : ℤ → Type 0 = λ z. slice_get c.self.inside.heap.words (h.block.start + c.in-Ok.at) ≡ Some z in
    let T : Table → Type 0 = λ z. EventFits z z (Get c.args.r (to_z w64 (of_z w64 c.args.i)) (to_z w64 (of_z w64 c.read.result))) in
    subst T c.self.view_is
    (get_told c.self.inside.heap c.self.inside.slots.items c.deref.result.now c.self.inside.made c.args.r (to_z w64 (of_z w64 c.args.i)) (to_z w64 (of_z w64 c.read.result)) h c.in-Ok.at c.deref.ensures.value c.in-Ok.ensures.found (subst V (sym (to_z-of_z w64 c.read.result fits)) c.read.ensures))

pub returns-in-Err-clause-told : goal.returns-in-Err-clause-told
returns-in-Err-clause-told c =
    let T : Table → Type 0 = λ z. EventFits z z (GetRefused c.args.r (to_z w64 (of_z w64 c.args.i)) c.in-Err.stale) in
    subst T c.self.view_is (get_refused c.self.inside.heap c.self.inside.slots.items c.deref.result.now c.self.inside.made c.args.r (to_z w64 (of_z w64 c.args.i)) c.in-Err.stale c.deref.ensures.value c.in-Err.ensures.refused)
