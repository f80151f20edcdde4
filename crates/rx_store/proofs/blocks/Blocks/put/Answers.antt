use Rattle.std.proofs.Common.{subst}
use mir.Val.{of_z, to_z}
use mir.Syntax.{w64}
use Rattle.rx_rules.specs.declared.events.Cell.TheVariants.{PutRefused}
use Rattle.rx_rules.specs.declared.events.Cell.TheVariants.{Put}
use Rattle.rx_store.specs.Table.{Table, EventFits}
use Rattle.rx_store.proofs.Holding.{all_live}
use Rattle.rx_store.proofs.Lookups.{at_table}
use Rattle.rx_store.proofs.Telling.{table, still_stands, put_told, put_refused}
use Rattle.rx_store.proofs.blocks.Blocks.put.Goals as goal

pub write-requires-clause-live : goal.write-requires-clause-live
write-requires-clause-live c =
    let live = all_live c.self.inside.heap c.self.inside.slots.items _ c.self.invariant.2.holds in
    live.live c.args.r.start c.in-Ok.held.now (at_table c.self.inside.slots.items c.deref.result.now c.args.r.start c.in-Ok.held.now c.deref.ensures.value c.in-Ok.ensures.found.slot)

pub invariant_of-self : goal.invariant_of-self
invariant_of-self c =
    still_stands (table c.self.inside.heap c.self.inside.slots.items c.self.inside.made) _ (Put c.args.r (to_z w64 (of_z w64 c.args.i)) (to_z w64 (of_z w64 c.args.v))) c.self.invariant
    (put_told c.self.inside.heap c.write.new.self c.self.inside.slots.items c.deref.result.now c.self.inside.made c.args.r (to_z w64 (of_z w64 c.args.i)) (to_z w64 (of_z w64 c.args.v)) c.in-Ok.held.now c.in-Ok.word c.deref.ensures.value c.in-Ok.ensures.found c.write.ensures.word c.write.ensures.laid)

pub returns-in-Ok-clause-told : goal.returns-in-Ok-clause-told
returns-in-Ok-clause-told c =
    let T : Table → Type 0 = λ z. EventFits z (table c.write.new.self c.self.inside.slots.items c.self.inside.made) (Put c.args.r (to_z w64 (of_z w64 c.args.i)) (to_z w64 (of_z w64 c.args.v))) in
    subst T c.self.view_is
    (put_told c.self.inside.heap c.write.new.self c.self.inside.slots.items c.deref.result.now c.self.inside.made c.args.r (to_z w64 (of_z w64 c.args.i)) (to_z w64 (of_z w64 c.args.v)) c.in-Ok.held.now c.in-Ok.word c.deref.ensures.value c.in-Ok.ensures.found c.write.ensures.word c.write.ensures.laid)

pub returns-in-Err-clause-told : goal.returns-in-Err-clause-told
returns-in-Err-clause-told c =
    let T : Table → Type 0 = λ z. EventFits z z (PutRefused c.args.r (to_z w64 (of_z w64 c.args.i)) (to_z w64 (of_z w64 c.args.v)) c.in-Err.stale) in
    subst T c.self.view_is
    (put_refused c.self.inside.heap c.self.inside.slots.items c.deref.result.now c.self.inside.made c.args.r (to_z w64 (of_z w64 c.args.i)) (to_z w64 (of_z w64 c.args.v)) c.in-Err.stale c.deref.ensures.value c.in-Err.ensures.refused)
