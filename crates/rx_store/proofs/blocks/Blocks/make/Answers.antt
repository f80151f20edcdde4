use Rattle.std.proofs.Common.{◌+◌, refl, subst}
use Rattle.rx_rules.specs.declared.events.Cell.TheVariants.{Make, MakeFull}
use Rattle.rx_store.specs.Table.{Table, EventFits}
use Rattle.rx_store.proofs.Changing.{free_slot}
use Rattle.rx_store.proofs.Telling.{table, still_stands, make_told, full_told}
use Rattle.rx_store.proofs.blocks.Blocks.make.Goals as goal

pub keep-requires-clause-free : goal.keep-requires-clause-free
keep-requires-clause-free c =
    free_slot c.self.inside.heap c.self.inside.slots.items _ c.in-Ok.block.start c.args.n c.self.invariant.2.holds c.requires.some c.in-Ok.ensures.least.here

pub invariant_of-self : goal.invariant_of-self
invariant_of-self c =
    still_stands (table c.self.inside.heap c.self.inside.slots.items c.self.inside.made) _ (Make c.args.n c.in-Ok.block.start (c.self.inside.made + 1)) c.self.invariant
    (make_told c.self.inside.heap c.take.new.self c.self.inside.slots.items c.keep.new.slots.items c.self.inside.made c.args.n c.in-Ok.block.start c.in-Ok.block refl c.requires.some c.in-Ok.ensures.least c.in-Ok.ensures.len c.in-Ok.ensures.laid c.in-Ok.ensures.live c.in-Ok.ensures.words c.keep.ensures)

pub returns-in-Ok-clause-told : goal.returns-in-Ok-clause-told
returns-in-Ok-clause-told c =
    let T : Table → Type 0 = λ z. EventFits z (table c.take.new.self c.keep.new.slots.items (c.self.inside.made + 1)) (Make c.args.n c.start-start.result (c.self.inside.made + 1)) in
    subst T c.self.view_is
    (make_told c.self.inside.heap c.take.new.self c.self.inside.slots.items c.keep.new.slots.items c.self.inside.made c.args.n c.start-start.result c.in-Ok.block c.start-start.ensures c.requires.some c.in-Ok.ensures.least c.in-Ok.ensures.len c.in-Ok.ensures.laid c.in-Ok.ensures.live c.in-Ok.ensures.words c.keep.ensures)

pub returns-in-Err-clause-told : goal.returns-in-Err-clause-told
returns-in-Err-clause-told c =
    let T : Table → Type 0 = λ z. EventFits z (table c.take.new.self c.self.inside.slots.items c.self.inside.made) (MakeFull c.args.n) in
    subst T c.self.view_is (full_told c.self.inside.heap c.take.new.self c.self.inside.slots.items c.self.inside.made c.args.n c.in-Err.ensures.err c.in-Err.ensures.no_start)
