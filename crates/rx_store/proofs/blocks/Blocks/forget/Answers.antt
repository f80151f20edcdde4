use Rattle.std.proofs.Common.{subst}
use Rattle.rx_rules.specs.declared.events.Cell.TheVariants.{ForgetStale}
use Rattle.rx_rules.specs.declared.events.Cell.TheVariants.{Forget}
use Rattle.rx_store.specs.Table.{Table, EventFits}
use Rattle.rx_store.proofs.Holding.{all_live}
use Rattle.rx_store.proofs.Telling.{table, still_stands, forget_told, forget_stale}
use Rattle.rx_store.proofs.blocks.Blocks.forget.Goals as goal

pub returns-in_default-clause-told : goal.returns-in_default-clause-told
returns-in_default-clause-told c =
    let T : Table → Type 0 = λ z. EventFits z (table c.self.inside.heap c.take_out.new.slots.items c.self.inside.made) (ForgetStale c.args.r) in
    subst T c.self.view_is (forget_stale c.self.inside.heap c.self.inside.slots.items c.take_out.new.slots.items c.self.inside.made c.args.r c.in_default.ensures.same c.in_default.ensures.none)

pub give-requires : goal.give-requires
give-requires c =
    let live = all_live c.self.inside.heap c.self.inside.slots.items _ c.self.invariant.2.holds in
    live.live c.args.r.start c.in-Some.held c.in-Some.ensures.some.0

pub invariant_of-self-2 : goal.invariant_of-self-2
invariant_of-self-2 c =
    still_stands (table c.self.inside.heap c.self.inside.slots.items c.self.inside.made) _ (Forget c.args.r) c.self.invariant
    (forget_told c.self.inside.heap c.give.new.self c.self.inside.slots.items c.take_out.new.slots.items c.self.inside.made c.args.r c.in-Some.held c.in-Some.ensures.some.0 c.in-Some.ensures.some.1 c.in-Some.ensures.gone c.give.ensures.laid c.give.ensures.words c.give.ensures.gone)

pub returns-clause-told : goal.returns-clause-told
returns-clause-told c =
    let T : Table → Type 0 = λ z. EventFits z (table c.give.new.self c.take_out.new.slots.items c.self.inside.made) (Forget c.args.r) in
    subst T c.self.view_is
    (forget_told c.self.inside.heap c.give.new.self c.self.inside.slots.items c.take_out.new.slots.items c.self.inside.made c.args.r c.in-Some.held c.in-Some.ensures.some.0 c.in-Some.ensures.some.1 c.in-Some.ensures.gone c.give.ensures.laid c.give.ensures.words c.give.ensures.gone)
