use Rattle.rx_script.specs.declared.items.Item.{Item as Piece}
use Rattle.std.proofs.Common.{sym, subst}
use Rattle.rx_script.specs.Inside.Arena.{Takes}
use Rattle.rx_script.proofs.Arena.{takes-whole, counts-add, counts-open, on-ok}
use Rattle.rx_script.proofs.reader.take_item.Goals as goal

pub returns-in-Whole-clause-takes : goal.returns-in-Whole-clause-takes
returns-in-Whole-clause-takes c = on-ok _ _ _ c.add.ensures (λ m. subst (λ (x : Piece). Takes c.args.reader.now x c.add.new.reader) (sym c.in-Whole.is) (takes-whole c.args.reader.now c.add.new.reader c.in-Whole.stmt m))

pub returns-in-Whole-clause-counts : goal.returns-in-Whole-clause-counts
returns-in-Whole-clause-counts c = on-ok _ _ _ c.add.ensures (λ m. counts-add c.args.reader.now c.add.new.reader _ m)

pub returns-in-Open-clause-counts : goal.returns-in-Open-clause-counts
returns-in-Open-clause-counts c = on-ok _ _ _ c.open.ensures (λ m. counts-open c.args.reader.now c.open.new.reader _ m)

pub returns-in-Close-clause-takes : goal.returns-in-Close-clause-takes
returns-in-Close-clause-takes c = rw c.in-Close.is c.close.ensures.takes

pub returns-in-Else-clause-takes : goal.returns-in-Else-clause-takes
returns-in-Else-clause-takes c = rw c.in-Else.is c.open_else.ensures.takes

pub returns-in-Catch-clause-takes : goal.returns-in-Catch-clause-takes
returns-in-Catch-clause-takes c = rw c.in-Catch.is c.open_handler.ensures.takes
