use Rattle.std.proofs.Common.{arith, ◌+◌, drop, length-drop}
use Rattle.rx_order.specs.Inside.Parts.{numbers_of}
use Rattle.rx_order.proofs.Keeping.{kept-out, kept-on}
use Rattle.rx_order.proofs.kept.inside.Goals as goal

pub returns-in-None : goal.returns-in-None
returns-in-None c s t h o =
    kept-out s c.args.x.now (c.args.at + numbers_of t) t (drop c.args.at c.args.x.now) o (omega (arith, c.requires, length-drop c.args.at c.args.x.now)) (rw c.in-None.is at c.part_of.ensures s t h)

pub returns-in-Some : goal.returns-in-Some
returns-in-Some c s t h o =
    let k = kept-on s c.args.x.now (c.args.at + numbers_of t) t (drop c.args.at c.args.x.now) c.in-Some.part o (omega (arith, c.requires, length-drop c.args.at c.args.x.now)) (rw c.in-Some.is at c.part_of.ensures s t h) in
    (k.block, k.stands, k.same, omega (arith, k.at))
