use Rattle.std.proofs.Common.{◌+◌, ◌∙◌, sym, drop, arith}
use Rattle.rx_order.specs.Inside.Parts.{numbers_of}
use Rattle.rx_order.proofs.Ordering.{before-out, before-other-out, before-both, both-equal, both-less, both-more, both-unordered}
use Rattle.rx_order.proofs.order.inside.Goals as goal
use Rattle.rx_order.proofs.order.inside.Goals.{else-own-other-2-via-then-own-other-2+else-is_ordered, else-own-other-2-via-else-own-other-2}

pub returns-in-None : goal.returns-in-None
returns-in-None c t h =
    before-out c.args.script.now c.args.x.now (c.args.at + numbers_of t) t (drop c.args.at c.args.x.now) (drop c.args.at c.args.y.now) (rw c.in-None.is at c.part_of.ensures c.args.script.now t h)

pub returns-in-None-part_of : goal.returns-in-None-part_of
returns-in-None-part_of c t h =
    before-other-out c.args.script.now c.args.y.now (c.args.at + numbers_of t) t (drop c.args.at c.args.x.now) (drop c.args.at c.args.y.now) (rw c.in-None-part_of.is at c.part_of-in-Some.ensures c.args.script.now t h)

pub is_kept-requires : goal.is_kept-requires
is_kept-requires c =
    let s = c.args.script.now in
    let t = c.requires.0 in
    let k = before-both s c.args.x.now c.args.y.now (c.args.at + numbers_of t) c.in-Some.own c.in-Some-part_of.other t (drop c.args.at c.args.x.now) (drop c.args.at c.args.y.now) (rw c.in-Some.is at c.part_of.ensures s t c.requires.1) (rw c.in-Some-part_of.is at c.part_of-in-Some.ensures s t c.requires.1) in
    (k.block, k.stands)

pub returns-then-own-other : goal.returns-then-own-other
returns-then-own-other c t h =
    let s = c.args.script.now in
    let k = before-both s c.args.x.now c.args.y.now (c.args.at + numbers_of t) c.in-Some.own c.in-Some-part_of.other t (drop c.args.at c.args.x.now) (drop c.args.at c.args.y.now) (rw c.in-Some.is at c.part_of.ensures s t h) (rw c.in-Some-part_of.is at c.part_of-in-Some.ensures s t h) in
    (k.block, k.stands, both-equal s c.args.x.now c.args.y.now _ _ _ _ _ k c.if-own-other.true, omega (arith, k.at))

pub returns-then-is_ordered : goal.returns-then-is_ordered
returns-then-is_ordered c t h =
    let s = c.args.script.now in
    let k = before-both s c.args.x.now c.args.y.now (c.args.at + numbers_of t) c.in-Some.own c.in-Some-part_of.other t (drop c.args.at c.args.x.now) (drop c.args.at c.args.y.now) (rw c.in-Some.is at c.part_of.ensures s t h) (rw c.in-Some-part_of.is at c.part_of-in-Some.ensures s t h) in
    c.is_kept.ensures k.block k.stands ∙ sym (both-less s c.args.x.now c.args.y.now _ _ _ _ _ k c.if-own-other-2.true (sym (c.is_ordered.ensures s t h) ∙ c.if-is_ordered.true))

pub returns-else-own-other-2 : goal.returns-else-own-other-2
returns-else-own-other-2 c t h =
    let s = c.args.script.now in
    let k = before-both s c.args.x.now c.args.y.now (c.args.at + numbers_of t) c.in-Some.own c.in-Some-part_of.other t (drop c.args.at c.args.x.now) (drop c.args.at c.args.y.now) (rw c.in-Some.is at c.part_of.ensures s t h) (rw c.in-Some-part_of.is at c.part_of-in-Some.ensures s t h) in
    elim c.else-own-other-2.branch [
      | else-own-other-2-via-then-own-other-2+else-is_ordered w ↦ sym (both-unordered s c.args.x.now c.args.y.now _ _ _ _ _ k c.if-own-other.false (sym (w.is_ordered.ensures s t h) ∙ w.if-is_ordered.false))
      | else-own-other-2-via-else-own-other-2 w ↦ sym (both-more s c.args.x.now c.args.y.now _ _ _ _ _ k c.if-own-other.false w.if-own-other-2.false)
    ]
