use Rattle.std.proofs.Common.{◌+◌, map, refl, ap, sym, subst, arith}
use Rattle.rx_syntax.specs.Shape.{Shape, Stands}
use Rattle.rx_gen.specs.Lines.{lines}
use Rattle.rx_gen.proofs.Standing.{piece-more, tops-more, nodes_of, parts_of, blocks_of, put-down, whole, stands}
use Rattle.rx_gen.proofs.generator.script.Goals as goal

pub loop-i-preserved : goal.loop-i-preserved
loop-i-preserved c =
    let q = c.args.places in
    let i = c.loop-i.i in
    let old = c.loop-i.invariant in (
      piece-more nodes_of i (i + 1) _ _ refl old.0 c.in_ok-put_line.ensures.stmts,
      piece-more (parts_of q) i (i + 1) _ _ refl old.1 c.in_ok-put_line.ensures.exprs,
      piece-more blocks_of i (i + 1) _ _ refl old.2 c.in_ok-put_line.ensures.blocks,
      tops-more c.args.size i _ _ _ (omega arith) old.3 c.in_ok-put_line.ensures.tops,
    )

pub new-requires-2 : goal.new-requires-2
new-requires-2 c =
    let old = c.loop-i.invariant in
    let made = put-down c.args.places c.args.size c.loop-i.i c.loop-i.nodes.stmts c.loop-i.nodes.exprs c.loop-i.nodes.blocks.items c.loop-i.nodes.tops c.push.new.self c.new.result (omega arith) old.0 old.1 old.2 old.3 c.in_ok-push.ensures.items in
    whole c.args.places c.args.size _ made (ap (map (λ n. n.items)) c.new.ensures.items) c.requires.size

pub returns : goal.returns
returns c =
    let old = c.loop-i.invariant in
    let made = put-down c.args.places c.args.size c.loop-i.i c.loop-i.nodes.stmts c.loop-i.nodes.exprs c.loop-i.nodes.blocks.items c.loop-i.nodes.tops c.push.new.self c.new.result (omega arith) old.0 old.1 old.2 old.3 c.in_ok-push.ensures.items in
    subst (λ (s : Shape). Stands s (lines c.args.places c.args.size)) (sym c.new-2.ensures) (stands c.args.places c.args.size _ made)
