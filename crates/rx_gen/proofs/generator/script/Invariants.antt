use Rattle.std.proofs.Common.{◌≡◌, ◌++◌, ◌-◌, map}
use Rattle.rx_gen.proofs.Standing.{pieces, parts_of, nodes_of, blocks_of, tops_from}
use Rattle.rx_gen.proofs.generator.script.Given as goal

-- the nodes are those of the lines so far, and the lines so far and those to come are all
abbrev pub invariant-loop-i : goal.invariant-loop-i
invariant-loop-i l =
    (l.nodes.stmts.items ≡ pieces nodes_of l.i)
    × (l.nodes.exprs.items ≡ pieces (parts_of l.places) l.i)
    × (map (λ b. b.items) l.nodes.blocks.items ≡ pieces blocks_of l.i)
    × (l.nodes.tops.items ++ tops_from l.i (l.size - l.i) ≡ tops_from 0 l.size)
