use Rattle.rx_order.proofs.Positions.{block-held, held-within, held-is, block-past}
use Rattle.std.proofs.Common.{arith}
use Rattle.rx_order.proofs.parts.stmt_at.Goals as goal

pub stmt-requires : goal.stmt-requires
stmt-requires c =
    held-within _ _ _ _ (block-held c.args.script.now c.args.block c.requires.0 c.args.i c.block_item.result c.requires.1 c.block_item.ensures)

pub returns-then-i-block_len : goal.returns-then-i-block_len
returns-then-i-block_len c b h =
    held-is _ _ _ _ _ c.stmt.ensures (block-held c.args.script.now c.args.block b c.args.i c.block_item.result h c.block_item.ensures)

pub returns-else-i-block_len : goal.returns-else-i-block_len
returns-else-i-block_len c b h =
    block-past c.args.script.now c.args.block b c.args.i c.block_len.result h c.block_len.ensures (omega (arith, c.if-i-block_len.false))
