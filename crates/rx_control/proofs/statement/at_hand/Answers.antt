use Rattle.std.proofs.Common.{sym, ◌∙◌, subst}
use Rattle.std.proofs.lemmas.Option.{slice_get_within, same_Some}
use Rattle.rx_syntax.specs.declared.nodes.Stmt.{Stmt as Node}
use Rattle.rx_syntax.specs.Shape.{StmtIs}
use Rattle.rx_control.proofs.Front.{awaits-taken}
use Rattle.rx_control.proofs.statement.at_hand.Goals as goal

pub stmt-requires : goal.stmt-requires
stmt-requires c =
    let k = awaits-taken _ c.args.block c.args.next _ _ c.block_item.result c.requires.2 c.block_item.ensures in
    slice_get_within _ _ _ k.there

pub returns : goal.returns
returns c t more h =
    let k = awaits-taken _ c.args.block c.args.next t more c.block_item.result h c.block_item.ensures in
    let P : Node → Type 0 = λ n. StmtIs c.args.script.now n t in
    subst P (same_Some _ _ (sym k.there ∙ c.stmt.ensures)) k.is
