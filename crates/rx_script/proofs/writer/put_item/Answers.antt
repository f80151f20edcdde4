use Rattle.std.proofs.Common.{◌++◌, sym, ap, ◌∙◌}
use Rattle.rx_base.proofs.Results.{on-ok-then}
use Rattle.rx_syntax.specs.declared.token.Token.{Token}
use Rattle.rx_syntax.specs.Texts.{spaced}
use Rattle.rx_script.proofs.Written.{item-known, item-wrote}
use Rattle.rx_script.proofs.writer.put_item.Goals as goal

pub stmt-stmt-requires : goal.stmt-stmt-requires
stmt-stmt-requires c = item-known c.args.script.now c.args.block c.args.i c.block_item.result c.requires.0 c.requires.1 c.block_item.ensures

pub returns-in_ok-put_rest-clause-wrote : goal.returns-in_ok-put_rest-clause-wrote
returns-in_ok-put_rest-clause-wrote c = on-ok-then c.put_token.result _ _ c.put_token.ensures (λ text ts h.
    item-wrote c.args.script.now c.args.block c.args.i c.block_item.result c.stmt-stmt.result c.args.text.now.items c.put_token.new.text.items c.args.parts.now.items c.push.new.self.items c.put_rest.new.parts.items ts
    c.block_item.ensures c.stmt-stmt.ensures c.in_ok-push.ensures.items
    (text ∙ ap (λ (t : Token). c.args.text.now.items ++ spaced c.args.script.now.names t) (sym c.word_of.ensures)) c.in_ok-put_rest.ensures h)
