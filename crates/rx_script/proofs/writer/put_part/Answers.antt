use Rattle.std.proofs.Common.{◌∷◌, subst, reverse}
use Rattle.rx_script.specs.declared.writer.Part.{Part}
use Rattle.rx_script.specs.Inside.Unwritten.{PartStands, PartsStand}
use Rattle.rx_script.proofs.Written.{both-ok, value-known, value-wrote}
use Rattle.rx_script.proofs.writer.put_part.Goals as goal

pub expr-requires : goal.expr-requires
expr-requires c = value-known c.args.script.now c.in-Value.id c.requires.0 (subst (λ (p : Part). PartStands c.args.script.now p c.requires.0) c.in-Value.is c.requires.1)

pub returns-in-Value-clause-wrote : goal.returns-in-Value-clause-wrote
returns-in-Value-clause-wrote c = both-ok c.put_expr.result _ _ _ c.put_expr.ensures.text c.put_expr.ensures.parts (λ text parts ts h.
    value-wrote c.args.script.now c.in-Value.id c.expr.result c.args.text.now.items c.put_expr.new.text.items c.args.parts.now.items c.put_expr.new.parts.items ts c.expr.ensures text parts
    (subst (λ (p : Part). PartsStand c.args.script.now (p ∷ reverse c.args.parts.now.items) ts) c.in-Value.is h))
