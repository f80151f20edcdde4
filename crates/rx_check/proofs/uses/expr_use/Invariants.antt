use Rattle.std.proofs.Common.{◌≡◌}
use Rattle.rx_rules.proofs.Common.{Expr}
use Rattle.rx_syntax.specs.Shape.{ExprStands}
use Rattle.rx_check.specs.Inside.Walk.{join, uses_in, weights, Yields}
use Rattle.rx_check.specs.declared.uses.Uses.{Uses}
use Rattle.rx_check.proofs.uses.expr_use.Given as goal

-- what was used and what waits is what the expression uses
abbrev pub invariant-parts : goal.invariant-parts
invariant-parts l = (e : Expr) → ExprStands l.script.exprs l.fn.id e → (u : Uses) × Yields l.walk l.script.exprs l.waiting.items u × (uses_in l.walk 32 e ≡ join l.uses u)

abbrev pub decreases-parts : goal.decreases-parts
decreases-parts l = weights l.waiting.items
