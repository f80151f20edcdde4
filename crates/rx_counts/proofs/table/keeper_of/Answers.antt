use Rattle.std.proofs.Common.{◌∙◌, ◌<◌, sym, ap, subst, arith}
use Rattle.rx_counts.specs.Keeping.{keeper, stands_home}
use Rattle.rx_counts.proofs.Walks.{OlderThan}
use Rattle.rx_counts.proofs.Shapes.{walk_missing, walk_here, walk_on, walk_end, walk_older}
use Rattle.rx_counts.proofs.table.keeper_of.Goals as goal

pub returns-in-None : goal.returns-in-None
returns-in-None c = λ T s. sym (c.walk.invariant T s ∙ walk_missing T c.args.scopes.now c.walk.at (stands_home c.args.dead.now) s c.in-None.ensures)

pub returns-then-lives : goal.returns-then-lives
returns-then-lives c = λ T s. walk_here T c.args.scopes.now c.args.dead.now c.walk.at c.in-Some.kept.now s c.in-Some.ensures (sym c.lives.ensures ∙ c.if-lives.true) ∙ sym (c.walk.invariant T s)

pub returns-in-None-parent : goal.returns-in-None-parent
returns-in-None-parent c = λ T s. sym (c.walk.invariant T s ∙ walk_end T c.args.scopes.now c.args.dead.now c.walk.at c.in-Some.kept.now s c.in-Some.ensures (sym c.lives.ensures ∙ c.if-lives.false) c.in-None-parent.is)

pub returns-then-parent-at : goal.returns-then-parent-at
returns-then-parent-at c = λ T s.
    let old : c.in-Some-parent.parent.0 < c.walk.at.0 = subst (OlderThan c.walk.at.0) c.in-Some-parent.is (walk_older T c.args.scopes.now c.walk.at c.in-Some.kept.now s c.in-Some.ensures) in
    absurd (omega arith)

pub walk-preserved : goal.walk-preserved
walk-preserved c = λ T s.
    c.walk.invariant T s
    ∙ walk_on T c.args.scopes.now c.args.dead.now c.walk.at c.in-Some.kept.now s c.in-Some.ensures (sym c.lives.ensures ∙ c.if-lives.false)
    ∙ ap (keeper (stands_home c.args.dead.now) T.scopes) c.in-Some-parent.is
