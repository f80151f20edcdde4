use Rattle.std.proofs.Common.{◌∙◌, sym}
use Rattle.std.proofs.lemmas.Bool.{true≢false}
use Rattle.rx_rules.proofs.Common.{Tree}
use Rattle.rx_counts.proofs.Asking.{none_kept}
use Rattle.rx_counts.proofs.Passing.{passes_by, passes_hand, heir_exists, pour_ok}
use Rattle.rx_counts.proofs.dying.hand_over.Goals as goal

pub pour_at-requires : goal.pour_at-requires
pour_at-requires c =
    let T : Tree = c.requires.2 in
    let p = c.requires.4 in
    pour_ok T c.requires.3 c.args.dead.now c.args.d c.args.i c.args.scopes.now c.take_at-given.new.scopes c.in-Some.parent c.in-Some-keeper_of.heir c.take_at-given.result p
    (sym c.parent_at.ensures ∙ c.in-Some.is)
    (sym (c.in-Some-keeper_of.ensures T p.shaped))
    c.take_at-given.ensures.taken c.take_at-given.ensures.left

pub returns-in-Some-keeper_of-clause-passes : goal.returns-in-Some-keeper_of-clause-passes
returns-in-Some-keeper_of-clause-passes c = λ size T keeps p.
    passes_hand T keeps c.args.dead.now c.args.d c.args.i c.args.scopes.now c.take_at-given.new.scopes c.pour_at.new.scopes c.in-Some.parent c.in-Some-keeper_of.heir c.take_at-given.result p
    (sym c.parent_at.ensures ∙ c.in-Some.is)
    (sym (c.in-Some-keeper_of.ensures T p.shaped))
    c.take_at-given.ensures.taken c.take_at-given.ensures.left c.pour_at.ensures

pub returns-in_default-keeper_of-clause-passes : goal.returns-in_default-keeper_of-clause-passes
returns-in_default-keeper_of-clause-passes c = λ size T keeps p.
    absurd (true≢false (sym (heir_exists T keeps c.args.dead.now c.args.d c.args.i c.args.scopes.now c.in-Some.parent p (sym c.parent_at.ensures ∙ c.in-Some.is))
    ∙ none_kept c.keeper_of.result _ c.in_default-keeper_of.is (c.keeper_of.ensures T p.shaped)))

pub returns-in_default-clause-passes : goal.returns-in_default-clause-passes
returns-in_default-clause-passes c = λ size T keeps p.
    passes_by T keeps c.args.dead.now c.args.d c.args.i c.args.scopes.now p (sym c.parent_at.ensures ∙ c.in_default.is)
