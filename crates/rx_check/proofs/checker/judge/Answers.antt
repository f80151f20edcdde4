use Rattle.std.proofs.Common.{◌≡◌, ℕ, List, [], ap, sym, ◌∙◌, subst, Some, Result, Err}
use Rattle.std.proofs.lemmas.Result.{err_from_is_err_and}
use Rattle.rx_rules.proofs.Common.{Block}
use Rattle.rx_syntax.specs.Shape.{BlockStands}
use Rattle.rx_syntax.specs.declared.nodes.BlockId.{BlockId}
use Rattle.rx_syntax.specs.declared.nodes.NameId.{NameId}
use Rattle.rx_check.specs.Rules.{nodes}
use Rattle.rx_check.specs.Inside.Walk.{is_in, sights_run, seen_all, KnowsNames}
use Rattle.rx_check.specs.declared.checker.CheckCause.{CheckCause}
use Rattle.rx_check.specs.declared.checker.CheckCause.TheVariants.{Bad}
use Rattle.rx_check.specs.declared.names.Seen.{Seen}
use Rattle.rx_check.proofs.Judging.{verdict-bad, verdict-none, verdict-work}
use Rattle.rx_check.proofs.checker.judge.Goals as goal
use Rattle.rx_check.proofs.Causes.{passed}

pub block-requires-clause-stands : goal.block-requires-clause-stands
block-requires-clause-stands c =
    let P : BlockId → Type 0 = λ k. (t : Block) × BlockStands c.args.script.now k t in subst P (sym c.top.ensures) (c.whole.ensures.0, c.whole.ensures.1)

-- nothing is known or assigned yet
knows-none : (ns : List NameId) → ns ≡ [] → KnowsNames ns []
knows-none ns e n = ap (is_in n) e

pub returns-clause-ok : goal.returns-clause-ok
returns-clause-ok c t h =
    let B : BlockId → Type 0 = λ k. BlockStands c.args.script.now k t in
    let o = c.in_ok-work.ensures.ok t [] (knows-none _ c.new-2.ensures.items) (subst B (sym c.top.ensures) h) in
    let e = ap (λ (ss : List Seen). sights_run (record { seen = seen_all ss; count = 0 }) (nodes t)) (sym c.new.ensures.items) ∙ o.0 in
    verdict-none t _ c.in_ok-work.work e o.1 c.if-work-gt100000.false

pub returns-in_err-work-clause-bad : goal.returns-in_err-work-clause-bad
returns-in_err-work-clause-bad c rule node h t b =
    let B : BlockId → Type 0 = λ k. BlockStands c.args.script.now k t in
    let p = err_from_is_err_and c.from_residual.result c.from_residual.ensures.1 in
    let f = c.in_err-work.ensures.bad rule node (passed c.from_residual.result p.0 c.in_err-work.field-0.0 rule node p.1 p.2 h) t [] (knows-none _ c.new-2.ensures.items) (subst B (sym c.top.ensures) b) in
    verdict-bad t (rule, node) (ap (λ (ss : List Seen). sights_run (record { seen = seen_all ss; count = 0 }) (nodes t)) (sym c.new.ensures.items) ∙ f)

-- the rule and the node of a fault
abbrev pair_in : Result ℕ CheckCause → ℕ × ℕ
pair_in (Err (Bad rule node)) = (rule, node)
pair_in _ = (0, 0)

pub returns-then-work-gt100000-clause-bad : goal.returns-then-work-gt100000-clause-bad
returns-then-work-gt100000-clause-bad c rule node h t b =
    let B : BlockId → Type 0 = λ k. BlockStands c.args.script.now k t in
    let o = c.in_ok-work.ensures.ok t [] (knows-none _ c.new-2.ensures.items) (subst B (sym c.top.ensures) b) in
    let e = ap (λ (ss : List Seen). sights_run (record { seen = seen_all ss; count = 0 }) (nodes t)) (sym c.new.ensures.items) ∙ o.0 in
    verdict-work t _ c.in_ok-work.work e o.1 c.if-work-gt100000.true ∙ ap (λ r. Some (pair_in r)) h
