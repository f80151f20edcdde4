use Rattle.std.proofs.Common.{◌≡◌, ℕ, List, [], arith, sym, ◌∙◌, subst}
use Rattle.rx_rules.proofs.Common.{Block, no_vars, items, Empty}
use Rattle.rx_syntax.specs.Shape.{Shape, BlockStands, Stands}
use Rattle.rx_syntax.specs.declared.nodes.BlockId.{BlockId}
use Rattle.rx_control.specs.declared.control.Control.{Control}
use Rattle.rx_control.specs.Stands.{StandsFor}
use Rattle.rx_control.proofs.Words.{ok-then}
use Rattle.rx_runs.proofs.Sinking.{steps_items}
use Rattle.rx_control.proofs.control.Control.main.Goals as goal

pub returns-clause-stands : goal.returns-clause-stands
returns-clause-stands c =
    let P : Control → Type 0 = λ d. (b : Block) → BlockStands c.script-script.result.now c.top.result b → StandsFor c.script-script.result.now d (items b c.open.result Empty) × (d.vars ≡ c.none.result) in
    let Q : Control → Type 0 = λ d. (b : Block) → Stands c.args.p.now.script b → StandsFor c.args.p.now.script d (items b [] Empty) × (d.vars ≡ no_vars c.args.places) in
    ok-then c.start.result P Q c.start.ensures
    (λ d h b k.
    let K : Shape → Type 0 = λ s. Stands s b in
    let L : BlockId → Type 0 = λ i. BlockStands c.script-script.result.now i b in
    let M : Shape → Type 0 = λ s. StandsFor s d (items b [] Empty) in
    let N : List ℕ → Type 0 = λ x. StandsFor c.script-script.result.now d (items b x Empty) in
    let r = h b (subst L (sym c.top.ensures) (subst K (sym c.script-script.ensures) k)) in
    (subst M c.script-script.ensures (subst N c.open.ensures r.0), r.1 ∙ c.none.ensures))

pub returns-clause-steps : goal.returns-clause-steps
returns-clause-steps c b = omega (arith, steps_items b [] 0 Empty)
