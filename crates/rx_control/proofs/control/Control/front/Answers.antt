use Rattle.std.proofs.Common.{◌≡◌, ℕ, List, [], ◌∷◌, ◌++◌, Option, None, ap, ◌∙◌}
use Rattle.rx_rules.proofs.Common.{Term, begins}
use Rattle.rx_syntax.specs.Shape.{Shape}
use Rattle.rx_syntax.specs.declared.nodes.BlockId.{BlockId}
use Rattle.rx_control.specs.declared.frame.Frame.{Frame}
use Rattle.rx_control.specs.declared.frame.Frame.TheVariants.{Seq}
use Rattle.rx_control.specs.declared.control.Control.{Control}
use Rattle.rx_control.specs.Stands.{StandsFor}
use Rattle.rx_control.proofs.Carried.{raised-begin}
use Rattle.rx_control.proofs.Words.{match-then}
use Rattle.rx_control.proofs.control.Control.front.Goals as goal

pub returns-in-Some : goal.returns-in-Some
returns-in-Some c s t h = raised-begin s c.args.self.now t _ h c.in-Some.is

pub returns-in-Some-top : goal.returns-in-Some-top
returns-in-Some-top c =
    let P : Type 0 = (s : Shape) (d : Control) (t : Term) (below : List Frame) → d.frames.items ≡ below ++ c.in-Some-top.frame ∷ [] → StandsFor s d t → d.raised ≡ None → begins t ≡ None in
    let R : Type 0 = (s : Shape) (t : Term) → StandsFor s c.args.self.now t → begins t ≡ None in
    let Q : BlockId × ℕ × Option ℕ → Type 0 = λ f. c.in-Some-top.frame ≡ Seq f.0 f.1 f.2 in
    let S : BlockId × ℕ × Option ℕ → Type 0 = λ f. (c.args.self.now.raised ≡ None) × ((below : List Frame) × (c.args.self.now.frames.items ≡ below ++ Seq f.0 f.1 f.2 ∷ [])) in
    match-then c.statement_of.result P R Q S c.statement_of.ensures
    (λ h s t k. h s c.args.self.now t c.in-Some-top.ensures.0 c.in-Some-top.ensures.1 k c.in-None.is)
    (λ f e. (c.in-None.is, (c.in-Some-top.ensures.0, c.in-Some-top.ensures.1 ∙ ap (λ g. c.in-Some-top.ensures.0 ++ g ∷ []) e)))
