use Rattle.std.proofs.Common.{rules, ◌≡◌, ◌∙◌, [], ◌∷◌, ◌++◌, Option, None, sym, subst}
use Rattle.rx_rules.proofs.Common.{Term, Empty}
use Rattle.rx_syntax.specs.declared.nodes.BlockId.{BlockId}
use Rattle.rx_control.specs.declared.frame.Frame.TheVariants.{Seq}
use Rattle.rx_control.specs.Levels.{More}
use Rattle.rx_control.specs.Seeds.{BodyIs}
use Rattle.rx_control.specs.Stands.{path_of, StandsFor}
use Rattle.rx_control.proofs.Starting.{first-frame, begun-at, empty-control}
use Rattle.rx_control.proofs.birth.set_front.Goals as goal

pub settle-requires : goal.settle-requires
settle-requires c =
    let x = c.requires.body.0 in
    let b = subst (λ (o : Option BlockId). BodyIs c.args.script.now o x c.requires.body.1) c.in-Some.is c.requires.body.2 in
    let e : c.enter.new.frames.items ≡ Seq c.in-Some.block 0 None ∷ [] = search rules in
    (x, More b.0 (path_of x [] ++ []) 0 ∷ [], first-frame c.args.script.now x c.enter.new.frames.items c.in-Some.block b.0 e b.1)

pub returns-in-Some : goal.returns-in-Some
returns-in-Some c = λ x t h d base frames raised.
    let b = subst (λ (o : Option BlockId). BodyIs c.args.script.now o x t) c.in-Some.is h in
    let e : c.enter.new.frames.items ≡ Seq c.in-Some.block 0 None ∷ [] = search rules in
    let settled = c.settle.ensures x (More b.0 (path_of x [] ++ []) 0 ∷ []) (first-frame c.args.script.now x c.enter.new.frames.items c.in-Some.block b.0 e b.1) in
    begun-at c.args.script.now d x c.settle.new.frames.items b.0 t base frames raised b.2 settled

pub returns-in-None : goal.returns-in-None
returns-in-None c = λ x t h d base frames raised.
    let none : t ≡ Empty = subst (λ (o : Option BlockId). BodyIs c.args.script.now o x t) c.in-None.is h in
    subst (λ (u : Term). StandsFor c.args.script.now d u) (sym none) (empty-control c.args.script.now d raised (frames ∙ c.requires.empty))
