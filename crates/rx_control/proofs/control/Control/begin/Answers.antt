use Rattle.std.proofs.Common.{◌≡◌, None, refl, sym, subst}
use Rattle.rx_syntax.specs.Shape.{Shape}
use Rattle.rx_control.specs.declared.control.Control.{Control}
use Rattle.rx_control.specs.Seeds.{IsSeedOf}
use Rattle.rx_control.specs.Stands.{StandsFor}
use Rattle.rx_control.proofs.control.Control.begin.Goals as goal

pub set_front-requires-clause-body : goal.set_front-requires-clause-body
set_front-requires-clause-body c =
    (c.args.path, c.requires.0, subst (λ (v : Shape). IsSeedOf v c.args.seed c.args.path c.requires.0) (sym c.script.ensures) c.requires.1)

pub returns-clause-stands : goal.returns-clause-stands
returns-clause-stands c = λ t h.
    let here = subst (λ (v : Shape). IsSeedOf v c.args.seed c.args.path t) (sym c.script.ensures) h in
    let all : (d : Control) → d.base ≡ c.args.path → d.frames.items ≡ c.set_front.new.frames.items → d.raised ≡ None → StandsFor c.args.p.now.script d t =
    λ d base frames raised. subst (λ (v : Shape). StandsFor v d t) c.script.ensures (c.set_front.ensures c.args.path t here d base frames raised) in
    all _ refl refl refl
