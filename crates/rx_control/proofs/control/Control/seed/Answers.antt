use Rattle.std.proofs.Common.{◌≡◌, ◌++◌, ap, sym, ◌∙◌, subst, option_to_list}
use Rattle.std.proofs.lemmas.Option.{none-some, same_Some}
use Rattle.rx_rules.proofs.Common.{Term, stmt_child, child, at}
use Rattle.rx_syntax.specs.Shape.{Shape}
use Rattle.rx_control.specs.Seeds.{IsSeedOf}
use Rattle.rx_control.specs.Stands.{StandsFor, path_of}
use Rattle.rx_control.proofs.Births.{child-statement}
use Rattle.rx_control.proofs.Standing.{at-statement}
use Rattle.rx_control.proofs.Carried.{statement-begin}
use Rattle.rx_control.proofs.control.Control.seed.Goals as goal

pub at_hand-requires : goal.at_hand-requires
at_hand-requires c =
    let e = c.in-Some.ensures in
    let a = at-statement c.script-script.result.now c.args.self.now c.requires.0 e.1.0 c.in-Some.block c.in-Some.next c.in-Some.field-0-2 e.0 e.1.1 (subst (λ (v : Shape). StandsFor v c.args.self.now c.requires.0) (sym c.script-script.ensures) c.requires.2) in
    (a.stmt, a.more, a.awaits)

pub returns : goal.returns
returns c = λ t k x b.
    let s = c.script-script.result.now in
    let e = c.in-Some.ensures in
    let a = at-statement s c.args.self.now t e.1.0 c.in-Some.block c.in-Some.next c.in-Some.field-0-2 e.0 e.1.1 (subst (λ (v : Shape). StandsFor v c.args.self.now t) (sym c.script-script.ensures) k) in
    let y = path_of c.args.self.now.base e.1.0 ++ option_to_list c.in-Some.field-0-2 in
    let begun = statement-begin s c.args.self.now t e.1.0 c.in-Some.block c.in-Some.next c.in-Some.field-0-2 a in
    let is : at y c.in-Some.next ≡ x = same_Some _ _ (sym begun ∙ b) in
    let grows = c.seed_of.ensures.seed s a.stmt x (c.at_hand.ensures a.stmt a.more a.awaits) in
    let f : child t ≡ stmt_child a.stmt x = child-statement s c.args.self.now t e.1.0 c.in-Some.block c.in-Some.next c.in-Some.field-0-2 a ∙ ap (stmt_child a.stmt) is in
    (subst (λ (v : Shape). IsSeedOf v c.seed_of.result x (child t)) c.script-script.ensures (subst (λ (u : Term). IsSeedOf s c.seed_of.result x u) (sym f) grows), c.seed_of.ensures.vars ∙ c.in_ok-vars-in-Some.ensures)

pub unreachable-requires : goal.unreachable-requires
unreachable-requires c = none-some c.requires.1 (sym (c.in-None.ensures c.args.p.now.script c.requires.0 c.requires.2) ∙ c.requires.3)
