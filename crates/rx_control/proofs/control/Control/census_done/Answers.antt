use Rattle.std.proofs.Common.{◌≡◌, [], ℕ, List, OnOk, subst}
use Rattle.rx_rules.proofs.Common.{PlaceId, Term, does, granted, vars_told}
use Rattle.rx_rules.specs.declared.entries.Act.TheVariants.{Census}
use Rattle.rx_syntax.specs.Shape.{Shape}
use Rattle.rx_history.specs.declared.step.Next.TheVariants.{Book}
use Rattle.rx_history.specs.declared.step.Want.TheVariants.{Census as CensusWanted}
use Rattle.rx_control.specs.Stands.{StandsFor}
use Rattle.rx_history.specs.Next.{next_of}
use Rattle.rx_control.proofs.Bound.{granted-rest}
use Rattle.rx_control.proofs.control.Control.census_done.Goals as goal

pub returns-clause-stands : goal.returns-clause-stands
returns-clause-stands c =
    let P : Shape → Type 0 = λ s. OnOk c.count.result ((t : Term) (here : PlaceId) → StandsFor s c.args.self.now t → next_of (does c.args.self.now.vars here.0 t) ≡ Book CensusWanted → StandsFor s c.count.new.self (granted [] t)) in
    subst P c.script.ensures c.count.ensures.stands

pub returns-clause-vars : goal.returns-clause-vars
returns-clause-vars c =
    let P : Shape → Type 0 = λ s. OnOk c.count.result ((t : Term) (here : PlaceId) (path : List ℕ) → StandsFor s c.args.self.now t → next_of (does c.args.self.now.vars here.0 t) ≡ Book CensusWanted → c.count.new.self.vars ≡ vars_told (does c.args.self.now.vars here.0 t) (Census c.args.places path) c.args.self.now.vars) in
    subst P c.script.ensures c.count.ensures.vars

pub returns-clause-steps : goal.returns-clause-steps
returns-clause-steps c t = granted-rest [] t
