use Rattle.std.proofs.Common.{◌≡◌, ℕ, List, Some, None, subst, OnOk}
use Rattle.rx_rules.proofs.Common.{Term, answered, answer_of, receives, vars_after, begins}
use Rattle.rx_syntax.specs.Shape.{Shape}
use Rattle.rx_control.specs.Stands.{StandsFor, IsSame}
use Rattle.rx_control.proofs.Bound.{answered-falls}
use Rattle.rx_control.proofs.control.Control.cell_done.Goals as goal

pub returns-clause-ok : goal.returns-clause-ok
returns-clause-ok c =
    let P : Shape → Type 0 = λ s. OnOk c.take_answer.result ((t : Term) (x : List ℕ) → StandsFor s c.args.self.now t → begins t ≡ Some x → StandsFor s c.take_answer.new.self (answered (answer_of (receives t) c.args.answer) t) × (c.take_answer.new.self.vars ≡ vars_after (answer_of (receives t) c.args.answer) c.args.self.now.vars)) in
    subst P c.script.ensures c.take_answer.ensures.ok

pub returns-clause-steps : goal.returns-clause-steps
returns-clause-steps c t x h = answered-falls (answer_of (receives t) c.args.answer) t x h

pub returns-clause-other : goal.returns-clause-other
returns-clause-other c =
    let P : Shape → Type 0 = λ s. (t : Term) → StandsFor s c.args.self.now t → begins t ≡ None → IsSame c.take_answer.new.self c.args.self.now in
    subst P c.script.ensures c.take_answer.ensures.other
