use Rattle.std.proofs.Common.{◌≡◌, ◌∙◌, ℕ, List, sym, subst}
use Rattle.rx_control.specs.Seeds.{IsSeedOf}
use Rattle.rx_machine.specs.declared.seat.Work.{Work}
use Rattle.rx_machine.specs.Slots.{IsWork}
use Rattle.rx_machine.proofs.beginning.at_work.Goals as goal

pub path_started-requires : goal.path_started-requires
path_started-requires c =
    let h = subst (λ (w : Work). IsWork c.args.p.now.script c.args.history.now.entries c.requires.0 w) c.in-Seed.is c.requires.1 in (h.0, h.1)

pub begin-requires : goal.begin-requires
begin-requires c =
    let h = subst (λ (w : Work). IsWork c.args.p.now.script c.args.history.now.entries c.requires.0 w) c.in-Seed.is c.requires.1 in
    (c.requires.0.term, subst (λ (x : List ℕ). IsSeedOf c.args.p.now.script c.in-Seed.seed x c.requires.0.term) (sym (c.in_ok-path-in-Seed.ensures h.0 h.1)) h.2)

pub returns-in-Control : goal.returns-in-Control
returns-in-Control c = λ q w. subst (λ (v : Work). IsWork c.args.p.now.script c.args.history.now.entries q v) c.in-Control.is w

pub returns-in_ok-begin-in-Seed : goal.returns-in_ok-begin-in-Seed
returns-in_ok-begin-in-Seed c = λ q w.
    let h = subst (λ (v : Work). IsWork c.args.p.now.script c.args.history.now.entries q v) c.in-Seed.is w in
    let grows = subst (λ (x : List ℕ). IsSeedOf c.args.p.now.script c.in-Seed.seed x q.term) (sym (c.in_ok-path-in-Seed.ensures h.0 h.1)) h.2 in
    (c.in_ok-begin-in-Seed.ensures.stands q.term grows, c.in_ok-begin-in-Seed.ensures.vars ∙ h.3)
