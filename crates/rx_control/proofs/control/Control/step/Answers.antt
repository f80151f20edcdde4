use Rattle.std.proofs.Common.{suc, ◌∷◌, ◌++◌, ap, ◌∙◌, List, option_to_list}
use Rattle.rx_base.proofs.Results.{on-ok-then}
use Rattle.rx_rules.proofs.Common.{Term, Releases, stmt_does, at, does}
use Rattle.rx_control.specs.declared.frame.Frame.{Frame}
use Rattle.rx_control.specs.Levels.{More, seq}
use Rattle.rx_control.specs.declared.frame.Frame.TheVariants.{Seq, Turns, Try, Body, Held}
use Rattle.rx_control.specs.Stands.{path_of, StandsFor, AfterLocalStep}
use Rattle.rx_control.specs.Inside.Front.{lifted, Due}
use Rattle.rx_history.specs.Next.{next_of}
use Rattle.rx_control.proofs.Front.{next-lifted}
use Rattle.rx_plan.proofs.Plans.{asks}
use Rattle.rx_control.proofs.Standing.{at-top, at-statement, calm-seq, calm-held}
use Rattle.rx_control.proofs.NextIs.{stmt-does, waiting-does, inside-leaves, turns-local, try-local}
use Rattle.rx_control.proofs.Steps.{leaves-by}
use Rattle.rx_control.proofs.control.Control.step.Goals as goal

pub at_hand-stmt-requires : goal.at_hand-stmt-requires
at_hand-stmt-requires c =
    let q = c.requires.stands in
    let e = rw c.in-Some-Seq.field-0-is at c.in-Some-Seq.ensures in
    let b = at-top c.args.script.now c.args.self.now q.0 e.0 (Seq c.in-Some-Seq.block c.in-Some-Seq.next c.in-Some-Seq.part) e.1 q.1 in
    let r = calm-seq c.args.script.now c.args.self.now q.0 e.0 c.in-Some-Seq.block c.in-Some-Seq.next c.in-Some-Seq.part b in
    let a = at-statement c.args.script.now c.args.self.now q.0 e.0 c.in-Some-Seq.block c.in-Some-Seq.next c.in-Some-Seq.part r e.1 q.1 in
    (a.stmt, a.more, a.awaits)

pub make_plan-plan-requires : goal.make_plan-plan-requires
make_plan-plan-requires c =
    let q = c.requires.stands in
    let e = rw c.in-Some-Seq.field-0-is at c.in-Some-Seq.ensures in
    let b = at-top c.args.script.now c.args.self.now q.0 e.0 (Seq c.in-Some-Seq.block c.in-Some-Seq.next c.in-Some-Seq.part) e.1 q.1 in
    let r = calm-seq c.args.script.now c.args.self.now q.0 e.0 c.in-Some-Seq.block c.in-Some-Seq.next c.in-Some-Seq.part b in
    let a = at-statement c.args.script.now c.args.self.now q.0 e.0 c.in-Some-Seq.block c.in-Some-Seq.next c.in-Some-Seq.part r e.1 q.1 in
    (a.stmt, c.at_hand-stmt.ensures a.stmt a.more a.awaits)

pub carry_out-requires-clause-due : goal.carry_out-requires-clause-due
carry_out-requires-clause-due c =
    let q = c.requires.stands in
    let e = rw c.in-Some-Seq.field-0-is at c.in-Some-Seq.ensures in
    let b = at-top c.args.script.now c.args.self.now q.0 e.0 (Seq c.in-Some-Seq.block c.in-Some-Seq.next c.in-Some-Seq.part) e.1 q.1 in
    let r = calm-seq c.args.script.now c.args.self.now q.0 e.0 c.in-Some-Seq.block c.in-Some-Seq.next c.in-Some-Seq.part b in
    let a = at-statement c.args.script.now c.args.self.now q.0 e.0 c.in-Some-Seq.block c.in-Some-Seq.next c.in-Some-Seq.part r e.1 q.1 in
    let y = path_of c.args.self.now.base e.0 ++ option_to_list c.in-Some-Seq.part in
    let rest = seq (More a.more y (suc c.in-Some-Seq.next) ∷ a.others) in
    let d = stmt_does c.args.self.now.vars c.args.here.0 a.stmt (at y c.in-Some-Seq.next) rest in
    let u : Due c.args.script.now c.args.self.now q.0 e.0 c.in-Some-Seq.block c.in-Some-Seq.next c.in-Some-Seq.part c.make_plan-plan.result = record { front = a; act = d; is = c.make_plan-plan.ensures a.stmt (c.at_hand-stmt.ensures a.stmt a.more a.awaits) (at y c.in-Some-Seq.next) rest } in
    (q.0, e.0, u)

pub returns-in-Some-Seq-clause-ok : goal.returns-in-Some-Seq-clause-ok
returns-in-Some-Seq-clause-ok c =
    let P : Type 0 = (t : Term) (below : List Frame) → (h : Due c.args.script.now c.args.self.now t below c.in-Some-Seq.block c.in-Some-Seq.next c.in-Some-Seq.part c.make_plan-plan.result)
    → AfterLocalStep c.args.script.now c.carry_out.new.self (lifted h.front.others h.act) in
    let Q : Type 0 = (t : Term) → StandsFor c.args.script.now c.args.self.now t → AfterLocalStep c.args.script.now c.carry_out.new.self (does c.args.self.now.vars c.args.here.0 t) in
    on-ok-then c.carry_out.result P Q c.carry_out.ensures.done (λ done t h.
    let e = rw c.in-Some-Seq.field-0-is at c.in-Some-Seq.ensures in
    let b = at-top c.args.script.now c.args.self.now t e.0 (Seq c.in-Some-Seq.block c.in-Some-Seq.next c.in-Some-Seq.part) e.1 h in
    let r = calm-seq c.args.script.now c.args.self.now t e.0 c.in-Some-Seq.block c.in-Some-Seq.next c.in-Some-Seq.part b in
    let a = at-statement c.args.script.now c.args.self.now t e.0 c.in-Some-Seq.block c.in-Some-Seq.next c.in-Some-Seq.part r e.1 h in
    let y = path_of c.args.self.now.base e.0 ++ option_to_list c.in-Some-Seq.part in
    let rest = seq (More a.more y (suc c.in-Some-Seq.next) ∷ a.others) in
    let d = stmt_does c.args.self.now.vars c.args.here.0 a.stmt (at y c.in-Some-Seq.next) rest in
    let u : Due c.args.script.now c.args.self.now t e.0 c.in-Some-Seq.block c.in-Some-Seq.next c.in-Some-Seq.part c.make_plan-plan.result = record { front = a; act = d; is = c.make_plan-plan.ensures a.stmt (c.at_hand-stmt.ensures a.stmt a.more a.awaits) (at y c.in-Some-Seq.next) rest } in
    leaves-by c.args.script.now c.carry_out.new.self (does c.args.self.now.vars c.args.here.0 t) (lifted a.others d)
    (stmt-does c.args.script.now c.args.self.now t e.0 c.in-Some-Seq.block c.in-Some-Seq.next c.in-Some-Seq.part a c.args.self.now.vars c.args.here.0) (done t e.0 u))

pub returns-in-Some-Held-clause-ok : goal.returns-in-Some-Held-clause-ok
returns-in-Some-Held-clause-ok c t h =
    let e = rw c.in-Some-Held.field-0-is at c.in-Some-Held.ensures in
    let a = at-top c.args.script.now c.args.self.now t e.0 Held e.1 h in
    leaves-by c.args.script.now c.args.self.now (does c.args.self.now.vars c.args.here.0 t) Releases
    (waiting-does c.args.script.now c.args.self.now t e.0 (calm-held c.args.script.now c.args.self.now t e.0 a) a c.args.self.now.vars c.args.here.0) tt

pub returns-in-Some-Body-clause-ok : goal.returns-in-Some-Body-clause-ok
returns-in-Some-Body-clause-ok c t h =
    let e = rw c.in-Some-Body.field-0-is at c.in-Some-Body.ensures in
    let a = at-top c.args.script.now c.args.self.now t e.0 Body e.1 h in
    inside-leaves c.args.script.now c.args.self.now c.args.self.now t e.0 a c.args.self.now.vars c.args.here.0

pub returns-in-Some-Seq-clause-other : goal.returns-in-Some-Seq-clause-other
returns-in-Some-Seq-clause-other c t h n =
    let e = rw c.in-Some-Seq.field-0-is at c.in-Some-Seq.ensures in
    let b = at-top c.args.script.now c.args.self.now t e.0 (Seq c.in-Some-Seq.block c.in-Some-Seq.next c.in-Some-Seq.part) e.1 h in
    let r = calm-seq c.args.script.now c.args.self.now t e.0 c.in-Some-Seq.block c.in-Some-Seq.next c.in-Some-Seq.part b in
    let a = at-statement c.args.script.now c.args.self.now t e.0 c.in-Some-Seq.block c.in-Some-Seq.next c.in-Some-Seq.part r e.1 h in
    let y = path_of c.args.self.now.base e.0 ++ option_to_list c.in-Some-Seq.part in
    let rest = seq (More a.more y (suc c.in-Some-Seq.next) ∷ a.others) in
    let d = stmt_does c.args.self.now.vars c.args.here.0 a.stmt (at y c.in-Some-Seq.next) rest in
    let k = asks c.args.script.now c.make_plan-plan.result c.args.self.now.vars (at y c.in-Some-Seq.next) rest d (c.make_plan-plan.ensures a.stmt (c.at_hand-stmt.ensures a.stmt a.more a.awaits) (at y c.in-Some-Seq.next) rest)
    (λ i. n (ap next_of (stmt-does c.args.script.now c.args.self.now t e.0 c.in-Some-Seq.block c.in-Some-Seq.next c.in-Some-Seq.part a c.args.self.now.vars c.args.here.0) ∙ next-lifted a.others d ∙ i)) in
    c.carry_out.ensures.asks k.0 k.1

pub returns-in-Some-Turns-clause-other : goal.returns-in-Some-Turns-clause-other
returns-in-Some-Turns-clause-other c t h n =
    let e = rw c.in-Some-Turns.field-0-is at c.in-Some-Turns.ensures in
    let a = at-top c.args.script.now c.args.self.now t e.0 (Turns c.in-Some-Turns.body c.in-Some-Turns.turn c.in-Some-Turns.times) e.1 h in
    absurd (n (turns-local c.args.script.now c.args.self.now t e.0 c.in-Some-Turns.body c.in-Some-Turns.turn c.in-Some-Turns.times a c.args.self.now.vars c.args.here.0))

pub returns-in-Some-Try-clause-other : goal.returns-in-Some-Try-clause-other
returns-in-Some-Try-clause-other c t h n =
    let e = rw c.in-Some-Try.field-0-is at c.in-Some-Try.ensures in
    let a = at-top c.args.script.now c.args.self.now t e.0 (Try c.in-Some-Try.dead_only c.in-Some-Try.handler) e.1 h in
    absurd (n (try-local c.args.script.now c.args.self.now t e.0 c.in-Some-Try.dead_only c.in-Some-Try.handler a c.args.self.now.vars c.args.here.0))
