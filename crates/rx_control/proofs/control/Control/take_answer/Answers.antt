use Rattle.std.proofs.Common.{◌≡◌, suc, ◌∷◌, ◌++◌, Option, Some, None, refl, ap, sym, ◌∙◌, subst, Result, Ok, Err, option_to_list}
use Rattle.std.proofs.lemmas.Option.{none-some}
use Rattle.rx_rules.proofs.Common.{Fault, Value, Then, Fails, answered, answer_of, receives, vars_after}
use Rattle.rx_control.specs.Levels.{More, term_of}
use Rattle.rx_control.specs.declared.frame.Frame.TheVariants.{Seq}
use Rattle.rx_control.specs.declared.control.Control.{Control}
use Rattle.rx_control.specs.Stands.{path_of, StandsFor}
use Rattle.rx_control.specs.Inside.Front.{name_in}
use Rattle.rx_control.proofs.Standing.{at-statement, settled-stands}
use Rattle.rx_control.proofs.Steps.{went, whole-stands}
use Rattle.rx_control.proofs.Carried.{statement-begin}
use Rattle.rx_control.proofs.Answering.{answered-err, receives-front, fails-front, goes-front}
use Rattle.rx_control.proofs.control.Control.take_answer.Goals as goal

pub at_hand-stmt-requires : goal.at_hand-stmt-requires
at_hand-stmt-requires c =
    let e = c.in-Some.ensures in
    let a = at-statement c.args.script.now c.args.self.now c.requires.0 e.1.0 c.in-Some.block c.in-Some.next c.in-Some.part e.0 e.1.1 c.requires.1 in
    let x = path_of c.args.self.now.base e.1.0 ++ option_to_list c.in-Some.part in
    (a.stmt, a.more, a.awaits)

pub following-after-requires : goal.following-after-requires
following-after-requires c =
    let e = c.in-Some.ensures in
    let a = at-statement c.args.script.now c.args.self.now c.requires.0 e.1.0 c.in-Some.block c.in-Some.next c.in-Some.part e.0 e.1.1 c.requires.1 in
    let x = path_of c.args.self.now.base e.1.0 ++ option_to_list c.in-Some.part in
    (a.stmt, a.more, a.awaits)

pub settle-requires : goal.settle-requires
settle-requires c =
    let e = c.in-Some.ensures in
    let a = at-statement c.args.script.now c.args.self.now c.requires.0 e.1.0 c.in-Some.block c.in-Some.next c.in-Some.part e.0 e.1.1 c.requires.1 in
    let x = path_of c.args.self.now.base e.1.0 ++ option_to_list c.in-Some.part in
    let w = went c.args.script.now c.args.self.now c.requires.0 e.1.0 c.go_on.new.frames.items c.in-Some.block c.in-Some.next c.following-after.result c.in-Some.part a (c.go_on.ensures.items e.1.0 (Seq c.in-Some.block c.in-Some.next c.in-Some.part) e.1.1) c.following-after.ensures in
    let ls = More a.more x (suc c.in-Some.next) ∷ a.others in
    (c.args.self.now.base, ls, w.stands)

pub returns-in_ok-faults-in-Err-clause-ok : goal.returns-in_ok-faults-in-Err-clause-ok
returns-in_ok-faults-in-Err-clause-ok c t y h b =
    let e = c.in-Some.ensures in
    let a = at-statement c.args.script.now c.args.self.now t e.1.0 c.in-Some.block c.in-Some.next c.in-Some.part e.0 e.1.1 h in
    let x = path_of c.args.self.now.base e.1.0 ++ option_to_list c.in-Some.part in
    let ls = More (Then a.stmt a.more) x c.in-Some.next ∷ a.others in
    let d : Control = record { base = c.args.self.now.base; frames = c.unwind.new.frames; raised = Some c.in_ok-faults-in-Err.faults; vars = c.args.self.now.vars } in
    let P : Result (Option Value) Fault → Type 0 = λ r. StandsFor c.args.script.now d (answered (answer_of (receives t) r) t) × (c.args.self.now.vars ≡ vars_after (answer_of (receives t) r) c.args.self.now.vars) in
    let f = c.in_ok-faults-in-Err.ensures in
    let u : answered (answer_of (receives t) (Err c.in-Err.fault)) t ≡ term_of (Some c.in_ok-faults-in-Err.faults) ls =
    ap (λ z. answered z t) (answered-err c.in-Err.fault (receives t)) ∙ ap (answered (Fails c.in-Err.fault)) a.is ∙ fails-front c.in-Err.fault a.stmt a.more x c.in-Some.next a.others ∙ ap (λ fs. term_of (Some fs) ls) (sym f) in
    subst P (sym c.in-Err.is) (
      settled-stands c.args.script.now d ls (Some c.in_ok-faults-in-Err.faults) _ refl (c.unwind.ensures c.args.script.now c.args.self.now.base ls c.in_ok-faults-in-Err.faults (whole-stands c.args.script.now c.args.self.now t e.1.0 c.in-Some.block c.in-Some.next c.in-Some.part a)) u,
      sym (ap (λ z. vars_after z c.args.self.now.vars) (answered-err c.in-Err.fault (receives t))),
    )

pub returns-in_ok-receive-in-Ok-clause-ok : goal.returns-in_ok-receive-in-Ok-clause-ok
returns-in_ok-receive-in-Ok-clause-ok c t y h b =
    let e = c.in-Some.ensures in
    let a = at-statement c.args.script.now c.args.self.now t e.1.0 c.in-Some.block c.in-Some.next c.in-Some.part e.0 e.1.1 h in
    let x = path_of c.args.self.now.base e.1.0 ++ option_to_list c.in-Some.part in
    let w = went c.args.script.now c.args.self.now t e.1.0 c.go_on.new.frames.items c.in-Some.block c.in-Some.next c.following-after.result c.in-Some.part a (c.go_on.ensures.items e.1.0 (Seq c.in-Some.block c.in-Some.next c.in-Some.part) e.1.1) c.following-after.ensures in
    let ls = More a.more x (suc c.in-Some.next) ∷ a.others in
    let d : Control = record { base = c.args.self.now.base; frames = c.settle.new.frames; raised = c.args.self.now.raised; vars = c.receive.new.vars } in
    let P : Result (Option Value) Fault → Type 0 = λ r. StandsFor c.args.script.now d (answered (answer_of (receives t) r) t) × (c.receive.new.vars ≡ vars_after (answer_of (receives t) r) c.args.self.now.vars) in
    let o : receives t ≡ name_in c.receiver.result = ap receives a.is ∙ receives-front a.stmt a.more x c.in-Some.next a.others ∙ c.receiver.ensures c.args.script.now a.stmt (c.at_hand-stmt.ensures a.stmt a.more a.awaits) in
    subst P (sym c.in-Ok.is) (
      settled-stands c.args.script.now d ls None _ e.0 (c.settle.ensures c.args.self.now.base ls w.stands) (ap (answered (answer_of (receives t) (Ok c.in-Ok.value))) a.is ∙ goes-front c.in-Ok.value (receives t) a.stmt a.more x c.in-Some.next a.others),
      c.in_ok-receive-in-Ok.ensures.ok ∙ sym (ap (λ o. vars_after (answer_of o (Ok c.in-Ok.value)) c.args.self.now.vars) o),
    )

pub returns-in-None-clause-ok : goal.returns-in-None-clause-ok
returns-in-None-clause-ok c t y h b = absurd (none-some y (sym (c.in-None.ensures c.args.script.now t h) ∙ b))

pub returns-in_ok-faults-in-Err-clause-other : goal.returns-in_ok-faults-in-Err-clause-other
returns-in_ok-faults-in-Err-clause-other c t h b =
    let e = c.in-Some.ensures in
    let a = at-statement c.args.script.now c.args.self.now t e.1.0 c.in-Some.block c.in-Some.next c.in-Some.part e.0 e.1.1 h in
    absurd (none-some _ (sym b ∙ statement-begin c.args.script.now c.args.self.now t e.1.0 c.in-Some.block c.in-Some.next c.in-Some.part a))

pub returns-in_ok-receive-in-Ok-clause-other : goal.returns-in_ok-receive-in-Ok-clause-other
returns-in_ok-receive-in-Ok-clause-other c t h b =
    let e = c.in-Some.ensures in
    let a = at-statement c.args.script.now c.args.self.now t e.1.0 c.in-Some.block c.in-Some.next c.in-Some.part e.0 e.1.1 h in
    absurd (none-some _ (sym b ∙ statement-begin c.args.script.now c.args.self.now t e.1.0 c.in-Some.block c.in-Some.next c.in-Some.part a))
