use Rattle.std.proofs.Common.{◌≡◌, List, refl, sym, subst}
use Rattle.std.proofs.lemmas.Result.{IfOk-weaker}
use Rattle.rx_rules.specs.declared.entries.Act.{Act}
use Rattle.rx_rules.specs.declared.entries.Act.TheVariants.{Open, At, Spawn, Print}
use Rattle.rx_rules.proofs.Common.{Fault, Term, does}
use Rattle.rx_syntax.specs.Shape.{Shape}
use Rattle.rx_control.specs.declared.control.Control.{Control}
use Rattle.rx_verify.specs.Inside.Requests.{AfterAct, IsGranted}
use Rattle.rx_verify.proofs.AdmitRequests.{after_path, after_wait, after_release, told_wait}
use Rattle.rx_verify.proofs.requests.answer.Goals as goal

pub returns-in-Open : goal.returns-in-Open
returns-in-Open c = IfOk-weaker c.pass.result _ _ (λ b h t here s a.
    let act = Open c.in-Open.scope c.in-Open.parent c.in-Open.path in
    subst (λ (v : Act). AfterAct c.args.p.now.script c.args.control.now c.pass.new.control here t v b) (sym c.in-Open.is)
    (after_path c.args.p.now.script c.args.control.now c.pass.new.control here t act c.in-Open.path b (λ e. e, λ e. e) refl (λ n x e. let f : ⊥ = cc in f) (h t s))) c.pass.ensures

pub returns-in-At : goal.returns-in-At
returns-in-At c = IfOk-weaker c.pass-in-At.result _ _ (λ b h t here s a.
    let act = At c.in-At.from c.in-At.to c.in-At.scope c.in-At.parent c.in-At.callee c.in-At.path in
    subst (λ (v : Act). AfterAct c.args.p.now.script c.args.control.now c.pass-in-At.new.control here t v b) (sym c.in-At.is)
    (after_path c.args.p.now.script c.args.control.now c.pass-in-At.new.control here t act c.in-At.path b (λ e. e, λ e. e) refl (λ n x e. let f : ⊥ = cc in f) (h t s))) c.pass-in-At.ensures

pub returns-in-Spawn : goal.returns-in-Spawn
returns-in-Spawn c = IfOk-weaker c.pass-in-Spawn.result _ _ (λ b h t here s a.
    let act = Spawn c.in-Spawn.child c.in-Spawn.scope c.in-Spawn.from c.in-Spawn.to c.in-Spawn.path in
    subst (λ (v : Act). AfterAct c.args.p.now.script c.args.control.now c.pass-in-Spawn.new.control here t v b) (sym c.in-Spawn.is)
    (after_path c.args.p.now.script c.args.control.now c.pass-in-Spawn.new.control here t act c.in-Spawn.path b (λ e. e, λ e. e) refl (λ n x e. let f : ⊥ = cc in f) (h t s))) c.pass-in-Spawn.ensures

pub returns-in-Print : goal.returns-in-Print
returns-in-Print c = IfOk-weaker c.pass-in-Print.result _ _ (λ b h t here s a.
    let act = Print c.in-Print.value c.in-Print.path in
    subst (λ (v : Act). AfterAct c.args.p.now.script c.args.control.now c.pass-in-Print.new.control here t v b) (sym c.in-Print.is)
    (after_path c.args.p.now.script c.args.control.now c.pass-in-Print.new.control here t act c.in-Print.path b (λ e. e, λ e. e) refl (λ n x e. let f : ⊥ = cc in f) (h t s))) c.pass-in-Print.ensures

pub returns-in-Wait : goal.returns-in-Wait
returns-in-Wait c = IfOk-weaker c.wait.result _ _ (λ b h t here s a.
    let waits = told_wait here (does c.args.control.now.vars here.0 t) c.args.act.now c.in-Wait.scope c.in-Wait.thrown c.in-Wait.is a in
    subst (λ (v : Act). AfterAct c.args.p.now.script c.args.control.now c.wait.new.control here t v b) (sym c.in-Wait.is)
    (after_wait c.args.p.now.script c.args.control.now c.wait.new.control here t c.in-Wait.scope waits.0 c.in-Wait.thrown b waits.1 (h t here waits.0 s waits.1))) c.wait.ensures

-- what a control stands for with these faults
abbrev After : Shape → Control → Control → Term → List Fault → Type 0
After shape old new t faults = IsGranted shape new t faults × (new.vars ≡ old.vars)

pub returns-in_ok-resume-in-Release : goal.returns-in_ok-resume-in-Release
returns-in_ok-resume-in-Release c = λ t here s a.
    after_release c.args.p.now.script c.args.control.now c.resume.new.control here t c.args.act.now c.in-Release.scope c.in-Release.lost c.in-Release.masked c.in-Release.thrown c.in-Release.is
    (subst (λ (v : List Fault). After c.args.p.now.script c.args.control.now c.resume.new.control t v) c.in_ok-faults-in-Release.ensures (c.in_ok-resume-in-Release.ensures t s))
