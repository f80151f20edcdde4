use Rattle.std.proofs.Common.{◌≡◌, ◌∙◌, ℕ, ◌≤◌, ap, sym, subst, arith, length, take, Bool, add-one}
use Rattle.std.proofs.Math.Seq.{take-length}
use Rattle.rx_history.specs.Setups.{given}
use Rattle.rx_history.specs.Events.{events_of}
use Rattle.rx_kills.specs.Deaths.{AreDeaths}
use Rattle.rx_kills.proofs.Dying.{take-next, length-front}
use Rattle.rx_verify.specs.Inside.Passing.{PassIs, AfterEntry}
use Rattle.rx_verify.proofs.verifying.first_flaw.Goals as goal

pub loop-i-init : goal.loop-i-init
loop-i-init g c = record { passed = c.requires.stands; deaths = c.requires.deaths }

pub admits-requires-clause-stands : goal.admits-requires-clause-stands
admits-requires-clause-stands g c = c.loop-i.invariant.passed

pub loop-i-preserved : goal.loop-i-preserved
loop-i-preserved g c =
    let S = g.L.FinishLedger.stands in
    let U = given c.args.history.now.setup in
    let es = c.args.history.now.entries in
    let js = events_of c.args.journals.now in
    let i = c.loop-i.i in
    let next = subst (λ (b : Bool). AfterEntry S c.args.program.now.script U es js i c.admits.new.audit c.admits.new.players b) c.if-not-branch.false c.in_ok-admits.ensures in
    let low : i ≤ length es = omega arith in
    let front = sym (take-next es i c.item.result.now c.item.ensures) ∙ ap (λ n. take n es) (sym (add-one i)) in
    record {
      passed = subst (λ (n : ℕ). PassIs S c.args.program.now.script U es js n c.admits.new.audit c.admits.new.players) (sym (add-one i)) next;
      deaths = subst (λ l. AreDeaths l c.note_death.new.deaths) front (c.note_death.ensures (take i es) (length-front es i low) c.loop-i.invariant.deaths);
    }

pub returns-clause-flaw : goal.returns-clause-flaw
returns-clause-flaw g c =
    let done = c.loop-i-test.false in
    let most = c.loop-i.auto.i-end in
    let end = c.len-i-end.ensures in
    let all : c.loop-i.i ≡ length c.args.history.now.entries = omega (arith, done, most, end) in
    subst (λ (n : ℕ). PassIs g.L.FinishLedger.stands c.args.program.now.script (given c.args.history.now.setup) c.args.history.now.entries (events_of c.args.journals.now) n c.loop-i.audit c.loop-i.players) all c.loop-i.invariant.passed

pub returns-clause-deaths : goal.returns-clause-deaths
returns-clause-deaths g c = λ e.
    let done = c.loop-i-test.false in
    let most = c.loop-i.auto.i-end in
    let end = c.len-i-end.ensures in
    let es = c.args.history.now.entries in
    let all : c.loop-i.i ≡ length es = omega (arith, done, most, end) in
    subst (λ l. AreDeaths l c.loop-i.deaths) (ap (λ n. take n es) all ∙ take-length es) c.loop-i.invariant.deaths
