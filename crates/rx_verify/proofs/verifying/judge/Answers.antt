use Rattle.std.proofs.Common.{◌∙◌, ℕ, List, Option, sym, subst, length}
use Rattle.std.proofs.Math.Seq.{take-length}
use Rattle.std.proofs.lemmas.Bool.{true≢false}
use Rattle.rx_rules.specs.declared.entries.Entry.{Entry}
use Rattle.rx_history.specs.Setups.{given}
use Rattle.rx_history.specs.Events.{events_of}
use Rattle.rx_verify.specs.Inside.Admits.{AuditIs}
use Rattle.rx_verify.specs.Inside.Passing.{FirstFlaw}
use Rattle.rx_verify.proofs.Passing.{part_here}
use Rattle.rx_verify.proofs.verifying.judge.Goals as goal
use Rattle.rx_control.proofs.Words.{ok-then}

pub returns-in-Some : goal.returns-in-Some
returns-in-Some g c = λ code st.
    let S = g.L.FinishLedger.stands in
    let U = given c.args.history.now.setup in
    let es = c.args.history.now.entries in
    let js = events_of c.args.journals.now in
    let flaw = subst (λ (o : Option ℕ). FirstFlaw S c.args.program.now.script U es js c.first_flaw.new.audit c.first_flaw.new.players o) c.in-Some.is c.in_ok-flaw.ensures.flaw in
    let both = flaw.1 code st in
    (flaw.0, λ m le. (c.parts_begin.ensures code U es js).1 m c.in-Some.number le both.0, both.1)

pub returns-then-not-has_ended : goal.returns-then-not-has_ended
returns-then-not-has_ended g c = λ code st.
    let S = g.L.FinishLedger.stands in
    let U = given c.args.history.now.setup in
    let es = c.args.history.now.entries in
    let js = events_of c.args.journals.now in
    let pass = subst (λ (o : Option ℕ). FirstFlaw S c.args.program.now.script U es js c.first_flaw.new.audit c.first_flaw.new.players o) c.in-None.is c.in_ok-flaw.ensures.flaw in
    let audit = subst (λ (xs : List Entry). AuditIs S U xs c.first_flaw.new.audit) (take-length es) pass.audit in
    let part = part_here S c.args.program.now.script U es js (length es) c.seats_tell.ensures c.first_flaw.new.audit c.first_flaw.new.players pass code st in
    (λ n le. (c.parts_begin.ensures code U es js).1 n (length es) le part, λ last. true≢false (sym ((c.has_ended.ensures.ends U es audit).1 last) ∙ c.if-not-has_ended.true))

pub finish-requires : goal.finish-requires
finish-requires g c =
    let S = g.L.FinishLedger.stands in
    let U = given c.args.history.now.setup in
    let es = c.args.history.now.entries in
    let js = events_of c.args.journals.now in
    let x = c.checked.ensures in
    let pass = subst (λ (o : Option ℕ). FirstFlaw S c.args.program.now.script U es js c.first_flaw.new.audit c.first_flaw.new.players o) c.in-None.is c.in_ok-flaw.ensures.flaw in
    (x.0, U, es, x.1, pass.players x.0 x.1)

pub returns : goal.returns
returns g c =
    let S = g.L.FinishLedger.stands in
    let U = given c.args.history.now.setup in
    let es = c.args.history.now.entries in
    let js = events_of c.args.journals.now in
    let pass = subst (λ (o : Option ℕ). FirstFlaw S c.args.program.now.script U es js c.first_flaw.new.audit c.first_flaw.new.players o) c.in-None.is c.in_ok-flaw.ensures.flaw in
    let audit = subst (λ (xs : List Entry). AuditIs S U xs c.first_flaw.new.audit) (take-length es) pass.audit in
    let last = (c.has_ended.ensures.ends U es audit).0 c.if-not-has_ended.false in
    ok-then c.judge_events.result _ _ c.judge_events.ensures (λ v told code st.
    let part = part_here S c.args.program.now.script U es js (length es) c.seats_tell.ensures c.first_flaw.new.audit c.first_flaw.new.players pass code st in
    let marks = c.in_ok-marks-in-None.ensures.tell code U es st (pass.players code st) in
    c.events_decide.ensures code U es js _ v (λ n le. (c.parts_begin.ensures code U es js).1 n (length es) le part) last c.requires.one_each marks told)
