use Rattle.std.proofs.Common.{◌∙◌, ap, sym, subst, arith, Bool, Option, Some, None}
use Rattle.rx_rules.specs.declared.entries.Entry.{Entry}
use Rattle.rx_finish.specs.declared.ledger.Caller.{Caller}
use Rattle.rx_history.specs.Setups.{given}
use Rattle.rx_history.specs.Events.{events_of}
use Rattle.rx_verify.specs.Reaching.{Reached}
use Rattle.rx_verify.specs.Inside.Granting.{AdmittingOf}
use Rattle.rx_verify.proofs.Passing as passing
use Rattle.rx_verify.proofs.verifying.admits.Goals as goal

pub returns-then-has_ended : goal.returns-then-has_ended
returns-then-has_ended g c =
    let S = g.L.FinishLedger.stands in
    let U = given c.args.history.now.setup in
    let es = c.args.history.now.entries in
    let i = c.args.i in
    let p = c.requires.stands in
    passing.over S c.args.program.now.script U es (events_of c.args.journals.now) i c.requires.inside c.seats_tell.ensures c.parts_may_follow.ensures c.args.audit.now c.args.players.now p
    (sym c.has_ended.ensures.so ∙ c.if-has_ended.true)

pub reach-requires-clause-few : goal.reach-requires-clause-few
reach-requires-clause-few g c =
    let x = c.checked.ensures in
    passing.number_is_less g.L.FinishLedger.stands c.args.program.now.script (given c.args.history.now.setup) c.args.history.now.entries (events_of c.args.journals.now) c.args.i c.made_entries_are_bounded.ensures c.args.audit.now c.args.players.now c.requires.stands x.0 x.1 x.6 c.requires.inside

pub reach-requires-clause-awaits : goal.reach-requires-clause-awaits
reach-requires-clause-awaits g c =
    let x = c.checked.ensures in
    let U = given c.args.history.now.setup in
    let es = c.args.history.now.entries in
    let at = c.item.ensures ∙ ap (λ (e : Entry). Some e) c.in-Step.is in
    (x.0, U, es, passing.awaits g.L.FinishLedger.stands c.args.program.now.script U es (events_of c.args.journals.now) c.args.i c.in-Step.task c.in-Step.act c.in-Step.batch at c.requires.inside c.args.audit.now c.args.players.now c.requires.stands x.0 x.1)

pub returns-in_default : goal.returns-in_default
returns-in_default g c =
    let U = given c.args.history.now.setup in
    let es = c.args.history.now.entries in
    let js = events_of c.args.journals.now in
    let shape = c.args.program.now.script in
    let at = c.item.ensures ∙ ap (λ (e : Entry). Some e) c.in-Step.is in
    let none : Reached shape js c.args.i c.args.players.now c.reach.new.self c.in-Step.task c.in-Step.act c.in-Step.batch None = subst (λ (o : Option Caller). Reached shape js c.args.i c.args.players.now c.reach.new.self c.in-Step.task c.in-Step.act c.in-Step.batch o) c.in_default.is c.in_ok-who-in-Step.ensures in
    passing.none_asks g.L.FinishLedger.stands shape U es js c.args.i c.in-Step.task c.in-Step.act c.in-Step.batch at c.requires.inside c.args.audit.now c.args.players.now c.requires.stands c.seats_tell.ensures c.reach.new.self none

pub grant-requires : goal.grant-requires
grant-requires g c =
    let S = g.L.FinishLedger.stands in
    let U = given c.args.history.now.setup in
    let es = c.args.history.now.entries in
    let js = events_of c.args.journals.now in
    let shape = c.args.program.now.script in
    let x = c.checked.ensures in
    let p = c.requires.stands in
    let at = c.item.ensures ∙ ap (λ (e : Entry). Some e) c.in-Step.is in
    let one : Reached shape js c.args.i c.args.players.now c.reach.new.self c.in-Step.task c.in-Step.act c.in-Step.batch (Some c.in-Some.who) = subst (λ (o : Option Caller). Reached shape js c.args.i c.args.players.now c.reach.new.self c.in-Step.task c.in-Step.act c.in-Step.batch o) c.in-Some.is c.in_ok-who-in-Step.ensures in
    passing.asks S shape U es js c.args.i c.in-Step.task c.in-Step.act c.in-Step.batch at c.requires.inside c.args.audit.now c.args.players.now p c.in-Some.who c.reach.new.self one
    c.made_entries_are_bounded.ensures x.0 x.1 x.6 (sym c.has_ended.ensures.so ∙ c.if-has_ended.false)

pub returns-then-not-branch : goal.returns-then-not-branch
returns-then-not-branch g c =
    let S = g.L.FinishLedger.stands in
    let U = given c.args.history.now.setup in
    let es = c.args.history.now.entries in
    let js = events_of c.args.journals.now in
    let shape = c.args.program.now.script in
    let x = c.checked.ensures in
    let at = c.item.ensures ∙ ap (λ (e : Entry). Some e) c.in-Step.is in
    let one : Reached shape js c.args.i c.args.players.now c.reach.new.self c.in-Step.task c.in-Step.act c.in-Step.batch (Some c.in-Some.who) = subst (λ (o : Option Caller). Reached shape js c.args.i c.args.players.now c.reach.new.self c.in-Step.task c.in-Step.act c.in-Step.batch o) c.in-Some.is c.in_ok-who-in-Step.ensures in
    let refused = subst (λ (b : Bool). AdmittingOf S c.args.audit.now c.grant.new.self c.in-Some.who c.in-Step.act b) c.if-not-branch.true c.in_ok-grant-in-Step.ensures in
    passing.none_granted S shape U es js c.args.i c.in-Step.task c.in-Step.act c.in-Step.batch at c.requires.inside c.args.audit.now c.args.players.now c.requires.stands c.in-Some.who c.reach.new.self one c.seats_tell.ensures c.parts_may_follow.ensures x.0 x.1 c.grant.new.self refused

pub go_on-requires-clause-less : goal.go_on-requires-clause-less
go_on-requires-clause-less g c =
    let x = c.checked.ensures in
    let few = passing.number_is_less g.L.FinishLedger.stands c.args.program.now.script (given c.args.history.now.setup) c.args.history.now.entries (events_of c.args.journals.now) c.args.i c.made_entries_are_bounded.ensures c.args.audit.now c.args.players.now c.requires.stands x.0 x.1 x.6 c.requires.inside in
    omega (arith, few)

pub go_on-requires-clause-ready : goal.go_on-requires-clause-ready
go_on-requires-clause-ready g c =
    let S = g.L.FinishLedger.stands in
    let U = given c.args.history.now.setup in
    let es = c.args.history.now.entries in
    let js = events_of c.args.journals.now in
    let shape = c.args.program.now.script in
    let x = c.checked.ensures in
    let at = c.item.ensures ∙ ap (λ (e : Entry). Some e) c.in-Step.is in
    let one : Reached shape js c.args.i c.args.players.now c.reach.new.self c.in-Step.task c.in-Step.act c.in-Step.batch (Some c.in-Some.who) = subst (λ (o : Option Caller). Reached shape js c.args.i c.args.players.now c.reach.new.self c.in-Step.task c.in-Step.act c.in-Step.batch o) c.in-Some.is c.in_ok-who-in-Step.ensures in
    let said = subst (λ (b : Bool). AdmittingOf S c.args.audit.now c.grant.new.self c.in-Some.who c.in-Step.act b) c.if-not-branch.false c.in_ok-grant-in-Step.ensures in
    passing.granted S shape U es js c.args.i c.in-Step.task c.in-Step.act c.in-Step.batch at c.requires.inside c.args.audit.now c.args.players.now c.requires.stands c.in-Some.who c.reach.new.self one x.0 x.1 c.grant.new.self said

pub returns-else-not-branch : goal.returns-else-not-branch
returns-else-not-branch g c =
    let S = g.L.FinishLedger.stands in
    let U = given c.args.history.now.setup in
    let es = c.args.history.now.entries in
    let js = events_of c.args.journals.now in
    let shape = c.args.program.now.script in
    let x = c.checked.ensures in
    let at = c.item.ensures ∙ ap (λ (e : Entry). Some e) c.in-Step.is in
    let one : Reached shape js c.args.i c.args.players.now c.reach.new.self c.in-Step.task c.in-Step.act c.in-Step.batch (Some c.in-Some.who) = subst (λ (o : Option Caller). Reached shape js c.args.i c.args.players.now c.reach.new.self c.in-Step.task c.in-Step.act c.in-Step.batch o) c.in-Some.is c.in_ok-who-in-Step.ensures in
    let said = subst (λ (b : Bool). AdmittingOf S c.args.audit.now c.grant.new.self c.in-Some.who c.in-Step.act b) c.if-not-branch.false c.in_ok-grant-in-Step.ensures in
    passing.made_answer S shape U es js c.args.i c.in-Step.task c.in-Step.act c.in-Step.batch at c.requires.inside c.args.audit.now c.args.players.now c.requires.stands c.in-Some.who c.reach.new.self one c.seats_tell.ensures x.0 x.1 c.grant.new.self c.go_on.new.self c.go_on.result said c.go_on.ensures

pub root-requires : goal.root-requires
root-requires g c =
    let x = c.checked.ensures in
    passing.goes g.L.FinishLedger.stands c.args.program.now.script (given c.args.history.now.setup) c.args.history.now.entries (events_of c.args.journals.now) c.args.i c.made_entries_are_bounded.ensures c.args.audit.now c.args.players.now c.requires.stands x.0 x.1 x.6 (sym c.has_ended.ensures.so ∙ c.if-has_ended.false)

pub pass-requires : goal.pass-requires
pass-requires g c =
    let x = c.checked.ensures in
    passing.goes g.L.FinishLedger.stands c.args.program.now.script (given c.args.history.now.setup) c.args.history.now.entries (events_of c.args.journals.now) c.args.i c.made_entries_are_bounded.ensures c.args.audit.now c.args.players.now c.requires.stands x.0 x.1 x.6 (sym c.has_ended.ensures.so ∙ c.if-has_ended.false)

pub pass-requires-in-Join : goal.pass-requires-in-Join
pass-requires-in-Join g c =
    let x = c.checked.ensures in
    passing.goes g.L.FinishLedger.stands c.args.program.now.script (given c.args.history.now.setup) c.args.history.now.entries (events_of c.args.journals.now) c.args.i c.made_entries_are_bounded.ensures c.args.audit.now c.args.players.now c.requires.stands x.0 x.1 x.6 (sym c.has_ended.ensures.so ∙ c.if-has_ended.false)

pub returns-in-Root : goal.returns-in-Root
returns-in-Root g c =
    let at = c.item.ensures ∙ ap (λ (e : Entry). Some e) c.in-Root.is in
    passing.quiet_answer g.L.FinishLedger.stands c.args.program.now.script (given c.args.history.now.setup) c.args.history.now.entries (events_of c.args.journals.now) c.args.i _ at c.requires.inside c.seats_tell.ensures c.parts_may_follow.ensures c.players_stay.ensures tt c.args.audit.now c.root.new.self c.args.players.now c.root.result c.requires.stands c.root.ensures

pub returns-in-Death : goal.returns-in-Death
returns-in-Death g c =
    let at = c.item.ensures ∙ ap (λ (e : Entry). Some e) c.in-Death.is in
    passing.quiet_entry g.L.FinishLedger.stands c.args.program.now.script (given c.args.history.now.setup) c.args.history.now.entries (events_of c.args.journals.now) c.args.i _ at c.requires.inside c.seats_tell.ensures c.parts_may_follow.ensures c.players_stay.ensures tt c.args.audit.now c.pass.new.self c.args.players.now c.pass.result c.requires.stands c.pass.ensures

pub returns-in-Join : goal.returns-in-Join
returns-in-Join g c =
    let at = c.item.ensures ∙ ap (λ (e : Entry). Some e) c.in-Join.is in
    passing.quiet_entry g.L.FinishLedger.stands c.args.program.now.script (given c.args.history.now.setup) c.args.history.now.entries (events_of c.args.journals.now) c.args.i _ at c.requires.inside c.seats_tell.ensures c.parts_may_follow.ensures c.players_stay.ensures tt c.args.audit.now c.pass-in-Join.new.self c.args.players.now c.pass-in-Join.result c.requires.stands c.pass-in-Join.ensures
