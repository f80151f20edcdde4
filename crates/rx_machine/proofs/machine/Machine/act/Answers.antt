use Rattle.std.proofs.Common.{rules, ◌≡◌, w64, to_z, of_z, ap, sym, ◌∙◌}
use Rattle.rx_rules.proofs.Common.{Prints}
use Rattle.rx_machine.proofs.Requested.{told_open, told_call, told_spawn, told_wait, told_release, told_print, told_census, told_end, told_no_local, told_no_cell, on_ok, on_err, any_err}
use Rattle.rx_history.specs.Logs.{Log}
use Rattle.rx_machine.specs.declared.machine.Machine.{Machine}
use Rattle.rx_machine.proofs.Halting.{stopped, stopped-more}
use Rattle.rx_machine.proofs.machine.Machine.act.Goals as goal

pub open_finish-requires-clause-game : goal.open_finish-requires-clause-game
open_finish-requires-clause-game g c =
    let w = c.requires.game in
    let r = c.in_ok-next.ensures.next w.0 w.1 w.2 w.3 w.4 w.5 in
    (c.args.here, (w.0, w.1, w.2, r.0, w.4, r.1, told_open _ _ c.in-Book-Open.field-0 r.2 c.in-Book-Open.is (rw c.in-Book-Open.is at c.in-Book-Open.field-0-is)))

pub open_at-requires-clause-game : goal.open_at-requires-clause-game
open_at-requires-clause-game g c =
    let w = c.requires.game in
    let r = c.in_ok-next.ensures.next w.0 w.1 w.2 w.3 w.4 w.5 in
    (w.0, w.1, w.2, r.0, w.4, r.1, told_call _ _ c.in-Book-At.field-0 c.in-Book-At.to r.2 c.in-Book-At.is (rw c.in-Book-At.is at c.in-Book-At.field-0-is))

pub spawn-requires-clause-game : goal.spawn-requires-clause-game
spawn-requires-clause-game g c =
    let w = c.requires.game in
    let r = c.in_ok-next.ensures.next w.0 w.1 w.2 w.3 w.4 w.5 in
    (w.0, w.1, w.2, r.0, w.4, r.1, told_spawn _ _ c.in-Book-Spawn.field-0 c.in-Book-Spawn.to r.2 c.in-Book-Spawn.is (rw c.in-Book-Spawn.is at c.in-Book-Spawn.field-0-is))

pub wait-requires-clause-game : goal.wait-requires-clause-game
wait-requires-clause-game g c =
    let w = c.requires.game in
    let r = c.in_ok-next.ensures.next w.0 w.1 w.2 w.3 w.4 w.5 in
    (c.args.here, (w.0, w.1, w.2, r.0, w.4, r.1, told_wait _ _ c.in-Book-Wait.field-0 r.2 c.in-Book-Wait.is (rw c.in-Book-Wait.is at c.in-Book-Wait.field-0-is)))

pub release-requires-clause-game : goal.release-requires-clause-game
release-requires-clause-game g c =
    let w = c.requires.game in
    let r = c.in_ok-next.ensures.next w.0 w.1 w.2 w.3 w.4 w.5 in
    (c.args.here, (w.0, w.1, w.2, r.0, w.4, r.1, told_release _ _ c.in-Book-Release.field-0 r.2 c.in-Book-Release.is (rw c.in-Book-Release.is at c.in-Book-Release.field-0-is)))

pub print-requires-clause-game : goal.print-requires-clause-game
print-requires-clause-game g c =
    let w = c.requires.game in
    let r = c.in_ok-next.ensures.next w.0 w.1 w.2 w.3 w.4 w.5 in
    let t : to_z w64 (of_z w64 c.in-Book-Print.value) ≡ c.in-Book-Print.value = search rules in
    (c.args.here, (w.0, w.1, w.2, r.0, w.4, r.1, told_print _ _ c.in-Book-Print.field-0 c.in-Book-Print.value r.2 c.in-Book-Print.is (rw c.in-Book-Print.is at c.in-Book-Print.field-0-is) ∙ ap (λ z. Prints z) (sym t)))

pub census-requires-clause-game : goal.census-requires-clause-game
census-requires-clause-game g c =
    let w = c.requires.game in
    let r = c.in_ok-next.ensures.next w.0 w.1 w.2 w.3 w.4 w.5 in
    (c.args.here, (w.0, w.1, w.2, r.0, w.4, r.1, told_census _ _ c.in-Book-Census.field-0 r.2 c.in-Book-Census.is (rw c.in-Book-Census.is at c.in-Book-Census.field-0-is)))

pub end-requires-clause-game : goal.end-requires-clause-game
end-requires-clause-game g c =
    let w = c.requires.game in
    let r = c.in_ok-next.ensures.next w.0 w.1 w.2 w.3 w.4 w.5 in
    (c.args.p.now.script, c.args.i, (c.args.here, (w.0, w.1, w.2, r.0, w.4, r.1, told_end _ _ r.2 c.in-Done.is)))

pub unreachable-requires : goal.unreachable-requires
unreachable-requires g c =
    let w = c.requires.game in
    let r = c.in_ok-next.ensures.next w.0 w.1 w.2 w.3 w.4 w.5 in
    told_no_local _ _ r.2 c.in-Local.is

pub unreachable-requires-in-Cell : goal.unreachable-requires-in-Cell
unreachable-requires-in-Cell g c =
    let w = c.requires.game in
    let r = c.in_ok-next.ensures.next w.0 w.1 w.2 w.3 w.4 w.5 in
    told_no_cell _ _ _ r.2 c.in-Cell.is

pub returns-in-Book-Open-clause-made : goal.returns-in-Book-Open-clause-made
returns-in-Book-Open-clause-made g c = on_ok c.open_finish.result (λ h code U k q G a.
    let r = c.in_ok-next.ensures.next code U k q G a in
    h c.args.here code U k r.0 G r.1 (told_open _ _ c.in-Book-Open.field-0 r.2 c.in-Book-Open.is (rw c.in-Book-Open.is at c.in-Book-Open.field-0-is))) c.open_finish.ensures.made

pub returns-in-Book-At-clause-made : goal.returns-in-Book-At-clause-made
returns-in-Book-At-clause-made g c = on_ok c.open_at.result (λ h code U k q G a.
    let r = c.in_ok-next.ensures.next code U k q G a in
    h code U k r.0 G r.1 (told_call _ _ c.in-Book-At.field-0 c.in-Book-At.to r.2 c.in-Book-At.is (rw c.in-Book-At.is at c.in-Book-At.field-0-is))) c.open_at.ensures.made

pub returns-in-Book-Spawn-clause-made : goal.returns-in-Book-Spawn-clause-made
returns-in-Book-Spawn-clause-made g c = on_ok c.spawn.result (λ h code U k q G a.
    let r = c.in_ok-next.ensures.next code U k q G a in
    h code U k r.0 G r.1 (told_spawn _ _ c.in-Book-Spawn.field-0 c.in-Book-Spawn.to r.2 c.in-Book-Spawn.is (rw c.in-Book-Spawn.is at c.in-Book-Spawn.field-0-is))) c.spawn.ensures.made

pub returns-in-Book-Wait-clause-made : goal.returns-in-Book-Wait-clause-made
returns-in-Book-Wait-clause-made g c = on_ok c.wait.result (λ h code U k q G a.
    let r = c.in_ok-next.ensures.next code U k q G a in
    h c.args.here code U k r.0 G r.1 (told_wait _ _ c.in-Book-Wait.field-0 r.2 c.in-Book-Wait.is (rw c.in-Book-Wait.is at c.in-Book-Wait.field-0-is))) c.wait.ensures.made

pub returns-in-Book-Release-clause-made : goal.returns-in-Book-Release-clause-made
returns-in-Book-Release-clause-made g c = on_ok c.release.result (λ h code U k q G a.
    let r = c.in_ok-next.ensures.next code U k q G a in
    h c.args.here code U k r.0 G r.1 (told_release _ _ c.in-Book-Release.field-0 r.2 c.in-Book-Release.is (rw c.in-Book-Release.is at c.in-Book-Release.field-0-is))) c.release.ensures.made

pub returns-in-Book-Print-clause-made : goal.returns-in-Book-Print-clause-made
returns-in-Book-Print-clause-made g c = on_ok c.print.result (λ h code U k q G a.
    let r = c.in_ok-next.ensures.next code U k q G a in
    let t : to_z w64 (of_z w64 c.in-Book-Print.value) ≡ c.in-Book-Print.value = search rules in
    h c.args.here code U k r.0 G r.1 (told_print _ _ c.in-Book-Print.field-0 c.in-Book-Print.value r.2 c.in-Book-Print.is (rw c.in-Book-Print.is at c.in-Book-Print.field-0-is) ∙ ap (λ z. Prints z) (sym t))) c.print.ensures.made

pub returns-in-Book-Census-clause-made : goal.returns-in-Book-Census-clause-made
returns-in-Book-Census-clause-made g c = on_ok c.census.result (λ h code U k q G a.
    let r = c.in_ok-next.ensures.next code U k q G a in
    h c.args.here code U k r.0 G r.1 (told_census _ _ c.in-Book-Census.field-0 r.2 c.in-Book-Census.is (rw c.in-Book-Census.is at c.in-Book-Census.field-0-is))) c.census.ensures.made

pub returns-in-Done-clause-made : goal.returns-in-Done-clause-made
returns-in-Done-clause-made g c = on_ok c.end.result (λ h code U k q G a.
    let r = c.in_ok-next.ensures.next code U k q G a in
    h c.args.p.now.script c.args.i c.args.here code U k r.0 G r.1 (told_end _ _ r.2 c.in-Done.is)) c.end.ensures.made

pub returns-in_err-next-clause-setup : goal.returns-in_err-next-clause-setup
returns-in_err-next-clause-setup g c = any_err c.from_residual.result (ap (λ (l : Log). l.setup) c.run_on.ensures.same.chronicle)

pub returns-in-Book-Open-clause-refused : goal.returns-in-Book-Open-clause-refused
returns-in-Book-Open-clause-refused g c = on_err c.open_finish.result (λ same code U k q G a.
    let r = c.in_ok-next.ensures.next code U k q G a in
    stopped r.1 c.open_finish.new.self (ap (λ (x : Machine g.row.L.Denot). x.chronicle) same) (ap (λ (x : Machine g.row.L.Denot). x.stores) same)) c.open_finish.ensures.refused

pub returns-in-Book-Open-clause-setup : goal.returns-in-Book-Open-clause-setup
returns-in-Book-Open-clause-setup g c = on_err c.open_finish.result (λ same.
    ap (λ (x : Machine g.row.L.Denot). x.chronicle.setup) same ∙ ap (λ (l : Log). l.setup) c.run_on.ensures.same.chronicle) c.open_finish.ensures.refused

pub returns-in-Book-At-clause-refused : goal.returns-in-Book-At-clause-refused
returns-in-Book-At-clause-refused g c = on_err c.open_at.result (λ same code U k q G a.
    let r = c.in_ok-next.ensures.next code U k q G a in
    stopped r.1 c.open_at.new.self (ap (λ (x : Machine g.row.L.Denot). x.chronicle) same) (ap (λ (x : Machine g.row.L.Denot). x.stores) same)) c.open_at.ensures.refused

pub returns-in-Book-At-clause-setup : goal.returns-in-Book-At-clause-setup
returns-in-Book-At-clause-setup g c = on_err c.open_at.result (λ same.
    ap (λ (x : Machine g.row.L.Denot). x.chronicle.setup) same ∙ ap (λ (l : Log). l.setup) c.run_on.ensures.same.chronicle) c.open_at.ensures.refused

pub returns-in-Book-Spawn-clause-refused : goal.returns-in-Book-Spawn-clause-refused
returns-in-Book-Spawn-clause-refused g c = on_err c.spawn.result (λ same code U k q G a.
    let r = c.in_ok-next.ensures.next code U k q G a in
    stopped r.1 c.spawn.new.self (ap (λ (x : Machine g.row.L.Denot). x.chronicle) same) (ap (λ (x : Machine g.row.L.Denot). x.stores) same)) c.spawn.ensures.refused

pub returns-in-Book-Spawn-clause-setup : goal.returns-in-Book-Spawn-clause-setup
returns-in-Book-Spawn-clause-setup g c = on_err c.spawn.result (λ same.
    ap (λ (x : Machine g.row.L.Denot). x.chronicle.setup) same ∙ ap (λ (l : Log). l.setup) c.run_on.ensures.same.chronicle) c.spawn.ensures.refused

pub returns-in-Book-Wait-clause-refused : goal.returns-in-Book-Wait-clause-refused
returns-in-Book-Wait-clause-refused g c = on_err c.wait.result (λ same code U k q G a.
    let r = c.in_ok-next.ensures.next code U k q G a in
    stopped r.1 c.wait.new.self (ap (λ (x : Machine g.row.L.Denot). x.chronicle) same) (ap (λ (x : Machine g.row.L.Denot). x.stores) same)) c.wait.ensures.refused

pub returns-in-Book-Wait-clause-setup : goal.returns-in-Book-Wait-clause-setup
returns-in-Book-Wait-clause-setup g c = on_err c.wait.result (λ same.
    ap (λ (x : Machine g.row.L.Denot). x.chronicle.setup) same ∙ ap (λ (l : Log). l.setup) c.run_on.ensures.same.chronicle) c.wait.ensures.refused

pub returns-in-Book-Print-clause-refused : goal.returns-in-Book-Print-clause-refused
returns-in-Book-Print-clause-refused g c = on_err c.print.result (λ same code U k q G a.
    let r = c.in_ok-next.ensures.next code U k q G a in
    stopped r.1 c.print.new.self (ap (λ (x : Machine g.row.L.Denot). x.chronicle) same) (ap (λ (x : Machine g.row.L.Denot). x.stores) same)) c.print.ensures.refused

pub returns-in-Book-Print-clause-setup : goal.returns-in-Book-Print-clause-setup
returns-in-Book-Print-clause-setup g c = on_err c.print.result (λ same.
    ap (λ (x : Machine g.row.L.Denot). x.chronicle.setup) same ∙ ap (λ (l : Log). l.setup) c.run_on.ensures.same.chronicle) c.print.ensures.refused

pub returns-in-Done-clause-refused : goal.returns-in-Done-clause-refused
returns-in-Done-clause-refused g c = on_err c.end.result (λ same code U k q G a.
    let r = c.in_ok-next.ensures.next code U k q G a in
    stopped r.1 c.end.new.self (ap (λ (x : Machine g.row.L.Denot). x.chronicle) same) (ap (λ (x : Machine g.row.L.Denot). x.stores) same)) c.end.ensures.refused

pub returns-in-Done-clause-setup : goal.returns-in-Done-clause-setup
returns-in-Done-clause-setup g c = on_err c.end.result (λ same.
    ap (λ (x : Machine g.row.L.Denot). x.chronicle.setup) same ∙ ap (λ (l : Log). l.setup) c.run_on.ensures.same.chronicle) c.end.ensures.refused

pub returns-in-Book-Release-clause-refused : goal.returns-in-Book-Release-clause-refused
returns-in-Book-Release-clause-refused g c = on_err c.release.result (λ told code U k q G a.
    let r = c.in_ok-next.ensures.next code U k q G a in
    stopped-more r.1 c.release.new.self (told c.args.here code U k r.0 G r.1 (told_release _ _ c.in-Book-Release.field-0 r.2 c.in-Book-Release.is (rw c.in-Book-Release.is at c.in-Book-Release.field-0-is)))) c.release.ensures.refused

pub returns-in-Book-Release-clause-setup : goal.returns-in-Book-Release-clause-setup
returns-in-Book-Release-clause-setup g c = on_err c.release.result (λ same. same ∙ ap (λ (l : Log). l.setup) c.run_on.ensures.same.chronicle) c.release.ensures.setup

pub returns-in-Book-Census-clause-refused : goal.returns-in-Book-Census-clause-refused
returns-in-Book-Census-clause-refused g c = on_err c.census.result (λ told code U k q G a.
    let r = c.in_ok-next.ensures.next code U k q G a in
    stopped-more r.1 c.census.new.self (told c.args.here code U k r.0 G r.1 (told_census _ _ c.in-Book-Census.field-0 r.2 c.in-Book-Census.is (rw c.in-Book-Census.is at c.in-Book-Census.field-0-is)))) c.census.ensures.refused

pub returns-in-Book-Census-clause-setup : goal.returns-in-Book-Census-clause-setup
returns-in-Book-Census-clause-setup g c = on_err c.census.result (λ same. same ∙ ap (λ (l : Log). l.setup) c.run_on.ensures.same.chronicle) c.census.ensures.setup
