use Rattle.std.proofs.Common.{arith, ◌≡◌, ◌≤◌, ℕ, ◌∷◌, ◌++◌, [], length, slice_set, refl, ap, ◌∙◌, sym, subst}
use Rattle.rx_rules.specs.declared.entries.Entry.TheVariants.{Death, Join}
use Rattle.rx_rules.specs.declared.events.PlaceEvent.TheVariants.{Close}
use Rattle.rx_kills.specs.declared.schedule.Due.{Due}
use Rattle.rx_kills.specs.Least.{entry_of}
use Rattle.rx_store.specs.Kept.{last_stamp}
use Rattle.rx_chronicle.specs.Requests.{with_entry}
use Rattle.rx_machine.specs.declared.machine.Machine.{Machine}
use Rattle.rx_machine.specs.Runs.{Falling}
use Rattle.rx_machine.proofs.BeforeTurn.{can-turn}
use Rattle.rx_machine.proofs.Deaths.{Fell, store-open, fallen}
use Rattle.rx_machine.proofs.Joins.{joined}
use Rattle.rx_machine.proofs.Noting.{died-on}
use Rattle.rx_machine.proofs.machine.Machine.pass.Goals as goal

pub returns-in-Join : goal.returns-in-Join
returns-in-Join g c = λ shape code U k G t ready.
    let m : Machine g.row.L.Denot = c.args.self.now in
    let p = c.in-Join.field-0 in
    let due : Falling shape code U m (Join p) G = subst (λ (d : Due). Falling shape code U m (entry_of d) G) c.in-Join.is t in
    let told : c.pass.new.self ≡ with_entry m.chronicle (Join p) = c.pass.ensures ∙ ap (λ (d : Due). with_entry m.chronicle (entry_of d)) c.in-Join.is in
    joined p due c.pass.new.self k told ready

pub close-requires : goal.close-requires
close-requires g c =
    let w = c.requires.game in
    let m : Machine g.row.L.Denot = c.args.self.now in
    let d = c.in-Death.place in
    let due : Falling w.0 w.1 w.2 m (Death d) w.3 = subst (λ (v : Due). Falling w.0 w.1 w.2 m (entry_of v) w.3) c.in-Death.is w.4 in
    let at : c.args.at ≡ length w.3.entries = c.requires.number ∙ ap length due.can.holds.shares.entries in
    let s = store-open d c.games_come.ensures due in
    (s.0, s.1.found, s.1.unclosed, subst (λ (n : ℕ). last_stamp s.0.events ≤ n) (sym at) s.1.last)

pub note_all-requires-clause-room : goal.note_all-requires-clause-room
note_all-requires-clause-room g c = omega (arith, c.give_up.ensures.many, c.requires.slots)

pub note_all-requires-clause-game : goal.note_all-requires-clause-game
note_all-requires-clause-game g c =
    let w = c.requires.game in
    let m : Machine g.row.L.Denot = c.args.self.now in
    let d = c.in-Death.place in
    let m' : Machine g.row.L.Denot = record m { chronicle = c.pass.new.self; stores = c.close.new.self; seats = c.give_up.new.seats } in
    let due : Falling w.0 w.1 w.2 m (Death d) w.3 = subst (λ (v : Due). Falling w.0 w.1 w.2 m (entry_of v) w.3) c.in-Death.is w.4 in
    let at : c.args.at ≡ length w.3.entries = c.requires.number ∙ ap length due.can.holds.shares.entries in
    let fell : Fell m m' d (length w.3.entries) = record {
      told = c.pass.ensures ∙ ap (λ (v : Due). with_entry m.chronicle (entry_of v)) c.in-Death.is;
      failed = refl;
      stores = λ s found. subst (λ (n : ℕ). c.close.new.self.items ≡ slice_set m.stores.items d.0 (record s { events = s.events ++ Close n ∷ [] })) at (c.close.ensures s found);
      many = c.give_up.ensures.many;
      each = c.give_up.ensures.each;
    } in
    let a = fallen d c.games_come.ensures due m' 0 fell in
    (w.0, w.1, w.2, a.0, can-turn w.0 w.1 w.2 m' a.0 c.games_come.ensures c.fold_is_reached.ensures a.2.0 a.2.1)

pub returns-in-Death : goal.returns-in-Death
returns-in-Death g c = λ shape code U k G t ready.
    let m : Machine g.row.L.Denot = c.args.self.now in
    let d = c.in-Death.place in
    let m' : Machine g.row.L.Denot = record m { chronicle = c.pass.new.self; stores = c.close.new.self; seats = c.give_up.new.seats } in
    let due : Falling shape code U m (Death d) G = subst (λ (v : Due). Falling shape code U m (entry_of v) G) c.in-Death.is t in
    let at : c.args.at ≡ length G.entries = c.requires.number ∙ ap length due.can.holds.shares.entries in
    let fell : Fell m m' d (length G.entries) = record {
      told = c.pass.ensures ∙ ap (λ (v : Due). with_entry m.chronicle (entry_of v)) c.in-Death.is;
      failed = refl;
      stores = λ s found. subst (λ (n : ℕ). c.close.new.self.items ≡ slice_set m.stores.items d.0 (record s { events = s.events ++ Close n ∷ [] })) at (c.close.ensures s found);
      many = c.give_up.ensures.many;
      each = c.give_up.ensures.each;
    } in
    let a = fallen d c.games_come.ensures due m' k fell in
    let can = can-turn shape code U m' a.0 c.games_come.ensures c.fold_is_reached.ensures a.2.0 a.2.1 in
    died-on shape code U m' c.note_all.new.self k G m.ready.members c.reached_is_sound.ensures due.can.reached a can ready c.note_all.ensures.same c.note_all.ensures.ascends (c.note_all.ensures.noted shape code U a.0 can) c.note_all.ensures.others
