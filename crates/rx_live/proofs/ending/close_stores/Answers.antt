use Rattle.std.proofs.Common.{rules, ◌≡◌, ℕ, ◌<◌, ◌+◌, ◌++◌, ◌∷◌, [], Option, refl, subst, arith}
use Rattle.rx_history.specs.Events.{events_of}
use Rattle.rx_objects.specs.Ending.{IsShut}
use Rattle.rx_live.proofs.Shut.{is_inside, one_shut, events_more}
use Rattle.rx_live.proofs.ending.close_stores.Goals as goal

pub store-preserved : goal.store-preserved
store-preserved c =
    let es = c.args.history.now.entries in
    let s = c.in-Some.store in
    let is : c.store.stores.items ≡ c.pop.new.self.items ++ s ∷ [] = search rules in
    let inside = is_inside es c.args.stores.items c.store.stores.items c.store.place (events_of c.store.journals) c.store.invariant c.pop.new.self.items s is in
    let most = c.requires.most in
    let small : c.store.place < 16 = omega (arith, inside, most) in
    let shut = subst (λ (o : Option ℕ). IsShut o s.events c.shut-journal.result.events) (c.deaths_of-deaths.ensures.each c.store.place small) c.shut-journal.ensures.shut in
    one_shut es c.args.stores.items c.store.stores.items c.store.place (events_of c.store.journals) c.store.invariant c.pop.new.self.items s is c.shut-journal.result.events (c.store.place + 1) (events_of c.push.new.self) refl
    (events_more c.store.journals c.push.new.self c.shut-journal.result _ c.in_ok-push.ensures.ok) shut c.shut-journal.ensures.run
