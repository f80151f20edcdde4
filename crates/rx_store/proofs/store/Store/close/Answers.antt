use Rattle.std.proofs.Common.{◌≡◌, false, sym, subst}
use Rattle.rx_store.specs.Kept.{StoreView, ends_closed}
use Rattle.rx_store.proofs.Steps.{closed_steady}
use Rattle.rx_store.proofs.store.Store.close.Goals as goal

is-open : (c : goal.After-self-2-1) → ends_closed c.self.inside.journal.events ≡ false
is-open c = subst (λ (z : StoreView). ends_closed z.events ≡ false) (sym c.self.view_is) c.requires.open

pub invariant_of-self : goal.invariant_of-self
invariant_of-self c = closed_steady c.self.inside.words c.self.inside.blocks c.self.inside.journal c.add.new.self c.self.inside.last c.args.at c.self.invariant (is-open c) c.add.ensures

pub returns-clause-run : goal.returns-clause-run
returns-clause-run c = (closed_steady c.self.inside.words c.self.inside.blocks c.self.inside.journal c.add.new.self c.self.inside.last c.args.at c.self.invariant (is-open c) c.add.ensures).run
