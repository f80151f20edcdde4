use Rattle.std.proofs.Common.{[], refl, lit<}
use Rattle.rx_rules.specs.declared.tasks.Where.TheVariants.{At, Travel}
use Rattle.rx_rules.specs.declared.entries.Act.TheVariants.{Open, Spawn, Wait}
use Rattle.rx_rules.proofs.Common.{Tree, made_act, strike, opening}
use Rattle.rx_finish.specs.Callers.{Travels, WaitsInside, MayStrike}
use Rattle.rx_finish.proofs.Worked.{who, tk, sc, pl, asks, none_dead}
use Rattle.tests_of_ledgers.proofs.tree.in_transit.Goals as goal

-- task 0 waits for task 1
abbrev begun : Tree
begun = made_act (made_act (made_act (opening 2) (tk 0) (Open (sc 1) (sc 0) [])) (tk 0) (Spawn (tk 1) (sc 1) (pl 0) (pl 1) [])) (tk 0) (Wait (sc 1) [])

dies : MayStrike begun (pl 1) 3
dies = record { dies = (lit< tt, λ e. cc, refl); later = none_dead 3 16 }

-- place 1 is dead
abbrev struck : Tree
struck = strike (record { place = pl 1; entry = 3 }) begun

pub ready-ready-requires : goal.ready-ready-requires
ready-ready-requires g c = (
  0,
  struck,
  c.death.ensures 0 begun c.in_ok-_begun.ensures dies,
  asks struck (who 0 0 1 (At (pl 0))) (WaitsInside struck (who 0 0 1 (At (pl 0)))) _ refl refl refl refl (record { waits = refl; scope = _; own = refl }) (lit< tt) (lit< tt),
)

pub arrive-arrival-requires : goal.arrive-arrival-requires
arrive-arrival-requires g c = (
  0,
  struck,
  c.death.ensures 0 begun c.in_ok-_begun.ensures dies,
  asks struck (who 1 1 1 (Travel (pl 0) (pl 1))) Travels _ refl refl refl refl (record { travels = refl }) (lit< tt) (lit< tt),
)
