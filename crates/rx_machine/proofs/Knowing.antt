-- What a task knows of places that acts.
use Rattle.std.proofs.Common.{◌≡◌, ℕ, ◌≤◌, length, arith}
use Rattle.rx_rules.proofs.Common.{PlaceId, Block, journal_at, Given, in_all, Proper, NoRoot, Game, Player, MadeByTurns, tree_in}
use Rattle.rx_rules.proofs.Append.{tree-places}
use Rattle.rx_runs.specs.Coming.{GamesCome}
use Rattle.rx_runs.specs.Knowing.{ComesKnowing, GoesKnowing}
use Rattle.rx_syntax.specs.Shape.{Shape}
use Rattle.rx_machine.specs.declared.machine.Machine.{Machine}
use Rattle.rx_machine.specs.declared.seat.Mover.{Mover}
use Rattle.rx_machine.specs.Holds.{Acting}

-- it knows of no place that is not there
pub known-there : {L : Type 0} {shape : Shape} {code : Block} {U : Given} {m : Machine L} {k i : ℕ} {here : PlaceId} {q : Player} {mover : Mover} {G : Game} (a : Acting shape code U m k i here q mover G) → ComesKnowing → GoesKnowing → q.vars.places ≤ (tree_in U G).places
known-there {code = code} {U = U} {i = i} {here = here} {q = q} {mover = mover} {G = G} a come goes =
    let was : a.began.vars.places ≤ (tree_in U G).places = come code U G a.but.shares.comes i a.began a.gone.player in
    let same : q.vars.places ≡ a.began.vars.places = goes U.heap (length G.entries) mover.who.task here a.began q a.store a.left (journal_at G.journals here.0) a.events a.gone.goes in
    omega (arith, was, same)

-- there is a place, and there are sixteen at most
pub some-places : (U : Given) (G : Game) → Proper U → 1 ≤ (tree_in U G).places
some-places U G proper = let some : 1 ≤ U.places = proper.some in omega (arith, some, tree-places U.places G.entries)

pub few-there : (code : Block) (U : Given) (G : Game) → GamesCome → Proper U → MadeByTurns code U G → NoRoot G.entries → (tree_in U G).places ≤ 16
few-there code U G come proper comes unreleased =
    let within : (tree_in U G).places ≤ in_all U = (come code U G proper comes unreleased).ok.ties.within in
    let few : in_all U ≤ 16 = proper.few in
    omega (arith, within, few)
