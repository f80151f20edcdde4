use Rattle.std.proofs.Common.{arith, ◌≡◌, ◌≤◌, ℕ, List, Some, refl, ap, ◌∙◌, sym, inl, inr}
use Rattle.rx_rules.specs.declared.entries.Act.TheVariants.{Census}
use Rattle.rx_rules.proofs.Common.{does, begins, Counts, Tree, AllowedAct, vars_told, tree_in}
use Rattle.rx_history.specs.Logs.{Log}
use Rattle.rx_history.specs.Next.{next_of}
use Rattle.rx_control.specs.declared.control.Control.{Control}
use Rattle.rx_machine.proofs.Acted.{of-game}
use Rattle.rx_machine.proofs.Asking.{may-move, memory-out}
use Rattle.rx_machine.proofs.Knowing.{known-there, some-places, few-there}
use Rattle.rx_machine.proofs.Counted.{census-begins, census-told, censused}
use Rattle.rx_machine.proofs.Stepping.{stands-by, does-by}
use Rattle.rx_machine.proofs.Requested.{any_err}
use Rattle.rx_machine.specs.declared.seat.Mover.{Mover}
use Rattle.rx_machine.proofs.machine.Machine.census.Goals as goal

pub path_of-requires : goal.path_of-requires
path_of-requires g c =
    let here = c.requires.game.0 in
    let game = c.requires.game.1 in
    let b = census-begins game.3 here.0 game.6.0 game.6.1 in (game.3.term, b.0, game.5.gone.seat_is.work.0, b.1)

pub census-requires-clause-asks : goal.census-requires-clause-asks
census-requires-clause-asks g c = let game = c.requires.game.1 in may-move game.5 (Counts game.6.0) game.6.1 (λ f. let w : ⊥ = cc f in w)

pub no_memory-requires : goal.no_memory-requires
no_memory-requires g c = let game = c.requires.game.1 in memory-out game.5 c.in-Err.fault c.in-Err.ensures.answer.0

pub census_done-requires-clause-asks : goal.census_done-requires-clause-asks
census_done-requires-clause-asks g c =
    let here = c.requires.game.0 in
    let game = c.requires.game.1 in
    (game.3.term, here, stands-by game.5 c.deref_mut.result.now c.deref_mut.ensures.value, ap next_of (does-by game.5 c.deref_mut.result.now c.deref_mut.ensures.value ∙ game.6.1))

pub census_done-requires-clause-some : goal.census_done-requires-clause-some
census_done-requires-clause-some g c =
    let game = c.requires.game.1 in
    let T = tree_in game.1 game.4 in
    let a = game.5 in
    let allowed : AllowedAct T c.args.mover.who.task (Census c.in-Ok.places c.in_ok-path.path) = of-game (λ (V : Tree). AllowedAct V c.args.mover.who.task (Census c.in-Ok.places c.in_ok-path.path)) a.but.shares c.in-Ok.ensures.answer.allowed in
    let count : c.in-Ok.places ≡ T.places = allowed.asks.1 in
    let some : 1 ≤ T.places = some-places game.1 game.4 a.but.shares.on.proper in
    omega (arith, count, some)

pub census_done-requires-clause-few : goal.census_done-requires-clause-few
census_done-requires-clause-few g c =
    let game = c.requires.game.1 in
    let T = tree_in game.1 game.4 in
    let a = game.5 in
    let allowed : AllowedAct T c.args.mover.who.task (Census c.in-Ok.places c.in_ok-path.path) = of-game (λ (V : Tree). AllowedAct V c.args.mover.who.task (Census c.in-Ok.places c.in_ok-path.path)) a.but.shares c.in-Ok.ensures.answer.allowed in
    let count : c.in-Ok.places ≡ T.places = allowed.asks.1 in
    let few : T.places ≤ 16 = few-there game.0 game.1 game.4 c.games_come.ensures a.but.shares.on.proper a.but.shares.comes a.pick.stands in
    omega (arith, count, few)

pub census_done-requires-clause-known : goal.census_done-requires-clause-known
census_done-requires-clause-known g c =
    let game = c.requires.game.1 in
    let T = tree_in game.1 game.4 in
    let a = game.5 in
    let allowed : AllowedAct T c.args.mover.who.task (Census c.in-Ok.places c.in_ok-path.path) = of-game (λ (V : Tree). AllowedAct V c.args.mover.who.task (Census c.in-Ok.places c.in_ok-path.path)) a.but.shares c.in-Ok.ensures.answer.allowed in
    let count : c.in-Ok.places ≡ T.places = allowed.asks.1 in
    let known : game.3.vars.places ≤ T.places = known-there a c.known_places_are_there.ensures c.going_tells_no_places.ensures in
    let same : c.deref_mut.result.now.vars.places ≡ game.3.vars.places = ap (λ (v : Control). v.vars.places) c.deref_mut.ensures.value ∙ ap (λ v. v.places) a.gone.seat_is.work.1 in
    omega (arith, count, known, same)

pub seat_mover-requires : goal.seat_mover-requires
seat_mover-requires g c = c.requires.game.1.5.inside

pub returns-clause-made : goal.returns-clause-made
returns-clause-made g c = λ here code U k q G a asks.
    let s = a.gone.seat_is in
    let w = c.deref_mut.result.now in
    let b = census-begins q here.0 asks.0 asks.1 in
    let path = c.in_ok-path.ensures q.term b.0 s.work.0 b.1 in
    let at : begins q.term ≡ Some c.in_ok-path.path = b.1 ∙ ap (λ (x : List ℕ). Some x) (sym path) in
    let stands = stands-by a w c.deref_mut.ensures.value in
    let next = ap next_of (does-by a w c.deref_mut.ensures.value ∙ asks.1) in
    let term = c.in_ok-census_done.ensures.stands q.term here stands next in
    let vars = c.in_ok-census_done.ensures.vars q.term here c.in_ok-path.path stands next ∙ ap (λ (v : Control). vars_told (does v.vars here.0 q.term) (Census c.in-Ok.places c.in_ok-path.path) v.vars) c.deref_mut.ensures.value in
    let after : Mover = record (c.args.mover) { control = record (c.args.mover.control) { value = c.census_done.new.self } } in
    censused a asks.0 asks.1 c.in-Ok.places c.in_ok-path.path at _ after refl c.in-Ok.ensures.answer term vars refl refl c.seat_mover.ensures

pub returns-in_err-path-clause-refused : goal.returns-in_err-path-clause-refused
returns-in_err-path-clause-refused g c = any_err c.from_residual.result (λ here code U k q G a asks. inl (refl, refl))

pub returns-in-Err-clause-refused : goal.returns-in-Err-clause-refused
returns-in-Err-clause-refused g c = λ here code U k q G a asks. inl (ap (λ (h : Log). h.entries) c.in-Err.ensures.answer.1, refl)

pub returns-in-Err-clause-setup : goal.returns-in-Err-clause-setup
returns-in-Err-clause-setup g c = ap (λ (h : Log). h.setup) c.in-Err.ensures.answer.1

pub returns-in_err-census_done-clause-refused : goal.returns-in_err-census_done-clause-refused
returns-in_err-census_done-clause-refused g c = any_err c.from_residual-in_err-census_done.result (λ here code U k q G a asks.
    let b = census-begins q here.0 asks.0 asks.1 in
    let path = c.in_ok-path.ensures q.term b.0 a.gone.seat_is.work.0 b.1 in
    let at : begins q.term ≡ Some c.in_ok-path.path = b.1 ∙ ap (λ (x : List ℕ). Some x) (sym path) in
    inr (census-told a asks.0 asks.1 c.in-Ok.places c.in_ok-path.path at _ refl c.in-Ok.ensures.answer))

pub returns-in_err-census_done-clause-setup : goal.returns-in_err-census_done-clause-setup
returns-in_err-census_done-clause-setup g c = any_err c.from_residual-in_err-census_done.result (ap (λ (h : Log). h.setup) c.in-Ok.ensures.answer.told)
