-- What a term plays it makes in so many steps.
use Rattle.std.proofs.Common.{ℕ, suc, Bool, true, false, List, [], ◌∷◌, refl}
use Rattle.std.specs.List.{filter_map}
use Rattle.rx_rules.proofs.Common.{PlaceId, Term, Vars, does, Starts, Moves, Plays, BeginsWithArrival, EachPlays, Tells, birth_of, travels, cell_of, journal_at, moves_from}
use Rattle.rx_rules.specs.declared.entries.Act.TheVariants.{Open, At as Calls, Spawn, Arrive, Wait, Release, End, Print, Census}
use Rattle.rx_rules.specs.declared.entries.Entry.{Entry}
use Rattle.rx_rules.specs.declared.events.Cell.{Cell}
use Rattle.rx_rules.specs.declared.events.PlaceEvent.{PlaceEvent}
use Rattle.rx_rules.specs.Plays as rules
use Rattle.rx_runs.proofs.Weighing.{tells_store}
use Rattle.rx_runs.specs.AnyAnswers.{Works, local, answers, asks, ends, stops, BeginsWork, EachWorks, sum_of, RunIsMade}

pub plays_work : {starts : Starts} {here : PlaceId} {low : ℕ} {vars : Vars} {t : Term} {batch : List (List ℕ)} {cells : List (ℕ × Cell × List ℕ)} {moves : Moves} → Plays starts here low vars t batch cells moves → (n : ℕ) × Works starts here n vars t moves
plays_work (rules.local e p) = let r = plays_work p in (suc r.0, local e r.1)
plays_work {here = here} {vars = vars} {t = t} (rules.stores {cell = cell} a le tells b p) = let r = plays_work p in (suc r.0, answers a (tells_store (does vars here.0 t) here cell a tells) r.1)
plays_work (rules.asks le fits so p) = let r = plays_work p in (suc r.0, asks fits so r.1)
plays_work (rules.ends le e) = (1, ends e)
plays_work rules.stops = (0, stops)

pub begins_work : (starts : Starts) (here : PlaceId) (b : Bool) (low : ℕ) (vars : Vars) (t : Term) (cells : List (ℕ × Cell × List ℕ)) (moves : Moves) → BeginsWithArrival starts here b low vars t cells moves → (n : ℕ) × BeginsWork starts here b n vars t moves
begins_work starts here false low vars t cells moves h = plays_work h
begins_work starts here true low vars t cells [] h = (0, refl)
begins_work starts here true low vars t cells ((n, Arrive p, batch) ∷ moves) h = plays_work h.1
begins_work starts here true low vars t cells ((n, Open s r x, batch) ∷ moves) h = absurd h
begins_work starts here true low vars t cells ((n, Calls from to s r c x, batch) ∷ moves) h = absurd h
begins_work starts here true low vars t cells ((n, Spawn c s from to x, batch) ∷ moves) h = absurd h
begins_work starts here true low vars t cells ((n, Wait s thrown, batch) ∷ moves) h = absurd h
begins_work starts here true low vars t cells ((n, Release s lost masked thrown, batch) ∷ moves) h = absurd h
begins_work starts here true low vars t cells ((n, End thrown, batch) ∷ moves) h = absurd h
begins_work starts here true low vars t cells ((n, Print value x, batch) ∷ moves) h = absurd h
begins_work starts here true low vars t cells ((n, Census places x, batch) ∷ moves) h = absurd h

each_work : (starts : Starts) (es : List Entry) (js : List (List PlaceEvent)) (k : ℕ) (ss : Starts) → EachPlays starts es js k ss → (ns : List ℕ) × EachWorks starts es k ss ns
each_work starts es js k [] h = ([], tt)
each_work starts es js k (s ∷ ss) h =
    let one = begins_work starts (birth_of es k).to (travels (birth_of es k)) (birth_of es k).low s.1 s.0 (filter_map (cell_of k) (journal_at js (birth_of es k).to.0)) (moves_from 0 es k) h.0 in
    let rest = each_work starts es js (suc k) ss h.1 in
    (one.0 ∷ rest.0, (one.1, rest.1))

pub run_made : RunIsMade
run_made code U es js run =
    let p = run.played in
    let w = each_work p.starts es js 0 p.starts p.each in
    (sum_of w.0, record { starts = p.starts; main = p.main; all = p.all; counts = w.0; each = w.1; total = refl })
