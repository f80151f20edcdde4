-- A part of a run has few entries.
use Rattle.std.proofs.Common.{ℕ, suc, ◌+◌, ◌<◌, ◌≤◌, ◌^◌, Bool, true, false, List, [], ◌∷◌, length, refl, arith}
use Rattle.rx_rules.proofs.Common.{PlaceId, Block, work, Term, Vars, does, Cells, Moves, Starts, birth_of, travels, moves_from, Given, Proper, Folds}
use Rattle.rx_rules.specs.declared.entries.Act.TheVariants.{Open, At as Calls, Spawn, Arrive, Wait, Release, End, Print, Census}
use Rattle.rx_rules.specs.declared.entries.Entry.{Entry}
use Rattle.rx_rules.specs.declared.events.PlaceEvent.{PlaceEvent}
use Rattle.rx_runs.proofs.Weighing.{tells_store}
use Rattle.rx_runs.specs.AnyAnswers.{Works, local, answers, asks, ends, stops, BeginsWork, EachWorks, MadeIn, MadeBounded, sum_of}
use Rattle.rx_verdict.specs.Makes as makes
use Rattle.rx_verdict.specs.Makes.{Makes, Made, Landing, EachMakes, cells_of}

works : {starts : Starts} {here : PlaceId} {vars : Vars} {t : Term} {batch : List (List ℕ)} {cells rest : Cells} {moves : Moves} → Makes starts here vars t batch cells moves rest → (n : ℕ) × Works starts here n vars t moves
works (makes.local e m) = let r = works m in (suc r.0, local e r.1)
works {here = here} {vars = vars} {t = t} (makes.stores {cell = cell} a tells b m) = let r = works m in (suc r.0, answers a (tells_store (does vars here.0 t) here cell a tells) r.1)
works (makes.asks fits so m) = let r = works m in (suc r.0, asks fits so r.1)
works (makes.ends e) = (1, ends e)
works makes.stops = (0, stops)

landing_works : (starts : Starts) (here : PlaceId) (b : Bool) (low : ℕ) (vars : Vars) (t : Term) (cells : Cells) (moves : Moves) → Landing (λ l ms. (rest : Cells) × Makes starts here vars t [] cells ms rest) (Unit {0}) b low moves → (n : ℕ) × BeginsWork starts here b n vars t moves
landing_works starts here false low vars t cells moves h = works h.1
landing_works starts here true low vars t cells [] h = (0, refl)
landing_works starts here true low vars t cells ((n, Arrive p, batch) ∷ moves) h = works h.1.1
landing_works starts here true low vars t cells ((n, Open s r x, batch) ∷ moves) h = absurd h
landing_works starts here true low vars t cells ((n, Calls from to s r c x, batch) ∷ moves) h = absurd h
landing_works starts here true low vars t cells ((n, Spawn c s from to x, batch) ∷ moves) h = absurd h
landing_works starts here true low vars t cells ((n, Wait s thrown, batch) ∷ moves) h = absurd h
landing_works starts here true low vars t cells ((n, Release s lost masked thrown, batch) ∷ moves) h = absurd h
landing_works starts here true low vars t cells ((n, End thrown, batch) ∷ moves) h = absurd h
landing_works starts here true low vars t cells ((n, Print value x, batch) ∷ moves) h = absurd h
landing_works starts here true low vars t cells ((n, Census places x, batch) ∷ moves) h = absurd h

each_works : (starts : Starts) (es : List Entry) (js : List (List PlaceEvent)) (k : ℕ) (ss : Starts) → EachMakes starts es js k ss → (ns : List ℕ) × EachWorks starts es k ss ns
each_works starts es js k [] h = ([], tt)
each_works starts es js k (s ∷ ss) h =
    let one = landing_works starts (birth_of es k).to (travels (birth_of es k)) (birth_of es k).low s.1 s.0 (cells_of es js k) (moves_from 0 es k) h.0 in
    let rest = each_works starts es js (suc k) ss h.1 in
    (one.0 ∷ rest.0, (one.1, rest.1))

made_in : (code : Block) (places : ℕ) (es : List Entry) (js : List (List PlaceEvent)) (starts : Starts) → Made code places es js starts → (n : ℕ) × MadeIn code places es n
made_in code places es js starts m =
    let w = each_works starts es js 0 starts m.each in
    (sum_of w.0, record { starts = starts; main = m.main; all = m.all; counts = w.0; each = w.1; total = refl })

-- under a proper setup, of a checked script
pub few_entries : MadeBounded → (code : Block) (U : Given) (es : List Entry) (js : List (List PlaceEvent)) (starts : Starts) → Proper U → Folds U es → work code ≤ 100000 → Made code U.places es js starts → length es + 2 < 2 ^ 31
few_entries law code U es js starts proper folds small made =
    let m = made_in code U.places es js starts made in
    let bound = law code U es m.0 proper folds m.1 in
    let few = proper.few in
    omega (arith, bound, few, small)
