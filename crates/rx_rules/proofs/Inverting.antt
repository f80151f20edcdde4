-- What a task plays, read backwards: its end is last, its arrival first.
use Rattle.std.proofs.Common.{◌≡◌, ℕ, zero, suc, ◌+◌, ◌<◌, ◌≤◌, Bool, true, false, List, [], ◌∷◌, ◌++◌, length, refl, arith, subst, sym, ap}
use Rattle.rx_rules.proofs.Common.{PlaceId, Fault, Term, Vars, Does, Local, does, Plays, asks, ends, stops, BeginsWithArrival, EachPlays, birth_of, travels, Block, Given, IsRun, births, UpTo, FromOn, acts_of, events_of_task}
use Rattle.rx_rules.specs.declared.entries.Act.{Act}
use Rattle.rx_rules.specs.declared.entries.Act.TheVariants.{Open, At as Calls, Spawn, Arrive, Wait, Release, End, Print, Census}
use Rattle.rx_rules.specs.declared.entries.Entry.{Entry}
use Rattle.rx_rules.specs.declared.events.Cell.{Cell}
use Rattle.rx_rules.specs.declared.events.PlaceEvent.{PlaceEvent}
use Rattle.rx_rules.specs.Plays.{local, stores, Fits}
use Rattle.rx_rules.specs.Inversions.{EndsLast, ArrivesFirst, NeverArrived}

-- no request is an end
pub asks_no_end : (here : PlaceId) (t : Term) (d : Does) (thrown : List Fault) → Fits here t d (End thrown) → ⊥
asks_no_end here t (Local left vars) thrown h = h
asks_no_end here t _ thrown h = h

-- what is at most a number is at most a greater one
from_lower : (low high : ℕ) → low ≤ high → (cells : List (ℕ × Cell × List ℕ)) → FromOn high cells → FromOn low cells
from_lower low high h [] a = tt
from_lower low high h (c ∷ cs) a = (let first : high ≤ c.0 = a.0 in omega arith, from_lower low high h cs a.1)

-- no stamp is below `low`
pub cells_from_low : {starts : List (Term × Vars)} {here : PlaceId} {low : ℕ} {vars : Vars} {t : Term} {batch : List (List ℕ)} {cells : List (ℕ × Cell × List ℕ)} {moves : List (ℕ × Act × List (List ℕ))} → Plays starts here low vars t batch cells moves → FromOn low cells
cells_from_low (local e p) = cells_from_low p
cells_from_low (stores {low = low} {cells = cells} {stamp = stamp} a le tells b p) = (le, from_lower low stamp le cells (cells_from_low p))
cells_from_low (asks {low = low} {cells = cells} {n = n} le fits so p) = from_lower low (suc n) (omega arith) cells (cells_from_low p)
cells_from_low (ends le e) = tt
cells_from_low stops = tt

-- where an end stands among the entries, nothing follows it, and it is not before any event
pub end_last : {starts : List (Term × Vars)} {here : PlaceId} {low : ℕ} {vars : Vars} {t : Term} {batch : List (List ℕ)} {cells : List (ℕ × Cell × List ℕ)} {moves : List (ℕ × Act × List (List ℕ))} (before : List (ℕ × Act × List (List ℕ))) (n : ℕ) (thrown : List Fault) (last : List (List ℕ)) (after : List (ℕ × Act × List (List ℕ))) → Plays starts here low vars t batch cells moves → moves ≡ before ++ (n, End thrown, last) ∷ after → (low ≤ n) × (after ≡ []) × UpTo n cells
end_last before n thrown last after (local e p) h = end_last before n thrown last after p h
end_last before n thrown last after (stores {low = low} {stamp = stamp} a le tells b p) h =
    let r = end_last before n thrown last after p h in (let up : stamp ≤ n = r.0 in omega (arith, le, up), r.1, (r.0, r.2))
end_last {here = here} [] n thrown last after (asks {vars = vars} {t = t} {batch = batch} {n = k} {act = act} le fits so p) h =
    let head : ◌≡◌ {A = ℕ × Act × List (List ℕ)} (k, act, batch) (n, End thrown, last) = cc in
    let same : act ≡ End thrown = ap (λ (m : ℕ × Act × List (List ℕ)). m.1) head in
    absurd (asks_no_end here t (does vars here.0 t) thrown (subst (λ (a : Act). Fits here t (does vars here.0 t) a) same fits))
end_last (m ∷ before) n thrown last after (asks {low = low} {moves = moves} {n = k} le fits so p) h =
    let rest : moves ≡ before ++ (n, End thrown, last) ∷ after = cc in
    let r = end_last before n thrown last after p rest in
    (let up : suc k ≤ n = r.0 in omega (arith, le, up), r.1, r.2)
end_last [] n thrown last after (ends {low = low} {batch = batch} {n = k} {faults = faults} le e) h =
    let head : ◌≡◌ {A = ℕ × Act × List (List ℕ)} (k, End faults, batch) (n, End thrown, last) = cc in
    let same : k ≡ n = ap (λ (m : ℕ × Act × List (List ℕ)). m.0) head in (omega (arith, le, same), cc, tt)
end_last (m ∷ []) n thrown last after (ends le e) h = absurd (let f : ⊥ = cc in f)
end_last (m ∷ m' ∷ before) n thrown last after (ends le e) h = absurd (let f : ⊥ = cc in f)
end_last [] n thrown last after stops h = absurd (let f : ⊥ = cc in f)
end_last (m ∷ before) n thrown last after stops h = absurd (let f : ⊥ = cc in f)

-- what stands at a position of the list is played
played_at : (starts : List (Term × Vars)) (es : List Entry) (js : List (List PlaceEvent)) (n : ℕ) (more : List (Term × Vars)) (k : ℕ) → k < length more → EachPlays starts es js n more → (s : Term × Vars) × BeginsWithArrival starts (birth_of es (n + k)).to (travels (birth_of es (n + k))) (birth_of es (n + k)).low s.1 s.0 (events_of_task es js (n + k)) (acts_of es (n + k))
played_at starts es js n [] k h each = absurd (omega arith)
played_at starts es js n (s ∷ more) zero h each =
    let e : n + 0 ≡ n = omega arith in (s, subst (λ (i : ℕ). BeginsWithArrival starts (birth_of es i).to (travels (birth_of es i)) (birth_of es i).low s.1 s.0 (events_of_task es js i) (acts_of es i)) (sym e) each.0)
played_at starts es js n (s ∷ more) (suc k) h each =
    let inside : k < length more = omega arith in
    let r = played_at starts es js (suc n) more k inside each.1 in
    let e : suc n + k ≡ n + suc k = omega arith in (r.0, subst (λ (i : ℕ). BeginsWithArrival starts (birth_of es i).to (travels (birth_of es i)) (birth_of es i).low r.0.1 r.0.0 (events_of_task es js i) (acts_of es i)) e r.1)

-- each task that was born plays its events and entries
task_plays : (code : Block) (U : Given) (es : List Entry) (js : List (List PlaceEvent)) (t : ℕ) (run : IsRun code U es js) → t < 1 + births es → (s : Term × Vars) × BeginsWithArrival run.played.starts (birth_of es t).to (travels (birth_of es t)) (birth_of es t).low s.1 s.0 (events_of_task es js t) (acts_of es t)
task_plays code U es js t run h =
    let all : length run.played.starts ≡ 1 + births es = run.played.all in
    let inside : t < length run.played.starts = omega (arith, all, h) in
    let z : 0 + t ≡ t = omega arith in
    let r = played_at run.played.starts es js 0 run.played.starts t inside run.played.each in
    (r.0, subst (λ (i : ℕ). BeginsWithArrival run.played.starts (birth_of es i).to (travels (birth_of es i)) (birth_of es i).low r.0.1 r.0.0 (events_of_task es js i) (acts_of es i)) z r.1)

-- an end stands last also where an arrival comes first
end_of : (starts : List (Term × Vars)) (here : PlaceId) (travels : Bool) (low : ℕ) (vars : Vars) (t : Term) (cells : List (ℕ × Cell × List ℕ)) (moves before : List (ℕ × Act × List (List ℕ))) (n : ℕ) (thrown : List Fault) (last : List (List ℕ)) (after : List (ℕ × Act × List (List ℕ))) → BeginsWithArrival starts here travels low vars t cells moves → moves ≡ before ++ (n, End thrown, last) ∷ after → (after ≡ []) × UpTo n cells
end_of starts here false low vars t cells moves before n thrown last after b h = let r = end_last before n thrown last after b h in (r.1, r.2)
end_of starts here true low vars t cells [] [] n thrown last after b h = absurd (let f : ⊥ = cc in f)
end_of starts here true low vars t cells [] (m ∷ before) n thrown last after b h = absurd (let f : ⊥ = cc in f)
end_of starts here true low vars t cells ((k, Open s r x, batch) ∷ moves) before n thrown last after b h = absurd b
end_of starts here true low vars t cells ((k, Calls from to s r c x, batch) ∷ moves) before n thrown last after b h = absurd b
end_of starts here true low vars t cells ((k, Spawn c s from to x, batch) ∷ moves) before n thrown last after b h = absurd b
end_of starts here true low vars t cells ((k, Arrive p, batch) ∷ moves) [] n thrown last after b h =
    let head : ◌≡◌ {A = ℕ × Act × List (List ℕ)} (k, Arrive p, batch) (n, End thrown, last) = cc in
    let same : Arrive p ≡ End thrown = ap (λ (m : ℕ × Act × List (List ℕ)). m.1) head in absurd (let f : ⊥ = cc in f)
end_of starts here true low vars t cells ((k, Arrive p, batch) ∷ moves) (m ∷ before) n thrown last after b h =
    let rest : moves ≡ before ++ (n, End thrown, last) ∷ after = cc in let r = end_last before n thrown last after b.1 rest in (r.1, r.2)
end_of starts here true low vars t cells ((k, Wait s faults, batch) ∷ moves) before n thrown last after b h = absurd b
end_of starts here true low vars t cells ((k, Release s lost masked faults, batch) ∷ moves) before n thrown last after b h = absurd b
end_of starts here true low vars t cells ((k, End faults, batch) ∷ moves) before n thrown last after b h = absurd b
end_of starts here true low vars t cells ((k, Print value x, batch) ∷ moves) before n thrown last after b h = absurd b
end_of starts here true low vars t cells ((k, Census places x, batch) ∷ moves) before n thrown last after b h = absurd b

pub ends_last : EndsLast
ends_last code U es js t n thrown batch before after run born h =
    let b = task_plays code U es js t run born in
    end_of run.played.starts (birth_of es t).to (travels (birth_of es t)) (birth_of es t).low b.0.1 b.0.0 (events_of_task es js t) (acts_of es t) before n thrown batch after b.1 h

-- the first entry of a task that was started for another place
first_of : (starts : List (Term × Vars)) (here : PlaceId) (low : ℕ) (vars : Vars) (t : Term) (cells : List (ℕ × Cell × List ℕ)) (first : ℕ × Act × List (List ℕ)) (more : List (ℕ × Act × List (List ℕ))) → BeginsWithArrival starts here true low vars t cells (first ∷ more) → (p : PlaceId) × (first.1 ≡ Arrive p) × FromOn (suc first.0) cells
first_of starts here low vars t cells (k, Open s r x, batch) more b = absurd b
first_of starts here low vars t cells (k, Calls from to s r c x, batch) more b = absurd b
first_of starts here low vars t cells (k, Spawn c s from to x, batch) more b = absurd b
first_of starts here low vars t cells (k, Arrive p, batch) more b = (p, refl, cells_from_low b.1)
first_of starts here low vars t cells (k, Wait s faults, batch) more b = absurd b
first_of starts here low vars t cells (k, Release s lost masked faults, batch) more b = absurd b
first_of starts here low vars t cells (k, End faults, batch) more b = absurd b
first_of starts here low vars t cells (k, Print value x, batch) more b = absurd b
first_of starts here low vars t cells (k, Census places x, batch) more b = absurd b

pub arrives_first : ArrivesFirst
arrives_first code U es js t first more run born away h =
    let b = task_plays code U es js t run born in
    let one = subst (λ (w : Bool). BeginsWithArrival run.played.starts (birth_of es t).to w (birth_of es t).low b.0.1 b.0.0 (events_of_task es js t) (acts_of es t)) away b.1 in
    first_of run.played.starts (birth_of es t).to (birth_of es t).low b.0.1 b.0.0 (events_of_task es js t) first more
    (subst (λ (ms : List (ℕ × Act × List (List ℕ))). BeginsWithArrival run.played.starts (birth_of es t).to true (birth_of es t).low b.0.1 b.0.0 (events_of_task es js t) ms) h one)

pub never_arrived : NeverArrived
never_arrived code U es js t run born away h =
    let b = task_plays code U es js t run born in
    let one = subst (λ (w : Bool). BeginsWithArrival run.played.starts (birth_of es t).to w (birth_of es t).low b.0.1 b.0.0 (events_of_task es js t) (acts_of es t)) away b.1 in
    subst (λ (ms : List (ℕ × Act × List (List ℕ))). BeginsWithArrival run.played.starts (birth_of es t).to true (birth_of es t).low b.0.1 b.0.0 (events_of_task es js t) ms) h one
