-- What a task's entries tell and what its place tells are of one run of its term.
use Rattle.std.proofs.Common.{◌≡◌, ℕ, suc, List, [], ◌∷◌, ◌++◌, refl, ap, sym, ◌∙◌, subst}
use Rattle.rx_rules.proofs.Common.{PlaceId, Term, Vars, Answer, answered, vars_after, Local, Done, does, granted, Starts, Cells, Moves, Plays, asks, ends, stops, Tells, brought, begun, vars_told}
use Rattle.rx_rules.specs.declared.entries.Act.{Act}
use Rattle.rx_rules.specs.declared.events.Cell.{Cell}
use Rattle.rx_rules.specs.Plays.{local, stores}
use Rattle.rx_parts.specs.Merges.{AccountsMerge}
use Rattle.rx_runs.proofs.NextSteps.{told_once, not_told_and_fits, not_local_told, not_done_told, not_local_fits, not_done_fits}

no_more : {X : Type 0} (xs ys : List X) → [] ≡ xs ++ ys → xs ≡ []
no_more [] ys h = refl
no_more (x ∷ xs) ys h = absurd (let f : ⊥ = cc in f)

merged : {starts : Starts} {here : PlaceId} {low : ℕ} {vars : Vars} {t : Term} {batch : List (List ℕ)} {named cells : Cells} {moves early : Moves} → Plays starts here low vars t batch named moves → Plays starts here low vars t batch cells early → (rest : Cells) (late : Moves) → cells ≡ named ++ rest → moves ≡ early ++ late → Plays starts here low vars t batch cells moves
merged {starts = starts} {here = here} {low = low} {vars = vars} {t = t} {batch = batch} {named = named} {moves = moves} p stops rest late e f =
    subst (λ (cs : Cells). Plays starts here low vars t batch cs moves) (no_more named rest e) p
merged {starts = starts} {here = here} {low = low} {vars = vars} {t = t} {batch = batch} {cells = cells} {early = early} stops q rest late e f =
    subst (λ (ms : Moves). Plays starts here low vars t batch cells ms) (no_more early late f) q
merged {starts = starts} {here = here} {low = low} {t = t} {batch = batch} {cells = cells} {early = early} (local {left = v} {after = u} a p) (local {left = w} {after = x} b q) rest late e f =
    let same : Local u v ≡ Local x w = sym a ∙ b in
    let term : u ≡ x = cc in
    let vars : v ≡ w = cc in
    local a
    (merged p
    (subst (λ (i : Vars). Plays starts here low i u (begun t batch) cells early) (sym vars)
    (subst (λ (i : Term). Plays starts here low w i (begun t batch) cells early) (sym term) q)) rest late e f)
merged {here = here} (local a p) (stores {cell = c} w le tells b q) rest late e f = absurd (not_local_told _ here c w _ _ a tells)
merged {here = here} {t = t} (local a p) (asks {act = act} le fits so q) rest late e f = absurd (not_local_fits _ here t act _ _ a fits)
merged (local {left = v} {after = u} a p) (ends {faults = faults} le d) rest late e f = absurd (let same : Local u v ≡ Done faults = sym a ∙ d in let g : ⊥ = cc in g)
merged {here = here} (stores {cell = c} w le tells b p) (local a q) rest late e f = absurd (not_local_told _ here c w _ _ a tells)
merged {starts = starts} {here = here} {low = low} {vars = vars} {t = t} {batch = batch} {moves = moves} {early = early} (stores {cells = named} {stamp = stamp} {cell = c} {x = x} w le tells b p) (stores {cells = cells} {stamp = stamp2} {cell = c2} {x = x2} w2 le2 tells2 b2 q) rest late e f =
    let head : ◌≡◌ {A = ℕ × Cell × List ℕ} (stamp2, c2, x2) (stamp, c, x) = cc in
    let tail : cells ≡ named ++ rest = cc in
    let stamps : stamp2 ≡ stamp = ap (λ (m : ℕ × Cell × List ℕ). m.0) head in
    let same : c2 ≡ c = ap (λ (m : ℕ × Cell × List ℕ). m.1) head in
    let answers : w2 ≡ w = told_once (does vars here.0 t) here c w2 w (subst (λ (v : Cell). Tells (does vars here.0 t) here v w2) same tells2) tells in
    let one : Plays starts here stamp (vars_after w2 vars) (answered w2 t) (begun t batch) cells early = subst (λ (v : ℕ). Plays starts here v (vars_after w2 vars) (answered w2 t) (begun t batch) cells early) stamps q in
    let two : Plays starts here stamp (vars_after w vars) (answered w t) (begun t batch) cells early = subst (λ (v : Answer). Plays starts here stamp (vars_after v vars) (answered v t) (begun t batch) cells early) answers one in
    subst (λ (m : ℕ × Cell × List ℕ). Plays starts here low vars t batch (m ∷ cells) moves) (sym head) (stores w le tells b (merged p two rest late tail f))
merged {here = here} {t = t} (stores {cell = c} w le tells b p) (asks {act = act} le2 fits so q) rest late e f = absurd (not_told_and_fits _ here t c w act tells fits)
merged {here = here} (stores {cell = c} w le tells b p) (ends {faults = faults} le2 d) rest late e f = absurd (not_done_told _ here c w faults d tells)
merged {here = here} {t = t} (asks {act = act} le fits so p) (local a q) rest late e f = absurd (not_local_fits _ here t act _ _ a fits)
merged {here = here} {t = t} (asks {act = act} le fits so p) (stores {cell = c} w le2 tells b q) rest late e f = absurd (not_told_and_fits _ here t c w act tells fits)
merged {starts = starts} {here = here} {vars = vars} {t = t} {batch = batch} {cells = cells} (asks {moves = moves} {n = n} {act = act} le fits so p) (asks {moves = early} {n = n2} {act = act2} le2 fits2 so2 q) rest late e f =
    let head : ◌≡◌ {A = ℕ × Act × List (List ℕ)} (n, act, batch) (n2, act2, batch) = cc in
    let tail : moves ≡ early ++ late = cc in
    let numbers : n2 ≡ n = sym (ap (λ (m : ℕ × Act × List (List ℕ)). m.0) head) in
    let same : act2 ≡ act = sym (ap (λ (m : ℕ × Act × List (List ℕ)). m.1) head) in
    let one : Plays starts here (suc n) (vars_told (does vars here.0 t) act2 vars) (granted (brought act2) t) [] cells early = subst (λ (v : ℕ). Plays starts here (suc v) (vars_told (does vars here.0 t) act2 vars) (granted (brought act2) t) [] cells early) numbers q in
    let two : Plays starts here (suc n) (vars_told (does vars here.0 t) act vars) (granted (brought act) t) [] cells early = subst (λ (v : Act). Plays starts here (suc n) (vars_told (does vars here.0 t) v vars) (granted (brought v) t) [] cells early) same one in
    asks le fits so (merged p two rest late e tail)
merged {here = here} {t = t} (asks {act = act} le fits so p) (ends {faults = faults} le2 d) rest late e f = absurd (not_done_fits _ here t act faults d fits)
merged (ends {faults = faults} le d) (local {left = v} {after = u} a q) rest late e f = absurd (let same : Local u v ≡ Done faults = sym a ∙ d in let g : ⊥ = cc in g)
merged {here = here} (ends {faults = faults} le d) (stores {cell = c} w le2 tells b q) rest late e f = absurd (not_done_told _ here c w faults d tells)
merged {here = here} {t = t} (ends {faults = faults} le d) (asks {act = act} le2 fits so q) rest late e f = absurd (not_done_fits _ here t act faults d fits)
merged (ends le d) (ends le2 d2) rest late e f = ends le d

pub accounts-merge : AccountsMerge
accounts-merge starts here low vars t batch named rest early late p q = merged p q rest late refl refl
