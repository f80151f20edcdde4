-- What holds of each task of a legal history: what it was stays, and its term makes what its entries say by the events that they
-- name.
use Rattle.std.proofs.Common.{◌≡◌, ◌⊎◌, ℕ, suc, Bool, true, false, cond, ◌==◌, not, List, [], ◌∷◌, ◌++◌, length, slice_get, Some, refl, ap, sym, ◌∙◌, subst, inl, inr}
use Rattle.std.proofs.lemmas.List.{append-nil}
use Rattle.rx_rules.proofs.Common.{PlaceId, TaskId, Term, Vars, granted, does, Starts, Cells, Moves, Birth, Plays, BeginsWithArrival, StartsSo, started_by, travels, brought, vars_told}
use Rattle.rx_rules.specs.declared.entries.Act.{Act}
use Rattle.rx_rules.specs.declared.entries.Act.TheVariants.{Arrive, End}
use Rattle.rx_rules.specs.declared.entries.Entry.TheVariants.{Step}
use Rattle.rx_base.proofs.Prefixes.{prefix-trans}
use Rattle.rx_rules.specs.declared.entries.Act.{Act}
use Rattle.rx_rules.specs.declared.entries.Act.TheVariants.{Arrive, End}
use Rattle.rx_rules.specs.declared.entries.Entry.TheVariants.{Step}
use Rattle.rx_runs.specs.Segments as segments
use Rattle.rx_runs.specs.Segments.{Stand, StandGoes}
use Rattle.rx_runs.proofs.Segments.{joined, stopped, ended}
use Rattle.rx_parts.specs.Ledger.{LedgerItem, Actor, Phase, Away, Present, Over, Walks, stays, local, stores, first_stand, actor_born, AllMake}
use mathlib.Core.List.{IsPrefix}
use Rattle.rx_parts.proofs.Changes.{Change, same, lands, goes_on, leaves, changed}

-- What stays.

pub record Later (a z : Actor) : Type 0 where
  pub holder : z.holder ≡ a.holder
  pub birth : z.birth ≡ a.birth
  pub start : z.start ≡ a.start
  pub moves : IsPrefix a.moves z.moves
  pub named : IsPrefix a.named z.named
  pub seat : (a.phase ≡ Away → ⊥) → z.seat ≡ a.seat
  pub stays_there : (a.phase ≡ Away → ⊥) → z.phase ≡ Away → ⊥

pub later_self : (a : Actor) → Later a a
later_self a = record { holder = refl; birth = refl; start = refl; moves = ([], append-nil a.moves); named = ([], append-nil a.named); seat = λ h. refl; stays_there = λ h. h }

pub later_on : (a b c : Actor) → Later a b → Later b c → Later a c
later_on a b c h k =
    record {
      holder = k.holder ∙ h.holder;
      birth = k.birth ∙ h.birth;
      start = k.start ∙ h.start;
      moves = prefix-trans a.moves b.moves c.moves h.moves k.moves;
      named = prefix-trans a.named b.named c.named h.named k.named;
      seat = λ o. k.seat (h.stays_there o) ∙ h.seat o;
      stays_there = λ o. k.stays_there (h.stays_there o);
    }

pub not_away : (p : Phase) → p ≡ Present → p ≡ Away → ⊥
not_away p h k = let e : Present ≡ Away = sym h ∙ k in let f : ⊥ = cc in f

pub later_step : {n k : ℕ} {i : LedgerItem} {before after : List Actor} {a b : Actor} → Change n k i before after a b → Later a b
later_step {a = a} (same h) = later_self a
later_step {n = n} {i = i} {a = a} (lands t p it e by away none) =
    record { holder = refl; birth = refl; start = refl; moves = ((n, Arrive p, []) ∷ [], refl); named = ([], append-nil a.named); seat = λ o. absurd (o away); stays_there = λ o. absurd (o away) }
later_step {n = n} {i = i} {a = a} (goes_on t act z it e by here walks low fits new) =
    record { holder = refl; birth = refl; start = refl; moves = ((n, act, z.batch) ∷ [], refl); named = (i.events, refl); seat = λ o. refl; stays_there = λ o. o }
later_step {n = n} {i = i} {a = a} (leaves t faults z it e by here walks low done) =
    record { holder = refl; birth = refl; start = refl; moves = ((n, End faults, z.batch) ∷ [], refl); named = (i.events, refl); seat = λ o. refl; stays_there = λ o k. let f : Over ≡ Away = k in let g : ⊥ = cc in g }

abbrev pub LaterIn : List Actor → ℕ → Actor → Type 0
LaterIn last k a = (z : Actor) × (slice_get last k ≡ Some z) × Later a z

pub later : (n : ℕ) (before : List Actor) (h : List LedgerItem) (last : List Actor) → AllMake n before h last → (k : ℕ) (a : Actor) → slice_get before k ≡ Some a → LaterIn last k a
later n before [] last e k a got = (a, ap (λ v. slice_get v k) (sym e) ∙ got, later_self a)
later n before (i ∷ h) last l k a got =
    let c = changed l.1 k a got in
    let r = later (suc n) l.0 h last l.2 k c.0 c.1 in
    (r.0, r.1, later_on a c.0 r.0 (later_step c.2) r.2)

-- What a task makes.

pub walk_goes : {starts : Starts} {here : PlaceId} {a z y : Stand} {cells more : Cells} {moves : Moves} → Walks here a cells z → StandGoes starts here z more moves y → StandGoes starts here a (cells ++ more) moves y
walk_goes stays g = g
walk_goes (local e w) g = segments.local e (walk_goes w g)
walk_goes (stores answer le tells b w) g = segments.stores answer le tells b (walk_goes w g)

-- where it has landed: at its birth, or by its first entry
abbrev pub LandedBy : Birth → Moves → ℕ → Moves → Type 0
LandedBy b moves low rest = (travels b ≡ false) × (moves ≡ rest) × (low ≡ b.low) ⊎ ((n : ℕ) × (p : PlaceId) × (travels b ≡ true) × (moves ≡ (n, Arrive p, []) ∷ rest) × (low ≡ suc n))

pub data ActorOk (starts : Starts) (a : Actor) : Type 0 where
  away : a.phase ≡ Away → travels a.birth ≡ true → a.moves ≡ [] → a.named ≡ [] → a.stand ≡ first_stand a.birth.low a.start → ActorOk starts a
  here : a.phase ≡ Present → (low : ℕ) (rest : Moves) → LandedBy a.birth a.moves low rest → StandGoes starts a.birth.to (first_stand low a.start) a.named rest a.stand → ActorOk starts a
  over : a.phase ≡ Over → BeginsWithArrival starts a.birth.to (travels a.birth) a.birth.low a.start.1 a.start.0 a.named a.moves → ActorOk starts a

landed_more : (b : Birth) (moves rest : Moves) (low : ℕ) (m : ℕ × Act × List (List ℕ)) → LandedBy b moves low rest → LandedBy b (moves ++ m ∷ []) low (rest ++ m ∷ [])
landed_more b moves rest low m (inl h) = inl (h.0, ap (λ v. v ++ m ∷ []) h.1, h.2)
landed_more b moves rest low m (inr h) = inr (h.0, h.1, h.2, ap (λ v. v ++ m ∷ []) h.3, h.4)

-- what it has made where it has landed so
pub begins_landed : (starts : Starts) (b : Birth) (s : Term × Vars) (cells : Cells) (moves rest : Moves) (low : ℕ) → LandedBy b moves low rest → Plays starts b.to low s.1 s.0 [] cells rest → BeginsWithArrival starts b.to (travels b) b.low s.1 s.0 cells moves
begins_landed starts b s cells moves rest low (inl h) p =
    let one : Plays starts b.to b.low s.1 s.0 [] cells rest = subst (λ (v : ℕ). Plays starts b.to v s.1 s.0 [] cells rest) h.2 p in
    let two : Plays starts b.to b.low s.1 s.0 [] cells moves = subst (λ (v : Moves). Plays starts b.to b.low s.1 s.0 [] cells v) (sym h.1) one in
    subst (λ (v : Bool). BeginsWithArrival starts b.to v b.low s.1 s.0 cells moves) (sym h.0) two
begins_landed starts b s cells moves rest low (inr h) p =
    let one : Plays starts b.to (suc h.0) s.1 s.0 [] cells rest = subst (λ (v : ℕ). Plays starts b.to v s.1 s.0 [] cells rest) h.4 p in
    subst (λ (v : Bool). BeginsWithArrival starts b.to v b.low s.1 s.0 cells moves) (sym h.2)
    (subst (λ (v : Moves). BeginsWithArrival starts b.to true b.low s.1 s.0 cells v) (sym h.3) (refl, one))

-- and back
pub plays_landed : (starts : Starts) (b : Birth) (s : Term × Vars) (cells : Cells) (moves rest : Moves) (low : ℕ) → LandedBy b moves low rest → BeginsWithArrival starts b.to (travels b) b.low s.1 s.0 cells moves → Plays starts b.to low s.1 s.0 [] cells rest
plays_landed starts b s cells moves rest low (inl h) p =
    let one : BeginsWithArrival starts b.to false b.low s.1 s.0 cells moves = subst (λ (v : Bool). BeginsWithArrival starts b.to v b.low s.1 s.0 cells moves) h.0 p in
    let two : Plays starts b.to b.low s.1 s.0 [] cells rest = subst (λ (v : Moves). Plays starts b.to b.low s.1 s.0 [] cells v) h.1 one in
    subst (λ (v : ℕ). Plays starts b.to v s.1 s.0 [] cells rest) (sym h.2) two
plays_landed starts b s cells moves rest low (inr h) p =
    let one : BeginsWithArrival starts b.to true b.low s.1 s.0 cells moves = subst (λ (v : Bool). BeginsWithArrival starts b.to v b.low s.1 s.0 cells moves) h.2 p in
    let two : BeginsWithArrival starts b.to true b.low s.1 s.0 cells ((h.0, Arrive h.1, []) ∷ rest) = subst (λ (v : Moves). BeginsWithArrival starts b.to true b.low s.1 s.0 cells v) h.3 one in
    subst (λ (v : ℕ). Plays starts b.to v s.1 s.0 [] cells rest) (sym h.4) two.1

pub begins_of : {starts : Starts} {a : Actor} → ActorOk starts a → BeginsWithArrival starts a.birth.to (travels a.birth) a.birth.low a.start.1 a.start.0 a.named a.moves
begins_of {starts = starts} {a = a} (away e t m c s) =
    subst (λ (v : Bool). BeginsWithArrival starts a.birth.to v a.birth.low a.start.1 a.start.0 a.named a.moves) (sym t)
    (subst (λ (v : Moves). BeginsWithArrival starts a.birth.to true a.birth.low a.start.1 a.start.0 a.named v) (sym m) c)
begins_of {starts = starts} {a = a} (here e low rest l g) = begins_landed starts a.birth a.start a.named a.moves rest low l (stopped g)
begins_of (over e h) = h

phases : {p q r : Phase} → p ≡ q → p ≡ r → q ≡ r
phases h k = sym h ∙ k

pub ok_step : {starts : Starts} {n k : ℕ} {i : LedgerItem} {before after : List Actor} {a b : Actor} → Change n k i before after a b → ((t : TaskId) (act : Act) (z : Stand) → i.entry ≡ Step t act z.batch → ((c : TaskId) → started_by act ≡ Some c → (from to : PlaceId) × (slice_get after (length before) ≡ Some (actor_born n i from to z))) → StartsSo starts z.term z.vars act) → ActorOk starts a → ActorOk starts b
ok_step (same h) so ok = ok
ok_step {starts = starts} {n = n} {i = i} {a = a} (lands t p it e by gone none) so (away f tr m c s) =
    here refl (suc n) [] (inr (n, p, tr, ap (λ (v : Moves). v ++ (n, Arrive p, []) ∷ []) m, refl))
    (subst (λ (v : Cells). StandGoes starts a.birth.to (first_stand (suc n) a.start) v [] (record { low = suc n; vars = a.stand.vars; term = a.stand.term; batch = a.stand.batch })) (sym c)
    (subst (λ (v : Stand). StandGoes starts a.birth.to (first_stand (suc n) a.start) [] [] (record { low = suc n; vars = v.vars; term = v.term; batch = v.batch })) (sym s) segments.stays))
ok_step (lands t p it e by gone none) so (here f low rest l g) = absurd (let h : Present ≡ Away = phases f gone in let j : ⊥ = cc in j)
ok_step (lands t p it e by gone none) so (over f h) = absurd (let j : Over ≡ Away = phases f gone in let l : ⊥ = cc in l)
ok_step (goes_on t act z it e by there walks top fits new) so (away f tr m c s) = absurd (let h : Away ≡ Present = phases f there in let j : ⊥ = cc in j)
ok_step {starts = starts} {n = n} {i = i} {a = a} (goes_on t act z it e by there walks top fits new) so (here f low rest l g) =
    let asked : StandGoes starts a.birth.to z [] ((n, act, z.batch) ∷ []) (record { low = suc n; vars = vars_told (does z.vars a.birth.to.0 z.term) act z.vars; term = granted (brought act) z.term; batch = [] }) = segments.asks top fits (so t act z e new) segments.stays in
    let one = joined g (walk_goes walks asked) in
    here f low (rest ++ (n, act, z.batch) ∷ []) (landed_more a.birth a.moves rest low (n, act, z.batch) l)
    (subst (λ (v : Cells). StandGoes starts a.birth.to (first_stand low a.start) (a.named ++ v) (rest ++ (n, act, z.batch) ∷ []) (record { low = suc n; vars = vars_told (does z.vars a.birth.to.0 z.term) act z.vars; term = granted (brought act) z.term; batch = [] })) (append-nil i.events) one)
ok_step (goes_on t act z it e by there walks top fits new) so (over f h) = absurd (let j : Over ≡ Present = phases f there in let l : ⊥ = cc in l)
ok_step (leaves t faults z it e by there walks top done) so (away f tr m c s) = absurd (let h : Away ≡ Present = phases f there in let j : ⊥ = cc in j)
ok_step {starts = starts} {n = n} {i = i} {a = a} (leaves t faults z it e by there walks top done) so (here f low rest l g) =
    let ws : StandGoes starts a.birth.to a.stand (i.events ++ []) [] z = walk_goes walks segments.stays in
    let one : StandGoes starts a.birth.to (first_stand low a.start) (a.named ++ (i.events ++ [])) (rest ++ []) z = joined g ws in
    let two : StandGoes starts a.birth.to (first_stand low a.start) (a.named ++ i.events) (rest ++ []) z = subst (λ (v : Cells). StandGoes starts a.birth.to (first_stand low a.start) (a.named ++ v) (rest ++ []) z) (append-nil i.events) one in
    let three : StandGoes starts a.birth.to (first_stand low a.start) (a.named ++ i.events) rest z = subst (λ (v : Moves). StandGoes starts a.birth.to (first_stand low a.start) (a.named ++ i.events) v z) (append-nil rest) two in
    over refl (begins_landed starts a.birth a.start (a.named ++ i.events) (a.moves ++ (n, End faults, z.batch) ∷ []) (rest ++ (n, End faults, z.batch) ∷ []) low (landed_more a.birth a.moves rest low (n, End faults, z.batch) l) (ended n faults three top done))
ok_step (leaves t faults z it e by there walks top done) so (over f h) = absurd (let j : Over ≡ Present = phases f there in let l : ⊥ = cc in l)

pub ok_new : {starts : Starts} (n : ℕ) (i : LedgerItem) (from to : PlaceId) (z : Stand) → ActorOk starts (actor_born n i from to z)
ok_new {starts = starts} n i from to z = either (from.0 == to.0) refl where
  either : (v : Bool) → (from.0 == to.0) ≡ v → ActorOk starts (actor_born n i from to z)
  either true e = here (ap (λ b. cond b Present Away) e) (suc n) [] (inl (ap not e, refl, refl)) segments.stays
  either false e = away (ap (λ b. cond b Present Away) e) (ap not e) refl refl refl
