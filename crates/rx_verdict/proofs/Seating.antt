-- The pass over the entries as a whole.
use Rattle.std.proofs.Common.{◌≡◌, ◌≢◌, ℕ, suc, ◌+◌, ◌<◌, Bool, true, false, cond, List, [], ◌∷◌, ◌++◌, length, take, Option, Some, None, slice_get, slice_set, refl, ap, sym, subst, ◌∙◌, arith, ⊎_elim}
use Rattle.std.proofs.lemmas.List.{append-nil, length-take-le}
use Rattle.rx_rules.proofs.Common.{PlaceId, TaskId, Block, Allowed, opening, tree_of, births, births_of, Player, acted, Cells, Moves, Starts, StartsSo, birth_of, travels, started_by, moves_from, Given, plan_of, NoRoot, Term, Vars, child}
use Rattle.rx_rules.specs.declared.entries.Act.{Act}
use Rattle.rx_rules.specs.declared.entries.Act.TheVariants.{Arrive}
use Rattle.rx_rules.specs.declared.entries.Entry.{Entry}
use Rattle.rx_rules.specs.declared.entries.Entry.TheVariants.{Step}
use Rattle.rx_rules.specs.declared.events.PlaceEvent.{PlaceEvent}
use Rattle.rx_rules.proofs.Numbers.{next-tree}
use Rattle.rx_runs.specs.Games.{fresh, Pairs}
use Rattle.rx_runs.specs.Segments.{plan_left, InTime}
use Rattle.rx_runs.proofs.Append.{allowed-push}
use Rattle.rx_runs.proofs.Pairs.{pairs-map, pairs-set, pairs-push, pairs-get, pairs-length, set_same}
use Rattle.rx_runs.proofs.Pushes.{plan-push}
use Rattle.rx_verdict.specs.Makes.{Made, Landing, cells_of}
use Rattle.rx_verdict.specs.Marks.{home_of}
use Rattle.rx_verdict.specs.Parts.{IsQuiet}
use Rattle.rx_verdict.specs.Passes.{IsAway, IsAt, HasEnded}
use Rattle.rx_verdict.specs.Seats.{Seat, Away, Stands, Over, SeatIs, Seated, MayFollow, main_start, newborn_seat, newborn_seats, IsRequest, SeatsTell, PartFollows, SeatsWalk, SeatAsks, SeatEnds, SeatArrives, SeatRefuses}
use Rattle.rx_verdict.specs.Verdicts.{Part}
use Rattle.rx_verdict.specs.Walks as walks
use Rattle.rx_verdict.specs.Walks.{Walks, next_does, AsksLedger}
use Rattle.rx_verdict.proofs.Births.{starts}
use Rattle.rx_verdict.proofs.Deciding.{no_start, seat_walks, request_decides, end_decides, halt_decides, opening_stands}
use Rattle.rx_runs.proofs.RootLast.{root_last-push}
use Rattle.rx_verdict.proofs.Parting.{take_next, part_goes_on, quiet_made, quiet_seats}
use Rattle.rx_verdict.proofs.Passing.{Grown, Stage, walks_wider, entry_is_made, player_makes, player_goes_on, away_only, away_arrives, ended_never, others_stay, newborn_none}
use Rattle.rx_verdict.proofs.Walking.{MakesFrom, IsAsked, at_request}
use Rattle.std.proofs.lemmas.Option.{slice_get_within}
use Rattle.rx_base.proofs.Elements.{get-last}

-- A seat and the start of its task.

record Sits (starts : Starts) (es : List Entry) (js : List (List PlaceEvent)) (t : ℕ) (x : Seat) : Type 0 where
  start : Term × Vars
  begins : slice_get starts t ≡ Some start
  inside : t < length starts
  is : SeatIs starts es js t start x

sits : (starts : Starts) (es : List Entry) (js : List (List PlaceEvent)) (seats : List Seat) → Pairs (SeatIs starts es js) 0 starts seats → (t : ℕ) (x : Seat) → slice_get seats t ≡ Some x → Sits starts es js t x
sits starts es js seats h t x e =
    let size : length starts ≡ length seats = pairs-length (SeatIs starts es js) 0 starts seats h in
    let l : t < length seats = slice_get_within seats t x e in
    let low : t < length starts = omega (arith, size, l) in
    let b = pairs-get {P = SeatIs starts es js} 0 t starts seats low h in
    let z : 0 + t ≡ t = omega arith in
    let same : b.right ≡ x = (let f = b.at_right in cc (e, f)) in
    record {
      start = b.left;
      begins = b.at_left;
      inside = low;
      is = subst (λ (y : Seat). SeatIs starts es js t b.left y) same (subst (λ (k : ℕ). SeatIs starts es js k b.left b.right) z b.holds);
    }

-- one seat changes, and the others are where they were
changed : (from to : Starts) (es later : List Entry) (js : List (List PlaceEvent)) (seats : List Seat) (t : ℕ) (s : Term × Vars) (x : Seat) → ((u : ℕ) (r : Term × Vars) (y : Seat) → t ≢ u → u < length from → SeatIs from es js u r y → SeatIs to later js u r y) → slice_get from t ≡ Some s → SeatIs to later js t s x → Pairs (SeatIs from es js) 0 from seats → Pairs (SeatIs to later js) 0 from (slice_set seats t x)
changed from to es later js seats t s x others e h each =
    let z : 0 + t ≡ t = omega arith in
    subst (λ (l : Starts). Pairs (SeatIs to later js) 0 l (slice_set seats t x)) (set_same from t s e)
    (pairs-set {P = SeatIs from es js} {Q = SeatIs to later js} 0 t from seats s x
    (λ u r y ne low k. others u r y (λ f. ne (z ∙ f)) (let l : u < 0 + length from = low in omega (arith, l)) k)
    (subst (λ (k : ℕ). SeatIs to later js k s x) (sym z) h) each)

-- The entries so far, and one act more.

module _ (code : Block) (U : Given) (es : List Entry) (js : List (List PlaceEvent)) (seats : List Seat) (p : Seated code U es js seats) (t : TaskId) (act : Act) (batch : List (List ℕ)) (next : Allowed (tree_of U.places es) (Step t act batch)) (root : NoRoot es) (time : InTime (length es) (plan_left (plan_of U) es) (Step t act batch)) (s : Term × Vars) (begins : slice_get p.starts t.0 ≡ Some s) where
  abbrev later : List Entry
  later = es ++ Step t act batch ∷ []

  stage : Stage code U.places es js p.starts t act batch s
  stage = record { some = p.some; few = p.few; allowed = p.allowed; made = p.made; next = next; start = begins }

  size : length p.starts ≡ 1 + births es
  size = p.made.all

  -- another task keeps its seat
  keeps : (to : Starts) → Grown p.starts act to → (u : ℕ) (r : Term × Vars) (y : Seat) → t.0 ≢ u → u < length p.starts → SeatIs p.starts es js u r y → SeatIs to later js u r y
  keeps to grown u r (Away q) ne low h =
      let k = size in
      ((others_stay code U.places es js p.starts t act batch s stage to grown u r (fresh r) [] (omega (arith, low, k)) ne).0 h.0, h.1)
  keeps to grown u r (Stands z left) ne low h = let k = size in (others_stay code U.places es js p.starts t act batch s stage to grown u r z left (omega (arith, low, k)) ne).1 h
  keeps to grown u r Over ne low h = let k = size in (others_stay code U.places es js p.starts t act batch s stage to grown u r (fresh r) [] (omega (arith, low, k)) ne).2 h

  -- the entries with this one, where all terms make it
  seated : (to : Starts) (all : List Seat) → Made code U.places later js to → Pairs (SeatIs to later js) 0 to all → Seated code U later js all
  seated to all made each =
      let z : length es ≡ 0 + length es = omega arith in
      record {
        some = p.some;
        few = p.few;
        allowed = allowed-push 0 (opening U.places) es (Step t act batch) p.allowed next;
        rooted = root_last-push es (Step t act batch) root;
        plan = plan-push 0 (plan_of U) es (Step t act batch) p.plan (subst (λ (k : ℕ). InTime k (plan_left (plan_of U) es) (Step t act batch)) z time);
        starts = to;
        made = made;
        each = each;
      }

  -- no task is born
  pub same_tasks : (x : Seat) → started_by act ≡ None → Made code U.places later js p.starts → SeatIs p.starts later js t.0 s x → Seated code U later js (slice_set seats t.0 x)
  same_tasks x e made h =
      let grown : Grown p.starts act p.starts = subst (λ (o : Option TaskId). elim o as (λ _. Type 0) [ Some c ↦ (x : Term × Vars) × (p.starts ≡ p.starts ++ x ∷ []) | None ↦ p.starts ≡ p.starts ]) (sym e) refl in
      seated p.starts (slice_set seats t.0 x) made (changed p.starts p.starts es later js seats t.0 s x (keeps p.starts grown) begins h p.each)

  -- one task is born
  born_task : (x : Seat) (c : TaskId) (r : Term × Vars) → started_by act ≡ Some c → Made code U.places later js (p.starts ++ r ∷ []) → SeatIs (p.starts ++ r ∷ []) later js t.0 s x → Seated code U later js (slice_set seats t.0 x ++ newborn_seat later js c.0 r ∷ [])
  born_task x c r e made h =
      let to : Starts = p.starts ++ r ∷ [] in
      let grown : Grown p.starts act to = subst (λ (o : Option TaskId). elim o as (λ _. Type 0) [ Some c ↦ (x : Term × Vars) × (to ≡ p.starts ++ x ∷ []) | None ↦ to ≡ p.starts ]) (sym e) (r, refl) in
      let number = next-tree U.places es in
      let k = size in
      let at : c.0 ≡ 0 + length p.starts =
      ⊎_elim
      (λ (b : (d : TaskId) × (started_by act ≡ Some d) × (d.0 ≡ (tree_of U.places es).next_task) × (births_of (Step t act batch) ≡ 1)).
      let same : b.0.0 ≡ c.0 = ap (λ (y : TaskId). y.0) (no_start act b.0 c b.1 e) in let d = b.2 in omega (arith, same, d, number, k))
      (λ (b : (started_by act ≡ None) × (births_of (Step t act batch) ≡ 0)). absurd (let f = b.0 in let n : ⊥ = cc (e, f) in n))
      (starts (tree_of U.places es) t act batch next) in
      let nth : 1 + births es ≡ c.0 = omega (arith, at, k) in
      let none : moves_from 0 later c.0 ≡ [] = ap (λ (u : ℕ). moves_from 0 later u) (sym nth) ∙ newborn_none code U.places es js p.starts t act batch s stage in
      let new : SeatIs to later js c.0 r (newborn_seat later js c.0 r) = stands to c.0 r none (travels (birth_of later c.0)) refl in
      seated to (slice_set seats t.0 x ++ newborn_seat later js c.0 r ∷ []) made
      (pairs-push (SeatIs to later js) 0 p.starts (slice_set seats t.0 x) r (newborn_seat later js c.0 r)
      (subst (λ (u : ℕ). SeatIs to later js u r (newborn_seat later js c.0 r)) at new)
      (changed p.starts to es later js seats t.0 s x (keeps to grown) begins h p.each))
    where
      stands : (to : Starts) (c : ℕ) (r : Term × Vars) → moves_from 0 later c ≡ [] → (b : Bool) → travels (birth_of later c) ≡ b → SeatIs to later js c r (cond b (Away r) (Stands (fresh r) (cells_of later js c)))
      stands to c r none true e = ((e, none), refl)
      stands to c r none false e =
          subst (λ (v : Bool × Moves). Landing (λ low moves. Walks to (birth_of later c).to (fresh r) (cells_of later js c) moves (fresh r) (cells_of later js c)) ⊥ v.0 (birth_of later c).low v.1) {x = (false, [])} {y = (travels (birth_of later c), moves_from 0 later c)} (λ j. (sym e j, sym none j)) walks.stays

  -- at a request
  pub asked : (z : Player) (left : Cells) → IsAt p.starts es js t.0 s z left → AsksLedger (next_does (home_of es t.0) z) → IsRequest es t act batch z → Seated code U later js (slice_set seats t.0 (Stands (acted (home_of es t.0) z act) left) ++ newborn_seats later js z act)
  asked z left at asks k = by_start (started_by act) refl where
    -- over this list of starts
    over : (to : Starts) → Grown p.starts act to → StartsSo to z.term z.vars act → Made code U.places later js to × IsAt to later js t.0 s (acted (home_of es t.0) z act) left
    over to grown so =
        let is : IsAsked to (home_of es t.0) z (length es, act, batch) = (k.0, k.1, so) in
        let one : MakesFrom to (home_of es t.0) z left ((length es, act, batch) ∷ []) left = (at_request to (home_of es t.0) z left (length es, act, batch) asks).0 is in
        (entry_is_made code U.places es js p.starts t act batch s stage to grown (player_makes code U.places es js p.starts t act batch s stage to grown z left left at one), player_goes_on code U.places es js p.starts t act batch s stage to grown z left at is)

    by_start : (o : Option TaskId) → started_by act ≡ o → Seated code U later js (slice_set seats t.0 (Stands (acted (home_of es t.0) z act) left) ++ newborn_seats later js z act)
    by_start None e =
        let grown : Grown p.starts act p.starts = subst (λ (o : Option TaskId). elim o as (λ _. Type 0) [ Some c ↦ (x : Term × Vars) × (p.starts ≡ p.starts ++ x ∷ []) | None ↦ p.starts ≡ p.starts ]) (sym e) refl in
        let so : StartsSo p.starts z.term z.vars act = subst (λ (o : Option TaskId). elim o as (λ _. Type 0) [ Some c ↦ slice_get p.starts c.0 ≡ Some (child z.term, z.vars) | None ↦ Unit {0} ]) (sym e) tt in
        let r = over p.starts grown so in
        let none : newborn_seats later js z act ≡ [] = ap (λ (o : Option TaskId). elim o as (λ _. List Seat) [ Some c ↦ newborn_seat later js c.0 (child z.term, z.vars) ∷ [] | None ↦ [] ]) e in
        subst (λ (l : List Seat). Seated code U later js l)
        (sym (append-nil (slice_set seats t.0 (Stands (acted (home_of es t.0) z act) left))) ∙ ap (λ (l : List Seat). slice_set seats t.0 (Stands (acted (home_of es t.0) z act) left) ++ l) (sym none))
        (same_tasks (Stands (acted (home_of es t.0) z act) left) e r.0 r.1)
    by_start (Some c) e =
        let x : Term × Vars = (child z.term, z.vars) in
        let to : Starts = p.starts ++ x ∷ [] in
        let number = next-tree U.places es in
        let k' = size in
        let at' : c.0 ≡ length p.starts =
        ⊎_elim
        (λ (b : (d : TaskId) × (started_by act ≡ Some d) × (d.0 ≡ (tree_of U.places es).next_task) × (births_of (Step t act batch) ≡ 1)).
        let same : b.0.0 ≡ c.0 = ap (λ (y : TaskId). y.0) (no_start act b.0 c b.1 e) in let d = b.2 in omega (arith, same, d, number, k'))
        (λ (b : (started_by act ≡ None) × (births_of (Step t act batch) ≡ 0)). absurd (let f = b.0 in let n : ⊥ = cc (e, f) in n))
        (starts (tree_of U.places es) t act batch next) in
        let grown : Grown p.starts act to = subst (λ (o : Option TaskId). elim o as (λ _. Type 0) [ Some c ↦ (x : Term × Vars) × (to ≡ p.starts ++ x ∷ []) | None ↦ to ≡ p.starts ]) (sym e) (x, refl) in
        let so : StartsSo to z.term z.vars act = subst (λ (o : Option TaskId). elim o as (λ _. Type 0) [ Some c ↦ slice_get to c.0 ≡ Some (child z.term, z.vars) | None ↦ Unit {0} ]) (sym e) (get-last p.starts x c.0 at') in
        let r = over to grown so in
        let one : newborn_seats later js z act ≡ newborn_seat later js c.0 x ∷ [] = ap (λ (o : Option TaskId). elim o as (λ _. List Seat) [ Some c ↦ newborn_seat later js c.0 (child z.term, z.vars) ∷ [] | None ↦ [] ]) e in
        subst (λ (l : List Seat). Seated code U later js (slice_set seats t.0 (Stands (acted (home_of es t.0) z act) left) ++ l)) (sym one)
        (born_task (Stands (acted (home_of es t.0) z act) left) c x e r.0 r.1)

-- The entries so far are the first i of a history.

module _ (code : Block) (U : Given) (es : List Entry) (js : List (List PlaceEvent)) (i : ℕ) (seats : List Seat) (p : Seated code U (take i es) js seats) (e : Entry) (f : MayFollow U es i e) where
  next_is : take (suc i) es ≡ take i es ++ e ∷ []
  next_is = take_next es i e f.here

  time_is : InTime (length (take i es)) (plan_left (plan_of U) (take i es)) e
  time_is =
      let l : i < length es = slice_get_within es i e f.here in
      subst (λ (k : ℕ). InTime k (plan_left (plan_of U) (take i es)) e) (sym (length-take-le i es (omega arith))) f.in_time

  made_with : (h : Part code U es js (suc i)) → Made code U.places (take i es ++ e ∷ []) js h.starts
  made_with h = subst (λ (l : List Entry). Made code U.places l js h.starts) next_is h.made

pub seat_asks : SeatAsks
seat_asks code U es js i seats t act batch z left p f at asks =
    let x = sits p.starts (take i es) js seats p.each t.0 (Stands z left) at in
    let e : Entry = Step t act batch in (
      λ k. subst (λ (l : List Entry). Seated code U l js (slice_set seats t.0 (Stands (acted (home_of (take i es) t.0) z act) left) ++ newborn_seats l js z act)) (sym (next_is code U es js i seats p e f))
          (asked code U (take i es) js seats p t act batch f.allowed f.no_root (time_is code U es js i seats p e f) x.start x.begins z left x.is asks k),
      λ h. (request_decides code U.places (take i es) js p.starts t act batch x.start z left (stage code U (take i es) js seats p t act batch f.allowed f.no_root (time_is code U es js i seats p e f) x.start x.begins) x.is asks).1 h.starts (made_with code U es js i seats p e f h),
    )

pub seat_ends : SeatEnds
seat_ends code U es js i seats t act batch z left faults p f at done =
    let x = sits p.starts (take i es) js seats p.each t.0 (Stands z left) at in
    let e : Entry = Step t act batch in
    let g = stage code U (take i es) js seats p t act batch f.allowed f.no_root (time_is code U es js i seats p e f) x.start x.begins in
    let decides = end_decides code U.places (take i es) js p.starts t act batch x.start z left faults g x.is done in (
      λ k. let r = decides.0 k in
          subst (λ (l : List Entry). Seated code U l js (slice_set seats t.0 Over)) (sym (next_is code U es js i seats p e f))
          (same_tasks code U (take i es) js seats p t act batch f.allowed f.no_root (time_is code U es js i seats p e f) x.start x.begins Over (ap started_by k.1) r.0 r.1),
      λ h. decides.1 h.starts (made_with code U es js i seats p e f h),
    )

arrives : (code : Block) (U : Given) (es : List Entry) (js : List (List PlaceEvent)) (i : ℕ) (seats : List Seat) (t : TaskId) (q : PlaceId) (r : Term × Vars) → Seated code U (take i es) js seats → MayFollow U es i (Step t (Arrive q) []) → slice_get seats t.0 ≡ Some (Away r) → Seated code U (take (suc i) es) js (slice_set seats t.0 (Stands (fresh r) (cells_of (take i es) js t.0)))
arrives code U es js i seats t q r p f at =
    let x = sits p.starts (take i es) js seats p.each t.0 (Away r) at in
    let e : Entry = Step t (Arrive q) [] in
    let g = stage code U (take i es) js seats p t (Arrive q) [] f.allowed f.no_root (time_is code U es js i seats p e f) x.start x.begins in
    let a = away_arrives code U.places (take i es) js p.starts t q x.start g x.is.0 in
    let made = entry_is_made code U.places (take i es) js p.starts t (Arrive q) [] x.start g p.starts refl a.0 in
    subst (λ (l : List Entry). Seated code U l js (slice_set seats t.0 (Stands (fresh r) (cells_of (take i es) js t.0)))) (sym (next_is code U es js i seats p e f))
    (same_tasks code U (take i es) js seats p t (Arrive q) [] f.allowed f.no_root (time_is code U es js i seats p e f) x.start x.begins (Stands (fresh r) (cells_of (take i es) js t.0)) refl made
    (subst (λ (v : Term × Vars). IsAt p.starts (take i es ++ e ∷ []) js t.0 x.start (fresh v) (cells_of (take i es) js t.0)) (sym x.is.1) a.1))

pub seat_arrives : SeatArrives
seat_arrives code U es js i seats t act batch r p f at =
    let x = sits p.starts (take i es) js seats p.each t.0 (Away r) at in
    let e : Entry = Step t act batch in
    let g = stage code U (take i es) js seats p t act batch f.allowed f.no_root (time_is code U es js i seats p e f) x.start x.begins in (
      λ q a b. arrives code U es js i seats t q r p (subst (λ (v : Act × List (List ℕ)). MayFollow U es i (Step t v.0 v.1)) {x = (act, batch)} {y = (Arrive q, [])} (λ j. (a j, b j)) f) at,
      λ h. away_only code U.places (take i es) js p.starts t act batch x.start g h.starts x.is.0 (made_with code U es js i seats p e f h),
    )

pub seat_refuses : SeatRefuses
seat_refuses code U es js i seats t act batch p f =
    let e : Entry = Step t act batch in (
      λ z left at asks halts h.
          let x = sits p.starts (take i es) js seats p.each t.0 (Stands z left) at in
          let g = stage code U (take i es) js seats p t act batch f.allowed f.no_root (time_is code U es js i seats p e f) x.start x.begins in
          halt_decides code U.places (take i es) js p.starts h.starts t act batch x.start z left g x.is asks halts (made_with code U es js i seats p e f h),
      λ at h.
          let x = sits p.starts (take i es) js seats p.each t.0 Over at in
          let g = stage code U (take i es) js seats p t act batch f.allowed f.no_root (time_is code U es js i seats p e f) x.start x.begins in
          ended_never code U.places (take i es) js p.starts t act batch x.start g h.starts x.is (made_with code U es js i seats p e f h),
    )

stays_so : (starts : Starts) (es rest : List Entry) (js : List (List PlaceEvent)) → ((u : ℕ) (r : Term × Vars) (z : Player) (left : Cells) → (IsAway es u → IsAway rest u) × (IsAt starts es js u r z left → IsAt starts rest js u r z left) × (HasEnded es u → HasEnded rest u)) → (u : ℕ) (r : Term × Vars) (y : Seat) → SeatIs starts es js u r y → SeatIs starts rest js u r y
stays_so starts es rest js h u r (Away q) k = ((h u r (fresh r) []).0 k.0, k.1)
stays_so starts es rest js h u r (Stands z left) k = (h u r z left).1 k
stays_so starts es rest js h u r Over k = (h u r (fresh r) []).2 k

-- an entry of no task changes no seat
abbrev pub SeatsStay : Type 0
SeatsStay = (code : Block) (U : Given) (es : List Entry) (js : List (List PlaceEvent)) (i : ℕ) (seats : List Seat) (e : Entry) → Seated code U (take i es) js seats → MayFollow U es i e → IsQuiet e → Seated code U (take (suc i) es) js seats

pub seats_stay : SeatsStay
seats_stay code U es js i seats e p f q =
    let z : length (take i es) ≡ 0 + length (take i es) = omega arith in
    subst (λ (l : List Entry). Seated code U l js seats) (sym (next_is code U es js i seats p e f))
    (record {
      some = p.some;
      few = p.few;
      allowed = allowed-push 0 (opening U.places) (take i es) e p.allowed f.allowed;
      rooted = root_last-push (take i es) e f.no_root;
      plan = plan-push 0 (plan_of U) (take i es) e p.plan (subst (λ (k : ℕ). InTime k (plan_left (plan_of U) (take i es)) e) z (time_is code U es js i seats p e f));
      starts = p.starts;
      made = quiet_made code U.places (take i es) js p.starts e q p.made;
      each = pairs-map {P = SeatIs p.starts (take i es) js} {Q = SeatIs p.starts (take i es ++ e ∷ []) js} 0 p.starts seats (λ u r y le low k. stays_so p.starts (take i es) (take i es ++ e ∷ []) js (quiet_seats code U.places (take i es) js p.starts e q p.made) u r y k) p.each;
    })

pub seats_walk : SeatsWalk
seats_walk code U es js seats t z y left rest p at w =
    let x = sits p.starts es js seats p.each t (Stands z left) at in
    let over : Walks p.starts (home_of es t) z left [] y rest = walks_wider [] p.starts (λ c v none. absurd (let f : ⊥ = cc in f)) (home_of es t) w in
    record {
      some = p.some;
      few = p.few;
      allowed = p.allowed;
      rooted = p.rooted;
      plan = p.plan;
      starts = p.starts;
      made = p.made;
      each = changed p.starts p.starts es es js seats t x.start (Stands y rest) (λ u r v ne low k. k) x.begins (seat_walks p.starts es js t x.start z y left rest x.is over) p.each;
    }

pub part_follows : PartFollows
part_follows code U es js i e at h =
    let g = (part_goes_on code U es js i e at).1 h in
    let l : i < length es = slice_get_within es i e at in
    record {
      here = at;
      allowed = g.allowed;
      no_root = g.no_root;
      in_time = subst (λ (k : ℕ). InTime k (plan_left (plan_of U) (take i es)) e) (length-take-le i es (omega arith)) g.in_time;
    }

pub seats_tell : SeatsTell
seats_tell code U es js = (
  λ some few.
      let h = opening_stands code U.places js in
      record { some = some; few = few; allowed = tt; rooted = tt; plan = tt; starts = main_start code U.places ∷ []; made = h.0; each = (h.1, tt) },
  λ i seats p. record { allowed = p.allowed; rooted = p.rooted; plan = p.plan; starts = p.starts; made = p.made },
  λ i seats t z left p at.
      let x = sits p.starts (take i es) js seats p.each t (Stands z left) at in
      record { starts = p.starts; made = p.made; start = x.start; begins = x.begins; seat = x.is },
  λ seats p. record { some = p.some; few = p.few; allowed = p.allowed; starts = p.starts; made = p.made },
  λ seats t r p at. (sits p.starts es js seats p.each t (Away r) at).is.0,
)
