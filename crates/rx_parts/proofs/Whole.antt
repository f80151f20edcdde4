-- The ledger's history and those of the say one run of each task's term.
use Rattle.std.proofs.Common.{◌≡◌, ◌≢◌, ◌⊎◌, ℕ, zero, suc, ◌+◌, ◌<◌, ◌≤◌, Bool, true, false, cond, ◌==◌, List, [], ◌∷◌, ◌++◌, map, length, slice_get, Some, None, refl, arith, ap, sym, ◌∙◌, subst, append_assoc, inl, inr}
use Rattle.std.specs.List.{filter_map, cons_option}
use Rattle.std.proofs.lemmas.Bool.{eqb-true, eq-eqb, ne_eqb, true≢false}
use Rattle.std.proofs.lemmas.List.{append-nil, length-map}
use Rattle.std.proofs.lemmas.List.Elements.{filter_map-append}
use Rattle.rx_rules.proofs.Common.{PlaceId, Block, Term, Vars, opening, births, Starts, Cells, Moves, Birth, Plays, BeginsWithArrival, EachPlays, Played, birth_of, travels, cell_of, journal_at, moves_from, Given, NotFalling, AtHome, UpTo}
use Rattle.rx_rules.specs.declared.entries.Entry.{Entry}
use Rattle.rx_rules.specs.declared.events.PlaceEvent.{PlaceEvent}
use Rattle.rx_rules.specs.declared.events.PlaceEvent.TheVariants.{Done as Did, Close}
use Rattle.rx_base.proofs.Prefixes.{prefix-trans}
use Rattle.rx_rules.specs.declared.entries.Entry.{Entry}
use Rattle.rx_rules.specs.declared.events.PlaceEvent.{PlaceEvent}
use Rattle.rx_rules.specs.declared.events.PlaceEvent.TheVariants.{Done as Did, Close}
use Rattle.rx_runs.specs.Segments as segments
use Rattle.rx_runs.specs.Segments.{Stand, StandGoes}
use Rattle.rx_runs.proofs.Segments.{joined, stopped}
use Rattle.rx_parts.specs.Ledger.{LedgerItem, Actor, Away, Present, Over, Walks, stays, local, stores, main_actor, first_stand, AllMake, LegalLedger, entries_of}
use mathlib.Core.List.{IsPrefix}
use Rattle.rx_parts.specs.Places.{MadeEvent, event_of, journal_of, MayMake, LegalFrom, LegalPlace, last_carried, seen_by}
use Rattle.rx_parts.specs.Parts.{EachPlace, journals_of, AreParts, EachStamped, PartsPlay}
use Rattle.rx_parts.proofs.Lists.{one_item, inside, got_map, prefix_none}
use Rattle.rx_parts.proofs.Merging.{accounts-merge}
use Rattle.rx_parts.proofs.Tasks.{Later, later, LandedBy, ActorOk, away, here, over, begins_of, begins_landed, plays_landed, walk_goes}
use Rattle.rx_parts.proofs.Along.{Agree, AllOk, agree_back, ok_along, sized_along, moves_in, moves_along, birth_late, birth_early}
use Rattle.rx_parts.proofs.Determined.{leads_once, leads_split}

abbrev pub start_of : Actor → Term × Vars
start_of a = a.start

abbrev pub starts_of : List Actor → Starts
starts_of actors = map start_of actors

pub agrees : (actors : List Actor) → Agree (starts_of actors) actors
agrees actors k a got = got_map start_of actors k a got

-- the main task alone
main_ok : (starts : Starts) (code : Block) (q : ℕ) → AllOk starts (main_actor code q ∷ [])
main_ok starts code q zero a got = let e : main_actor code q ≡ a = cc in subst (ActorOk starts) e (here refl 0 [] (inl (refl, refl, refl)) segments.stays)
main_ok starts code q (suc k) a got = absurd (let f : ⊥ = cc in f)

-- each task of a legal history, where the starts are as it says
pub legal_ok : (starts : Starts) (code : Block) (U : Given) (h : List LedgerItem) (legal : LegalLedger code U h) → Agree starts legal.actors → AllOk starts legal.actors
legal_ok starts code U h legal agree = ok_along starts 0 (opening U.places) (main_actor code U.places ∷ []) h legal.actors legal.folds.allowed refl legal.made agree (main_ok starts code U.places)

-- what its entries are, and its birth
pub legal_moves : (code : Block) (U : Given) (h : List LedgerItem) (legal : LegalLedger code U h) (k : ℕ) (a : Actor) → slice_get legal.actors k ≡ Some a → a.moves ≡ moves_from 0 (entries_of h) k
legal_moves code U h legal k a got = sym (ap moves_in got) ∙ moves_along 0 (main_actor code U.places ∷ []) h legal.actors k legal.made ∙ none k where
  none : (k : ℕ) → moves_in (slice_get (main_actor code U.places ∷ []) k) ++ moves_from 0 (entries_of h) k ≡ moves_from 0 (entries_of h) k
  none zero = refl
  none (suc k) = refl

pub legal_birth : (code : Block) (U : Given) (h : List LedgerItem) (legal : LegalLedger code U h) (k : ℕ) (a : Actor) → slice_get legal.actors k ≡ Some a → birth_of (entries_of h) k ≡ a.birth
legal_birth code U h legal zero a got =
    let w = later 0 (main_actor code U.places ∷ []) h legal.actors legal.made 0 (main_actor code U.places) refl in
    let it : w.0 ≡ a = one_item (slice_get legal.actors 0) w.0 a w.1 got in
    birth_early 0 (opening U.places) (main_actor code U.places ∷ []) h legal.actors legal.folds.allowed refl legal.made 0 (omega arith) ∙ sym w.2.birth ∙ ap (λ (v : Actor). v.birth) it
legal_birth code U h legal (suc k) a got = birth_late 0 (opening U.places) (main_actor code U.places ∷ []) h legal.actors legal.folds.allowed refl legal.made (suc k) a (omega arith) got

-- a task of a history is a later one in a longer history
pub legal_later : (code : Block) (U : Given) (g h : List LedgerItem) (short : LegalLedger code U g) (long : LegalLedger code U h) → (e : IsPrefix g h) → AllMake (length g) short.actors e.0 long.actors
legal_later code U g h short long e =
    let led : AllMake 0 (main_actor code U.places ∷ []) (g ++ e.0) long.actors = subst (λ (v : List LedgerItem). AllMake 0 (main_actor code U.places ∷ []) v long.actors) (sym e.1) long.made in
    let s = leads_split 0 (main_actor code U.places ∷ []) g e.0 long.actors led in
    let same : s.0 ≡ short.actors = leads_once 0 (main_actor code U.places ∷ []) g s.0 short.actors s.1 short.made in
    let z : 0 + length g ≡ length g = omega arith in
    subst (λ (v : List Actor). AllMake (length g) v e.0 long.actors) same (subst (λ (v : ℕ). AllMake v s.0 e.0 long.actors) z s.2)

-- The last event of a task at a place.

-- no stamp is above
abbrev pub NoneAbove : ℕ → List PlaceEvent → Type 0
NoneAbove n [] = Unit {0}
NoneAbove n (Did t stamp cell x ∷ j) = (stamp ≤ n) × NoneAbove n j
NoneAbove n (Close stamp ∷ j) = NoneAbove n j

above_more : (m n : ℕ) → m ≤ n → (j : List PlaceEvent) → NoneAbove m j → NoneAbove n j
above_more m n le [] h = tt
above_more m n le (Did t stamp cell x ∷ j) h = (let s : stamp ≤ m = h.0 in omega arith, above_more m n le j h.1)
above_more m n le (Close stamp ∷ j) h = above_more m n le j h

above_push : (n : ℕ) (j : List PlaceEvent) (m : MadeEvent) → m.stamp ≤ n → NoneAbove n j → NoneAbove n (j ++ event_of m ∷ [])
above_push n [] m le h = (le, tt)
above_push n (Did t stamp cell x ∷ j) m le h = (h.0, above_push n j m le h.1)
above_push n (Close stamp ∷ j) m le h = above_push n j m le h

pub cells_up : (n t : ℕ) (j : List PlaceEvent) → NoneAbove n j → UpTo n (filter_map (cell_of t) j)
cells_up n t [] h = tt
cells_up n t (Did u stamp cell x ∷ j) h =
    (elim (u.0 == t) as (λ b. UpTo n (cons_option (cond b (Some (stamp, cell, x)) None) (filter_map (cell_of t) j))) [
      | true ↦ (h.0, cells_up n t j h.1)
      | false ↦ cells_up n t j h.1
    ])
cells_up n t (Close stamp ∷ j) h = cells_up n t j h

pub up_second : (n : ℕ) (xs ys : Cells) → UpTo n (xs ++ ys) → UpTo n ys
up_second n [] ys h = h
up_second n (x ∷ xs) ys h = up_second n xs ys h.1

-- after a walk no stamp of whose events is above
pub walk_low : {here : PlaceId} {a z : Stand} {cells : Cells} → Walks here a cells z → (n : ℕ) → a.low ≤ n → UpTo n cells → z.low ≤ n
walk_low stays n le h = le
walk_low (local e w) n le h = walk_low w n le h
walk_low (stores answer less tells b w) n le h = walk_low w n h.0 h.1

pub record LastEvent (code : Block) (U : Given) (p t : ℕ) (journal : List PlaceEvent) (seen : List LedgerItem) : Type 0 where
  pub event : MadeEvent
  pub before : List PlaceEvent
  pub may : MayMake code U p before event
  pub is_of : event.task.0 ≡ t
  pub cells : filter_map (cell_of t) journal ≡ filter_map (cell_of t) before ++ (event.stamp, event.cell, event.path) ∷ []
  pub rising : NoneAbove event.stamp before
  pub within : IsPrefix event.carried seen

-- the task's events before it
pub earlier_of : {code : Block} {U : Given} {p t : ℕ} {journal : List PlaceEvent} {seen : List LedgerItem} (l : LastEvent code U p t journal seen) → filter_map (cell_of t) l.before ≡ l.may.actor.named ++ l.may.since
earlier_of l = subst (λ (v : ℕ). filter_map (cell_of v) l.before ≡ l.may.actor.named ++ l.may.since) l.is_of l.may.earlier

-- all of the task's events
pub cells_of : {code : Block} {U : Given} {p t : ℕ} {journal : List PlaceEvent} {seen : List LedgerItem} (l : LastEvent code U p t journal seen) → filter_map (cell_of t) journal ≡ l.may.actor.named ++ (l.may.since ++ (l.event.stamp, l.event.cell, l.event.path) ∷ [])
cells_of l = l.cells ∙ ap (λ v. v ++ (l.event.stamp, l.event.cell, l.event.path) ∷ []) (earlier_of l) ∙ append_assoc l.may.actor.named l.may.since ((l.event.stamp, l.event.cell, l.event.path) ∷ [])

-- its term's events before are stamped no later
pub low_of : {code : Block} {U : Given} {p t : ℕ} {journal : List PlaceEvent} {seen : List LedgerItem} (l : LastEvent code U p t journal seen) → l.may.stand.low ≤ l.event.stamp
low_of {t = t} l =
    walk_low l.may.walks l.event.stamp l.may.above (up_second l.event.stamp l.may.actor.named l.may.since (subst (UpTo l.event.stamp) (earlier_of l) (cells_up l.event.stamp t l.before l.rising)))

last_as : {code : Block} {U : Given} {p t : ℕ} {journal other : List PlaceEvent} {seen : List LedgerItem} → journal ≡ other → LastEvent code U p t journal seen → LastEvent code U p t other seen
last_as {code = code} {U = U} {p = p} {t = t} {seen = seen} e h = subst (λ (v : List PlaceEvent). LastEvent code U p t v seen) e h

pub seen_from : (code : Block) (U : Given) (p : ℕ) (before : List PlaceEvent) (low : ℕ) (seen : List LedgerItem) (k : List MadeEvent) → LegalFrom code U p before low seen k → IsPrefix seen (last_carried seen k)
seen_from code U p before low seen [] h = ([], append-nil seen)
seen_from code U p before low seen (m ∷ k) h = prefix-trans seen m.carried (last_carried m.carried k) h.2 (seen_from code U p (before ++ event_of m ∷ []) m.stamp m.carried k h.3)

pub own_cell : (t : ℕ) (before : List PlaceEvent) (m : MadeEvent) → m.task.0 ≡ t → filter_map (cell_of t) (before ++ event_of m ∷ []) ≡ filter_map (cell_of t) before ++ (m.stamp, m.cell, m.path) ∷ []
own_cell t before m e = filter_map-append (cell_of t) before (event_of m ∷ []) ∙ ap (λ v. filter_map (cell_of t) before ++ v) (rw (eq-eqb m.task.0 t e) refl)

other_cell : (t : ℕ) (before : List PlaceEvent) (m : MadeEvent) → m.task.0 ≢ t → filter_map (cell_of t) (before ++ event_of m ∷ []) ≡ filter_map (cell_of t) before
other_cell t before m o = filter_map-append (cell_of t) before (event_of m ∷ []) ∙ ap (λ v. filter_map (cell_of t) before ++ v) (rw (ne_eqb m.task.0 t o) refl) ∙ append-nil (filter_map (cell_of t) before)

abbrev pub LastOrNone : Block → Given → ℕ → ℕ → List PlaceEvent → List LedgerItem → List MadeEvent → Type 0
LastOrNone code U p t before seen k = (filter_map (cell_of t) (before ++ journal_of k) ≡ filter_map (cell_of t) before) ⊎ LastEvent code U p t (before ++ journal_of k) (last_carried seen k)

pub last_from : (code : Block) (U : Given) (p t : ℕ) (before : List PlaceEvent) (low : ℕ) (seen : List LedgerItem) (k : List MadeEvent) → NoneAbove low before → LegalFrom code U p before low seen k → LastOrNone code U p t before seen k
last_from code U p t before low seen [] above h = inl (ap (filter_map (cell_of t)) (append-nil before))
last_from code U p t before low seen (m ∷ k) above h =
    either (last_from code U p t (before ++ event_of m ∷ []) m.stamp m.carried k (above_push m.stamp before m (omega arith) (above_more low m.stamp h.1 before above)) h.3) (m.task.0 == t) refl
  where
    all : before ++ event_of m ∷ [] ++ journal_of k ≡ before ++ journal_of (m ∷ k)
    all = append_assoc before (event_of m ∷ []) (journal_of k)

    either : LastOrNone code U p t (before ++ event_of m ∷ []) m.carried k → (b : Bool) → (m.task.0 == t) ≡ b → LastOrNone code U p t before seen (m ∷ k)
    either (inr l) b e = inr (last_as all l)
    either (inl l) true e =
        let it : m.task.0 ≡ t = eqb-true m.task.0 t e in
        inr (record { event = m; before = before; may = h.0; is_of = it; cells = ap (filter_map (cell_of t)) (sym all) ∙ l ∙ own_cell t before m it; rising = above_more low m.stamp h.1 before above; within = seen_from code U p (before ++ event_of m ∷ []) m.stamp m.carried k h.3 })
    either (inl l) false e = inl (ap (filter_map (cell_of t)) (sym all) ∙ l ∙ other_cell t before m (λ w. true≢false (sym (eq-eqb m.task.0 t w) ∙ e)))

-- One task.

abbrev PlaysHere : Starts → Actor → Cells → Type 0
PlaysHere starts a cells = BeginsWithArrival starts a.birth.to (travels a.birth) a.birth.low a.start.1 a.start.0 cells a.moves

pub landed_late : (b d : Birth) (moves others rest late : Moves) (low : ℕ) → d ≡ b → others ≡ moves ++ late → LandedBy b moves low rest → LandedBy d others low (rest ++ late)
landed_late b d moves others rest late low e f (inl h) = inl (ap travels e ∙ h.0, f ∙ ap (λ v. v ++ late) h.1, h.2 ∙ ap (λ (v : Birth). v.low) (sym e))
landed_late b d moves others rest late low e f (inr h) = inr (h.0, h.1, ap travels e ∙ h.2, f ∙ ap (λ v. v ++ late) h.3, h.4)

-- The entries and the events that they name give one account, and the place's events with the entries so far another: the same
-- run of the term.
pub merge_task : (starts : Starts) (c a : Actor) (first : ℕ) (rest : Moves) (cells : Cells) → Later c a → LandedBy c.birth c.moves first rest → Plays starts c.birth.to first c.start.1 c.start.0 [] cells rest → PlaysHere starts a a.named → IsPrefix a.named cells → PlaysHere starts a cells
merge_task starts c a first rest cells now landed says full named =
    let late : Moves = now.moves.0 in
    let lands : LandedBy a.birth a.moves first (rest ++ now.moves.0) = landed_late c.birth a.birth c.moves a.moves rest now.moves.0 first now.birth (sym now.moves.1) landed in
    let entries_say : Plays starts a.birth.to first a.start.1 a.start.0 [] a.named (rest ++ now.moves.0) = plays_landed starts a.birth a.start a.named a.moves (rest ++ now.moves.0) first lands full in
    let one : Plays starts a.birth.to first c.start.1 c.start.0 [] cells rest = subst (λ (v : Birth). Plays starts v.to first c.start.1 c.start.0 [] cells rest) (sym now.birth) says in
    let two : Plays starts a.birth.to first a.start.1 a.start.0 [] cells rest = subst (λ (v : Term × Vars). Plays starts a.birth.to first v.1 v.0 [] cells rest) (sym now.start) one in
    let three : Plays starts a.birth.to first a.start.1 a.start.0 [] (a.named ++ named.0) rest = subst (λ (v : Cells). Plays starts a.birth.to first a.start.1 a.start.0 [] v rest) (sym named.1) two in
    let merged : Plays starts a.birth.to first a.start.1 a.start.0 [] (a.named ++ named.0) (rest ++ now.moves.0) = accounts-merge starts a.birth.to first a.start.1 a.start.0 [] a.named named.0 rest now.moves.0 entries_say three in
    let back : Plays starts a.birth.to first a.start.1 a.start.0 [] cells (rest ++ now.moves.0) = subst (λ (v : Cells). Plays starts a.birth.to first a.start.1 a.start.0 [] v (rest ++ now.moves.0)) named.1 merged in
    begins_landed starts a.birth a.start cells a.moves (rest ++ now.moves.0) first lands back

-- what it made by its last event at the place, and then by all its entries
by_last : (starts : Starts) (code : Block) (U : Given) (h : List LedgerItem) (legal : LegalLedger code U h) (p t : ℕ) (a : Actor) (journal : List PlaceEvent) (seen : List LedgerItem) → Agree starts legal.actors → slice_get legal.actors t ≡ Some a → IsPrefix seen h → IsPrefix a.named (filter_map (cell_of t) journal) → LastEvent code U p t journal seen → PlaysHere starts a (filter_map (cell_of t) journal)
by_last starts code U h legal p t a journal seen agree got within named l = by_ok (legal_ok starts code U l.event.carried l.may.legal short_agree l.event.task.0 l.may.actor l.may.stands) where
  longer : IsPrefix l.event.carried h
  longer = prefix-trans l.event.carried seen h l.within within

  on : AllMake (length l.event.carried) l.may.legal.actors longer.0 legal.actors
  on = legal_later code U l.event.carried h l.may.legal legal longer

  short_agree : Agree starts l.may.legal.actors
  short_agree = agree_back starts (length l.event.carried) l.may.legal.actors longer.0 legal.actors on agree

  at_t : slice_get l.may.legal.actors t ≡ Some l.may.actor
  at_t = subst (λ (v : ℕ). slice_get l.may.legal.actors v ≡ Some l.may.actor) l.is_of l.may.stands

  now : Later l.may.actor a
  now = let w = later (length l.event.carried) l.may.legal.actors longer.0 legal.actors on t l.may.actor at_t in
      subst (λ (v : Actor). Later l.may.actor v) (one_item (slice_get legal.actors t) w.0 a w.1 got) w.2

  in_full : PlaysHere starts a a.named
  in_full = begins_of (legal_ok starts code U h legal agree t a got)

  by_landed : (first : ℕ) (rest : Moves) → LandedBy l.may.actor.birth l.may.actor.moves first rest → StandGoes starts l.may.actor.birth.to (first_stand first l.may.actor.start) l.may.actor.named rest l.may.actor.stand → PlaysHere starts a (filter_map (cell_of t) journal)
  by_landed first rest landed g =
      let event : StandGoes starts l.may.actor.birth.to l.may.stand ((l.event.stamp, l.event.cell, l.event.path) ∷ []) [] _ = segments.stores l.may.answer (low_of l) l.may.tells l.may.begins segments.stays in
      let all = joined g (walk_goes l.may.walks event) in
      let place_says : Plays starts l.may.actor.birth.to first l.may.actor.start.1 l.may.actor.start.0 [] (filter_map (cell_of t) journal) rest =
      subst (λ (v : Cells). Plays starts l.may.actor.birth.to first l.may.actor.start.1 l.may.actor.start.0 [] v rest) (sym (cells_of l))
      (subst (λ (v : Moves). Plays starts l.may.actor.birth.to first l.may.actor.start.1 l.may.actor.start.0 [] (l.may.actor.named ++ (l.may.since ++ (l.event.stamp, l.event.cell, l.event.path) ∷ [])) v) (append-nil rest) (stopped all)) in
      merge_task starts l.may.actor a first rest (filter_map (cell_of t) journal) now landed place_says in_full named

  by_ok : ActorOk starts l.may.actor → PlaysHere starts a (filter_map (cell_of t) journal)
  by_ok (away f tr mv c s) = absurd (let e : Away ≡ Present = sym f ∙ l.may.here in let g : ⊥ = cc in g)
  by_ok (here f first rest landed g) = by_landed first rest landed g
  by_ok (over f b) = absurd (let e : Over ≡ Present = sym f ∙ l.may.here in let g : ⊥ = cc in g)

-- All tasks.

-- the place of a task, by its number
abbrev pub AtPlace : Block → Given → List LedgerItem → ℕ → ℕ → List (List MadeEvent) → Type 0
AtPlace code U h p q ks = (journal_at (journals_of ks) q ≡ []) ⊎ ((k : List MadeEvent) × (journal_at (journals_of ks) q ≡ journal_of k) × LegalPlace code U (p + q) k × IsPrefix (seen_by k) h)

pub at_place : (code : Block) (U : Given) (h : List LedgerItem) (p q : ℕ) (ks : List (List MadeEvent)) → EachPlace code U h p ks → AtPlace code U h p q ks
at_place code U h p q [] each = inl refl
at_place code U h p zero (k ∷ ks) each = let e : p ≡ p + 0 = omega arith in inr (k, refl, subst (λ (v : ℕ). LegalPlace code U v k) e each.0, each.1)
at_place code U h p (suc q) (k ∷ ks) each = let e : suc p + q ≡ p + suc q = omega arith in subst (λ (v : ℕ). (journal_at (journals_of ks) q ≡ []) ⊎ ((k : List MadeEvent) × (journal_at (journals_of ks) q ≡ journal_of k) × LegalPlace code U v k × IsPrefix (seen_by k) h)) e (at_place code U h (suc p) q ks each.2)

one_plays : (starts : Starts) (code : Block) (U : Given) (h : List LedgerItem) (ks : List (List MadeEvent)) (parts : AreParts code U h ks) (t : ℕ) (a : Actor) → Agree starts parts.legal.actors → slice_get parts.legal.actors t ≡ Some a → PlaysHere starts a (filter_map (cell_of t) (journal_at (journals_of ks) a.birth.to.0))
one_plays starts code U h ks parts t a agree got = at (at_place code U h 0 a.birth.to.0 ks parts.places) where
  full : PlaysHere starts a a.named
  full = begins_of (legal_ok starts code U h parts.legal agree t a got)

  named : IsPrefix a.named (filter_map (cell_of t) (journal_at (journals_of ks) a.birth.to.0))
  named = parts.named t a got

  quiet : filter_map (cell_of t) (journal_at (journals_of ks) a.birth.to.0) ≡ [] → PlaysHere starts a (filter_map (cell_of t) (journal_at (journals_of ks) a.birth.to.0))
  quiet e = subst (PlaysHere starts a) (prefix_none a.named (filter_map (cell_of t) (journal_at (journals_of ks) a.birth.to.0)) e named ∙ sym e) full

  at : AtPlace code U h 0 a.birth.to.0 ks → PlaysHere starts a (filter_map (cell_of t) (journal_at (journals_of ks) a.birth.to.0))
  at (inl e) = quiet (ap (filter_map (cell_of t)) e)
  at (inr k) = by (last_from code U (0 + a.birth.to.0) t [] 0 [] k.0 tt k.2) where
    by : LastOrNone code U (0 + a.birth.to.0) t [] [] k.0 → PlaysHere starts a (filter_map (cell_of t) (journal_at (journals_of ks) a.birth.to.0))
    by (inl e) = quiet (ap (filter_map (cell_of t)) k.1 ∙ e)
    by (inr l) = subst (λ (v : List PlaceEvent). PlaysHere starts a (filter_map (cell_of t) v)) (sym k.1)
        (by_last starts code U h parts.legal (0 + a.birth.to.0) t a (journal_of k.0) (seen_by k.0) agree got k.3 (subst (λ (v : List PlaceEvent). IsPrefix a.named (filter_map (cell_of t) v)) k.1 named) l)

each_plays : (starts : Starts) (es : List Entry) (js : List (List PlaceEvent)) (n : ℕ) (actors : List Actor) → ((k : ℕ) (a : Actor) → slice_get actors k ≡ Some a → (birth_of es (n + k) ≡ a.birth) × (a.moves ≡ moves_from 0 es (n + k)) × PlaysHere starts a (filter_map (cell_of (n + k)) (journal_at js a.birth.to.0))) → EachPlays starts es js n (starts_of actors)
each_plays starts es js n [] f = tt
each_plays starts es js n (a ∷ actors) f =
    let z : n + 0 ≡ n = omega arith in
    let r = f 0 a refl in
    let plays : BeginsWithArrival starts a.birth.to (travels a.birth) a.birth.low a.start.1 a.start.0 (filter_map (cell_of (n + 0)) (journal_at js a.birth.to.0)) (moves_from 0 es (n + 0)) = subst (λ (v : Moves). BeginsWithArrival starts a.birth.to (travels a.birth) a.birth.low a.start.1 a.start.0 (filter_map (cell_of (n + 0)) (journal_at js a.birth.to.0)) v) r.1 r.2 in
    let born : BeginsWithArrival starts (birth_of es (n + 0)).to (travels (birth_of es (n + 0))) (birth_of es (n + 0)).low a.start.1 a.start.0 (filter_map (cell_of (n + 0)) (journal_at js (birth_of es (n + 0)).to.0)) (moves_from 0 es (n + 0)) = subst (λ (v : Birth). BeginsWithArrival starts v.to (travels v) v.low a.start.1 a.start.0 (filter_map (cell_of (n + 0)) (journal_at js v.to.0)) (moves_from 0 es (n + 0))) (sym r.0) plays in (
      subst (λ (v : ℕ). BeginsWithArrival starts (birth_of es v).to (travels (birth_of es v)) (birth_of es v).low a.start.1 a.start.0 (filter_map (cell_of v) (journal_at js (birth_of es v).to.0)) (moves_from 0 es v)) z born,
      each_plays starts es js (suc n) actors (λ k b got. let e : n + suc k ≡ suc n + k = omega arith in subst (λ (v : ℕ). (birth_of es v ≡ b.birth) × (b.moves ≡ moves_from 0 es v) × PlaysHere starts b (filter_map (cell_of v) (journal_at js b.birth.to.0))) e (f (suc k) b got)),
    )

played : (code : Block) (U : Given) (h : List LedgerItem) (ks : List (List MadeEvent)) → AreParts code U h ks → Played code U.places (entries_of h) (journals_of ks)
played code U h ks parts =
    let actors : List Actor = parts.legal.actors in
    let starts : Starts = starts_of parts.legal.actors in
    let agree : Agree (starts_of parts.legal.actors) parts.legal.actors = agrees parts.legal.actors in
    let first = later 0 (main_actor code U.places ∷ []) h parts.legal.actors parts.legal.made 0 (main_actor code U.places) refl in
    record {
      starts = starts_of parts.legal.actors;
      main = got_map start_of parts.legal.actors 0 first.0 first.1 ∙ ap Some first.2.start;
      all = length-map parts.legal.actors start_of ∙ sized_along 0 (main_actor code U.places ∷ []) h parts.legal.actors parts.legal.made;
      each = each_plays (starts_of parts.legal.actors) (entries_of h) (journals_of ks) 0 parts.legal.actors
          (λ k a got. let z : 0 + k ≡ k = omega arith in subst (λ (v : ℕ). (birth_of (entries_of h) v ≡ a.birth) × (a.moves ≡ moves_from 0 (entries_of h) v) × PlaysHere (starts_of parts.legal.actors) a (filter_map (cell_of v) (journal_at (journals_of ks) a.birth.to.0))) (sym z)
          (legal_birth code U h parts.legal k a got, legal_moves code U h parts.legal k a got, one_plays (starts_of parts.legal.actors) code U h ks parts k a agree got));
    }

-- Stamps, and who makes an event where.

rises : (code : Block) (U : Given) (p : ℕ) (before : List PlaceEvent) (low : ℕ) (seen : List LedgerItem) (k : List MadeEvent) → LegalFrom code U p before low seen k → NotFalling low (journal_of k)
rises code U p before low seen [] h = tt
rises code U p before low seen (m ∷ k) h = (h.1, rises code U p (before ++ event_of m ∷ []) m.stamp m.carried k h.3)

at_home : (code : Block) (U : Given) (h : List LedgerItem) (legal : LegalLedger code U h) (p : ℕ) (before : List PlaceEvent) (low : ℕ) (seen : List LedgerItem) (k : List MadeEvent) → IsPrefix (last_carried seen k) h → LegalFrom code U p before low seen k → AtHome (entries_of h) p (journal_of k)
at_home code U h legal p before low seen [] e l = tt
at_home code U h legal p before low seen (m ∷ k) e l =
    let within : IsPrefix m.carried h = prefix-trans m.carried (last_carried m.carried k) h (seen_from code U p (before ++ event_of m ∷ []) m.stamp m.carried k l.3) e in
    let on = legal_later code U m.carried h l.0.legal legal within in
    let w = later (length m.carried) l.0.legal.actors within.0 legal.actors on m.task.0 l.0.actor l.0.stands in
    let low_in : m.task.0 < length legal.actors = inside legal.actors m.task.0 w.0 w.1 in
    let size : length legal.actors ≡ 1 + births (entries_of h) = sized_along 0 (main_actor code U.places ∷ []) h legal.actors legal.made in
    let born : birth_of (entries_of h) m.task.0 ≡ w.0.birth = legal_birth code U h legal m.task.0 w.0 w.1 in
    (omega (arith, low_in, size), ap (λ (v : Birth). v.to.0) (born ∙ w.2.birth) ∙ l.0.place, at_home code U h legal p (before ++ event_of m ∷ []) m.stamp m.carried k e l.3)

each_stamped : (code : Block) (U : Given) (h : List LedgerItem) (legal : LegalLedger code U h) (p : ℕ) (ks : List (List MadeEvent)) → EachPlace code U h p ks → EachStamped (entries_of h) p (journals_of ks)
each_stamped code U h legal p [] each = tt
each_stamped code U h legal p (k ∷ ks) each = (rises code U p [] 0 [] k each.0, at_home code U h legal p [] 0 [] k each.1 each.0, each_stamped code U h legal (suc p) ks each.2)

pub parts-play : PartsPlay
parts-play code U h ks parts = (played code U h ks parts, each_stamped code U h parts.legal 0 ks parts.places)
