-- Who the tasks are to the ledger, and what they may ask for, after a walk and after one entry more.
use Rattle.std.proofs.Common.{◌≡◌, ℕ, ◌+◌, ◌<◌, ◌≤◌, ◌^◌, ◌==◌, Bool, true, false, cond, List, [], ◌∷◌, ◌++◌, reverse, length, refl, ap, sym, subst, ◌∙◌, arith, length-append}
use Rattle.std.specs.Global.{Box}
use Rattle.rx_rules.proofs.Common.{PlaceId, ScopeId, TaskId, Block, Allowed, AllowedAct, made, made_act, tree_of, Player, Starts, Cells, Moves, Tells, brought, Reached, Given, Folds, Term, Vars, Does, Local, Releases, Empty, granted, items, Tree, the_root}
use Rattle.rx_base.proofs.SameIds.{task-is}
use Rattle.rx_rules.specs.declared.entries.Act.{Act}
use Rattle.rx_rules.specs.declared.entries.Act.TheVariants.{Open, Arrive}
use Rattle.rx_rules.specs.declared.entries.Entry.{Entry}
use Rattle.rx_rules.specs.declared.entries.Entry.TheVariants.{Step}
use Rattle.rx_rules.specs.declared.events.PlaceEvent.{PlaceEvent}
use Rattle.rx_rules.specs.declared.tasks.Kind.{Kind}
use Rattle.rx_rules.specs.declared.tasks.Where.TheVariants.{At, Travel}
use Rattle.rx_rules.specs.Plays.{Fits}
use Rattle.rx_rules.proofs.Append.{tree-push}
use Rattle.rx_runs.specs.Games.{fresh}
use Rattle.rx_finish.specs.declared.ledger.Caller.{Caller}
use Rattle.rx_finish.specs.Callers.{HasNumbers, MayAskMoving, MayAskArrive}
use Rattle.rx_ledger.specs.Answering.{fresh_caller, main_caller}
use Rattle.rx_ledger.specs.Owned.{Owned, own_told}
use Rattle.rx_ledger.specs.Staying.{NotBy}
use Rattle.rx_ledger.specs.TermAsks.{MayAskNext, Serves, kinds_told, who_after}
use Rattle.rx_chronicle.specs.Told.{parents_in, parents_told}
use Rattle.rx_ledger.proofs.CallersGoOn as on
use Rattle.rx_ledger.proofs.OwnTold.{numbers_are_left}
use Rattle.rx_chronicle.proofs.Pushing.{parents-push}
use Rattle.rx_ledger.proofs.Rows.{main_asks}
use Rattle.rx_ledger.proofs.TermAsks.{kinds_of, law_of_asking}
use Rattle.rx_tree_laws.specs.Held.{is_held, HeldInFront, Unheld}
use Rattle.rx_tree_laws.specs.Spine.{NoScopeOpen, Spine}
use Rattle.rx_tree_laws.proofs.Granting.{after-grant, answer_waits, not_held}
use Rattle.rx_tree_laws.proofs.Holding.{AfterLocal, after-local, unheld-front, unheld-items}
use Rattle.rx_tree_laws.proofs.SpineGrants.{answer_spine, begun_is, spine-grant}
use Rattle.rx_tree_laws.proofs.Spines.{LeavesSpine, flat-items, flat-spine, spine-local}
use Rattle.rx_verdict.specs.Parts.{IsQuiet}
use Rattle.rx_verdict.specs.Seats as pass
use Rattle.rx_verdict.specs.Seats.{Seated}
use Rattle.rx_verdict.specs.Walks.{Walks, stays, local, stores, asks, next_does}
use Rattle.rx_verify.specs.declared.seat.Seat.{Seat}
use Rattle.rx_verify.specs.declared.players.Slot.{Slot}
use Rattle.rx_verify.specs.declared.players.Slot.TheVariants.{Away, Here}
use Rattle.rx_verify.specs.Callers.{TermStands, MayServe, MayCome, CallerIs}
use Rattle.rx_verify.proofs.AdmitEntries.{places_stay}

-- what is seated is what a ledger can know
pub folds_so : (code : Block) (U : Given) (es : List Entry) (js : List (List PlaceEvent)) (seats : List pass.Seat) → Seated code U es js seats → Folds U es
folds_so code U es js seats p = record { some = p.some; few = p.few; allowed = p.allowed; plan = p.plan }

-- the parents of scopes with one entry more
pub parents_on : (es : List Entry) (e : Entry) (old new : List ScopeId) → old ≡ parents_told es → new ≡ old ++ parents_in (e ∷ []) → new ≡ parents_told (es ++ e ∷ [])
parents_on es e old new told same =
    same ∙ (ap (λ (ps : List ScopeId). ps ++ parents_in (e ∷ [])) told ∙ ap (λ (ps : List ScopeId). the_root ∷ ps) (sym (parents-push es e)))

-- A walk: it opens and releases nothing, and does not wait.

pub walk_keeps : {starts : Starts} {here : PlaceId} {a z : Player} {cells left : Cells} {moves : Moves} → Walks starts here a cells moves z left → moves ≡ [] → (ks : List Kind) → HeldInFront a.term → Spine a.term ks → HeldInFront z.term × Spine z.term ks × (is_held z.term ≡ is_held a.term)
walk_keeps stays none ks held spine = (held, spine, refl)
walk_keeps {here = here} (local {a = a} {after = after} {vars = vars} is w) none ks held spine =
    let waits : AfterLocal (Local after vars) = subst (λ (d : Does). AfterLocal d) is (after-local a.vars here.0 a.term held) in
    let kept : LeavesSpine ks (Local after vars) = subst (λ (d : Does). LeavesSpine ks d) is (spine-local ks a.vars here.0 a.term spine) in
    let free : is_held a.term ≡ false = not_held a.vars here.0 a.term (λ f. let k : Local after vars ≡ Releases = sym is ∙ f in let v : ⊥ = cc in v) in
    let rest = walk_keeps w none ks waits.0 kept in
    (rest.0, rest.1, rest.2 ∙ (waits.1 ∙ sym free))
walk_keeps {here = here} (stores {a = a} {cell = cell} {x = x} answer tells begins w) none ks held spine =
    let waits = answer_waits answer a.term held in
    let kept = answer_spine answer a.term ks spine (begun_is a.term x begins) in
    let free : is_held a.term ≡ false = not_held a.vars here.0 a.term (λ f. subst (λ (d : Does). Tells d here cell answer) f tells) in
    let rest = walk_keeps w none ks waits.0 kept in
    (rest.0, rest.1, rest.2 ∙ (waits.1 ∙ sym free))
walk_keeps (asks fits starts w) none ks held spine = absurd (let v : ⊥ = cc in v)

pub caller_walks : (U : Given) (es : List Entry) (t : ℕ) (seat new : Box Seat) (here : PlaceId) (z y : Player) (left rest : Cells) → Walks [] here z left [] y rest → new.value.who ≡ seat.value.who → new.value.home ≡ seat.value.home → CallerIs U es t (Here seat) (pass.Stands z left) → CallerIs U es t (Here new) (pass.Stands y rest)
caller_walks U es t seat new here z y left rest w who home h =
    let k = walk_keeps w refl (kinds_told es seat.value.who.task) h.0.held h.0.spine in (
      record {
        number = ap (λ (v : Caller). v.task.0) who ∙ h.0.number;
        inside = subst (λ (p : PlaceId). p.0 < (tree_of U.places es).places) (sym home) h.0.inside;
        held = k.0;
        spine = subst (λ (v : Caller). Spine y.term (kinds_told es v.task)) (sym who) k.1;
      },
      λ few. subst (λ (v : Caller). Serves (tree_of U.places es) v (is_held y.term)) (sym who) (subst (λ (b : Bool). Serves (tree_of U.places es) seat.value.who b) (sym k.2) (h.1 few)),
    )

-- An entry.

module _ (U : Given) (es : List Entry) (e : Entry) where
  abbrev T : Tree
  T = tree_of U.places es

  abbrev more : List Entry
  more = es ++ e ∷ []

  fewer : length (es ++ e ∷ []) + 1 < 2 ^ 31 → length es + 1 < 2 ^ 31
  fewer few = let l = length-append es (e ∷ []) in omega (arith, l, few)

  pub numbers : length (es ++ e ∷ []) + 1 < 2 ^ 31 → HasNumbers (made (length es) T e)
  numbers few = subst HasNumbers (tree-push U.places es e) (numbers_are_left U.places more few)

  -- of another task
  module _ (reached : Reached T) (may : Allowed T e) (t : ℕ) (other : (u : TaskId) → u.0 ≡ t → NotBy u e) where
    term_stays : (seat : Seat) (term : Term) → TermStands U es t seat term → TermStands U more t seat term
    term_stays seat term h =
        let wider = places_stay U.places es e in
        let inside = h.inside in
        record {
          number = h.number;
          inside = omega (arith, inside, wider);
          held = h.held;
          spine = subst (λ (o : Owned). Spine term (reverse (kinds_of o))) (sym (on.own_others es e seat.who.task (other seat.who.task h.number))) h.spine;
        }

    pub caller_keeps : (slot : Slot) (x : pass.Seat) → CallerIs U es t slot x → CallerIs U more t slot x
    caller_keeps (Away seat) (pass.Away r) h = (
      term_stays seat.value r.0 h.0,
      h.1,
      λ few. subst (λ (V : Tree). MayAskArrive V seat.value.who) (sym (tree-push U.places es e))
          (on.others_travel (length es) T e seat.value.who reached may (other seat.value.who.task h.0.number) (numbers few) (h.2 (fewer few))),
    )
    caller_keeps (Here seat) (pass.Stands z left) h = (
      term_stays seat.value z.term h.0,
      λ few. subst (λ (V : Tree). Serves V seat.value.who (is_held z.term)) (sym (tree-push U.places es e))
          (on.others_stay (length es) T e seat.value.who reached may (other seat.value.who.task h.0.number) (numbers few) (is_held z.term) (h.1 (fewer few))),
    )
    caller_keeps slot x h = tt

-- of none
pub not_by : (e : Entry) → IsQuiet e → (u : TaskId) → NotBy u e
not_by (Step t act batch) q u = absurd q
not_by _ q u = tt

-- An act of a task.

pub same_task : (parents : List ScopeId) (act : Act) (who : Caller) → (who_after parents act who).task ≡ who.task
same_task ps (Open s r path) w = refl
same_task ps _ w = refl

module _ (U : Given) (es : List Entry) (folds : Folds U es) (task : TaskId) where
  abbrev tree : Tree
  tree = tree_of U.places es

  -- what the task's term does next, the ledger may be asked
  pub may_ask : (seat : Seat) (z : Player) → z.vars.places ≤ tree.places → TermStands U es task.0 seat z.term → MayServe U es seat (is_held z.term) → length es + 1 < 2 ^ 31 → MayAskNext tree seat.who (next_does seat.home z)
  may_ask seat z known h serves few = law_of_asking U es seat.who seat.home.0 z.vars z.term folds h.inside known h.spine (serves few)

  module _ (act : Act) (batch : List (List ℕ)) (allowed : AllowedAct tree task act) where
    abbrev longer : List Entry
    longer = es ++ Step task act batch ∷ []

    -- it goes on
    pub caller_goes : (parents : List ScopeId) (seat : Seat) (new : Box Seat) (z y : Player) (left : Cells) → parents ≡ parents_told es → z.vars.places ≤ tree.places → TermStands U es task.0 seat z.term → MayServe U es seat (is_held z.term) → Fits seat.home z.term (next_does seat.home z) act → new.value.who ≡ who_after parents act seat.who → new.value.home ≡ seat.home → y.term ≡ granted (brought act) z.term → CallerIs U longer task.0 (Here new) (pass.Stands y left)
    caller_goes parents seat new z y left told known h serves fits who home term =
        let is : seat.who.task ≡ task = task-is seat.who.task task h.number in
        let e : Entry = Step seat.who.task act batch in
        let mine : AllowedAct tree seat.who.task act = subst (λ (u : TaskId). AllowedAct tree u act) (sym is) allowed in
        let g = on.goes_on U es seat.who folds (length (es ++ e ∷ []) + 1 < 2 ^ 31) parents batch (granted (brought act) z.term) seat.home z.term (next_does seat.home z) act told fits
        (λ few. may_ask seat z known h serves (fewer U es e few)) (numbers U es e)
        (after-grant z.vars seat.home.0 (brought act) z.term h.held) (spine-grant (kinds_told es seat.who.task) z.vars seat.home.0 (brought act) z.term h.spine) mine in
        let wider = places_stay U.places es e in
        let inside = h.inside in
        let now : new.value.who.task ≡ seat.who.task = ap (λ (v : Caller). v.task) who ∙ same_task parents act seat.who in
        subst (λ (u : TaskId). CallerIs U (es ++ Step u act batch ∷ []) task.0 (Here new) (pass.Stands y left)) is (
          record {
            number = ap (λ (u : TaskId). u.0) now ∙ h.number;
            inside = subst (λ (p : PlaceId). p.0 < (tree_of U.places (es ++ e ∷ [])).places) (sym home) (omega (arith, inside, wider));
            held = subst (λ (t : Term). HeldInFront t) (sym term) g.held;
            spine = subst (λ (u : TaskId). Spine y.term (kinds_told (es ++ e ∷ []) u)) (sym now) (subst (λ (t : Term). Spine t (kinds_told (es ++ e ∷ []) seat.who.task)) (sym term) g.spine);
          },
          λ few. subst (λ (V : Tree). Serves V new.value.who (is_held y.term)) (sym (tree-push U.places es e))
              (subst (λ (v : Caller). Serves (made_act tree seat.who.task act) v (is_held y.term)) (sym who)
              (subst (λ (t : Term). Serves (made_act tree seat.who.task act) (who_after parents act seat.who) (is_held t)) (sym term) (g.serves few))),
        )

  -- it arrives
  pub caller_lands : (p : PlaceId) (batch : List (List ℕ)) (seat landing : Box Seat) (start : Term × Vars) (left : Cells) → AllowedAct tree task (Arrive p) → landing.value.who ≡ record seat.value.who { place = At p } → landing.value.home ≡ seat.value.home → CallerIs U es task.0 (Away seat) (pass.Away start) → CallerIs U (es ++ Step task (Arrive p) batch ∷ []) task.0 (Here landing) (pass.Stands (fresh start) left)
  caller_lands p batch seat landing start left allowed who home h =
      let w : Caller = seat.value.who in
      let is : w.task ≡ task = task-is w.task task h.0.number in
      let e : Entry = Step w.task (Arrive p) batch in
      let mine : AllowedAct tree w.task (Arrive p) = subst (λ (u : TaskId). AllowedAct tree u (Arrive p)) (sym is) allowed in
      let wider = places_stay U.places es e in
      let inside = h.0.inside in
      subst (λ (u : TaskId). CallerIs U (es ++ Step u (Arrive p) batch ∷ []) task.0 (Here landing) (pass.Stands (fresh start) left)) is (
        record {
          number = ap (λ (v : Caller). v.task.0) who ∙ h.0.number;
          inside = subst (λ (q : PlaceId). q.0 < (tree_of U.places (es ++ e ∷ [])).places) (sym home) (omega (arith, inside, wider));
          held = h.0.held;
          spine = subst (λ (v : Caller). Spine start.0 (kinds_told (es ++ e ∷ []) v.task)) (sym who) (subst (λ (o : Owned). Spine start.0 (reverse (kinds_of o))) (sym (on.own_mine es w.task (Arrive p) batch)) h.0.spine);
        },
        λ few. subst (λ (v : Caller). Serves (tree_of U.places (es ++ e ∷ [])) v (is_held start.0)) (sym who)
            (subst (λ (b : Bool). Serves (tree_of U.places (es ++ e ∷ [])) (record w { place = At p }) b) (sym h.1)
            (subst (λ (V : Tree). MayAskMoving V (record w { place = At p })) (sym (tree-push U.places es e))
            (on.landed U es w folds p (h.2 (fewer U es e few)) mine (numbers U es e few)))),
      )

-- A task that was started.

module _ (U : Given) (later : List Entry) (c : TaskId) (s : ScopeId) (from to : PlaceId) (seat : Box Seat) (t : Term) (who : seat.value.who ≡ fresh_caller c s (cond (from.0 == to.0) (At to) (Travel from to))) (home : seat.value.home ≡ to) (inside : to.0 < (tree_of U.places later).places) (none : own_told later c ≡ []) (free : Unheld t) (flat : NoScopeOpen t) (comes : length later + 1 < 2 ^ 31 → on.MayCome (tree_of U.places later) c s from to (from.0 == to.0)) where
  born_term : TermStands U later c.0 seat.value t
  born_term =
      let own : own_told later seat.value.who.task ≡ [] = ap (λ (v : Caller). own_told later v.task) who ∙ none in
      record {
        number = ap (λ (v : Caller). v.task.0) who;
        inside = subst (λ (p : PlaceId). p.0 < (tree_of U.places later).places) (sym home) inside;
        held = (unheld-front t free).0;
        spine = subst (λ (o : Owned). Spine t (reverse (kinds_of o))) (sym own) (flat-spine t flat);
      }

  pub born_here : (from.0 == to.0) ≡ true → TermStands U later c.0 seat.value t × MayServe U later seat.value (is_held t)
  born_here e = (
    born_term,
    λ few. subst (λ (b : Bool). Serves (tree_of U.places later) seat.value.who b) (sym (unheld-front t free).1)
        (subst (λ (v : Caller). MayAskMoving (tree_of U.places later) v) (sym (who ∙ ap (λ (b : Bool). fresh_caller c s (cond b (At to) (Travel from to))) e))
        (subst (λ (b : Bool). on.MayCome (tree_of U.places later) c s from to b) e (comes few))),
  )

  pub born_away : (from.0 == to.0) ≡ false → TermStands U later c.0 seat.value t × (is_held t ≡ false) × MayCome U later seat.value
  born_away e = (
    born_term,
    (unheld-front t free).1,
    λ few. subst (λ (v : Caller). MayAskArrive (tree_of U.places later) v) (sym (who ∙ ap (λ (b : Bool). fresh_caller c s (cond b (At to) (Travel from to))) e))
        (subst (λ (b : Bool). on.MayCome (tree_of U.places later) c s from to b) e (comes few)),
  )

-- the main activity before the first entry
pub main_is : (code : Block) (U : Given) (seat : Box Seat) (vars : Vars) (left : Cells) → 0 < U.places → seat.value.who ≡ main_caller → seat.value.home ≡ record { 0 = 0 } → CallerIs U [] 0 (Here seat) (pass.Stands (fresh (items code [] Empty, vars)) left)
main_is code U seat vars left some who home =
    let t : Term = items code [] Empty in
    let free = unheld-front t (unheld-items code [] 0 Empty tt) in (
      record {
        number = ap (λ (v : Caller). v.task.0) who;
        inside = subst (λ (p : PlaceId). p.0 < U.places) (sym home) some;
        held = free.0;
        spine = flat-spine t (flat-items code [] 0 Empty tt);
      },
      λ few. subst (λ (b : Bool). Serves (tree_of U.places []) seat.value.who b) (sym free.1) (subst (λ (v : Caller). MayAskMoving (tree_of U.places []) v) (sym who) (main_asks U.places)),
    )
