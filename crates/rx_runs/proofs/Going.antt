-- A game that has not ended has a next turn, and so each list of picks has its run.
use Rattle.std.proofs.Common.{◌≡◌, ℕ, zero, suc, ◌+◌, ◌%◌, ◌^◌, ◌<◌, ◌≤◌, Bool, true, false, not, cond, ◌||◌, ◌&&◌, List, [], ◌∷◌, ◌++◌, length, filter, map, slice_get, Some, None, refl, ◌⊎◌, ap, ◌∙◌, sym, subst, arith, ⊎_elim, inl, inr}
use Rattle.std.specs.List.{find, list_any}
use Rattle.std.proofs.Math.Nat.{mod-lt}
use Rattle.std.proofs.lemmas.Bool.{cases_lt}
use Rattle.rx_rules.proofs.Common.{PlaceId, ScopeId, PlaceSet, Block, Does, Opens, Calls as Asks, Spawns, Waits, Releases, Prints, Counts, Done, does, Tree, opened_by, inner, governs, quiet, is_under, the_root, ActAsks, AllowedAct, IsLive, MayFree, was_lost_at, masked_under, thrown_of, journal_at, State, Given, in_all, Event, NoRoot, EndsWithRoot, NoneDue, IsDue, Player, Game, Turn, MadeByTurns, turns, IsPicked, none, more, used_after, enabled, tree_in, start_game}
use Rattle.rx_rules.specs.declared.tasks.Where.{Where}
use Rattle.rx_rules.specs.declared.tasks.Where.TheVariants.{At, Travel}
use Rattle.rx_rules.specs.declared.tasks.Task.{Task}
use Rattle.rx_rules.specs.declared.tasks.Scope.{Scope}
use Rattle.rx_rules.specs.declared.tasks.Kind.TheVariants.{Finish}
use Rattle.rx_rules.specs.declared.entries.Act.{Act}
use Rattle.rx_rules.specs.declared.entries.Act.TheVariants.{Open, At as Calls, Spawn, Arrive, Wait, Release, End, Print, Census}
use Rattle.rx_rules.specs.declared.entries.Entry.{Entry}
use Rattle.rx_rules.specs.declared.entries.Entry.TheVariants.{Step, Root, Death, Join}
use Rattle.rx_base.proofs.Elements.{get-within}
use Rattle.rx_rules.specs.declared.tasks.Where.{Where}
use Rattle.rx_rules.specs.declared.tasks.Where.TheVariants.{At, Travel}
use Rattle.rx_rules.specs.declared.tasks.Task.{Task}
use Rattle.rx_rules.specs.declared.tasks.Scope.{Scope}
use Rattle.rx_rules.specs.declared.tasks.Kind.TheVariants.{Finish}
use Rattle.rx_rules.specs.declared.entries.Act.{Act}
use Rattle.rx_rules.specs.declared.entries.Act.TheVariants.{Open, At as Calls, Spawn, Arrive, Wait, Release, End, Print, Census}
use Rattle.rx_rules.specs.declared.entries.Entry.{Entry}
use Rattle.rx_rules.specs.declared.entries.Entry.TheVariants.{Step, Root, Death, Join}
use Rattle.rx_rules.specs.Plays.{Fits}
use Rattle.rx_rules.specs.Picked as picked
use Rattle.rx_rules.specs.Picked.{Turns, opens}
use Rattle.rx_rules.proofs.Append.{no_root-push, root-push}
use Rattle.rx_rules.proofs.Widths.{limit-tree, sixteen_places}
use Rattle.rx_tree_laws.proofs.Enabling.{none_left, inner_is}
use Rattle.rx_tree_laws.proofs.Rooting.{root_stands}
use Rattle.rx_runs.specs.Framing.{frames, first, kinds_of, Match, TermFits, TermsFit}
use Rattle.rx_runs.specs.Games.{GameOk, PlayerSo, JournalSo}
use Rattle.rx_runs.specs.Knowing.{KnownAreThere}
use Rattle.rx_runs.specs.PickedRuns.{ActFits, SetsFit, NextTurn, HasPickedRun}
use Rattle.rx_runs.proofs.Bounding.{owes, total, turn_pays}
use Rattle.rx_runs.proofs.Fitting.{fits_keeps, starts_fit, place_inside}
use Rattle.rx_runs.proofs.Framing.{Framed, framed}
use Rattle.rx_runs.proofs.Keeping.{turn_keeps, picked_row}
use Rattle.rx_runs.proofs.Journals.{longer}
use Rattle.rx_runs.proofs.Knowing.{goes_know, comes_knowing}
use Rattle.rx_runs.proofs.Opening.{starts_ok}
use Rattle.rx_runs.proofs.Pairs.{pairs-length}
use Rattle.rx_runs.proofs.Planned.{IsPlanned, planned_no_root, due_planned}
use Rattle.rx_runs.proofs.Picks.{Pick, picked_task, reached_in}
use Rattle.rx_runs.proofs.Sets.{set_members}
use Rattle.rx_runs.proofs.Theorem.{turn_grows}
use Rattle.rx_runs.proofs.Walks.{IsLast}
use Rattle.rx_runs.proofs.Walking.{Walked, walk}

due_or : (n : ℕ) (xs : List Event) → ((e : Entry) × IsDue n e xs) ⊎ NoneDue n xs
due_or n [] = inr tt
due_or n (x ∷ xs) = ⊎_elim (λ (lt : n < x.moment). inr lt) (λ (ge : x.moment ≤ n). inl (x.entry, (refl, ge))) (cases_lt n x.moment)

-- what a release names there is
names : (T : Tree) (s : ScopeId) → length T.dead ≡ 16 → quiet T s ≡ true → (lost : PlaceSet) × MayFree T s lost (masked_under T s) (thrown_of T s) × (lost.0 < 2 ^ 16)
names T s size still =
    let f : ℕ → Bool = λ p. list_any (λ x. is_under T s x && was_lost_at p x) T.tasks in
    let m = set_members f in
    (m.0, record { is_quiet = still; places = m.1 ∙ ap (filter f) (sym (sixteen_places T size)); count = refl; faults = refl }, m.2)

-- one entry more
fits_push : (es : List Entry) (e : Entry) → SetsFit es → SetsFit (e ∷ []) → SetsFit (es ++ e ∷ [])
fits_push [] e h k = k
fits_push (Step t act batch ∷ es) e h k = (h.0, fits_push es e h.1 k)
fits_push (Root lost masked thrown ∷ es) e h k = (h.0, fits_push es e h.1 k)
fits_push (Death d ∷ es) e h k = fits_push es e h k
fits_push (Join p ∷ es) e h k = fits_push es e h k

-- what is planned names no set
planned_fits : (e : Entry) → IsPlanned e → SetsFit (e ∷ [])
planned_fits (Death d) h = tt
planned_fits (Join p) h = tt
planned_fits (Step t act batch) h = absurd h
planned_fits (Root lost masked thrown) h = absurd h

-- a turn, where the sets that it names have 16 bits
abbrev HasTurn : Given → ℕ → Game → Type 0
HasTurn U k G = (used : Bool) × (G' : Game) × Turn U k G used G' × (SetsFit G.entries → SetsFit G'.entries)

-- The scopes of a task, by the kinds.

no_own : (p : Scope → Bool) (gs : List Scope) → Match [] (map (λ g. g.kind) (filter p gs)) → find p gs ≡ None
no_own p [] m = refl
no_own p (g ∷ gs) m =
    (elim (p g) as (λ b. Match [] (map (λ (h : Scope). h.kind) (cond b (g ∷ filter p gs) (filter p gs))) → cond b (Some g) (find p gs) ≡ None) [
      | true ↦ λ k. absurd k
      | false ↦ λ k. no_own p gs k
    ]) m

last_own : (p : Scope → Bool) (b : Bool) (fs : List Bool) (gs : List Scope) → Match (b ∷ fs) (map (λ g. g.kind) (filter p gs)) → (g : Scope) × (find p gs ≡ Some g) × (b ≡ false → g.kind ≡ Finish)
last_own p b fs [] m = absurd m
last_own p b fs (g ∷ gs) m =
    (elim (p g) as (λ c. Match (b ∷ fs) (map (λ (h : Scope). h.kind) (cond c (g ∷ filter p gs) (filter p gs))) → (h : Scope) × (cond c (Some g) (find p gs) ≡ Some h) × (b ≡ false → h.kind ≡ Finish)) [
      | true ↦ λ k. (g, refl, k.0)
      | false ↦ λ k. last_own p b fs gs k
    ]) m

-- A turn of a task at a place.

module _ (U : Given) (k : ℕ) (G : Game) (free : NoneDue (length G.entries) G.plan) (x : Task) (here : PlaceId) (p : Player) (S : State) (pick : slice_get (enabled (tree_in U G)) (k % length (enabled (tree_in U G))) ≡ Some x) (at : x.place ≡ At here) (player : slice_get G.players x.number.0 ≡ Some p) (store : slice_get G.stores here.0 ≡ Some S) (one : Pick (tree_in U G) x) (w : Walked U.heap (length G.entries) x.number here p S (journal_at G.journals here.0)) (fit : TermFits (kinds_of (tree_in U G) x.number) x.waits p.term) where
  abbrev q : Player
  q = w.player

  by_act : (act : Act) → Fits here q.term (does q.vars here.0 q.term) act → AllowedAct (tree_in U G) x.number act → ActFits act → HasTurn U k G
  by_act act fits may sets = (true, _, picked.moves x here p q S w.store w.journal act (free, pick) at player store w.goes fits may, λ h. fits_push G.entries (Step x.number act q.batch) h (sets, tt))

  waits_is : (b : Bool) → first (frames q.term) ≡ b → x.waits ≡ b
  waits_is b e = fit.waits_is ∙ ap first (sym w.same) ∙ e

  live : first (frames q.term) ≡ false → IsLive here x
  live e = (at, waits_is false e)

  allowed : (act : Act) → ActAsks (tree_in U G) x.number x act → AllowedAct (tree_in U G) x.number act
  allowed act asks = record { task = x; stands = one.stands; unstruck = one.free; asks = asks }

  match_of : (fs : List Bool) → frames q.term ≡ fs → Match fs (kinds_of (tree_in U G) x.number)
  match_of fs e = subst (λ (v : List Bool). Match v (kinds_of (tree_in U G) x.number)) (sym w.same ∙ e) fit.frames_are

  turn_by : (d : Does) → does q.vars here.0 q.term ≡ d → Framed (tree_in U G).places q.term d → IsLast d → HasTurn U k G
  turn_by Opens e f l =
      let T : Tree = tree_in U G in
      by_act (Open (record { 0 = T.next_scope }) (inner T x) f.1.0) (subst (λ (d : Does). Fits here q.term d (Open (record { 0 = T.next_scope }) (inner T x) f.1.0)) (sym e) f.1.1)
      (allowed (Open (record { 0 = T.next_scope }) (inner T x) f.1.0) ((here, live f.0), refl, refl)) tt
  turn_by (Asks pl) e f l =
      let T : Tree = tree_in U G in
      let to : PlaceId = record { 0 = pl } in
      by_act (Calls here to (record { 0 = T.next_scope }) (inner T x) (record { 0 = T.next_task }) f.1.0) (subst (λ (d : Does). Fits here q.term d (Calls here to (record { 0 = T.next_scope }) (inner T x) (record { 0 = T.next_task }) f.1.0)) (sym e) (refl, refl, f.1.1))
      (allowed (Calls here to (record { 0 = T.next_scope }) (inner T x) (record { 0 = T.next_task }) f.1.0) (live f.0, refl, refl, refl, f.2)) tt
  turn_by (Spawns pl) e f l =
      let T : Tree = tree_in U G in
      let to : PlaceId = record { 0 = pl } in
      by_act (Spawn (record { 0 = T.next_task }) (governs T x) here to f.1.0) (subst (λ (d : Does). Fits here q.term d (Spawn (record { 0 = T.next_task }) (governs T x) here to f.1.0)) (sym e) (refl, refl, f.1.1))
      (allowed (Spawn (record { 0 = T.next_task }) (governs T x) here to f.1.0) (live f.0, refl, refl, f.2)) tt
  turn_by (Waits faults) e f l =
      let T : Tree = tree_in U G in
      let own = last_own (opened_by x.number) false f.0 T.scopes (match_of (false ∷ f.0) f.1) in
      by_act (Wait own.0.number faults) (subst (λ (d : Does). Fits here q.term d (Wait own.0.number faults)) (sym e) refl)
      (allowed (Wait own.0.number faults) ((here, live (ap first f.1)), own.0, (own.1, refl), own.2 refl)) tt
  turn_by Releases e f l =
      let T : Tree = tree_in U G in
      let own = last_own (opened_by x.number) true f.0 T.scopes (match_of (true ∷ f.0) f.1) in
      let waits : x.waits ≡ true = waits_is true (ap first f.1) in
      let at_own : inner T x ≡ own.0.number = inner_is T x own.0 own.1 in
      let still : quiet T own.0.number ≡ true = ap (quiet T) (sym at_own) ∙ sym (ap (λ b. not b || quiet T (inner T x)) waits) ∙ one.able in
      let n = names T own.0.number (limit-tree U.places G.entries) still in
      let act : Act = Release own.0.number n.0 (masked_under T own.0.number) (thrown_of T own.0.number) in
      by_act act (subst (λ (d : Does). Fits here q.term d (Release own.0.number n.0 (masked_under T own.0.number) (thrown_of T own.0.number))) (sym e) tt)
      (allowed act (waits, own.0, (own.1, refl), n.1)) n.2
  turn_by (Prints z) e f l =
      by_act (Print z f.1.0) (subst (λ (d : Does). Fits here q.term d (Print z f.1.0)) (sym e) (refl, f.1.1))
      (allowed (Print z f.1.0) (here, live f.0)) tt
  turn_by (Counts name) e f l =
      let count : ℕ = (tree_in U G).places in
      by_act (Census count f.1.0) (subst (λ (d : Does). Fits here q.term d (Census count f.1.0)) (sym e) f.1.1)
      (allowed (Census count f.1.0) ((here, live f.0), refl)) tt
  turn_by (Done faults) e f l = (
    true,
    _,
    picked.ends x here p q S w.store w.journal faults (free, pick) at player store w.goes e
        (allowed (End faults) ((here, live (ap first f)), no_own (opened_by x.number) (tree_in U G).scopes (match_of [] f))),
    λ h. fits_push G.entries (Step x.number (End faults) q.batch) h (tt, tt),
  )
  turn_by _ e f l = absurd l

-- A next turn.

module _ (code : Block) (U : Given) (G : Game) (ok : GameOk code U G) (all : TermsFit (tree_in U G) G.players) (known : KnownAreThere U G) (k : ℕ) where
  by_pick : NoneDue (length G.entries) G.plan → (x : Task) → slice_get (enabled (tree_in U G)) (k % length (enabled (tree_in U G))) ≡ Some x → (place : Where) → x.place ≡ place → HasTurn U k G
  by_pick free x pick (Travel from to) e =
      let one : Pick (tree_in U G) x = picked_task (tree_in U G) (k % length (enabled (tree_in U G))) x (reached_in code U G ok) pick in
      (true, _, picked.arrives x to (free, pick) (record { task = x; stands = one.stands; unstruck = one.free; asks = (from, e) }), λ h. fits_push G.entries (Step x.number (Arrive to) []) h (tt, tt))
  by_pick free x pick (At here) e =
      let one : Pick (tree_in U G) x = picked_task (tree_in U G) (k % length (enabled (tree_in U G))) x (reached_in code U G ok) pick in
      let old : x.number.0 < length ok.starts = (picked_row (in_all U) (length ok.starts) G.entries (tree_in U G) (k % length (enabled (tree_in U G))) x ok.ties pick).0 in
      let players : length ok.starts ≡ length G.players = pairs-length (PlayerSo ok.starts G.entries G.journals) 0 ok.starts G.players ok.each in
      let low : here.0 < (tree_in U G).places = place_inside code U G ok x here one.stands e in
      let journals : length G.journals ≡ length G.stores = pairs-length (JournalSo U G.entries) 0 G.journals G.stores ok.journals in
      let each_is : length G.journals ≡ in_all U = ok.one_each in
      let within : (tree_in U G).places ≤ in_all U = ok.ties.within in
      let p = get-within G.players x.number.0 (omega arith) in
      let S = get-within G.stores here.0 (omega arith) in
      let fit = all x.number x p.0 one.stands one.free p.1 in
      let w = walk U.heap (length G.entries) x.number here p.0 S.0 (journal_at G.journals here.0) fit.shape in
      let old : p.0.vars.places ≤ (tree_in U G).places = known x.number.0 p.0 p.1 in
      let same : w.player.vars.places ≡ p.0.vars.places = goes_know w.goes in
      turn_by U k G free x here p.0 S.0 pick e p.1 S.1 one w fit (does w.player.vars here.0 w.player.term) refl (framed w.player.vars here.0 (tree_in U G).places low (omega arith) w.player.term w.shape) w.last

  by_enabled : NoneDue (length G.entries) G.plan → (xs : List Task) → enabled (tree_in U G) ≡ xs → HasTurn U k G
  by_enabled free [] e =
      let T : Tree = tree_in U G in
      let root = root_stands U.places G.entries ok.folds.some ok.folds.few ok.folds.allowed ok.no_root in
      let n = names T the_root (limit-tree U.places G.entries) (none_left T (reached_in code U G ok) e) in
      (false, _, picked.root n.0 (masked_under T the_root) (thrown_of T the_root) free e (root.0, root.1, n.1), λ h. fits_push G.entries (Root n.0 (masked_under T the_root) (thrown_of T the_root)) h (n.2, tt))
  by_enabled free (y ∷ ys) e =
      let size : length (enabled (tree_in U G)) ≡ suc (length ys) = ap length e in
      let some : 0 < length (enabled (tree_in U G)) = omega arith in
      let x = get-within (enabled (tree_in U G)) (k % length (enabled (tree_in U G))) (mod-lt k some) in
      by_pick free x.0 x.1 x.0.place refl

  pub next_of : HasTurn U k G
  next_of = ⊎_elim (λ (d : (e : Entry) × IsDue (length G.entries) e G.plan). (false, _, picked.due d.0 d.1, λ h. fits_push G.entries d.0 h (planned_fits d.0 (due_planned (length G.entries) (in_all U) (tree_in U G).places G.entries G.plan d.0 d.1 ok.plan)))) (λ (free : NoneDue (length G.entries) G.plan). by_enabled free (enabled (tree_in U G)) refl) (due_or (length G.entries) G.plan)

-- Along turns.

kept_along : (code : Block) (U : Given) (picks : ℕ → ℕ) (n j : ℕ) (G G' : Game) → (NoRoot G.entries → GameOk code U G × TermsFit (tree_in U G) G.players) → Turns U picks n j G G' → NoRoot G'.entries → GameOk code U G' × TermsFit (tree_in U G') G'.players
kept_along code U picks n j G G' ok none h = ok h
kept_along code U picks n j G G'' ok (more {G' = G'} {used = u} free t ts) h =
    let was = ok free in
    kept_along code U picks _ (used_after u j) G' G'' (λ now. (turn_keeps code U (picks j) u G G' was.0 t now, fits_keeps code U (picks j) u G G' was.0 was.1 t now)) ts h

come_along : (code : Block) (U : Given) (picks : ℕ → ℕ) (n j : ℕ) (G G' : Game) → MadeByTurns code U G → Turns U picks n j G G' → MadeByTurns code U G'
come_along code U picks n j G G' came none = came
come_along code U picks n j G G'' came (more {G' = G'} {used = u} free t ts) = come_along code U picks _ (used_after u j) G' G'' (turns came free t) ts

pub next_turn : NextTurn
next_turn code U picks n G proper ts h k =
    let was = kept_along code U picks n 0 (start_game code U) G (λ free. (starts_ok code U proper, starts_fit code U)) ts h in
    let t = next_of code U G was.0 was.1 (comes_knowing code U G (come_along code U picks n 0 (start_game code U) G opens ts)) k in
    (t.0, t.1, t.2)

turn_ends : (code : Block) (U : Given) (k : ℕ) (used : Bool) (G G' : Game) → GameOk code U G → Turn U k G used G' → NoRoot G.entries → (NoRoot G'.entries) ⊎ (EndsWithRoot G'.entries)
turn_ends code U k used G G' ok (picked.due e now) h =
    inl (no_root-push G.entries e h (planned_no_root e (due_planned (length G.entries) (in_all U) (tree_in U G).places G.entries G.plan e now ok.plan)))
turn_ends code U k used G G' ok (picked.arrives x p takes may) h = inl (no_root-push G.entries (Step x.number (Arrive p) []) h tt)
turn_ends code U k used G G' ok (picked.moves x here p q S Z j act takes at player store goes fits may) h = inl (no_root-push G.entries (Step x.number act q.batch) h tt)
turn_ends code U k used G G' ok (picked.ends x here p q S Z j f takes at player store goes done may) h = inl (no_root-push G.entries (Step x.number (End f) q.batch) h tt)
turn_ends code U k used G G' ok (picked.root lost masked thrown none_due empty may) h = inr (root-push G.entries lost masked thrown h)

-- turns to the end of a run
pub record Runs (U : Given) (picks : ℕ → ℕ) (j : ℕ) (G : Game) : Type 0 where
  pub turns : ℕ
  pub last : Game
  pub made : Turns U picks turns j G last
  pub ended : EndsWithRoot last.entries
  pub sets : SetsFit G.entries → SetsFit last.entries

run_on : (code : Block) (U : Given) (picks : ℕ → ℕ) (fuel j : ℕ) (G : Game) → owes G.entries 0 G.players + length G.plan < fuel → MadeByTurns code U G → GameOk code U G → TermsFit (tree_in U G) G.players → Runs U picks j G
run_on code U picks zero j G less came ok all = absurd (omega arith)
run_on code U picks (suc fuel) j G less came ok all =
    let t = next_of code U G ok all (comes_knowing code U G came) (picks j) in
    ⊎_elim
    (λ (free : NoRoot t.1.entries).
    let paid : total t.1 ≤ total G = turn_pays code U (picks j) t.0 G t.1 ok t.2 free in
    let grown = turn_grows U (picks j) t.0 G t.1 t.2 in
    let size : length t.1.entries ≡ suc (length G.entries) = ap length grown.1 ∙ longer G.entries grown.0 in
    let r = run_on code U picks fuel (used_after t.0 j) t.1 (omega (arith, less, paid, size)) (turns came ok.no_root t.2) (turn_keeps code U (picks j) t.0 G t.1 ok t.2 free) (fits_keeps code U (picks j) t.0 G t.1 ok all t.2 free) in
    record { turns = suc r.turns; last = r.last; made = more ok.no_root t.2 r.made; ended = r.ended; sets = λ h. r.sets (t.3 h) })
    (λ (end : EndsWithRoot t.1.entries). record { turns = 1; last = t.1; made = more ok.no_root t.2 none; ended = end; sets = t.3 })
    (turn_ends code U (picks j) t.0 G t.1 ok t.2 ok.no_root)

pub has_run : HasPickedRun
has_run code U picks proper =
    let G : Game = start_game code U in
    let r = run_on code U picks (suc (owes G.entries 0 G.players + length G.plan)) 0 G (omega arith) opens (starts_ok code U proper) (starts_fit code U) in
    (r.last.entries, r.last.journals, record { turns = r.turns; game = r.last; made = r.made; ended = r.ended; entries = refl; journals = refl }, r.sets tt)
