-- A run tells paths of its script alone.
use Rattle.std.proofs.Common.{◌≡◌, ℕ, zero, suc, ◌+◌, ◌<◌, ◌≤◌, ◌==◌, Bool, true, false, List, [], ◌∷◌, ◌++◌, All, Option, Some, None, slice_get, refl, sym, subst, arith, ⊎_elim}
use Rattle.std.specs.List.{filter_map, cons_option}
use Rattle.std.proofs.lemmas.Bool.{eq-eqb, cond_both, cases_lt}
use Rattle.std.proofs.lemmas.Option.{same_Some}
use Rattle.rx_rules.proofs.Common.{PlaceId, TaskId, Stmt, Async, AtAsync, At, Finish, If, Repeat, Try, Block, Nothing, Then, Term, Empty, Run, Raise, Trying, Body, Vars, Does, Answer, Gives, Fine, Fails, begins, answered, child, items, no_vars, after_it, Opens, Calls, Spawns, Waits, Releases, Prints, Counts, Plays, asks, ends, stops, BeginsWithArrival, EachPlays, StartsSo, begun, brought, started_by, moves_from, birth_of, travels, cell_of, journal_at, told, own_path, Tree, AllowedAct, made, opening, AllAllowed, births_of, Reached, IsOlder, opens}
use Rattle.rx_rules.specs.declared.events.Cell.{Cell}
use Rattle.rx_rules.specs.declared.events.PlaceEvent.{PlaceEvent}
use Rattle.rx_rules.specs.declared.entries.Act.{Act}
use Rattle.rx_rules.specs.declared.entries.Act.TheVariants.{Open, At as Calling, Spawn, Arrive, Wait, Release, End, Print as Printed, Census as Counted}
use Rattle.rx_rules.specs.declared.entries.Entry.{Entry}
use Rattle.rx_rules.specs.declared.entries.Entry.TheVariants.{Step, Root, Death, Join}
use Rattle.rx_rules.specs.Plays.{local, stores, Fits}
use Rattle.rx_rules.proofs.Numbers.{next-made}
use Rattle.rx_tree_laws.proofs.Reach.{task_below}
use Rattle.rx_tree_laws.proofs.Reached.{sound}
use Rattle.rx_tree_laws.proofs.Histories.{reached_now, dead-now, none_yet}
use Rattle.rx_span.specs.Paths.{Names, NamesIn, IsPath, ArePaths, RunTellsPaths}
use Rattle.rx_history_laws.proofs.Straight.{stmt_at, stmt_in, code_at}
use Rattle.rx_history_laws.proofs.TermOrder.{IfLocal}
use Rattle.rx_history_laws.proofs.TermCode.{Coded, local-coded, replaced-coded, after-coded, granted-coded, child-coded, start-coded}

-- where a statement is found, the path names it
mutual
  found-names : (s : Stmt) (x : List ℕ) (u : Stmt) → stmt_at s x ≡ Some u → Names s x
  found-names s [] u e = tt
  found-names (Async body) (i ∷ x) u e = found-names_in body i x u e
  found-names (AtAsync place body) (i ∷ x) u e = found-names_in body i x u e
  found-names (At place body) (i ∷ x) u e = found-names_in body i x u e
  found-names (Finish body) (i ∷ x) u e = found-names_in body i x u e
  found-names (If test first other) (zero ∷ i ∷ x) u e = found-names_in first i x u e
  found-names (If test first other) (suc zero ∷ i ∷ x) u e = found-names_in other i x u e
  found-names (Repeat times body) (k ∷ i ∷ x) u e = found-names_in body i x u e
  found-names (Try body dead_only handler) (zero ∷ i ∷ x) u e = found-names_in body i x u e
  found-names (Try body dead_only handler) (suc zero ∷ i ∷ x) u e = found-names_in handler i x u e
  found-names s x u e = cc

  found-names_in : (b : Block) (i : ℕ) (x : List ℕ) (u : Stmt) → stmt_in b i x ≡ Some u → NamesIn b i x
  found-names_in Nothing i x u e = cc
  found-names_in (Then first rest) zero x u e = found-names first x u e
  found-names_in (Then first rest) (suc i) x u e = found-names_in rest i x u e

found-path : (code : Block) (x : List ℕ) (u : Stmt) → code_at code x ≡ Some u → IsPath code x
found-path code [] u e = cc
found-path code (i ∷ x) u e = found-names_in code i x u e

-- what a term begins is a path of the script
begins-path : (code : Block) (t : Term) (x : List ℕ) → Coded code t → begins t ≡ Some x → IsPath code x
begins-path code (Run stmt y rest) x c h = let e : y ≡ x = cc in subst (IsPath code) e (found-path code y stmt c.0)
begins-path code (Trying inside dead_only handler y rest) x c h = begins-path code inside x c.0 h
begins-path code (Body inside rest) x c h = begins-path code inside x c.0 h
begins-path code _ x c h = cc

are-append : (code : Block) (xs ys : List (List ℕ)) → ArePaths code xs → ArePaths code ys → ArePaths code (xs ++ ys)
are-append code [] ys h k = k
are-append code (x ∷ xs) ys h k = (h.0, are-append code xs ys h.1 k)

begun-paths : (code : Block) (t : Term) (batch : List (List ℕ)) → Coded code t → ArePaths code batch → ArePaths code (begun t batch)
begun-paths code t batch c h = by_option (begins t) refl
  where
    by_option : (o : Option (List ℕ)) → begins t ≡ o → ArePaths code (elim o as (λ _. List (List ℕ)) [ Some x ↦ batch ++ x ∷ [] | None ↦ batch ])
    by_option (Some x) e = are-append code batch (x ∷ []) h (begins-path code t x c e, tt)
    by_option None e = h

fits-own : (code : Block) (here : PlaceId) (t : Term) (d : Does) (act : Act) → Coded code t → Fits here t d act → ArePaths code (own_path act)
fits-own code here t Opens (Open s r x) c h = (begins-path code t x c h, tt)
fits-own code here t (Calls place) (Calling from to s r callee x) c h = (begins-path code t x c h.2, tt)
fits-own code here t (Spawns place) (Spawn n s from to x) c h = (begins-path code t x c h.2, tt)
fits-own code here t (Waits faults) (Wait s thrown) c h = tt
fits-own code here t Releases (Release s lost masked thrown) c h = tt
fits-own code here t (Prints value) (Printed z x) c h = (begins-path code t x c h.1, tt)
fits-own code here t (Counts name) (Counted n x) c h = (begins-path code t x c h, tt)
fits-own code here t d act c h = absurd h

answer-coded : (code : Block) (a : Answer) (t : Term) → Coded code t → Coded code (answered a t)
answer-coded code (Gives name value) t c = replaced-coded code t (after_it t) c (after-coded code t c)
answer-coded code Fine t c = replaced-coded code t (after_it t) c (after-coded code t c)
answer-coded code (Fails fault) t c = replaced-coded code t (Raise (fault ∷ [])) c tt

module _ (code : Block) (starts : List (Term × Vars)) where
  -- task c starts with statements of the script
  abbrev CodedStart : ℕ → Type 0
  CodedStart c = (t : Term) × (vars : Vars) × (slice_get starts c ≡ Some (t, vars)) × Coded code t

  -- the moves tell paths, and start tasks with statements of the script
  abbrev MovesOk : List (ℕ × Act × List (List ℕ)) → Type 0
  MovesOk [] = Unit {0}
  MovesOk (m ∷ ms) = ArePaths code (m.2 ++ own_path m.1) × ((d : TaskId) → started_by m.1 ≡ Some d → CodedStart d.0) × MovesOk ms

  starts-coded : (t : Term) (vars : Vars) (act : Act) → Coded code t → StartsSo starts t vars act → (d : TaskId) → started_by act ≡ Some d → CodedStart d.0
  starts-coded t vars act c so d e = (child t, vars, rw (e, StartsSo) at so, child-coded code t c)

  plays-ok : {here : PlaceId} {low : ℕ} {vars : Vars} {t : Term} {batch : List (List ℕ)} {cells : List (ℕ × Cell × List ℕ)} {moves : List (ℕ × Act × List (List ℕ))} → Plays starts here low vars t batch cells moves → Coded code t → ArePaths code batch → MovesOk moves
  plays-ok (local {vars = vars} {t = t} {batch = batch} e p) c h =
      plays-ok p (subst (IfLocal (Coded code)) e (local-coded code vars _ t c)) (begun-paths code t batch c h)
  plays-ok (stores {t = t} {batch = batch} a le tells b p) c h = plays-ok p (answer-coded code a t c) (begun-paths code t batch c h)
  plays-ok (asks {vars = vars} {t = t} {batch = batch} {act = act} le fits so p) c h =
      (are-append code batch (own_path act) h (fits-own code _ t _ act c fits), starts-coded t vars act c so, plays-ok p (granted-coded code (brought act) t c) tt)
  plays-ok (ends {batch = batch} le e) c h = (are-append code batch [] h tt, (λ d e. cc), tt)
  plays-ok stops c h = tt

  begins-ok : (here : PlaceId) (y : Bool) (low : ℕ) (vars : Vars) (t : Term) (cells : List (ℕ × Cell × List ℕ)) (moves : List (ℕ × Act × List (List ℕ))) → Coded code t → BeginsWithArrival starts here y low vars t cells moves → MovesOk moves
  begins-ok here false low vars t cells moves c b = plays-ok b c tt
  begins-ok here true low vars t cells [] c b = tt
  begins-ok here true low vars t cells ((n, Arrive p, batch) ∷ moves) c b =
      (subst (λ l. ArePaths code (l ++ [])) (sym b.0) tt, (λ d e. cc), plays-ok b.1 c tt)
  begins-ok here true low vars t cells ((n, act, batch) ∷ moves) c b = absurd b

  each-ok : (es : List Entry) (js : List (List PlaceEvent)) (n : ℕ) (more : List (Term × Vars)) → EachPlays starts es js n more → (i : ℕ) (t : Term) (vars : Vars) → slice_get more i ≡ Some (t, vars) → Coded code t → MovesOk (moves_from 0 es (n + i))
  each-ok es js n [] p i t vars h c = cc
  each-ok es js n (s ∷ more) p zero t vars h c =
      let same : s ≡ (t, vars) = same_Some s (t, vars) h in
      let e : n ≡ n + 0 = omega arith in
      let own : Coded code s.0 = subst (λ (v : Term × Vars). Coded code v.0) (sym same) c in
      subst (λ k. MovesOk (moves_from 0 es k)) e
      (begins-ok (birth_of es n).to (travels (birth_of es n)) (birth_of es n).low s.1 s.0 (filter_map (cell_of n) (journal_at js (birth_of es n).to.0)) (moves_from 0 es n) own p.0)
  each-ok es js n (s ∷ more) p (suc i) t vars h c =
      let next : suc n + i ≡ n + suc i = omega arith in
      subst (λ k. MovesOk (moves_from 0 es k)) next (each-ok es js (suc n) more p.1 i t vars h c)

  move-own : (n : ℕ) (t : TaskId) (act : Act) (batch : List (List ℕ)) (es : List Entry) → moves_from n (Step t act batch ∷ es) t.0 ≡ (n, act, batch) ∷ moves_from (suc n) es t.0
  move-own n t act batch es = rw (eq-eqb t.0 t.0 refl) refl

  moves-later : (n : ℕ) (e : Entry) (es : List Entry) (c : ℕ) → MovesOk (moves_from n (e ∷ es) c) → MovesOk (moves_from (suc n) es c)
  moves-later n (Step t act batch) es c =
      cond_both (t.0 == c) (Some (n, act, batch)) None (λ o. MovesOk (cons_option o (moves_from (suc n) es c)) → MovesOk (moves_from (suc n) es c)) (λ e h. h.2) (λ e h. h)
  moves-later n _ es c = λ h. h

  next-coded : (T : Tree) (t : TaskId) (act : Act) (batch : List (List ℕ)) → AllowedAct T t act → ((c : ℕ) → c < T.next_task → CodedStart c) → ((d : TaskId) → started_by act ≡ Some d → CodedStart d.0) → (c : ℕ) → c < T.next_task + births_of (Step t act batch) → CodedStart c
  next-coded T t (Calling from to s r d x) batch a old new c l = one_more T d c l a.asks.3 old (new d refl)
    where
      one_more : (T : Tree) (d : TaskId) (c : ℕ) → c < T.next_task + 1 → d.0 ≡ T.next_task → ((c : ℕ) → c < T.next_task → CodedStart c) → CodedStart d.0 → CodedStart c
      one_more T d c l e old new = ⊎_elim (λ (k : c < T.next_task). old c k) (λ (k : T.next_task ≤ c). (let i : d.0 ≡ c = omega arith in subst CodedStart i new)) (cases_lt c T.next_task)
  next-coded T t (Spawn d s from to x) batch a old new c l = one_more T d c l a.asks.1 old (new d refl)
    where
      one_more : (T : Tree) (d : TaskId) (c : ℕ) → c < T.next_task + 1 → d.0 ≡ T.next_task → ((c : ℕ) → c < T.next_task → CodedStart c) → CodedStart d.0 → CodedStart c
      one_more T d c l e old new = ⊎_elim (λ (k : c < T.next_task). old c k) (λ (k : T.next_task ≤ c). (let i : d.0 ≡ c = omega arith in subst CodedStart i new)) (cases_lt c T.next_task)
  next-coded T t (Open s r x) batch a old new c l = old c (omega arith)
  next-coded T t (Arrive p) batch a old new c l = old c (omega arith)
  next-coded T t (Wait s thrown) batch a old new c l = old c (omega arith)
  next-coded T t (Release s lost masked thrown) batch a old new c l = old c (omega arith)
  next-coded T t (End thrown) batch a old new c l = old c (omega arith)
  next-coded T t (Printed z x) batch a old new c l = old c (omega arith)
  next-coded T t (Counted m x) batch a old new c l = old c (omega arith)

  told-paths : (n : ℕ) (T : Tree) (es : List Entry) → Reached T → All (IsOlder n) T.dead → AllAllowed n T es → ((c : ℕ) → c < T.next_task → CodedStart c) → ((c : ℕ) → CodedStart c → MovesOk (moves_from n es c)) → ArePaths code (told es)
  told-paths n T [] r o a s m = tt
  told-paths n T (Step t act batch ∷ es) r o a s m =
      let low : t.0 < T.next_task = task_below T.next_task T.tasks t a.0.task (sound r).tasks_fall a.0.stands in
      let own : MovesOk ((n, act, batch) ∷ moves_from (suc n) es t.0) = subst MovesOk (move-own n t act batch es) (m t.0 (s t.0 low)) in
      are-append code (batch ++ own_path act) (told es) own.0
      (told-paths (suc n) (made n T (Step t act batch)) es (reached_now n T (Step t act batch) r o a.0) (dead-now n T (Step t act batch) o) a.1
      (λ c l. next-coded T t act batch a.0 s own.1 c (subst (λ k. c < k) (next-made n T (Step t act batch)) l))
      (λ c k. moves-later n (Step t act batch) es c (m c k)))
  told-paths n T (Root lost masked thrown ∷ es) r o a s m =
      told-paths (suc n) (made n T (Root lost masked thrown)) es (reached_now n T (Root lost masked thrown) r o a.0) (dead-now n T (Root lost masked thrown) o) a.1 s m
  told-paths n T (Death d ∷ es) r o a s m =
      told-paths (suc n) (made n T (Death d)) es (reached_now n T (Death d) r o a.0) (dead-now n T (Death d) o) a.1 s m
  told-paths n T (Join p ∷ es) r o a s m =
      told-paths (suc n) (made n T (Join p)) es (reached_now n T (Join p) r o a.0) (dead-now n T (Join p) o) a.1 s m

pub run-tells-paths : RunTellsPaths
run-tells-paths code U es js r =
    let starts = r.played.starts in
    told-paths code starts 0 (opening U.places) es (opens U.places r.folds.some r.folds.few) none_yet r.folds.allowed
    (λ c l. (let z : 0 ≡ c = omega arith in subst (CodedStart code starts) z (items code [] Empty, no_vars U.places, r.played.main, start-coded code)))
    (λ c k. (let z : 0 + c ≡ c = omega arith in subst (λ i. MovesOk code starts (moves_from 0 es i)) z (each-ok code starts es js 0 starts r.played.each c k.0 k.1 k.2 k.3)))
