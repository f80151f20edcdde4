-- A history of the ledger leads its tasks to one end.
use Rattle.std.proofs.Common.{◌≡◌, ℕ, suc, ◌+◌, List, [], ◌∷◌, ◌++◌, length, slice_get, slice_set, Some, refl, arith, ap, sym, ◌∙◌, subst}
use Rattle.rx_rules.proofs.Common.{PlaceId, TaskId, Fault, Term, Vars, Answer, answered, vars_after, Does, Local, Done, does, Cells, Tells, begun}
use Rattle.rx_rules.specs.declared.entries.Act.{Act}
use Rattle.rx_rules.specs.declared.entries.Act.TheVariants.{Arrive, End}
use Rattle.rx_rules.specs.declared.entries.Entry.{Entry}
use Rattle.rx_rules.specs.declared.entries.Entry.TheVariants.{Step}
use Rattle.rx_rules.specs.declared.events.Cell.{Cell}
use Rattle.rx_rules.specs.Plays.{Fits}
use Rattle.rx_runs.specs.Segments.{Stand}
use Rattle.rx_runs.proofs.Walks.{IsLast, fits_last}
use Rattle.rx_runs.proofs.Keeping.{no_arrival}
use Rattle.rx_rules.proofs.Inverting.{asks_no_end}
use Rattle.rx_parts.specs.Ledger.{LedgerItem, Actor, Walks, stays, local, stores, actor_arrived, actor_granted, actor_ended, actors_born, IsHostEntry, ItemMakes, hosts, arrives, asks, ends, AllMake}
use Rattle.rx_parts.proofs.Lists.{one_item}
use Rattle.rx_runs.proofs.NextSteps.{told_once, not_local_told}

pub done_last : (d : Does) (faults : List Fault) → d ≡ Done faults → IsLast d
done_last d faults e = subst IsLast (sym e) tt

-- the walk by the same events to where the store is not asked is one
pub walk_once : {here : PlaceId} {a z y : Stand} {cells others : Cells} → Walks here a cells z → Walks here a others y → others ≡ cells → IsLast (does z.vars here.0 z.term) → IsLast (does y.vars here.0 y.term) → z ≡ y
walk_once stays stays e l m = refl
walk_once stays (local f w) e l m = absurd (subst IsLast f l)
walk_once stays (stores c le tells b w) e l m = absurd (let f : ⊥ = cc in f)
walk_once (local f w) stays e l m = absurd (subst IsLast f m)
walk_once {here = here} {a = a} {y = y} {others = others} (local {after = u} {left = v} f w) (local {after = s} {left = t} g x) e l m =
    let same : Local u v ≡ Local s t = sym f ∙ g in
    let term : u ≡ s = cc in
    let vars : v ≡ t = cc in
    walk_once w
    (subst (λ (i : Vars). Walks here (record { low = a.low; vars = i; term = u; batch = begun a.term a.batch }) others y) (sym vars)
    (subst (λ (i : Term). Walks here (record { low = a.low; vars = t; term = i; batch = begun a.term a.batch }) others y) (sym term) x)) e l m
walk_once {here = here} (local f w) (stores {cell = c} b le tells g x) e l m = absurd (not_local_told _ here c b _ _ f tells)
walk_once (stores c le tells b w) stays e l m = absurd (let f : ⊥ = cc in f)
walk_once {here = here} (stores {cell = c} b le tells g w) (local f x) e l m = absurd (not_local_told _ here c b _ _ f tells)
walk_once {here = here} {a = a} {y = y} (stores {cells = cells} {stamp = stamp} {cell = c} {x = x} b le tells g w) (stores {cells = others} {stamp = stamp2} {cell = c2} {x = x2} b2 le2 tells2 g2 w2) e l m =
    let head : ◌≡◌ {A = ℕ × Cell × List ℕ} (stamp2, c2, x2) (stamp, c, x) = cc in
    let tail : others ≡ cells = cc in
    let stamps : stamp2 ≡ stamp = ap (λ (v : ℕ × Cell × List ℕ). v.0) head in
    let same : c2 ≡ c = ap (λ (v : ℕ × Cell × List ℕ). v.1) head in
    let answers : b2 ≡ b = told_once (does a.vars here.0 a.term) here c b2 b (subst (λ (v : Cell). Tells (does a.vars here.0 a.term) here v b2) same tells2) tells in
    let one : Walks here (record { low = stamp; vars = vars_after b2 a.vars; term = answered b2 a.term; batch = begun a.term a.batch }) others y = subst (λ (v : ℕ). Walks here (record { low = v; vars = vars_after b2 a.vars; term = answered b2 a.term; batch = begun a.term a.batch }) others y) stamps w2 in
    let two : Walks here (record { low = stamp; vars = vars_after b a.vars; term = answered b a.term; batch = begun a.term a.batch }) others y = subst (λ (v : Answer). Walks here (record { low = stamp; vars = vars_after v a.vars; term = answered v a.term; batch = begun a.term a.batch }) others y) answers one in
    walk_once w two tail l m

host_no_step : (e : Entry) (t : TaskId) (act : Act) (batch : List (List ℕ)) → IsHostEntry e → e ≡ Step t act batch → ⊥
host_no_step e t act batch h is = subst IsHostEntry is h

same_actor : (actors : List Actor) (t u : TaskId) (a b : Actor) → t ≡ u → slice_get actors t.0 ≡ Some a → slice_get actors u.0 ≡ Some b → a ≡ b
same_actor actors t u a b e h k = one_item (slice_get actors u.0) a b (subst (λ (v : TaskId). slice_get actors v.0 ≡ Some a) e h) k

pub makes_once : {n : ℕ} {before after other : List Actor} {i : LedgerItem} → ItemMakes n before i after → ItemMakes n before i other → after ≡ other
makes_once (hosts h) (hosts k) = refl
makes_once {i = i} (hosts h) (arrives t p a is stands by away none) = absurd (host_no_step i.entry t (Arrive p) [] h is)
makes_once {i = i} (hosts h) (asks t act a z is stands by here walks low fits) = absurd (host_no_step i.entry t act z.batch h is)
makes_once {i = i} (hosts h) (ends t faults a z is stands by here walks low done) = absurd (host_no_step i.entry t (End faults) z.batch h is)
makes_once {i = i} (arrives t p a is stands by away none) (hosts h) = absurd (host_no_step i.entry t (Arrive p) [] h is)
makes_once {n = n} {before = before} {i = i} (arrives t p a is stands by away none) (arrives t2 p2 a2 is2 stands2 by2 away2 none2) =
    let e : Step t (Arrive p) [] ≡ Step t2 (Arrive p2) [] = sym is ∙ is2 in
    let tasks : t ≡ t2 = cc in
    let spots : p ≡ p2 = cc in
    let actors : a ≡ a2 = same_actor before t t2 a a2 tasks stands stands2 in
    ap (λ (v : TaskId). slice_set before v.0 (actor_arrived n i p a)) tasks ∙ ap (λ (v : PlaceId). slice_set before t2.0 (actor_arrived n i v a)) spots ∙ ap (λ (v : Actor). slice_set before t2.0 (actor_arrived n i p2 v)) actors
makes_once {i = i} (arrives t p a is stands by away none) (asks t2 act a2 z is2 stands2 by2 here walks low fits) =
    let e : Step t (Arrive p) [] ≡ Step t2 act z.batch = sym is ∙ is2 in let acts : act ≡ Arrive p = cc in
    absurd (no_arrival a2.birth.to z.term _ p (subst (λ (v : Act). Fits a2.birth.to z.term (does z.vars a2.birth.to.0 z.term) v) acts fits))
makes_once (arrives t p a is stands by away none) (ends t2 faults a2 z is2 stands2 by2 here walks low done) =
    absurd (let e : Step t (Arrive p) [] ≡ Step t2 (End faults) z.batch = sym is ∙ is2 in let f : ⊥ = cc in f)
makes_once {i = i} (asks t act a z is stands by here walks low fits) (hosts h) = absurd (host_no_step i.entry t act z.batch h is)
makes_once (asks t2 act a2 z is2 stands2 by2 here walks low fits) (arrives t p a is stands by away none) =
    let e : Step t (Arrive p) [] ≡ Step t2 act z.batch = sym is ∙ is2 in let acts : act ≡ Arrive p = cc in
    absurd (no_arrival a2.birth.to z.term _ p (subst (λ (v : Act). Fits a2.birth.to z.term (does z.vars a2.birth.to.0 z.term) v) acts fits))
makes_once {n = n} {before = before} {i = i} (asks t act a z is stands by here walks low fits) (asks t2 act2 a2 z2 is2 stands2 by2 here2 walks2 low2 fits2) =
    let e : Step t act z.batch ≡ Step t2 act2 z2.batch = sym is ∙ is2 in
    let tasks : t ≡ t2 = cc in
    let acts : act ≡ act2 = cc in
    let actors : a ≡ a2 = same_actor before t t2 a a2 tasks stands stands2 in
    let walks3 : Walks a.birth.to a.stand i.events z2 = subst (λ (v : Actor). Walks v.birth.to v.stand i.events z2) (sym actors) walks2 in
    let fits3 : Fits a.birth.to z2.term (does z2.vars a.birth.to.0 z2.term) act2 = subst (λ (v : Actor). Fits v.birth.to z2.term (does z2.vars v.birth.to.0 z2.term) act2) (sym actors) fits2 in
    let stands_at : z ≡ z2 = walk_once walks walks3 refl (fits_last a.birth.to z.term (does z.vars a.birth.to.0 z.term) act fits) (fits_last a.birth.to z2.term (does z2.vars a.birth.to.0 z2.term) act2 fits3) in
    ap (λ (v : TaskId). slice_set before v.0 (actor_granted n i act z a) ++ actors_born n i act z) tasks
    ∙ ap (λ (v : Act). slice_set before t2.0 (actor_granted n i v z a) ++ actors_born n i v z) acts
    ∙ ap (λ (v : Stand). slice_set before t2.0 (actor_granted n i act2 v a) ++ actors_born n i act2 v) stands_at
    ∙ ap (λ (v : Actor). slice_set before t2.0 (actor_granted n i act2 z2 v) ++ actors_born n i act2 z2) actors
makes_once (asks t act a z is stands by here walks low fits) (ends t2 faults a2 z2 is2 stands2 by2 here2 walks2 low2 done) =
    let e : Step t act z.batch ≡ Step t2 (End faults) z2.batch = sym is ∙ is2 in let acts : act ≡ End faults = cc in
    absurd (asks_no_end a.birth.to z.term _ faults (subst (λ (v : Act). Fits a.birth.to z.term (does z.vars a.birth.to.0 z.term) v) acts fits))
makes_once {i = i} (ends t faults a z is stands by here walks low done) (hosts h) = absurd (host_no_step i.entry t (End faults) z.batch h is)
makes_once (ends t2 faults a2 z is2 stands2 by2 here walks low done) (arrives t p a is stands by away none) =
    absurd (let e : Step t (Arrive p) [] ≡ Step t2 (End faults) z.batch = sym is ∙ is2 in let f : ⊥ = cc in f)
makes_once (ends t2 faults a2 z2 is2 stands2 by2 here2 walks2 low2 done) (asks t act a z is stands by here walks low fits) =
    let e : Step t act z.batch ≡ Step t2 (End faults) z2.batch = sym is ∙ is2 in let acts : act ≡ End faults = cc in
    absurd (asks_no_end a.birth.to z.term _ faults (subst (λ (v : Act). Fits a.birth.to z.term (does z.vars a.birth.to.0 z.term) v) acts fits))
makes_once {n = n} {before = before} {i = i} (ends t faults a z is stands by here walks low done) (ends t2 faults2 a2 z2 is2 stands2 by2 here2 walks2 low2 done2) =
    let e : Step t (End faults) z.batch ≡ Step t2 (End faults2) z2.batch = sym is ∙ is2 in
    let tasks : t ≡ t2 = cc in
    let same : faults ≡ faults2 = cc in
    let actors : a ≡ a2 = same_actor before t t2 a a2 tasks stands stands2 in
    let walks3 : Walks a.birth.to a.stand i.events z2 = subst (λ (v : Actor). Walks v.birth.to v.stand i.events z2) (sym actors) walks2 in
    let done3 : does z2.vars a.birth.to.0 z2.term ≡ Done faults2 = subst (λ (v : Actor). does z2.vars v.birth.to.0 z2.term ≡ Done faults2) (sym actors) done2 in
    let stands_at : z ≡ z2 = walk_once walks walks3 refl (done_last (does z.vars a.birth.to.0 z.term) faults done) (done_last (does z2.vars a.birth.to.0 z2.term) faults2 done3) in
    ap (λ (v : TaskId). slice_set before v.0 (actor_ended n i faults z a)) tasks
    ∙ ap (λ (v : List Fault). slice_set before t2.0 (actor_ended n i v z a)) same
    ∙ ap (λ (v : Stand). slice_set before t2.0 (actor_ended n i faults2 v a)) stands_at
    ∙ ap (λ (v : Actor). slice_set before t2.0 (actor_ended n i faults2 z2 v)) actors

pub leads_once : (n : ℕ) (before : List Actor) (h : List LedgerItem) (last other : List Actor) → AllMake n before h last → AllMake n before h other → last ≡ other
leads_once n before [] last other l m = sym l ∙ m
leads_once n before (i ∷ h) last other l m =
    leads_once (suc n) l.0 h last other l.2 (subst (λ (v : List Actor). AllMake (suc n) v h other) (sym (makes_once l.1 m.1)) m.2)

-- a history that begins with another
pub leads_split : (n : ℕ) (before : List Actor) (g h : List LedgerItem) (last : List Actor) → AllMake n before (g ++ h) last → (mid : List Actor) × AllMake n before g mid × AllMake (n + length g) mid h last
leads_split n before [] h last l = let e : n + 0 ≡ n = omega arith in (before, refl, subst (λ (v : ℕ). AllMake v before h last) (sym e) l)
leads_split n before (i ∷ g) h last l =
    let r = leads_split (suc n) l.0 g h last l.2 in
    let e : suc n + length g ≡ n + length (i ∷ g) = omega arith in
    (r.0, (l.0, l.1, r.1), subst (λ (v : ℕ). AllMake v r.0 h last) e r.2)

pub leads_join : (n : ℕ) (before : List Actor) (g h : List LedgerItem) (mid last : List Actor) → AllMake n before g mid → AllMake (n + length g) mid h last → AllMake n before (g ++ h) last
leads_join n before [] h mid last l m = let e : n + 0 ≡ n = omega arith in subst (λ (v : List Actor). AllMake n v h last) (sym l) (subst (λ (v : ℕ). AllMake v mid h last) e m)
leads_join n before (i ∷ g) h mid last l m =
    let e : n + length (i ∷ g) ≡ suc n + length g = omega arith in
    (l.0, l.1, leads_join (suc n) l.0 g h mid last l.2 (subst (λ (v : ℕ). AllMake v mid h last) e m))
