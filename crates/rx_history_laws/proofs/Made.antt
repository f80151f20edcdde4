-- Each entry that is allowed keeps what ties the tree to the entries.
use Rattle.std.proofs.Common.{◌≡◌, ℕ, suc, ◌<◌, ◌≤◌, Bool, true, false, cond, not, ◌&&◌, ◌||◌, ◌==◌, List, length, [], ◌∷◌, ◌++◌, map, filter, Option, Some, None, is_some, is_none, option_map, refl, ap, sym, subst, ◌∙◌, arith}
use Rattle.std.specs.List.{list_any, find}
use Rattle.std.proofs.lemmas.Bool.{eqb-true, eq-eqb, or_left, or_right, not-true}
use Rattle.std.proofs.lemmas.List.Elements.{filter_agree}
use Rattle.rx_rules.proofs.Common.{Fault, PlaceSet, PlaceId, TaskId, ScopeId, Tree, is_task, is_finish, task_of, scope_of, own_scope, inner, governs, chain_in, on_chain, is_under, quiet, death_of, the_root, is_scope, change_first, change_scope, born, waiting, resumed, without, after_end, made, Allowed, WorksIn, TaskBirth, is_on, is_born, born_so_far, hit_at, has_landed, has_ended}
use Rattle.rx_base.proofs.Elements.{find-passes}
use Rattle.rx_rules.specs.declared.tasks.Where.TheVariants.{At, Travel}
use Rattle.rx_rules.specs.declared.entries.Act.TheVariants.{Open, At as Calls, Spawn, Arrive, Wait, Release, End, Print, Census}
use Rattle.rx_rules.specs.declared.entries.Entry.{Entry}
use Rattle.rx_rules.specs.declared.entries.Entry.TheVariants.{Step, Root, Death, Join}
use Rattle.rx_history_laws.proofs.Lines.{Bone, bone, bones, nums, line, has_finish, line-in, find-stands, chain-bones, on_chain-line, bones-change, bones-filter}
use Rattle.rx_history_laws.proofs.Aligned.{Facts, facts, IsWhere, blow_place, IsRow, found, aligned-change, ended_too, is_other}
use Rattle.rx_history_laws.proofs.Losses.{is_off, left_of, released_too}
use Rattle.rx_history_laws.proofs.Ties.{Ties, Tied, ScopeOk, has_died, hit-unborn, ties-open, ties-born, walks_too}
use Rattle.rx_history_laws.proofs.TiesStep.{ties-arrive, ties-end, ties-death, ties-release}
use Rattle.rx_rules.specs.declared.tasks.Task.{Task}
use Rattle.rx_rules.specs.declared.tasks.Scope.{Scope}
use Rattle.rx_rules.proofs.Lookups.{number-of}

-- a change of a row in what no birth tells, and of scopes in what no bone tells
pub ties-change : (F : Facts) (born died : ℕ → Bool) (bs : List TaskBirth) (next_task next_scope places : ℕ) (dead : List (Option ℕ)) (B C : List Bone) (xs : List Task) → C ≡ B → (p : Task → Bool) (f : Task → Task) → ((b : TaskBirth) (x : Task) → IsRow F B b x → IsRow F B b (f x)) → Ties F born died bs next_task next_scope places dead B xs → Ties F born died bs next_task next_scope places dead C (change_first p f xs)
ties-change F born died bs next_task next_scope places dead B C xs e p f same i =
    subst (λ D. Ties F born died bs next_task next_scope places dead D (change_first p f xs)) (sym e)
    (record {
      falls = i.falls;
      scopes = i.scopes;
      older = i.older;
      unreleased = i.unreleased;
      births = i.births;
      later = i.later;
      tasks = aligned-change F B p f same i.tasks;
      dead_so = i.dead_so;
      few = i.few;
    })

row-waits : (F : Facts) (B : List Bone) (y : Bool) (b : TaskBirth) (x : Task) → IsRow F B b x → IsRow F B b (record x { waits = y })
row-waits F B y b x r =
    record { number = r.number; under = r.under; place = r.place; struck = r.struck; going = r.going; stands = r.stands }

-- the scope that a standing task works in stands
pub inner_stands : (past : List Entry) (T : Tree) → Tied past T → (t : TaskId) (x : Task) → task_of T t ≡ Some x → is_on (inner T x).0 (nums (bones T)) ≡ true
inner_stands past T i t x h = by_own (own_scope T x.number) refl where
  by_own : (o : Option Scope) → own_scope T x.number ≡ o → is_on (elim o as (λ _. ScopeId) [ Some g ↦ g.number | None ↦ x.under ]).0 (nums (bones T)) ≡ true
  by_own (Some g) e = find-stands _ T.scopes g e
  by_own None e =
      let f = found (facts past) (bones T) (is_task t) i.tasks x h in
      subst (λ n. is_on n (nums (bones T)) ≡ true) (sym f.is_row.under) f.is_row.stands

-- and so does the finish that governs it
abbrev first_finish : List Scope → ScopeId → ScopeId
first_finish gs root = elim (find (λ g. is_finish g.kind) gs) as (λ _. ScopeId) [ Some g ↦ g.number | None ↦ root ]

finds_step : (g : Scope) (gs : List Scope) (root : ScopeId) (y : Bool) → is_finish g.kind ≡ y → has_finish (map bone (g ∷ gs)) ≡ true → (has_finish (map bone gs) ≡ true → is_on (first_finish gs root).0 (nums (map bone gs)) ≡ true) → is_on (first_finish (g ∷ gs) root).0 (nums (map bone (g ∷ gs))) ≡ true
finds_step g gs root true e h on =
    let it : first_finish (g ∷ gs) root ≡ g.number = rw (e, first_finish) in
    subst (λ (v : ScopeId). is_on v.0 (nums (map bone (g ∷ gs))) ≡ true) (sym it) (or_left (g.number.0 == g.number.0) (is_on g.number.0 (nums (map bone gs))) (eq-eqb g.number.0 g.number.0 refl))
finds_step g gs root false e h on =
    let it : first_finish (g ∷ gs) root ≡ first_finish gs root = rw (e, first_finish) in
    subst (λ (v : ScopeId). is_on v.0 (nums (map bone (g ∷ gs))) ≡ true) (sym it) (or_right (g.number.0 == (first_finish gs root).0) (is_on (first_finish gs root).0 (nums (map bone gs))) (on (rw e at h)))

finds_some : (gs : List Scope) → has_finish (map bone gs) ≡ true → (root : ScopeId) → is_on (first_finish gs root).0 (nums (map bone gs)) ≡ true
finds_some [] h root = cc
finds_some (g ∷ gs) h root = finds_step g gs root (is_finish g.kind) refl h (λ k. finds_some gs k root)

pub governs_stands : (past : List Entry) (T : Tree) → Tied past T → (t : TaskId) (x : Task) → task_of T t ≡ Some x → is_on (governs T x).0 (nums (bones T)) ≡ true
governs_stands past T i t x h =
    let o : ScopeOk (facts past) (bones T) (inner T x).0 = i.scopes (inner T x).0 (inner_stands past T i t x h) in
    let e : map bone (chain_in T.scopes (Some (inner T x))) ≡ line (bones T) (Some (inner T x).0) = chain-bones T.scopes (Some (inner T x)) in
    let on : is_on (governs T x).0 (nums (map bone (chain_in T.scopes (Some (inner T x))))) ≡ true = finds_some (chain_in T.scopes (Some (inner T x))) (ap has_finish e ∙ o.finish) the_root in
    line-in (bones T) (Some (inner T x).0) (governs T x).0 (subst (λ l. is_on (governs T x).0 (nums l) ≡ true) e on)

-- the row of a task that is born
born_struck : (o : Option ℕ) (d : Bool) (to : PlaceId) → is_some o ≡ d → option_map blow_place (option_map (λ n. record { place = to; entry = n }) o) ≡ cond d (Some to.0) None
born_struck None d to h = rw (← h)
born_struck (Some n) d to h = rw (← h)

born_where : (from to : PlaceId) (y landed : Bool) → (from.0 == to.0) ≡ y → landed ≡ false → IsWhere ((from.0 == to.0) || landed) (record { task = 0; under = 0; from = from.0; to = to.0 }) (cond y (At to) (Travel from to))
born_where from to true landed e h = rw e (refl, refl)
born_where from to false landed e h = rw e (h, refl, refl)

row-born : (past : List Entry) (T : Tree) → Tied past T → (F : Facts) (B : List Bone) → F.ended ≡ has_ended past → F.landed ≡ has_landed past → F.hit ≡ hit_at past → (c : TaskId) (s : ScopeId) (from to : PlaceId) → c.0 ≡ T.next_task → to.0 < length T.dead → is_on s.0 (nums B) ≡ true → IsRow F B (record { task = c.0; under = s.0; from = from.0; to = to.0 }) (born T c s from to)
row-born past T i F B fe fl fh c s from to e low there =
    let u = i.later c.0 (omega arith) in
    record {
      number = refl;
      under = refl;
      place = born_where from to (from.0 == to.0) (F.landed c.0) refl (ap (λ f. f c.0) fl ∙ u.unlanded);
      struck = born_struck (death_of T to) (has_died past to.0) to (i.dead_so to low) ∙ sym (ap (λ f. f (record { task = c.0; under = s.0; from = from.0; to = to.0 })) fh ∙ hit-unborn past (record { task = c.0; under = s.0; from = from.0; to = to.0 }) u.unborn);
      going = ap (λ f. f c.0) fe ∙ u.going;
      stands = there;
    }

-- One lemma for each kind of entry.

module _ (n : ℕ) (past : List Entry) (T : Tree) (i : Tied past T) where
  abbrev Keeps : Entry → Type 0
  Keeps e = Allowed T e → Tied (e ∷ past) (made n T e)

  makes_wait : (t : TaskId) (s : ScopeId) (thrown : List Fault) (batch : List (List ℕ)) → Keeps (Step t (Wait s thrown) batch)
  makes_wait t s thrown batch a =
      ties-change (facts past) (is_born past) (has_died past) (born_so_far past) T.next_task T.next_scope T.places T.dead (bones T) _ T.tasks
      (bones-change (is_scope s) (λ g. record g { body = thrown }) (λ g. refl) T.scopes)
      (is_task t) waiting (row-waits (facts past) (bones T) true) i

  makes_open : (t : TaskId) (s r : ScopeId) (path : List ℕ) (batch : List (List ℕ)) → Keeps (Step t (Open s r path) batch)
  makes_open t s r path batch a =
      let there : is_on r.0 (nums (bones T)) ≡ true = subst (λ (v : ScopeId). is_on v.0 (nums (bones T)) ≡ true) (sym a.asks.2) (inner_stands past T i t a.task a.stands) in
      ties-open (facts past) (is_born past) (has_died past) (born_so_far past) T.next_task T.next_scope T.places T.dead (bones T) T.tasks i
      (record { number = s.0; parent = Some r.0; finish = true }) r.0 a.asks.1 refl there

  makes_spawn : (t c : TaskId) (s : ScopeId) (from to : PlaceId) (path : List ℕ) (batch : List (List ℕ)) → Keeps (Step t (Spawn c s from to path) batch)
  makes_spawn t c s from to path batch a =
      let there : is_on s.0 (nums (bones T)) ≡ true = subst (λ (v : ScopeId). is_on v.0 (nums (bones T)) ≡ true) (sym a.asks.2) (governs_stands past T i t a.task a.stands) in
      let low : to.0 < length T.dead = let k : to.0 < T.places = a.asks.3 in let e : T.places ≤ length T.dead = i.few in omega arith in
      ties-born (facts past) (is_born past) (has_died past) (born_so_far past) T.next_task T.next_scope T.places T.dead (bones T) T.tasks i
      (record { task = c.0; under = s.0; from = from.0; to = to.0 }) (born T c s from to) a.asks.1 there
      (row-born past T i (facts past) (bones T) refl refl refl c s from to a.asks.1 low there)

  makes_call : (t : TaskId) (s r : ScopeId) (c : TaskId) (from to : PlaceId) (path : List ℕ) (batch : List (List ℕ)) → Keeps (Step t (Calls from to s r c path) batch)
  makes_call t s r c from to path batch a =
      let there : is_on r.0 (nums (bones T)) ≡ true = subst (λ (v : ScopeId). is_on v.0 (nums (bones T)) ≡ true) (sym a.asks.2) (inner_stands past T i t a.task a.stands) in
      let low : to.0 < length T.dead = let k : to.0 < T.places = a.asks.4 in let e : T.places ≤ length T.dead = i.few in omega arith in
      let P : Bone = record { number = s.0; parent = Some r.0; finish = false } in
      let F : Facts = walks_too s.0 r.0 (facts past) in
      let o = ties-open (facts past) (is_born past) (has_died past) (born_so_far past) T.next_task T.next_scope T.places T.dead (bones T) T.tasks i P r.0 a.asks.1 refl there in
      let new : is_on s.0 (nums (P ∷ bones T)) ≡ true = or_left (s.0 == s.0) (is_on s.0 (nums (bones T))) (eq-eqb s.0 s.0 refl) in
      let b = ties-born F (is_born past) (has_died past) (born_so_far past) T.next_task (suc T.next_scope) T.places T.dead (P ∷ bones T) T.tasks o
      (record { task = c.0; under = s.0; from = from.0; to = to.0 }) (born T c s from to) a.asks.3 new
      (row-born past T i F (P ∷ bones T) refl refl refl c s from to a.asks.3 low new) in
      ties-change F (λ u. (c.0 == u) || is_born past u) (has_died past) (record { task = c.0; under = s.0; from = from.0; to = to.0 } ∷ born_so_far past) (suc T.next_task) (suc T.next_scope) T.places T.dead (P ∷ bones T) (P ∷ bones T) (born T c s from to ∷ T.tasks) refl
      (is_task t) waiting (row-waits F (P ∷ bones T) true) b

  makes_arrive : (t : TaskId) (p : PlaceId) (batch : List (List ℕ)) → Keeps (Step t (Arrive p) batch)
  makes_arrive t p batch a =
      ties-arrive (facts past) (is_born past) (has_died past) (born_so_far past) T.next_task T.next_scope T.places T.dead (bones T) T.tasks i t p
      a.task a.stands (number-of T t a.task a.stands)
      (λ x h. (a.asks.0, let same : a.task ≡ x = let k : Some a.task ≡ Some x = sym a.stands ∙ h in cc in ap (λ (v : Task). v.place) (sym same) ∙ a.asks.1))

  makes_end : (t : TaskId) (thrown : List Fault) (batch : List (List ℕ)) → Keeps (Step t (End thrown) batch)
  makes_end t thrown batch a =
      let stands : task_of T t ≡ Some a.task = a.stands in
      let e = ties-end (facts past) (is_born past) (has_died past) (born_so_far past) T.next_task T.next_scope T.places T.dead (bones T) T.tasks i t
      a.task stands (number-of T t a.task stands)
      (λ x h. let same : a.task ≡ x = let k : Some a.task ≡ Some x = sym stands ∙ h in cc in ap (λ (v : Task). v.struck) (sym same) ∙ a.unstruck) in
      let same_bones : map bone (change_first (is_scope a.task.under) (λ g. record g { ends = g.ends ++ thrown }) T.scopes) ≡ bones T = bones-change (is_scope a.task.under) (λ g. record g { ends = g.ends ++ thrown }) (λ g. refl) T.scopes in
      let made_so : after_end T t thrown ≡ change_scope (λ g. record g { ends = g.ends ++ thrown }) a.task.under (record T { tasks = filter (is_other t) T.tasks }) = rw (stands, after_end) in
      subst (Tied (Step t (End thrown) batch ∷ past)) (sym made_so)
      (subst (λ C. Ties (ended_too t.0 (facts past)) (is_born past) (has_died past) (born_so_far past) T.next_task T.next_scope T.places T.dead C (filter (is_other t) T.tasks)) (sym same_bones) e)

  without_bones : (s : ScopeId) → bones (without T s) ≡ left_of (bones T) s.0
  without_bones s =
      filter-bones T.scopes (λ g. ap not (on_chain-line T s g.number)) where
        filter-bones : (gs : List Scope) → ((g : Scope) → not (on_chain T s g.number) ≡ is_off (bones T) s.0 g.number.0) → map bone (filter (λ g. not (on_chain T s g.number)) gs) ≡ filter (λ b. is_off (bones T) s.0 b.number) (map bone gs)
        filter-bones gs same = ap (map bone) (filter_agree (λ g. not (on_chain T s g.number)) (λ g. is_off (bones T) s.0 g.number.0) same gs) ∙ bones-filter (is_off (bones T) s.0) gs

  released : (s : ScopeId) → is_on s.0 (nums (bones T)) ≡ true → quiet T s ≡ true → Ties (released_too s.0 (facts past)) (is_born past) (has_died past) (born_so_far past) T.next_task T.next_scope T.places T.dead (bones (without T s)) (without T s).tasks
  released s there still =
      subst (λ C. Ties (released_too s.0 (facts past)) (is_born past) (has_died past) (born_so_far past) T.next_task T.next_scope T.places T.dead C (without T s).tasks) (sym (without_bones s))
      (ties-release (facts past) (is_born past) (has_died past) (born_so_far past) T.next_task T.next_scope T.places T.dead (bones T) T.tasks i s.0 there
      (is_under T s) (λ x. on_chain-line T s x.under) (not-true (list_any (λ x. is_under T s x && is_none x.struck) T.tasks) still))

  -- a scope that may be released stands
  pub release_stands : (t : TaskId) (s : ScopeId) (g : Scope) → WorksIn T t s g → is_on s.0 (nums (bones T)) ≡ true
  release_stands t s g a =
      subst (λ (v : ScopeId). is_on v.0 (nums (bones T)) ≡ true) a.1 (find-stands _ T.scopes g a.0)

  makes_release : (t : TaskId) (s : ScopeId) (lost : PlaceSet) (masked : ℕ) (thrown : List Fault) (batch : List (List ℕ)) → Keeps (Step t (Release s lost masked thrown) batch)
  makes_release t s lost masked thrown batch a =
      ties-change (released_too s.0 (facts past)) (is_born past) (has_died past) (born_so_far past) T.next_task T.next_scope T.places T.dead (bones (without T s)) (bones (without T s)) (without T s).tasks refl
      (is_task t) resumed (row-waits (released_too s.0 (facts past)) (bones (without T s)) false)
      (released s (release_stands t s a.asks.1 a.asks.2) a.asks.3.is_quiet)

  pub root_stands : (g : Scope) → scope_of T the_root ≡ Some g → is_on 0 (nums (bones T)) ≡ true
  root_stands g h =
      subst (λ k. is_on k (nums (bones T)) ≡ true) (eqb-true g.number.0 0 (find-passes (is_scope the_root) T.scopes g h)) (find-stands _ T.scopes g h)

  makes_root : (lost : PlaceSet) (masked : ℕ) (thrown : List Fault) → Keeps (Root lost masked thrown)
  makes_root lost masked thrown a = released the_root (root_stands a.0 a.1) a.2.is_quiet

  makes_death : (d : PlaceId) → Keeps (Death d)
  makes_death d a =
      ties-death (facts past) (is_born past) (has_died past) (born_so_far past) T.next_task T.next_scope T.places T.dead (bones T) T.tasks i
      (record { place = d; entry = n }) n (let k : d.0 < T.places = a.0 in let e : T.places ≤ length T.dead = i.few in omega arith)

  makes_join : (d : PlaceId) → Keeps (Join d)
  makes_join d a =
      record {
        falls = i.falls;
        scopes = i.scopes;
        older = i.older;
        unreleased = i.unreleased;
        births = i.births;
        later = i.later;
        tasks = i.tasks;
        dead_so = i.dead_so;
        few = (let k : d.0 ≡ T.places = a.0 in let m : d.0 < length T.dead = a.1 in omega (arith, k, m));
      }

  pub tied-made : (e : Entry) → Allowed T e → Tied (e ∷ past) (made n T e)
  tied-made (Step t (Open s r path) batch) a = makes_open t s r path batch a
  tied-made (Step t (Calls from to s r c path) batch) a = makes_call t s r c from to path batch a
  tied-made (Step t (Spawn c s from to path) batch) a = makes_spawn t c s from to path batch a
  tied-made (Step t (Arrive p) batch) a = makes_arrive t p batch a
  tied-made (Step t (Wait s thrown) batch) a = makes_wait t s thrown batch a
  tied-made (Step t (Release s lost masked thrown) batch) a = makes_release t s lost masked thrown batch a
  tied-made (Step t (End thrown) batch) a = makes_end t thrown batch a
  tied-made (Step t (Print value path) batch) a = i
  tied-made (Step t (Census places path) batch) a = i
  tied-made (Root lost masked thrown) a = makes_root lost masked thrown a
  tied-made (Death d) a = makes_death d a
  tied-made (Join d) a = makes_join d a
