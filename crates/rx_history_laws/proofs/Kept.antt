-- What every entry keeps of the open scopes, from which it follows that each waiter that holds an item of a living task is open.
use Rattle.std.proofs.Common.{◌≡◌, ◌⊎◌, ℕ, suc, ◌<◌, ◌≤◌, Bool, true, List, [], ◌∷◌, ◌++◌, map, filter, Some, None, refl, ap, sym, subst, ◌∙◌, arith, inl, inr}
use Rattle.std.proofs.lemmas.Bool.{eq-eqb, ne_eqb, cond_both}
use Rattle.rx_rules.proofs.Common.{TaskId, Block, Stmt, Finish, Term, Empty, items, Tree, task_of, inner, AllowedAct, made_act, opening, is_on, walk, links, born_so_far}
use Rattle.rx_rules.specs.declared.tasks.Task.{Task}
use Rattle.rx_rules.specs.declared.tasks.Scope.{Scope}
use Rattle.rx_rules.specs.declared.entries.Act.{Act}
use Rattle.rx_rules.specs.declared.entries.Act.TheVariants.{Open, At as Calling, Spawn, Arrive, Wait, Release, End, Print as Printed, Census as Counted}
use Rattle.rx_rules.specs.declared.entries.Entry.{Entry}
use Rattle.rx_rules.specs.declared.entries.Entry.TheVariants.{Step}
use Rattle.rx_rules.proofs.Numbers.{scope-after_end}
use Rattle.rx_rules.proofs.Lookups.{number-of}
use Rattle.rx_history_laws.proofs.Straight.{code_at, is_waiter}
use Rattle.rx_history_laws.proofs.Lines.{bone, Falls}
use Rattle.rx_history_laws.proofs.Ties.{Tied}
use Rattle.rx_history_laws.proofs.HeadsStep.{items-heads}
use Rattle.rx_history_laws.proofs.Lies.{LiesIn}
use Rattle.rx_history_laws.proofs.ToldPairs.{is_alive}
use Rattle.rx_history_laws.proofs.StillOpen.{AllOpen}
use Rattle.rx_history_laws.proofs.Governed.{AreFinish}
use Rattle.rx_history_laws.proofs.Numbered.{On, opened, nums_of, scope_in}
use Rattle.rx_history_laws.proofs.Owners.{Core, core, cores, own_nums, top, inner-top}
use Rattle.rx_history_laws.proofs.Rows.{under_in, Linked, task-under}

-- y lies properly within x
abbrev pub Within : List ℕ → List ℕ → Type 0
Within x y = (i : ℕ) × (w : List ℕ) × (y ≡ x ++ i ∷ w)

-- each scope with this number is a finish
abbrev pub AllFinish : ℕ → List Core → Type 0
AllFinish m [] = Unit {0}
AllFinish m (k ∷ ks) = (k.number ≡ m → k.finish ≡ true) × AllFinish m ks

pub finish-bones : (m : ℕ) (gs : List Scope) → AllFinish m (map core gs) → AreFinish m (map bone gs)
finish-bones m [] h = tt
finish-bones m (g ∷ gs) h = (h.0, finish-bones m gs h.1)

pub finish-filter : (test : ℕ → Bool) (m : ℕ) (ks : List Core) → AllFinish m ks → AllFinish m (filter (λ k. test k.number) ks)
finish-filter test m [] h = tt
finish-filter test m (k ∷ ks) h =
    cond_both (test k.number) (k ∷ filter (λ k. test k.number) ks) (filter (λ k. test k.number) ks) (AllFinish m) (λ e. (h.0, finish-filter test m ks h.1))
    (λ e. finish-filter test m ks h.1)

-- no scope has a number from n on
pub finish-fresh : (n m : ℕ) (gs : List Scope) → Falls n (map bone gs) → n ≤ m → AllFinish m (map core gs)
finish-fresh n m [] f h = tt
finish-fresh n m (g ∷ gs) f h =
    let low : g.number.0 < n = f.0 in (λ e. absurd (omega arith), finish-fresh g.number.0 m gs f.1 (omega arith))

-- task c is alive or yet to be born
abbrev pub Known : Tree → ℕ → Type 0
Known T c = (T.next_task ≤ c) ⊎ (is_alive T c ≡ true)

-- the scope that a task has open where it is inside the innermost, and else the one that it hangs under
abbrev pub inner_num : List Entry → ℕ → ℕ
inner_num past c = top (under_in (born_so_far past) c) (nums_of (opened past c))

pub record Kept (code : Block) (past : List Entry) (T : Tree) (f : ℕ → Term) : Type 0 where
  pub all_open : AllOpen code past T f
  -- the scopes of the tree that a task opened are those that it has open, in order
  pub own : (c : ℕ) → Known T c → own_nums c (cores T) ≡ nums_of (opened past c)
  -- the parent of each is the next, and of the last the scope that the task hangs under
  pub linked : (c : ℕ) → is_alive T c ≡ true → Linked (walk (links past)) (under_in (born_so_far past) c) (nums_of (opened past c))
  pub below : (c s : ℕ) (x : List ℕ) → On s x (opened past c) → (0 < s) × (s < T.next_scope)
  pub single : (c d s : ℕ) (x y : List ℕ) → On s x (opened past c) → On s y (opened past d) → c ≡ d
  -- numbers grow with the depth of the path
  pub grow : (c d s r : ℕ) (x y : List ℕ) → On s x (opened past c) → On r y (opened past d) → Within x y → s < r
  pub kind : (c s : ℕ) (x : List ℕ) (body : Block) → On s x (opened past c) → code_at code x ≡ Some (Finish body) → AllFinish s (cores T)
  -- a living task that has an item in the statement of an open scope of another task hangs under that scope
  pub under : (c : ℕ) → is_alive T c ≡ true → (x : List ℕ) (u : Stmt) → code_at code x ≡ Some u → is_waiter u ≡ true → LiesIn (f c) x u → (o s : ℕ) → On s x (opened past o) → (o ≡ c → ⊥) → is_on s (walk (links past) (under_in (born_so_far past) c)) ≡ true

short_path : (x : List ℕ) (m j : ℕ) (r : List ℕ) → m ∷ [] ≡ x ++ j ∷ r → x ≡ []
short_path [] m j r e = refl
short_path (i ∷ []) m j r e = cc
short_path (i ∷ k ∷ x) m j r e = cc

no_root : (code : Block) (u : Stmt) (x : List ℕ) → code_at code x ≡ Some u → x ≡ [] → ⊥
no_root code u x e s = let h : code_at code [] ≡ Some u = subst (λ v. code_at code v ≡ Some u) s e in cc

-- at the start nothing is open, and no item lies in a statement
pub kept-start : (code : Block) (q : ℕ) → Kept code [] (opening q) (λ c. items code [] Empty)
kept-start code q =
    record {
      all_open = λ c low alive x u e w l. absurd (elim (items-heads code [] 0 Empty l.head l.is_head) [
        | inl m ↦ no_root code u x e (short_path x m.0 l.next l.rest (sym m.1 ∙ l.way))
        | inr k ↦ k
      ]);
      own = λ c h. refl;
      linked = λ c h. tt;
      below = λ c s x h. absurd h;
      single = λ c d s x y h k. absurd h;
      grow = λ c d s r x y h k w. absurd h;
      kind = λ c s x body h e. absurd h;
      under = λ c h x u e w l o s k n. absurd k;
    }

-- What an act makes of scope numbers, chains and births.

abbrev pub NextScope : Tree → Act → Tree → Type 0
NextScope T act after =
    ((scope_in act ≡ None) × (after.next_scope ≡ T.next_scope)) ⊎ ((s : ℕ) × (scope_in act ≡ Some s) × (s ≡ T.next_scope) × (after.next_scope ≡ suc T.next_scope))

pub next-scope : (T : Tree) (t : TaskId) (act : Act) → AllowedAct T t act → NextScope T act (made_act T t act)
next-scope T t (Open s r x) a = inr (s.0, refl, a.asks.1, refl)
next-scope T t (Calling from to s r c x) a = inr (s.0, refl, a.asks.1, refl)
next-scope T t (Spawn c s from to x) a = inl (refl, refl)
next-scope T t (Arrive p) a = inl (refl, refl)
next-scope T t (Wait s thrown) a = inl (refl, refl)
next-scope T t (Release s lost masked thrown) a = inl (refl, refl)
next-scope T t (End thrown) a = inl (refl, scope-after_end T t thrown)
next-scope T t (Printed value x) a = inl (refl, refl)
next-scope T t (Counted places x) a = inl (refl, refl)

-- chains of scopes that are there stay
pub walk-more : (past : List Entry) (T : Tree) (t : TaskId) (act : Act) (batch : List (List ℕ)) → AllowedAct T t act → (n : ℕ) → n < T.next_scope → walk (links (Step t act batch ∷ past)) n ≡ walk (links past) n
walk-more past T t (Open s r x) batch a n h = let e : s.0 ≡ T.next_scope = a.asks.1 in rw (ne_eqb s.0 n (λ k. omega arith))
walk-more past T t (Calling from to s r c x) batch a n h = let e : s.0 ≡ T.next_scope = a.asks.1 in rw (ne_eqb s.0 n (λ k. omega arith))
walk-more past T t (Spawn c s from to x) batch a n h = refl
walk-more past T t (Arrive p) batch a n h = refl
walk-more past T t (Wait s thrown) batch a n h = refl
walk-more past T t (Release s lost masked thrown) batch a n h = refl
walk-more past T t (End thrown) batch a n h = refl
walk-more past T t (Printed value x) batch a n h = refl
walk-more past T t (Counted places x) batch a n h = refl

-- the chain of a new scope goes on from the innermost of its task
pub walk-new : (past : List Entry) (T : Tree) (t : TaskId) (act : Act) (batch : List (List ℕ)) → AllowedAct T t act → (m : ℕ) → ((x : Task) → task_of T t ≡ Some x → (inner T x).0 ≡ m) → (n : ℕ) → scope_in act ≡ Some n → walk (links (Step t act batch ∷ past)) n ≡ n ∷ walk (links past) m
walk-new past T t (Open s r x) batch a m h n e =
    let same : s.0 ≡ n = cc in
    rw (eq-eqb s.0 n same) (ap (λ k. n ∷ walk (links past) k) (ap (λ v. v.0) a.asks.2 ∙ h a.task a.stands))
walk-new past T t (Calling from to s r c x) batch a m h n e =
    let same : s.0 ≡ n = cc in
    rw (eq-eqb s.0 n same) (ap (λ k. n ∷ walk (links past) k) (ap (λ v. v.0) a.asks.2 ∙ h a.task a.stands))
walk-new past T t (Spawn c s from to x) batch a m h n e = cc
walk-new past T t (Arrive p) batch a m h n e = cc
walk-new past T t (Wait s thrown) batch a m h n e = cc
walk-new past T t (Release s lost masked thrown) batch a m h n e = cc
walk-new past T t (End thrown) batch a m h n e = cc
walk-new past T t (Printed value x) batch a m h n e = cc
walk-new past T t (Counted places x) batch a m h n e = cc

-- tasks that are there hang where they hung
pub under-same : (past : List Entry) (T : Tree) (t : TaskId) (act : Act) (batch : List (List ℕ)) → AllowedAct T t act → (c : ℕ) → c < T.next_task → under_in (born_so_far (Step t act batch ∷ past)) c ≡ under_in (born_so_far past) c
under-same past T t (Open s r x) batch a c h = refl
under-same past T t (Calling from to s r d x) batch a c h = let e : d.0 ≡ T.next_task = a.asks.3 in rw (ne_eqb d.0 c (λ k. omega arith))
under-same past T t (Spawn d s from to x) batch a c h = let e : d.0 ≡ T.next_task = a.asks.1 in rw (ne_eqb d.0 c (λ k. omega arith))
under-same past T t (Arrive p) batch a c h = refl
under-same past T t (Wait s thrown) batch a c h = refl
under-same past T t (Release s lost masked thrown) batch a c h = refl
under-same past T t (End thrown) batch a c h = refl
under-same past T t (Printed value x) batch a c h = refl
under-same past T t (Counted places x) batch a c h = refl

-- the scope that a task works in is the innermost that it has open, or the one that it hangs under
pub inner-of : (past : List Entry) (T : Tree) → Tied past T → (t : TaskId) → own_nums t.0 (cores T) ≡ nums_of (opened past t.0) → (x : Task) → task_of T t ≡ Some x → (inner T x).0 ≡ inner_num past t.0
inner-of past T i t own x h =
    inner-top T x ∙ ap (λ n. top x.under.0 (own_nums n (cores T))) (number-of T t x h) ∙ ap (top x.under.0) own ∙ ap (λ u. top u (nums_of (opened past t.0))) (task-under past T i t x h)
