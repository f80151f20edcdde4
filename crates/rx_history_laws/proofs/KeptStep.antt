-- An entry of a task keeps what is kept of the open scopes.
use Rattle.std.proofs.Common.{◌≡◌, ◌⊎◌, ℕ, suc, ◌<◌, ◌≤◌, Bool, true, false, cond, not, ◌==◌, List, [], ◌∷◌, ◌++◌, filter, Some, None, refl, ap, sym, subst, ◌∙◌, arith, inl, inr}
use Rattle.std.proofs.lemmas.Bool.{eq-eqb, or_left, or_right, false_from_ne_true, not_from_false, true≢false}
use Rattle.rx_rules.proofs.Common.{TaskId, ScopeId, PlaceSet, Fault, Block, Stmt, Finish, Term, Vars, Tree, quiet, task_of, inner, AllowedAct, WorksIn, made_act, own_path, is_on, walk, links, born_so_far}
use Rattle.rx_rules.specs.declared.entries.Act.{Act}
use Rattle.rx_rules.specs.declared.entries.Act.TheVariants.{Release}
use Rattle.rx_rules.specs.declared.entries.Entry.{Entry}
use Rattle.rx_rules.specs.declared.entries.Entry.TheVariants.{Step}
use Rattle.rx_rules.specs.declared.tasks.Task.{Task}
use Rattle.rx_rules.specs.declared.tasks.Scope.{Scope}
use Rattle.rx_history_laws.proofs.Straight.{code_at, is_waiter}
use Rattle.rx_history_laws.proofs.Paths.{Starts, Comes, starts-same, starts-trans, starts-not_below, comes-other}
use Rattle.rx_history_laws.proofs.Lines.{bones, nums, line}
use Rattle.rx_history_laws.proofs.Losses.{is_off}
use Rattle.rx_history_laws.proofs.Ties.{Tied}
use Rattle.rx_history_laws.proofs.TermOrder.{todo-starts}
use Rattle.rx_history_laws.proofs.Heads.{head-begins}
use Rattle.rx_history_laws.proofs.Lies.{LiesIn}
use Rattle.rx_history_laws.proofs.NestedTerm.{Nested}
use Rattle.rx_history_laws.proofs.Stacks.{open_paths, outermost, stack_after, Stacked}
use Rattle.rx_history_laws.proofs.StillOpen.{is_release, release-of, open-stays}
use Rattle.rx_history_laws.proofs.Says.{Says, same_path}
use Rattle.rx_history_laws.proofs.Story.{Shape, set_at, set_case, open_case}
use Rattle.rx_history_laws.proofs.ToldPairs.{is_alive}
use Rattle.rx_history_laws.proofs.Governed.{tail-below}
use Rattle.rx_history_laws.proofs.Opening.{is_opening}
use Rattle.rx_history_laws.proofs.Front.{IsOpen}
use Rattle.rx_history_laws.proofs.Numbered.{On, New, opened, opened_after, opened_case, less_one, nums_of, paths_of, same-paths, on-stacked, nums-on, scope_in, on-after}
use Rattle.rx_history_laws.proofs.Owners.{Core, cores, own_nums, top, find-own, own-stands, own-filter, Became, leaves, opens, releases, became}
use Rattle.rx_history_laws.proofs.Rows.{under_in, Linked, linked-off, linked-own, linked-same, filter-all, living-born, living-low, quiet-under}
use Rattle.rx_history_laws.proofs.Kept.{Within, AllFinish, finish-filter, finish-fresh, Known, inner_num, Kept, next-scope, walk-more, walk-new, under-same, inner-of}

comes-longer : (x : List ℕ) (i : ℕ) (w : List ℕ) → Comes x (x ++ i ∷ w)
comes-longer [] i w = tt
comes-longer (j ∷ x) i w = inr (refl, comes-longer x i w)

pub within-starts : (x : List ℕ) (i : ℕ) (w : List ℕ) → Starts x (x ++ i ∷ w)
within-starts [] i w = tt
within-starts (j ∷ x) i w = (refl, within-starts x i w)

pub none_some : (s : ℕ) → None ≡ Some s → ⊥
none_some s e = cc

pub same_number : (s r : ℕ) → Some s ≡ Some r → s ≡ r
same_number s r e = cc

-- nothing on an empty stack
pub none-open : (past : List Entry) (c : ℕ) → open_paths past c ≡ [] → opened past c ≡ []
none-open past c h = by_list (opened past c) (same-paths past c ∙ h) where
  by_list : (ms : List (ℕ × List ℕ)) → paths_of ms ≡ [] → ms ≡ []
  by_list [] h = refl
  by_list (m ∷ ms) h = cc

-- where a scope is quiet, the scopes stay that another task has open
pub stays-own : (code : Block) (past : List Entry) (T : Tree) (f : ℕ → Term) → Tied past T → Kept code past T f → ((c : ℕ) → T.next_task ≤ c → open_paths past c ≡ []) → (m : ScopeId) → quiet T m ≡ true → (c : ℕ) → Known T c → is_on m.0 (nums_of (opened past c)) ≡ false → filter (is_off (bones T) m.0) (nums_of (opened past c)) ≡ nums_of (opened past c)
stays-own code past T f i k none_open m still c (inl unborn) none =
    let e : opened past c ≡ [] = none-open past c (none_open c unborn) in
    ap (λ ms. filter (is_off (bones T) m.0) (nums_of ms)) e ∙ ap nums_of (sym e)
stays-own code past T f i k none_open m still c (inr alive) none =
    filter-all (is_off (bones T) m.0) (nums_of (opened past c))
    (λ j h.
    let stands : is_on j (nums (bones T)) ≡ true = own-stands c j T.scopes (ap (is_on j) (k.own c (inr alive)) ∙ h) in
    let off : is_on m.0 (walk (links past) j) ≡ false = linked-off (walk (links past)) (under_in (born_so_far past) c) (nums_of (opened past c)) (k.linked c alive) m.0 none (quiet-under past T i m still c alive) j h in
    not_from_false (is_on m.0 (nums (line (bones T) (Some j)))) (ap (is_on m.0) (i.scopes j stands).walks ∙ off))

module _ (code : Block) (starts : List (Term × Vars)) (past : List Entry) (T : Tree) (t : TaskId) (act : Act) (batch told : List (List ℕ)) (f : ℕ → Term) (i : Tied past T) (s : Shape code past T.next_task f) (sd : Says starts (f t.0) act told) (a : AllowedAct T t act) (low : t.0 < T.next_task) (lives : is_alive T t.0 ≡ true) (k : Kept code past T f) where
  abbrev after : Tree
  after = made_act T t act

  -- numbers of scopes
  new_number : (c r : ℕ) (x : List ℕ) → New t act c r x → (r ≡ T.next_scope) × (after.next_scope ≡ suc T.next_scope)
  new_number c r x w =
      elim (next-scope T t act a) [
        | inl h ↦ absurd (none_some r (sym h.0 ∙ w.number))
        | inr h ↦ (same_number r h.0 (sym w.number ∙ h.1) ∙ h.2, h.3)
      ]

  more_scopes : T.next_scope ≤ after.next_scope
  more_scopes =
      elim (next-scope T t act a) [
        | inl h ↦ let e : after.next_scope ≡ T.next_scope = h.1 in omega arith
        | inr h ↦ let e : after.next_scope ≡ suc T.next_scope = h.3 in omega arith
      ]

  pub below-kept : (c r : ℕ) (x : List ℕ) → On r x (opened (Step t act batch ∷ past) c) → (0 < r) × (r < after.next_scope)
  below-kept c r x h =
      elim (on-after past t act batch c r x h) [
        | inl w ↦
            let e = new_number c r x w in
            let first : r ≡ T.next_scope = e.0 in
            let next : after.next_scope ≡ suc T.next_scope = e.1 in
            let some : under_in (born_so_far past) t.0 < T.next_scope = living-low past T i t.0 lives in
            (omega arith, omega arith)
        | inr o ↦
            let b = k.below c r x o in
            let small : r < T.next_scope = b.1 in
            (b.0, omega (arith, more_scopes))
      ]

  pub single-kept : (c d r : ℕ) (x y : List ℕ) → On r x (opened (Step t act batch ∷ past) c) → On r y (opened (Step t act batch ∷ past) d) → c ≡ d
  single-kept c d r x y h g =
      elim (on-after past t act batch c r x h) [
        | inl v ↦ elim (on-after past t act batch d r y g) [
          | inl w ↦ sym v.mine ∙ w.mine
          | inr o ↦ let e : r ≡ T.next_scope = (new_number c r x v).0 in let b : r < T.next_scope = (k.below d r y o).1 in absurd (omega arith)
        ]
        | inr p ↦ elim (on-after past t act batch d r y g) [
          | inl w ↦ let e : r ≡ T.next_scope = (new_number d r y w).0 in let b : r < T.next_scope = (k.below c r x p).1 in absurd (omega arith)
          | inr o ↦ k.single c d r x y p o
        ]
      ]

  -- no open scope stands within a statement that the entry begins
  pub fresh-path : (x y : List ℕ) → own_path act ≡ x ∷ [] → (d r : ℕ) → On r y (opened past d) → Starts x y → ⊥
  fresh-path x y e d r o h =
      s.unopened d t.0 y x (subst (Stacked y) (same-paths past d) (on-stacked r y (opened past d) o)) low (sd.own_todo x e) h

  pub grow-kept : (c d r m : ℕ) (x y : List ℕ) → On r x (opened (Step t act batch ∷ past) c) → On m y (opened (Step t act batch ∷ past) d) → Within x y → r < m
  grow-kept c d r m x y h g w =
      elim (on-after past t act batch c r x h) [
        | inl v ↦ elim (on-after past t act batch d m y g) [
          | inl u ↦ absurd (comes-other x (subst (Comes x) (sym w.2 ∙ same_path act y x u.path v.path) (comes-longer x w.0 w.1)))
          | inr o ↦ absurd (fresh-path x y v.path d m o (subst (Starts x) (sym w.2) (within-starts x w.0 w.1)))
        ]
        | inr p ↦ elim (on-after past t act batch d m y g) [
          | inl u ↦ let e : m ≡ T.next_scope = (new_number d m y u).0 in let b : r < T.next_scope = (k.below c r x p).1 in omega arith
          | inr o ↦ k.grow c d r m x y p o w
        ]
      ]

  -- kinds

  kind_by : (ks : List Core) → Became T t act ks → (c r : ℕ) (x : List ℕ) (body : Block) → code_at code x ≡ Some (Finish body) → New t act c r x ⊎ On r x (opened past c) → AllFinish r ks
  kind_by ks (leaves none same e) c r x body at (inl w) = absurd (none_some r (sym none ∙ w.number))
  kind_by ks (leaves none same e) c r x body at (inr o) = subst (AllFinish r) (sym e) (k.kind c r x body o at)
  kind_by ks (opens m one next same e) c r x body at (inl w) =
      let it : r ≡ T.next_scope = (new_number c r x w).0 in
      subst (AllFinish r) (sym e) (λ h. sd.opening code (s.coded t.0 low) x body at w.path, finish-fresh T.next_scope r T.scopes i.falls (omega arith))
  kind_by ks (opens m one next same e) c r x body at (inr o) =
      subst (AllFinish r) (sym e) (λ h. absurd (let b : r < T.next_scope = (k.below c r x o).1 in omega arith), k.kind c r x body o at)
  kind_by ks (releases m lost masked thrown is e) c r x body at (inl w) = absurd (none_some r (ap scope_in (sym is) ∙ w.number))
  kind_by ks (releases m lost masked thrown is e) c r x body at (inr o) =
      subst (AllFinish r) (sym e) (finish-filter (is_off (bones T) m.0) r (cores T) (k.kind c r x body o at))

  pub kind-kept : (c r : ℕ) (x : List ℕ) (body : Block) → On r x (opened (Step t act batch ∷ past) c) → code_at code x ≡ Some (Finish body) → AllFinish r (cores after)
  kind-kept c r x body h at = kind_by (cores after) (became T t act a) c r x body at (on-after past t act batch c r x h)

  -- an item of a living task in the statement of an open scope of another

  abbrev pub left : ℕ → Term
  left = set_at t.0 sd.after f

  -- the statement that an entry begins holds no item of another task
  pub no-item : (x : List ℕ) → own_path act ≡ x ∷ [] → (c : ℕ) → c < T.next_task → (t.0 ≡ c → ⊥) → (u : Stmt) → LiesIn (f c) x u → ⊥
  no-item x e c hc o u l =
      let y = head-begins (f c) l.head l.is_head in
      let in_x : Starts x y.0 = starts-trans x l.head y.0 (subst (Starts x) (sym l.way) (within-starts x l.next l.rest)) y.2 in
      o (s.apart t.0 c y.0 low hc (todo-starts (f t.0) x y.0 (sd.own_todo x e) in_x) y.1)

  abbrev pub HangsUnder : ℕ → ℕ → Type 0
  HangsUnder r c = is_on r (walk (links (Step t act batch ∷ past)) (under_in (born_so_far (Step t act batch ∷ past)) c)) ≡ true

  same_chain : (c : ℕ) → c < T.next_task → is_alive T c ≡ true → walk (links (Step t act batch ∷ past)) (under_in (born_so_far (Step t act batch ∷ past)) c) ≡ walk (links past) (under_in (born_so_far past) c)
  same_chain c hc alive =
      ap (walk (links (Step t act batch ∷ past))) (under-same past T t act batch a c hc)
      ∙ walk-more past T t act batch a (under_in (born_so_far past) c) (living-low past T i c alive)

  pub under-kept : (c : ℕ) → is_alive T c ≡ true → (x : List ℕ) (u : Stmt) → code_at code x ≡ Some u → is_waiter u ≡ true → LiesIn (left c) x u → (o r : ℕ) → On r x (opened (Step t act batch ∷ past) o) → (o ≡ c → ⊥) → HangsUnder r c
  under-kept c alive x u e w l o r h other =
      let hc : c < T.next_task = living-born past T i c alive in
      ap (is_on r) (same_chain c hc alive)
      ∙ set_case (λ v. LiesIn v x u → is_on r (walk (links past) (under_in (born_so_far past) c)) ≡ true) t.0 c sd.after f
      (λ m j. elim (on-after past t act batch o r x h) [
        | inl new ↦ absurd (other (sym new.mine ∙ m))
        | inr old ↦ elim (sd.lies code (s.coded t.0 low) x u e w j) [
          | inl own ↦ absurd (fresh-path x x own o r old (starts-same x))
          | inr was ↦ k.under c alive x u e w (subst (λ d. LiesIn (f d) x u) m was) o r old other
        ]
      ])
      (λ m j. elim (on-after past t act batch o r x h) [
        | inl new ↦ absurd (no-item x new.path c hc m u j)
        | inr old ↦ k.under c alive x u e w j o r old other
      ]) l

  -- the scopes of the tree

  -- what the release of the innermost scope of its task leaves of the scopes that the task has open
  released_own : (m : ScopeId) (lost : PlaceSet) (masked : ℕ) (thrown : List Fault) → act ≡ Release m lost masked thrown → (ns : List ℕ) → nums_of (opened past t.0) ≡ m.0 ∷ ns → filter (is_off (bones T) m.0) (m.0 ∷ ns) ≡ ns
  released_own m lost masked thrown is ns e =
      let chains : Linked (walk (links past)) (under_in (born_so_far past) t.0) (m.0 ∷ ns) = subst (Linked (walk (links past)) (under_in (born_so_far past) t.0)) e (k.linked t.0 lives) in
      let stands_in : (j : ℕ) → is_on j (m.0 ∷ ns) ≡ true → is_on j (nums (bones T)) ≡ true = λ j h. own-stands t.0 j T.scopes (ap (is_on j) (k.own t.0 (inr lives) ∙ e) ∙ h) in
      let line_m : nums (line (bones T) (Some m.0)) ≡ m.0 ∷ walk (links past) (top (under_in (born_so_far past) t.0) ns) = (i.scopes m.0 (stands_in m.0 (or_left (m.0 == m.0) (is_on m.0 ns) (eq-eqb m.0 m.0 refl)))).walks ∙ chains.0 in
      let goes : is_off (bones T) m.0 m.0 ≡ false = ap (λ l. not (is_on m.0 l)) line_m ∙ ap not (or_left (m.0 == m.0) (is_on m.0 (walk (links past) (top (under_in (born_so_far past) t.0) ns))) (eq-eqb m.0 m.0 refl)) in
      rw goes
      (filter-all (is_off (bones T) m.0) ns
      (λ j h.
      let less : j < m.0 = tail-below T.next_scope (bones T) i.falls m.0 j (walk (links past) (top (under_in (born_so_far past) t.0) ns)) line_m (linked-own (walk (links past)) (under_in (born_so_far past) t.0) ns chains.1 j h) in
      let stands : is_on j (nums (bones T)) ≡ true = stands_in j (or_right (m.0 == j) (is_on j ns) h) in
      let off : is_on m.0 (walk (links past) j) ≡ false = false_from_ne_true (is_on m.0 (walk (links past) j)) (λ g. let most : m.0 ≤ j = i.older j m.0 g in omega arith) in
      not_from_false (is_on m.0 (nums (line (bones T) (Some j)))) (ap (is_on m.0) (i.scopes j stands).walks ∙ off)))

  -- the number of the scope that is released
  pub top-released : (m : ScopeId) (g : Scope) → WorksIn T t m g → (ns : List ℕ) × (nums_of (opened past t.0) ≡ m.0 ∷ ns)
  top-released m g r =
      let o = find-own t T.scopes g r.0 in
      (o.0, sym (k.own t.0 (inr lives)) ∙ o.1 ∙ ap (λ (v : ScopeId). v.0 ∷ o.0) r.1)

  tail-of : (ms : List (ℕ × List ℕ)) (j : ℕ) (ns : List ℕ) → nums_of ms ≡ j ∷ ns → nums_of (less_one ms) ≡ ns
  tail-of [] j ns h = cc
  tail-of (m ∷ ms) j ns h = cc

  own_open : (c r : ℕ) (ms : List (ℕ × List ℕ)) (b : Bool) → (t.0 == c) ≡ b → own_nums c (cores T) ≡ nums_of ms → nums_of (opened_after act ms) ≡ r ∷ nums_of ms → own_nums c (record { number = r; opener = Some t.0; finish = is_opening act } ∷ cores T) ≡ nums_of (cond (t.0 == c) (opened_after act ms) ms)
  own_open c r ms true e h g = rw e (ap (λ l. r ∷ l) h ∙ sym g)
  own_open c r ms false e h g = rw e h

  may-release : (m : ScopeId) (lost : PlaceSet) (masked : ℕ) (thrown : List Fault) → act ≡ Release m lost masked thrown → AllowedAct T t (Release m lost masked thrown)
  may-release m lost masked thrown is = subst (AllowedAct T t) is a

  own_by : (ks : List Core) → Became T t act ks → (c : ℕ) → Known T c → own_nums c ks ≡ nums_of (opened (Step t act batch ∷ past) c)
  own_by ks (leaves none same e) c known =
      ap (own_nums c) e ∙ k.own c known ∙ ap nums_of (sym (opened_case past t act batch c (λ ms. ms ≡ opened past c) (λ h. same (opened past c)) (λ h. refl)))
  own_by ks (opens m one next same e) c known =
      ap (own_nums c) e ∙ own_open c m (opened past c) (t.0 == c) refl (k.own c known) (same (opened past c))
  own_by ks (releases m lost masked thrown is e) c known =
      let may = may-release m lost masked thrown is in
      let tops = top-released m may.asks.1 may.asks.2 in
      ap (own_nums c) e ∙ own-filter (is_off (bones T) m.0) c (cores T) ∙ ap (filter (is_off (bones T) m.0)) (k.own c known)
      ∙ opened_case past t act batch c (λ ms. filter (is_off (bones T) m.0) (nums_of (opened past c)) ≡ nums_of ms)
      (λ h.
      let e_c : nums_of (opened past c) ≡ m.0 ∷ tops.0 = subst (λ d. nums_of (opened past d) ≡ m.0 ∷ tops.0) h tops.1 in
      ap (filter (is_off (bones T) m.0)) e_c ∙ released_own m lost masked thrown is tops.0 tops.1
      ∙ sym (ap (λ v. nums_of (opened_after v (opened past c))) is ∙ tail-of (opened past c) m.0 tops.0 e_c))
      (λ h. stays-own code past T f i k s.none_open m may.asks.3.is_quiet c known (false_from_ne_true (is_on m.0 (nums_of (opened past c))) (λ g.
      let on = nums-on m.0 (opened past c) g in
      let mine = nums-on m.0 (opened past t.0) (ap (is_on m.0) tops.1 ∙ or_left (m.0 == m.0) (is_on m.0 tops.0) (eq-eqb m.0 m.0 refl)) in
      h (k.single t.0 c m.0 mine.0 on.0 mine.1 on.1))))

  pub own-kept : (c : ℕ) → Known T c → own_nums c (cores after) ≡ nums_of (opened (Step t act batch ∷ past) c)
  own-kept = own_by (cores after) (became T t act a)

  -- chains

  all_low : (c : ℕ) → (j : ℕ) → is_on j (nums_of (opened past c)) ≡ true → j < T.next_scope
  all_low c j h = let o = nums-on j (opened past c) h in (k.below c j o.0 o.1).1

  inner_low : (c : ℕ) → is_alive T c ≡ true → inner_num past c < T.next_scope
  inner_low c alive = by_list (nums_of (opened past c)) (all_low c) where
    by_list : (ns : List ℕ) → ((j : ℕ) → is_on j ns ≡ true → j < T.next_scope) → top (under_in (born_so_far past) c) ns < T.next_scope
    by_list [] h = living-low past T i c alive
    by_list (j ∷ ns) h = h j (or_left (j == j) (is_on j ns) (eq-eqb j j refl))

  abbrev walk_after : ℕ → List ℕ
  walk_after = walk (links (Step t act batch ∷ past))

  old_links : (c : ℕ) → is_alive T c ≡ true → Linked walk_after (under_in (born_so_far past) c) (nums_of (opened past c))
  old_links c alive =
      linked-same (walk (links past)) walk_after T.next_scope (under_in (born_so_far past) c) (nums_of (opened past c)) (walk-more past T t act batch a) (living-low past T i c alive) (all_low c) (k.linked c alive)

  linked_tail : (w : ℕ → List ℕ) (u : ℕ) (ms : List (ℕ × List ℕ)) → Linked w u (nums_of ms) → Linked w u (nums_of (less_one ms))
  linked_tail w u [] h = tt
  linked_tail w u (m ∷ ms) h = h.1

  linked_by : (ks : List Core) → Became T t act ks → (c : ℕ) → is_alive T c ≡ true → Linked walk_after (under_in (born_so_far past) c) (nums_of (opened (Step t act batch ∷ past) c))
  linked_by ks (leaves none same e) c alive =
      opened_case past t act batch c (λ ms. Linked walk_after (under_in (born_so_far past) c) (nums_of ms))
      (λ h. subst (λ ms. Linked walk_after (under_in (born_so_far past) c) (nums_of ms)) (sym (same (opened past c))) (old_links c alive)) (λ h. old_links c alive)
  linked_by ks (opens m one next same e) c alive =
      opened_case past t act batch c (λ ms. Linked walk_after (under_in (born_so_far past) c) (nums_of ms))
      (λ h. subst (Linked walk_after (under_in (born_so_far past) c)) (sym (same (opened past c))) (
        walk-new past T t act batch a (inner_num past c) (subst (λ d. (x : Task) → task_of T t ≡ Some x → (inner T x).0 ≡ inner_num past d) h (inner-of past T i t (k.own t.0 (inr lives)))) m one
            ∙ ap (λ l. m ∷ l) (sym (walk-more past T t act batch a (inner_num past c) (inner_low c alive))),
        old_links c alive,
      ))
      (λ h. old_links c alive)
  linked_by ks (releases m lost masked thrown is e) c alive =
      opened_case past t act batch c (λ ms. Linked walk_after (under_in (born_so_far past) c) (nums_of ms))
      (λ h. subst (λ v. Linked walk_after (under_in (born_so_far past) c) (nums_of (opened_after v (opened past c)))) (sym is) (linked_tail walk_after (under_in (born_so_far past) c) (opened past c) (old_links c alive)))
      (λ h. old_links c alive)

  pub linked-kept : (c : ℕ) → is_alive T c ≡ true → Linked walk_after (under_in (born_so_far (Step t act batch ∷ past)) c) (nums_of (opened (Step t act batch ∷ past) c))
  linked-kept c alive =
      subst (λ u. Linked walk_after u (nums_of (opened (Step t act batch ∷ past) c))) (sym (under-same past T t act batch a c (living-born past T i c alive)))
      (linked_by (cores after) (became T t act a) c alive)

  -- what was open stays open

  top_path : (ms : List (ℕ × List ℕ)) (j : ℕ) (ns : List ℕ) → nums_of ms ≡ j ∷ ns → (p : List ℕ) × (ps : List (List ℕ)) × (paths_of ms ≡ p ∷ ps) × On j p ms
  top_path [] j ns h = cc
  top_path (m ∷ ms) j ns h = (m.1, paths_of ms, refl, inl (let e : m.0 ≡ j = cc in sym e, refl))

  -- but the scope that is released: nothing of a living task lies in it
  nothing-in : (m : ScopeId) (lost : PlaceSet) (masked : ℕ) (thrown : List Fault) → act ≡ Release m lost masked thrown → (p : List ℕ) (ps : List (List ℕ)) → open_paths past t.0 ≡ p ∷ ps → On m.0 p (opened past t.0) → (c : ℕ) → is_alive T c ≡ true → (u : Stmt) → code_at code p ≡ Some u → is_waiter u ≡ true → LiesIn (left c) p u → ⊥
  nothing-in m lost masked thrown is p ps e on c alive u at w =
      set_case (λ v. LiesIn v p u → ⊥) t.0 c sd.after f
      (λ h l.
      let y = head-begins sd.after l.head l.is_head in
      let in_p : Starts p y.0 = starts-trans p l.head y.0 (subst (Starts p) (sym l.way) (within-starts p l.next l.rest)) y.2 in
      starts-not_below p y.0 in_p (sd.released m lost masked thrown is ps p (subst (λ v. Nested (f t.0) (outermost v)) e (s.nested t.0 low)) y.0 y.1))
      (λ h l.
      let hangs : is_on m.0 (walk (links past) (under_in (born_so_far past) c)) ≡ true = k.under c alive p u at w l t.0 m.0 on h in
      true≢false (sym hangs ∙ quiet-under past T i m (may-release m lost masked thrown is).asks.3.is_quiet c alive))

  by_release : (x : List ℕ) (o : IsOpen past x) (m : ScopeId) (lost : PlaceSet) (masked : ℕ) (thrown : List Fault) → act ≡ Release m lost masked thrown → (p : List ℕ) (ps : List (List ℕ)) → open_paths past t.0 ≡ p ∷ ps → (x ≡ p → ⊥) → Stacked x (open_paths (Step t act batch ∷ past) o.opener)
  by_release x o m lost masked thrown is p ps e other =
      open_case past t act batch o.opener (Stacked x)
      (λ h.
      let e_o : open_paths past o.opener ≡ p ∷ ps = subst (λ d. open_paths past d ≡ p ∷ ps) h e in
      subst (Stacked x) (sym (ap (stack_after act) e_o ∙ ap (λ v. stack_after v (p ∷ ps)) is))
      (elim (subst (Stacked x) e_o o.is_open) [
        | inl here ↦ absurd (other here)
        | inr there ↦ there
      ]))
      (λ h. o.is_open)

  by_kind : (b : Bool) → is_release act ≡ b → (c : ℕ) → is_alive T c ≡ true → (x : List ℕ) (u : Stmt) → code_at code x ≡ Some u → is_waiter u ≡ true → LiesIn (left c) x u → IsOpen past x → IsOpen (Step t act batch ∷ past) x
  by_kind false e c alive x u at w l o = open-stays past t act batch x e o
  by_kind true e c alive x u at w l o =
      let r = release-of act e in
      let may = may-release r.0 r.1 r.2 r.3 r.4 in
      let tops = top-released r.0 may.asks.1 may.asks.2 in
      let p = top_path (opened past t.0) r.0.0 tops.0 tops.1 in
      record {
        opener = o.opener;
        is_open = by_release x o r.0 r.1 r.2 r.3 r.4 p.0 p.1 (sym (same-paths past t.0) ∙ p.2)
            (λ same. nothing-in r.0 r.1 r.2 r.3 r.4 p.0 p.1 (sym (same-paths past t.0) ∙ p.2) p.3 c alive u (subst (λ v. code_at code v ≡ Some u) same at) w (subst (λ v. LiesIn (left c) v u) same l));
      }

  -- an open scope that holds an item of a living task stays open
  pub stays-open : (c : ℕ) → c < T.next_task → is_alive T c ≡ true → (x : List ℕ) (u : Stmt) → code_at code x ≡ Some u → is_waiter u ≡ true → LiesIn (left c) x u → IsOpen past x → IsOpen (Step t act batch ∷ past) x
  stays-open c hc = by_kind (is_release act) refl c
