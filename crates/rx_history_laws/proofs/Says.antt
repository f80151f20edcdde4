-- What an entry of a task tells, and what the task and the one that it starts have left.
use Rattle.rx_rules.proofs.Common.{PlaceSet, ScopeId, PlaceId, TaskId, Fault, Block, Stmt, Async, AtAsync, At, Finish, Term, Empty, Raise, Run, Trying, Body, Does, Opens, Calls as Asks, Spawns, Waits, Releases, Prints as Printing, Counts as Counting, Vars, at, does, begins, granted, stmt_granted, child, stmt_child, within, trying_does, body_does, stmt_does, Plays, stops, BeginsWithArrival, StartsSo, brought, started_by, own_path}
use Rattle.rx_history_laws.proofs.Heads.{Head}
use Rattle.rx_history_laws.proofs.Opening.{is_opening, finish-opens, fits-opening}
use Rattle.std.proofs.Common.{◌≤◌, ◌≡◌, false, ◌⊎◌, ℕ, suc, Bool, true, List, [], ◌∷◌, ◌++◌, Some, None, slice_get, refl, ap, sym, subst, ◌∙◌, arith, inl, inr, append-nil}
use Rattle.std.proofs.lemmas.Option.{same_Some}
use Rattle.rx_rules.specs.declared.events.Cell.{Cell}
use Rattle.rx_rules.specs.declared.entries.Act.{Act}
use Rattle.rx_rules.specs.declared.entries.Act.TheVariants.{Open, At as Calls, Spawn, Arrive, Wait, Release, Print, Census, End}
use Rattle.rx_rules.specs.Plays.{Fits}
use Rattle.rx_history_laws.proofs.Paths.{Starts, Below, Comes, starts-at, starts-trans, below-at, starts-below, below-starts, starts-not_below}
use Rattle.rx_history_laws.proofs.TermOrder.{Todo, Later, Sorted, Shrinks, begins-todo, todo-starts, granted-moved, child-born}
use Rattle.rx_history_laws.proofs.Straight.{code_at, comes_ahead, is_waiter}
use Rattle.rx_history_laws.proofs.Barriers.{is_shut, shut-comes_ahead}
use Rattle.rx_history_laws.proofs.TermCode.{Coded, granted-coded, child-coded}
use Rattle.rx_history_laws.proofs.Turns.{ComesAll, InTurn, Turn, AllWithin, next-turn, in_turn-less}
use Rattle.rx_history_laws.proofs.NestedTerm.{Nested, EachStarts, begun-inside, goes_on}
use Rattle.rx_history_laws.proofs.Lies.{LiesIn, Moves, granted-lies, child-lies, waiter-opens, child-head}
use Rattle.rx_history_laws.proofs.Stacks.{Pushes, fits-pushes, fits-begins, stack_after, outermost, fits-nested, fits-not_end, fits-not_arrive, child-flat, fits-released}

-- The rest of a task's entries is made by its term, after the statements of the batch; it may yet have to arrive. Q says what is
-- known of the events that are left, of a task that travels and of one that does not.
pub data Goes (Q : Bool → PlaceId → List (ℕ × Cell × List ℕ) → Type 0) (starts : List (Term × Vars)) (t : Term) (batch : List (List ℕ)) (moves : List (ℕ × Act × List (List ℕ))) : Type 0 where
  on : (here : PlaceId) (low : ℕ) (vars : Vars) (cells : List (ℕ × Cell × List ℕ)) → Q false here cells → Plays starts here low vars t batch cells moves → Goes Q starts t batch moves
  travels : (here : PlaceId) (low : ℕ) (vars : Vars) (cells : List (ℕ × Cell × List ℕ)) → Q true here cells → batch ≡ [] → BeginsWithArrival starts here true low vars t cells moves → Goes Q starts t batch moves

pub goes-map : (Q P : Bool → PlaceId → List (ℕ × Cell × List ℕ) → Type 0) (starts : List (Term × Vars)) (t : Term) (batch : List (List ℕ)) (moves : List (ℕ × Act × List (List ℕ))) → ((y : Bool) (here : PlaceId) (cells : List (ℕ × Cell × List ℕ)) → Q y here cells → P y here cells) → Goes Q starts t batch moves → Goes P starts t batch moves
goes-map Q P starts t batch moves f (on here low vars cells q p) = on here low vars cells (f false here cells q) p
goes-map Q P starts t batch moves f (travels here low vars cells q e p) = travels here low vars cells (f true here cells q) e p

-- what is known before entry n, whose act is `act`, gives what is known after it
pub record Passes (Q P : Bool → PlaceId → List (ℕ × Cell × List ℕ) → Type 0) (n : ℕ) (act : Act) : Type 0 where
  pub drops : (here : PlaceId) (stamp : ℕ) (cell : Cell) (x : List ℕ) (cells : List (ℕ × Cell × List ℕ)) → stamp ≤ n → Q false here ((stamp, cell, x) ∷ cells) → Q false here cells
  pub stays : (here : PlaceId) (cells : List (ℕ × Cell × List ℕ)) → ((p : PlaceId) → act ≡ Arrive p → ⊥) → ((faults : List Fault) → act ≡ End faults → ⊥) → Q false here cells → P false here cells
  pub ends : (here : PlaceId) → Q false here [] → P false here []
  pub lands : (here p : PlaceId) (cells : List (ℕ × Cell × List ℕ)) → act ≡ Arrive p → Q true here cells → P false here cells

-- where a term does not open a finish, what it has left after its request lies after the statement that asked

abbrev pub NotOpens : Does → Type 0
NotOpens Opens = ⊥
NotOpens _ = Unit {0}

not_opens-within : (f : Term → Term) (d : Does) → NotOpens (within f d) → NotOpens d
not_opens-within f Opens h = h
not_opens-within f _ h = tt

stmt-left : (vars : Vars) (here : ℕ) (stmt : Stmt) (x : List ℕ) (rest : Term) → NotOpens (stmt_does vars here stmt x rest) → Later x rest → Later x (stmt_granted stmt x rest)
stmt-left vars here (Finish body) x rest n l = absurd n
stmt-left vars here (At place body) x rest n l = l
stmt-left vars here _ x rest n l = l

trying-left : (z : List ℕ) (inside after : Term) (x : List ℕ) (dead_only : Bool) (handler : Block) (rest : Term) → Sorted (Trying inside dead_only handler x rest) → Todo inside z → Later z after → Later z (Trying after dead_only handler x rest)
trying-left z inside after x dead_only handler rest s i l y h =
    elim h [
      | inl k ↦ l y k
      | inr (inl k) ↦ starts-below (at x 0) z y (s.1 z i) (below-starts (at x 0) (at x 1) y (below-at x 0 1 (omega arith)) k)
      | inr (inr k) ↦ starts-below x z y (starts-trans x (at x 0) z (starts-at x 0) (s.1 z i)) (s.3 y k)
    ]

body-left : (z : List ℕ) (inside after rest : Term) → Sorted (Body inside rest) → Todo inside z → Later z after → Later z (Body after rest)
body-left z inside after rest s i l y h =
    elim h [
      | inl k ↦ l y k
      | inr k ↦ s.1 z y i k
    ]

trying-asks : (vars : Vars) (d : Does) (inside : Term) (dead_only : Bool) (handler : Block) (x : List ℕ) (rest : Term) (z : List ℕ) → begins inside ≡ Some z → NotOpens (trying_does vars inside d dead_only handler x rest) → NotOpens d
trying-asks vars d Empty dead_only handler x rest z e n = cc
trying-asks vars d (Raise faults) dead_only handler x rest z e n = cc
trying-asks vars d _ dead_only handler x rest z e n = not_opens-within (λ t. Trying t dead_only handler x rest) d n

body-asks : (d : Does) (inside rest : Term) (z : List ℕ) → begins inside ≡ Some z → NotOpens (body_does inside d rest) → NotOpens d
body-asks d Empty rest z e n = cc
body-asks d (Raise faults) rest z e n = cc
body-asks d _ rest z e n = not_opens-within (λ t. Body t rest) d n

pub asked-left : (vars : Vars) (here : ℕ) (faults : List Fault) (t : Term) (z : List ℕ) → begins t ≡ Some z → NotOpens (does vars here t) → Sorted t → Later z (granted faults t)
asked-left vars here faults (Run stmt x rest) z e n s =
    let same : x ≡ z = cc in subst (λ v. Later v (stmt_granted stmt x rest)) same (stmt-left vars here stmt x rest n s.1)
asked-left vars here faults (Trying inside dead_only handler x rest) z e n s =
    trying-left z inside (granted faults inside) x dead_only handler rest s (begins-todo inside z e)
    (asked-left vars here faults inside z e (trying-asks vars (does vars here inside) inside dead_only handler x rest z e n) s.0)
asked-left vars here faults (Body inside rest) z e n s =
    subst (Later z) (goes_on inside (granted faults inside) rest z e)
    (body-left z inside (granted faults inside) rest s (begins-todo inside z e)
    (asked-left vars here faults inside z e (body-asks (does vars here inside) inside rest z e n) s.0))
asked-left vars here faults _ z e n s = cc

-- a path that an entry has of its own is the statement that the term begins

own_fits : (here : PlaceId) (t : Term) (d : Does) (act : Act) → Fits here t d act → ((x : List ℕ) × (begins t ≡ Some x) × (own_path act ≡ x ∷ [])) ⊎ ((own_path act ≡ []) × (started_by act ≡ None))
own_fits here t Opens (Open s r x) f = inl (x, f, refl)
own_fits here t (Asks p) (Calls from to s r c x) f = inl (x, f.2, refl)
own_fits here t (Spawns p) (Spawn c s from to x) f = inl (x, f.2, refl)
own_fits here t (Waits faults) (Wait s thrown) f = inr (refl, refl)
own_fits here t Releases (Release s lost masked thrown) f = inr (refl, refl)
own_fits here t (Printing z) (Print value x) f = inl (x, f.1, refl)
own_fits here t (Counting name) (Census places x) f = inl (x, f, refl)
own_fits here t d act f = absurd f

-- a task that is started is started by no opening of a finish
starts_fits : (here : PlaceId) (t : Term) (d : Does) (act : Act) (c : TaskId) → started_by act ≡ Some c → Fits here t d act → NotOpens d
starts_fits here t Opens (Open s r x) c e f = cc
starts_fits here t (Asks p) act c e f = tt
starts_fits here t (Spawns p) act c e f = tt
starts_fits here t (Waits faults) act c e f = tt
starts_fits here t Releases act c e f = tt
starts_fits here t (Printing z) act c e f = tt
starts_fits here t (Counting name) act c e f = tt
starts_fits here t Opens act c e f = absurd f
starts_fits here t d act c e f = absurd f

-- the term of a task that is started: within what the starter had to begin, apart from what it has left, and after what was told
pub record ChildOf (starts : List (Term × Vars)) (c : TaskId) (t after : Term) (told : List (List ℕ)) : Type 0 where
  pub term : Term
  pub vars : Vars
  pub at : slice_get starts c.0 ≡ Some (term, vars)
  pub sorted : Sorted term
  pub shrinks : Shrinks t term
  pub apart : (y : List ℕ) → Todo term y → Todo after y → ⊥
  pub below : (y z : List ℕ) → Todo term y → Todo after z → Below y z
  pub coded : (code : Block) → Coded code t → Coded code term
  -- the statement that starts it shuts it off from what the starter has left
  pub wall : (code : Block) → Coded code t → (y z : List ℕ) → Todo term y → Todo after z → comes_ahead code y z ≡ false
  pub order : InTurn t told term
  -- it lies within the statement that starts it, and has no scope open
  pub path : List ℕ
  pub within : (y : List ℕ) → Todo term y → Starts path y
  pub comes : (y : List ℕ) → Todo term y → Comes path y
  pub deep : (ps : List (List ℕ)) → Nested t ps → EachStarts ps path
  pub flat : Nested term []
  -- a waiter that holds an item of it held one of the starter, or is the statement that starts it
  pub lies : (code : Block) → Coded code t → (x : List ℕ) (u : Stmt) → code_at code x ≡ Some u → is_waiter u ≡ true → LiesIn term x u → (x ≡ path) ⊎ LiesIn t x u
  -- its items stand right in the statement that starts it, which is an `async` or an `at`
  pub heads : (h : List ℕ) → Head term h → (m : ℕ) × (h ≡ path ++ m ∷ [])
  pub shut : (code : Block) → Coded code t → (y : List ℕ) → Todo term y → (u : Stmt) × (code_at code path ≡ Some u) × (is_shut u ≡ true)

pub record Says (starts : List (Term × Vars)) (t : Term) (act : Act) (told : List (List ℕ)) : Type 0 where
  pub after : Term
  pub sorted : Sorted after
  pub shrinks : Shrinks t after
  pub order : InTurn t (told ++ own_path act) after
  pub coded : (code : Block) → Coded code t → Coded code after
  pub child : (c : TaskId) → started_by act ≡ Some c → ChildOf starts c t after (told ++ own_path act)
  pub child_path : (c : TaskId) (e : started_by act ≡ Some c) → own_path act ≡ (child c e).path ∷ []
  pub own_todo : (x : List ℕ) → own_path act ≡ x ∷ [] → Todo t x
  pub own_comes : (x : List ℕ) → own_path act ≡ x ∷ [] → (y : List ℕ) → Todo after y → Comes x y
  -- what is told lies within the scopes that the task has open
  pub inside : (ps : List (List ℕ)) → Nested t ps → AllWithin ps (told ++ own_path act)
  -- a waiter that the entry begins is open from then on
  pub pushes : (code : Block) → Coded code t → (x : List ℕ) (u : Stmt) → code_at code x ≡ Some u → is_waiter u ≡ true → own_path act ≡ x ∷ [] → Pushes act x
  -- a waiter that holds an item held one before, or is begun by the entry
  pub lies : (code : Block) → Coded code t → (x : List ℕ) (u : Stmt) → code_at code x ≡ Some u → is_waiter u ≡ true → LiesIn after x u → (own_path act ≡ x ∷ []) ⊎ LiesIn t x u
  pub nested : (ps : List (List ℕ)) → Nested t (outermost ps) → Nested after (outermost (stack_after act ps))
  -- a `finish` that the entry begins is opened by it
  pub opening : (code : Block) → Coded code t → (x : List ℕ) (body : Block) → code_at code x ≡ Some (Finish body) → own_path act ≡ x ∷ [] → is_opening act ≡ true
  -- what is left after a release lies after the statement of the scope that is released
  pub released : (s : ScopeId) (lost : PlaceSet) (masked : ℕ) (thrown : List Fault) → act ≡ Release s lost masked thrown → (ps : List (List ℕ)) (p : List ℕ) → Nested t (outermost (p ∷ ps)) → Later p after

within-snoc : (ps : List (List ℕ)) (x : List ℕ) (zs : List (List ℕ)) → AllWithin ps zs → EachStarts ps x → AllWithin ps (zs ++ x ∷ [])
within-snoc ps x [] a e = (e, tt)
within-snoc ps x (z ∷ zs) a e = (a.0, within-snoc ps x zs a.1 e)

pub same_path : (act : Act) (x y : List ℕ) → own_path act ≡ x ∷ [] → own_path act ≡ y ∷ [] → x ≡ y
same_path act x y e k = let h : x ∷ [] ≡ y ∷ [] = sym e ∙ k in cc

comes_all-snoc : (z x : List ℕ) (zs : List (List ℕ)) → ComesAll z zs → Comes z x → ComesAll z (zs ++ x ∷ [])
comes_all-snoc z x [] a c = (c, tt)
comes_all-snoc z x (y ∷ ys) a c = (a.0, comes_all-snoc z x ys a.1 c)

in_turn-snoc : (t asking after : Term) (x : List ℕ) → Todo asking x → Shrinks t asking → Shrinks asking after → ((y : List ℕ) → Todo after y → Comes x y) → (zs : List (List ℕ)) → InTurn t zs asking → InTurn t (zs ++ x ∷ []) after
in_turn-snoc t asking after x h s k c [] i = (s x h, c, tt, tt)
in_turn-snoc t asking after x h s k c (z ∷ zs) i =
    (i.0, λ y m. i.1 y (k y m), comes_all-snoc z x zs i.2 (i.1 x h), in_turn-snoc t asking after x h s k c zs i.3)

-- what starts with x and comes after it lies properly within x
proper : (x y : List ℕ) → Starts x y → Comes x y → (i : ℕ) × (w : List ℕ) × (y ≡ x ++ i ∷ w)
proper [] [] s c = absurd c
proper [] (j ∷ y) s c = (j, y, refl)
proper (i ∷ x) [] s c = absurd s
proper (i ∷ x) (j ∷ y) s (inl c) = absurd (let e : i ≡ j = s.0 in omega arith)
proper (i ∷ x) (j ∷ y) s (inr c) =
    let r = proper x y s.1 c.1 in (r.0, r.1, ap (λ m. m ∷ y) (sym s.0) ∙ ap (λ l. i ∷ l) r.2)

-- a child with something to begin is started by an `async` or an `at`
stmt-shut : (code : Block) (stmt : Stmt) (x : List ℕ) → code_at code x ≡ Some stmt → (y : List ℕ) → Todo (stmt_child stmt x) y → (u : Stmt) × (code_at code x ≡ Some u) × (is_shut u ≡ true)
stmt-shut code (Async body) x e y h = (Async body, e, refl)
stmt-shut code (AtAsync place body) x e y h = (AtAsync place body, e, refl)
stmt-shut code (At place body) x e y h = (At place body, e, refl)
stmt-shut code _ x e y h = absurd h

child-shut : (code : Block) (t : Term) (x : List ℕ) → begins t ≡ Some x → Coded code t → (y : List ℕ) → Todo (child t) y → (u : Stmt) × (code_at code x ≡ Some u) × (is_shut u ≡ true)
child-shut code (Run stmt z rest) x b c y h = let same : z ≡ x = cc in stmt-shut code stmt x (subst (λ v. code_at code v ≡ Some stmt) same c.0) y (subst (λ v. Todo (stmt_child stmt v) y) same h)
child-shut code (Trying inside dead_only handler z rest) x b c y h = child-shut code inside x b c.0 y h
child-shut code (Body inside rest) x b c y h = child-shut code inside x b c.0 y h
child-shut code _ x b c y h = absurd h

child-of : (starts : List (Term × Vars)) (here : PlaceId) (vars : Vars) (t asking : Term) (act : Act) (fresh : List (List ℕ)) (x : List ℕ) → begins asking ≡ Some x → own_path act ≡ x ∷ [] → Sorted asking → Shrinks t asking → InTurn t fresh asking → ((code : Block) → Coded code t → Coded code asking) → ((ps : List (List ℕ)) → Nested t ps → Nested asking ps) → ((code : Block) → Coded code t → Moves code t asking) → Fits here asking (does vars here.0 asking) act → StartsSo starts asking vars act → (c : TaskId) → started_by act ≡ Some c → ChildOf starts c t (granted (brought act) asking) (fresh ++ own_path act)
child-of starts here vars t asking act fresh x b o s sh i k stay go fits so c e =
    let born = child-born asking x b in
    let inside : Todo asking x = begins-todo asking x b in
    let left : Later x (granted (brought act) asking) = asked-left vars here.0 (brought act) asking x b (starts_fits here asking (does vars here.0 asking) act c e fits) s in
    let within : Shrinks asking (child asking) = λ y h. todo-starts asking x y inside (born.inside y h).0 in
    record {
      term = child asking;
      vars = vars;
      at = rw (e, StartsSo) at so;
      sorted = born.sorted;
      shrinks = λ y h. sh y (within y h);
      apart = λ y h m. starts-not_below x y (born.inside y h).0 (left y m);
      below = λ y z h m. starts-below x y z (born.inside y h).0 (left z m);
      coded = λ code d. child-coded code asking (k code d);
      wall = λ code d y z h m.
          let u = child-shut code asking x b (k code d) y h in
          let w = proper x y (born.inside y h).0 (born.inside y h).1 in
          subst (λ v. comes_ahead code v z ≡ false) (sym w.2) (shut-comes_ahead code x w.0 w.1 z u.0 u.1 u.2 (left z m));
      order = rw o (in_turn-snoc t asking (child asking) x inside sh within (λ y h. (born.inside y h).1) fresh i);
      path = x;
      within = λ y h. (born.inside y h).0;
      comes = λ y h. (born.inside y h).1;
      deep = λ ps n. begun-inside asking x ps b (stay ps n);
      flat = child-flat asking;
      lies = λ code d y u f w l. elim (child-lies code asking (k code d) y u f l) [
        | inl q ↦ inl (same_Some y x (sym q ∙ b))
        | inr q ↦ inr (go code d y u f w q)
      ];
      heads = λ h l.
          let q = child-head asking h l in
          let same : q.0 ≡ x = same_Some q.0 x (sym q.1 ∙ b) in
          (q.2.0, q.2.1 ∙ ap (λ v. v ++ q.2.0 ∷ []) same);
      shut = λ code d y h. child-shut code asking x b (k code d) y h;
    }

-- what is left after a release
released-later : (here : PlaceId) (vars : Vars) (asking : Term) (act : Act) → Fits here asking (does vars here.0 asking) act → Sorted asking → (s : ScopeId) (lost : PlaceSet) (masked : ℕ) (thrown : List Fault) → act ≡ Release s lost masked thrown → (ps : List (List ℕ)) (p : List ℕ) → Nested asking (outermost (p ∷ ps)) → Later p (granted (brought act) asking)
released-later here vars asking act fits so s lost masked thrown e ps p n =
    subst (λ a. Later p (granted (brought a) asking)) (sym e)
    (fits-released here vars asking s lost masked thrown ps p (subst (Fits here asking (does vars here.0 asking)) e fits) so n)

says-asks : (starts : List (Term × Vars)) (here : PlaceId) (vars : Vars) (t asking : Term) (act : Act) (fresh : List (List ℕ)) → Sorted asking → Shrinks t asking → InTurn t fresh asking → ((code : Block) → Coded code t → Coded code asking) → ((ps : List (List ℕ)) → Nested t ps → Nested asking ps) → ((ps : List (List ℕ)) → Nested t ps → AllWithin ps fresh) → ((code : Block) → Coded code t → Moves code t asking) → Fits here asking (does vars here.0 asking) act → StartsSo starts asking vars act → ((x : List ℕ) × (begins asking ≡ Some x) × (own_path act ≡ x ∷ [])) ⊎ ((own_path act ≡ []) × (started_by act ≡ None)) → Says starts t act fresh
unfolding child-of
says-asks starts here vars t asking act fresh s sh i k stay deep go fits so (inl own) =
    let m = granted-moved (brought act) asking s in
    let b = m.begun own.0 own.1 in
    record {
      after = granted (brought act) asking;
      sorted = m.sorted;
      shrinks = λ y h. sh y (m.shrinks y h);
      order = rw own.2 (in_turn-snoc t asking (granted (brought act) asking) own.0 b.0 sh m.shrinks b.1 fresh i);
      coded = λ code d. granted-coded code (brought act) asking (k code d);
      child = child-of starts here vars t asking act fresh own.0 own.1 own.2 s sh i k stay go fits so;
      child_path = λ c e. own.2;
      own_todo = λ x e. subst (Todo t) (same_path act own.0 x own.2 e) (sh own.0 b.0);
      own_comes = λ x e y h. subst (λ v. Comes v y) (same_path act own.0 x own.2 e) (b.1 y h);
      inside = λ ps n. rw own.2 (within-snoc ps own.0 fresh (deep ps n) (begun-inside asking own.0 ps own.1 (stay ps n)));
      pushes = λ code d x u f w o.
          let same = same_path act own.0 x own.2 o in
          let b : begins asking ≡ Some x = own.1 ∙ ap Some same in
          fits-pushes here vars asking act x fits s b (waiter-opens code asking x u (k code d) b f w);
      lies = λ code d x u f w l. elim (granted-lies code (brought act) asking (k code d) x u f l) [
        | inl q ↦ inl (fits-begins here vars asking act x fits s q)
        | inr q ↦ inr (go code d x u f w q)
      ];
      nested = λ ps n. fits-nested here vars asking act ps fits s (stay (outermost ps) n);
      opening = λ code d x body f o.
          let same = same_path act own.0 x own.2 o in
          fits-opening here asking (does vars here.0 asking) act (finish-opens code vars here.0 asking x body (own.1 ∙ ap Some same) (k code d) f) fits;
      released = λ r lost masked thrown e ps p n. released-later here vars asking act fits s r lost masked thrown e ps p (stay (outermost (p ∷ ps)) n);
    }
says-asks starts here vars t asking act fresh s sh i k stay deep go fits so (inr own) =
    let m = granted-moved (brought act) asking s in
    record {
      after = granted (brought act) asking;
      sorted = m.sorted;
      shrinks = λ y h. sh y (m.shrinks y h);
      order = rw (own.0, append-nil fresh) (in_turn-less t asking (granted (brought act) asking) m.shrinks fresh i);
      coded = λ code d. granted-coded code (brought act) asking (k code d);
      child = λ c e. let k : None ≡ Some c = sym own.1 ∙ e in absurd (let f : ⊥ = cc in f);
      child_path = λ c e. let k : None ≡ Some c = sym own.1 ∙ e in absurd (let f : ⊥ = cc in f);
      own_todo = λ x e. let h : [] ≡ x ∷ [] = sym own.0 ∙ e in absurd (let f : ⊥ = cc in f);
      own_comes = λ x e y k. let h : [] ≡ x ∷ [] = sym own.0 ∙ e in absurd (let f : ⊥ = cc in f);
      inside = λ ps n. rw (own.0, append-nil fresh) (deep ps n);
      pushes = λ code d x u f w o. let h : [] ≡ x ∷ [] = sym own.0 ∙ o in absurd (let f : ⊥ = cc in f);
      lies = λ code d x u f w l. elim (granted-lies code (brought act) asking (k code d) x u f l) [
        | inl q ↦ inl (fits-begins here vars asking act x fits s q)
        | inr q ↦ inr (go code d x u f w q)
      ];
      nested = λ ps n. fits-nested here vars asking act ps fits s (stay (outermost ps) n);
      opening = λ code d x body f o. let h : [] ≡ x ∷ [] = sym own.0 ∙ o in absurd (let f : ⊥ = cc in f);
      released = λ r lost masked thrown e ps p n. released-later here vars asking act fits s r lost masked thrown e ps p (stay (outermost (p ∷ ps)) n);
    }

says-ends : (starts : List (Term × Vars)) (t asking : Term) (act : Act) (fresh : List (List ℕ)) (faults : List Fault) → act ≡ End faults → InTurn t fresh asking → ((ps : List (List ℕ)) → Nested t ps → Nested asking ps) → ((ps : List (List ℕ)) → Nested t ps → AllWithin ps fresh) → ((ps : List (List ℕ)) → Nested asking ps → ps ≡ []) → Says starts t act fresh
says-ends starts t asking act fresh faults is i stay deep closed =
    record {
      after = Empty;
      sorted = tt;
      shrinks = λ y h. absurd h;
      order = rw (is, append-nil fresh) (in_turn-less t asking Empty (λ y h. absurd h) fresh i);
      coded = λ code d. tt;
      child = λ c e. let k : None ≡ Some c = ap started_by (sym is) ∙ e in absurd (let f : ⊥ = cc in f);
      child_path = λ c e. let k : None ≡ Some c = ap started_by (sym is) ∙ e in absurd (let f : ⊥ = cc in f);
      own_todo = λ x e. let h : [] ≡ x ∷ [] = ap own_path (sym is) ∙ e in absurd (let f : ⊥ = cc in f);
      own_comes = λ x e y k. absurd k;
      inside = λ ps n. rw (is, append-nil fresh) (deep ps n);
      lies = λ code d x v f w l. absurd l.is_head;
      pushes = λ code d x v f w o. let h : [] ≡ x ∷ [] = ap own_path (sym is) ∙ o in absurd (let f : ⊥ = cc in f);
      opening = λ code d x body f o. let h : [] ≡ x ∷ [] = ap own_path (sym is) ∙ o in absurd (let f : ⊥ = cc in f);
      released = λ r lost masked thrown e ps p n y h. absurd h;
      nested = λ ps n. rw is (subst (Nested Empty) (sym (closed (outermost ps) (stay (outermost ps) n))) tt);
    }

says-lands : (starts : List (Term × Vars)) (t : Term) (p : PlaceId) → Sorted t → Says starts t (Arrive p) []
says-lands starts t p s =
    record { after = t; sorted = s; shrinks = λ y h. h; order = tt; coded = λ code d. d; child = λ c e. cc; child_path = λ c e. cc; own_todo = λ x e. cc; own_comes = λ x e y k. cc; inside = λ ps n. tt; lies = λ code d x u f w l. inr l; pushes = λ code d x u f w o. cc; opening = λ code d x body f o. cc; released = λ r lost masked thrown e ps q m. cc; nested = λ ps n. n }

-- what the next entry of a task says, and how the task goes on
pub record Said (P : Bool → PlaceId → List (ℕ × Cell × List ℕ) → Type 0) (starts : List (Term × Vars)) (t : Term) (act : Act) (batch told : List (List ℕ)) (more : List (ℕ × Act × List (List ℕ))) : Type 0 where
  pub fresh : List (List ℕ)
  pub tells : told ≡ batch ++ fresh
  pub says : Says starts t act fresh
  pub goes : Goes P starts says.after [] more

said-asks : (Q P : Bool → PlaceId → List (ℕ × Cell × List ℕ) → Type 0) (starts : List (Term × Vars)) (here : PlaceId) (t : Term) (n : ℕ) (act : Act) (batch told : List (List ℕ)) (more : List (ℕ × Act × List (List ℕ))) → (u : Turn (Q false here) starts here t batch n act told more) → (f : Fits here u.asking (does u.vars here.0 u.asking) act) → StartsSo starts u.asking u.vars act → (low : ℕ) (knows : Vars) (cells : List (ℕ × Cell × List ℕ)) → P false here cells → Plays starts here low knows (granted (brought act) u.asking) [] cells more → ((x : List ℕ) × (begins u.asking ≡ Some x) × (own_path act ≡ x ∷ [])) ⊎ ((own_path act ≡ []) × (started_by act ≡ None)) → Said P starts t act batch told more
unfolding says-asks
said-asks Q P starts here t n act batch told more u f so low knows cells q p (inl own) =
    record {
      fresh = u.fresh;
      tells = u.tells;
      says = says-asks starts here u.vars t u.asking act u.fresh u.sorted u.shrinks u.order u.coded u.nested u.inside u.moves f so (inl own);
      goes = on here low knows cells q p;
    }
said-asks Q P starts here t n act batch told more u f so low knows cells q p (inr own) =
    record {
      fresh = u.fresh;
      tells = u.tells;
      says = says-asks starts here u.vars t u.asking act u.fresh u.sorted u.shrinks u.order u.coded u.nested u.inside u.moves f so (inr own);
      goes = on here low knows cells q p;
    }

said-ends : (Q P : Bool → PlaceId → List (ℕ × Cell × List ℕ) → Type 0) (starts : List (Term × Vars)) (here : PlaceId) (t : Term) (n : ℕ) (act : Act) (batch told : List (List ℕ)) (more : List (ℕ × Act × List (List ℕ))) → (u : Turn (Q false here) starts here t batch n act told more) → (faults : List Fault) → act ≡ End faults → more ≡ [] → P false here [] → Said P starts t act batch told more
unfolding says-ends
said-ends Q P starts here t n act batch told more u faults is e q =
    record {
      fresh = u.fresh;
      tells = u.tells;
      says = says-ends starts t u.asking act u.fresh faults is u.order u.nested u.inside (u.closed faults is);
      goes = rw e (on here 0 u.vars [] q stops);
    }

said-lands : (P : Bool → PlaceId → List (ℕ × Cell × List ℕ) → Type 0) (starts : List (Term × Vars)) (here p : PlaceId) (n : ℕ) (vars : Vars) (cells : List (ℕ × Cell × List ℕ)) (t : Term) (batch : List (List ℕ)) (more : List (ℕ × Act × List (List ℕ))) → Sorted t → batch ≡ [] → P false here cells → Plays starts here (suc n) vars t [] cells more → Said P starts t (Arrive p) batch [] more
unfolding says-lands
said-lands P starts here p n vars cells t batch more s e q b =
    record { fresh = []; tells = rw e refl; says = says-lands starts t p s; goes = on here (suc n) vars cells q b }

said-travels : (Q P : Bool → PlaceId → List (ℕ × Cell × List ℕ) → Type 0) (starts : List (Term × Vars)) (here : PlaceId) (low : ℕ) (vars : Vars) (cells : List (ℕ × Cell × List ℕ)) (t : Term) (n : ℕ) (act : Act) (batch told : List (List ℕ)) (more : List (ℕ × Act × List (List ℕ))) → Passes Q P n act → Sorted t → batch ≡ [] → Q true here cells → BeginsWithArrival starts here true low vars t cells ((n, act, told) ∷ more) → Said P starts t act batch told more
said-travels Q P starts here low vars cells t n (Arrive p) batch told more passes s e q b =
    subst (λ zs. Said P starts t (Arrive p) batch zs more) (sym b.0)
    (said-lands P starts here p n vars cells t batch more s e (passes.lands here p cells refl q) b.1)
said-travels Q P starts here low vars cells t n act batch told more passes s e q b = absurd b

pub said : (Q P : Bool → PlaceId → List (ℕ × Cell × List ℕ) → Type 0) (starts : List (Term × Vars)) (t : Term) (n : ℕ) (act : Act) (batch told : List (List ℕ)) (more : List (ℕ × Act × List (List ℕ))) → Passes Q P n act → Sorted t → Goes Q starts t batch ((n, act, told) ∷ more) → Said P starts t act batch told more
said Q P starts t n act batch told more passes s (on here low vars cells q p) = by_turn (next-turn (Q false here) s p (passes.drops here) q) where
  by_turn : Turn (Q false here) starts here t batch n act told more → Said P starts t act batch told more
  by_turn u =
      elim u.goes [
        | inl g ↦ said-asks Q P starts here t n act batch told more u g.0 g.1 g.2.0 g.2.1 g.2.2 (passes.stays here g.2.2 (λ w e. fits-not_arrive here u.asking (does u.vars here.0 u.asking) act w e g.0) (λ faults e. fits-not_end here u.asking (does u.vars here.0 u.asking) act faults e g.0) g.2.3) g.2.4 (own_fits here u.asking (does u.vars here.0 u.asking) act g.0)
        | inr g ↦ said-ends Q P starts here t n act batch told more u g.0 g.1 g.2 (passes.ends here g.3)
      ]
said Q P starts t n act batch told more passes s (travels here low vars cells q e b) = said-travels Q P starts here low vars cells t n act batch told more passes s e q b
