-- What a term has still to begin, and that it begins it in order.
use Rattle.std.proofs.Common.{◌≡◌, ◌⊎◌, ℕ, suc, ◌≤◌, Bool, List, [], ◌∷◌, Some, None, refl, sym, subst, ◌∙◌, arith, inl, inr}
use Rattle.rx_rules.proofs.Common.{Fault, Block, Nothing, Then, Stmt, SetTo, Async, AtAsync, At, Finish, If, Repeat, Try, Term, Empty, Run, Raise, Turns, Trying, Body, Held, Vars, Does, Local, at, items_from, items, does, begins, granted, stmt_granted, body_granted, or_raise, child, stmt_child, replaced, after_it}
use Rattle.rx_rules.proofs.StepRules.{StepRule, IsAsking, raises, sets, takes_first, takes_other, repeats, tries, turns_over, turns_on, try_over, caught, uncaught, in_try, asks_in_try, in_body, asks_in_body, rule_of}
use Rattle.rx_history_laws.proofs.Paths.{Starts, Below, Comes, starts-same, starts-trans, starts-at, below-at, below-starts, starts-below, below-comes, within-comes}

-- the paths that a term, or a task that it starts, may still begin: those that begin with a path of an item
abbrev pub Todo : Term → List ℕ → Type 0
Todo Empty y = ⊥
Todo (Raise faults) y = ⊥
Todo (Run stmt x rest) y = Starts x y ⊎ Todo rest y
Todo (Turns body x k times rest) y = ((m : ℕ) × (k ≤ m) × Starts (at x m) y) ⊎ Todo rest y
Todo (Trying inside dead_only handler x rest) y = Todo inside y ⊎ (Starts (at x 1) y ⊎ Todo rest y)
Todo (Body inside rest) y = Todo inside y ⊎ Todo rest y
Todo (Held rest) y = Todo rest y

-- x is below all that the term has still to begin
abbrev pub Later : List ℕ → Term → Type 0
Later x t = (y : List ℕ) → Todo t y → Below x y

-- the items of a term stand in order
abbrev pub Sorted : Term → Type 0
Sorted Empty = Unit {0}
Sorted (Raise faults) = Unit {0}
Sorted (Run stmt x rest) = Sorted rest × Later x rest
Sorted (Turns body x k times rest) = Sorted rest × Later x rest
Sorted (Trying inside dead_only handler x rest) = Sorted inside × ((y : List ℕ) → Todo inside y → Starts (at x 0) y) × Sorted rest × Later x rest
Sorted (Body inside rest) = Sorted inside × ((y z : List ℕ) → Todo inside y → Todo rest z → Below y z) × Sorted rest
Sorted (Held rest) = Sorted rest

abbrev pub Shrinks : Term → Term → Type 0
Shrinks t after = (y : List ℕ) → Todo after y → Todo t y

-- what was begun comes before all that is left
pub record Moved (t after : Term) : Type 0 where
  pub sorted : Sorted after
  pub shrinks : Shrinks t after
  pub begun : (z : List ℕ) → begins t ≡ Some z → Todo t z × ((y : List ℕ) → Todo after y → Comes z y)

-- the statement that a term begins is among what it has to begin
pub begins-todo : (t : Term) (z : List ℕ) → begins t ≡ Some z → Todo t z
begins-todo (Run stmt x rest) z h = inl (let e : x ≡ z = cc in subst (Starts x) e (starts-same x))
begins-todo (Trying inside dead_only handler x rest) z h = inl (begins-todo inside z h)
begins-todo (Body inside rest) z h = inl (begins-todo inside z h)
begins-todo _ z h = cc

-- the items of a block

pub items-todo : (b : Block) (x : List ℕ) (i : ℕ) (rest : Term) (y : List ℕ) → Todo (items_from b x i rest) y → ((m : ℕ) × (i ≤ m) × Starts (at x m) y) ⊎ Todo rest y
items-todo Nothing x i rest y h = inr h
items-todo (Then first more) x i rest y (inl h) = inl (i, omega arith, h)
items-todo (Then first more) x i rest y (inr h) =
    elim (items-todo more x (suc i) rest y h) [
      | inl m ↦ inl (m.0, (let k : suc i ≤ m.0 = m.1 in omega arith), m.2)
      | inr r ↦ inr r
    ]

pub items-sorted : (b : Block) (x : List ℕ) (i : ℕ) (rest : Term) → Sorted rest → ((m : ℕ) → i ≤ m → Later (at x m) rest) → Sorted (items_from b x i rest)
items-sorted Nothing x i rest s l = s
items-sorted (Then first more) x i rest s l = (
  items-sorted more x (suc i) rest s (λ m h. l m (omega arith)),
  λ y h. elim (items-todo more x (suc i) rest y h) [
    | inl m ↦ below-starts (at x i) (at x m.0) y (below-at x i m.0 (let k : suc i ≤ m.0 = m.1 in omega arith)) m.2
    | inr r ↦ l i (omega arith) y r
  ],
)

later-at : (x : List ℕ) (m : ℕ) (rest : Term) → Later x rest → Later (at x m) rest
later-at x m rest l y h = starts-below x (at x m) y (starts-at x m) (l y h)

-- What takes the place of a statement: the items after it, a raised list, or the items of a block in it.

-- in place of the statement with the path x, before rest
pub record Placed (x : List ℕ) (rest after : Term) : Type 0 where
  pub sorted : Sorted after
  pub inside : (y : List ℕ) → Todo after y → (Starts x y × Comes x y) ⊎ Todo rest y

placed-rest : (x : List ℕ) (rest : Term) → Sorted rest → Placed x rest rest
placed-rest x rest s = record { sorted = s; inside = λ y h. inr h }

placed-raise : (x : List ℕ) (rest : Term) (faults : List Fault) → Placed x rest (Raise faults)
placed-raise x rest faults = record { sorted = tt; inside = λ y h. absurd h }

placed-held : (x : List ℕ) (rest : Term) → Sorted rest → Placed x rest (Held rest)
placed-held x rest s = record { sorted = s; inside = λ y h. inr h }

pub in-at : (x : List ℕ) (m : ℕ) (y : List ℕ) → Starts (at x m) y → Starts x y × Comes x y
in-at x m y h = (starts-trans x (at x m) y (starts-at x m) h, within-comes x m y h)

in-two : (x : List ℕ) (c m : ℕ) (y : List ℕ) → Starts (at (at x c) m) y → Starts x y × Comes x y
in-two x c m y h = in-at x c y (starts-trans (at x c) (at (at x c) m) y (starts-at (at x c) m) h)

placed-choice : (b : Block) (x : List ℕ) (c : ℕ) (rest : Term) → Sorted rest → Later x rest → Placed x rest (items b (at x c) rest)
placed-choice b x c rest s l =
    record {
      sorted = items-sorted b (at x c) 0 rest s (λ m h. later-at (at x c) m rest (later-at x c rest l));
      inside = λ y h. elim (items-todo b (at x c) 0 rest y h) [
        | inl m ↦ inl (in-two x c m.0 y m.2)
        | inr r ↦ inr r
      ];
    }

placed-turns : (b : Block) (x : List ℕ) (times : ℕ) (rest : Term) → Sorted rest → Later x rest → Placed x rest (Turns b x 0 times rest)
placed-turns b x times rest s l =
    record {
      sorted = (s, l);
      inside = λ y h. elim h [
        | inl m ↦ inl (in-at x m.0 y m.2)
        | inr r ↦ inr r
      ];
    }

placed-trying : (b : Block) (dead_only : Bool) (handler : Block) (x : List ℕ) (rest : Term) → Sorted rest → Later x rest → Placed x rest (Trying (items b (at x 0) Empty) dead_only handler x rest)
placed-trying b dead_only handler x rest s l =
    record {
      sorted = (
        items-sorted b (at x 0) 0 Empty tt (λ m h y k. absurd k),
        λ y h. elim (items-todo b (at x 0) 0 Empty y h) [
          | inl m ↦ starts-trans (at x 0) (at (at x 0) m.0) y (starts-at (at x 0) m.0) m.2
          | inr r ↦ absurd r
        ],
        s,
        l,
      );
      inside = λ y h. elim h [
        | inl i ↦ elim (items-todo b (at x 0) 0 Empty y i) [
          | inl m ↦ inl (in-two x 0 m.0 y m.2)
          | inr r ↦ absurd r
        ]
        | inr (inl i) ↦ inl (in-at x 1 y i)
        | inr (inr r) ↦ inr r
      ];
    }

placed-body : (b : Block) (x : List ℕ) (rest : Term) → Sorted rest → Later x rest → Placed x rest (Body (items b x Empty) rest)
placed-body b x rest s l =
    record {
      sorted = (
        items-sorted b x 0 Empty tt (λ m h y k. absurd k),
        λ y z h k. elim (items-todo b x 0 Empty y h) [
          | inl m ↦ starts-below x y z (in-at x m.0 y m.2).0 (l z k)
          | inr r ↦ absurd r
        ],
        s,
      );
      inside = λ y h. elim h [
        | inl i ↦ elim (items-todo b x 0 Empty y i) [
          | inl m ↦ inl (in-at x m.0 y m.2)
          | inr r ↦ absurd r
        ]
        | inr r ↦ inr r
      ];
    }

-- a statement that is placed has moved
pub placed-moved : (stmt : Stmt) (x : List ℕ) (rest after : Term) → Later x rest → Placed x rest after → Moved (Run stmt x rest) after
placed-moved stmt x rest after l p =
    record {
      sorted = p.sorted;
      shrinks = λ y h. elim (p.inside y h) [
        | inl i ↦ inl i.0
        | inr r ↦ inr r
      ];
      begun = λ z e. (
        inl (let same : x ≡ z = cc in subst (Starts x) same (starts-same x)),
        λ y h. let same : x ≡ z = cc in elim (p.inside y h) [
          | inl i ↦ subst (λ v. Comes v y) same i.1
          | inr r ↦ subst (λ v. Comes v y) same (below-comes x y (l y r))
        ],
      );
    }

-- One step of a term.

moved-same : (t : Term) → Sorted t → begins t ≡ None → Moved t t
moved-same t s e = record { sorted = s; shrinks = λ y h. h; begun = λ z h. let k : None ≡ Some z = sym e ∙ h in cc }

moved-trying : (inside after : Term) (dead_only : Bool) (handler : Block) (x : List ℕ) (rest : Term) → Sorted (Trying inside dead_only handler x rest) → Moved inside after → Moved (Trying inside dead_only handler x rest) (Trying after dead_only handler x rest)
moved-trying inside after dead_only handler x rest s m =
    record {
      sorted = (m.sorted, λ y h. s.1 y (m.shrinks y h), s.2, s.3);
      shrinks = λ y h. elim h [
        | inl i ↦ inl (m.shrinks y i)
        | inr r ↦ inr r
      ];
      begun = λ z e.
          let b = m.begun z e in (
            inl b.0,
            λ y h. elim h [
              | inl i ↦ b.1 y i
              | inr (inl i) ↦ below-comes z y (starts-below (at x 0) z y (s.1 z b.0) (below-starts (at x 0) (at x 1) y (below-at x 0 1 (omega arith)) i))
              | inr (inr r) ↦ below-comes z y (starts-below x z y (starts-trans x (at x 0) z (starts-at x 0) (s.1 z b.0)) (s.3 y r))
            ],
          );
    }

moved-body : (inside after rest : Term) → Sorted (Body inside rest) → Moved inside after → Moved (Body inside rest) (Body after rest)
moved-body inside after rest s m =
    record {
      sorted = (m.sorted, λ y z h k. s.1 y z (m.shrinks y h) k, s.2);
      shrinks = λ y h. elim h [
        | inl i ↦ inl (m.shrinks y i)
        | inr r ↦ inr r
      ];
      begun = λ z e.
          let b = m.begun z e in (
            inl b.0,
            λ y h. elim h [
              | inl i ↦ b.1 y i
              | inr r ↦ below-comes z y (s.1 z y b.0 r)
            ],
          );
    }

-- a step that begins nothing
moved-quiet : (t after : Term) → begins t ≡ None → Sorted after → Shrinks t after → Moved t after
moved-quiet t after e s h = record { sorted = s; shrinks = h; begun = λ z k. let m : None ≡ Some z = sym e ∙ k in cc }

turns-moved : (b : Block) (x : List ℕ) (k times : ℕ) (rest : Term) → Sorted rest → Later x rest → Moved (Turns b x k times rest) (items b (at x k) (Turns b x (suc k) times rest))
turns-moved b x k times rest s l =
    moved-quiet (Turns b x k times rest) (items b (at x k) (Turns b x (suc k) times rest)) refl
    (items-sorted b (at x k) 0 (Turns b x (suc k) times rest) (s, l) (λ m h. later-at (at x k) m (Turns b x (suc k) times rest) (λ y t. elim t [
      | inl i ↦ below-starts (at x k) (at x i.0) y (below-at x k i.0 (let g : suc k ≤ i.0 = i.1 in omega arith)) i.2
      | inr r ↦ later-at x k rest l y r
    ])))
    (λ y h. elim (items-todo b (at x k) 0 (Turns b x (suc k) times rest) y h) [
      | inl m ↦ inl (k, omega arith, starts-trans (at x k) (at (at x k) m.0) y (starts-at (at x k) m.0) m.2)
      | inr (inl i) ↦ inl (i.0, (let g : suc k ≤ i.0 = i.1 in omega arith), i.2)
      | inr (inr r) ↦ inr r
    ])

-- what holds of the term that a local step leaves
abbrev pub IfLocal : (Term → Type 0) → Does → Type 0
IfLocal P (Local left vars) = P left
IfLocal P _ = Unit {0}

pub asking-if : (P : Term → Type 0) (d : Does) → IsAsking d → IfLocal P d
asking-if P (Local left vars) a = absurd a
asking-if P _ a = tt

-- a local step
pub moved_by : {vars : Vars} {here : ℕ} {t : Term} {d : Does} → StepRule vars here t d → Sorted t → IfLocal (Moved t) d
moved_by (raises {stmt = stmt} {x = x} {rest = rest} fault) s = placed-moved stmt x rest (Raise (fault ∷ [])) s.1 (placed-raise x rest (fault ∷ []))
moved_by (sets {name = name} {value = value} {x = x} {rest = rest} z) s = placed-moved (SetTo name value) x rest rest s.1 (placed-rest x rest s.0)
moved_by (takes_first {test = test} {first = first} {other = other} {x = x} {rest = rest}) s =
    placed-moved (If test first other) x rest (items first (at x 0) rest) s.1 (placed-choice first x 0 rest s.0 s.1)
moved_by (takes_other {test = test} {first = first} {other = other} {x = x} {rest = rest}) s =
    placed-moved (If test first other) x rest (items other (at x 1) rest) s.1 (placed-choice other x 1 rest s.0 s.1)
moved_by (repeats {times = times} {body = body} {x = x} {rest = rest}) s =
    placed-moved (Repeat times body) x rest (Turns body x 0 times rest) s.1 (placed-turns body x times rest s.0 s.1)
moved_by (tries {body = body} {dead_only = o} {handler = handler} {x = x} {rest = rest}) s =
    placed-moved (Try body o handler) x rest (Trying (items body (at x 0) Empty) o handler x rest) s.1 (placed-trying body o handler x rest s.0 s.1)
moved_by (turns_over {body = body} {x = x} {k = k} {times = times} {rest = rest}) s =
    moved-quiet (Turns body x k times rest) rest refl s.0 (λ y h. inr h)
moved_by (turns_on {body = body} {x = x} {k = k} {times = times} {rest = rest} left) s = turns-moved body x k times rest s.0 s.1
moved_by (try_over {dead_only = o} {handler = handler} {x = x} {rest = rest}) s =
    moved-quiet (Trying Empty o handler x rest) rest refl s.2 (λ y k. inr (inr k))
moved_by (caught {faults = faults} {dead_only = o} {handler = handler} {x = x} {rest = rest}) s =
    moved-quiet (Trying (Raise faults) o handler x rest) (items handler (at x 1) rest) refl
    (items-sorted handler (at x 1) 0 rest s.2 (λ m k. later-at (at x 1) m rest (later-at x 1 rest s.3)))
    (λ y k. elim (items-todo handler (at x 1) 0 rest y k) [
      | inl m ↦ inr (inl (starts-trans (at x 1) (at (at x 1) m.0) y (starts-at (at x 1) m.0) m.2))
      | inr r ↦ inr (inr r)
    ])
moved_by (uncaught {faults = faults} {dead_only = o} {handler = handler} {x = x} {rest = rest}) s =
    moved-quiet (Trying (Raise faults) o handler x rest) (Raise faults) refl tt (λ y k. absurd k)
moved_by (in_try {inside = inside} {left = left} {dead_only = o} {handler = handler} {x = x} {rest = rest} m) s =
    moved-trying inside left o handler x rest s (moved_by m s.0)
moved_by {t = t} {d = d} (asks_in_try g a m) s = asking-if (Moved t) d a
moved_by (in_body {inside = inside} {left = left} {rest = rest} m) s = moved-body inside left rest s (moved_by m s.0)
moved_by {t = t} {d = d} (asks_in_body g a m) s = asking-if (Moved t) d a
moved_by _ s = tt

pub local-moved : (vars : Vars) (here : ℕ) (t : Term) → Sorted t → IfLocal (Moved t) (does vars here t)
local-moved vars here t s = moved_by (rule_of vars here t) s

-- an answer of the store
pub fine-moved : (t : Term) (x : List ℕ) → begins t ≡ Some x → Sorted t → Moved t (replaced t (after_it t))
fine-moved (Run stmt z rest) x e s = placed-moved stmt z rest rest s.1 (placed-rest z rest s.0)
fine-moved (Trying inside dead_only handler z rest) x e s = moved-trying inside (replaced inside (after_it inside)) dead_only handler z rest s (fine-moved inside x e s.0)
fine-moved (Body inside rest) x e s = moved-body inside (replaced inside (after_it inside)) rest s (fine-moved inside x e s.0)
fine-moved _ x e s = cc

pub fails-moved : (t : Term) (x : List ℕ) (faults : List Fault) → begins t ≡ Some x → Sorted t → Moved t (replaced t (Raise faults))
fails-moved (Run stmt z rest) x faults e s = placed-moved stmt z rest (Raise faults) s.1 (placed-raise z rest faults)
fails-moved (Trying inside dead_only handler z rest) x faults e s = moved-trying inside (replaced inside (Raise faults)) dead_only handler z rest s (fails-moved inside x faults e s.0)
fails-moved (Body inside rest) x faults e s = moved-body inside (replaced inside (Raise faults)) rest s (fails-moved inside x faults e s.0)
fails-moved _ x faults e s = cc

-- a granted request
granted-stmt : (stmt : Stmt) (x : List ℕ) (rest : Term) → Sorted rest → Later x rest → Placed x rest (stmt_granted stmt x rest)
granted-stmt (Finish body) x rest s l = placed-body body x rest s l
granted-stmt (At place body) x rest s l = placed-held x rest s
granted-stmt _ x rest s l = placed-rest x rest s

granted-held : (faults : List Fault) (rest : Term) → Sorted rest → Moved (Held rest) (or_raise faults rest)
granted-held [] rest s = moved-quiet (Held rest) rest refl s (λ y h. h)
granted-held (f ∷ fs) rest s = moved-quiet (Held rest) (Raise (f ∷ fs)) refl tt (λ y h. absurd h)

granted-body : (inside after rest : Term) → Sorted (Body inside rest) → Moved inside after → Moved (Body inside rest) (body_granted inside after rest)
granted-body Empty after rest s m = moved-quiet (Body Empty rest) (Held rest) refl s.2 (λ y h. inr h)
granted-body (Raise faults) after rest s m = moved-quiet (Body (Raise faults) rest) (Held rest) refl s.2 (λ y h. inr h)
granted-body inside after rest s m = moved-body inside after rest s m

pub granted-moved : (faults : List Fault) (t : Term) → Sorted t → Moved t (granted faults t)
granted-moved faults Empty s = moved-same Empty tt refl
granted-moved faults (Raise f) s = moved-same (Raise f) tt refl
granted-moved faults (Run stmt x rest) s = placed-moved stmt x rest (stmt_granted stmt x rest) s.1 (granted-stmt stmt x rest s.0 s.1)
granted-moved faults (Turns b x k times rest) s = moved-same (Turns b x k times rest) s refl
granted-moved faults (Trying inside dead_only handler x rest) s = moved-trying inside (granted faults inside) dead_only handler x rest s (granted-moved faults inside s.0)
granted-moved faults (Body inside rest) s = granted-body inside (granted faults inside) rest s (granted-moved faults inside s.0)
granted-moved faults (Held rest) s = granted-held faults rest s

-- the term of a task that is started lies within the statement that starts it

pub record Born (x : List ℕ) (t : Term) : Type 0 where
  pub sorted : Sorted t
  pub inside : (y : List ℕ) → Todo t y → Starts x y × Comes x y

born-items : (b : Block) (x : List ℕ) → Born x (items b x Empty)
born-items b x =
    record {
      sorted = items-sorted b x 0 Empty tt (λ m h y k. absurd k);
      inside = λ y h. elim (items-todo b x 0 Empty y h) [
        | inl m ↦ in-at x m.0 y m.2
        | inr r ↦ absurd r
      ];
    }

born-none : (x : List ℕ) → Born x Empty
born-none x = record { sorted = tt; inside = λ y h. absurd h }

stmt-born : (stmt : Stmt) (x : List ℕ) → Born x (stmt_child stmt x)
stmt-born (Async body) x = born-items body x
stmt-born (AtAsync place body) x = born-items body x
stmt-born (At place body) x = born-items body x
stmt-born _ x = born-none x

pub child-born : (t : Term) (x : List ℕ) → begins t ≡ Some x → Born x (child t)
child-born (Run stmt z rest) x e = let same : z ≡ x = cc in subst (λ v. Born v (stmt_child stmt z)) same (stmt-born stmt z)
child-born (Trying inside dead_only handler z rest) x e = child-born inside x e
child-born (Body inside rest) x e = child-born inside x e
child-born _ x e = cc

-- what lies within what a term has to begin, it has to begin
pub todo-starts : (t : Term) (x y : List ℕ) → Todo t x → Starts x y → Todo t y
todo-starts Empty x y h s = absurd h
todo-starts (Raise faults) x y h s = absurd h
todo-starts (Run stmt z rest) x y (inl h) s = inl (starts-trans z x y h s)
todo-starts (Run stmt z rest) x y (inr h) s = inr (todo-starts rest x y h s)
todo-starts (Turns b z k times rest) x y (inl h) s = inl (h.0, h.1, starts-trans (at z h.0) x y h.2 s)
todo-starts (Turns b z k times rest) x y (inr h) s = inr (todo-starts rest x y h s)
todo-starts (Trying inside dead_only handler z rest) x y (inl h) s = inl (todo-starts inside x y h s)
todo-starts (Trying inside dead_only handler z rest) x y (inr (inl h)) s = inr (inl (starts-trans (at z 1) x y h s))
todo-starts (Trying inside dead_only handler z rest) x y (inr (inr h)) s = inr (inr (todo-starts rest x y h s))
todo-starts (Body inside rest) x y (inl h) s = inl (todo-starts inside x y h s)
todo-starts (Body inside rest) x y (inr h) s = inr (todo-starts rest x y h s)
todo-starts (Held rest) x y h s = todo-starts rest x y h s
