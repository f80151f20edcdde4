-- Items that lie in a waiter: a step brings none into it that was not there, but for the statement that a request begins.
use Rattle.std.proofs.Common.{◌≡◌, ◌⊎◌, ℕ, true, List, [], ◌∷◌, ◌++◌, Some, refl, ap, sym, subst, ◌∙◌, inl, inr}
use Rattle.std.proofs.lemmas.Bool.{true≢false}
use Rattle.rx_rules.proofs.Common.{Fault, Block, Stmt, Async, AtAsync, At, Finish, Term, Empty, Run, Raise, Turns, Trying, Body, Held, at, begins, granted, stmt_granted, body_granted, or_raise, child, stmt_child, is_kept}
use Rattle.rx_history_laws.proofs.Straight.{code_at, stmt_at, is_waiter}
use Rattle.rx_history_laws.proofs.Paths.{Starts, left_over, starts-cut}
use Rattle.rx_history_laws.proofs.TermCode.{Coded, code-on}
use Rattle.rx_history_laws.proofs.KeptPaths.{kept-begins}
use Rattle.rx_history_laws.proofs.Heads.{Head, compare}
use Rattle.rx_history_laws.proofs.NestedTerm.{opens_one}
use Rattle.rx_history_laws.proofs.HeadsStep.{HeadsFrom, items-heads}

-- an item of t lies properly in x, kept from the statement u at x on
pub record LiesIn (t : Term) (x : List ℕ) (u : Stmt) : Type 0 where
  pub head : List ℕ
  pub is_head : Head t head
  pub next : ℕ
  pub rest : List ℕ
  pub way : head ≡ x ++ next ∷ rest
  pub kept : is_kept u (next ∷ rest) ≡ true

-- no waiter comes to hold an item
abbrev pub Moves : Block → Term → Term → Type 0
Moves code t after = (x : List ℕ) (u : Stmt) → code_at code x ≡ Some u → is_waiter u ≡ true → LiesIn after x u → LiesIn t x u

pub moves-less : (code : Block) (t after : Term) → ((h : List ℕ) → Head after h → Head t h) → Moves code t after
moves-less code t after f x u e w l = record { head = l.head; is_head = f l.head l.is_head; next = l.next; rest = l.rest; way = l.way; kept = l.kept }

abbrev Named : Block → List ℕ → Type 0
Named code h = (v : Stmt) × (code_at code h ≡ Some v)

head-named : (code : Block) (t : Term) (h : List ℕ) → Coded code t → Head t h → Named code h
head-named code Empty h c k = absurd k
head-named code (Raise faults) h c k = absurd k
head-named code (Run stmt z rest) h c (inl e) = subst (Named code) (sym e) (stmt, c.0)
head-named code (Run stmt z rest) h c (inr k) = head-named code rest h c.1 k
head-named code (Turns b z k times rest) h c (inl e) = subst (Named code) (sym e) (c.2.0, c.2.1)
head-named code (Turns b z k times rest) h c (inr n) = head-named code rest h c.1 n
head-named code (Trying inside dead_only handler z rest) h c (inl k) = head-named code inside h c.0 k
head-named code (Trying inside dead_only handler z rest) h c (inr (inl e)) = subst (Named code) (sym e) (c.3.0, c.3.1)
head-named code (Trying inside dead_only handler z rest) h c (inr (inr k)) = head-named code rest h c.2 k
head-named code (Body inside rest) h c (inl k) = head-named code inside h c.0 k
head-named code (Body inside rest) h c (inr k) = head-named code rest h c.1 k
head-named code (Held rest) h c k = head-named code rest h c k

-- an item with a path that an item in x begins with lies in x too
shorter : (code : Block) (t : Term) (x : List ℕ) (u : Stmt) → code_at code x ≡ Some u → Coded code t → (h : List ℕ) → Head t h → (j : ℕ) (r : List ℕ) → h ≡ x ++ j ∷ r → (i : ℕ) (y : List ℕ) → Starts h (x ++ i ∷ y) → is_kept u (i ∷ y) ≡ true → LiesIn t x u
shorter code t x u e c h k j r way i y s kept =
    let v = head-named code t h c k in
    let q = left_over (j ∷ r) (i ∷ y) (starts-cut x (j ∷ r) (i ∷ y) (subst (λ l. Starts l (x ++ i ∷ y)) way s)) in
    let there : stmt_at u (j ∷ r) ≡ Some v.0 = sym (code-on code x u e (j ∷ r)) ∙ subst (λ l. code_at code l ≡ Some v.0) way v.1 in
    record { head = h; is_head = k; next = j; rest = r; way = way; kept = kept-begins u (j ∷ r) q.0 v.0 there (subst (λ l. is_kept u l ≡ true) q.1 kept) }

pub moves-from : (code : Block) (t after : Term) → Coded code t → HeadsFrom code t after → Moves code t after
moves-from code t after c f x u e w l =
    let k = f l.head l.is_head in
    let s : Starts k.head (x ++ l.next ∷ l.rest) = subst (Starts k.head) l.way k.begins in
    elim (compare k.head x l.next l.rest s) [
      | inl b ↦ absurd (true≢false (sym w ∙ k.between x l.next l.rest u l.way b e))
      | inr b ↦ shorter code t x u e c k.head k.is_head b.0 b.1 b.2 l.next l.rest s l.kept
    ]

-- Requests: what is new lies in the statement that is begun.

begun-head : (t : Term) (p : List ℕ) → begins t ≡ Some p → Head t p
begun-head (Run stmt z rest) p e = inl (let same : z ≡ p = cc in sym same)
begun-head (Trying inside dead_only handler z rest) p e = inl (begun-head inside p e)
begun-head (Body inside rest) p e = inl (begun-head inside p e)
begun-head _ p e = cc

granted-stmt : (stmt : Stmt) (z : List ℕ) (rest : Term) (h : List ℕ) → Head (stmt_granted stmt z rest) h → Head rest h ⊎ ((m : ℕ) × (h ≡ at z m))
granted-stmt (Finish body) z rest h (inl k) = elim (items-heads body z 0 Empty h k) [ inl m ↦ inr m | inr n ↦ absurd n ]
granted-stmt (Finish body) z rest h (inr k) = inl k
granted-stmt _ z rest h k = inl k

body-head : (inside after rest : Term) (h : List ℕ) → Head (body_granted inside after rest) h → Head after h ⊎ Head rest h
body-head Empty after rest h k = inr k
body-head (Raise faults) after rest h k = inr k
body-head _ after rest h k = k

raised-head : (faults : List Fault) (rest : Term) (h : List ℕ) → Head (or_raise faults rest) h → Head rest h
raised-head [] rest h k = k
raised-head (f ∷ fs) rest h k = absurd k

-- an item after a request was there, or lies in the statement that the request begins
granted-head : (faults : List Fault) (t : Term) (h : List ℕ) → Head (granted faults t) h → Head t h ⊎ ((p : List ℕ) × (begins t ≡ Some p) × ((m : ℕ) × (h ≡ at p m)))
granted-head faults (Run stmt z rest) h k = elim (granted-stmt stmt z rest h k) [ inl a ↦ inl (inr a) | inr b ↦ inr (z, refl, b) ]
granted-head faults (Trying inside dead_only handler z rest) h (inl k) = elim (granted-head faults inside h k) [ inl a ↦ inl (inl a) | inr b ↦ inr b ]
granted-head faults (Trying inside dead_only handler z rest) h (inr k) = inl (inr k)
granted-head faults (Body inside rest) h k = elim (body-head inside (granted faults inside) rest h k) [
  | inl a ↦ elim (granted-head faults inside h a) [ inl c ↦ inl (inl c) | inr d ↦ inr d ]
  | inr b ↦ inl (inr b)
]
granted-head faults (Held rest) h k = inl (raised-head faults rest h k)
granted-head faults _ h k = inl k

stmt-child-head : (stmt : Stmt) (z h : List ℕ) → Head (stmt_child stmt z) h → (m : ℕ) × (h ≡ at z m)
stmt-child-head (Async body) z h k = elim (items-heads body z 0 Empty h k) [ inl m ↦ m | inr n ↦ absurd n ]
stmt-child-head (AtAsync place body) z h k = elim (items-heads body z 0 Empty h k) [ inl m ↦ m | inr n ↦ absurd n ]
stmt-child-head (At place body) z h k = elim (items-heads body z 0 Empty h k) [ inl m ↦ m | inr n ↦ absurd n ]
stmt-child-head _ z h k = absurd k

pub child-head : (t : Term) (h : List ℕ) → Head (child t) h → (p : List ℕ) × (begins t ≡ Some p) × ((m : ℕ) × (h ≡ at p m))
child-head (Run stmt z rest) h k = (z, refl, stmt-child-head stmt z h k)
child-head (Trying inside dead_only handler z rest) h k = child-head inside h k
child-head (Body inside rest) h k = child-head inside h k
child-head _ h k = absurd k

-- a beginning of p.m is p, or p goes on from it
pub part-of : (p x : List ℕ) (m j : ℕ) (r : List ℕ) → at p m ≡ x ++ j ∷ r → (x ≡ p) ⊎ ((i : ℕ) × (y : List ℕ) × (p ≡ x ++ i ∷ y) × Starts p (x ++ j ∷ r))
part-of [] [] m j r e = inl refl
part-of [] (k ∷ []) m j r e = cc
part-of [] (k ∷ l ∷ x) m j r e = cc
part-of (k ∷ p) [] m j r e = inr (k, p, refl, (let same : k ≡ j = cc in same, subst (Starts p) (let it : p ++ m ∷ [] ≡ r = cc in it) (starts-more p m)))
  where
    starts-more : (z : List ℕ) (i : ℕ) → Starts z (z ++ i ∷ [])
    starts-more [] i = tt
    starts-more (n ∷ z) i = (refl, starts-more z i)
part-of (k ∷ p) (l ∷ x) m j r e =
    let first : k ≡ l = cc in
    elim (part-of p x m j r (let it : at p m ≡ x ++ j ∷ r = cc in it)) [
      | inl q ↦ inl (ap (λ v. v ∷ x) (sym first) ∙ ap (λ v. k ∷ v) q)
      | inr q ↦ inr (q.0, q.1, ap (λ v. k ∷ v) q.2 ∙ ap (λ v. v ∷ (x ++ q.0 ∷ q.1)) first, (first, q.3))
    ]

begun-part : (code : Block) (t : Term) (p : List ℕ) → begins t ≡ Some p → Coded code t → (x : List ℕ) (u : Stmt) → code_at code x ≡ Some u → (m j : ℕ) (r : List ℕ) → at p m ≡ x ++ j ∷ r → is_kept u (j ∷ r) ≡ true → (x ≡ p) ⊎ LiesIn t x u
begun-part code t p b c x u e m j r way kept =
    elim (part-of p x m j r way) [
      | inl q ↦ inl q
      | inr q ↦ inr (shorter code t x u e c p (begun-head t p b) q.0 q.1 q.2 j r q.3 kept)
    ]

-- after a request a waiter holds an item only if it did before, or if the request begins it
pub granted-lies : (code : Block) (faults : List Fault) (t : Term) → Coded code t → (x : List ℕ) (u : Stmt) → code_at code x ≡ Some u → LiesIn (granted faults t) x u → (begins t ≡ Some x) ⊎ LiesIn t x u
granted-lies code faults t c x u e l =
    elim (granted-head faults t l.head l.is_head) [
      | inl k ↦ inr (record { head = l.head; is_head = k; next = l.next; rest = l.rest; way = l.way; kept = l.kept })
      | inr k ↦ elim (begun-part code t k.0 k.1 c x u e k.2.0 l.next l.rest (sym k.2.1 ∙ l.way) l.kept) [
        | inl q ↦ inl (k.1 ∙ ap Some (sym q))
        | inr q ↦ inr q
      ]
    ]

pub child-lies : (code : Block) (t : Term) → Coded code t → (x : List ℕ) (u : Stmt) → code_at code x ≡ Some u → LiesIn (child t) x u → (begins t ≡ Some x) ⊎ LiesIn t x u
child-lies code t c x u e l =
    let k = child-head t l.head l.is_head in
    elim (begun-part code t k.0 k.1 c x u e k.2.0 l.next l.rest (sym k.2.1 ∙ l.way) l.kept) [
      | inl q ↦ inl (k.1 ∙ ap Some (sym q))
      | inr q ↦ inr q
    ]

-- a waiter that is begun opens a scope
stmt-opens : (stmt u : Stmt) (x z : List ℕ) → stmt ≡ u → is_waiter u ≡ true → opens_one (Run stmt z Empty) ≡ true
stmt-opens (Finish body) u x z e w = refl
stmt-opens (At place body) u x z e w = refl
stmt-opens stmt u x z e w = cc

run_opens : (stmt : Stmt) (z : List ℕ) (rest : Term) → opens_one (Run stmt z Empty) ≡ opens_one (Run stmt z rest)
run_opens stmt z rest = refl

pub waiter-opens : (code : Block) (t : Term) (x : List ℕ) (u : Stmt) → Coded code t → begins t ≡ Some x → code_at code x ≡ Some u → is_waiter u ≡ true → opens_one t ≡ true
waiter-opens code (Run stmt z rest) x u c b e w =
    let same : z ≡ x = cc in
    let one : Some stmt ≡ Some u = sym c.0 ∙ ap (code_at code) same ∙ e in
    let it : stmt ≡ u = cc in
    sym (run_opens stmt z rest) ∙ stmt-opens stmt u x z it w
waiter-opens code (Trying inside dead_only handler z rest) x u c b e w = waiter-opens code inside x u c.0 b e w
waiter-opens code (Body inside rest) x u c b e w = waiter-opens code inside x u c.0 b e w
waiter-opens code _ x u c b e w = cc
