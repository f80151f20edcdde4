-- Where a statement is before another, one task keeps the order by itself, or a `finish` or `at` on the way does.
use Rattle.std.proofs.Common.{◌≡◌, ◌⊎◌, ℕ, zero, suc, Bool, true, false, ◌==◌, nat_lt, List, [], ◌∷◌, ◌++◌, Option, Some, refl, ap, sym, subst, ◌∙◌, arith, inl, inr}
use Rattle.std.proofs.lemmas.Bool.{true≢false, eqb-true, cond_both}
use Rattle.rx_rules.proofs.Common.{Stmt, SetTo, New, Get, Put, Forget, Census, Print, Throw, Async, AtAsync, At, Finish, If, Repeat, Try, Block, Nothing, Then, is_kept, is_kept_in, before_inside, is_before_in, comes_before}
use Rattle.rx_history_laws.proofs.Paths.{Below, below_turn, below-suc}
use Rattle.rx_history_laws.proofs.Straight.{stmt_at, stmt_in, code_at, is_straight, is_straight_in, is_ahead, is_ahead_in, comes_ahead, is_waiter}

-- the way x passes a waiter, and the waiter passes the test; `find` tells the statement at a path
pub record Barrier (test : List ℕ → Bool) (find : List ℕ → Option Stmt) (x : List ℕ) : Type 0 where
  pub path : List ℕ
  pub next : ℕ
  pub rest : List ℕ
  pub way : x ≡ path ++ next ∷ rest
  pub passes : test path ≡ true
  pub waiter : Stmt
  pub at : find path ≡ Some waiter
  pub waits : is_waiter waiter ≡ true
  pub kept : is_kept waiter (next ∷ rest) ≡ true

abbrev Cases : (List ℕ → Bool) → (List ℕ → Option Stmt) → List ℕ → Type 0
Cases test find x = (test x ≡ true) ⊎ Barrier test find x

-- two numbers in front
two : (test inner : List ℕ → Bool) (find within : List ℕ → Option Stmt) (c i : ℕ) → ((y : List ℕ) → test (c ∷ i ∷ y) ≡ inner y) → ((y : List ℕ) → find (c ∷ i ∷ y) ≡ within y) → (x : List ℕ) → Cases inner within x → Cases test find (c ∷ i ∷ x)
two test inner find within c i same found x (inl h) = inl (same x ∙ h)
two test inner find within c i same found x (inr b) =
    inr (record {
      path = c ∷ i ∷ b.path;
      next = b.next;
      rest = b.rest;
      way = ap (λ l. c ∷ i ∷ l) b.way;
      passes = same b.path ∙ b.passes;
      waiter = b.waiter;
      at = found b.path ∙ b.at;
      waits = b.waits;
      kept = b.kept;
    })

one : (test inner : List ℕ → Bool) (find within : List ℕ → Option Stmt) (i : ℕ) → ((y : List ℕ) → test (i ∷ y) ≡ inner y) → ((y : List ℕ) → find (i ∷ y) ≡ within y) → (x : List ℕ) → Cases inner within x → Cases test find (i ∷ x)
one test inner find within i same found x (inl h) = inl (same x ∙ h)
one test inner find within i same found x (inr b) =
    inr (record {
      path = i ∷ b.path;
      next = b.next;
      rest = b.rest;
      way = ap (λ l. i ∷ l) b.way;
      passes = same b.path ∙ b.passes;
      waiter = b.waiter;
      at = found b.path ∙ b.at;
      waits = b.waits;
      kept = b.kept;
    })

mutual
  kept-cases : (s : Stmt) (x : List ℕ) → is_kept s x ≡ true → Cases (is_straight s) (stmt_at s) x
  kept-cases (Async body) x h = absurd (true≢false (sym h))
  kept-cases (AtAsync place body) x h = absurd (true≢false (sym h))
  kept-cases (At place body) [] h = inl refl
  kept-cases (At place body) (i ∷ x) h = inr (record { path = []; next = i; rest = x; way = refl; passes = refl; waiter = At place body; at = refl; waits = refl; kept = h })
  kept-cases (Finish body) [] h = inl refl
  kept-cases (Finish body) (i ∷ x) h = inr (record { path = []; next = i; rest = x; way = refl; passes = refl; waiter = Finish body; at = refl; waits = refl; kept = refl })
  kept-cases (If test first other) [] h = inl refl
  kept-cases (If test first other) (zero ∷ i ∷ x) h =
      two (is_straight (If test first other)) (is_straight_in first i) (stmt_at (If test first other)) (stmt_in first i) 0 i (λ y. refl) (λ y. refl) x (kept-cases_in first i x h)
  kept-cases (If test first other) (suc zero ∷ i ∷ x) h =
      two (is_straight (If test first other)) (is_straight_in other i) (stmt_at (If test first other)) (stmt_in other i) 1 i (λ y. refl) (λ y. refl) x (kept-cases_in other i x h)
  kept-cases (If test first other) x h = cc
  kept-cases (Repeat times body) [] h = inl refl
  kept-cases (Repeat times body) (k ∷ []) h = cc
  kept-cases (Repeat times body) (k ∷ i ∷ x) h =
      two (is_straight (Repeat times body)) (is_straight_in body i) (stmt_at (Repeat times body)) (stmt_in body i) k i (λ y. refl) (λ y. refl) x (kept-cases_in body i x h)
  kept-cases (Try body dead_only handler) [] h = inl refl
  kept-cases (Try body dead_only handler) (zero ∷ i ∷ x) h =
      two (is_straight (Try body dead_only handler)) (is_straight_in body i) (stmt_at (Try body dead_only handler)) (stmt_in body i) 0 i (λ y. refl) (λ y. refl) x (kept-cases_in body i x h)
  kept-cases (Try body dead_only handler) (suc zero ∷ i ∷ x) h =
      two (is_straight (Try body dead_only handler)) (is_straight_in handler i) (stmt_at (Try body dead_only handler)) (stmt_in handler i) 1 i (λ y. refl) (λ y. refl) x (kept-cases_in handler i x h)
  kept-cases (Try body dead_only handler) x h = cc
  kept-cases _ x h = inl refl

  kept-cases_in : (b : Block) (i : ℕ) (x : List ℕ) → is_kept_in b i x ≡ true → Cases (is_straight_in b i) (stmt_in b i) x
  kept-cases_in Nothing i x h = absurd (true≢false (sym h))
  kept-cases_in (Then first rest) zero x h = kept-cases first x h
  kept-cases_in (Then first rest) (suc i) x h = kept-cases_in rest i x h

turn_cases : (times : ℕ) (body : Block) (k i : ℕ) (x : List ℕ) (m j : ℕ) (y : List ℕ) (e l : Bool) → (k == m) ≡ e → nat_lt k m ≡ l → (is_before_in body i x j y ≡ true → Cases (λ p. is_ahead_in body i p j y) (stmt_in body i) x) → before_inside (Repeat times body) (k ∷ i ∷ x) (m ∷ j ∷ y) ≡ true → Cases (λ p. is_ahead (Repeat times body) p (m ∷ j ∷ y)) (stmt_at (Repeat times body)) (k ∷ i ∷ x)
turn_cases times body k i x m j y true l he hl f h =
    two (λ p. is_ahead (Repeat times body) p (m ∷ j ∷ y)) (λ p. is_ahead_in body i p j y) (stmt_at (Repeat times body)) (stmt_in body i) k i (λ p. rw he) (λ p. refl) x (f (rw he at h))
turn_cases times body k i x m j y false true he hl f h =
    two (λ p. is_ahead (Repeat times body) p (m ∷ j ∷ y)) (is_straight_in body i) (stmt_at (Repeat times body)) (stmt_in body i) k i (λ p. rw (he, hl)) (λ p. refl) x (kept-cases_in body i x (rw (he, hl) at h))
turn_cases times body k i x m j y false false he hl f h = let bad : false ≡ true = rw (he, hl) at h in absurd (true≢false (sym bad))

mutual
  before-cases : (s : Stmt) (x y : List ℕ) → before_inside s x y ≡ true → Cases (λ p. is_ahead s p y) (stmt_at s) x
  before-cases (Async body) (i ∷ x) (j ∷ y) h = one (λ p. is_ahead (Async body) p (j ∷ y)) (λ p. is_ahead_in body i p j y) (stmt_at (Async body)) (stmt_in body i) i (λ p. refl) (λ p. refl) x (before-cases_in body i x j y h)
  before-cases (AtAsync place body) (i ∷ x) (j ∷ y) h = one (λ p. is_ahead (AtAsync place body) p (j ∷ y)) (λ p. is_ahead_in body i p j y) (stmt_at (AtAsync place body)) (stmt_in body i) i (λ p. refl) (λ p. refl) x (before-cases_in body i x j y h)
  before-cases (At place body) (i ∷ x) (j ∷ y) h = one (λ p. is_ahead (At place body) p (j ∷ y)) (λ p. is_ahead_in body i p j y) (stmt_at (At place body)) (stmt_in body i) i (λ p. refl) (λ p. refl) x (before-cases_in body i x j y h)
  before-cases (Finish body) (i ∷ x) (j ∷ y) h = one (λ p. is_ahead (Finish body) p (j ∷ y)) (λ p. is_ahead_in body i p j y) (stmt_at (Finish body)) (stmt_in body i) i (λ p. refl) (λ p. refl) x (before-cases_in body i x j y h)
  before-cases (If test first other) (zero ∷ i ∷ x) (zero ∷ j ∷ y) h =
      two (λ p. is_ahead (If test first other) p (0 ∷ j ∷ y)) (λ p. is_ahead_in first i p j y) (stmt_at (If test first other)) (stmt_in first i) 0 i (λ p. refl) (λ p. refl) x (before-cases_in first i x j y h)
  before-cases (If test first other) (suc zero ∷ i ∷ x) (suc zero ∷ j ∷ y) h =
      two (λ p. is_ahead (If test first other) p (1 ∷ j ∷ y)) (λ p. is_ahead_in other i p j y) (stmt_at (If test first other)) (stmt_in other i) 1 i (λ p. refl) (λ p. refl) x (before-cases_in other i x j y h)
  before-cases (Repeat times body) (k ∷ i ∷ x) (m ∷ j ∷ y) h =
      turn_cases times body k i x m j y (k == m) (nat_lt k m) refl refl (before-cases_in body i x j y) h
  before-cases (Try body dead_only handler) (zero ∷ i ∷ x) (zero ∷ j ∷ y) h =
      two (λ p. is_ahead (Try body dead_only handler) p (0 ∷ j ∷ y)) (λ p. is_ahead_in body i p j y) (stmt_at (Try body dead_only handler)) (stmt_in body i) 0 i (λ p. refl) (λ p. refl) x (before-cases_in body i x j y h)
  before-cases (Try body dead_only handler) (suc zero ∷ i ∷ x) (suc zero ∷ j ∷ y) h =
      two (λ p. is_ahead (Try body dead_only handler) p (1 ∷ j ∷ y)) (λ p. is_ahead_in handler i p j y) (stmt_at (Try body dead_only handler)) (stmt_in handler i) 1 i (λ p. refl) (λ p. refl) x (before-cases_in handler i x j y h)
  before-cases (Try body dead_only handler) (zero ∷ i ∷ x) (suc zero ∷ j ∷ y) h =
      two (λ p. is_ahead (Try body dead_only handler) p (1 ∷ j ∷ y)) (is_straight_in body i) (stmt_at (Try body dead_only handler)) (stmt_in body i) 0 i (λ p. refl) (λ p. refl) x (kept-cases_in body i x h)
  before-cases s x y h = cc

  before-cases_in : (b : Block) (i : ℕ) (x : List ℕ) (j : ℕ) (y : List ℕ) → is_before_in b i x j y ≡ true → Cases (λ p. is_ahead_in b i p j y) (stmt_in b i) x
  before-cases_in Nothing i x j y h = absurd (true≢false (sym h))
  before-cases_in (Then first rest) zero x zero y h = before-cases first x y h
  before-cases_in (Then first rest) zero x (suc j) y h = kept-cases first x h
  before-cases_in (Then first rest) (suc i) x zero y h = absurd (true≢false (sym h))
  before-cases_in (Then first rest) (suc i) x (suc j) y h = before-cases_in rest i x j y h

-- x is ahead of y by itself, or a waiter on the way to x is
pub comes_before-cases : (code : Block) (x y : List ℕ) → comes_before code x y ≡ true → (comes_ahead code x y ≡ true) ⊎ Barrier (λ p. comes_ahead code p y) (code_at code) x
comes_before-cases code (i ∷ x) (j ∷ y) h =
    one (λ p. comes_ahead code p (j ∷ y)) (λ p. is_ahead_in code i p j y) (code_at code) (stmt_in code i) i (λ p. refl) (λ p. refl) x (before-cases_in code i x j y h)
comes_before-cases code [] y h = absurd (true≢false (sym h))
comes_before-cases code (i ∷ x) [] h = absurd (true≢false (sym h))

-- Below an `async`, `at` or `finish` nothing is ahead of what lies after it.

abbrev pub is_shut : Stmt → Bool
is_shut (Async body) = true
is_shut (AtAsync place body) = true
is_shut (At place body) = true
is_shut (Finish body) = true
is_shut _ = false

not_shut : (s u : Stmt) → is_shut s ≡ false → Some s ≡ Some u → is_shut u ≡ true → ⊥
not_shut s u f e h = let same : s ≡ u = cc in true≢false (sym h ∙ ap is_shut (sym same) ∙ f)

mutual
  shut-straight : (s : Stmt) (x : List ℕ) (i : ℕ) (w : List ℕ) (u : Stmt) → stmt_at s x ≡ Some u → is_shut u ≡ true → is_straight s (x ++ i ∷ w) ≡ false
  shut-straight (SetTo name value) [] i w u e h = absurd (not_shut (SetTo name value) u refl e h)
  shut-straight (SetTo name value) (j ∷ x) i w u e h = cc
  shut-straight (New name words) [] i w u e h = absurd (not_shut (New name words) u refl e h)
  shut-straight (New name words) (j ∷ x) i w u e h = cc
  shut-straight (Get name target index) [] i w u e h = absurd (not_shut (Get name target index) u refl e h)
  shut-straight (Get name target index) (j ∷ x) i w u e h = cc
  shut-straight (Put target index value) [] i w u e h = absurd (not_shut (Put target index value) u refl e h)
  shut-straight (Put target index value) (j ∷ x) i w u e h = cc
  shut-straight (Forget target) [] i w u e h = absurd (not_shut (Forget target) u refl e h)
  shut-straight (Forget target) (j ∷ x) i w u e h = cc
  shut-straight (Census name) [] i w u e h = absurd (not_shut (Census name) u refl e h)
  shut-straight (Census name) (j ∷ x) i w u e h = cc
  shut-straight (Print value) [] i w u e h = absurd (not_shut (Print value) u refl e h)
  shut-straight (Print value) (j ∷ x) i w u e h = cc
  shut-straight (Throw value) [] i w u e h = absurd (not_shut (Throw value) u refl e h)
  shut-straight (Throw value) (j ∷ x) i w u e h = cc
  shut-straight (Async body) [] i w u e h = refl
  shut-straight (Async body) (j ∷ x) i w u e h = refl
  shut-straight (AtAsync place body) [] i w u e h = refl
  shut-straight (AtAsync place body) (j ∷ x) i w u e h = refl
  shut-straight (At place body) [] i w u e h = refl
  shut-straight (At place body) (j ∷ x) i w u e h = refl
  shut-straight (Finish body) [] i w u e h = refl
  shut-straight (Finish body) (j ∷ x) i w u e h = refl
  shut-straight (If test first other) [] i w u e h = absurd (not_shut (If test first other) u refl e h)
  shut-straight (If test first other) (zero ∷ j ∷ x) i w u e h = shut-straight_in first j x i w u e h
  shut-straight (If test first other) (suc zero ∷ j ∷ x) i w u e h = shut-straight_in other j x i w u e h
  shut-straight (If test first other) x i w u e h = cc
  shut-straight (Repeat times body) [] i w u e h = absurd (not_shut (Repeat times body) u refl e h)
  shut-straight (Repeat times body) (k ∷ []) i w u e h = cc
  shut-straight (Repeat times body) (k ∷ j ∷ x) i w u e h = shut-straight_in body j x i w u e h
  shut-straight (Try body dead_only handler) [] i w u e h = absurd (not_shut (Try body dead_only handler) u refl e h)
  shut-straight (Try body dead_only handler) (zero ∷ j ∷ x) i w u e h = shut-straight_in body j x i w u e h
  shut-straight (Try body dead_only handler) (suc zero ∷ j ∷ x) i w u e h = shut-straight_in handler j x i w u e h
  shut-straight (Try body dead_only handler) x i w u e h = cc

  shut-straight_in : (b : Block) (j : ℕ) (x : List ℕ) (i : ℕ) (w : List ℕ) (u : Stmt) → stmt_in b j x ≡ Some u → is_shut u ≡ true → is_straight_in b j (x ++ i ∷ w) ≡ false
  shut-straight_in Nothing j x i w u e h = cc
  shut-straight_in (Then first rest) zero x i w u e h = shut-straight first x i w u e h
  shut-straight_in (Then first rest) (suc j) x i w u e h = shut-straight_in rest j x i w u e h

below_pred : (i j : ℕ) (x y : List ℕ) → Below (suc i ∷ x) (suc j ∷ y) → Below (i ∷ x) (j ∷ y)
below_pred i j x y (inl h) = inl (omega arith)
below_pred i j x y (inr h) = inr (let e : suc i ≡ suc j = h.0 in omega arith, h.1)

below_same : (i : ℕ) (x y : List ℕ) → Below (i ∷ x) (i ∷ y) → Below x y
below_same i x y (inl h) = absurd (omega arith)
below_same i x y (inr h) = h.1

turn_shut : (times : ℕ) (body : Block) (k j : ℕ) (x : List ℕ) (i : ℕ) (w : List ℕ) (m l : ℕ) (z : List ℕ) (e : Bool) → (k == m) ≡ e → (Below (j ∷ x) (l ∷ z) → is_ahead_in body j (x ++ i ∷ w) l z ≡ false) → is_straight_in body j (x ++ i ∷ w) ≡ false → Below (k ∷ j ∷ x) (m ∷ l ∷ z) → is_ahead (Repeat times body) (k ∷ j ∷ (x ++ i ∷ w)) (m ∷ l ∷ z) ≡ false
turn_shut times body k j x i w m l z true e f g b =
    rw e (f (let same : k ≡ m = eqb-true k m e in below_same m (j ∷ x) (l ∷ z) (subst (λ v. Below (v ∷ j ∷ x) (m ∷ l ∷ z)) same b)))
turn_shut times body k j x i w m l z false e f g b = rw (e, g) (cond_both (nat_lt k m) false false (λ y. y ≡ false) (λ d. refl) (λ d. refl))

mutual
  shut-ahead : (s : Stmt) (x : List ℕ) (i : ℕ) (w z : List ℕ) (u : Stmt) → stmt_at s x ≡ Some u → is_shut u ≡ true → Below x z → is_ahead s (x ++ i ∷ w) z ≡ false
  shut-ahead s [] i w z u e h b = absurd b
  shut-ahead (Async body) (j ∷ x) i w (m ∷ z) u e h b = shut-ahead_in body j x i w m z u e h b
  shut-ahead (AtAsync place body) (j ∷ x) i w (m ∷ z) u e h b = shut-ahead_in body j x i w m z u e h b
  shut-ahead (At place body) (j ∷ x) i w (m ∷ z) u e h b = shut-ahead_in body j x i w m z u e h b
  shut-ahead (Finish body) (j ∷ x) i w (m ∷ z) u e h b = shut-ahead_in body j x i w m z u e h b
  shut-ahead (If test first other) (zero ∷ j ∷ x) i w (zero ∷ m ∷ z) u e h b = shut-ahead_in first j x i w m z u e h (below_same 0 (j ∷ x) (m ∷ z) b)
  shut-ahead (If test first other) (suc zero ∷ j ∷ x) i w (suc zero ∷ m ∷ z) u e h b = shut-ahead_in other j x i w m z u e h (below_same 1 (j ∷ x) (m ∷ z) b)
  shut-ahead (Repeat times body) (k ∷ j ∷ x) i w (m ∷ l ∷ z) u e h b = turn_shut times body k j x i w m l z (k == m) refl (shut-ahead_in body j x i w l z u e h) (shut-straight_in body j x i w u e h) b
  shut-ahead (Try body dead_only handler) (zero ∷ j ∷ x) i w (zero ∷ m ∷ z) u e h b = shut-ahead_in body j x i w m z u e h (below_same 0 (j ∷ x) (m ∷ z) b)
  shut-ahead (Try body dead_only handler) (suc zero ∷ j ∷ x) i w (suc zero ∷ m ∷ z) u e h b = shut-ahead_in handler j x i w m z u e h (below_same 1 (j ∷ x) (m ∷ z) b)
  shut-ahead (Try body dead_only handler) (zero ∷ j ∷ x) i w (suc zero ∷ m ∷ z) u e h b = shut-straight_in body j x i w u e h
  shut-ahead s x i w z u e h b = cc

  shut-ahead_in : (b : Block) (j : ℕ) (x : List ℕ) (i : ℕ) (w : List ℕ) (m : ℕ) (z : List ℕ) (u : Stmt) → stmt_in b j x ≡ Some u → is_shut u ≡ true → Below (j ∷ x) (m ∷ z) → is_ahead_in b j (x ++ i ∷ w) m z ≡ false
  shut-ahead_in Nothing j x i w m z u e h b = refl
  shut-ahead_in (Then first rest) zero x i w zero z u e h b = shut-ahead first x i w z u e h (below_same 0 x z b)
  shut-ahead_in (Then first rest) zero x i w (suc m) z u e h b = shut-straight first x i w u e h
  shut-ahead_in (Then first rest) (suc j) x i w zero z u e h b = refl
  shut-ahead_in (Then first rest) (suc j) x i w (suc m) z u e h b = shut-ahead_in rest j x i w m z u e h (below_pred j m x z b)

pub shut-comes_ahead : (code : Block) (x : List ℕ) (i : ℕ) (w z : List ℕ) (u : Stmt) → code_at code x ≡ Some u → is_shut u ≡ true → Below x z → comes_ahead code (x ++ i ∷ w) z ≡ false
shut-comes_ahead code [] i w z u e h b = absurd b
shut-comes_ahead code (j ∷ x) i w [] u e h b = absurd b
shut-comes_ahead code (j ∷ x) i w (m ∷ z) u e h b = shut-ahead_in code j x i w m z u e h b

mutual
  ahead-below : (s : Stmt) (x y : List ℕ) → is_ahead s x y ≡ true → Below x y
  ahead-below (Async body) (i ∷ x) (j ∷ y) h = ahead-below_in body i x j y h
  ahead-below (AtAsync place body) (i ∷ x) (j ∷ y) h = ahead-below_in body i x j y h
  ahead-below (At place body) (i ∷ x) (j ∷ y) h = ahead-below_in body i x j y h
  ahead-below (Finish body) (i ∷ x) (j ∷ y) h = ahead-below_in body i x j y h
  ahead-below (If test first other) (zero ∷ i ∷ x) (zero ∷ j ∷ y) h = inr (refl, ahead-below_in first i x j y h)
  ahead-below (If test first other) (suc zero ∷ i ∷ x) (suc zero ∷ j ∷ y) h = inr (refl, ahead-below_in other i x j y h)
  ahead-below (Repeat times body) (k ∷ i ∷ x) (m ∷ j ∷ y) h = below_turn k m i j x y (is_ahead_in body i x j y) (is_straight_in body i x) (k == m) (nat_lt k m) refl refl (ahead-below_in body i x j y) h
  ahead-below (Try body dead_only handler) (zero ∷ i ∷ x) (zero ∷ j ∷ y) h = inr (refl, ahead-below_in body i x j y h)
  ahead-below (Try body dead_only handler) (suc zero ∷ i ∷ x) (suc zero ∷ j ∷ y) h = inr (refl, ahead-below_in handler i x j y h)
  ahead-below (Try body dead_only handler) (zero ∷ i ∷ x) (suc zero ∷ j ∷ y) h = inl (omega arith)
  ahead-below s x y h = cc

  ahead-below_in : (b : Block) (i : ℕ) (x : List ℕ) (j : ℕ) (y : List ℕ) → is_ahead_in b i x j y ≡ true → Below (i ∷ x) (j ∷ y)
  ahead-below_in Nothing i x j y h = absurd (true≢false (sym h))
  ahead-below_in (Then first rest) zero x zero y h = inr (refl, ahead-below first x y h)
  ahead-below_in (Then first rest) zero x (suc j) y h = inl (omega arith)
  ahead-below_in (Then first rest) (suc i) x zero y h = absurd (true≢false (sym h))
  ahead-below_in (Then first rest) (suc i) x (suc j) y h = below-suc i j x y (ahead-below_in rest i x j y h)

pub comes_ahead-below : (code : Block) (x y : List ℕ) → comes_ahead code x y ≡ true → Below x y
comes_ahead-below code (i ∷ x) (j ∷ y) h = ahead-below_in code i x j y h
comes_ahead-below code [] y h = absurd (true≢false (sym h))
comes_ahead-below code (i ∷ x) [] h = absurd (true≢false (sym h))
