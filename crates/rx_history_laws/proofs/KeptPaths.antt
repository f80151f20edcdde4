-- Paths that are kept: their beginnings keep it, and where one passes an `async`, a `finish` stands before that.
use Rattle.std.proofs.Common.{◌≡◌, ℕ, zero, suc, Bool, true, false, List, [], ◌∷◌, ◌++◌, Option, Some, refl, ap, sym, subst, ◌∙◌}
use Rattle.std.proofs.lemmas.Bool.{true≢false}
use Rattle.rx_rules.proofs.Common.{Stmt, Async, AtAsync, At, Finish, If, Repeat, Try, Block, Nothing, Then, is_kept, is_kept_in}
use Rattle.rx_history_laws.proofs.Straight.{stmt_at, stmt_in}

-- a beginning that names a statement is kept too
mutual
  pub kept-begins : (s : Stmt) (x r : List ℕ) (u : Stmt) → stmt_at s x ≡ Some u → is_kept s (x ++ r) ≡ true → is_kept s x ≡ true
  kept-begins (Async body) x r u e h = h
  kept-begins (AtAsync place body) x r u e h = h
  kept-begins (At place body) [] r u e h = refl
  kept-begins (At place body) (i ∷ x) r u e h = kept-begins_in body i x r u e h
  kept-begins (If test first other) [] r u e h = refl
  kept-begins (If test first other) (zero ∷ i ∷ x) r u e h = kept-begins_in first i x r u e h
  kept-begins (If test first other) (suc zero ∷ i ∷ x) r u e h = kept-begins_in other i x r u e h
  kept-begins (If test first other) x r u e h = cc
  kept-begins (Repeat times body) [] r u e h = refl
  kept-begins (Repeat times body) (k ∷ []) r u e h = cc
  kept-begins (Repeat times body) (k ∷ i ∷ x) r u e h = kept-begins_in body i x r u e h
  kept-begins (Try body dead_only handler) [] r u e h = refl
  kept-begins (Try body dead_only handler) (zero ∷ i ∷ x) r u e h = kept-begins_in body i x r u e h
  kept-begins (Try body dead_only handler) (suc zero ∷ i ∷ x) r u e h = kept-begins_in handler i x r u e h
  kept-begins (Try body dead_only handler) x r u e h = cc
  kept-begins _ x r u e h = refl

  kept-begins_in : (b : Block) (i : ℕ) (x r : List ℕ) (u : Stmt) → stmt_in b i x ≡ Some u → is_kept_in b i (x ++ r) ≡ true → is_kept_in b i x ≡ true
  kept-begins_in Nothing i x r u e h = cc
  kept-begins_in (Then first rest) zero x r u e h = kept-begins first x r u e h
  kept-begins_in (Then first rest) (suc i) x r u e h = kept-begins_in rest i x r u e h

-- a `finish` on the way to p, before its end
pub record FinishOn (find : List ℕ → Option Stmt) (p : List ℕ) : Type 0 where
  pub path : List ℕ
  pub next : ℕ
  pub rest : List ℕ
  pub way : p ≡ path ++ next ∷ rest
  pub body : Block
  pub at : find path ≡ Some (Finish body)

abbrev pub is_async : Stmt → Bool
is_async (Async body) = true
is_async (AtAsync place body) = true
is_async _ = false

further_one : (find within : List ℕ → Option Stmt) (i : ℕ) → ((y : List ℕ) → find (i ∷ y) ≡ within y) → (p : List ℕ) → FinishOn within p → FinishOn find (i ∷ p)
further_one find within i found p f =
    record { path = i ∷ f.path; next = f.next; rest = f.rest; way = ap (λ l. i ∷ l) f.way; body = f.body; at = found f.path ∙ f.at }

further_two : (find within : List ℕ → Option Stmt) (c i : ℕ) → ((y : List ℕ) → find (c ∷ i ∷ y) ≡ within y) → (p : List ℕ) → FinishOn within p → FinishOn find (c ∷ i ∷ p)
further_two find within c i found p f =
    record { path = c ∷ i ∷ f.path; next = f.next; rest = f.rest; way = ap (λ l. c ∷ i ∷ l) f.way; body = f.body; at = found f.path ∙ f.at }

start_here : (s : Stmt) (r : List ℕ) → is_async s ≡ true → is_kept s r ≡ true → FinishOn (stmt_at s) []
start_here (Async body) r a h = absurd (true≢false (sym h))
start_here (AtAsync place body) r a h = absurd (true≢false (sym h))
start_here s r a h = absurd (true≢false (sym a))

mutual
  pub finish-on : (s : Stmt) (p r : List ℕ) (v : Stmt) → stmt_at s p ≡ Some v → is_async v ≡ true → is_kept s (p ++ r) ≡ true → FinishOn (stmt_at s) p
  finish-on (Async body) p r v e a h = absurd (true≢false (sym h))
  finish-on (AtAsync place body) p r v e a h = absurd (true≢false (sym h))
  finish-on (Finish body) (j ∷ p) r v e a h = record { path = []; next = j; rest = p; way = refl; body = body; at = refl }
  finish-on (At place body) (j ∷ p) r v e a h = further_one (stmt_at (At place body)) (stmt_in body j) j (λ y. refl) p (finish-on_in body j p r v e a h)
  finish-on (If test first other) (zero ∷ j ∷ p) r v e a h = further_two (stmt_at (If test first other)) (stmt_in first j) 0 j (λ y. refl) p (finish-on_in first j p r v e a h)
  finish-on (If test first other) (suc zero ∷ j ∷ p) r v e a h = further_two (stmt_at (If test first other)) (stmt_in other j) 1 j (λ y. refl) p (finish-on_in other j p r v e a h)
  finish-on (Repeat times body) (k ∷ j ∷ p) r v e a h = further_two (stmt_at (Repeat times body)) (stmt_in body j) k j (λ y. refl) p (finish-on_in body j p r v e a h)
  finish-on (Try body dead_only handler) (zero ∷ j ∷ p) r v e a h = further_two (stmt_at (Try body dead_only handler)) (stmt_in body j) 0 j (λ y. refl) p (finish-on_in body j p r v e a h)
  finish-on (Try body dead_only handler) (suc zero ∷ j ∷ p) r v e a h = further_two (stmt_at (Try body dead_only handler)) (stmt_in handler j) 1 j (λ y. refl) p (finish-on_in handler j p r v e a h)
  finish-on s [] r v e a h = let same : s ≡ v = cc in start_here s r (subst (λ w. is_async w ≡ true) (sym same) a) h
  finish-on s p r v e a h = cc

  finish-on_in : (b : Block) (j : ℕ) (p r : List ℕ) (v : Stmt) → stmt_in b j p ≡ Some v → is_async v ≡ true → is_kept_in b j (p ++ r) ≡ true → FinishOn (stmt_in b j) p
  finish-on_in Nothing j p r v e a h = cc
  finish-on_in (Then first rest) zero p r v e a h = finish-on first p r v e a h
  finish-on_in (Then first rest) (suc j) p r v e a h = finish-on_in rest j p r v e a h
