-- What is before what: where two paths part, and what each number of the first stands for.
use Rattle.std.proofs.Common.{◌≡◌, ℕ, zero, suc, ◌<◌, Bool, false, cond, ◌==◌, nat_lt, List, [], ◌∷◌, drop, refl, arith, sym, ◌∙◌}
use Rattle.std.proofs.lemmas.Bool.{eq-eqb, ne_eqb, lt-ltb}
use Rattle.rx_rules.proofs.Common.{Stmt, Async, AtAsync, At, Finish, If, Repeat, Try, Block, Nothing, Then, is_kept, is_kept_in, before_inside, is_before_in}
use Rattle.rx_order.specs.declared.marks.Role.{Role}
use Rattle.rx_order.specs.Marks.{mark_of, marks, marks_in}
use Rattle.rx_span.specs.Paths.{Names, NamesIn}
use Rattle.rx_span.specs.Inside.Kept.{kept_from, leads}

-- x and y are the same below d, and at d x has the lesser number
abbrev pub Fork : List ℕ → List ℕ → ℕ → Type 0
Fork [] y d = ⊥
Fork (i ∷ x) [] d = ⊥
Fork (i ∷ x) (j ∷ y) zero = i < j
Fork (i ∷ x) (j ∷ y) (suc d) = (i ≡ j) × Fork x y d

-- a path is kept as its marks say
mutual
  kept-marks : (s : Stmt) (x : List ℕ) → Names s x → is_kept s x ≡ kept_from (mark_of s ∷ marks s x)
  kept-marks (Async body) x n = refl
  kept-marks (AtAsync place body) x n = refl
  kept-marks (Finish body) x n = refl
  kept-marks (At place body) [] n = refl
  kept-marks (At place body) (i ∷ x) n = kept-marks_in body i x n
  kept-marks (If test first other) [] n = refl
  kept-marks (If test first other) (zero ∷ []) n = absurd n
  kept-marks (If test first other) (zero ∷ i ∷ x) n = kept-marks_in first i x n
  kept-marks (If test first other) (suc zero ∷ []) n = absurd n
  kept-marks (If test first other) (suc zero ∷ i ∷ x) n = kept-marks_in other i x n
  kept-marks (If test first other) (suc (suc k) ∷ x) n = absurd n
  kept-marks (Repeat times body) [] n = refl
  kept-marks (Repeat times body) (k ∷ []) n = absurd n
  kept-marks (Repeat times body) (k ∷ i ∷ x) n = kept-marks_in body i x n
  kept-marks (Try body dead_only handler) [] n = refl
  kept-marks (Try body dead_only handler) (zero ∷ []) n = absurd n
  kept-marks (Try body dead_only handler) (zero ∷ i ∷ x) n = kept-marks_in body i x n
  kept-marks (Try body dead_only handler) (suc zero ∷ []) n = absurd n
  kept-marks (Try body dead_only handler) (suc zero ∷ i ∷ x) n = kept-marks_in handler i x n
  kept-marks (Try body dead_only handler) (suc (suc k) ∷ x) n = absurd n
  kept-marks s x n = refl

  kept-marks_in : (b : Block) (i : ℕ) (x : List ℕ) → NamesIn b i x → is_kept_in b i x ≡ kept_from (marks_in b i x)
  kept-marks_in Nothing i x n = absurd n
  kept-marks_in (Then first rest) zero x n = kept-marks first x n
  kept-marks_in (Then first rest) (suc i) x n = kept-marks_in rest i x n

-- a position always leads as far as it is kept
leads-mark : (s : Stmt) (ms : List Role) → leads (mark_of s ∷ ms) ≡ kept_from (mark_of s ∷ ms)
leads-mark (Async body) ms = refl
leads-mark (AtAsync place body) ms = refl
leads-mark (Finish body) ms = refl
leads-mark s ms = refl

turn_later : (k m : ℕ) (a b : Bool) → k < m → cond (k == m) a (cond (nat_lt k m) b false) ≡ b
turn_later k m a b h = rw (ne_eqb k m (λ e. omega arith), lt-ltb k m h) refl

turn_same : (k m : ℕ) (a b : Bool) → k ≡ m → cond (k == m) a b ≡ a
turn_same k m a b e = rw (eq-eqb k m e) refl

-- where two paths part, the first is before the second exactly if it leads from there
mutual
  fork-before : (s : Stmt) (x y : List ℕ) (d : ℕ) → Names s x → Names s y → Fork x y d → before_inside s x y ≡ leads (drop d (marks s x))
  fork-before s [] y d n m f = absurd f
  fork-before s (i ∷ x) [] d n m f = absurd f
  fork-before (Async body) (i ∷ x) (j ∷ y) d n m f = fork-before_in body i x j y d n m f
  fork-before (AtAsync place body) (i ∷ x) (j ∷ y) d n m f = fork-before_in body i x j y d n m f
  fork-before (At place body) (i ∷ x) (j ∷ y) d n m f = fork-before_in body i x j y d n m f
  fork-before (Finish body) (i ∷ x) (j ∷ y) d n m f = fork-before_in body i x j y d n m f
  fork-before (If test first other) (zero ∷ []) (j ∷ y) d n m f = absurd n
  fork-before (If test first other) (suc zero ∷ []) (j ∷ y) d n m f = absurd n
  fork-before (If test first other) (suc (suc k) ∷ x) (j ∷ y) d n m f = absurd n
  fork-before (If test first other) (zero ∷ i ∷ x) (zero ∷ []) d n m f = absurd m
  fork-before (If test first other) (suc zero ∷ i ∷ x) (zero ∷ []) d n m f = absurd m
  fork-before (If test first other) (zero ∷ i ∷ x) (suc zero ∷ []) d n m f = absurd m
  fork-before (If test first other) (suc zero ∷ i ∷ x) (suc zero ∷ []) d n m f = absurd m
  fork-before (If test first other) (zero ∷ i ∷ x) (suc (suc k) ∷ y) d n m f = absurd m
  fork-before (If test first other) (suc zero ∷ i ∷ x) (suc (suc k) ∷ y) d n m f = absurd m
  fork-before (If test first other) (zero ∷ i ∷ x) (zero ∷ j ∷ y) zero n m f = absurd (omega arith)
  fork-before (If test first other) (zero ∷ i ∷ x) (zero ∷ j ∷ y) (suc d) n m f = fork-before_in first i x j y d n m f.1
  fork-before (If test first other) (zero ∷ i ∷ x) (suc zero ∷ j ∷ y) zero n m f = refl
  fork-before (If test first other) (zero ∷ i ∷ x) (suc zero ∷ j ∷ y) (suc d) n m f = absurd (let e = f.0 in omega arith)
  fork-before (If test first other) (suc zero ∷ i ∷ x) (zero ∷ j ∷ y) zero n m f = absurd (omega arith)
  fork-before (If test first other) (suc zero ∷ i ∷ x) (zero ∷ j ∷ y) (suc d) n m f = absurd (let e = f.0 in omega arith)
  fork-before (If test first other) (suc zero ∷ i ∷ x) (suc zero ∷ j ∷ y) zero n m f = absurd (omega arith)
  fork-before (If test first other) (suc zero ∷ i ∷ x) (suc zero ∷ j ∷ y) (suc d) n m f = fork-before_in other i x j y d n m f.1
  fork-before (Repeat times body) (k ∷ []) (l ∷ y) d n m f = absurd n
  fork-before (Repeat times body) (k ∷ i ∷ x) (l ∷ []) d n m f = absurd m
  fork-before (Repeat times body) (k ∷ i ∷ x) (l ∷ j ∷ y) zero n m f =
      turn_later k l (is_before_in body i x j y) (is_kept_in body i x) f ∙ kept-marks_in body i x n
  fork-before (Repeat times body) (k ∷ i ∷ x) (l ∷ j ∷ y) (suc d) n m f =
      turn_same k l (is_before_in body i x j y) (cond (nat_lt k l) (is_kept_in body i x) false) f.0 ∙ fork-before_in body i x j y d n m f.1
  fork-before (Try body dead_only handler) (zero ∷ []) (j ∷ y) d n m f = absurd n
  fork-before (Try body dead_only handler) (suc zero ∷ []) (j ∷ y) d n m f = absurd n
  fork-before (Try body dead_only handler) (suc (suc k) ∷ x) (j ∷ y) d n m f = absurd n
  fork-before (Try body dead_only handler) (zero ∷ i ∷ x) (zero ∷ []) d n m f = absurd m
  fork-before (Try body dead_only handler) (suc zero ∷ i ∷ x) (zero ∷ []) d n m f = absurd m
  fork-before (Try body dead_only handler) (zero ∷ i ∷ x) (suc zero ∷ []) d n m f = absurd m
  fork-before (Try body dead_only handler) (suc zero ∷ i ∷ x) (suc zero ∷ []) d n m f = absurd m
  fork-before (Try body dead_only handler) (zero ∷ i ∷ x) (suc (suc k) ∷ y) d n m f = absurd m
  fork-before (Try body dead_only handler) (suc zero ∷ i ∷ x) (suc (suc k) ∷ y) d n m f = absurd m
  fork-before (Try body dead_only handler) (zero ∷ i ∷ x) (zero ∷ j ∷ y) zero n m f = absurd (omega arith)
  fork-before (Try body dead_only handler) (zero ∷ i ∷ x) (zero ∷ j ∷ y) (suc d) n m f = fork-before_in body i x j y d n m f.1
  fork-before (Try body dead_only handler) (zero ∷ i ∷ x) (suc zero ∷ j ∷ y) zero n m f = kept-marks_in body i x n
  fork-before (Try body dead_only handler) (zero ∷ i ∷ x) (suc zero ∷ j ∷ y) (suc d) n m f = absurd (let e = f.0 in omega arith)
  fork-before (Try body dead_only handler) (suc zero ∷ i ∷ x) (zero ∷ j ∷ y) zero n m f = absurd (omega arith)
  fork-before (Try body dead_only handler) (suc zero ∷ i ∷ x) (zero ∷ j ∷ y) (suc d) n m f = absurd (let e = f.0 in omega arith)
  fork-before (Try body dead_only handler) (suc zero ∷ i ∷ x) (suc zero ∷ j ∷ y) zero n m f = absurd (omega arith)
  fork-before (Try body dead_only handler) (suc zero ∷ i ∷ x) (suc zero ∷ j ∷ y) (suc d) n m f = fork-before_in handler i x j y d n m f.1
  fork-before s (i ∷ x) y d n m f = absurd n

  pub fork-before_in : (b : Block) (i : ℕ) (x : List ℕ) (j : ℕ) (y : List ℕ) (d : ℕ) → NamesIn b i x → NamesIn b j y → Fork (i ∷ x) (j ∷ y) d → is_before_in b i x j y ≡ leads (drop d (marks_in b i x))
  fork-before_in Nothing i x j y d n m f = absurd n
  fork-before_in (Then first rest) zero x zero y zero n m f = absurd (omega arith)
  fork-before_in (Then first rest) zero x zero y (suc d) n m f = fork-before first x y d n m f.1
  fork-before_in (Then first rest) zero x (suc j) y zero n m f = kept-marks first x n ∙ sym (leads-mark first (marks first x))
  fork-before_in (Then first rest) zero x (suc j) y (suc d) n m f = absurd (let e = f.0 in omega arith)
  fork-before_in (Then first rest) (suc i) x zero y zero n m f = absurd (omega arith)
  fork-before_in (Then first rest) (suc i) x zero y (suc d) n m f = absurd (let e = f.0 in omega arith)
  fork-before_in (Then first rest) (suc i) x (suc j) y zero n m f = fork-before_in rest i x j y zero n m (omega arith)
  fork-before_in (Then first rest) (suc i) x (suc j) y (suc d) n m f = fork-before_in rest i x j y (suc d) n m (cc f.0, f.1)
