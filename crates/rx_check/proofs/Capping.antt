-- Works that count as 100,001.
use Rattle.std.proofs.Common.{◌≡◌, ℕ, zero, suc, ◌+◌, ◌*◌, ◌<◌, ◌≤◌, ◌⊎◌, inl, inr, nat_lt, Bool, true, false, refl, ap, sym, ◌∙◌, arith, max, if◌then◌else◌}
use Rattle.std.proofs.lemmas.Bool.Decides.{nat_tests}
use Rattle.std.proofs.lemmas.Bool.{lt-ltb, le-ltb}
use Rattle.rx_syntax.specs.declared.nodes.Stmt.{Stmt as Node}
use Rattle.rx_syntax.specs.declared.nodes.Stmt.TheVariants.{Async as AsyncNode, AtAsync as AtAsyncNode, At as AtNode, Finish as FinishNode, If as IfNode, Repeat as RepeatNode, Try as TryNode}
use Rattle.rx_check.specs.Inside.Walk.{cap, work_with}

pub cap-over : (n : ℕ) → 100000 < n → cap n ≡ 100001
cap-over n h = ap (λ b. if b then 100001 else n) (lt-ltb 100000 n h)

pub cap-within : (n : ℕ) → n ≤ 100000 → cap n ≡ n
cap-within n h = ap (λ b. if b then 100001 else n) (le-ltb 100000 n h)

le-or : (n : ℕ) → (n ≤ 100000) ⊎ (100000 < n)
le-or n = or-else (nat_lt 100000 n) refl
  where
    or-else : (b : Bool) → nat_lt 100000 n ≡ b → (n ≤ 100000) ⊎ (100000 < n)
    or-else true e = inr (grind (arith, nat_tests))
    or-else false e = inl (grind (arith, nat_tests))

pub cap-cases : (n : ℕ) → ((n ≤ 100000) × (cap n ≡ n)) ⊎ ((100000 < n) × (cap n ≡ 100001))
cap-cases n = elim (le-or n) [ inl h ↦ inl (h, cap-within n h) | inr h ↦ inr (h, cap-over n h) ]

both-over : (m n : ℕ) → 100000 < m → 100000 < n → cap m ≡ cap n
both-over m n h k = cap-over m h ∙ sym (cap-over n k)

pub cap-same : (n : ℕ) → n ≤ 100001 → cap n ≡ n
cap-same n h = elim (cap-cases n) [ inl k ↦ k.1 | inr k ↦ omega (arith, k.0, k.1, h) ]

-- a sum of capped numbers
cap-left : (a b : ℕ) → cap (cap a + b) ≡ cap (a + b)
cap-left a b = elim (cap-cases a) [ inl h ↦ ap (λ x. cap (x + b)) h.1 | inr h ↦ both-over (cap a + b) (a + b) (omega (arith, h.1)) (omega (arith, h.0)) ]

cap-right : (a b : ℕ) → cap (a + cap b) ≡ cap (a + b)
cap-right a b = elim (cap-cases b) [ inl h ↦ ap (λ x. cap (a + x)) h.1 | inr h ↦ both-over (a + cap b) (a + b) (omega (arith, h.1)) (omega (arith, h.0)) ]

pub cap-more : (w a b : ℕ) → cap (w + (a + b)) ≡ cap (cap (w + cap a) + b)
cap-more w a b = sym (cap-left (w + cap a) b ∙ (ap cap (swap w (cap a) b) ∙ (cap-right (w + b) a ∙ ap cap (back w a b))))
  where
    swap : (w a b : ℕ) → (w + a) + b ≡ (w + b) + a
    swap w a b = omega arith

    back : (w a b : ℕ) → (w + b) + a ≡ w + (a + b)
    back w a b = omega arith

max-over-left : (m n : ℕ) → 100000 < m → 100000 < 1 + max m n
max-over-left m n h = omega arith

max-over-right : (m n : ℕ) → 100000 < n → 100000 < 1 + max m n
max-over-right m n h = omega arith

cap-max : (m n : ℕ) → cap (1 + max (cap m) (cap n)) ≡ cap (1 + max m n)
cap-max m n =
    elim (cap-cases m) [
      | inl h ↦
          elim (cap-cases n) [
            | inl k ↦ ap (λ x. cap (1 + max x (cap n))) h.1 ∙ ap (λ x. cap (1 + max m x)) k.1
            | inr k ↦ both-over (1 + max (cap m) (cap n)) (1 + max m n) (max-over-right (cap m) (cap n) (omega (arith, k.1))) (max-over-right m n k.0)
          ]
      | inr h ↦ both-over (1 + max (cap m) (cap n)) (1 + max m n) (max-over-left (cap m) (cap n) (omega (arith, h.1))) (max-over-left m n h.0)
    ]

many-over : (k m : ℕ) → 100000 < m → 100000 < 1 + suc k * (1 + m)
many-over k m h = omega arith

none-same : (m n : ℕ) → cap (1 + zero * (1 + m)) ≡ cap (1 + zero * (1 + n))
none-same m n = ap cap (same m n)
  where
    same : (m n : ℕ) → 1 + zero * (1 + m) ≡ 1 + zero * (1 + n)
    same m n = omega arith

cap-times : (k m : ℕ) → cap (1 + k * (1 + cap m)) ≡ cap (1 + k * (1 + m))
cap-times zero m = none-same (cap m) m
cap-times (suc k) m =
    elim (cap-cases m) [
      | inl h ↦ ap (λ x. cap (1 + suc k * (1 + x))) h.1
      | inr h ↦ both-over (1 + suc k * (1 + cap m)) (1 + suc k * (1 + m)) (many-over k (cap m) (omega (arith, h.1))) (many-over k m h.0)
    ]

cap-two : (m n : ℕ) → cap (1 + cap m + cap n) ≡ cap (1 + m + n)
cap-two m n = cap-right (1 + cap m) n ∙ (ap cap (swap m n) ∙ (cap-right (1 + n) m ∙ ap cap (back m n)))
  where
    swap : (m n : ℕ) → 1 + cap m + n ≡ (1 + n) + cap m
    swap m n = omega arith

    back : (m n : ℕ) → (1 + n) + m ≡ 1 + m + n
    back m n = omega arith

-- the work of a statement by the capped work of its blocks
pub cap-with : (node : Node) (m n : ℕ) → cap (work_with node (cap m) (cap n)) ≡ cap (work_with node m n)
cap-with (AsyncNode body) m n = cap-right 1 m
cap-with (AtAsyncNode place body) m n = cap-right 1 m
cap-with (AtNode place body) m n = cap-right 1 m
cap-with (FinishNode body) m n = cap-right 1 m
cap-with (IfNode test first other) m n = cap-max m n
cap-with (RepeatNode times body) m n = cap-times times m
cap-with (TryNode body dead_only handler) m n = cap-two m n
cap-with _ m n = refl
