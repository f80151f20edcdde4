-- The items of a term by their paths: a waiter of what a term has to begin is to be begun itself, or an item lies in it.
use Rattle.std.proofs.Common.{◌≡◌, ◌⊎◌, ℕ, true, List, [], ◌∷◌, ◌++◌, Some, refl, ap, sym, subst, ◌∙◌, arith, inl, inr}
use Rattle.std.proofs.lemmas.Bool.{true≢false}
use Rattle.rx_rules.proofs.Common.{Block, Stmt, Term, Empty, Run, Raise, Turns, Trying, Body, Held, at}
use Rattle.rx_history_laws.proofs.Straight.{code_at, is_waiter}
use Rattle.rx_history_laws.proofs.Paths.{Starts, starts-same, starts-trans, starts-at}
use Rattle.rx_history_laws.proofs.TermOrder.{Todo}
use Rattle.rx_history_laws.proofs.TermCode.{Coded, Idle}

abbrev pub Head : Term → List ℕ → Type 0
Head Empty h = ⊥
Head (Raise faults) h = ⊥
Head (Run stmt z rest) h = (h ≡ z) ⊎ Head rest h
Head (Turns body z k times rest) h = (h ≡ z) ⊎ Head rest h
Head (Trying inside dead_only handler z rest) h = Head inside h ⊎ ((h ≡ z) ⊎ Head rest h)
Head (Body inside rest) h = Head inside h ⊎ Head rest h
Head (Held rest) h = Head rest h

-- each item has something to begin
pub head-begins : (t : Term) (h : List ℕ) → Head t h → (y : List ℕ) × Todo t y × Starts h y
head-begins Empty h k = absurd k
head-begins (Raise faults) h k = absurd k
head-begins (Run stmt z rest) h (inl e) = (z, inl (starts-same z), subst (λ v. Starts v z) (sym e) (starts-same z))
head-begins (Run stmt z rest) h (inr k) = let r = head-begins rest h k in (r.0, inr r.1, r.2)
head-begins (Turns b z k times rest) h (inl e) = (at z k, inl (k, omega arith, starts-same (at z k)), subst (λ v. Starts v (at z k)) (sym e) (starts-at z k))
head-begins (Turns b z k times rest) h (inr m) = let r = head-begins rest h m in (r.0, inr r.1, r.2)
head-begins (Trying inside dead_only handler z rest) h (inl k) = let r = head-begins inside h k in (r.0, inl r.1, r.2)
head-begins (Trying inside dead_only handler z rest) h (inr (inl e)) = (at z 1, inr (inl (starts-same (at z 1))), subst (λ v. Starts v (at z 1)) (sym e) (starts-at z 1))
head-begins (Trying inside dead_only handler z rest) h (inr (inr k)) = let r = head-begins rest h k in (r.0, inr (inr r.1), r.2)
head-begins (Body inside rest) h (inl k) = let r = head-begins inside h k in (r.0, inl r.1, r.2)
head-begins (Body inside rest) h (inr k) = let r = head-begins rest h k in (r.0, inr r.1, r.2)
head-begins (Held rest) h k = head-begins rest h k

-- an item that lies within x, on the way to w
pub record HeadIn (code : Block) (t : Term) (x w : List ℕ) : Type 0 where
  pub head : List ℕ
  pub is_head : Head t head
  pub begins : Starts head w
  pub next : ℕ
  pub rest : List ℕ
  pub way : head ≡ x ++ next ∷ rest
  pub stmt : Stmt
  pub at : code_at code head ≡ Some stmt

-- of two paths on the way to one, the one begins with the other
pub compare : (h x : List ℕ) (i : ℕ) (y : List ℕ) → Starts h (x ++ i ∷ y) → Starts h x ⊎ ((j : ℕ) × (r : List ℕ) × (h ≡ x ++ j ∷ r))
compare [] x i y s = inl tt
compare (k ∷ h) [] i y s = inr (k, h, refl)
compare (k ∷ h) (m ∷ x) i y s =
    elim (compare h x i y s.1) [
      | inl c ↦ inl (s.0, c)
      | inr c ↦ inr (c.0, c.1, ap (λ l. k ∷ l) c.2 ∙ ap (λ v. v ∷ (x ++ c.0 ∷ c.1)) s.0)
    ]

compare-at : (z x : List ℕ) (m i : ℕ) (y : List ℕ) → Starts (at z m) (x ++ i ∷ y) → (x ≡ z) ⊎ (Starts (at z m) x ⊎ ((j : ℕ) × (r : List ℕ) × (z ≡ x ++ j ∷ r)))
compare-at [] [] m i y s = inl refl
compare-at [] (k ∷ x) m i y s = inr (inl (s.0, tt))
compare-at (k ∷ z) [] m i y s = inr (inr (k, z, refl))
compare-at (k ∷ z) (l ∷ x) m i y s =
    elim (compare-at z x m i y s.1) [
      | inl c ↦ inl (ap (λ v. v ∷ x) (sym s.0) ∙ ap (λ r. k ∷ r) c)
      | inr (inl c) ↦ inr (inl (s.0, c))
      | inr (inr c) ↦ inr (inr (c.0, c.1, ap (λ r. k ∷ r) c.2 ∙ ap (λ v. v ∷ (x ++ c.0 ∷ c.1)) s.0))
    ]

wider : (code : Block) (t u : Term) (x w : List ℕ) → ((h : List ℕ) → Head t h → Head u h) → HeadIn code t x w → HeadIn code u x w
wider code t u x w f h =
    record { head = h.head; is_head = f h.head h.is_head; begins = h.begins; next = h.next; rest = h.rest; way = h.way; stmt = h.stmt; at = h.at }

-- a waiter is no idle statement
idle-other : (code : Block) (x z : List ℕ) (u : Stmt) → code_at code x ≡ Some u → is_waiter u ≡ true → Idle code z → x ≡ z → ⊥
idle-other code x z u e w idle same =
    let found : code_at code z ≡ Some u = subst (λ v. code_at code v ≡ Some u) same e in
    let one : Some idle.0 ≡ Some u = sym idle.1 ∙ found in
    let it : idle.0 ≡ u = cc in
    true≢false (sym w ∙ ap is_waiter (sym it) ∙ idle.2)

module _ (code : Block) (x : List ℕ) (i : ℕ) (y : List ℕ) (u : Stmt) (e : code_at code x ≡ Some u) (w : is_waiter u ≡ true) where
  -- where the item at z holds the way by its part m
  in_part : (z : List ℕ) (m : ℕ) → Idle code z → Starts (at z m) (x ++ i ∷ y) → (t : Term) → Head t z → (Starts (at z m) x → Todo t x) → Todo t x ⊎ HeadIn code t x (x ++ i ∷ y)
  in_part z m idle s t here todo =
      elim (compare-at z x m i y s) [
        | inl c ↦ absurd (idle-other code x z u e w idle c)
        | inr (inl c) ↦ inl (todo c)
        | inr (inr c) ↦ inr (record { head = z; is_head = here; begins = starts-trans z (at z m) (x ++ i ∷ y) (starts-at z m) s; next = c.0; rest = c.1; way = c.2; stmt = idle.0; at = idle.1 })
      ]

  later_part : (t rest : Term) → ((v : List ℕ) → Todo rest v → Todo t v) → ((h : List ℕ) → Head rest h → Head t h) → Todo rest x ⊎ HeadIn code rest x (x ++ i ∷ y) → Todo t x ⊎ HeadIn code t x (x ++ i ∷ y)
  later_part t rest f g (inl h) = inl (f x h)
  later_part t rest f g (inr h) = inr (wider code rest t x (x ++ i ∷ y) g h)

  pub todo-head : (t : Term) → Coded code t → Todo t (x ++ i ∷ y) → Todo t x ⊎ HeadIn code t x (x ++ i ∷ y)
  todo-head Empty c h = absurd h
  todo-head (Raise faults) c h = absurd h
  todo-head (Run stmt z rest) c (inl h) =
      elim (compare z x i y h) [
        | inl s ↦ inl (inl s)
        | inr s ↦ inr (record { head = z; is_head = inl refl; begins = h; next = s.0; rest = s.1; way = s.2; stmt = stmt; at = c.0 })
      ]
  todo-head (Run stmt z rest) c (inr h) = later_part (Run stmt z rest) rest (λ v k. inr k) (λ v k. inr k) (todo-head rest c.1 h)
  todo-head (Turns b z k times rest) c (inl h) = in_part z h.0 c.2 h.2 (Turns b z k times rest) (inl refl) (λ s. inl (h.0, h.1, s))
  todo-head (Turns b z k times rest) c (inr h) = later_part (Turns b z k times rest) rest (λ v l. inr l) (λ v l. inr l) (todo-head rest c.1 h)
  todo-head (Trying inside dead_only handler z rest) c (inl h) = later_part (Trying inside dead_only handler z rest) inside (λ v k. inl k) (λ v k. inl k) (todo-head inside c.0 h)
  todo-head (Trying inside dead_only handler z rest) c (inr (inl h)) = in_part z 1 c.3 h (Trying inside dead_only handler z rest) (inr (inl refl)) (λ s. inr (inl s))
  todo-head (Trying inside dead_only handler z rest) c (inr (inr h)) = later_part (Trying inside dead_only handler z rest) rest (λ v k. inr (inr k)) (λ v k. inr (inr k)) (todo-head rest c.2 h)
  todo-head (Body inside rest) c (inl h) = later_part (Body inside rest) inside (λ v k. inl k) (λ v k. inl k) (todo-head inside c.0 h)
  todo-head (Body inside rest) c (inr h) = later_part (Body inside rest) rest (λ v k. inr k) (λ v k. inr k) (todo-head rest c.1 h)
  todo-head (Held rest) c h = later_part (Held rest) rest (λ v k. k) (λ v k. k) (todo-head rest c h)
