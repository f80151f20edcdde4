-- Pairs of two lists, and journals by their places.
use Rattle.std.proofs.Common.{◌≡◌, ◌≢◌, ℕ, zero, suc, ◌+◌, ◌<◌, ◌≤◌, List, [], ◌∷◌, ◌++◌, length, slice_get, slice_set, Some, refl, ap, subst, arith}
use Rattle.rx_rules.specs.declared.events.PlaceEvent.{PlaceEvent}
use Rattle.rx_rules.proofs.Common.{journal_at}
use Rattle.rx_runs.specs.Games.{Pairs}

pub pairs-map : {A B : Type 0} {P Q : ℕ → A → B → Type 0} (n : ℕ) (xs : List A) (ys : List B) → ((m : ℕ) (a : A) (b : B) → n ≤ m → m < n + length xs → P m a b → Q m a b) → Pairs P n xs ys → Pairs Q n xs ys
pairs-map n [] [] f h = tt
pairs-map n (a ∷ xs) (b ∷ ys) f h = (f n a b (omega arith) (omega arith) h.0, pairs-map (suc n) xs ys (λ m c d le low p. f m c d (omega arith) (omega arith) p) h.1)
pairs-map n [] (b ∷ ys) f h = h
pairs-map n (a ∷ xs) [] f h = h

pub pairs-set : {A B : Type 0} {P Q : ℕ → A → B → Type 0} (n k : ℕ) (xs : List A) (ys : List B) (a : A) (b : B) → ((m : ℕ) (c : A) (d : B) → n + k ≢ m → m < n + length xs → P m c d → Q m c d) → Q (n + k) a b → Pairs P n xs ys → Pairs Q n (slice_set xs k a) (slice_set ys k b)
pairs-set n k [] [] a b f q h = tt
pairs-set {Q = Q} n zero (c ∷ xs) (d ∷ ys) a b f q h =
    let z : n + 0 ≡ n = omega arith in
    (subst (λ (i : ℕ). Q i a b) z q, pairs-map (suc n) xs ys (λ m c d le low p. f m c d (λ e. omega arith) (omega arith) p) h.1)
pairs-set {Q = Q} n (suc k) (c ∷ xs) (d ∷ ys) a b f q h =
    let z : n + suc k ≡ suc n + k = omega arith in
    (f n c d (λ e. omega arith) (omega arith) h.0, pairs-set (suc n) k xs ys a b (λ m c d o low p. f m c d (λ e. o (omega arith)) (omega arith) p) (subst (λ (i : ℕ). Q i a b) z q) h.1)
pairs-set n k [] (d ∷ ys) a b f q h = absurd h
pairs-set n k (c ∷ xs) [] a b f q h = absurd h

pub pairs-push : {A B : Type 0} (P : ℕ → A → B → Type 0) (n : ℕ) (xs : List A) (ys : List B) (a : A) (b : B) → P (n + length xs) a b → Pairs P n xs ys → Pairs P n (xs ++ a ∷ []) (ys ++ b ∷ [])
pairs-push P n [] [] a b q h = let z : n + 0 ≡ n = omega arith in (subst (λ (i : ℕ). P i a b) z q, tt)
pairs-push P n (c ∷ xs) (d ∷ ys) a b q h =
    let z : n + length (c ∷ xs) ≡ suc n + length xs = omega arith in
    (h.0, pairs-push P (suc n) xs ys a b (subst (λ (i : ℕ). P i a b) z q) h.1)
pairs-push P n [] (d ∷ ys) a b q h = absurd h
pairs-push P n (c ∷ xs) [] a b q h = absurd h

pub record Both {A B : Type 0} (P : ℕ → A → B → Type 0) (n k : ℕ) (xs : List A) (ys : List B) : Type 0 where
  pub left : A
  pub right : B
  pub at_left : slice_get xs k ≡ Some left
  pub at_right : slice_get ys k ≡ Some right
  pub holds : P (n + k) left right

pub pairs-get : {A B : Type 0} {P : ℕ → A → B → Type 0} (n k : ℕ) (xs : List A) (ys : List B) → k < length xs → Pairs P n xs ys → Both P n k xs ys
pairs-get n k [] ys low h = absurd (omega arith)
pairs-get n k (c ∷ xs) [] low h = absurd h
pairs-get {P = P} n zero (c ∷ xs) (d ∷ ys) low h =
    let z : n ≡ n + 0 = omega arith in
    record { left = c; right = d; at_left = refl; at_right = refl; holds = subst (λ (i : ℕ). P i c d) z h.0 }
pairs-get {P = P} n (suc k) (c ∷ xs) (d ∷ ys) low h =
    let z : suc n + k ≡ n + suc k = omega arith in
    let more = pairs-get (suc n) k xs ys (omega arith) h.1 in
    record { left = more.left; right = more.right; at_left = more.at_left; at_right = more.at_right; holds = subst (λ (i : ℕ). P i more.left more.right) z more.holds }

pub pairs-length : {A B : Type 0} (P : ℕ → A → B → Type 0) (n : ℕ) (xs : List A) (ys : List B) → Pairs P n xs ys → length xs ≡ length ys
pairs-length P n [] [] h = refl
pairs-length P n (c ∷ xs) (d ∷ ys) h = ap suc (pairs-length P (suc n) xs ys h.1)
pairs-length P n [] (d ∷ ys) h = absurd h
pairs-length P n (c ∷ xs) [] h = absurd h

pub set_same : {X : Type 0} (xs : List X) (k : ℕ) (x : X) → slice_get xs k ≡ Some x → slice_set xs k x ≡ xs
set_same [] k x h = refl
set_same (y ∷ ys) zero x h = let e : x ≡ y = cc in ap (λ z. z ∷ ys) e
set_same (y ∷ ys) (suc k) x h = ap (λ zs. y ∷ zs) (set_same ys k x h)

pub journal_got : (js : List (List PlaceEvent)) (k : ℕ) (j : List PlaceEvent) → slice_get js k ≡ Some j → journal_at js k ≡ j
journal_got [] k j h = cc
journal_got (i ∷ js) zero j h = cc
journal_got (i ∷ js) (suc k) j h = journal_got js k j h

pub journal_same : (js : List (List PlaceEvent)) (k : ℕ) (j : List PlaceEvent) → k < length js → journal_at (slice_set js k j) k ≡ j
journal_same [] k j low = absurd (omega arith)
journal_same (i ∷ js) zero j low = refl
journal_same (i ∷ js) (suc k) j low = journal_same js k j (omega arith)

pub journal_other : (js : List (List PlaceEvent)) (k p : ℕ) (j : List PlaceEvent) → k ≢ p → journal_at (slice_set js k j) p ≡ journal_at js p
journal_other [] k p j o = refl
journal_other (i ∷ js) zero zero j o = absurd (o refl)
journal_other (i ∷ js) zero (suc p) j o = refl
journal_other (i ∷ js) (suc k) zero j o = refl
journal_other (i ∷ js) (suc k) (suc p) j o = journal_other js k p j (λ e. o (ap suc e))
