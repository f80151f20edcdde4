-- The statements that were begun so far beside a batch, where one more is begun.
use Rattle.std.proofs.Common.{◌≡◌, ℕ, suc, ◌+◌, ◌<◌, Bool, true, false, List, [], ◌∷◌, ◌++◌, length, take, Option, Some, None, slice_get, refl, ap, sym, ◌∙◌, arith, append_assoc, append-nil}
use Rattle.std.proofs.lemmas.Bool.{true≢false}
use Rattle.std.proofs.lemmas.List.{length-take-le}
use Rattle.rx_base.proofs.Elements.{get-last, get-more}
use Rattle.rx_rules.proofs.Common.{begun, Term, begins}
use Rattle.rx_verify.specs.declared.along.Along.{Along}
use Rattle.rx_verify.specs.Along.{GoesAlong}
use Rattle.rx_kills.proofs.Dying.{take-next}

-- behind a front and an item
behind : {A : Type 0} (xs ys more : List A) (x : A) (n : ℕ) → length xs ≡ n → ys ≡ (xs ++ x ∷ []) ++ more → slice_get ys n ≡ Some x
behind xs ys more x n size e = ap (λ l. slice_get l n) e ∙ get-more (xs ++ x ∷ []) more n x (get-last xs x n (sym size))

module _ (batch so_far : List (List ℕ)) (a : Along) (g : GoesAlong batch a so_far) where
  size : a.same ≡ true → length so_far ≡ a.count
  size s = ap (λ (l : List (List ℕ)). length l) (g.same s) ∙ length-take-le a.count batch g.few

  -- the next of the batch is begun
  pub goes_on : (x : List ℕ) → a.same ≡ true → slice_get a.paths.now a.count ≡ Some x → a.count < length a.paths.now → GoesAlong batch (record a { count = a.count + 1 }) (so_far ++ x ∷ [])
  goes_on x s at inside =
      let here : slice_get batch a.count ≡ Some x = ap (λ (l : List (List ℕ)). slice_get l a.count) (sym g.paths) ∙ at in
      let long : length a.paths.now ≡ length batch = ap (λ (l : List (List ℕ)). length l) g.paths in
      let next : suc a.count ≡ a.count + 1 = omega arith in
      record {
        paths = g.paths;
        few = omega (arith, inside, long);
        same = λ t. ap (λ (l : List (List ℕ)). l ++ x ∷ []) (g.same s) ∙ (sym (take-next batch a.count x here) ∙ ap (λ (n : ℕ). take n batch) next);
        other = λ f. absurd (true≢false (sym s ∙ f));
      }

  -- another is begun, or one more than the batch has
  pub parts : (x : List ℕ) → (a.same ≡ true → slice_get a.paths.now a.count ≡ Some x → ⊥) → GoesAlong batch (record a { same = false }) (so_far ++ x ∷ [])
  parts x wrong =
      record {
        paths = g.paths;
        few = g.few;
        same = λ t. absurd (true≢false (sym t));
        other = λ f more e. by_same a.same refl more e;
      }
    where
      by_same : (b : Bool) → a.same ≡ b → (more : List (List ℕ)) → batch ≡ (so_far ++ x ∷ []) ++ more → ⊥
      by_same false s more e = g.other s (x ∷ more) (e ∙ append_assoc so_far (x ∷ []) more)
      by_same true s more e = wrong s (ap (λ (l : List (List ℕ)). slice_get l a.count) g.paths ∙ behind so_far batch more x a.count (size s) e)

  -- the whole batch is a front that goes to its end
  pub whole_only : batch ≡ so_far → (a.same ≡ true) × (a.count ≡ length a.paths.now)
  whole_only e = by_same a.same refl where
    by_same : (b : Bool) → a.same ≡ b → (a.same ≡ true) × (a.count ≡ length a.paths.now)
    by_same false s = absurd (g.other s [] (e ∙ sym (append-nil so_far)))
    by_same true s =
        let long : length a.paths.now ≡ length batch = ap (λ (l : List (List ℕ)). length l) g.paths in
        let same : length batch ≡ length so_far = ap (λ (l : List (List ℕ)). length l) e in
        let many = size s in
        (s, omega (arith, long, same, many))

pub begun_none : (t : Term) (so_far : List (List ℕ)) → begins t ≡ None → begun t so_far ≡ so_far
begun_none t so_far b = ap (λ (o : Option (List ℕ)). elim o as (λ _. List (List ℕ)) [ Some w ↦ so_far ++ w ∷ [] | None ↦ so_far ]) b
