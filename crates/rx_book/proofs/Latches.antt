-- Each step on the lock keeps its rule.
use Rattle.std.proofs.Common.{◌⊎◌, ◌≡◌, ◌≢◌, ℕ, zero, suc, ◌<◌, eqb, Option, Some, None, List, [], ◌∷◌, set, slice_index, refl, ap, sym, ◌∙◌, arith, subst, ⊎_elim, inl, inr, slice_set}
use mathlib.Core.Option.{none, some, some-ne-none}
use prog.Atomic.{either}
use lib.ListN.{get_elem?}
use Rattle.rx_base.proofs.Elements.{one-word, set-one, set-one-again}
use Rattle.atomic_table.specs.Table.{State, Act, keeps, takes, gives, step, stepped, carried_after, Valid, Allows, Enters}
use Rattle.atomic_table.proofs.Lists.{at_set, at_snoc, at_longer, set_here, set_again, exchanged}
use Rattle.rx_book.specs.declared.steps.Hand.{Hand}
use Rattle.rx_book.specs.Latched.{idle, holding, closing, SaysOut, IsOut, Emptied, AtHome, KnowsTheLock, Latched, Took, Sat, Marked, Ends}

set_at : {A : Type 0} (l : List A) (i : ℕ) (a b : A) → get_elem? l i ≡ some b → get_elem? (set l i a) i ≡ some a
set_at [] i a b e = absurd (some-ne-none b (sym e))
set_at (x ∷ xs) zero a b e = refl
set_at (x ∷ xs) (suc i) a b e = set_at xs i a b e

out_written : (ws : List ℕ) (b : ℕ) → SaysOut ws → slice_set ws 0 b ≡ b ∷ []
out_written ws b o = ⊎_elim (set-one ws 1 b) (set-one ws 2 b) o

-- the word of a value that is out is 1 or 2
no_other : (ws : List ℕ) (a : ℕ) → SaysOut ws → ws ≡ a ∷ [] → (a ≢ 1) → (a ≢ 2) → ⊥
no_other ws a o p n1 n2 = ⊎_elim (λ (q : ws ≡ 1 ∷ []). n1 (sym (one-word ws a p) ∙ one-word ws 1 q)) (λ (q : ws ≡ 2 ∷ []). n2 (sym (one-word ws a p) ∙ one-word ws 2 q)) o

module _ {T K : Type 0} (holds : K → T → Type 0) where
  abbrev St : Type 0
  St = State (Option T) (Hand K)

  pub sits : (k : K) (slots : ℕ) → Enters (Latched holds k) slots 0 (λ n w. Sat {T = T} (step slots 0 0 0 none) (idle k, []) n (w, []))
  sits k slots s r _ _ = (
    idle k,
    (r.0, ⊎_elim (λ (h : AtHome holds k s). inl h) (λ (t : IsOut k r.0 s ⊎ Emptied s). inr (⊎_elim (λ (o : IsOut k r.0 s). inl (o.0, at_longer s.views (idle k ∷ []) r.0 (holding k) o.1)) (λ (c : Emptied s). inr c) t)) r.1, λ id h e. ⊎_elim (r.2 id h) (λ (same : idle k ≡ h). subst (λ (z : Hand K). KnowsTheLock holds k r.0 s id z) same (refl, (λ e. absurd (cc e)), λ e. absurd (cc e))) (at_snoc s.views (idle k) h id e)),
    refl,
  )

  not_home : (ws : List ℕ) → SaysOut ws → ws ≡ 0 ∷ [] → ⊥
  not_home ws o p = no_other ws 0 o p (λ e. omega arith) (λ e. omega arith)

  not_closed : (ws : List ℕ) → SaysOut ws → ws ≡ 3 ∷ [] → ⊥
  not_closed ws o p = no_other ws 3 o p (λ e. omega arith) (λ e. omega arith)

  -- there is one word
  alone : (k : K) (s : St) → Latched holds k s → (a : ℕ) × (s.words ≡ a ∷ [])
  alone k s r = ⊎_elim (λ (h : AtHome holds k s). (0, h.0)) (λ t. ⊎_elim (λ (o : IsOut k r.0 s). ⊎_elim (λ (q : s.words ≡ 1 ∷ []). (1, q)) (λ (q : s.words ≡ 2 ∷ []). (2, q)) o.0) (λ (c : Emptied s). (3, c.0)) t) r.1

  -- where the word is 0 the value is at home
  at_rest : (k : K) (s : St) → Latched holds k s → slice_index s.words 0 ≡ 0 → AtHome holds k s
  at_rest k s r e =
      let w = alone k s r in
      let p : s.words ≡ 0 ∷ [] = w.1 ∙ ap (λ (n : ℕ). n ∷ []) (sym (one-word s.words w.0 w.1) ∙ e) in
      ⊎_elim (λ h. h) (λ t. absurd (⊎_elim (λ (o : IsOut k r.0 s). not_home s.words o.0 p) (λ (c : Emptied s). cc (sym c.0 ∙ p)) t)) r.1

  -- where the word is 1 the value is out
  is_out : (k : K) (s : St) (r : Latched holds k s) → slice_index s.words 0 ≡ 1 → (s.words ≡ 1 ∷ []) × IsOut k r.0 s
  is_out k s r e =
      let w = alone k s r in
      let p : s.words ≡ 1 ∷ [] = w.1 ∙ ap (λ (n : ℕ). n ∷ []) (sym (one-word s.words w.0 w.1) ∙ e) in
      (p, ⊎_elim (λ (h : AtHome holds k s). absurd (cc (sym h.0 ∙ p))) (λ t. ⊎_elim (λ o. o) (λ (c : Emptied s). absurd (cc (sym c.0 ∙ p))) t) r.1)

  -- a step that changes nothing
  stays : (k : K) (id : ℕ) (s : St) → Latched holds k s → get_elem? s.views id ≡ some (idle k) → Latched holds k (stepped s 0 (slice_index s.words 0) id [] (idle k) keeps)
  stays k id s r at =
      let w = alone k s r in
      let same = set-one-again s.words w.0 w.1 in
      let still : set s.views id (idle k) ≡ s.views = set_again s.views id (idle k) at in
      subst (Latched holds k) (λ i. record { words = sym same i; homes = s.homes; views = sym still i }) r

  pub locks : (k : K) (slots id b : ℕ) → SaysOut (b ∷ []) → Allows (Latched holds k) slots id (idle k, []) 0 (λ n. either (eqb n 0) b n) (Took holds (step slots 0 0 b none) (idle k, []))
  locks k slots id b out s r count at _ = exchanged (slice_index s.words 0) 0 b Goal hit miss
    where
      Goal : ℕ → Type 0
      Goal m = (w : Hand K) × (a : Act (Option T)) × Valid s.homes [] a × Latched holds k (stepped s 0 m id [] w a) × Took holds (step slots 0 0 b none) (idle k, []) (slice_index s.words 0) (w, carried_after [] a)

      hit : slice_index s.words 0 ≡ 0 → Goal b
      hit e =
          let h = at_rest k s r e in
          let x : T = h.1.0 in
          let now : SaysOut (slice_set s.words 0 b) = subst SaysOut (sym (set-one s.words 0 b h.0)) out in (
            holding k,
            takes 0 (Some x),
            h.1.2,
            (
              id,
              inr (inl (now, set_at s.views id (holding k) (idle k) at)),
              λ j u e'. ⊎_elim
                  (λ (t : (j ≡ id) × (holding k ≡ u)). subst (λ (z : ℕ × Hand K). KnowsTheLock holds k id (stepped s 0 b id [] (holding k) (takes 0 (Some x))) z.0 z.1) (λ i. (sym t.0 i, t.1 i)) (refl, (λ _. (now, refl)), λ e. absurd (cc e)))
                  (λ (t : (j ≢ id) × (get_elem? s.views j ≡ some u)). let o = r.2 j u t.1 in (o.0, (λ a. absurd (not_home s.words (o.1 a).0 h.0)), λ c. absurd (cc (sym h.0 ∙ (o.2 c).0))))
                  (at_set s.views id j (holding k) u e'),
            ),
            ((λ _. (refl, (x, h.1.1, refl))), λ ne. absurd (ne e)),
          )

      miss : slice_index s.words 0 ≢ 0 → Goal (slice_index s.words 0)
      miss ne = (idle k, keeps, tt, stays k id s r at, ((λ e. absurd (ne e)), λ _. refl))

  pub marks : (k : K) (slots id : ℕ) → Allows (Latched holds k) slots id (idle k, []) 0 (λ n. either (eqb n 1) 2 n) (Marked (step slots 0 1 2 none) (idle k, []))
  marks k slots id s r count at _ = exchanged (slice_index s.words 0) 1 2 Goal hit miss
    where
      Goal : ℕ → Type 0
      Goal m = (w : Hand K) × (a : Act (Option T)) × Valid s.homes [] a × Latched holds k (stepped s 0 m id [] w a) × Marked (step slots 0 1 2 none) (idle k, []) (slice_index s.words 0) (w, carried_after [] a)

      hit : slice_index s.words 0 ≡ 1 → Goal 2
      hit e =
          let o = is_out k s r e in
          let now : SaysOut (slice_set s.words 0 2) = inr (set-one s.words 1 2 o.0) in
          let still : set s.views id (idle k) ≡ s.views = set_again s.views id (idle k) at in (
            idle k,
            keeps,
            tt,
            subst (λ (vs : List (Hand K)). Latched holds k record { words = slice_set s.words 0 2; homes = s.homes; views = vs }) (sym still)
                (r.0, inr (inl (now, o.1.1)), λ j u e'. let h = r.2 j u e' in (h.0, (λ a. (now, (h.1 a).1)), λ c. absurd (cc (sym o.0 ∙ (h.2 c).0)))),
            refl,
          )

      miss : slice_index s.words 0 ≢ 1 → Goal (slice_index s.words 0)
      miss ne = (idle k, keeps, tt, stays k id s r at, refl)

  -- who has the lock ends it
  module _ (k : K) (slots id : ℕ) (s : St) (r : Latched holds k s) (at : get_elem? s.views id ≡ some (holding k)) where
    mine : SaysOut s.words × (id ≡ r.0)
    mine = (r.2 id (holding k) at).1 refl

    others : (s' : St) (w : Hand K) → KnowsTheLock holds k r.0 s' id w → (j : ℕ) (u : Hand K) → get_elem? (set s.views id w) j ≡ some u → KnowsTheLock holds k r.0 s' j u
    others s' w new j u e = ⊎_elim
        (λ (t : (j ≡ id) × (w ≡ u)). subst (λ (z : ℕ × Hand K). KnowsTheLock holds k r.0 s' z.0 z.1) (λ i. (sym t.0 i, t.1 i)) new)
        (λ (t : (j ≢ id) × (get_elem? s.views j ≡ some u)). let o = r.2 j u t.1 in (o.0, (λ a. absurd (t.0 ((o.1 a).1 ∙ sym mine.1))), λ c. absurd (not_closed s.words mine.0 (o.2 c).0)))
        (at_set s.views id j w u e)

  pub unlocks : (k : K) (slots id : ℕ) (x : T) → 0 < slots → holds k x → Allows (Latched holds k) slots id (holding k, (0, Some x) ∷ []) 0 (λ _. 0) (Ends idle (step slots 0 0 0 none) (holding k, (0, Some x) ∷ []))
  unlocks k slots id x one fits s r count at _ =
      let s' : St = stepped s 0 0 id ((0, Some x) ∷ []) (idle k) gives in
      let m = mine k slots id s r at in (
        idle k,
        gives,
        tt,
        (r.0, inl (out_written s.words 0 m.0, (x, fits, set_here s.homes 0 (some (Some x)) (omega (arith, count)))), others k slots id s r at s' (idle k) (refl, (λ e. absurd (cc e)), λ e. absurd (cc e))),
        refl,
      )

  pub closes : (k : K) (slots id : ℕ) → 0 < slots → Allows (Latched holds k) slots id (holding k, (0, None) ∷ []) 0 (λ _. 3) (λ _. Ends closing (step slots 0 3 0 none) (holding k, (0, None) ∷ []) 3)
  closes k slots id one s r count at _ =
      let s' : St = stepped s 0 3 id ((0, None) ∷ []) (closing k) gives in
      let m = mine k slots id s r at in
      let empty : Emptied s' = (out_written s.words 3 m.0, set_here s.homes 0 (some None) (omega (arith, count))) in (
        closing k,
        gives,
        tt,
        (r.0, inr (inr empty), others k slots id s r at s' (closing k) (refl, (λ e. absurd (cc e)), λ _. empty)),
        refl,
      )
