-- All tasks of a run side by side: what each has to begin no other has, nor is it ahead of what another has.
use Rattle.std.proofs.Common.{◌≡◌, false, ℕ, suc, ◌<◌, ◌≤◌, cond, ◌==◌, List, [], ◌∷◌, ◌++◌, refl, sym, subst, ◌∙◌, arith, inl, inr}
use Rattle.std.proofs.lemmas.Bool.{false_from_ne_true, eqb-true, eq-eqb, ne_eqb, cond_both, true≢false}
use Rattle.rx_rules.proofs.Common.{TaskId, Term, Vars, moves_from, own_path, Block}
use Rattle.rx_rules.specs.declared.entries.Act.{Act}
use Rattle.rx_rules.specs.declared.entries.Entry.{Entry}
use Rattle.rx_rules.specs.declared.entries.Entry.TheVariants.{Step}
use Rattle.rx_history_laws.proofs.TermOrder.{todo-starts, Todo, Sorted, Shrinks}
use Rattle.rx_history_laws.proofs.Straight.{comes_ahead}
use Rattle.rx_history_laws.proofs.Barriers.{comes_ahead-below}
use Rattle.rx_history_laws.proofs.TermCode.{Coded}
use Rattle.rx_history_laws.proofs.Paths.{Starts, Comes, comes-not_starts, starts-trans, starts-not_below, below-comes, comes-not_below}
use Rattle.rx_history_laws.proofs.NestedTerm.{Nested}
use Rattle.rx_history_laws.proofs.Stacks.{open_paths, outermost, stack_after, Stacked, stacked-after, stacked-starts}
use Rattle.rx_history_laws.proofs.Says.{Says, ChildOf, same_path}

-- k tasks are born, and task c has the term `term_at c`
pub record Shape (code : Block) (past : List Entry) (k : ℕ) (term_at : ℕ → Term) : Type 0 where
  pub sorted : (c : ℕ) → c < k → Sorted (term_at c)
  -- the items of each term are the script's
  pub coded : (c : ℕ) → c < k → Coded code (term_at c)
  -- no task has to begin what is ahead, by one task's own order, of what another has to begin
  pub ahead : (c d : ℕ) (x y : List ℕ) → c < k → d < k → (c ≡ d → ⊥) → Todo (term_at c) x → Todo (term_at d) y → comes_ahead code x y ≡ false
  -- the scopes that a task has opened and not released stand in its term
  pub nested : (c : ℕ) → c < k → Nested (term_at c) (outermost (open_paths past c))
  pub none_open : (c : ℕ) → k ≤ c → open_paths past c ≡ []
  -- no other task has to begin what the statement of such a scope is ahead of
  pub scope_ahead : (c d : ℕ) (x y : List ℕ) → Stacked x (open_paths past c) → d < k → (c ≡ d → ⊥) → Todo (term_at d) y → comes_ahead code x y ≡ false
  -- no statement with an open scope is still to be begun, nor is one that holds it
  pub unopened : (c d : ℕ) (x y : List ℕ) → Stacked x (open_paths past c) → d < k → Todo (term_at d) y → Starts y x → ⊥
  -- no two tasks have one statement to begin
  pub apart : (c d : ℕ) (y : List ℕ) → c < k → d < k → Todo (term_at c) y → Todo (term_at d) y → c ≡ d

abbrev pub set_at : ℕ → Term → (ℕ → Term) → ℕ → Term
set_at c t f d = cond (c == d) t (f d)

-- by cases on whether d is c
pub set_case : (P : Term → Type 0) (c d : ℕ) (t : Term) (f : ℕ → Term) → (c ≡ d → P t) → ((c ≡ d → ⊥) → P (f d)) → P (set_at c t f d)
set_case P c d t f y n =
    cond_both (c == d) t (f d) P (λ e. y (eqb-true c d e)) (λ e. n (λ k. true≢false (sym (eq-eqb c d k) ∙ e)))

-- moves of the task of the first entry, and of another

pub moves_own : (n : ℕ) (t : TaskId) (act : Act) (batch : List (List ℕ)) (es : List Entry) → moves_from n (Step t act batch ∷ es) t.0 ≡ (n, act, batch) ∷ moves_from (suc n) es t.0
moves_own n t act batch es = rw (eq-eqb t.0 t.0 refl)

pub moves_other : (n : ℕ) (t : TaskId) (act : Act) (batch : List (List ℕ)) (es : List Entry) (c : ℕ) → (t.0 ≡ c → ⊥) → moves_from n (Step t act batch ∷ es) c ≡ moves_from (suc n) es c
moves_other n t act batch es c h = rw (ne_eqb t.0 c h)

-- open scopes of the task of an entry, and of another

pub open_own : (past : List Entry) (t : TaskId) (act : Act) (batch : List (List ℕ)) → open_paths (Step t act batch ∷ past) t.0 ≡ stack_after act (open_paths past t.0)
open_own past t act batch = rw (eq-eqb t.0 t.0 refl)

open_other : (past : List Entry) (t : TaskId) (act : Act) (batch : List (List ℕ)) (c : ℕ) → (t.0 ≡ c → ⊥) → open_paths (Step t act batch ∷ past) c ≡ open_paths past c
open_other past t act batch c h = rw (ne_eqb t.0 c h)

-- by cases on whether c is the task of the entry
pub open_case : (past : List Entry) (t : TaskId) (act : Act) (batch : List (List ℕ)) (c : ℕ) (P : List (List ℕ) → Type 0) → (t.0 ≡ c → P (stack_after act (open_paths past c))) → ((t.0 ≡ c → ⊥) → P (open_paths past c)) → P (open_paths (Step t act batch ∷ past) c)
open_case past t act batch c P y n =
    cond_both (t.0 == c) (stack_after act (open_paths past c)) (open_paths past c) P (λ e. y (eqb-true t.0 c e)) (λ e. n (λ k. true≢false (sym (eq-eqb t.0 c k) ∙ e)))

-- what lies within x is not ahead of it, nor x of it
ahead_within : (code : Block) (x y : List ℕ) → Starts x y → comes_ahead code x y ≡ false
ahead_within code x y h =
    false_from_ne_true (comes_ahead code x y) (λ e. starts-not_below x y h (comes_ahead-below code x y e))

module _ (code : Block) (past : List Entry) where
  -- an entry by no task
  pub shape-host : (e : Entry) (k : ℕ) (term_at : ℕ → Term) → ((c : ℕ) → open_paths (e ∷ past) c ≡ open_paths past c) → Shape code past k term_at → Shape code (e ∷ past) k term_at
  shape-host e k term_at still s =
      record {
        sorted = s.sorted;
        apart = s.apart;
        coded = s.coded;
        ahead = s.ahead;
        nested = λ c h. rw (still c) (s.nested c h);
        none_open = λ c h. still c ∙ s.none_open c h;
        scope_ahead = λ c d x y m hd o a. s.scope_ahead c d x y (subst (Stacked x) (still c) m) hd o a;
        unopened = λ c d x y m hd a b. s.unopened c d x y (subst (Stacked x) (still c) m) hd a b;
      }

  -- a step of a task between entries
  pub shape-inner : (c : ℕ) (after : Term) (k : ℕ) (term_at : ℕ → Term) → c < k → Sorted after → Shrinks (term_at c) after → (Coded code (term_at c) → Coded code after) → ((ps : List (List ℕ)) → Nested (term_at c) ps → Nested after ps) → Shape code past k term_at → Shape code past k (set_at c after term_at)
  shape-inner c after k term_at low sorted shrinks coded nested s =
      record {
        sorted = λ d h. set_case Sorted c d after term_at (λ e. sorted) (λ o. s.sorted d h);
        apart = λ d e y hd he a b. s.apart d e y hd he (less d y a) (less e y b);
        coded = λ d h. set_case (Coded code) c d after term_at (λ e. coded (s.coded c low)) (λ o. s.coded d h);
        ahead = λ d e x y hd he o a b. s.ahead d e x y hd he o (less d x a) (less e y b);
        nested = λ d h. set_case (λ u. Nested u (outermost (open_paths past d))) c d after term_at
            (λ e. subst (λ v. Nested after (outermost (open_paths past v))) e (nested (outermost (open_paths past c)) (s.nested c low))) (λ o. s.nested d h);
        none_open = s.none_open;
        scope_ahead = λ d e x y m he o a. s.scope_ahead d e x y m he o (less e y a);
        unopened = λ d e x y m he a b. s.unopened d e x y m he (less e y a) b;
      }
    where
      less : (d : ℕ) (y : List ℕ) → Todo (set_at c after term_at d) y → Todo (term_at d) y
      less d y = set_case (λ u. Todo u y → Todo (term_at d) y) c d after term_at (λ e h. subst (λ v. Todo (term_at v) y) e (shrinks y h)) (λ o h. h)

  module _ (starts : List (Term × Vars)) (t : TaskId) (act : Act) (batch told : List (List ℕ)) (k : ℕ) (term_at : ℕ → Term) (low : t.0 < k) (s : Shape code past k term_at) (sd : Says starts (term_at t.0) act told) where
    shrinks_at : (c : ℕ) (y : List ℕ) → Todo (set_at t.0 sd.after term_at c) y → Todo (term_at c) y
    shrinks_at c y =
        set_case (λ u. Todo u y → Todo (term_at c) y) t.0 c sd.after term_at
        (λ e h. subst (λ d. Todo (term_at d) y) e (sd.shrinks y h)) (λ o h. h)

    -- of other tasks the stack grows by statements that its task had to begin
    old_scope : (c d : ℕ) (x y : List ℕ) → Stacked x (open_paths (Step t act batch ∷ past) c) → d < k → (c ≡ d → ⊥) → Todo (term_at d) y → comes_ahead code x y ≡ false
    old_scope c d x y m hd o a =
        open_case past t act batch c (λ ps. Stacked x ps → comes_ahead code x y ≡ false)
        (λ e h. elim (stacked-after act (open_paths past c) x h) [
          | inl own ↦ s.ahead t.0 d x y low hd (λ i. o (sym e ∙ i)) (sd.own_todo x own) a
          | inr old ↦ s.scope_ahead c d x y old hd o a
        ])
        (λ n h. s.scope_ahead c d x y h hd o a) m

    old_unopened : (c d : ℕ) (x y : List ℕ) → Stacked x (open_paths (Step t act batch ∷ past) c) → d < k → Todo (set_at t.0 sd.after term_at d) y → Starts y x → ⊥
    old_unopened c d x y m hd a b =
        open_case past t act batch c (λ ps. Stacked x ps → ⊥)
        (λ e h. elim (stacked-after act (open_paths past c) x h) [
          | inl own ↦ set_case (λ u. Todo u y → ⊥) t.0 d sd.after term_at
              (λ i p. comes-not_starts x y (sd.own_comes x own y p) b)
              (λ o p. o (s.apart t.0 d x low hd (sd.own_todo x own) (todo-starts (term_at d) y x p b))) a
          | inr old ↦ s.unopened c d x y old hd (shrinks_at d y a) b
        ])
        (λ n h. s.unopened c d x y h hd (shrinks_at d y a) b) m

    -- an entry that starts no task
    pub shape-step : Shape code (Step t act batch ∷ past) k (set_at t.0 sd.after term_at)
    shape-step =
        record {
          sorted = λ c h. set_case Sorted t.0 c sd.after term_at (λ e. sd.sorted) (λ o. s.sorted c h);
          apart = λ c d y hc hd a b. s.apart c d y hc hd (shrinks_at c y a) (shrinks_at d y b);
          coded = λ c h. set_case (Coded code) t.0 c sd.after term_at (λ e. sd.coded code (s.coded t.0 low)) (λ o. s.coded c h);
          ahead = λ c d x y hc hd o a b. s.ahead c d x y hc hd o (shrinks_at c x a) (shrinks_at d y b);
          nested = λ c h. set_case (λ u. Nested u (outermost (open_paths (Step t act batch ∷ past) c))) t.0 c sd.after term_at
              (λ e. subst (λ d. Nested sd.after (outermost (open_paths (Step t act batch ∷ past) d))) e
              (subst (λ ps. Nested sd.after (outermost ps)) (sym (open_own past t act batch)) (sd.nested (open_paths past t.0) (s.nested t.0 low))))
              (λ o. subst (λ ps. Nested (term_at c) (outermost ps)) (sym (open_other past t act batch c o)) (s.nested c h));
          none_open = λ c h. open_other past t act batch c (λ e. omega arith) ∙ s.none_open c h;
          scope_ahead = λ c d x y m hd o a. old_scope c d x y m hd o (shrinks_at d y a);
          unopened = old_unopened;
        }

    -- an entry that starts task k
    pub shape-birth : (c : TaskId) → c.0 ≡ k → (ch : ChildOf starts c (term_at t.0) sd.after (told ++ own_path act)) → (own_path act ≡ ch.path ∷ []) → Shape code (Step t act batch ∷ past) (suc k) (set_at k ch.term (set_at t.0 sd.after term_at))
    shape-birth c e ch own =
        record {
          sorted = λ d h. set_case Sorted k d ch.term old (λ i. ch.sorted) (λ o. shape-step.sorted d (omega arith));
          apart = λ a d y ha hd. set_case (λ u. Todo u y → Todo (set_at k ch.term old d) y → a ≡ d) k a ch.term old
              (λ i. set_case (λ u. Todo ch.term y → Todo u y → a ≡ d) k d ch.term old (λ j p q. sym i ∙ j) (λ o p q. absurd (apart_old d y (omega arith) p q)))
              (λ i. set_case (λ u. Todo (old a) y → Todo u y → a ≡ d) k d ch.term old (λ j p q. absurd (apart_old a y (omega arith) q p)) (λ o p q. shape-step.apart a d y (omega arith) (omega arith) p q));
          coded = λ d h. set_case (Coded code) k d ch.term old (λ i. ch.coded code (s.coded t.0 low)) (λ o. shape-step.coded d (omega arith));
          ahead = λ a d x y ha hd. set_case (λ u. (a ≡ d → ⊥) → Todo u x → Todo (set_at k ch.term old d) y → comes_ahead code x y ≡ false) k a ch.term old
              (λ i. set_case (λ u. (a ≡ d → ⊥) → Todo ch.term x → Todo u y → comes_ahead code x y ≡ false) k d ch.term old (λ j o p q. absurd (o (sym i ∙ j))) (λ n o p q. child_ahead d x y (omega arith) p q))
              (λ i. set_case (λ u. (a ≡ d → ⊥) → Todo (old a) x → Todo u y → comes_ahead code x y ≡ false) k d ch.term old (λ j o p q. ahead_child a x y (omega arith) p q) (λ n o p q. shape-step.ahead a d x y (omega arith) (omega arith) o p q));
          nested = λ d h. set_case (λ u. Nested u (outermost (open_paths (Step t act batch ∷ past) d))) k d ch.term old
              (λ i. subst (λ ps. Nested ch.term (outermost ps)) (sym (shape-step.none_open d (omega arith))) ch.flat)
              (λ o. shape-step.nested d (omega arith));
          none_open = λ d h. shape-step.none_open d (omega arith);
          scope_ahead = λ a d x y m hd o. set_case (λ u. Todo u y → comes_ahead code x y ≡ false) k d ch.term old
              (λ i p. child_scope a x y m p)
              (λ n p. shape-step.scope_ahead a d x y m (omega arith) o p);
          unopened = λ a d x y m hd p b. set_case (λ u. Todo u y → ⊥) k d ch.term old
              (λ i q. child_unopened a x y m q b)
              (λ n q. shape-step.unopened a d x y m (omega arith) q b) p;
        }
      where
        old : ℕ → Term
        old = set_at t.0 sd.after term_at

        -- what the child has to begin, no other task has
        apart_old : (d : ℕ) (y : List ℕ) → d < k → Todo ch.term y → Todo (old d) y → ⊥
        apart_old d y hd p =
            set_case (λ u. Todo u y → ⊥) t.0 d sd.after term_at (λ i q. ch.apart y p q)
            (λ o q. o (s.apart t.0 d y low hd (ch.shrinks y p) q))

        -- a scope of its starter holds it, or the scope of another task was no further than its starter
        child_scope : (a : ℕ) (x y : List ℕ) → Stacked x (open_paths (Step t act batch ∷ past) a) → Todo ch.term y → comes_ahead code x y ≡ false
        child_scope a x y m p =
            open_case past t act batch a (λ ps. Stacked x ps → comes_ahead code x y ≡ false)
            (λ i h. elim (stacked-after act (open_paths past a) x h) [
              | inl new ↦ ahead_within code x y (subst (λ v. Starts v y) (same_path act ch.path x own new) (ch.within y p))
              | inr old_one ↦ ahead_within code x y
                  (starts-trans x ch.path y
                  (stacked-starts (open_paths past a) x ch.path old_one (ch.deep (outermost (open_paths past a)) (subst (λ v. Nested (term_at t.0) (outermost (open_paths past v))) i (s.nested t.0 low))))
                  (ch.within y p))
            ])
            (λ n h. s.scope_ahead a t.0 x y h low (λ e. n (sym e)) (ch.shrinks y p)) m

        child_unopened : (a : ℕ) (x y : List ℕ) → Stacked x (open_paths (Step t act batch ∷ past) a) → Todo ch.term y → Starts y x → ⊥
        child_unopened a x y m p b =
            open_case past t act batch a (λ ps. Stacked x ps → ⊥)
            (λ i h. elim (stacked-after act (open_paths past a) x h) [
              | inl new ↦ comes-not_starts x y (subst (λ v. Comes v y) (same_path act ch.path x own new) (ch.comes y p)) b
              | inr old_one ↦ s.unopened a t.0 x y old_one low (ch.shrinks y p) b
            ])
            (λ n h. s.unopened a t.0 x y h low (ch.shrinks y p) b) m

        -- nor is the one ahead of the other
        child_ahead : (d : ℕ) (x y : List ℕ) → d < k → Todo ch.term x → Todo (old d) y → comes_ahead code x y ≡ false
        child_ahead d x y hd p =
            set_case (λ u. Todo u y → comes_ahead code x y ≡ false) t.0 d sd.after term_at (λ i q. ch.wall code (s.coded t.0 low) x y p q)
            (λ o q. s.ahead t.0 d x y low hd o (ch.shrinks x p) q)

        ahead_child : (d : ℕ) (x y : List ℕ) → d < k → Todo (old d) x → Todo ch.term y → comes_ahead code x y ≡ false
        ahead_child d x y hd p q =
            set_case (λ u. Todo u x → comes_ahead code x y ≡ false) t.0 d sd.after term_at
            (λ i h. false_from_ne_true (comes_ahead code x y) (λ e. comes-not_below y x (below-comes y x (ch.below y x q h)) (comes_ahead-below code x y e)))
            (λ o h. s.ahead d t.0 x y hd low (λ e. o (sym e)) h (ch.shrinks y q)) p
