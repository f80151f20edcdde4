-- Rows of those who wait, while they are asked for again one after another.
use Rattle.std.proofs.Common.{◌≢◌, ◌⊎◌, ◌==◌, cond, refl, ℕ, ◌≡◌, ◌≤◌, ◌<◌, Bool, true, false, List, Option, Some, None, sym, ◌∙◌, ap, subst, inl, inr, arith}
use Rattle.std.proofs.lemmas.Bool.{eqb-true, eqb-false}
use Rattle.rx_rules.proofs.Common.{ScopeId, Tree, tree_of}
use Rattle.rx_rules.specs.declared.entries.Entry.{Entry}
use Rattle.rx_coordinator.specs.declared.waiters.Waiter.{Waiter}
use Rattle.rx_coordinator.specs.declared.waiters.Waiters.{Waiters}
use Rattle.rx_coordinator.specs.declared.parking.Parking.{Parking}
use Rattle.rx_coordinator.specs.Stands.{May}
use Rattle.rx_coordinator.specs.Waiters.{waiter_at, ScopeIsDue}
use Rattle.rx_coordinator.specs.Parking.{Parks, HasToWait, PassedBy, request_of}
use Rattle.rx_coordinator.specs.Inside.Walks.{NextDue, IsSame, IsLeft}
use Rattle.rx_coordinator.proofs.Moves.{passed_same, passed_gone, left_other, left_none}

-- the row was taken away, since who waits may not ask any more; all that are due come after it
abbrev Gone : Tree → Parking → Parking → ℕ → Type 0
Gone T k l m =
    (who : Waiter) × (waiter_at k.waiters m ≡ Some who) × (May T (request_of who) → ⊥) × (waiter_at l.waiters m ≡ None)
    × ((i : ℕ) → ScopeIsDue l.due i → m ≤ i)

abbrev Row : Tree → Parking → Parking → ℕ → Type 0
Row T k l m = (waiter_at l.waiters m ≡ waiter_at k.waiters m) ⊎ Gone T k l m

no-row : (x : Option Waiter) (who : Waiter) → x ≡ None → x ≡ Some who → ⊥
no-row x who e i = cc

-- nobody that is due waits
pub none_here : (p : ℕ) (es : List Entry) (k l : Parking) → Parks l p es → ((m : ℕ) → Row (tree_of p es) k l m) → ((m : ℕ) → ScopeIsDue l.due m → waiter_at l.waiters m ≡ None)
    → ((n : ℕ) (who : Waiter) → waiter_at l.waiters n ≡ Some who → HasToWait (tree_of p es) n who) × ((m : ℕ) → PassedBy (tree_of p es) m (waiter_at k.waiters m) (waiter_at l.waiters m))
none_here p es k l on rows none = (held, λ m. passed m (rows m)) where
  held : (n : ℕ) (who : Waiter) → waiter_at l.waiters n ≡ Some who → HasToWait (tree_of p es) n who
  held n who e = elim (on.all.wait n who e) [ inl due ↦ absurd (no-row (waiter_at l.waiters n) who (none n due) e) | inr h ↦ h ]

  passed : (m : ℕ) → Row (tree_of p es) k l m → PassedBy (tree_of p es) m (waiter_at k.waiters m) (waiter_at l.waiters m)
  passed m (inl same) = passed_same (tree_of p es) m (waiter_at k.waiters m) (waiter_at l.waiters m) same (held m)
  passed m (inr g) = passed_gone (tree_of p es) m (waiter_at k.waiters m) (waiter_at l.waiters m) g.0 g.1 g.2 g.3

module _ (p : ℕ) (es : List Entry) (k l : Parking) (on : Parks l p es) (rows : (m : ℕ) → Row (tree_of p es) k l m) (s : ScopeId) (who : Waiter) (next : NextDue l.waiters l.due (Some (s, who))) (us : Waiters) (left : IsLeft s.0 l.waiters us) where
  pub freed_here : (waiter_at k.waiters s.0 ≡ Some who) × (waiter_at us s.0 ≡ None)
  freed_here = (at (rows s.0), left_none s.0 l.waiters us left) where
    at : Row (tree_of p es) k l s.0 → waiter_at k.waiters s.0 ≡ Some who
    at (inl same) = sym same ∙ next.1
    at (inr g) = absurd (no-row (waiter_at l.waiters s.0) who g.3 next.1)

  pub freed_before : (m : ℕ) → m < s.0 → PassedBy (tree_of p es) m (waiter_at k.waiters m) (waiter_at us m)
  freed_before m low = by (rows m) where
    here : waiter_at us m ≡ waiter_at l.waiters m
    here = left_other s.0 l.waiters us left m (λ e. omega arith)

    held : (z : Waiter) → waiter_at us m ≡ Some z → HasToWait (tree_of p es) m z
    held z e =
        let i : waiter_at l.waiters m ≡ Some z = sym here ∙ e in
        elim (on.all.wait m z i) [ inl due ↦ absurd (no-row (waiter_at l.waiters m) z (next.2 m due low) i) | inr h ↦ h ]

    by : Row (tree_of p es) k l m → PassedBy (tree_of p es) m (waiter_at k.waiters m) (waiter_at us m)
    by (inl same) = passed_same (tree_of p es) m (waiter_at k.waiters m) (waiter_at us m) (here ∙ same) held
    by (inr g) = passed_gone (tree_of p es) m (waiter_at k.waiters m) (waiter_at us m) g.0 g.1 g.2 (here ∙ g.3)

  pub freed_after : (m : ℕ) → s.0 < m → waiter_at us m ≡ waiter_at k.waiters m
  freed_after m high = by (rows m) where
    by : Row (tree_of p es) k l m → waiter_at us m ≡ waiter_at k.waiters m
    by (inl same) = left_other s.0 l.waiters us left m (λ e. omega arith) ∙ same
    by (inr g) = absurd (let low = g.4 s.0 next.0 in let v : ⊥ = omega (arith, low, high) in v)

pub short_on : (p : ℕ) (es : List Entry) (k l : Parking) → ((m : ℕ) → Row (tree_of p es) k l m) → (us : Waiters) → IsSame l.waiters us
    → (m : ℕ) → (waiter_at us m ≡ waiter_at k.waiters m) ⊎ PassedBy (tree_of p es) m (waiter_at k.waiters m) (waiter_at us m)
short_on p es k l rows us same m = by (rows m) where
  by : Row (tree_of p es) k l m → (waiter_at us m ≡ waiter_at k.waiters m) ⊎ PassedBy (tree_of p es) m (waiter_at k.waiters m) (waiter_at us m)
  by (inl e) = inl (same m ∙ e)
  by (inr g) = inr (passed_gone (tree_of p es) m (waiter_at k.waiters m) (waiter_at us m) g.0 g.1 g.2 (same m ∙ g.3))

module _ (p : ℕ) (es : List Entry) (k l j : Parking) (rows : (m : ℕ) → Row (tree_of p es) k l m) (s : ScopeId) (who : Waiter) (next : NextDue l.waiters l.due (Some (s, who))) (later : (n : ℕ) → ScopeIsDue j.due n → s.0 ≤ n) where
  -- a row that did not change
  same_on : (m : ℕ) → waiter_at j.waiters m ≡ waiter_at l.waiters m → Row (tree_of p es) k l m → Row (tree_of p es) k j m
  same_on m e (inl same) = inl (e ∙ same)
  same_on m e (inr g) = inr (g.0, g.1, g.2, e ∙ g.3, λ i due. (let a = g.4 s.0 next.0 in let b = later i due in omega (arith, a, b)))

  -- the row that was taken away
  gone_on : (May (tree_of p es) (request_of who) → ⊥) → waiter_at j.waiters s.0 ≡ None → Row (tree_of p es) k l s.0 → Row (tree_of p es) k j s.0
  gone_on bad none (inl same) = inr (who, sym same ∙ next.1, bad, none, later)
  gone_on bad none (inr g) = absurd (no-row (waiter_at l.waiters s.0) who g.3 next.1)

  pub passes_on : IsSame l.waiters j.waiters ⊎ ((May (tree_of p es) (request_of who) → ⊥) × IsLeft s.0 l.waiters j.waiters) → (m : ℕ) → Row (tree_of p es) k j m
  passes_on (inl same) m = same_on m (same m) (rows m)
  passes_on (inr h) m =
      (elim (m == s.0) as (λ b. m == s.0 ≡ b → Row (tree_of p es) k j m) [
        | true ↦ λ e. subst (λ (n : ℕ). Row (tree_of p es) k j n) (sym (eqb-true m s.0 e)) (gone_on h.0 (left_none s.0 l.waiters j.waiters h.1) (rows s.0))
        | false ↦ λ e. same_on m (left_other s.0 l.waiters j.waiters h.1 m (eqb-false m s.0 e)) (rows m)
      ]) refl
