-- Marks on one event of a task after the other.
use Rattle.std.proofs.Common.{◌≡◌, ◌↔◌, ℕ, suc, ◌+◌, ◌<◌, ◌≤◌, Bool, true, false, List, length, drop, Option, Some, slice_get, refl, sym, subst, ◌∙◌, arith, inl, inr}
use Rattle.std.specs.List.{filter_map}
use Rattle.std.proofs.lemmas.Bool.Decides.{leb_tells}
use Rattle.rx_rules.proofs.Common.{TaskId, cell_of, journal_at}
use Rattle.rx_rules.specs.declared.events.Cell.{Cell}
use Rattle.rx_rules.specs.declared.events.PlaceEvent.{PlaceEvent}
use Rattle.rx_rules.specs.declared.events.PlaceEvent.TheVariants.{Done}
use Rattle.rx_verdict.specs.Marked.{marked}
use Rattle.rx_verify.specs.Events.{IsOf, IsFirst}
use Rattle.rx_verify.specs.Marked.{InReach, MarksUsed}
use Rattle.rx_verify.proofs.Positions.{at_most_length}
use Rattle.rx_verify.proofs.Using.{none_between}

-- Positions of a task's events.

pub is_own : (t : ℕ) (j : List PlaceEvent) (from e : ℕ) → IsFirst t j from e → e < length j → IsOf t j e
is_own t j from e first lt = elim first.here [ inl all ↦ absurd (omega (arith, all, lt)) | inr own ↦ own ]

-- no event of the task stands between
pub none_before : (t : ℕ) (j : List PlaceEvent) (from e : ℕ) → IsFirst t j from e → (f stamp : ℕ) (cell : Cell) (path : List ℕ) → from ≤ f → f < e → slice_get j f ≡ Some (Done (record { 0 = t }) stamp cell path) → ⊥
none_before t j from e first f stamp cell path low high told = none_between t j from e f stamp cell path (filter_map (cell_of t) (drop from j)) refl first.same low high told

-- an event of the task from there on stands no earlier than the first
pub first_first : (t : ℕ) (j : List PlaceEvent) (from e f : ℕ) → IsFirst t j from e → from ≤ f → IsOf t j f → e ≤ f
first_first t j from e f first low own =
    elim (leb_tells e f) [ inl le ↦ le.1 | inr lt ↦ absurd (none_before t j from e first f own.0 own.1 own.2 low lt.1 own.3) ]

-- a first event from a later position on stands no earlier than the first
pub firsts_rise : (t : ℕ) (j : List PlaceEvent) (from e later f : ℕ) → IsFirst t j from e → IsFirst t j later f → from ≤ f → e ≤ f
firsts_rise t j from e later f first next low =
    elim next.here [ inl all ↦ (let le = at_most_length t j from e first in omega (arith, all, le)) | inr own ↦ first_first t j from e f first low own ]

-- the next event stands further on
pub goes_on : (t : ℕ) (j : List PlaceEvent) (at next : ℕ) → IsFirst t j (suc at) next → at < length j → at < next
goes_on t j at next first lt =
    elim first.here [
      | inl all ↦ omega (arith, all, lt)
      | inr own ↦
          elim (leb_tells next at) [
            | inr on ↦ on.1
            | inl le ↦
                let back = le.1 in
                absurd (none_between t j next (suc at) next own.0 own.1 own.2 (filter_map (cell_of t) (drop (suc at) j)) first.same refl (omega arith) (omega (arith, back)) own.3)
          ]
    ]

-- Marks.

module _ (js : List (List PlaceEvent)) (p t low : ℕ) (last : Option ℕ) where
  -- one event more, after which none stands up to the next
  pub one_used : (old mid new : List (List Bool)) (from at next : ℕ) → from ≤ at → at < next → IsFirst t (journal_at js p) (suc at) next → MarksUsed js old mid p t from at low last → MarksUsed js mid new p t at (at + 1) low last → MarksUsed js old new p t from next low last
  one_used old mid new from at next past onward first a b = record { shape = b.shape; mine = mine; others = others } where
    mine : (e stamp : ℕ) (cell : Cell) (path : List ℕ) → from ≤ e → e < next → slice_get (journal_at js p) e ≡ Some (Done (record { 0 = t }) stamp cell path) → marked old p e ≡ false → InReach low last stamp ↔ (marked new p e ≡ true)
    mine e stamp cell path le lt told k =
        elim (leb_tells at e) [
          | inr before ↦
              let lt = before.1 in
              let same : marked new p e ≡ marked mid p e = b.others p e (record { 0 = t }) stamp cell path told (λ x y le gt. absurd (omega (arith, le, lt))) in
              subst (λ (v : Bool). InReach low last stamp ↔ (v ≡ true)) (sym same) (a.mine e stamp cell path le lt told k)
          | inl here ↦
              elim (leb_tells (suc at) e) [
                | inl after ↦ absurd (none_before t (journal_at js p) (suc at) next first e stamp cell path after.1 lt told)
                | inr at_it ↦
                    let low = here.1 in
                    let high = at_it.1 in
                    let same : marked mid p e ≡ marked old p e = a.others p e (record { 0 = t }) stamp cell path told (λ x y le gt. absurd (omega (arith, low, gt))) in
                    b.mine e stamp cell path low (omega (arith, high)) told (same ∙ k)
              ]
        ]

    others : (q e : ℕ) (task : TaskId) (stamp : ℕ) (cell : Cell) (path : List ℕ) → slice_get (journal_at js q) e ≡ Some (Done task stamp cell path) → (q ≡ p → task.0 ≡ t → from ≤ e → e < next → ⊥) → marked new q e ≡ marked old q e
    others q e task stamp cell path told other =
        b.others q e task stamp cell path told (λ x y le lt. other x y (omega (arith, past, le)) (omega (arith, onward, lt)))
        ∙ a.others q e task stamp cell path told (λ x y le lt. other x y le (omega (arith, onward, lt)))
