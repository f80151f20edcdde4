-- A journal with one event more.
use Rattle.std.proofs.Common.{◌≡◌, ℕ, ◌+◌, ◌≤◌, Bool, true, false, List, [], ◌∷◌, ◌++◌, length, arith, refl, subst}
use Rattle.rx_rules.proofs.Common.{TaskId, State, MayCell, after_cell, IsStoreRun}
use Rattle.rx_rules.specs.declared.events.Cell.{Cell}
use Rattle.rx_rules.specs.declared.events.Cell.TheVariants.{Make, MakeFull, Get, Put, Forget, GetRefused, PutRefused, ForgetStale}
use Rattle.rx_rules.specs.declared.events.PlaceEvent.{PlaceEvent}
use Rattle.rx_rules.specs.declared.events.PlaceEvent.TheVariants.{Done, Close}
use Rattle.rx_store.specs.Kept.{state_from, closed_from, stamp_from}

-- the journal so far is not closed, and the law allows the event
pub run_done : (w : ℕ) (S : State) (b : Bool) (es : List PlaceEvent) (task : TaskId) (stamp : ℕ) (cell : Cell) (path : List ℕ) → IsStoreRun w S es → closed_from b es ≡ false → MayCell w (state_from S es) cell → IsStoreRun w S (es ++ Done task stamp cell path ∷ [])
run_done w S b [] task stamp cell path r o m = (m, tt)
run_done w S b (Done t s c p ∷ es) task stamp cell path r o m = (r.0, run_done w (after_cell S c) false es task stamp cell path r.1 o m)
run_done w S b (Close s ∷ es) task stamp cell path r o m =
    let C : List PlaceEvent → Type 0 = λ z. closed_from true z ≡ false in
    absurd (true-false (subst C r o))
  where
    true-false : true ≡ false → ⊥
    true-false q = cc

pub run_close : (w : ℕ) (S : State) (b : Bool) (es : List PlaceEvent) (stamp : ℕ) → IsStoreRun w S es → closed_from b es ≡ false → IsStoreRun w S (es ++ Close stamp ∷ [])
run_close w S b [] stamp r o = refl
run_close w S b (Done t s c p ∷ es) stamp r o = (r.0, run_close w (after_cell S c) false es stamp r.1 o)
run_close w S b (Close s ∷ es) stamp r o =
    let C : List PlaceEvent → Type 0 = λ z. closed_from true z ≡ false in
    absurd (true-false (subst C r o))
  where
    true-false : true ≡ false → ⊥
    true-false q = cc

pub state_done : (S : State) (es : List PlaceEvent) (task : TaskId) (stamp : ℕ) (cell : Cell) (path : List ℕ) → state_from S (es ++ Done task stamp cell path ∷ []) ≡ after_cell (state_from S es) cell
state_done S [] task stamp cell path = refl
state_done S (Done t s c p ∷ es) task stamp cell path = state_done (after_cell S c) es task stamp cell path
state_done S (Close s ∷ es) task stamp cell path = state_done S es task stamp cell path

pub closed_done : (b : Bool) (es : List PlaceEvent) (task : TaskId) (stamp : ℕ) (cell : Cell) (path : List ℕ) → closed_from b (es ++ Done task stamp cell path ∷ []) ≡ false
closed_done b [] task stamp cell path = refl
closed_done b (Done t s c p ∷ es) task stamp cell path = closed_done false es task stamp cell path
closed_done b (Close s ∷ es) task stamp cell path = closed_done true es task stamp cell path

pub closed_close : (b : Bool) (es : List PlaceEvent) (stamp : ℕ) → closed_from b (es ++ Close stamp ∷ []) ≡ true
closed_close b [] stamp = refl
closed_close b (Done t s c p ∷ es) stamp = closed_close false es stamp
closed_close b (Close s ∷ es) stamp = closed_close true es stamp

pub stamp_done : (n : ℕ) (es : List PlaceEvent) (task : TaskId) (stamp : ℕ) (cell : Cell) (path : List ℕ) → stamp_from n (es ++ Done task stamp cell path ∷ []) ≡ stamp
stamp_done n [] task stamp cell path = refl
stamp_done n (Done t s c p ∷ es) task stamp cell path = stamp_done s es task stamp cell path
stamp_done n (Close s ∷ es) task stamp cell path = stamp_done s es task stamp cell path

pub stamp_close : (n : ℕ) (es : List PlaceEvent) (stamp : ℕ) → stamp_from n (es ++ Close stamp ∷ []) ≡ stamp
stamp_close n [] stamp = refl
stamp_close n (Done t s c p ∷ es) stamp = stamp_close s es stamp
stamp_close n (Close s ∷ es) stamp = stamp_close s es stamp

-- at most one block is made by an event
made_cell : (S : State) (cell : Cell) → (after_cell S cell).made ≤ S.made + 1
made_cell S (Make n start generation) = omega arith
made_cell S (MakeFull n) = omega arith
made_cell S (Get r i value) = omega arith
made_cell S (Put r i value) = omega arith
made_cell S (Forget r) = omega arith
made_cell S (GetRefused r i stale) = omega arith
made_cell S (PutRefused r i value stale) = omega arith
made_cell S (ForgetStale r) = omega arith

pub made_from : (S : State) (es : List PlaceEvent) → (state_from S es).made ≤ S.made + length es
made_from S [] = omega arith
made_from S (Done t s c p ∷ es) = let one = made_cell S c in omega (arith, made_from (after_cell S c) es)
made_from S (Close s ∷ es) = omega (arith, made_from S es)
