-- The next event of a task in a journal.
use Rattle.std.proofs.Common.{◌≡◌, ℕ, zero, suc, ◌≤◌, Bool, cond, List, [], ◌∷◌, drop, length, Some, None, slice_get, refl, ap, ◌∙◌, arith}
use Rattle.std.specs.List.{filter_map, cons_option}
use Rattle.std.proofs.lemmas.Bool.{eq-eqb}
use Rattle.rx_rules.proofs.Common.{TaskId, Cells, cell_of}
use Rattle.rx_rules.specs.declared.events.Cell.{Cell}
use Rattle.rx_rules.specs.declared.events.PlaceEvent.{PlaceEvent}
use Rattle.rx_rules.specs.declared.events.PlaceEvent.TheVariants.{Done}

pub past_event : (t : ℕ) (j : List PlaceEvent) (e : ℕ) (x : PlaceEvent) → slice_get j e ≡ Some x → filter_map (cell_of t) (drop e j) ≡ cons_option (cell_of t x) (filter_map (cell_of t) (drop (suc e) j))
past_event t [] e x h = absurd (let f : ⊥ = cc in f)
past_event t (y ∷ j) zero x h = (let same : y ≡ x = cc in ap (λ (v : PlaceEvent). cons_option (cell_of t v) (filter_map (cell_of t) j)) same)
past_event t (y ∷ j) (suc e) x h = past_event t j e x h

none_left : (e : ℕ) → drop {A = PlaceEvent} e [] ≡ []
none_left zero = refl
none_left (suc e) = refl

pub none_past : (t : ℕ) (j : List PlaceEvent) (e : ℕ) → length j ≤ e → filter_map (cell_of t) (drop e j) ≡ []
none_past t [] e h = ap (λ (l : List PlaceEvent). filter_map (cell_of t) l) (none_left e)
none_past t (x ∷ j) zero h = absurd (omega arith)
none_past t (x ∷ j) (suc e) h = none_past t j e (omega arith)

-- an event of the task is the first of those from its position on
pub here_event : (t : TaskId) (j : List PlaceEvent) (e : ℕ) (x : PlaceEvent) (stamp : ℕ) (cell : Cell) (path : List ℕ) (all : Cells) → slice_get j e ≡ Some x → x ≡ Done t stamp cell path → all ≡ filter_map (cell_of t.0) (drop e j) → all ≡ (stamp, cell, path) ∷ filter_map (cell_of t.0) (drop (suc e) j)
here_event t j e x stamp cell path all h is same =
    same ∙ (past_event t.0 j e x h
    ∙ (ap (λ (v : PlaceEvent). cons_option (cell_of t.0 v) (filter_map (cell_of t.0) (drop (suc e) j))) is
    ∙ ap (λ (b : Bool). cons_option (cond b (Some (stamp, cell, path)) None) (filter_map (cell_of t.0) (drop (suc e) j))) (eq-eqb t.0 t.0 refl)))
