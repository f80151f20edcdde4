-- Blocks that were asked what an event tells.
use Rattle.std.proofs.Common.{◌≡◌, ◌↔◌, ℕ, ◌≤◌, Bool, false, List, IsTrue, sym, subst}
use Rattle.std.proofs.lemmas.Bool.{true≢false}
use Rattle.rx_rules.proofs.Common.{TaskId, MayCell, after_cell}
use Rattle.rx_rules.specs.declared.events.Cell.{Cell}
use Rattle.rx_rules.specs.declared.events.PlaceEvent.{PlaceEvent}
use Rattle.rx_rules.specs.declared.events.PlaceEvent.TheVariants.{Done, Close}
use Rattle.rx_store.specs.Asks.{ask_of}
use Rattle.rx_store.specs.Table.{Table, TableStands, EventFits}
use Rattle.rx_verdict.specs.Lawful.{CellAsksSome}
use Rattle.rx_verdict.specs.Inside.Next.{Follows}
use Rattle.rx_verdict.proofs.Answered.{one_answer}

pub follows-close : (T : Table) (last stamp : ℕ) (e : PlaceEvent) (b : Bool) → e ≡ Close stamp → IsTrue b ↔ (last ≤ stamp) → Follows T T last e b
follows-close T last stamp e b is low = subst (λ (z : PlaceEvent). Follows T T last z b) (sym is) (λ w S stands. (low, λ t. stands))

-- an event that may not stand next in any state
pub follows-not : (T : Table) (last stamp : ℕ) (task : TaskId) (path : List ℕ) (cell : Cell) (e : PlaceEvent) → e ≡ Done task stamp cell path → (last ≤ stamp → CellAsksSome cell → ⊥) → Follows T T last e false
follows-not T last stamp task path cell e is never = subst (λ (z : PlaceEvent). Follows T T last z false) (sym is) (λ w S stands. ((λ t. absurd (true≢false (sym t)), λ h. absurd (never h.0 h.1)), λ t. absurd (true≢false (sym t))))

-- the call that the event tells of was made, and told so
pub follows-done : (old new : Table) (last stamp : ℕ) (task : TaskId) (path : List ℕ) (cell given : Cell) (e : PlaceEvent) (b : Bool) → e ≡ Done task stamp cell path → last ≤ stamp → CellAsksSome cell → ask_of given ≡ ask_of cell → EventFits old new given
    → IsTrue b ↔ (given ≡ cell) → Follows old new last e b
follows-done old new last stamp task path cell given e b is low some asked tells same =
    subst (λ (z : PlaceEvent). Follows old new last z b) (sym is)
    (λ w S stands.
    let law = tells w S stands in (
      (λ t. (low, some, subst (MayCell w S) (same.0 t) law.0), λ h. same.1 (one_answer w S given cell asked law.0 h.2)),
      λ t. subst (λ (c : Cell). TableStands w new (after_cell S c)) (same.0 t) law.1,
    ))
