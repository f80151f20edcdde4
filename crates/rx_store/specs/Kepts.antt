-- What contracts see of the stores of all places.
use Rattle.std.specs.Prelude.{◌≡◌, ℕ, suc, List, [], ◌∷◌}
use Rattle.rx_rules.specs.declared.events.PlaceEvent.{PlaceEvent}
use Rattle.rx_store.specs.Kept.{StoreView}

-- the store of each place, in the order of the places
pub record Kepts : Type 0 where
  pub items : List StoreView

-- the stores of places p, p + 1, ..: each with its place, so many words, and its journal
abbrev pub StoresAre : ℕ → ℕ → List StoreView → List (List PlaceEvent) → Type 0
StoresAre heap p [] [] = Unit {0}
StoresAre heap p (s ∷ ss) (j ∷ js) = (s.place.0 ≡ p) × (s.words ≡ heap) × (s.events ≡ j) × StoresAre heap (suc p) ss js
StoresAre heap p [] (j ∷ js) = ⊥
StoresAre heap p (s ∷ ss) [] = ⊥
