-- What the journals of stores tell.
use Rattle.std.proofs.Common.{◌≡◌, ℕ, suc, List, [], ◌∷◌, map, refl, ap, ◌∙◌}
use Rattle.rx_rules.specs.declared.events.PlaceEvent.{PlaceEvent}
use Rattle.rx_store.specs.Kept.{StoreView}
use Rattle.rx_store.specs.Kepts.{StoresAre}

-- the journals of stores that have them
pub journals_are : (heap p : ℕ) (ss : List StoreView) (js : List (List PlaceEvent)) → StoresAre heap p ss js → map (λ s. s.events) ss ≡ js
journals_are heap p [] [] h = refl
journals_are heap p (s ∷ ss) (j ∷ js) h = ap (λ e. e ∷ map (λ (k : StoreView). k.events) ss) h.2 ∙ ap (λ es. j ∷ es) (journals_are heap (suc p) ss js h.3)
journals_are heap p [] (j ∷ js) h = absurd h
journals_are heap p (s ∷ ss) [] h = absurd h

-- One journal more.

abbrev pub told_by : List StoreView → List (List PlaceEvent)
told_by ss = map (λ s. s.events) ss
