-- Stores that are opened one after another.
use Rattle.std.proofs.Common.{◌≡◌, ℕ, zero, suc, ◌+◌, List, [], ◌∷◌, ◌++◌, length, replicate, refl, ap, ◌∙◌, arith}
use Rattle.rx_rules.specs.declared.events.PlaceEvent.{PlaceEvent}
use Rattle.rx_store.specs.Kept.{StoreView}
use Rattle.rx_store.specs.Kepts.{StoresAre}

-- one store more, of the next place
pub opens-more : (heap p n : ℕ) (ss : List StoreView) (s : StoreView) → StoresAre heap p ss (replicate n []) → s.place.0 ≡ p + n → s.words ≡ heap → s.events ≡ [] → StoresAre heap p (ss ++ s ∷ []) (replicate (suc n) [])
opens-more heap p zero [] s h place words events = (place ∙ omega arith, words, events, tt)
opens-more heap p zero (x ∷ ss) s h place words events = absurd h
opens-more heap p (suc n) [] s h place words events = absurd h
opens-more heap p (suc n) (x ∷ ss) s h place words events = (h.0, h.1, h.2, opens-more heap (suc p) n ss s h.3 (place ∙ omega arith) words events)

-- there are as many stores as journals
pub as_many : (heap p : ℕ) (ss : List StoreView) (js : List (List PlaceEvent)) → StoresAre heap p ss js → length ss ≡ length js
as_many heap p [] [] h = refl
as_many heap p (s ∷ ss) (j ∷ js) h = ap suc (as_many heap (suc p) ss js h.3)
as_many heap p [] (j ∷ js) h = absurd h
as_many heap p (s ∷ ss) [] h = absurd h
