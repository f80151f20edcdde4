-- The journals of all places.
use Rattle.std.proofs.Common.{◌≡◌, ℕ, zero, suc, ◌+◌, ◌<◌, false, List, [], ◌∷◌, ◌++◌, map, replicate, length, take, Some, None, option_map, slice_get, refl, ap, ◌∙◌, arith}
use Rattle.std.specs.List.{filter_map}
use Rattle.std.proofs.lemmas.Option.{slice_get-map}
use Rattle.rx_rules.specs.declared.events.PlaceEvent.{PlaceEvent}
use Rattle.rx_rules.specs.declared.events.PlaceEvent.TheVariants.{Done, Close}
use Rattle.rx_rules.proofs.Common.{close_in}
use Rattle.rx_history.specs.Events.{Events, AllEvents, events_of}
use Rattle.rx_kills.proofs.Dying.{take-next}
use Rattle.rx_verdict.specs.Marked.{no_marks}

pub journals-long : (xs : List Events) → length (map (λ (j : Events). j.events) xs) ≡ length xs
journals-long [] = refl
journals-long (x ∷ xs) = ap suc (journals-long xs)

pub events-at : (a : AllEvents) (p : ℕ) (j : Events) → slice_get a.journals p ≡ Some j → slice_get (events_of a) p ≡ Some j.events
events-at a p j at = slice_get-map (λ (j : Events). j.events) a.journals p ∙ ap (option_map (λ (j : Events). j.events)) at

unmarked-more : (xs : List (List PlaceEvent)) (j : List PlaceEvent) → no_marks (xs ++ j ∷ []) ≡ no_marks xs ++ replicate (length j) false ∷ []
unmarked-more [] j = refl
unmarked-more (x ∷ xs) j = ap (λ r. replicate (length x) false ∷ r) (unmarked-more xs j)

-- one row more
pub unmarked-next : (js : List (List PlaceEvent)) (p : ℕ) (j : List PlaceEvent) → slice_get js p ≡ Some j → no_marks (take (p + 1) js) ≡ no_marks (take p js) ++ replicate (length j) false ∷ []
unmarked-next js p j at =
    let next : p + 1 ≡ suc p = omega arith in
    ap (λ n. no_marks (take n js)) next ∙ (ap no_marks (take-next js p j at) ∙ unmarked-more (take p js) j)

-- Closes.

pub closes-some : (j : List PlaceEvent) (i stamp : ℕ) → slice_get j i ≡ Some (Close stamp) → 0 < length (filter_map close_in j)
closes-some [] i stamp h = absurd cc
closes-some (Done t s c p ∷ j) zero stamp h = absurd cc
closes-some (Close s ∷ j) zero stamp h = omega arith
closes-some (Done t s c p ∷ j) (suc i) stamp h = closes-some j i stamp h
closes-some (Close s ∷ j) (suc i) stamp h = omega arith

none-more : (xs : List PlaceEvent) (x : PlaceEvent) → filter_map close_in xs ≡ [] → close_in x ≡ None → filter_map close_in (xs ++ x ∷ []) ≡ []
none-more [] (Done t s c p) h k = refl
none-more [] (Close s) h k = absurd cc
none-more (Done t s c p ∷ xs) x h k = none-more xs x h k
none-more (Close s ∷ xs) x h k = absurd cc

pub closes-none : (j : List PlaceEvent) (i : ℕ) (x : PlaceEvent) → slice_get j i ≡ Some x → close_in x ≡ None → filter_map close_in (take i j) ≡ [] → filter_map close_in (take (i + 1) j) ≡ []
closes-none j i x at k h =
    let next : i + 1 ≡ suc i = omega arith in
    ap (λ n. filter_map close_in (take n j)) next ∙ (ap (filter_map close_in) (take-next j i x at) ∙ none-more (take i j) x h k)
