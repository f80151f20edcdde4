-- Sound events, one after the other.
use Rattle.std.proofs.Common.{◌≡◌, ℕ, zero, suc, ◌<◌, Bool, false, List, [], ◌∷◌, length, take, Option, Some, slice_get, slice_index_or, sym, subst, arith}
use Rattle.rx_base.proofs.Elements.{get-within}
use Rattle.rx_rules.specs.declared.events.PlaceEvent.{PlaceEvent}
use Rattle.rx_rules.specs.declared.events.PlaceEvent.TheVariants.{Done, Close}
use Rattle.rx_kills.proofs.Dying.{take-next}
use Rattle.rx_verdict.specs.Lawful.{AreLawful, AllWantSome, WantsSome, IsLawfulCount}
use Rattle.rx_verdict.specs.Flaws.{CauseBy, CauseAt, IsSoundIn}
use Rattle.rx_verdict.proofs.Counts.{lawful-first, some-more}

-- an event among the first wants some words where all these do
pub wants-at : (n e : ℕ) (j : List PlaceEvent) (x : PlaceEvent) → AllWantSome (take n j) → e < n → slice_get j e ≡ Some x → WantsSome x
wants-at zero e j x h l at = absurd (omega arith)
wants-at (suc n) e [] x h l at = absurd cc
wants-at (suc n) zero (y ∷ j) x h l at = let same : y ≡ x = cc in subst WantsSome same h.0
wants-at (suc n) (suc e) (y ∷ j) x h l at = wants-at n e j x h.1 (omega arith) at

cause-wants : (death : Option ℕ) (mark : Bool) (x : PlaceEvent) → CauseBy death mark x → WantsSome x
cause-wants death mark (Done t s c p) h = h.1
cause-wants death mark (Close s) h = tt

-- among the lawful events a cause makes one sound
pub sound-below : (w : ℕ) (death : Option ℕ) (j : List PlaceEvent) (row : List Bool) (n e : ℕ) → IsLawfulCount w j n → e < n → CauseAt death row e (slice_get j e) → IsSoundIn w death j row e
sound-below w death j row n e h l cause =
    let first : AreLawful w (take (suc e) j) = lawful-first w (suc e) n j (omega arith) h.lawful in
    record { law = first.law; rising = first.rising; cause = cause }

-- the event that follows them is not sound
pub flaw-after : (w : ℕ) (death : Option ℕ) (j : List PlaceEvent) (row : List Bool) (n : ℕ) → IsLawfulCount w j n → n < length j → IsSoundIn w death j row n → ⊥
flaw-after w death j row n h l sound =
    let event = get-within j n l in
    let next = take-next j n event.0 event.1 in
    let cause : CauseBy death (slice_index_or row n false) event.0 = subst (CauseAt death row n) event.1 sound.cause in
    h.no_more l (record {
      law = sound.law;
      rising = sound.rising;
      some = subst AllWantSome (sym next) (some-more (take n j) event.0 h.lawful.some (cause-wants death (slice_index_or row n false) event.0 cause));
    })

-- an event without a cause is not sound
pub flaw-at : (w : ℕ) (death : Option ℕ) (j : List PlaceEvent) (row : List Bool) (e : ℕ) (x : PlaceEvent) → slice_get j e ≡ Some x → (CauseBy death (slice_index_or row e false) x → ⊥) → IsSoundIn w death j row e → ⊥
flaw-at w death j row e x at never sound = never (subst (CauseAt death row e) at sound.cause)
