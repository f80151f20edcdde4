-- The rule of a one-shot over one word and one slot.
-- Word 0: it is not filled yet. Word 1: the value is in it. Word 2: the value was taken.
use Rattle.std.specs.Prelude.{◌≡◌, ◌≢◌, ℕ, Option, Some, None, [], ◌∷◌}
use mathlib.Core.Option.{some}
use lib.ListN.{get_elem?}
use Rattle.atomic_table.specs.Table.{State, Me, Step}
use Rattle.rx_monitor.specs.declared.one_shot.Hand.{Hand}

module _ {K : Type 0} where
  -- who knows the key alone
  abbrev pub idle : K → Hand K
  idle k = record { key = k; stage = 0 }

  -- who is to fill it
  abbrev pub fresh : K → Hand K
  fresh k = record { key = k; stage = 1 }

  -- who has its slot, to fill it
  abbrev pub reaching : K → Hand K
  reaching k = record { key = k; stage = 2 }

module _ {T K : Type 0} where
  -- only the first seat fills it, and until then the word is 0
  pub record HandKnows (k : K) (word id : ℕ) (s : State (Option T) (Hand K)) (h : Hand K) : Type 0 where
    pub key : h.key ≡ k
    pub fresh : h.stage ≡ 1 → (id ≡ 0) × (word ≡ 0) × (get_elem? s.homes 0 ≡ some (some None))
    pub reaching : h.stage ≡ 2 → (id ≡ 0) × (word ≡ 0)

  module _ (holds : K → T → Type 0) where
    pub record OneShotKept (k : K) (s : State (Option T) (Hand K)) : Type 0 where
      pub word : ℕ
      pub is : s.words ≡ word ∷ []
      pub full : word ≡ 1 → (x : T) × holds k x × (get_elem? s.homes 0 ≡ some (some (Some x)))
      pub each : (id : ℕ) (h : Hand K) → get_elem? s.views id ≡ some h → HandKnows k word id s h

    -- where the word was 1, the value is out with the seat
    abbrev pub Took : Step (Option T) → Me (Option T) (Hand K) → ℕ → Me (Option T) (Hand K) → Type 0
    Took st me found me' =
        (found ≡ 1 → (x : T) × holds me.0.key x × (me' ≡ (idle me.0.key, (0, Some x) ∷ []))) × (found ≢ 1 → me' ≡ me)

  -- a new seat knows the key
  abbrev pub Sat : Step (Option T) → Me (Option T) (Hand K) → ℕ → Me (Option T) (Hand K) → Type 0
  Sat st me found me' = me' ≡ (idle me.0.key, [])

  -- the empty slot is out with the one who fills it
  abbrev pub Reached : Step (Option T) → Me (Option T) (Hand K) → ℕ → Me (Option T) (Hand K) → Type 0
  Reached st me found me' = me' ≡ (reaching me.0.key, (0, None) ∷ [])
