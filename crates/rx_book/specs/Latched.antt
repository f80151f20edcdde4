-- The rule of a lock over one word and one slot.
-- Word 0: the value is at home. Word 1 or 2: it is out with the one who has the lock. Word 3: the lock is closed, and the slot is empty.
-- Word 2 says besides that somebody may sleep. Nothing is proved of sleep, so the rule does not tell 2 from 1.
use Rattle.std.specs.Prelude.{◌≡◌, ◌≢◌, ℕ, ◌⊎◌, List, true, false, Option, Some, None, [], ◌∷◌}
use mathlib.Core.Option.{some}
use lib.ListN.{get_elem?}
use Rattle.atomic_table.specs.Table.{State, Me, Step}
use Rattle.rx_book.specs.declared.steps.Hand.{Hand}

module _ {K : Type 0} where
  -- the hand of one who knows the key alone
  abbrev pub idle : K → Hand K
  idle k = record { key = k; has_it = false; closed = false }

  -- the hand of the one who has the value
  abbrev pub holding : K → Hand K
  holding k = record { key = k; has_it = true; closed = false }

  -- the hand of the one who has closed the lock
  abbrev pub closing : K → Hand K
  closing k = record { key = k; has_it = false; closed = true }

-- the word of a value that is out
abbrev pub SaysOut : List ℕ → Type 0
SaysOut ws = (ws ≡ 1 ∷ []) ⊎ (ws ≡ 2 ∷ [])

module _ {T K : Type 0} where
  -- the value is out with the hand of this number
  abbrev pub IsOut : K → ℕ → State (Option T) (Hand K) → Type 0
  IsOut k holder s = SaysOut s.words × (get_elem? s.views holder ≡ some (holding k))

  -- the lock is closed
  abbrev pub Emptied : State (Option T) (Hand K) → Type 0
  Emptied s = (s.words ≡ 3 ∷ []) × (get_elem? s.homes 0 ≡ some (some None))

  module _ (holds : K → T → Type 0) where
    -- the value is at home, and the fact holds of it
    abbrev pub AtHome : K → State (Option T) (Hand K) → Type 0
    AtHome k s = (s.words ≡ 0 ∷ []) × ((x : T) × holds k x × (get_elem? s.homes 0 ≡ some (some (Some x))))

    -- one hand at most has the lock, and then the value is out; a hand that has closed the lock knows that it is closed
    abbrev pub KnowsTheLock : K → ℕ → State (Option T) (Hand K) → ℕ → Hand K → Type 0
    KnowsTheLock k holder s id h = (h.key ≡ k) × (h.has_it ≡ true → SaysOut s.words × (id ≡ holder)) × (h.closed ≡ true → Emptied s)

    -- the rule: the lock is free, taken by a hand that is there, or closed, and each hand knows what is so
    abbrev pub Latched : K → State (Option T) (Hand K) → Type 0
    Latched k s = (holder : ℕ) × (AtHome k s ⊎ (IsOut k holder s ⊎ Emptied s))
        × ((id : ℕ) (h : Hand K) → get_elem? s.views id ≡ some h → KnowsTheLock k holder s id h)

    -- where the word was 0, the value is in the hand
    abbrev pub Took : Step (Option T) → Me (Option T) (Hand K) → ℕ → Me (Option T) (Hand K) → Type 0
    Took st me found me' = (found ≡ 0 → (me'.0 ≡ holding me.0.key) × ((x : T) × holds me.0.key x × (me'.1 ≡ (0, Some x) ∷ [])))
        × (found ≢ 0 → me' ≡ me)

  -- a new hand knows the key
  abbrev pub Sat : Step (Option T) → Me (Option T) (Hand K) → ℕ → Me (Option T) (Hand K) → Type 0
  Sat st me found me' = me' ≡ (idle me.0.key, [])

  -- a mark tells nothing
  abbrev pub Marked : Step (Option T) → Me (Option T) (Hand K) → ℕ → Me (Option T) (Hand K) → Type 0
  Marked st me found me' = me' ≡ me

  -- the hand of the one who had the value becomes this
  abbrev pub Ends : (K → Hand K) → Step (Option T) → Me (Option T) (Hand K) → ℕ → Me (Option T) (Hand K) → Type 0
  Ends to st me stored me' = me'.0 ≡ to me.0.key
