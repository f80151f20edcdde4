-- What the items of a watch say, where what was shown are summaries of one history.
use Rattle.std.specs.Prelude.{◌≡◌, ℕ, ◌≤◌, List, [], ◌∷◌, ◌++◌, map}
use Rattle.rx_monitor.specs.declared.summary.Summary.{Summary}
use Rattle.rx_monitor.specs.Boards.{EndsWith, IsWatched}

-- numbers that never fall, none below `low`
abbrev pub Rises : ℕ → List ℕ → Type 0
Rises low [] = Unit {0}
Rises low (m ∷ ms) = (low ≤ m) × Rises m ms

-- the lengths of the items never fall
abbrev pub NeverShrinks : ℕ → List Summary → Type 0
NeverShrinks low [] = Unit {0}
NeverShrinks low (x ∷ xs) = (low ≤ x.len) × NeverShrinks x.len xs

-- each item is the summary of as many entries as it says
abbrev pub AreSums : (ℕ → Summary) → List Summary → Type 0
AreSums sum [] = Unit {0}
AreSums sum (x ∷ xs) = (x ≡ sum x.len) × AreSums sum xs

-- Where the summaries shown are those of the first m entries, for numbers m that never fall and end with `last`: each item is the
-- summary of as many entries as it says, the items never shrink, and the last one is that of `last` entries.
abbrev pub WatchTells : Type 0
WatchTells =
    (sum : ℕ → Summary) → ((m : ℕ) → (sum m).len ≡ m) → (ms : List ℕ) (last : ℕ) (items : List Summary)
    → Rises 0 (ms ++ last ∷ []) → IsWatched (map sum (ms ++ last ∷ [])) items
    → AreSums sum items × NeverShrinks 0 items × EndsWith items (sum last)
