-- What the board of the ledger's object shows: its history as it grew.
use Rattle.std.specs.Prelude.{◌≡◌, ℕ, ◌+◌, ◌*◌, ◌≤◌, Bool, false, List, [], ◌∷◌, ◌++◌, map, take, length, Option, Some, None, cond, is_some}
use Rattle.atomic_table.specs.Seated.{TableId}
use Rattle.rx_rules.specs.declared.entries.Entry.{Entry}
use Rattle.rx_rules.specs.Tree.{Tree}
use Rattle.rx_rules.specs.Fold.{tree_of}
use Rattle.rx_finish.specs.Totals.{totals_of}
use Rattle.rx_ledger.specs.Kept.{KeeperView}
use Rattle.rx_monitor.specs.declared.summary.Summary.{Summary}
use Rattle.rx_monitor.specs.Boards.{Listing}
use Rattle.rx_monitor.specs.Sums.{Rises}

-- the set of the places that are dead, of which each has a bit: that of the first one is the lowest
abbrev pub dead_bits : List (Option ℕ) → ℕ
dead_bits [] = 0
dead_bits (d ∷ ds) = cond (is_some d) 1 0 + 2 * dead_bits ds

-- the summary of a tree to which m entries fold
abbrev pub summary_at : ℕ → Tree → Summary
summary_at m T =
    record {
      len = m;
      scopes = (totals_of T).scopes;
      live = (totals_of T).live;
      travel = (totals_of T).travel;
      dead = record { 0 = dead_bits T.dead };
    }

-- the summary of the first m entries
abbrev pub summary_of : ℕ → List Entry → ℕ → Summary
summary_of places es m = summary_at m (tree_of places (take m es))

-- the summary of all entries of a keeper
abbrev pub whole_of : KeeperView → Summary
whole_of k = summary_of k.setup.places k.entries (length k.entries)

-- which board it is, if there is one
abbrev pub board_of : Option Listing → Option TableId
board_of None = None
board_of (Some l) = Some l.board

-- the summaries shown are those of the first m entries, for numbers m that never fall and end with `last`
pub record ShowsUpTo (places : ℕ) (es : List Entry) (last : ℕ) (shown : List Summary) : Type 0 where
  pub earlier : List ℕ
  pub rises : Rises 0 (earlier ++ last ∷ [])
  pub within : last ≤ length es
  pub shown_are : shown ≡ map (summary_of places es) (earlier ++ last ∷ [])

-- a board, if there is one, shows such summaries; the last is that of all entries, unless it is late
abbrev pub BoardShows : ℕ → List Entry → Bool → Option Listing → Type 0
BoardShows places es late None = Unit {0}
BoardShows places es late (Some l) = (last : ℕ) × ShowsUpTo places es last l.list × (late ≡ false → last ≡ length es)
