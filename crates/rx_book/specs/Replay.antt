-- A history as the calls that made it, one after another.
use Rattle.std.specs.Prelude.{◌≡◌, ℕ, List, [], ◌∷◌, ◌++◌}
use Rattle.rx_book.specs.declared.views.Stamped.{Stamped}
use Rattle.rx_book.specs.History.{items_of, stamp_all}

-- one call: its caller, what was asked and answered, and what it appended
pub record Call (I P R : Type 0) : Type 0 where
  pub by : List ℕ
  pub op : P
  pub reply : R
  pub added : List I

module _ {I P R : Type 0} (step : List I → P → R → List I → Type 0) where
  -- each call is a step from the entries that the calls before it left, and the last leaves the history h
  abbrev pub Follows : List (Stamped I) → List (Call I P R) → List (Stamped I) → Type 0
  Follows before [] h = h ≡ before
  Follows before (c ∷ cs) h = step (items_of before) c.op c.reply c.added × Follows (before ++ stamp_all c.by c.added) cs h

  -- some calls, made one after another from no entries on, leave just this history
  abbrev pub Replays : List (Stamped I) → Type 0
  Replays h = (calls : List (Call I P R)) × Follows [] calls h
