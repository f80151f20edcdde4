-- What the calls of a book say, of what a pass has seen before and after.
use Rattle.std.specs.Prelude.{◌≡◌, ℕ, ◌≤◌, true, Option, List, [], ◌++◌, length, take, max, bit_or}
use mathlib.Core.List.{IsPrefix}
use Rattle.rx_base.specs.Sets.{has_bit}
use Rattle.rx_book.specs.declared.views.Stamped.{Stamped}
use Rattle.rx_book.specs.declared.views.View.{View}
use Rattle.rx_book.specs.History.{items_of, stamp_all, entries_by, deaths_of}
use Rattle.rx_book.specs.Replay.{Replays}

module _ {I : Type 0} where
  -- a pass of the first caller, who has seen nothing
  pub record IsFresh (v : View I) : Type 0 where
    pub number : v.number ≡ []
    pub splits : v.splits ≡ 0
    pub seen : v.seen ≡ []
    pub mine : v.mine ≡ []
    pub reach : v.reach ≡ 0
    pub dead : v.dead ≡ 0

  -- the history h begins with all that was seen, with these deaths, and has just these entries of the caller
  pub record BeginsWithSeen (place : I → Option ℕ) (v : View I) (h : List (Stamped I)) : Type 0 where
    pub prefix : IsPrefix v.seen h
    pub long : v.reach ≤ length h
    pub deaths : v.dead ≡ deaths_of place (take v.reach h)
    pub own : v.mine ≡ entries_by v.number h

  -- a call, by a pass with the view v, which has the view w afterwards: it was made at one point of the history, after what the
  -- pass had seen and what others had appended since, and what it appended is the history's end
  pub record Called {P R : Type 0} (place : I → Option ℕ) (step : List I → P → R → List I → Type 0)
      (legal : List (Stamped I) → Type 0) (v : View I) (op : P) (reply : R) (w : View I) : Type 0 where
    pub between : List (Stamped I)
    pub added : List I
    pub long : v.reach ≤ length (v.seen ++ between)
    pub deaths : v.dead ≡ deaths_of place (take v.reach (v.seen ++ between))
    pub replied : step (items_of (v.seen ++ between)) op reply added
    pub whole : w.seen ≡ (v.seen ++ between) ++ stamp_all v.number added
    pub more : w.mine ≡ v.mine ++ stamp_all v.number added
    pub own : w.mine ≡ entries_by v.number w.seen
    pub lawful : legal w.seen
    pub replayed : Replays step w.seen
    pub reached : w.reach ≡ length w.seen
    pub died : w.dead ≡ deaths_of place w.seen
    pub same : (w.number ≡ v.number) × (w.splits ≡ v.splits)

  -- a pass with the view v met a note with the view n, and has the view w afterwards
  pub record Met (place : I → Option ℕ) (v n w : View I) : Type 0 where
    pub ours : IsPrefix v.seen w.seen
    pub theirs : IsPrefix n.seen w.seen
    pub longer : length w.seen ≡ max (length v.seen) (length n.seen)
    pub greater : w.reach ≡ max v.reach n.reach
    pub our_deaths : v.reach ≤ length w.seen → v.dead ≡ deaths_of place (take v.reach w.seen)
    pub their_deaths : n.reach ≤ length w.seen → n.dead ≡ deaths_of place (take n.reach w.seen)
    -- no death is lost, and the deaths are those of the greater reach
    pub dead : w.dead ≡ bit_or v.dead n.dead
    pub newer : (w.reach ≡ v.reach → w.dead ≡ v.dead) × (w.reach ≡ n.reach → w.dead ≡ n.dead)
    pub mine : w.mine ≡ v.mine
    pub own : w.mine ≡ entries_by v.number w.seen
    pub same : (w.number ≡ v.number) × (w.splits ≡ v.splits)

  -- a look at the word, by a pass with the view v, which has the view w afterwards
  pub record Looked (v w : View I) : Type 0 where
    pub later : v.reach ≤ w.reach
    -- no death is lost
    pub dead : (p : ℕ) → has_bit v.dead p ≡ true → has_bit w.dead p ≡ true
    pub same : (w.seen ≡ v.seen) × (w.mine ≡ v.mine) × (w.number ≡ v.number) × (w.splits ≡ v.splits)

  -- the object at the end, with some history that is legal and replays to it
  pub record Ended {O P R : Type 0} (entries : O → List I) (step : List I → P → R → List I → Type 0)
      (legal : List (Stamped I) → Type 0) (o : O) : Type 0 where
    pub history : List (Stamped I)
    pub whole : entries o ≡ items_of history
    pub lawful : legal history
    pub replayed : Replays step history

  -- the same, where the history begins with what the view v had seen
  pub record Closed {O P R : Type 0} (place : I → Option ℕ) (entries : O → List I) (step : List I → P → R → List I → Type 0)
      (legal : List (Stamped I) → Type 0) (v : View I) (o : O) : Type 0 where
    pub history : List (Stamped I)
    pub whole : entries o ≡ items_of history
    pub lawful : legal history
    pub replayed : Replays step history
    pub begins : BeginsWithSeen place v history
