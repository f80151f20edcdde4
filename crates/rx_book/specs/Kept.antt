-- The rule of a book's word, over the views of all seats at it, and what each step on the word makes of a view. The contracts of
-- a book rest on it; of it they name only the views that a split makes.
use Rattle.std.specs.Prelude.{◌≡◌, ℕ, ◌+◌, ◌*◌, ◌/◌, ◌%◌, ◌<◌, ◌≤◌, true, false, ◌||◌, Option, List, [], ◌∷◌, ◌++◌, length, take, drop}
use Rattle.std.specs.Prelude.{max, bit_or}
use mathlib.Core.Option.{some}
use mathlib.Core.List.{IsPrefix}
use lib.ListN.{get_elem?}
use Rattle.atomic_table.specs.Table.{State, Me, Step}
use Rattle.rx_book.specs.declared.views.Stamped.{Stamped}
use Rattle.rx_book.specs.declared.views.Past.{Past}
use Rattle.rx_book.specs.declared.views.View.{View}
use Rattle.rx_book.specs.Numbers.{child}
use Rattle.rx_book.specs.History.{stamp_all, entries_by, deaths_of}

-- the number d was split off: from each c with which it begins, by a k below the number of splits from c
abbrev pub Born : (List ℕ → ℕ) → List ℕ → Type 0
Born births d = (c : List ℕ) (k : ℕ) (rest : List ℕ) → d ≡ c ++ k ∷ rest → k < births c

module _ {I : Type 0} where
  -- of a seat that took part in no join
  abbrev pub no_past : Past I
  no_past = record { marked = false; seen = []; reach = 0; dead = 0 }

  -- what a seat has seen now
  abbrev pub past_of : View I → Past I
  past_of v = record { marked = v.marked; seen = v.seen; reach = v.reach; dead = v.dead }

  -- a seat that has seen nothing; a spent seat is left with it
  abbrev pub blank : View I
  blank = record {
    marked = false;
    numbered = false;
    number = [];
    splits = 0;
    seen = [];
    mine = [];
    reach = 0;
    dead = 0;
    first = no_past;
    second = no_past;
  }

  -- the first seat: caller [], with the mark
  abbrev pub opening_view : View I
  opening_view = record blank { marked = true; numbered = true }

  module _ (place : I → Option ℕ) where
    -- what was seen begins the log, and its deaths are those of so many entries
    pub record SeenIsPrefix (log : List (Stamped I)) (p : Past I) : Type 0 where
      pub prefix : IsPrefix p.seen log
      pub low : length p.seen ≤ p.reach
      pub high : p.reach ≤ length log
      pub deaths : p.dead ≡ deaths_of place (take p.reach log)

    -- the view v of the seat id. The seat `holder` has the mark, `owner` is the seat of a number, and `births` is how many
    -- numbers were split off from one
    pub record Fits (log : List (Stamped I)) (holder : ℕ) (owner births : List ℕ → ℕ) (id : ℕ) (v : View I) : Type 0 where
      pub now : SeenIsPrefix log (past_of v)
      pub first : SeenIsPrefix log v.first
      pub second : SeenIsPrefix log v.second
      pub whole : v.second.marked ≡ true → (v.marked ≡ true) × (v.second.seen ≡ log)
      pub mark : v.marked ≡ true → (id ≡ holder) × (v.seen ≡ log)
      pub own : v.numbered ≡ true → (v.mine ≡ entries_by v.number log) × (v.mine ≡ entries_by v.number v.seen)
      pub alone : v.numbered ≡ true → owner v.number ≡ id
      pub counted : v.numbered ≡ true → births v.number ≡ v.splits
      pub born : v.numbered ≡ true → Born births v.number

    -- the word is the length and the deaths of one log. No number has been split off beyond the count of its parent, and each view fits
    pub record Kept (s : State (Unit {0}) (View I)) : Type 0 where
      pub log : List (Stamped I)
      pub holder : ℕ
      pub owner : List ℕ → ℕ
      pub births : List ℕ → ℕ
      pub word : s.words ≡ (65536 * length log + deaths_of place log) ∷ []
      pub short : length log < 4294967296
      pub small : deaths_of place log < 65536
      pub unborn : (c : List ℕ) (k : ℕ) (rest : List ℕ) → births c ≤ k → entries_by (c ++ k ∷ rest) log ≡ []
      pub idle : (c : List ℕ) (k : ℕ) (rest : List ℕ) → births c ≤ k → births (c ++ k ∷ rest) ≡ 0
      pub each : (id : ℕ) (v : View I) → get_elem? s.views id ≡ some v → Fits log holder owner births id v

  -- the view after a load that found n
  abbrev pub looked : View I → ℕ → View I
  looked v n = record v { reach = n / 65536; dead = n % 65536 }

  -- what a load tells: it found no less than had been seen
  abbrev pub Looks : Step (Unit {0}) → Me (Unit {0}) (View I) → ℕ → Me (Unit {0}) (View I) → Type 0
  Looks st me found me' = (me' ≡ (looked me.0 found, me.1)) × (me.0.reach ≤ found / 65536) × (found / 65536 < 4294967296)
      × (bit_or me.0.dead (found % 65536) ≡ found % 65536)

  -- what a load tells of the seat's own view, where it changes nothing: there is one log, which begins with all that was seen
  abbrev pub Told : (I → Option ℕ) → View I → Type 0
  Told place v = (log : List (Stamped I)) × SeenIsPrefix place log (past_of v) × SeenIsPrefix place log v.first
      × SeenIsPrefix place log v.second
      × (v.marked ≡ true → v.seen ≡ log) × (v.second.marked ≡ true → v.second.seen ≡ log)
      × (v.numbered ≡ true → (v.mine ≡ entries_by v.number log) × (v.mine ≡ entries_by v.number v.seen))

  -- a load that only tells
  abbrev pub OnlyTells : (I → Option ℕ) → Step (Unit {0}) → Me (Unit {0}) (View I) → ℕ → Me (Unit {0}) (View I) → Type 0
  OnlyTells place st me found me' = (me' ≡ me) × Told place me.0

  -- the view after an append of these items
  abbrev pub grown : (I → Option ℕ) → View I → List I → View I
  grown place v xs = record v {
    seen = v.seen ++ stamp_all v.number xs;
    mine = v.mine ++ stamp_all v.number xs;
    reach = length (v.seen ++ stamp_all v.number xs);
    dead = deaths_of place (v.seen ++ stamp_all v.number xs);
    first = no_past;
    second = no_past;
  }

  -- an append
  abbrev pub Grows : (I → Option ℕ) → List I → Step (Unit {0}) → Me (Unit {0}) (View I) → ℕ → Me (Unit {0}) (View I) → Type 0
  Grows place xs st me found me' = me' ≡ (grown place me.0 xs, me.1)

  -- a view that tells nothing of a join
  abbrev pub settled : View I → View I
  settled v = record v { first = no_past; second = no_past }

  -- the view of a caller from whom one was split: it counts the split
  abbrev pub parent_left : View I → View I
  parent_left v = record v { splits = v.splits + 1 }

  -- the view of the caller that was split off: it has seen as much, has the next number and no entries
  abbrev pub born : View I → View I
  born v = record v { marked = false; number = child v.number v.splits; splits = 0; mine = []; first = no_past; second = no_past }

  -- the view of a note
  abbrev pub noted : View I → View I
  noted v = record v { marked = false; numbered = false; number = []; splits = 0; mine = []; first = no_past; second = no_past }

  -- the view of a seat whose mark was split off
  abbrev pub unmarked : View I → View I
  unmarked v = record v { marked = false; first = no_past; second = no_past }

  -- the view of the seat with the mark
  abbrev pub mark_only : View I → View I
  mark_only v = record v { numbered = false; number = []; splits = 0; mine = []; first = no_past; second = no_past }

  -- the view after a join: the longer `seen`, the greater `reach` with its deaths, and the mark
  abbrev pub both : View I → View I → View I
  both v w = record v {
    marked = v.marked || w.marked;
    seen = v.seen ++ drop (length v.seen) w.seen;
    reach = max v.reach w.reach;
    dead = bit_or v.dead w.dead;
    first = past_of v;
    second = past_of w;
  }
