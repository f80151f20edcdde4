-- The rule of the list of all that was shown, over what each seat has seen of it, and what each step makes of a view.
use Rattle.std.specs.Prelude.{◌≡◌, ℕ, true, false, List, [], ◌∷◌, ◌++◌}
use mathlib.Core.Option.{some}
use mathlib.Core.List.{IsPrefix}
use lib.ListN.{get_elem?}
use Rattle.atomic_table.specs.Table.{State, Me, Step}
use Rattle.rx_monitor.specs.declared.summary.Summary.{Summary}
use Rattle.rx_monitor.specs.declared.shown_list.View.{View}
use Rattle.rx_monitor.specs.Boards.{longer}

-- the first seat: it has the mark
abbrev pub opening_view : View
opening_view = record { marked = true; seen = []; also = [] }

-- a seat that has seen nothing; a spent seat is left with it
abbrev pub blank : View
blank = record { marked = false; seen = []; also = [] }

-- the view of a note
abbrev pub noted : View → View
noted v = record { marked = false; seen = v.seen; also = [] }

-- the view after a join, which tells nothing yet
abbrev pub met : View → View → View
met v w = record v { also = w.seen }

-- the view once the longer list is known
abbrev pub settled : View → View
settled v = record v { seen = longer v.seen v.also; also = [] }

-- the view after an append
abbrev pub grown : View → Summary → View
grown v x = record v { seen = v.seen ++ x ∷ [] }

-- the view v of the seat id. The seat `holder` has the mark
pub record SeatFits (log : List Summary) (holder id : ℕ) (v : View) : Type 0 where
  pub prefix : IsPrefix v.seen log
  pub also : IsPrefix v.also log
  pub mark : v.marked ≡ true → (id ≡ holder) × (v.seen ≡ log)

-- there is one list, and each view fits
pub record ListKept (s : State Summary View) : Type 0 where
  pub log : List Summary
  pub holder : ℕ
  pub each : (id : ℕ) (v : View) → get_elem? s.views id ≡ some v → SeatFits log holder id v

-- the summary that is announced joins the list
abbrev pub Grows : Step Summary → Me Summary View → ℕ → Me Summary View → Type 0
Grows st me found me' = (x : Summary) → st.said ≡ some x → me' ≡ (grown me.0 x, me.1)

-- both lists begin the longer one, and that of the seat with the mark is the longer one itself
abbrev pub Settles : Step Summary → Me Summary View → ℕ → Me Summary View → Type 0
Settles st me found me' =
    (me' ≡ (settled me.0, me.1)) × IsPrefix me.0.seen (longer me.0.seen me.0.also) × IsPrefix me.0.also (longer me.0.seen me.0.also)
    × (me.0.marked ≡ true → longer me.0.seen me.0.also ≡ me.0.seen)
