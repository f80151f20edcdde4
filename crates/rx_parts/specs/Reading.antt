-- What legal histories say, entry by entry and event by event.
use Rattle.std.specs.Prelude.{◌≡◌, ℕ, ◌+◌, cond, ◌==◌, Bool, false, List, [], ◌∷◌, ◌++◌, length, Some, slice_get}
use Rattle.rx_rules.specs.declared.entries.Act.{Act}
use Rattle.rx_rules.specs.declared.entries.Entry.{Entry}
use Rattle.rx_rules.specs.declared.entries.Entry.TheVariants.{Step}
use Rattle.rx_rules.specs.Code.{Block}
use Rattle.rx_rules.specs.Fold.{births}
use Rattle.rx_rules.specs.Plays.{Cells, birth_of, moves_from}
use Rattle.rx_rules.specs.Run.{Given, EndsWithRoot}
use Rattle.rx_parts.specs.Ledger.{LedgerItem, Actor, LegalLedger, entries_of}

-- the entry is of task t
abbrev pub is_of : ℕ → Entry → Bool
is_of t (Step u act batch) = u.0 == t
is_of t _ = false

-- the events that the entries of task t name, in order
abbrev pub named_by : List LedgerItem → ℕ → Cells
named_by [] t = []
named_by (i ∷ h) t = cond (is_of t i.entry) i.events [] ++ named_by h t

-- the birth, the entries and the named events of task t are those of the history
pub record ActorIsOf (h : List LedgerItem) (t : ℕ) (a : Actor) : Type 0 where
  pub birth : a.birth ≡ birth_of (entries_of h) t
  pub moves : a.moves ≡ moves_from 0 (entries_of h) t
  pub named : a.named ≡ named_by h t

-- a legal history says of each task that was born what its entries say
abbrev pub ActorsSay : Type 0
ActorsSay = (code : Block) (U : Given) (h : List LedgerItem) → (legal : LegalLedger code U h)
    → (length legal.actors ≡ 1 + births (entries_of h))
    × ((t : ℕ) (a : Actor) → slice_get legal.actors t ≡ Some a → ActorIsOf h t a)

-- a legal history that has the root's release ends with it
abbrev pub RootEnds : Type 0
RootEnds = (code : Block) (U : Given) (g more : List LedgerItem) → LegalLedger code U (g ++ more) → EndsWithRoot (entries_of g)
    → more ≡ []
