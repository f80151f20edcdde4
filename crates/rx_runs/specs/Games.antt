-- What holds of each game that turns have made and in which the root is not yet released.
use Rattle.rx_rules.specs.Terms.{Vars, no_vars}
use Rattle.std.specs.Prelude.{◌≡◌, ℕ, suc, ◌+◌, ◌≤◌, Bool, true, false, List, [], ◌∷◌, length, slice_get, Some, None, ◌⊎◌}
use Rattle.std.specs.List.{filter_map}
use Rattle.rx_base.specs.declared.ids.TaskId.{TaskId}
use Rattle.rx_rules.specs.declared.entries.Act.{Act}
use Rattle.rx_rules.specs.declared.entries.Act.TheVariants.{Arrive}
use Rattle.rx_rules.specs.declared.events.Cell.{Cell}
use Rattle.rx_rules.specs.declared.entries.Entry.{Entry}
use Rattle.rx_rules.specs.declared.events.PlaceEvent.{PlaceEvent}
use Rattle.rx_rules.specs.declared.events.PlaceEvent.TheVariants.{Done as Did}
use Rattle.rx_rules.specs.Code.{Block}
use Rattle.rx_rules.specs.Terms.{Term, Empty, items}
use Rattle.rx_rules.specs.Fold.{births}
use Rattle.rx_rules.specs.Plays.{Birth, BeginsWithArrival, birth_of, travels, cell_of, journal_at, moves_from}
use Rattle.rx_rules.specs.Store.{State, IsStoreRun, opening_state, MayCell, after_cell}
use Rattle.rx_rules.specs.Run.{Given, in_all, plan_of, Folds, AtHome, NotFalling, ClosesAt, stamp_of, death_number}
use Rattle.rx_rules.specs.Picked.{Player, Game, Turn, start_game}
use Rattle.rx_rules.specs.Fold.{tree_of}
use Rattle.rx_runs.specs.Segments.{Stand, StandGoes, plan_left}
use Rattle.rx_rules.specs.Run.{NoRoot}
use Rattle.rx_runs.specs.Ties.{has_end, Ties, MayCome}
use Rattle.rx_rules.specs.Run.{Proper}

-- where a player stands
abbrev pub stand : ℕ → Player → Stand
stand low p = record { low = low; vars = p.vars; term = p.term; batch = p.batch }

-- a player at its start
abbrev pub fresh : Term × Vars → Player
fresh s = record { term = s.0; vars = s.1; batch = [] }

-- where a task has landed: at birth, or by its first move
abbrev pub Landed : Birth → List (ℕ × Act × List (List ℕ)) → ℕ → List (ℕ × Act × List (List ℕ)) → Type 0
Landed b moves low rest = (travels b ≡ false) × (moves ≡ rest) × (low ≡ b.low)
    ⊎ ((n : ℕ) × (travels b ≡ true) × (moves ≡ (n, Arrive b.to, []) ∷ rest) × (low ≡ suc n))

-- a task that travels still, one that goes on, and one that has ended
pub data TaskSo (starts : List (Term × Vars)) (size : ℕ) (b : Birth) (start : Term × Vars)
    (cells : List (ℕ × Cell × List ℕ)) (moves : List (ℕ × Act × List (List ℕ))) (p : Player) : Type 0 where
  away : travels b ≡ true → moves ≡ [] → cells ≡ [] → p ≡ fresh start → b.low ≤ size → TaskSo starts size b start cells moves p
  going : (low now : ℕ) (rest : List (ℕ × Act × List (List ℕ))) → Landed b moves low rest
      → StandGoes starts b.to (stand low (fresh start)) cells rest (stand now p) → now ≤ size
      → TaskSo starts size b start cells moves p
  over : has_end moves ≡ true → BeginsWithArrival starts b.to (travels b) b.low start.1 start.0 cells moves
      → TaskSo starts size b start cells moves p

-- the pairs of two lists of one length, from number n on
abbrev pub Pairs : {A B : Type 0} → (ℕ → A → B → Type 0) → ℕ → List A → List B → Type 0
Pairs P n [] [] = Unit {0}
Pairs P n (a ∷ xs) (b ∷ ys) = P n a b × Pairs P (suc n) xs ys
Pairs P n [] (b ∷ ys) = ⊥
Pairs P n (a ∷ xs) [] = ⊥

-- what a player is for the entries and events of its task
abbrev pub PlayerSo : List (Term × Vars) → List Entry → List (List PlaceEvent) → ℕ → Term × Vars → Player → Type 0
PlayerSo starts es js n s p =
    TaskSo starts (length es) (birth_of es n) s (filter_map (cell_of n) (journal_at js (birth_of es n).to.0)) (moves_from 0 es n) p

-- the journal leads the store from S to Z
pub data Leads (w : ℕ) : State → List PlaceEvent → State → Type 0 where
  rests : {S : State} → Leads w S [] S
  steps : {S Z : State} {j : List PlaceEvent} (t : TaskId) (n : ℕ) (cell : Cell) (x : List ℕ) → MayCell w S cell
      → Leads w (after_cell S cell) j Z → Leads w S (Did t n cell x ∷ j) Z

-- no stamp is above n
abbrev pub NotAbove : ℕ → List PlaceEvent → Type 0
NotAbove n [] = Unit {0}
NotAbove n (e ∷ j) = (stamp_of e ≤ n) × NotAbove n j

-- a journal meets the store law, that of a place that lives leads to its store, and its events are of tasks of its place
pub record JournalSo (U : Given) (es : List Entry) (p : ℕ) (j : List PlaceEvent) (S : State) : Type 0 where
  pub law : IsStoreRun U.heap opening_state j
  pub live : death_number 0 (record { 0 = p }) es ≡ None → Leads U.heap opening_state j S
  pub homes : AtHome es p j
  pub rising : NotFalling 0 j
  pub top : NotAbove (length es) j
  pub closed : ClosesAt (death_number 0 (record { 0 = p }) es) j

-- what each turn keeps
pub record GameOk (code : Block) (U : Given) (G : Game) : Type 0 where
  pub starts : List (Term × Vars)
  pub main : slice_get starts 0 ≡ Some (items code [] Empty, no_vars U.places)
  pub all : length starts ≡ 1 + births G.entries
  pub folds : Folds U G.entries
  pub few : in_all U ≤ 16
  pub left : G.plan ≡ plan_left (plan_of U) G.entries
  pub no_root : NoRoot G.entries
  pub each : Pairs (PlayerSo starts G.entries G.journals) 0 starts G.players
  pub one_each : length G.journals ≡ in_all U
  pub journals : Pairs (JournalSo U G.entries) 0 G.journals G.stores
  pub plan : MayCome (in_all U) (tree_of U.places G.entries).places G.entries G.plan
  pub ties : Ties (in_all U) (length starts) G.entries (tree_of U.places G.entries)
  -- a task that is not yet born has done nothing at a store
  pub silent : (t p : ℕ) → length starts ≤ t → filter_map (cell_of t) (journal_at G.journals p) ≡ []

-- the game before the first turn is so
abbrev pub StartsOk : Type 0
StartsOk = (code : Block) (U : Given) → Proper U → GameOk code U (start_game code U)

-- a turn that does not release the root keeps it so
abbrev pub TurnKeeps : Type 0
TurnKeeps = (code : Block) (U : Given) (k : ℕ) (used : Bool) (G G' : Game) → GameOk code U G → Turn U k G used G'
    → NoRoot G'.entries → GameOk code U G'
