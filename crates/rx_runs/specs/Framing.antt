-- How a task's term and its row in the tree fit: the term's open bodies and waits are the scopes that it opened.
use Rattle.std.specs.Prelude.{◌≡◌, ℕ, Bool, true, false, List, [], ◌∷◌, ◌++◌, filter, map, slice_get, Some, None}
use Rattle.rx_base.specs.declared.ids.TaskId.{TaskId}
use Rattle.rx_rules.specs.declared.tasks.Task.{Task}
use Rattle.rx_rules.specs.declared.tasks.Kind.{Kind}
use Rattle.rx_rules.specs.declared.tasks.Kind.TheVariants.{Finish}
use Rattle.rx_rules.specs.Terms.{Term, Empty, Raise, Run, Turns, Trying, Body, Held}
use Rattle.rx_rules.specs.Tree.{Tree, task_of, opened_by}
use Rattle.rx_rules.specs.Code.{Block}
use Rattle.rx_rules.specs.Run.{Given, NoRoot}
use Rattle.rx_rules.specs.Picked.{Player, Game, Turn, tree_in, start_game}
use Rattle.rx_runs.specs.Games.{GameOk}

-- the scopes in which a term stands, the innermost first: whether it waits there
abbrev pub frames : Term → List Bool
frames (Trying inside dead_only handler x rest) = frames inside
frames (Body inside rest) = frames inside ++ false ∷ []
frames (Held rest) = true ∷ []
frames _ = []

-- the term waits
abbrev pub first : List Bool → Bool
first [] = false
first (b ∷ bs) = b

-- a list of items in which no try and no scope stands open
abbrev pub Flat : Term → Type 0
Flat Empty = Unit {0}
Flat (Raise faults) = Unit {0}
Flat (Run stmt x rest) = Flat rest
Flat (Turns body x k times rest) = Flat rest
Flat _ = ⊥

-- what comes after an item is flat
abbrev pub FlatAfterItem : Term → Type 0
FlatAfterItem Empty = Unit {0}
FlatAfterItem (Raise faults) = Unit {0}
FlatAfterItem (Run stmt x rest) = Flat rest
FlatAfterItem (Turns body x k times rest) = Flat rest
FlatAfterItem (Trying inside dead_only handler x rest) = FlatAfterItem inside × Flat rest
FlatAfterItem (Body inside rest) = FlatAfterItem inside × Flat rest
FlatAfterItem (Held rest) = Flat rest

-- the kinds of the scopes that a task opened and that stand, the newest first
abbrev pub kinds_of : Tree → TaskId → List Kind
kinds_of T t = map (λ g. g.kind) (filter (opened_by t) T.scopes)

-- one frame for each scope; a body is that of a finish
abbrev pub Match : List Bool → List Kind → Type 0
Match [] [] = Unit {0}
Match (b ∷ bs) (k ∷ ks) = (b ≡ false → k ≡ Finish) × Match bs ks
Match [] (k ∷ ks) = ⊥
Match (b ∷ bs) [] = ⊥

-- the term fits to the task's scopes and to whether it waits
pub record TermFits (kinds : List Kind) (waits : Bool) (t : Term) : Type 0 where
  pub shape : FlatAfterItem t
  pub frames_are : Match (frames t) kinds
  pub waits_is : waits ≡ first (frames t)

-- the same of each unstruck task
abbrev pub TermsFit : Tree → List Player → Type 0
TermsFit T players = (u : TaskId) (x : Task) (p : Player) → task_of T u ≡ Some x → x.struck ≡ None → slice_get players u.0 ≡ Some p
    → TermFits (kinds_of T u) x.waits p.term

-- before the first turn the terms fit
abbrev pub StartsFit : Type 0
StartsFit = (code : Block) (U : Given) → TermsFit (tree_in U (start_game code U)) (start_game code U).players

-- each turn that does not release the root keeps it so
abbrev pub TurnKeepsFit : Type 0
TurnKeepsFit = (code : Block) (U : Given) (k : ℕ) (used : Bool) (G G' : Game) → GameOk code U G → TermsFit (tree_in U G) G.players
    → Turn U k G used G' → NoRoot G'.entries → TermsFit (tree_in U G') G'.players
