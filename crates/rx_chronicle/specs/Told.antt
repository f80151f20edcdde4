-- What a history tells of scopes and places, and whether it has ended.
use Rattle.std.specs.Prelude.{◌≡◌, ℕ, ◌<◌, ◌==◌, ◌||◌, Bool, true, false, List, [], ◌∷◌, ◌++◌, slice_index_or}
use Rattle.rx_base.specs.Sets.{has_bit}
use Rattle.rx_base.specs.declared.place_set.PlaceSet.{PlaceSet}
use Rattle.rx_base.specs.declared.ids.TaskId.{TaskId}
use Rattle.rx_base.specs.declared.ids.ScopeId.{ScopeId}
use Rattle.rx_rules.specs.declared.entries.Act.{Act}
use Rattle.rx_rules.specs.declared.entries.Act.TheVariants.{Open, At as Calls}
use Rattle.rx_rules.specs.declared.entries.Entry.{Entry}
use Rattle.rx_rules.specs.declared.entries.Entry.TheVariants.{Step, Root, Death, Join}
use Rattle.rx_rules.specs.Tree.{the_root}
use Rattle.rx_rules.specs.Fold.{tree_of}
use Rattle.rx_rules.specs.Run.{Given, NoRoot, EndsWithRoot}
use Rattle.rx_history.specs.Setups.{to_join}

-- the parent of the scope that an act opens
abbrev pub parents_by : Act → List ScopeId
parents_by (Open s r path) = r ∷ []
parents_by (Calls from to s r callee path) = r ∷ []
parents_by _ = []

-- the parents of the scopes that the entries open, in their order
abbrev pub parents_in : List Entry → List ScopeId
parents_in [] = []
parents_in (Step t act batch ∷ es) = parents_by act ++ parents_in es
parents_in (Root lost masked thrown ∷ es) = parents_in es
parents_in (Death d ∷ es) = parents_in es
parents_in (Join d ∷ es) = parents_in es

-- the parent of each scope by its number; the root, which has none, stands first with itself
abbrev pub parents_told : List Entry → List ScopeId
parents_told es = the_root ∷ parents_in es

-- the parent of the scope, as the entries tell it
abbrev pub parent_told : List Entry → ScopeId → ScopeId
parent_told es s = slice_index_or (parents_told es) s.0 the_root

-- the task that opens the scope which its act opens
abbrev pub openers_by : TaskId → Act → List TaskId
openers_by t (Open s r path) = t ∷ []
openers_by t (Calls from to s r callee path) = t ∷ []
openers_by t _ = []

-- the openers of the scopes that the entries open, in their order
abbrev pub openers_in : List Entry → List TaskId
openers_in [] = []
openers_in (Step t act batch ∷ es) = openers_by t act ++ openers_in es
openers_in (Root lost masked thrown ∷ es) = openers_in es
openers_in (Death d ∷ es) = openers_in es
openers_in (Join d ∷ es) = openers_in es

-- what stands for the opener of the root, which nobody opened
abbrev pub no_opener : TaskId
no_opener = record { 0 = 0 }

-- the opener of each scope by its number
abbrev pub openers_told : List Entry → List TaskId
openers_told es = no_opener ∷ openers_in es

-- the opener of the scope, as the entries tell it
abbrev pub opener_told : List Entry → ScopeId → TaskId
opener_told es s = slice_index_or (openers_told es) s.0 no_opener

-- whether the death of the place p stands among the entries
abbrev pub dies_in : ℕ → List Entry → Bool
dies_in p [] = false
dies_in p (Step t act batch ∷ es) = dies_in p es
dies_in p (Root lost masked thrown ∷ es) = dies_in p es
dies_in p (Death d ∷ es) = (d.0 == p) || dies_in p es
dies_in p (Join q ∷ es) = dies_in p es

-- the set is that of the places that die in the entries
abbrev pub HasDead : PlaceSet → List Entry → Type 0
HasDead set es = (p : ℕ) → p < 16 → has_bit set.0 p ≡ dies_in p es

-- how many places have not joined yet
abbrev pub left_to_join : Given → List Entry → ℕ
left_to_join U es = to_join U (tree_of U.places es)

-- the root's release is the last entry, or there is none
abbrev pub Ending : Bool → List Entry → Type 0
Ending true es = EndsWithRoot es
Ending false es = NoRoot es

-- the same, whichever it is
abbrev pub RootLast : List Entry → Type 0
RootLast es = (e : Bool) × Ending e es
