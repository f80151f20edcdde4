-- What ties the tree of a history to what is read from its entries.
use Rattle.std.specs.Prelude.{◌≡◌, ◌≢◌, ℕ, suc, ◌<◌, ◌≤◌, Bool, true, false, List, [], ◌∷◌, length, Option, Some, None}
use Rattle.std.specs.List.{list_any}
use Rattle.rx_base.specs.declared.ids.PlaceId.{PlaceId}
use Rattle.rx_rules.specs.declared.tasks.Where.{Where}
use Rattle.rx_rules.specs.declared.tasks.Where.TheVariants.{At, Travel}
use Rattle.rx_rules.specs.declared.entries.Act.{Act}
use Rattle.rx_rules.specs.declared.entries.Act.TheVariants.{Open, At as Calls, Spawn, Arrive, Wait, Release, End, Print, Census}
use Rattle.rx_rules.specs.declared.tasks.Task.{Task}
use Rattle.rx_rules.specs.declared.entries.Entry.{Entry}
use Rattle.rx_rules.specs.declared.entries.Entry.TheVariants.{Step, Root, Death, Join}
use Rattle.rx_rules.specs.Tree.{Tree, death_of}
use Rattle.rx_rules.specs.Plays.{Birth, Moves, birth_in, birth_of, travels, moves_from}
use Rattle.rx_rules.specs.Run.{Event, death_number}

-- the entry is an end
abbrev pub is_end : ℕ × Act × List (List ℕ) → Bool
is_end (n, Open s r x, batch) = false
is_end (n, Calls from to s r c x, batch) = false
is_end (n, Spawn c s from to x, batch) = false
is_end (n, Arrive p, batch) = false
is_end (n, Wait s thrown, batch) = false
is_end (n, Release s lost masked thrown, batch) = false
is_end (n, End thrown, batch) = true
is_end (n, Print value x, batch) = false
is_end (n, Census places x, batch) = false

-- it has ended
abbrev pub has_end : Moves → Bool
has_end moves = list_any is_end moves

-- born where it stays, or arrived
abbrev pub HasLanded : Birth → Moves → Type 0
HasLanded b [] = travels b ≡ false
HasLanded b (m ∷ ms) = Unit {0}

-- what the place of a task says of its birth and of what it has made
abbrev pub PlaceSo : Birth → Moves → Where → Type 0
PlaceSo b moves (At p) = (b.to ≡ p) × HasLanded b moves
PlaceSo b moves (Travel from p) = (b.to ≡ p) × (travels b ≡ true) × (moves ≡ [])

-- of a task that no death has struck
pub record RowSo (es : List Entry) (n : ℕ) (w : Where) : Type 0 where
  pub place : PlaceSo (birth_of es n) (moves_from 0 es n) w
  pub going : has_end (moves_from 0 es n) ≡ false
  pub lives : death_number 0 (birth_of es n).to es ≡ None

-- the numbers fall, from one below n on
abbrev pub RowsSo : ℕ → List Entry → List Task → Type 0
RowsSo n es [] = Unit {0}
RowsSo n es (x ∷ xs) = (x.number.0 < n) × (x.struck ≡ None → RowSo es x.number.0 x.place) × RowsSo x.number.0 es xs

-- the first birth of a task that stands in the entries
abbrev pub birth_among : ℕ → List Entry → ℕ → Option Birth
birth_among n [] t = None
birth_among n (e ∷ es) t = elim (birth_in n t e) [ Some b ↦ Some b | None ↦ birth_among (suc n) es t ]

-- where so many tasks were born
pub record Ties (q size : ℕ) (es : List Entry) (T : Tree) : Type 0 where
  pub rows : RowsSo size es T.tasks
  pub deaths : (p : PlaceId) → p.0 < 16 → death_of T p ≡ death_number 0 p es
  pub sixteen : length T.dead ≡ 16
  pub within : T.places ≤ q
  pub unborn : (t : ℕ) → size ≤ t → birth_among 0 es t ≡ None
  pub unmoved : (t : ℕ) → size ≤ t → moves_from 0 es t ≡ []

-- no event of the plan is the death of this place
abbrev pub SparesIn : PlaceId → List Event → Type 0
SparesIn p [] = Unit {0}
SparesIn p (x ∷ xs) = (x.entry ≢ Death p) × SparesIn p xs

-- the event may come after the entries, where so many places are there
abbrev pub MayBe : ℕ → List Entry → List Event → Entry → Type 0
MayBe here es xs (Death d) = (d.0 < here) × (d.0 ≢ 0) × (death_number 0 d es ≡ None) × SparesIn d xs
MayBe here es xs (Join p) = p.0 ≡ here
MayBe here es xs (Step t act batch) = ⊥
MayBe here es xs (Root lost masked thrown) = ⊥

-- how many places are there after the event
abbrev pub places_after : Entry → ℕ → ℕ
places_after (Join p) here = suc here
places_after _ here = here

-- what may come after the entries, where so many places are there: after it there are `all`
abbrev pub MayCome : ℕ → ℕ → List Entry → List Event → Type 0
MayCome all here es [] = here ≡ all
MayCome all here es (x ∷ xs) = MayBe here es xs x.entry × MayCome all (places_after x.entry here) es xs
