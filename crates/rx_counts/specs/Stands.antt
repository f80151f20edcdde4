-- The records of a count ledger stand for a tree.
use Rattle.std.specs.Prelude.{◌≡◌, ℕ, ◌<◌, ◌≤◌, ◌^◌, min, ◌+◌, ◌++◌, ◌*◌, ◌-◌, ltb, Bool, true, cond, ◌&&◌, ◌||◌, ◌==◌, List, Option, Some}
use Rattle.std.specs.Prelude.{None, IfSome, is_some, slice_index_or, length, option_map, slice_set, box_value}
use Rattle.std.specs.Global.{Box}
use Rattle.std.specs.List.{find, list_any}
use Rattle.rx_base.specs.Sets.{has_bit}
use Rattle.rx_base.specs.declared.ids.PlaceId.{PlaceId}
use Rattle.rx_base.specs.declared.place_set.PlaceSet.{PlaceSet}
use Rattle.rx_base.specs.declared.values.Fault.{Fault}
use Rattle.rx_rules.specs.declared.tasks.Where.{Where}
use Rattle.rx_rules.specs.declared.tasks.Where.TheVariants.{At, Travel}
use Rattle.rx_rules.specs.declared.tasks.Task.{Task}
use Rattle.rx_rules.specs.declared.tasks.Scope.{Scope}
use Rattle.rx_base.specs.declared.ids.ScopeId.{ScopeId}
use Rattle.rx_rules.specs.Tree.{Tree, scope_of}
use Rattle.rx_rules.specs.Entries.{was_lost_at}
use Rattle.rx_rules.specs.Counts.{has_number}
use Rattle.rx_rules.specs.Reached.{Reached}
use Rattle.rx_finish.specs.Totals.{totals_of}
use Rattle.rx_counts.specs.declared.record.Sums.{Sums}
use Rattle.rx_counts.specs.declared.record.Record.{Record}
use Rattle.rx_counts.specs.declared.ledger.CountLedger.{CountLedger}
use Rattle.rx_tree_laws.specs.Chains.{Falls, Opened}
use Rattle.rx_counts.specs.Keeping.{stands_home, finishes, keeper, kept_at, count_of, total_of, orphans_of, masked_of}

-- A table of counts has a column for each place that there is or may come to be. Row 0 has the live counts, and row p + 1 the transit
-- counts from place p.
abbrev pub row : Where → ℕ
row (At p) = 0
row (Travel from to) = from.0 + 1

abbrev pub column : Where → ℕ
column (At p) = p.0
column (Travel from to) = to.0

-- how many cells the table of n places has
abbrev pub table_size : ℕ → ℕ
table_size n = (n + 1) * n

-- whether it has a cell for the place or the pair
abbrev pub is_inside : ℕ → Where → Bool
is_inside n w = ltb (row w) (n + 1) && ltb (column w) n

-- the cell of a place or of a pair, row by row; past the table where it has none
abbrev pub slot : ℕ → Where → ℕ
slot n w = cond (is_inside n w) (row w * n + column w) (table_size n)

-- what sums count at a place or on a way: nothing where they have no cell for it
abbrev pub count_in : Sums → Where → ℕ
count_in q w = slice_index_or q.counts (slot q.places w) 0

-- what a record says of the scope itself
pub record ShapeOf (gs : List Scope) (r : Record) (g : Scope) : Type 0 where
  pub kind : r.kind ≡ g.kind
  pub home : r.home ≡ g.home
  pub parent : r.parent ≡ g.parent
  pub finish : keeper finishes gs (Some g.number) ≡ Some r.finish.0

-- the sums of scope n, where keeps says which scopes keep counts
pub record SumsOf (keeps : Scope → Bool) (gs : List Scope) (ts : List Task) (q : Sums) (n : ℕ) : Type 0 where
  pub counts : (w : Where) → count_in q w ≡ count_of keeps gs ts n w
  pub cells : length q.counts ≡ table_size q.places
  pub total : q.total ≡ total_of keeps gs ts n
  pub orphans : q.orphans ≡ orphans_of keeps gs n
  pub lost : (p : ℕ) → p < 16 → has_bit q.lost.0 p ≡ list_any (λ x. was_lost_at p x && kept_at keeps gs n x) ts

-- a record is that of scope g, with a table of so many columns
pub record RecordOf (size : ℕ) (keeps : Scope → Bool) (gs : List Scope) (ts : List Task) (r : Record) (g : Scope) : Type 0 where
  pub shape : ShapeOf gs r g
  pub sums : SumsOf keeps gs ts r.sums g.number.0
  pub faults : keeps g ≡ true → (r.body ≡ g.body) × (r.ends ≡ g.ends)
  pub places : keeps g ≡ true → r.sums.places ≡ size

-- the same of a record and a scope that may be missing
abbrev pub Both : (Record → Scope → Type 0) → Option Record → Option Scope → Type 0
Both P (Some r) (Some g) = P r g
Both P (Some r) None = ⊥
Both P None (Some g) = ⊥
Both P None None = Unit {0}

-- the record of a number
abbrev pub record_at : List (Option (Box Record)) → ℕ → Option Record
record_at rs n = option_map box_value (slice_index_or rs n None)

-- the record of each number is that of its scope, or both are missing
abbrev pub RecordsFit : ℕ → (Scope → Bool) → List Scope → List Task → List (Option (Box Record)) → Type 0
RecordsFit size keeps gs ts rs = (n : ℕ) → Both (RecordOf size keeps gs ts) (record_at rs n) (find (has_number n) gs)

-- the same of the shapes alone
abbrev pub AllShaped : List Scope → List (Option (Box Record)) → Type 0
AllShaped gs rs = (n : ℕ) → Both (ShapeOf gs) (record_at rs n) (find (has_number n) gs)

-- each record has the masked number of its scope
abbrev pub AllMasked : (Scope → Bool) → List Scope → List (Option (Box Record)) → Type 0
AllMasked keeps gs rs = (n : ℕ) → IfSome (record_at rs n) (λ r. r.sums.masked ≡ masked_of keeps gs n)

-- the ledger keeps the numbers of the tree, and its records are those of the scopes
pub record Fit (l : CountLedger) (T : Tree) : Type 0 where
  pub places : l.places ≡ T.places
  pub dead : l.dead ≡ T.dead
  pub next_task : l.next_task ≡ T.next_task
  pub next_scope : l.next_scope ≡ T.next_scope
  pub totals : l.totals ≡ totals_of T
  pub numbers : length l.scopes ≡ T.next_scope
  pub scopes : RecordsFit l.width (stands_home T.dead) T.scopes T.tasks l.scopes
  pub masked : AllMasked (stands_home T.dead) T.scopes l.scopes

-- its tables have columns for so many places more
pub record HasRoom (l : CountLedger) (room : ℕ) (T : Tree) : Type 0 where
  pub width : room + T.places ≤ l.width
  pub few : l.width ≤ 16
  pub cells : length T.dead ≡ 16

-- and the tree can be reached
pub record StandsFor (l : CountLedger) (room : ℕ) (T : Tree) : Type 0 where
  pub reached : Reached T
  pub fit : Fit l T
  pub has_room : HasRoom l room T

-- one task more, and one less, at a place or on a way
abbrev pub more : Where → Sums → Sums
more w q = record q { counts = slice_set q.counts (slot q.places w) (count_in q w + 1); total = q.total + 1 }

abbrev pub less : Where → Sums → Sums
less w q = record q { counts = slice_set q.counts (slot q.places w) (count_in q w - 1); total = q.total - 1 }

-- so many faults more are masked; the count stops at the greatest number of 32 bits
abbrev pub masking : ℕ → Sums → Sums
masking n q = record q { masked = min 4294967295 (q.masked + n) }

-- they have a cell for it
abbrev pub HasCell : Where → Sums → Type 0
HasCell w q = slot q.places w < length q.counts

-- where there may be one more, and one less
pub record MayJoin (w : Where) (q : Sums) : Type 0 where
  pub cell : HasCell w q
  pub count : count_in q w + 1 < 2 ^ 32
  pub total : q.total + 1 < 2 ^ 32

pub record MayLeave (w : Where) (q : Sums) : Type 0 where
  pub cell : HasCell w q
  pub count : 1 ≤ count_in q w
  pub total : 1 ≤ q.total

-- the change of the sums of a record
abbrev pub in_sums : (Sums → Sums) → Record → Record
in_sums f r = record r { sums = f r.sums }

-- other faults
abbrev pub with_body : List Fault → Record → Record
with_body thrown r = record r { body = thrown }

-- a relation of two records that may be missing
abbrev pub Pairs : (Record → Record → Type 0) → Option Record → Option Record → Type 0
Pairs R (Some r) (Some q) = R r q
Pairs R (Some r) None = ⊥
Pairs R None (Some q) = ⊥
Pairs R None None = Unit {0}

-- the record of number n changed as R says, and no other
pub record ChangedBy (R : Record → Record → Type 0) (n : ℕ) (rs qs : List (Option (Box Record))) : Type 0 where
  pub len : length qs ≡ length rs
  pub here : Pairs R (record_at rs n) (record_at qs n)
  pub others : (m : ℕ) → (m ≡ n → ⊥) → record_at qs m ≡ record_at rs m

-- the lost set is another
abbrev pub with_lost : PlaceSet → Sums → Sums
with_lost lost q = record q { lost = lost }

-- a task that counts in the record was lost at the place
abbrev pub Loses : PlaceId → Record → Record → Type 0
Loses p r q = (q ≡ in_sums (with_lost q.sums.lost) r) × ((i : ℕ) → i < 16
    → has_bit q.sums.lost.0 i ≡ (has_bit r.sums.lost.0 i || (p.0 == i)))

-- faults join the ends, or are dropped
abbrev pub ends_if : Bool → List Fault → Record → Record
ends_if b thrown r = record r { ends = cond b (r.ends ++ thrown) r.ends }

-- the records are of the scopes of a tree in which scopes stand as they do in every tree that can be reached
pub record IsShaped (T : Tree) (rs : List (Option (Box Record))) : Type 0 where
  pub falls : Falls T.next_scope T.scopes
  pub opened : Opened T.tasks T.scopes
  pub shapes : AllShaped T.scopes rs

-- one record more
pub record Pushed (r : Record) (rs qs : List (Option (Box Record))) : Type 0 where
  pub len : length qs ≡ length rs + 1
  pub here : record_at qs (length rs) ≡ Some r
  pub others : (m : ℕ) → (m ≡ length rs → ⊥) → record_at qs m ≡ record_at rs m

-- the records after those of number n changed by f, and no other
pub record Changed (f : Record → Record) (n : ℕ) (rs qs : List (Option (Box Record))) : Type 0 where
  pub len : length qs ≡ length rs
  pub here : record_at qs n ≡ option_map f (record_at rs n)
  pub others : (m : ℕ) → (m ≡ n → ⊥) → record_at qs m ≡ record_at rs m

-- the scope stands
abbrev pub HasScope : Tree → ScopeId → Type 0
HasScope T s = is_some (scope_of T s) ≡ true
