-- What a death does to the records.
use Rattle.std.specs.Prelude.{◌≡◌, ℕ, zero, suc, ◌<◌, ◌≤◌, ◌^◌, min, not, ◌+◌, ◌/◌, ◌%◌, Bool, true, false, cond, ◌||◌, ◌&&◌, ◌==◌, ltb}
use Rattle.std.specs.Prelude.{length, slice_index_or, ◌++◌, List, Option, Some, None}
use Rattle.std.specs.List.{list_any}
use Rattle.std.specs.Global.{Box}
use Rattle.rx_base.specs.Sets.{has_bit}
use Rattle.rx_base.specs.declared.ids.PlaceId.{PlaceId}
use Rattle.rx_base.specs.declared.ids.ScopeId.{ScopeId}
use Rattle.rx_rules.specs.declared.tasks.Where.{Where}
use Rattle.rx_rules.specs.declared.tasks.Scope.{Scope}
use Rattle.rx_rules.specs.Tree.{Tree, is_scope, the_root}
use Rattle.rx_rules.specs.Entries.{is_hit}
use Rattle.rx_counts.specs.declared.record.Sums.{Sums}
use Rattle.rx_counts.specs.declared.record.Record.{Record}
use Rattle.rx_counts.specs.Stands.{table_size, count_in, in_sums, masking, RecordsFit, AllMasked, IsShaped}
use Rattle.rx_counts.specs.Keeping.{stands_home}
use Rattle.rx_tree_laws.specs.Sound.{Each}

-- whether the death of place d hits the place or the pair of cell k in the table of n places
abbrev pub hits_cell : ℕ → ℕ → ℕ → Bool
hits_cell n d k = (k / n == d + 1) || (k % n == d)

-- the sum of the first m cells, but for those that the death does not hit
abbrev pub hit_sum : ℕ → ℕ → List ℕ → ℕ → ℕ
hit_sum n d xs zero = 0
hit_sum n d xs (suc m) = hit_sum n d xs m + cond (hits_cell n d m) (slice_index_or xs m 0) 0

-- the sum of the cells that the death hits
abbrev pub hits : ℕ → ℕ → List ℕ → ℕ
hits n d xs = hit_sum n d xs (length xs)

-- A strike of sums.
pub record Strikes (d : PlaceId) (r q : Sums) : Type 0 where
  pub places : q.places ≡ r.places
  pub cells : length q.counts ≡ length r.counts
  pub counts : (w : Where) → count_in q w ≡ cond (is_hit d w) 0 (count_in r w)
  pub total : q.total + hits r.places d.0 r.counts ≡ r.total
  pub orphans : q.orphans ≡ r.orphans
  pub masked : q.masked ≡ r.masked
  pub lost : (p : ℕ) → p < 16 → has_bit q.lost.0 p ≡ (has_bit r.lost.0 p || (ltb 0 (hits r.places d.0 r.counts) && (d.0 == p)))

-- the same of a record, of which nothing else changes
abbrev pub StrikesRecord : PlaceId → Record → Record → Type 0
StrikesRecord d r q = (q ≡ in_sums (λ s. q.sums) r) × Strikes d r.sums q.sums

-- the table is whole, and the cells that a death hits are no more than the total
pub record CanHit (d : PlaceId) (q : Sums) : Type 0 where
  pub cells : length q.counts ≡ table_size q.places
  pub total : hits q.places d.0 q.counts ≤ q.total

abbrev pub MayHit : PlaceId → Record → Type 0
MayHit d r = CanHit d r.sums

-- Sums that are given away.

-- what a record gives away: its sums, where its own faults are masked too
abbrev pub given_by : Record → Sums
given_by r = masking (length (r.body ++ r.ends)) r.sums

-- a has what it had and what h had, and one orphan more
pub record Gains (r h q : Sums) : Type 0 where
  pub places : q.places ≡ r.places
  pub cells : length q.counts ≡ length r.counts
  pub counts : (w : Where) → count_in q w ≡ count_in r w + count_in h w
  pub total : q.total ≡ r.total + h.total
  pub orphans : q.orphans ≡ r.orphans + h.orphans + 1
  pub masked : q.masked ≡ min 4294967295 (r.masked + h.masked)
  pub lost : (p : ℕ) → p < 16 → has_bit q.lost.0 p ≡ (has_bit r.lost.0 p || has_bit h.lost.0 p)

-- a record as it was, but for its sums and its faults
pub record SameScope (r q : Record) : Type 0 where
  pub kind : q.kind ≡ r.kind
  pub home : q.home ≡ r.home
  pub parent : q.parent ≡ r.parent
  pub finish : q.finish ≡ r.finish

-- h has nothing, and its table no cells
pub record IsNothing (q : Sums) : Type 0 where
  pub cells : length q.counts ≡ table_size q.places
  pub counts : (w : Where) → count_in q w ≡ 0
  pub total : q.total ≡ 0
  pub orphans : q.orphans ≡ 0
  pub masked : q.masked ≡ 0
  pub lost : (p : ℕ) → p < 16 → has_bit q.lost.0 p ≡ false

-- the record has given its sums away
abbrev pub Emptied : Record → Record → Type 0
Emptied r q = SameScope r q × IsNothing q.sums

-- the record has gained the sums
abbrev pub Gained : Sums → Record → Record → Type 0
Gained given r q = (q ≡ in_sums (λ s. q.sums) r) × Gains r.sums given q.sums

-- both tables are of the same places, and no sum is too great
pub record CanGain (given : Sums) (q : Sums) : Type 0 where
  pub places : given.places ≡ q.places
  pub cells : length given.counts ≡ length q.counts
  pub counts : (k : ℕ) → k < length q.counts → slice_index_or q.counts k 0 + slice_index_or given.counts k 0 < 2 ^ 32
  pub total : q.total + given.total < 2 ^ 32
  pub orphans : q.orphans + given.orphans + 1 < 2 ^ 32

abbrev pub MayGain : Sums → Record → Type 0
MayGain given r = CanGain given r.sums

-- who keeps counts while the scopes with home d give theirs away, from the oldest on: those below i have done so
abbrev pub given_until : (Scope → Bool) → PlaceId → ℕ → Scope → Bool
given_until keeps d i g = keeps g && not ((g.home.0 == d.0) && ltb g.number.0 i)

-- so far the records fit, with tables of so many columns, where `dead` has the death of d
pub record Passing (size : ℕ) (T : Tree) (keeps : Scope → Bool) (dead : List (Option ℕ)) (d : PlaceId) (i : ℕ)
    (rs : List (Option (Box Record))) : Type 0 where
  pub shaped : IsShaped T rs
  pub after : (g : Scope) → stands_home dead g ≡ (keeps g && not (g.home.0 == d.0))
  pub lived : (g : Scope) → g.home.0 == d.0 ≡ true → keeps g ≡ true
  pub root : list_any (λ g. is_scope the_root g && not (stands_home dead g)) T.scopes ≡ false
  pub based : Each (λ g. g.parent ≡ None → g.number.0 ≡ 0) T.scopes
  pub few_tasks : length T.tasks < 2 ^ 32
  pub few_scopes : length T.scopes < 2 ^ 32
  pub fit : RecordsFit size (given_until keeps d i) T.scopes T.tasks rs
  pub masked : AllMasked (given_until keeps d i) T.scopes rs

-- the parent of the record, where its home is d
abbrev pub parent_there : PlaceId → Option Record → Option ScopeId
parent_there d None = None
parent_there d (Some r) = cond (r.home.0 == d.0) r.parent None
