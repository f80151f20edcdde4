-- What each change of the tree makes of its totals.
use Rattle.std.specs.Prelude.{ℕ, zero, suc, ◌<◌, ◌≤◌, ◌+◌, ◌-◌, ◌^◌, Bool, true, false, List, Option, Some, None}
use Rattle.std.specs.Global.{Box}
use Rattle.rx_base.specs.declared.ids.PlaceId.{PlaceId}
use Rattle.rx_rules.specs.declared.tasks.Where.{Where}
use Rattle.rx_rules.specs.declared.tasks.Where.TheVariants.{At, Travel}
use Rattle.rx_finish.specs.declared.totals.Totals.{Totals}
use Rattle.rx_counts.specs.declared.dying.Toll.{Toll}
use Rattle.rx_counts.specs.declared.record.Sums.{Sums}
use Rattle.rx_counts.specs.declared.record.Record.{Record}
use Rattle.rx_counts.specs.Stands.{count_in, record_at}
use Rattle.rx_counts.specs.Inside.Dying.{hits}

-- one scope more, and so many less
abbrev pub more_scopes : Totals → Totals
more_scopes t = record t { scopes = t.scopes + 1 }

abbrev pub fewer_scopes : ℕ → Totals → Totals
fewer_scopes n t = record t { scopes = t.scopes - n }

-- one task more, which is struck from birth or not
abbrev pub more_tasks : Bool → Where → Totals → Totals
more_tasks true w t = t
more_tasks false (At p) t = record t { live = t.live + 1 }
more_tasks false (Travel from to) t = record t { travel = t.travel + 1 }

-- a task arrives
abbrev pub lands : Totals → Totals
lands t = record t { live = t.live + 1; travel = t.travel - 1 }

-- a task ends
abbrev pub ends : Totals → Totals
ends t = record t { live = t.live - 1 }

-- a death strikes so many
abbrev pub dies : Toll → Totals → Totals
dies toll t = record t { live = t.live - toll.there; travel = t.travel - (toll.all - toll.there) }

-- so many are there
pub record CanDie (toll : Toll) (t : Totals) : Type 0 where
  pub part : toll.there ≤ toll.all
  pub live : toll.there ≤ t.live
  pub travel : toll.all - toll.there ≤ t.travel

-- the sum of f below n
abbrev pub sum_below : (ℕ → ℕ) → ℕ → ℕ
sum_below f zero = 0
sum_below f (suc n) = sum_below f n + f n

-- how many tasks a death strikes that sums count, and that a record counts
abbrev pub toll_of : PlaceId → Sums → Toll
toll_of d q = record { all = hits q.places d.0 q.counts; there = count_in q (At d) }

abbrev pub toll_in : PlaceId → Option Record → Toll
toll_in d None = record { all = 0; there = 0 }
toll_in d (Some r) = toll_of d r.sums

-- and those below number n
abbrev pub toll_below : PlaceId → List (Option (Box Record)) → ℕ → Toll
toll_below d rs n =
    record {
      all = sum_below (λ i. (toll_in d (record_at rs i)).all) n;
      there = sum_below (λ i. (toll_in d (record_at rs i)).there) n;
    }

abbrev pub IsSmall : Toll → Type 0
IsSmall toll = (toll.all < 2 ^ 32) × (toll.there < 2 ^ 32)
