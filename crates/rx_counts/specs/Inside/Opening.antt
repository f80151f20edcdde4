-- The record of a scope that is opened.
use Rattle.std.specs.Prelude.{◌≡◌, ℕ, [], Option, replicate}
use Rattle.rx_base.specs.declared.ids.PlaceId.{PlaceId}
use Rattle.rx_base.specs.declared.ids.ScopeId.{ScopeId}
use Rattle.rx_rules.specs.declared.tasks.Kind.{Kind}
use Rattle.rx_counts.specs.declared.record.Sums.{Sums}
use Rattle.rx_counts.specs.declared.record.Record.{Record}
use Rattle.rx_counts.specs.Stands.{table_size}

-- sums of nothing, with the table of n places
pub record IsZero (n : ℕ) (q : Sums) : Type 0 where
  pub places : q.places ≡ n
  pub counts : q.counts ≡ replicate (table_size n) 0
  pub total : q.total ≡ 0
  pub orphans : q.orphans ≡ 0
  pub lost : q.lost.0 ≡ 0
  pub masked : q.masked ≡ 0

-- a record that counts nothing
pub record IsFresh (n : ℕ) (sort : Kind) (place : PlaceId) (outer : Option ScopeId) (nearest : ScopeId) (r : Record) : Type 0 where
  pub kind : r.kind ≡ sort
  pub home : r.home ≡ place
  pub parent : r.parent ≡ outer
  pub finish : r.finish ≡ nearest
  pub sums : IsZero n r.sums
  pub body : r.body ≡ []
  pub ends : r.ends ≡ []
