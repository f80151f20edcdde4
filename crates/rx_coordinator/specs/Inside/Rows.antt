-- Which rows may ask for what.
use Rattle.std.specs.Prelude.{Bool, false, cond, Option, Some, None}
use Rattle.rx_base.specs.declared.ids.ScopeId.{ScopeId}
use Rattle.rx_rules.specs.declared.tasks.Scope.{Scope}
use Rattle.rx_rules.specs.Tree.{is_finish, the_root}
use Rattle.rx_finish.specs.Callers.{does_travel}
use Rattle.rx_coordinator.specs.declared.seats.Seat.{Seat}

-- one that is at a place and does not wait
abbrev pub live_in : Option Seat → Option Seat
live_in None = None
live_in (Some w) = cond w.waits None (cond (does_travel w.who.place) None (Some w))

-- one that travels
abbrev pub away_in : Option Seat → Option Seat
away_in None = None
away_in (Some w) = cond (does_travel w.who.place) (Some w) None

-- one that waits
abbrev pub held_in : Option Seat → Option Seat
held_in None = None
held_in (Some w) = cond w.waits (Some w) None

-- the scope that was found is of a finish
abbrev pub finish_in : Option Scope → Bool
finish_in None = false
finish_in (Some g) = is_finish g.kind

abbrev pub parent_or_root : Option ScopeId → ScopeId
parent_or_root None = the_root
parent_or_root (Some p) = p

-- its parent, or the root
abbrev pub parent_in : Option Scope → ScopeId
parent_in None = the_root
parent_in (Some g) = parent_or_root g.parent

-- the scope that the task of a row hangs under, or the root
abbrev pub scope_in : Option Seat → ScopeId
scope_in None = the_root
scope_in (Some w) = w.who.scope
