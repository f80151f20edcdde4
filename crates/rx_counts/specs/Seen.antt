-- What is told of a scope that stands.
use Rattle.rx_rules.specs.declared.tasks.Scope.{Scope}
use Rattle.rx_counts.specs.declared.ledger.ScopeSeen.{ScopeSeen}

-- its kind and its parent
abbrev pub seen : Scope → ScopeSeen
seen g = record { kind = g.kind; parent = g.parent }
