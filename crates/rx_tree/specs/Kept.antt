-- The tree that a plain ledger keeps.
use Rattle.std.specs.Prelude.{◌≡◌, length}
use Rattle.rx_rules.specs.Tree.{Tree}
use Rattle.rx_rules.specs.Reached.{Reached}
use Rattle.rx_tree.specs.declared.plain.TreeLedger.{TreeLedger}

-- row by row
abbrev pub kept : TreeLedger → Tree
kept l =
    record {
      tasks = l.tasks.items;
      scopes = l.scopes.items;
      gone = l.gone.items;
      places = l.places;
      dead = l.dead;
      next_task = l.next_task;
      next_scope = l.next_scope;
    }

-- a tree that can be reached where there can be 16 places
abbrev pub Narrow : Tree → Type 0
Narrow T = Reached T × (length T.dead ≡ 16)
