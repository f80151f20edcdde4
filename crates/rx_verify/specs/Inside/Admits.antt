-- Which entry may follow a history, as far as a ledger can know, and what an audit keeps.
use Rattle.std.specs.Prelude.{◌≡◌, ℕ, Bool, List, length}
use Rattle.rx_rules.specs.declared.entries.Entry.{Entry}
use Rattle.rx_rules.specs.Tree.{Tree}
use Rattle.rx_rules.specs.Entries.{Allowed}
use Rattle.rx_rules.specs.Fold.{tree_of}
use Rattle.rx_rules.specs.Run.{Given, Event, in_all, plan_of, Proper, Folds, NoRoot}
use Rattle.rx_runs.specs.Segments.{plan_left, InTime}
use Rattle.rx_runs.specs.Ties.{MayCome}
use Rattle.rx_chronicle.specs.Told.{Ending, left_to_join}
use Rattle.rx_verify.specs.declared.audit.Audit.{Audit}

-- the entry may follow: the tree allows it, no entry before it releases the root, and it is the death or join that is due, or
-- another entry where none is
pub record Admits (U : Given) (es : List Entry) (e : Entry) : Type 0 where
  pub allowed : Allowed (tree_of U.places es) e
  pub no_root : NoRoot es
  pub in_time : InTime (length es) (plan_left (plan_of U) es) e

-- the entries are what a ledger can know, the ledger stands for the tree to which they fold and has room for the joins that are
-- left, and this is left of the plan
pub record LedgerIs {L : Type 0} (stands : L → ℕ → Tree → Type 0) (U : Given) (es : List Entry) (ledger : L) (plan : List Event)
    (ended : Bool) : Type 0 where
  pub proper : Proper U
  pub folds : Folds U es
  pub tree : stands ledger (left_to_join U es) (tree_of U.places es)
  pub left : plan ≡ plan_left (plan_of U) es
  pub come : MayCome (in_all U) (tree_of U.places es).places es plan
  pub ending : Ending ended es

-- the audit stands after these entries
pub record AuditIs {L : Type 0} (stands : L → ℕ → Tree → Type 0) (U : Given) (es : List Entry) (a : Audit L) : Type 0 where
  pub ledger : LedgerIs stands U es a.ledger a.plan a.ended
  pub count : a.count ≡ length es
