-- A ticket serves its next request as well after entries of other tasks.
use Rattle.std.specs.Prelude.{◌≢◌, ℕ, List, ◌++◌}
use Rattle.rx_base.specs.declared.ids.TaskId.{TaskId}
use Rattle.rx_rules.specs.declared.entries.Entry.{Entry}
use Rattle.rx_rules.specs.declared.entries.Entry.TheVariants.{Step}
use Rattle.rx_rules.specs.Tree.{Tree}
use Rattle.rx_rules.specs.Entries.{Allowed, made}
use Rattle.rx_rules.specs.Fold.{tree_of}
use Rattle.rx_rules.specs.Reached.{Reached}
use Rattle.rx_rules.specs.Run.{Given, Folds}
use Rattle.rx_tree_laws.specs.Sound.{Each}
use Rattle.rx_finish.specs.Callers.{HasNumbers}
use Rattle.rx_ticket.specs.declared.tickets.AnyTicket.{AnyTicket}
use Rattle.rx_ticket.specs.declared.tickets.AnyTicket.TheVariants.{Moving, Running, Held, Host}
use Rattle.rx_ledger.specs.declared.asks.Request.{Request}
use Rattle.rx_ledger.specs.Asking.{MayApply}

-- the entry is another task's, or a death, or the root's release
abbrev pub NotBy : TaskId → Entry → Type 0
NotBy t (Step u act batch) = t.0 ≢ u.0
NotBy t _ = Unit {0}

-- it is not of the task whose ticket this is
abbrev pub NotOf : AnyTicket → Entry → Type 0
NotOf (Moving who) e = NotBy who.task e
NotOf (Running who) e = NotBy who.task e
NotOf (Held who) e = NotBy who.task e
NotOf Host e = Unit {0}

-- what may be applied may be applied after such an entry, whatever it is, as long as numbers suffice
abbrev pub EntryKeepsTicket : Type 0
EntryKeepsTicket =
    (n : ℕ) (T : Tree) (e : Entry) (q : Request) → Reached T → Allowed T e → NotOf q.ticket e → HasNumbers (made n T e)
    → MayApply T q → MayApply (made n T e) q

-- and so after any such entries
abbrev pub TicketsStayGood : Type 0
TicketsStayGood =
    (U : Given) (es more : List Entry) (q : Request) → Folds U (es ++ more) → Each (NotOf q.ticket) more
    → HasNumbers (tree_of U.places (es ++ more)) → MayApply (tree_of U.places es) q → MayApply (tree_of U.places (es ++ more)) q
