-- What the host is told of its request for the root's release.
use Rattle.std.proofs.Common.{ℕ, Option, sym, subst}
use Rattle.rx_book.specs.declared.views.View.{View}
use Rattle.rx_book.specs.Calls.{Called}
use Rattle.rx_parts.specs.declared.items.EntryItem.{EntryItem}
use Rattle.rx_objects.specs.declared.ledger.LedgerFixed.{LedgerFixed}
use Rattle.rx_objects.specs.declared.ledger.LedgerOp.{LedgerOp}
use Rattle.rx_objects.specs.declared.ledger.LedgerReply.{LedgerReply}
use Rattle.rx_objects.specs.Ledger.{LedgerIsLegal, LedgerDoes}
use Rattle.rx_objects.specs.Noted.{Notes}
use Rattle.rx_objects.specs.Ending.{HostKnows, RootIsTold, HostIsTold}
use Rattle.rx_live.specs.Inside.Ending.{IsAnswered, IsReleased}
use Rattle.rx_live.specs.declared.ending.Released.{Released}
use Rattle.rx_live.specs.declared.ending.Released.TheVariants.{Done, NotYet, NoMemory}

pub is_answered : (law : HostIsTold) (f : LedgerFixed) (place : EntryItem → Option ℕ) (v w : View EntryItem) (op : LedgerOp) (r : LedgerReply) (answer : Released) → HostKnows v
    → Called place (LedgerDoes f) (LedgerIsLegal f) v op r w → IsReleased r.reply r.notes.items answer → IsAnswered f w answer
is_answered law f place v w op r (Done notes) host called is = subst (λ (l : Notes). RootIsTold f l w.seen) (sym is.1) ((law f place v w op r host called).0 is.0)
is_answered law f place v w op r NotYet host called is = (law f place v w op r host called).1 is
is_answered law f place v w op r NoMemory host called is = tt
