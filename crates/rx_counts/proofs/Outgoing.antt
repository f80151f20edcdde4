-- A release by a caller, and by the host.
use Rattle.std.proofs.Common.{ℕ, false, length, Ok, Err, Result, refl, ◌∙◌}
use Rattle.rx_rules.specs.declared.entries.Act.TheVariants.{Release}
use Rattle.rx_rules.proofs.Common.{Tree, is_task, the_root, without, made_act, Allowed, acts}
use Rattle.rx_rules.specs.declared.entries.Entry.TheVariants.{Root}
use Rattle.rx_rules.specs.Reached.{ends}
use Rattle.rx_finish.specs.declared.ledger.Caller.{Caller}
use Rattle.rx_finish.specs.declared.ledger.Outcome.{Outcome}
use Rattle.rx_finish.specs.declared.ledger.LedgerFault.{LedgerFault}
use Rattle.rx_finish.specs.declared.ledger.LedgerFault.TheVariants.{NotYet, Lost, NoMemory}
use Rattle.rx_finish.specs.Callers.{MayAskRelease, WaitsInside, HasRoot}
use Rattle.rx_finish.specs.Calls.{ReleaseReply, RootReply}
use Rattle.rx_finish.proofs.Allowed.{Free, release_allowed}
use Rattle.rx_counts.specs.declared.ledger.CountLedger.{CountLedger}
use Rattle.rx_counts.specs.Keeping.{stands_home}
use Rattle.rx_counts.specs.Stands.{Fit, StandsFor}
use Rattle.rx_counts.specs.Inside.Freeing.{FreeReply}
use Rattle.rx_counts.proofs.Asking.{unstruck_of, room_kept}
use Rattle.rx_finish.specs.Totals.{totals_of}
use Rattle.rx_counts.proofs.Totalling.{are, totals_are, waits_same}
use Rattle.rx_counts.proofs.Joining.{all_waits}

pub released : {room : ℕ} (T : Tree) (who : Caller) (res : Result Outcome LedgerFault) (m : CountLedger) → (l : CountLedger) → StandsFor l room T → MayAskRelease T who → (f : Free T who (WaitsInside T who)) → FreeReply room T who.inner res m → ReleaseReply T who res (StandsFor m room)
released T who (Ok o) m l st may f h =
    let a = release_allowed T who o.lost o.masked o.thrown st.reached may (unstruck_of T who (WaitsInside T who) f) h.0 in
    let fit : Fit m (without T who.inner) = h.1 in
    record {
      allowed = a;
      made =
          record {
            reached = acts who.task (Release who.inner o.lost o.masked o.thrown) st.reached a;
            fit =
                record {
                  places = fit.places;
                  dead = fit.dead;
                  next_task = fit.next_task;
                  next_scope = fit.next_scope;
                  totals =
                      fit.totals
                      ∙ totals_are (totals_of (without T who.inner)) (made_act T who.task (Release who.inner o.lost o.masked o.thrown))
                      (waits_same (totals_of (without T who.inner)) (length (without T who.inner).scopes) (is_task who.task) false (without T who.inner).tasks (are (totals_of (without T who.inner)) (without T who.inner) refl));
                  numbers = fit.numbers;
                  scopes = all_waits _ (stands_home T.dead) (without T who.inner).scopes (without T who.inner).tasks who.task false m.scopes fit.scopes;
                  masked = fit.masked;
                };
            has_room = room_kept m m T (made_act T who.task (Release who.inner o.lost o.masked o.thrown)) refl refl refl h.2;
          };
    }
released T who (Err NoMemory) m l st may f h = (unstruck_of T who (WaitsInside T who) f, h.0, h.1)
released T who (Err (Lost p a)) m l st may f h = absurd h
released T who (Err (NotYet p)) m l st may f h = (unstruck_of T who (WaitsInside T who) f, h.0, h.1)

pub root_released : {room : ℕ} (T : Tree) (res : Result Outcome LedgerFault) (m : CountLedger) → (l : CountLedger) → StandsFor l room T → HasRoot T → FreeReply room T the_root res m → RootReply T res (StandsFor m room)
root_released T (Ok o) m l st has h =
    let may : Allowed T (Root o.lost o.masked o.thrown) = (has.root, has.stands, h.0) in
    (may, record { reached = ends o.lost o.masked o.thrown st.reached may; fit = h.1; has_room = room_kept m m T (without T the_root) refl refl refl h.2 })
root_released T (Err NoMemory) m l st has h = h
root_released T (Err (Lost p a)) m l st has h = absurd h
root_released T (Err (NotYet p)) m l st has h = h
