-- A task waits.
use Rattle.std.proofs.Common.{◌≡◌, ℕ, true, List, Some, Ok, length, refl, ◌∙◌, sym, subst}
use Rattle.rx_rules.proofs.Widths.{limit-act}
use Rattle.rx_rules.proofs.Common.{Fault, TaskId, ScopeId, Tree, is_task, is_scope, change_first, waiting, made_act, acts}
use Rattle.rx_rules.specs.declared.entries.Act.TheVariants.{Wait}
use Rattle.std.specs.List.{find}
use Rattle.rx_rules.specs.declared.tasks.Scope.{Scope}
use Rattle.rx_tree_laws.specs.Sound.{Sound}
use Rattle.rx_tree_laws.proofs.Reached.{sound}
use Rattle.rx_tree_laws.proofs.Stay.{faulted}
use Rattle.rx_finish.specs.declared.ledger.Caller.{Caller}
use Rattle.rx_finish.specs.Callers.{MayAskWait, HasFinish}
use Rattle.rx_finish.specs.Calls.{WaitReply}
use Rattle.rx_finish.specs.Totals.{totals_of}
use Rattle.rx_finish.proofs.Allowed.{Free, wait_allowed, own_is}
use Rattle.rx_counts.specs.declared.ledger.CountLedger.{CountLedger}
use Rattle.rx_counts.specs.Keeping.{stands_home}
use Rattle.rx_counts.specs.Stands.{StandsFor, Changed, with_body}
use Rattle.rx_counts.proofs.Asking.{unstruck_of, room_kept, as_wide}
use Rattle.rx_counts.proofs.Lasting.{own_home}
use Rattle.rx_counts.proofs.Masking.{masked_waits}
use Rattle.rx_counts.proofs.Telling.{last_number}
use Rattle.rx_counts.proofs.Joining.{all_waits}
use Rattle.rx_counts.proofs.Totalling.{are, totals_are, waits_same, length_change}
use Rattle.rx_counts.proofs.Faulting.{all_faulted}

-- who waits counts as before, and so do the scopes
waited : (T : Tree) (s : ScopeId) (t : TaskId) (thrown : List Fault) → totals_of T ≡ totals_of (made_act T t (Wait s thrown))
waited T s t thrown =
    let h = waits_same (totals_of T) (length T.scopes) (is_task t) true T.tasks (are (totals_of T) T refl) in
    totals_are (totals_of T) (made_act T t (Wait s thrown))
    (record { scopes = sym (length_change (is_scope s) (λ g. record g { body = thrown }) T.scopes); live = h.live; travel = h.travel })

pub waits_stands : {room : ℕ} (l m : CountLedger) (T : Tree) (who : Caller) (thrown : List Fault) → StandsFor l room T → MayAskWait T who → (f : Free T who (HasFinish T who)) → m.places ≡ l.places → m.width ≡ l.width → m.dead ≡ l.dead → m.next_task ≡ l.next_task → m.next_scope ≡ l.next_scope → m.totals ≡ l.totals → Changed (with_body thrown) who.inner.0 l.scopes m.scopes → WaitReply T who thrown (Ok tt) (StandsFor m room)
waits_stands l m T who thrown st may f places width dead next_task next_scope totals c =
    let a = wait_allowed T who thrown st.reached may (unstruck_of T who (HasFinish T who) f) in
    let h : Sound T = sound st.reached in
    let own : Scope = f.at.allowed.scope in
    let number : own.number ≡ who.inner = own_is T who (HasFinish T who) f own f.at.allowed.own in
    let found : find (is_scope who.inner) T.scopes ≡ Some own = subst (λ (v : ScopeId). find (is_scope v) T.scopes ≡ Some own) number (last_number who.task T.next_scope T.scopes own h.falls f.at.allowed.own) in
    let kept : stands_home T.dead own ≡ true = own_home T who.task f.at.task own h f.at.stands f.at.allowed.own f.unstruck in
    record {
      allowed = a;
      made =
          record {
            reached = acts who.task (Wait who.inner thrown) st.reached a;
            fit =
                record {
                  places = places ∙ st.fit.places;
                  dead = dead ∙ st.fit.dead;
                  next_task = next_task ∙ st.fit.next_task;
                  next_scope = next_scope ∙ st.fit.next_scope;
                  totals =
                      totals
                      ∙ st.fit.totals
                      ∙ waited T who.inner who.task thrown;
                  numbers = c.len ∙ st.fit.numbers;
                  scopes =
                      as_wide l.width m.width (stands_home T.dead) (change_first (is_scope who.inner) (faulted (λ g. thrown) (λ g. g.ends)) T.scopes) (change_first (is_task who.task) waiting T.tasks) m.scopes width
                      (all_waits _ (stands_home T.dead) _ T.tasks who.task true m.scopes
                      (all_faulted (λ g. thrown) (λ g. g.ends) who.inner (stands_home T.dead) (λ g. refl) _ T.scopes T.tasks (with_body thrown) l.scopes m.scopes (λ r. (refl, refl, refl, refl, refl)) (λ r g found live was. (refl, was.1)) c st.fit.scopes));
                  masked = masked_waits (λ g. thrown) (λ g. g.ends) who.inner (stands_home T.dead) (λ g. refl) T.scopes own (with_body thrown) l.scopes m.scopes found kept (λ r. refl) c st.fit.masked;
                };
            has_room = room_kept l m T (made_act T who.task (Wait who.inner thrown)) (limit-act T who.task (Wait who.inner thrown)) width refl st.has_room;
          };
    }
