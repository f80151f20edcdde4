-- The entries of a session are allowed, each where it stands.
use Rattle.std.proofs.Common.{◌≡◌, ℕ, List, [], ◌∷◌, ◌++◌, sym, subst, inl, inr}
use Rattle.rx_rules.proofs.Common.{TaskId, AllAllowed, opening}
use Rattle.rx_rules.specs.declared.entries.Entry.{Entry}
use Rattle.rx_runs.proofs.Append.{allowed-push}
use Rattle.rx_finish.specs.declared.ledger.Outcome.{Outcome}
use Rattle.rx_coordinator.specs.declared.requests.Request.{Request}
use Rattle.rx_coordinator.specs.declared.requests.Request.TheVariants.{Send}
use Rattle.rx_coordinator.specs.declared.requests.Answer.{Answer}
use Rattle.rx_coordinator.specs.declared.requests.Answer.TheVariants.{Bad, Full, NoMemory, NotYet, Sent}
use Rattle.rx_coordinator.specs.declared.waiters.Waiter.{Waiter}
use Rattle.rx_coordinator.specs.declared.waiters.Waiters.{Waiters}
use Rattle.rx_coordinator.specs.Stands.{IsReplyTo, Landing}
use Rattle.rx_coordinator.specs.Parking.{AskedBeside, request_of, answer_to}
use Rattle.rx_lines.specs.Session.{Between, Are, FreesEach, Rests, LineAnswered, AllAnswered, IsSession}
use Rattle.rx_lines.specs.Session.LineAnswered.{malformed, unread, replied}

module _ (p : ℕ) where
  abbrev Lawful : List Entry → Type 0
  Lawful es = AllAllowed 0 (opening p) es

  same : (es fs : List Entry) → es ≡ fs → Lawful es → Lawful fs
  same es fs e h = subst Lawful e h

  landed : (es fs : List Entry) (t : TaskId) → Lawful es → Landing p es t (Are fs) → Lawful fs
  landed es fs t h (inl k) = same (es ++ k.0 ∷ []) fs k.3 (allowed-push 0 (opening p) es k.0 h k.2)
  landed es fs t h (inr k) = same es fs k.1 h

  asked : (es fs : List Entry) (q : Request) (a : Answer) → Lawful es → IsReplyTo p es q a (Are fs) → Lawful fs
  asked es fs q Bad h k = same es fs k.1 h
  asked es fs q Full h k = same es fs k.2 h
  asked es fs q NoMemory h k = same es fs k.1 h
  asked es fs q (NotYet place) h k = same es fs k.2 h
  asked es fs (Send t to) (Sent b) h k = landed (es ++ k.0 ∷ []) fs b.child (allowed-push 0 (opening p) es k.0 h k.2) k.3
  asked es fs q _ h k = same (es ++ k.0 ∷ []) fs k.3 (allowed-push 0 (opening p) es k.0 h k.2)

  beside : (es fs : List Entry) (q : Request) (ws us : Waiters) (a : Answer) → Lawful es → AskedBeside p es q ws a (Are fs) us → Lawful fs
  beside es fs q ws us a h (inl k) = same es fs k.2 h
  beside es fs q ws us a h (inr k) = asked es fs q a h k.1

  each : (b c : Between) (xs : List (Waiter × Outcome)) → Lawful b.entries → FreesEach p b xs c → Lawful c.entries
  each b c [] h k = subst (λ (z : Between). Lawful z.entries) (sym k) h
  each b c (x ∷ xs) h k = each k.0 c xs (asked b.entries k.0.entries (request_of x.0) (answer_to x.0 x.1) h k.1.freed.2) k.2

  rested : (b c : Between) → Lawful b.entries → Rests p b c → Lawful c.entries
  rested b c h (inl k) = same b.entries c.entries k.0.0 h
  rested b c h (inr k) = same b.entries c.entries k.0.0 h

  answered : (b : Between) (line text : List ℕ) (c : Between) → Lawful b.entries → LineAnswered p b line text c → Lawful c.entries
  answered b line text c h (malformed none is e) = subst (λ (z : Between). Lawful z.entries) (sym e) h
  answered b line text c h (unread is e) = subst (λ (z : Between). Lawful z.entries) (sym e) h
  answered b line text c h (replied q a m xs is k r t) =
      rested r.0 c (each m r.0 xs (beside b.entries m.entries q b.waiters m.waiters a h k.asked) r.1) r.2

  all-answered : (b : Between) (lines : List (List ℕ)) (text : List ℕ) (c : Between) → Lawful b.entries → AllAnswered p b lines text c → Lawful c.entries
  all-answered b [] text c h k = subst (λ (z : Between). Lawful z.entries) (sym k.1) h
  all-answered b (line ∷ lines) text c h k = all-answered k.0 lines k.2 c (answered b line k.1 k.0 h k.3) k.4

  pub lawful : (bytes text : List ℕ) (s : IsSession p bytes text) → Lawful s.after.entries
  lawful bytes text s = all-answered s.before s.lines s.replies s.after (same [] s.before.entries (sym s.opens.entries) tt) s.answered
