-- What a keeper answers where its chronicle has granted a request, or refused it.
use Rattle.std.proofs.Common.{◌≡◌, ℕ, List, Some, None, refl, ap, ◌∙◌, sym, subst, inl, inr}
use Rattle.rx_rules.proofs.Common.{PlaceId}
use Rattle.rx_rules.specs.declared.entries.Act.{Act}
use Rattle.rx_history.specs.Logs.{Log}
use Rattle.rx_finish.specs.declared.ledger.Caller.{Caller}
use Rattle.rx_finish.specs.declared.ledger.LedgerFault.{LedgerFault}
use Rattle.rx_finish.specs.declared.ledger.LedgerFault.TheVariants as faults
use Rattle.rx_finish.specs.Calls.{IsUnstruck}
use Rattle.rx_ticket.specs.declared.tickets.AnyTicket.TheVariants.{Host}
use Rattle.rx_history.specs.declared.asks.Ask.TheVariants.{Root}
use Rattle.rx_chronicle.specs.Requests.{tree_told, Granted, IsRefused, RootDone, IsRootRefused}
use Rattle.rx_ledger.specs.declared.asks.Request.{Request}
use Rattle.rx_ledger.specs.declared.asks.Reply.{Reply}
use Rattle.rx_ledger.specs.declared.asks.Reply.TheVariants as replies
use Rattle.rx_ledger.specs.Answering.{Appends, Answers, MustWait, asker}
use Rattle.rx_ledger.specs.Inside.Doing.{request_of, refusal, DidRequest}

module _ (c c' : Log) where
  pub appends : (who : Caller) (act : Act) (batch : List (List ℕ)) → Granted c who act batch c' → Appends (tree_told c) c.entries who act batch c'.entries
  appends who act batch g = record { allowed = g.allowed; added = ap (λ h. h.entries) g.told }

  pub did : (q : Request) (r : Reply) (who : Caller) (act : Act) (batch : List (List ℕ)) → Granted c who act batch c' → Answers (tree_told c) c.entries q r c'.entries → DidRequest c q r c'
  did q r who act batch g answers = record { setup = ap (λ h. h.setup) g.told; answers = answers }

  -- a refusal, where MustWait follows from what the tree tells of it
  pub refused : (q : Request) (who : Caller) (Waits : PlaceId → Type 0) (f : LedgerFault) → asker q.ticket ≡ Some who → ((place : PlaceId) → IsUnstruck (tree_told c) who × Waits place → MustWait (tree_told c) place q) → IsRefused (tree_told c) who Waits f × (c' ≡ c) → DidRequest c q (refusal f q) c'
  refused q who Waits faults.NoMemory a wait h = record { setup = ap (λ l. l.setup) h.1; answers = (refl, ap (λ l. l.entries) h.1) }
  refused q who Waits (faults.Lost place at) a wait h =
      record { setup = ap (λ l. l.setup) h.1; answers = (record { who = who; asks = a; was_lost = h.0 }, ap (λ l. l.entries) h.1) }
  refused q who Waits (faults.NotYet place) a wait h =
      record { setup = ap (λ l. l.setup) h.1; answers = (refl, wait place h.0, ap (λ l. l.entries) h.1) }

  -- the host's release
  pub root_done : (batch : List (List ℕ)) → RootDone c c' → DidRequest c (request_of Host Root batch None) replies.RootDone c'
  root_done batch (inl h) = record { setup = ap (λ l. l.setup) h.1; answers = (refl, inl (h.0, ap (λ l. l.entries) h.1)) }
  root_done batch (inr h) =
      record {
        setup = ap (λ l. l.setup) h.told;
        answers = (refl, inr (record { lost = h.lost; masked = h.masked; thrown = h.thrown; allowed = h.allowed; added = ap (λ l. l.entries) h.told }));
      }

  pub root_refused : (batch : List (List ℕ)) (f : LedgerFault) → IsRootRefused (tree_told c) f → c' ≡ c → DidRequest c (request_of Host Root batch None) (refusal f (request_of Host Root batch None)) c'
  root_refused batch faults.NoMemory h same = record { setup = ap (λ l. l.setup) same; answers = (refl, ap (λ l. l.entries) same) }
  root_refused batch (faults.Lost place at) h same = absurd h
  root_refused batch (faults.NotYet place) h same = record { setup = ap (λ l. l.setup) same; answers = (refl, MustWait.host refl h, ap (λ l. l.entries) same) }

-- the answer to a request that comes back as it was
pub answered_as : (c c' : Log) (q q' : Request) (f : LedgerFault) (r : Reply) → r ≡ refusal f q' → q' ≡ q → DidRequest c q (refusal f q) c' → DidRequest c q r c'
answered_as c c' q q' f r is same did = subst (λ (v : Reply). DidRequest c q v c') (sym (is ∙ ap (λ (p : Request). refusal f p) same)) did
