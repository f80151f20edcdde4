-- What may be asked of a tree may be asked of it after a death, and after a join.
use Rattle.std.proofs.Common.{◌≡◌, ℕ, suc, List, [], ◌∷◌, Option, Some, None, option_map, ap, ◌∙◌, arith, inl, inr}
use Rattle.rx_rules.proofs.Common.{PlaceId, TaskId, ScopeId, Tree, inner, own_scope, strike, hit, widened, fold_from}
use Rattle.rx_rules.specs.declared.tasks.Task.{Task}
use Rattle.rx_rules.specs.declared.tasks.Blow.{Blow}
use Rattle.rx_tree_laws.proofs.Blows.{hit_number, hit_under, hit_place}
use Rattle.rx_tree_laws.proofs.Waiting.{hit_waits}
use Rattle.rx_chronicle.proofs.Linking.{find-hit}
use Rattle.rx_finish.specs.declared.ledger.Caller.{Caller}
use Rattle.rx_finish.specs.Callers.{MayAsk, MayAskTo, IsMoving, Travels, HasFinish, WaitsInside, IsBare, does_travel}
use Rattle.rx_ticket.specs.declared.tickets.AnyTicket.{AnyTicket}
use Rattle.rx_ticket.specs.declared.tickets.AnyTicket.TheVariants.{Moving, Running, Held, Host}
use Rattle.rx_history.specs.declared.asks.Ask.{Ask}
use Rattle.rx_history.specs.declared.asks.Ask.TheVariants.{At as Calls, Spawn, Arrive, Wait, Release, End, Root}
use Rattle.rx_ledger.specs.Asking.{MayAskFor, IsTravelling as Moves, IsRunning, IsHeld}
use Rattle.rx_kills.specs.declared.schedule.Due.{Due}
use Rattle.rx_kills.specs.declared.schedule.Due.TheVariants.{Join as Joins, Death as Dies}
use Rattle.rx_ledger.specs.Told.{due_entries}

-- Each kind of ticket.

pub running-on : (t : AnyTicket) (P Q : Caller → Type 0) → ((who : Caller) → P who → Q who) → IsRunning t P → IsRunning t Q
running-on (Running who) P Q f h = f who h
running-on (Moving who) P Q f h = h
running-on (Held who) P Q f h = h
running-on Host P Q f h = h

pub moves-on : (t : AnyTicket) (P Q : Caller → Type 0) → ((who : Caller) → P who → Q who) → Moves t P → Moves t Q
moves-on (Running who) P Q f h = h
moves-on (Moving who) P Q f h = f who h
moves-on (Held who) P Q f h = h
moves-on Host P Q f h = h

pub held-on : (t : AnyTicket) (P Q : Caller → Type 0) → ((who : Caller) → P who → Q who) → IsHeld t P → IsHeld t Q
held-on (Running who) P Q f h = h
held-on (Moving who) P Q f h = h
held-on (Held who) P Q f h = f who h
held-on Host P Q f h = h

-- After a death.

module _ (b : Blow) (T : Tree) where
  moving-on : (x : Task) → IsMoving x → IsMoving (hit b x)
  moving-on x h = record { place = h.place; is_at = hit_place b x ∙ h.is_at; moves = hit_waits b x ∙ h.moves }

  travels-on : (x : Task) → Travels x → Travels (hit b x)
  travels-on x h = record { travels = ap does_travel (hit_place b x) ∙ h.travels }

  finish-on : (who : Caller) (x : Task) → HasFinish T who x → HasFinish (strike b T) who (hit b x)
  finish-on who x h = record { moving = moving-on x h.moving; scope = h.scope; own = h.own; finish = h.finish }

  waits-on : (who : Caller) (x : Task) → WaitsInside T who x → WaitsInside (strike b T) who (hit b x)
  waits-on who x h = record { waits = hit_waits b x ∙ h.waits; scope = h.scope; own = h.own }

  bare-on : (who : Caller) (x : Task) → IsBare T who x → IsBare (strike b T) who (hit b x)
  bare-on who x h = record { moving = moving-on x h.moving; none_open = h.none_open }

  asks-on : (who : Caller) (P Q : Task → Type 0) → ((x : Task) → P x → Q (hit b x)) → MayAsk T who P → MayAsk (strike b T) who Q
  asks-on who P Q f h =
      record {
        caller = elim h.caller [
          | inl s ↦ inl (record {
            task = hit b s.task;
            stands = find-hit b who.task T.tasks ∙ ap (option_map (hit b)) s.stands;
            says = record { under = hit_under b s.task ∙ s.says.under; place = hit_place b s.task ∙ s.says.place };
            inner_is = inner-on s.task ∙ s.inner_is;
            allowed = f s.task s.allowed;
          })
          | inr s ↦ inr (record { task = s.task; none = find-hit b who.task T.tasks ∙ ap (option_map (hit b)) s.none; gone = s.gone; says = s.says })
        ];
        numbers = record { tasks = h.numbers.tasks; scopes = h.numbers.scopes };
      }
    where
      inner-on : (x : Task) → inner (strike b T) (hit b x) ≡ inner T x
      inner-on x = ap (λ (n : TaskId). elim (own_scope T n) [ Some g ↦ g.number | None ↦ (hit b x).under ]) (hit_number b x) ∙ ap (λ (u : ScopeId). elim (own_scope T x.number) [ Some g ↦ g.number | None ↦ u ]) (hit_under b x)

  to-on : (who : Caller) (to : PlaceId) → MayAskTo T who to → MayAskTo (strike b T) who to
  to-on who to h = record { asks = asks-on who IsMoving IsMoving moving-on h.asks; target = h.target }

  may-on : (t : AnyTicket) (path : Option (List ℕ)) (a : Ask) → MayAskFor T t path a → MayAskFor (strike b T) t path a
  may-on t path (Calls to) h = (running-on t _ _ (λ who. to-on who to) h.0, h.1)
  may-on t path (Spawn to) h = (running-on t _ _ (λ who. to-on who to) h.0, h.1)
  may-on t path Arrive h = (moves-on t _ _ (λ who. asks-on who Travels Travels travels-on) h.0, h.1)
  may-on t path (Wait thrown) h = (running-on t _ _ (λ who. asks-on who (HasFinish T who) (HasFinish (strike b T) who) (finish-on who)) h.0, h.1)
  may-on t path Release h = (held-on t _ _ (λ who. asks-on who (WaitsInside T who) (WaitsInside (strike b T) who) (waits-on who)) h.0, h.1)
  may-on t path (End thrown) h = (running-on t _ _ (λ who. asks-on who (IsBare T who) (IsBare (strike b T) who) (bare-on who)) h.0, h.1)
  may-on t path Root h = h
  may-on t path _ h = (running-on t _ _ (λ who. asks-on who IsMoving IsMoving moving-on) h.0, h.1)

-- After a join.

module _ (T : Tree) where
  wider-asks : (who : Caller) (P Q : Task → Type 0) → ((x : Task) → P x → Q x) → MayAsk T who P → MayAsk (widened T) who Q
  wider-asks who P Q f h =
      record {
        caller = elim h.caller [
          | inl s ↦ inl (record { task = s.task; stands = s.stands; says = s.says; inner_is = s.inner_is; allowed = f s.task s.allowed })
          | inr s ↦ inr (record { task = s.task; none = s.none; gone = s.gone; says = s.says })
        ];
        numbers = record { tasks = h.numbers.tasks; scopes = h.numbers.scopes };
      }

  wider-to : (who : Caller) (to : PlaceId) → MayAskTo T who to → MayAskTo (widened T) who to
  wider-to who to h = record { asks = wider-asks who IsMoving IsMoving (λ x m. m) h.asks; target = (let a = h.target in omega (arith, a)) }

  wider-finish : (who : Caller) (x : Task) → HasFinish T who x → HasFinish (widened T) who x
  wider-finish who x h = record { moving = h.moving; scope = h.scope; own = h.own; finish = h.finish }

  wider-waits : (who : Caller) (x : Task) → WaitsInside T who x → WaitsInside (widened T) who x
  wider-waits who x h = record { waits = h.waits; scope = h.scope; own = h.own }

  wider-bare : (who : Caller) (x : Task) → IsBare T who x → IsBare (widened T) who x
  wider-bare who x h = record { moving = h.moving; none_open = h.none_open }

  wider : (t : AnyTicket) (path : Option (List ℕ)) (a : Ask) → MayAskFor T t path a → MayAskFor (widened T) t path a
  wider t path (Calls to) h = (running-on t _ _ (λ who. wider-to who to) h.0, h.1)
  wider t path (Spawn to) h = (running-on t _ _ (λ who. wider-to who to) h.0, h.1)
  wider t path Arrive h = (moves-on t _ _ (λ who. wider-asks who Travels Travels (λ x m. m)) h.0, h.1)
  wider t path (Wait thrown) h = (running-on t _ _ (λ who. wider-asks who (HasFinish T who) (HasFinish (widened T) who) (wider-finish who)) h.0, h.1)
  wider t path Release h = (held-on t _ _ (λ who. wider-asks who (WaitsInside T who) (WaitsInside (widened T) who) (wider-waits who)) h.0, h.1)
  wider t path (End thrown) h = (running-on t _ _ (λ who. wider-asks who (IsBare T who) (IsBare (widened T) who) (wider-bare who)) h.0, h.1)
  wider t path Root h = h
  wider t path _ h = (running-on t _ _ (λ who. wider-asks who IsMoving IsMoving (λ x m. m)) h.0, h.1)

-- and so after any deaths and joins
pub may-after : (n : ℕ) (T : Tree) (ds : List Due) (t : AnyTicket) (path : Option (List ℕ)) (a : Ask) → MayAskFor T t path a → MayAskFor (fold_from n T (due_entries ds)) t path a
may-after n T [] t path a h = h
may-after n T (Dies d ∷ ds) t path a h = may-after (suc n) (strike (record { place = d; entry = n }) T) ds t path a (may-on (record { place = d; entry = n }) T t path a h)
may-after n T (Joins p ∷ ds) t path a h = may-after (suc n) (widened T) ds t path a (wider T t path a h)
