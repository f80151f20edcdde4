-- From the entries so far to one more, and to the verdict.
use Rattle.std.proofs.Common.{◌≡◌, ℕ, ◌+◌, ◌<◌, ◌≤◌, ◌^◌, Bool, true, false, List, [], ◌∷◌, ◌++◌, length, take, Some, None, slice_get, Result, Ok, Err, IfOk, sym, subst, arith}
use Rattle.std.proofs.lemmas.List.{length-take-le}
use Rattle.rx_rules.proofs.Common.{TaskId, Block, work, tree_of, Tree, Given, plan_of}
use Rattle.rx_rules.specs.declared.entries.Act.{Act}
use Rattle.rx_rules.specs.declared.entries.Entry.{Entry}
use Rattle.rx_rules.specs.declared.entries.Entry.TheVariants.{Step}
use Rattle.rx_rules.specs.declared.events.PlaceEvent.{PlaceEvent}
use Rattle.rx_runs.specs.AnyAnswers.{MadeBounded}
use Rattle.rx_runs.specs.Segments.{plan_left, InTime}
use Rattle.rx_finish.specs.declared.ledger.Caller.{Caller}
use Rattle.rx_base.proofs.Elements.{get-within}
use Rattle.rx_chronicle.specs.Told.{Ending}
use Rattle.rx_ledger.specs.TermAsks.{MayAskAct}
use Rattle.rx_chronicle.proofs.Ended.{root_or_none}
use Rattle.rx_syntax.specs.Shape.{Shape, Stands}
use Rattle.rx_verdict.specs.Parts.{IsQuiet}
use Rattle.rx_verdict.specs.Seats.{SeatsTell, PartFollows, MayFollow}
use Rattle.rx_verdict.specs.Verdicts.{Part}
use Rattle.rx_verdict.proofs.Parting.{take_next}
use Rattle.rx_verify.specs.declared.audit.Audit.{Audit}
use Rattle.rx_verify.specs.Inside.Admits.{Admits, AuditIs}
use Rattle.rx_verify.specs.declared.players.Players.{Players}
use Rattle.rx_verify.specs.Players.{Awaits, PlayersStay}
use Rattle.rx_verify.specs.Reaching.{Granted, IsMade, Reached}
use Rattle.rx_verify.specs.Inside.Deciding.{Decides}
use Rattle.rx_verify.specs.Inside.Granting.{Admitting, AdmittingOf, CallerMayAsk, CanContinue}
use Rattle.rx_verify.specs.Inside.Passing.{PassIs, IsFlaw, AfterEntry}
use Rattle.rx_verify.proofs.Bounded.{few_entries}

module _ {L : Type 0} (stands : L → ℕ → Tree → Type 0) (shape : Shape) (U : Given) (es : List Entry) (js : List (List PlaceEvent)) (i : ℕ) where
  -- what audit and players have gone through is a part of a run
  pub part_here : SeatsTell → (a : Audit L) (ps : Players) → PassIs stands shape U es js i a ps → (code : Block) → Stands shape code → Part code U es js i
  part_here law a ps pass code st = let h = pass.players code st in (law code U es js).1 i h.seats h.seated

  -- it has few entries, so that numbers suffice
  few_here : MadeBounded → (a : Audit L) (ps : Players) → PassIs stands shape U es js i a ps → (code : Block) → Stands shape code → work code ≤ 100000 → length (take i es) + 2 < 2 ^ 31
  few_here law a ps pass code st small =
      let h = (pass.players code st).seated in
      few_entries law code U (take i es) js h.starts pass.audit.ledger.proper pass.audit.ledger.folds small h.made

  pub count_is_few : MadeBounded → (a : Audit L) (ps : Players) → PassIs stands shape U es js i a ps → (code : Block) → Stands shape code → work code ≤ 100000 → a.count + 2 < 2 ^ 31
  count_is_few law a ps pass code st small =
      let few = few_here law a ps pass code st small in
      let same = pass.audit.count in
      omega (arith, few, same)

  pub number_is_less : MadeBounded → (a : Audit L) (ps : Players) → PassIs stands shape U es js i a ps → (code : Block) → Stands shape code → work code ≤ 100000 → i < length es → i + 1 < 2 ^ 31
  number_is_less law a ps pass code st small inside =
      let few = few_here law a ps pass code st small in
      let same = length-take-le i es (omega (arith, inside)) in
      omega (arith, few, same)

  -- an audit in which the root stands
  pub goes : MadeBounded → (a : Audit L) (ps : Players) → PassIs stands shape U es js i a ps → (code : Block) → Stands shape code → work code ≤ 100000 → a.ended ≡ false → CanContinue stands a
  goes law a ps pass code st small on =
      record { setup = U; entries = take i es; is = pass.audit; few = count_is_few law a ps pass code st small; unended = on }

  -- after the root's release no entry may follow
  pub over : i < length es → SeatsTell → PartFollows → (a : Audit L) (ps : Players) → PassIs stands shape U es js i a ps → a.ended ≡ true → IsFlaw shape U es js i
  over inside tell law a ps pass on code st =
      (part_here tell a ps pass code st, λ part. let x = get-within es i inside in root_or_none (take i es) (subst (λ (b : Bool). Ending b (take i es)) on pass.audit.ledger.ending) (law code U es js i x.0 x.1 part).no_root)

  module _ (e : Entry) (at : slice_get es i ≡ Some e) (inside : i < length es) where
    -- what the audit has admitted may follow
    pub may_follow : Admits U (take i es) e → MayFollow U es i e
    may_follow m =
        record {
          here = at;
          allowed = m.allowed;
          no_root = m.no_root;
          in_time = subst (λ (n : ℕ). InTime n (plan_left (plan_of U) (take i es)) e) (length-take-le i es (omega (arith, inside))) m.in_time;
        }

    -- and what may follow it admits
    admitted : MayFollow U es i e → Admits U (take i es) e
    admitted f =
        record {
          allowed = f.allowed;
          no_root = f.no_root;
          in_time = subst (λ (n : ℕ). InTime n (plan_left (plan_of U) (take i es)) e) (sym (length-take-le i es (omega (arith, inside)))) f.in_time;
        }

    -- where the audit refuses, the entry is the flaw
    pub after_refusal : SeatsTell → PartFollows → (a : Audit L) (ps : Players) → PassIs stands shape U es js i a ps → (Admits U (take i es) e → ⊥) → IsFlaw shape U es js i
    after_refusal tell law a ps pass never code st = (part_here tell a ps pass code st, λ part. never (admitted (law code U es js i e at part)))

    -- an entry of no task
    pub quiet_entry : SeatsTell → PartFollows → PlayersStay → IsQuiet e → (a a' : Audit L) (ps : Players) (b : Bool) → PassIs stands shape U es js i a ps → Admitting stands a a' e b → AfterEntry stands shape U es js i a' ps b
    quiet_entry tell law stay q a a' ps true pass admits =
        let done = admits U (take i es) pass.audit in
        record {
          audit = subst (λ (xs : List Entry). AuditIs stands U xs a') (sym (take_next es i e at)) done.1;
          players = λ code st. stay shape code U es js i ps e q (may_follow done.0) (pass.players code st);
        }
    quiet_entry tell law stay q a a' ps false pass admits = after_refusal tell law a ps pass (admits U (take i es) pass.audit)

    pub quiet_answer : {E : Type 0} → SeatsTell → PartFollows → PlayersStay → IsQuiet e → (a a' : Audit L) (ps : Players) (r : Result Bool E) → PassIs stands shape U es js i a ps → IfOk r (Admitting stands a a' e) → IfOk r (AfterEntry stands shape U es js i a' ps)
    quiet_answer tell law stay q a a' ps (Ok b) pass admits = quiet_entry tell law stay q a a' ps b pass admits
    quiet_answer tell law stay q a a' ps (Err x) pass admits = tt

  -- The entry of a task.

  module _ (task : TaskId) (act : Act) (batch : List (List ℕ)) (at : slice_get es i ≡ Some (Step task act batch)) (inside : i < length es) (a : Audit L) (ps : Players) (pass : PassIs stands shape U es js i a ps) where
    pub awaits : (code : Block) → Stands shape code → Awaits shape code U es js i ps (Step task act batch)
    awaits code st = record { script = st; players = pass.players code st; here = at }

    -- nobody asks
    pub none_asks : SeatsTell → (mid : Players) → Reached shape js i ps mid task act batch None → IsFlaw shape U es js i
    none_asks tell mid none code st = (part_here tell a ps pass code st, none code U es (awaits code st))

    -- this caller asks, which is the task
    module _ (who : Caller) (mid : Players) (reached : Reached shape js i ps mid task act batch (Some who)) where
      may_ask : (code : Block) → Stands shape code → MayAskAct (tree_of U.places (take i es)) who act
      may_ask code st = (reached code U es (awaits code st)).1

      pub asks : MadeBounded → (code : Block) → Stands shape code → work code ≤ 100000 → a.ended ≡ false → CallerMayAsk stands a who act
      unfolding goes
      asks law code st small on = record { goes = goes law a ps pass code st small on; may = may_ask code st }

      admitted_so : (a' : Audit L) (b : Bool) (code : Block) → Stands shape code → AdmittingOf stands a a' who act b → Decides b (Admits U (take i es) (Step task act batch)) (AuditIs stands U (take i es ++ Step task act batch ∷ []) a')
      admitted_so a' b code st admits =
          subst (λ (u : TaskId). Decides b (Admits U (take i es) (Step u act batch)) (AuditIs stands U (take i es ++ Step u act batch ∷ []) a')) (reached code U es (awaits code st)).0
          (admits U (take i es) batch pass.audit (may_ask code st))

      -- the ledger refuses
      pub none_granted : SeatsTell → PartFollows → (code : Block) → Stands shape code → (a' : Audit L) → AdmittingOf stands a a' who act false → IsFlaw shape U es js i
      none_granted tell law code st a' admits = after_refusal (Step task act batch) at inside tell law a ps pass (admitted_so a' false code st admits)

      -- or it grants the act, and the players decide
      pub follows : (code : Block) → Stands shape code → (a' : Audit L) → AdmittingOf stands a a' who act true → MayFollow U es i (Step task act batch)
      follows code st a' admits = may_follow (Step task act batch) at inside (admitted_so a' true code st admits).0

      pub granted : (code : Block) → Stands shape code → (a' : Audit L) → AdmittingOf stands a a' who act true → Granted shape i mid task act
      granted code st a' admits = (code, U, es, js, batch, (reached code U es (awaits code st)).2, follows code st a' admits)

      made : SeatsTell → (code : Block) → Stands shape code → (a' : Audit L) (ps' : Players) (b : Bool) → AdmittingOf stands a a' who act true → IsMade shape i mid ps' task act b → AfterEntry stands shape U es js i a' ps' b
      made tell code st a' ps' true admits h =
          record {
            audit = subst (λ (xs : List Entry). AuditIs stands U xs a') (sym (take_next es i (Step task act batch) at)) (admitted_so a' true code st admits).1;
            players = λ other k. h other U es js batch (reached other U es (awaits other k)).2 (follows other k a' admits);
          }
      made tell code st a' ps' false admits h = λ other k.
          (part_here tell a ps pass other k, h other U es js batch (reached other U es (awaits other k)).2 (follows other k a' admits))

      pub made_answer : {E : Type 0} → SeatsTell → (code : Block) → Stands shape code → (a' : Audit L) (ps' : Players) (r : Result Bool E) → AdmittingOf stands a a' who act true → IfOk r (IsMade shape i mid ps' task act) → IfOk r (AfterEntry stands shape U es js i a' ps')
      made_answer tell code st a' ps' (Ok b) admits h = made tell code st a' ps' b admits h
      made_answer tell code st a' ps' (Err x) admits h = tt
