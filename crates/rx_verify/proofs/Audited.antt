-- What an audit keeps, with one entry more.
use Rattle.std.proofs.Common.{◌≡◌, ℕ, suc, ◌+◌, ◌-◌, ◌<◌, ◌^◌, Bool, true, false, List, [], ◌∷◌, ◌++◌, length, refl, ap, ◌∙◌, sym, subst, arith, length-append, Err}
use Rattle.std.proofs.lemmas.Bool.{true≢false}
use Rattle.rx_rules.proofs.Common.{MembersMakeTheSet, PlaceId, Fault, PlaceSet, Tree, the_root, AllowedAct, Allowed, MayFree, made_act, without, strike, widened, opening, tree_of, Given, Event, IsDue, NoneDue, NoRoot, EndsWithRoot, rest_of, in_all, plan_of, Proper}
use Rattle.rx_rules.specs.declared.entries.Act.{Act}
use Rattle.rx_rules.specs.declared.entries.Entry.{Entry}
use Rattle.rx_rules.specs.declared.entries.Entry.TheVariants.{Step, Root, Death, Join}
use Rattle.rx_tree_laws.specs.Histories.{DeadAsTold}
use Rattle.rx_runs.specs.Ties.{MayCome}
use Rattle.rx_runs.proofs.Plans.{plan_comes}
use Rattle.rx_finish.specs.declared.ledger.Caller.{Caller}
use Rattle.rx_finish.specs.declared.ledger.Outcome.{Outcome}
use Rattle.rx_finish.specs.Callers.{MayStrike}
use Rattle.rx_chronicle.specs.Told.{Ending, left_to_join}
use Rattle.rx_verify.specs.declared.audit.Audit.{Audit}
use Rattle.rx_verify.specs.Inside.Deciding.{Decides}
use Rattle.rx_verify.specs.Inside.Admits.{Admits, LedgerIs, AuditIs}
use Rattle.rx_finish.specs.declared.ledger.LedgerFault.{LedgerFault}
use Rattle.rx_finish.specs.declared.ledger.LedgerFault.TheVariants.{NotYet, Lost, NoMemory}
use Rattle.rx_finish.specs.Calls.{RootReply}
use Rattle.rx_verify.specs.Inside.Grants.{IsRefusal}
use Rattle.rx_verify.proofs.Admitted.{stepped, rooted, may_die, may_strike, died, may_join, after_join, has_room, joined, in_time}
use Rattle.rx_verify.proofs.Agreeing.{outcome_same}
use Rattle.rx_chronicle.proofs.Ended.{root_or_none}

module _ {L : Type 0} (stands : L → ℕ → Tree → Type 0) (U : Given) (es : List Entry) (a : Audit L) (h : AuditIs stands U es a) (on : a.ended ≡ false) (few : a.count + 2 < 2 ^ 31) where
  abbrev T : Tree
  T = tree_of U.places es

  pub kept : LedgerIs stands U es a.ledger a.plan false
  kept = subst (λ (b : Bool). LedgerIs stands U es a.ledger a.plan b) on h.ledger

  no_root : NoRoot es
  no_root = kept.ending

  audit_on : (e : Entry) (b : Audit L) → LedgerIs stands U (es ++ e ∷ []) b.ledger b.plan b.ended → b.count ≡ a.count + 1 → AuditIs stands U (es ++ e ∷ []) b
  audit_on e b ledger count = record { ledger = ledger; count = count ∙ (ap (λ (n : ℕ). n + 1) h.count ∙ sym (length-append es (e ∷ []))) }

  -- A death.

  module _ (d : PlaceId) (told : DeadAsTold) (due : IsDue a.count (Death d) a.plan) where
    due_now : IsDue (length es) (Death d) a.plan
    due_now = subst (λ (n : ℕ). IsDue n (Death d) a.plan) h.count due

    pub strikes : MayStrike T d a.count
    strikes = subst (λ (n : ℕ). MayStrike T d n) (sym h.count) (may_strike stands U es a.ledger a.plan kept d told due_now)

    pub death_on : (l : L) (xs : List Event) → xs ≡ rest_of a.plan → stands l (left_to_join U es) (strike (record { place = d; entry = a.count }) T) → Admits U es (Death d) × AuditIs stands U (es ++ Death d ∷ []) (record a { ledger = l; plan = xs; count = a.count + 1 })
    death_on l xs rest stood =
        let e : Entry = Death d in
        let may = may_die stands U es a.ledger a.plan kept d told due_now in
        let stood_at = subst (λ (n : ℕ). stands l (left_to_join U es) (strike (record { place = d; entry = n }) T)) h.count stood in
        let on' = died stands U es a.ledger a.plan kept d told due_now l stood_at in (
          record { allowed = may; no_root = no_root; in_time = in_time stands U es a.ledger a.plan kept e due_now },
          audit_on e (record a { ledger = l; plan = xs; count = a.count + 1 })
              (subst (λ (ys : List Event). LedgerIs stands U (es ++ e ∷ []) l ys a.ended) (sym rest) (subst (λ (b : Bool). LedgerIs stands U (es ++ e ∷ []) l (rest_of a.plan) b) (sym on) on')) refl,
        )

  -- A join.

  module _ (p : PlaceId) (due : IsDue a.count (Join p) a.plan) where
    pub join_now : IsDue (length es) (Join p) a.plan
    join_now = subst (λ (n : ℕ). IsDue n (Join p) a.plan) h.count due

    pub joins : Allowed T (Join p)
    joins = may_join stands U es a.ledger a.plan kept p join_now

    abbrev pub room_after : ℕ
    room_after = after_join stands U es a.ledger a.plan kept p join_now

    pub joins_with_room : stands a.ledger (suc room_after) T
    joins_with_room = has_room stands U es a.ledger a.plan kept p join_now

    pub join_on : (l : L) (xs : List Event) → xs ≡ rest_of a.plan → stands l room_after (widened T) → Admits U es (Join p) × AuditIs stands U (es ++ Join p ∷ []) (record a { ledger = l; plan = xs; count = a.count + 1 })
    join_on l xs rest stood =
        let e : Entry = Join p in
        let on' = joined stands U es a.ledger a.plan kept p join_now l stood in (
          record { allowed = joins; no_root = no_root; in_time = in_time stands U es a.ledger a.plan kept e join_now },
          audit_on e (record a { ledger = l; plan = xs; count = a.count + 1 })
              (subst (λ (ys : List Event). LedgerIs stands U (es ++ e ∷ []) l ys a.ended) (sym rest) (subst (λ (b : Bool). LedgerIs stands U (es ++ e ∷ []) l (rest_of a.plan) b) (sym on) on')) refl,
        )

  -- The root.

  free_now : NoneDue a.count a.plan → NoneDue (length es) a.plan
  free_now free = subst (λ (n : ℕ). NoneDue n a.plan) h.count free

  pub root_on : (lost : PlaceSet) (masked : ℕ) (thrown : List Fault) (l : L) → NoneDue a.count a.plan → Allowed T (Root lost masked thrown) → stands l (left_to_join U es) (without T the_root) → Admits U es (Root lost masked thrown) × AuditIs stands U (es ++ Root lost masked thrown ∷ []) (record a { ledger = l; ended = true; count = a.count + 1 })
  root_on lost masked thrown l free may stood =
      let e : Entry = Root lost masked thrown in (
        record { allowed = may; no_root = no_root; in_time = in_time stands U es a.ledger a.plan kept e (free_now free) },
        audit_on e (record a { ledger = l; ended = true; count = a.count + 1 })
            (rooted stands U es a.ledger a.plan kept lost masked thrown l (free_now free) may stood) refl,
      )

  -- An act.

  pub grant_on : (who : Caller) (act : Act) (batch : List (List ℕ)) (l : L) → NoneDue a.count a.plan → AllowedAct T who.task act → stands l (left_to_join U es) (made_act T who.task act) → Admits U es (Step who.task act batch) × AuditIs stands U (es ++ Step who.task act batch ∷ []) (record a { ledger = l; count = a.count + 1 })
  grant_on who act batch l free may stood =
      let e : Entry = Step who.task act batch in (
        record { allowed = may; no_root = no_root; in_time = in_time stands U es a.ledger a.plan kept e (free_now free) },
        audit_on e (record a { ledger = l; count = a.count + 1 })
            (subst (λ (c : Bool). LedgerIs stands U (es ++ e ∷ []) l a.plan c) (sym on) (stepped stands U es a.ledger a.plan kept who.task act batch l (free_now free) may stood)) refl,
      )

-- What is due, by the names of a call that makes it.

module _ {L : Type 0} (stands : L → ℕ → Tree → Type 0) (U : Given) (es : List Entry) (mid a : Audit L) (xs : List Event) (same : mid ≡ a) where
  pub rest_so : xs ≡ rest_of mid.plan → xs ≡ rest_of a.plan
  rest_so h = h ∙ ap (λ (b : Audit L). rest_of b.plan) same

  pub made_so : (e made : Entry) → made ≡ e → Admits U es e × AuditIs stands U (es ++ e ∷ []) (record a { plan = xs; count = a.count + 1 }) → Admits U es made × AuditIs stands U (es ++ made ∷ []) (record mid { plan = xs; count = mid.count + 1 })
  made_so e made is h =
      subst (λ (d : Entry). Admits U es d × AuditIs stands U (es ++ d ∷ []) (record mid { plan = xs; count = mid.count + 1 })) (sym is)
      (subst (λ (b : Audit L). Admits U es e × AuditIs stands U (es ++ e ∷ []) (record b { plan = xs; count = b.count + 1 })) (sym same) h)

-- The root's release decided by a comparison.

pub root_decides : MembersMakeTheSet → (T : Tree) (o : Outcome) (lost : PlaceSet) (masked : ℕ) (thrown : List Fault) → o.lost.0 < 2 ^ 16 → lost.0 < 2 ^ 16 → Allowed T (Root o.lost o.masked o.thrown) → Allowed T (Root lost masked thrown) → o ≡ record { lost = lost; masked = masked; thrown = thrown }
root_decides law T o lost masked thrown low high mine act =
    let m : MayFree T the_root o.lost o.masked o.thrown = mine.2 in
    let n : MayFree T the_root lost masked thrown = act.2 in
    outcome_same o lost masked thrown (law o.lost lost low high (m.places ∙ sym n.places)) (m.count ∙ sym n.count) (m.faults ∙ sym n.faults)

-- An audit without entries.

pub opened_audit : {L : Type 0} (stands : L → ℕ → Tree → Type 0) (U : Given) (a : Audit L) → Proper U → stands a.ledger (length U.joins) (opening U.places) → a.plan ≡ plan_of U → a.ended ≡ false → a.count ≡ 0 → AuditIs stands U [] a
opened_audit stands U a proper stood plan ended count =
    record {
      ledger = record {
        proper = proper;
        folds = record { some = proper.some; few = (let f = proper.few in omega (arith, f)); allowed = tt; plan = tt };
        tree = subst (λ (n : ℕ). stands a.ledger n (opening U.places)) (let z : length U.joins ≡ U.places + length U.joins - U.places = omega arith in z) stood;
        left = plan;
        come = subst (λ (xs : List Event). MayCome (in_all U) U.places [] xs) (sym plan) (plan_comes U proper);
        ending = subst (λ (b : Bool). Ending b []) (sym ended) tt;
      };
      count = count;
    }

-- where the ledger refuses the root's release the entry is not allowed
pub root_refused : (T : Tree) (lost : PlaceSet) (masked : ℕ) (thrown : List Fault) (S : Tree → Type 0) (fault : LedgerFault) → IsRefusal fault → RootReply T (Err fault) S → Allowed T (Root lost masked thrown) → ⊥
root_refused T lost masked thrown S (NotYet place) r reply act = true≢false (sym act.2.is_quiet ∙ reply.0.busy)
root_refused T lost masked thrown S (Lost place at) r reply act = reply
root_refused T lost masked thrown S NoMemory r reply act = r

-- what an answer says where it is known
pub decided : (b c : Bool) (P Q : Type 0) → b ≡ c → Decides b P Q → Decides c P Q
decided b c P Q e h = subst (λ (d : Bool). Decides d P Q) e h

-- whether the root is released is whether the entries end with that
pub tells_end : {L : Type 0} (stands : L → ℕ → Tree → Type 0) (U : Given) (es : List Entry) (a : Audit L) → AuditIs stands U es a → (a.ended ≡ true → EndsWithRoot es) × (EndsWithRoot es → a.ended ≡ true)
tells_end stands U es a h = (λ e. subst (λ (b : Bool). Ending b es) e h.ledger.ending, λ last. ended a.ended h.ledger.ending last) where
  ended : (b : Bool) → Ending b es → EndsWithRoot es → b ≡ true
  ended true k last = refl
  ended false k last = absurd (root_or_none es last k)
