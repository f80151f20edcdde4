-- What a ledger keeps, with one entry more.
use Rattle.std.proofs.Common.{◌≡◌, ℕ, suc, ◌+◌, ◌-◌, ◌≤◌, true, false, List, [], ◌∷◌, ◌++◌, length, refl, ap, ◌∙◌, sym, subst, arith}
use Rattle.rx_rules.proofs.Common.{TaskId, PlaceId, Fault, PlaceSet, Tree, the_root, AllowedAct, Allowed, made_act, without, strike, widened, opening, tree_of, Given, Event, Folds, IsDue, NoneDue, rest_of, in_all, plan_of}
use Rattle.rx_rules.specs.declared.entries.Act.{Act}
use Rattle.rx_rules.specs.declared.entries.Entry.{Entry}
use Rattle.rx_rules.specs.declared.entries.Entry.TheVariants.{Step, Root, Death, Join}
use Rattle.rx_rules.proofs.Append.{tree-push, root-push, act-places, no_root-push, no_root-death}
use Rattle.rx_rules.proofs.Widths.{limit-tree}
use Rattle.rx_tree_laws.specs.Histories.{DeadAsTold}
use Rattle.rx_runs.specs.Segments.{plan_left, InTime}
use Rattle.rx_runs.specs.Ties.{MayBe, MayCome}
use Rattle.rx_runs.proofs.Append.{allowed-push}
use Rattle.rx_runs.proofs.Pushes.{plan-push}
use Rattle.rx_runs.proofs.Journals.{death_same}
use Rattle.rx_runs.proofs.Planned.{left-step, left-death, left-join, due_may, rest_may, may_dies, may_on, come_within}
use Rattle.rx_finish.specs.Callers.{MayStrike}
use Rattle.rx_chronicle.specs.Told.{left_to_join}
use Rattle.rx_chronicle.proofs.Pushing.{left-root, still_open-step}
use Rattle.rx_chronicle.proofs.Deaths.{older}
use Rattle.rx_verify.specs.Inside.Admits.{LedgerIs}
use Rattle.rx_chronicle.proofs.Stepped.{come_on, stands_on}

-- the same fold and plan with one entry more
folds_on : (U : Given) (es : List Entry) (e : Entry) → Folds U es → Allowed (tree_of U.places es) e → InTime (length es) (plan_left (plan_of U) es) e → Folds U (es ++ e ∷ [])
folds_on U es e folds may time =
    let zero_n : length es ≡ 0 + length es = omega arith in
    record {
      some = folds.some;
      few = folds.few;
      allowed = allowed-push 0 (opening U.places) es e folds.allowed may;
      plan = plan-push 0 (plan_of U) es e folds.plan (subst (λ (i : ℕ). InTime i (plan_left (plan_of U) es) e) zero_n time);
    }

module _ {L : Type 0} (stands : L → ℕ → Tree → Type 0) (U : Given) (es : List Entry) (l : L) (xs : List Event) (k : LedgerIs stands U es l xs false) where
  abbrev T : Tree
  T = tree_of U.places es

  -- whether an entry is in time is read from what is left
  pub in_time : (e : Entry) → InTime (length es) xs e → InTime (length es) (plan_left (plan_of U) es) e
  in_time e h = subst (λ (ys : List Event). InTime (length es) ys e) k.left h

  pub stepped : (t : TaskId) (act : Act) (batch : List (List ℕ)) (l' : L) → NoneDue (length es) xs → AllowedAct T t act → stands l' (left_to_join U es) (made_act T t act) → LedgerIs stands U (es ++ Step t act batch ∷ []) l' xs false
  stepped t act batch l' free may stood =
      let same = tree-push U.places es (Step t act batch) in
      record {
        proper = k.proper;
        folds = folds_on U es (Step t act batch) k.folds may (in_time (Step t act batch) free);
        tree = stands_on stands U l' es (Step t act batch) (made_act T t act) same (act-places T t act) stood;
        left = k.left ∙ sym (left-step (plan_of U) es t act batch);
        come = come_on U es (Step t act batch) xs (made_act T t act) same (act-places T t act) (λ p. death_same p es (Step t act batch) refl) k.come;
        ending = still_open-step es t act batch k.ending;
      }

  pub rooted : (lost : PlaceSet) (masked : ℕ) (thrown : List Fault) (l' : L) → NoneDue (length es) xs → Allowed T (Root lost masked thrown) → stands l' (left_to_join U es) (without T the_root) → LedgerIs stands U (es ++ Root lost masked thrown ∷ []) l' xs true
  rooted lost masked thrown l' free may stood =
      let e : Entry = Root lost masked thrown in
      let same = tree-push U.places es e in
      record {
        proper = k.proper;
        folds = folds_on U es e k.folds may (in_time e free);
        tree = stands_on stands U l' es e (without T the_root) same refl stood;
        left = k.left ∙ sym (left-root (plan_of U) es lost masked thrown);
        come = come_on U es e xs (without T the_root) same refl (λ p. death_same p es e refl) k.come;
        ending = root-push es lost masked thrown k.ending;
      }

  -- The death that is due.

  module _ (d : PlaceId) (told : DeadAsTold) (due : IsDue (length es) (Death d) xs) where
    one : MayBe T.places es (rest_of xs) (Death d)
    one = due_may (length es) (in_all U) T.places es xs (Death d) due k.come

    pub may_die : Allowed T (Death d)
    may_die = (one.0, one.1, told U.places es d k.folds.some k.folds.few k.folds.allowed ∙ one.2)

    pub may_strike : MayStrike T d (length es)
    may_strike = record { dies = may_die; later = older U.places es }

    pub died : (l' : L) → stands l' (left_to_join U es) (strike (record { place = d; entry = length es }) T) → LedgerIs stands U (es ++ Death d ∷ []) l' (rest_of xs) false
    died l' stood =
        let same = tree-push U.places es (Death d) in
        record {
          proper = k.proper;
          folds = folds_on U es (Death d) k.folds may_die (in_time (Death d) due);
          tree = subst (λ (V : Tree). stands l' (in_all U - V.places) V) (sym same) stood;
          left = ap rest_of k.left ∙ sym (left-death (plan_of U) es d);
          come = subst (λ (V : Tree). MayCome (in_all U) V.places (es ++ Death d ∷ []) (rest_of xs)) (sym same)
              (may_dies (in_all U) T.places es d (rest_of xs) one.3 (rest_may (length es) (in_all U) T.places es xs (Death d) due k.come));
          ending = no_root-death es d k.ending;
        }

  -- The join that is due.

  module _ (p : PlaceId) (due : IsDue (length es) (Join p) xs) where
    next : p.0 ≡ T.places
    next = due_may (length es) (in_all U) T.places es xs (Join p) due k.come

    rest : MayCome (in_all U) (suc T.places) es (rest_of xs)
    rest = rest_may (length es) (in_all U) T.places es xs (Join p) due k.come

    joins_below : suc T.places ≤ in_all U
    joins_below = come_within (in_all U) (suc T.places) es (rest_of xs) rest

    pub may_join : Allowed T (Join p)
    may_join = (next, (let a = next in let b = joins_below in let c : in_all U ≤ 16 = k.proper.few in let d = limit-tree U.places es in omega (arith, a, b, c, d)))

    -- how many more places may join afterwards
    abbrev pub after_join : ℕ
    after_join = in_all U - suc T.places

    pub has_room : stands l (suc after_join) T
    has_room = subst (λ (n : ℕ). stands l n T) (let b = joins_below in let z : in_all U - T.places ≡ suc (in_all U - suc T.places) = omega (arith, b) in z) k.tree

    pub joined : (l' : L) → stands l' after_join (widened T) → LedgerIs stands U (es ++ Join p ∷ []) l' (rest_of xs) false
    joined l' stood =
        let same = tree-push U.places es (Join p) in
        record {
          proper = k.proper;
          folds = folds_on U es (Join p) k.folds may_join (in_time (Join p) due);
          tree = subst (λ (V : Tree). stands l' (in_all U - V.places) V) (sym same) stood;
          left = ap rest_of k.left ∙ sym (left-join (plan_of U) es p);
          come = subst (λ (V : Tree). MayCome (in_all U) V.places (es ++ Join p ∷ []) (rest_of xs)) (sym same)
              (may_on (in_all U) (suc T.places) es (es ++ Join p ∷ []) (rest_of xs) (λ q. death_same q es (Join p) refl) rest);
          ending = no_root-push es (Join p) k.ending tt;
        }
