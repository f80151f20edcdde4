-- The death that is due, and the join.
use Rattle.std.proofs.Common.{◌≡◌, ℕ, suc, ◌+◌, ◌-◌, ◌<◌, ◌≤◌, ◌||◌, ◌==◌, Bool, List, [], ◌∷◌, ◌++◌, length, map, All, refl, ap, ◌∙◌, sym, subst, arith}
use Rattle.std.proofs.Math.Bool.{or-false}
use Rattle.rx_rules.proofs.Common.{has_bit, PlaceId, Event, PlaceSet, Tree, strike, widened, Allowed, opening, tree_of, IsOlder, Given, IsDue, NoRoot, rest_of, in_all, plan_of}
use Rattle.rx_rules.specs.declared.entries.Entry.{Entry}
use Rattle.rx_rules.specs.declared.entries.Entry.TheVariants.{Death, Join}
use Rattle.rx_runs.specs.Ties.{MayBe, MayCome}
use Rattle.rx_rules.proofs.Append.{tree-push}
use Rattle.rx_rules.proofs.Widths.{limit-tree}
use Rattle.rx_tree_laws.specs.Sound.{Each}
use Rattle.rx_tree_laws.specs.Histories.{DeadAsTold}
use Rattle.rx_tree_laws.proofs.Histories.{none_yet, older-from}
use Rattle.rx_runs.specs.Segments.{plan_left}
use Rattle.rx_runs.proofs.Append.{allowed-push}
use Rattle.rx_runs.proofs.Pushes.{plan-push}
use Rattle.rx_runs.proofs.Planned.{due_may, rest_may, may_dies, may_on, come_within, left-death, left-join}
use Rattle.rx_runs.proofs.Journals.{death_same}
use Rattle.rx_finish.specs.Callers.{MayStrike}
use Rattle.rx_chronicle.specs.declared.notes.Note.{Note}
use Rattle.rx_chronicle.specs.Told.{dies_in, left_to_join}
use Rattle.rx_chronicle.specs.Keeping.{KeepsSo, Bounds}
use Rattle.rx_chronicle.proofs.Pushing.{dies-push}
use Rattle.rx_chronicle.proofs.Ended.{stays_open}
use Rattle.rx_chronicle.proofs.Stepped.{unnoted}

pub older : (q : ℕ) (es : List Entry) → All (IsOlder (length es)) (tree_of q es).dead
older q es = let z : 0 + length es ≡ length es = omega arith in subst (λ (n : ℕ). All (IsOlder n) (tree_of q es).dead) z (older-from 0 (opening q) es none_yet)

module _ {L : Type 0} {stands : L → ℕ → Tree → Type 0} {U : Given} {l : L} {es : List Entry} {xs : List Event} {set : PlaceSet} {ended : Bool} {ns : List Note} (d : PlaceId) (told : DeadAsTold) (k : KeepsSo stands U l es xs set ended ns) (unreleased : NoRoot es) (due : IsDue (length es) (Death d) (plan_left (plan_of U) es)) where
  first_death : IsDue (length es) (Death d) xs
  first_death = subst (λ (js : List Event). IsDue (length es) (Death d) js) (sym k.left) due

  one : MayBe (tree_of U.places es).places es (rest_of xs) (Death d)
  one = due_may (length es) (in_all U) (tree_of U.places es).places es xs (Death d) first_death k.come

  pub inside : d.0 < 16
  inside =
      let a : d.0 < (tree_of U.places es).places = one.0 in
      let b : (tree_of U.places es).places ≤ in_all U = come_within (in_all U) (tree_of U.places es).places es xs k.come in
      let c : in_all U ≤ 16 = k.proper.few in
      omega (arith, a, b, c)

  pub may : Allowed (tree_of U.places es) (Death d)
  may = (one.0, one.1, told U.places es d k.folds.some k.folds.few k.folds.allowed ∙ one.2)

  pub may_strike : MayStrike (tree_of U.places es) d (length es)
  may_strike = record { dies = may; later = older U.places es }

  pub died : (l' : L) (set' : PlaceSet) → stands l' (left_to_join U es) (strike (record { place = d; entry = length es }) (tree_of U.places es)) → ((q : ℕ) → q < 16 → has_bit set'.0 q ≡ (has_bit set.0 q || (d.0 == q))) → KeepsSo stands U l' (es ++ Death d ∷ []) (rest_of xs) set' ended ns
  died l' set' stood bits =
      let zero_n : length es ≡ 0 + length es = omega arith in
      let same = tree-push U.places es (Death d) in
      record {
        proper = k.proper;
        folds = record {
          some = k.folds.some;
          few = k.folds.few;
          allowed = allowed-push 0 (opening U.places) es (Death d) k.folds.allowed may;
          plan = plan-push 0 (plan_of U) es (Death d) k.folds.plan (subst (λ (i : ℕ). IsDue i (Death d) (plan_left (plan_of U) es)) zero_n due);
        };
        tree = subst (λ (T : Tree). stands l' (in_all U - T.places) T) (sym same) stood;
        left = ap rest_of k.left ∙ sym (left-death (plan_of U) es d);
        come = subst (λ (T : Tree). MayCome (in_all U) T.places (es ++ Death d ∷ []) (rest_of xs)) (sym same)
            (may_dies (in_all U) (tree_of U.places es).places es d (rest_of xs) one.3 (rest_may (length es) (in_all U) (tree_of U.places es).places es xs (Death d) first_death k.come));
        ending = stays_open ended es (Death d) k.ending unreleased tt;
        died = λ q low. bits q low ∙ (ap (λ (b : Bool). b || (d.0 == q)) (k.died q low) ∙ sym (dies-push q es (Death d) ∙ ap (λ (b : Bool). dies_in q es || b) (or-false (d.0 == q))));
        noted = unnoted es (Death d) _ ns refl refl (subst (λ (T : Tree). Each (Bounds (map (λ n. n.faults) ns)) T.scopes) (sym same) k.noted.bounds) k.noted;
      }

-- The join that is due.

module _ {L : Type 0} {stands : L → ℕ → Tree → Type 0} {U : Given} {l : L} {es : List Entry} {xs : List Event} {set : PlaceSet} {ended : Bool} {ns : List Note} (p : PlaceId) (k : KeepsSo stands U l es xs set ended ns) (unreleased : NoRoot es) (due : IsDue (length es) (Join p) (plan_left (plan_of U) es)) where
  first_join : IsDue (length es) (Join p) xs
  first_join = subst (λ (js : List Event). IsDue (length es) (Join p) js) (sym k.left) due

  next : p.0 ≡ (tree_of U.places es).places
  next = due_may (length es) (in_all U) (tree_of U.places es).places es xs (Join p) first_join k.come

  rest : MayCome (in_all U) (suc (tree_of U.places es).places) es (rest_of xs)
  rest = rest_may (length es) (in_all U) (tree_of U.places es).places es xs (Join p) first_join k.come

  below : suc (tree_of U.places es).places ≤ in_all U
  below = come_within (in_all U) (suc (tree_of U.places es).places) es (rest_of xs) rest

  pub may_join : Allowed (tree_of U.places es) (Join p)
  may_join = (next, (let a = next in let b = below in let c : in_all U ≤ 16 = k.proper.few in let d = limit-tree U.places es in omega (arith, a, b, c, d)))

  -- how many more places may join afterwards
  abbrev pub after_join : ℕ
  after_join = in_all U - suc (tree_of U.places es).places

  pub has_room : stands l (suc after_join) (tree_of U.places es)
  has_room = subst (λ (n : ℕ). stands l n (tree_of U.places es)) (let b = below in let z : in_all U - (tree_of U.places es).places ≡ suc (in_all U - suc (tree_of U.places es).places) = omega (arith, b) in z) k.tree

  pub joined : (l' : L) → stands l' after_join (widened (tree_of U.places es)) → KeepsSo stands U l' (es ++ Join p ∷ []) (rest_of xs) set ended ns
  joined l' stood =
      let zero_n : length es ≡ 0 + length es = omega arith in
      let same = tree-push U.places es (Join p) in
      record {
        proper = k.proper;
        folds = record {
          some = k.folds.some;
          few = k.folds.few;
          allowed = allowed-push 0 (opening U.places) es (Join p) k.folds.allowed may_join;
          plan = plan-push 0 (plan_of U) es (Join p) k.folds.plan (subst (λ (i : ℕ). IsDue i (Join p) (plan_left (plan_of U) es)) zero_n due);
        };
        tree = subst (λ (T : Tree). stands l' (in_all U - T.places) T) (sym same) stood;
        left = ap rest_of k.left ∙ sym (left-join (plan_of U) es p);
        come = subst (λ (T : Tree). MayCome (in_all U) T.places (es ++ Join p ∷ []) (rest_of xs)) (sym same)
            (may_on (in_all U) (suc (tree_of U.places es).places) es (es ++ Join p ∷ []) (rest_of xs) (λ q. death_same q es (Join p) refl) rest);
        ending = stays_open ended es (Join p) k.ending unreleased tt;
        died = λ q low. k.died q low ∙ (sym (or-false (dies_in q es)) ∙ sym (dies-push q es (Join p)));
        noted = unnoted es (Join p) _ ns refl refl (subst (λ (T : Tree). Each (Bounds (map (λ n. n.faults) ns)) T.scopes) (sym same) k.noted.bounds) k.noted;
      }
