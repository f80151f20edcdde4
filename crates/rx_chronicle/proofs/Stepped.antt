-- The entry of a task, and of the host.
use Rattle.std.proofs.Common.{◌≡◌, ℕ, ◌+◌, ◌-◌, not, Bool, true, false, List, [], ◌∷◌, ◌++◌, length, map, refl, ap, ◌∙◌, sym, subst, arith, append-nil}
use Rattle.std.proofs.Math.Bool.{or-false}
use Rattle.rx_rules.proofs.Common.{TaskId, PlaceId, ScopeId, Event, Fault, PlaceSet, Tree, on_chain, the_root, AllowedAct, Allowed, made_act, without, opening, tree_of, Given, NoneDue, in_all, plan_of, death_number}
use Rattle.rx_rules.specs.declared.entries.Act.{Act}
use Rattle.rx_rules.specs.declared.entries.Entry.{Entry}
use Rattle.rx_rules.specs.declared.entries.Entry.TheVariants.{Step, Root}
use Rattle.rx_rules.proofs.Append.{tree-push, root-push, act-places}
use Rattle.rx_tree_laws.specs.Sound.{Each}
use Rattle.rx_tree_laws.proofs.Changes.{each_filter}
use Rattle.rx_runs.specs.Segments.{plan_left}
use Rattle.rx_runs.proofs.Append.{allowed-push}
use Rattle.rx_runs.proofs.Pushes.{plan-push}
use Rattle.rx_runs.proofs.Journals.{death_same}
use Rattle.rx_chronicle.specs.declared.notes.Note.{Note}
use Rattle.rx_chronicle.specs.Told.{parents_by, parents_in, openers_by, openers_in, no_opener, dies_in, Ending, left_to_join}
use Rattle.rx_chronicle.specs.Keeping.{KeepsSo, Notes, Bounds}
use Rattle.rx_runs.proofs.Planned.{left-step, may_on}
use Rattle.rx_runs.specs.Ties.{MayCome}
use Rattle.rx_chronicle.proofs.Pushing.{left-root, parents-push, openers-push, dies-push}
use Rattle.rx_chronicle.proofs.Ended.{none_acts, stays_open}

-- the number of places is the same, and so is the room
pub stands_on : {L : Type 0} (stands : L → ℕ → Tree → Type 0) (U : Given) (l : L) (es : List Entry) (e : Entry) (T : Tree) → tree_of U.places (es ++ e ∷ []) ≡ T → T.places ≡ (tree_of U.places es).places → stands l (left_to_join U es) T → stands l (left_to_join U (es ++ e ∷ [])) (tree_of U.places (es ++ e ∷ []))
stands_on stands U l es e T same places stood =
    subst (λ (V : Tree). stands l (in_all U - V.places) V) (sym same) (subst (λ (n : ℕ). stands l (in_all U - n) T) (sym places) stood)

pub come_on : (U : Given) (es : List Entry) (e : Entry) (xs : List Event) (T : Tree) → tree_of U.places (es ++ e ∷ []) ≡ T → T.places ≡ (tree_of U.places es).places → ((p : PlaceId) → death_number 0 p (es ++ e ∷ []) ≡ death_number 0 p es) → MayCome (in_all U) (tree_of U.places es).places es xs → MayCome (in_all U) (tree_of U.places (es ++ e ∷ [])).places (es ++ e ∷ []) xs
come_on U es e xs T same places dead come =
    subst (λ (V : Tree). MayCome (in_all U) V.places (es ++ e ∷ []) xs) (sym same)
    (subst (λ (n : ℕ). MayCome (in_all U) n (es ++ e ∷ []) xs) (sym places) (may_on (in_all U) (tree_of U.places es).places es (es ++ e ∷ []) xs dead come))

-- what an act makes of the notes
pub record Grown (t : TaskId) (act : Act) (T' : Tree) (notes notes' : List Note) : Type 0 where
  pub parents : map (λ n. n.parent) notes' ≡ map (λ n. n.parent) notes ++ parents_by act
  pub openers : map (λ n. n.opener) notes' ≡ map (λ n. n.opener) notes ++ openers_by t act
  pub bounds : Each (Bounds (map (λ n. n.faults) notes')) T'.scopes

-- an entry that opens no scope leaves them
pub unnoted : (es : List Entry) (e : Entry) (T' : Tree) {T : Tree} (notes : List Note) → parents_in (e ∷ []) ≡ [] → openers_in (e ∷ []) ≡ [] → Each (Bounds (map (λ n. n.faults) notes)) T'.scopes → Notes es T notes → Notes (es ++ e ∷ []) T' notes
unnoted es e T' notes none free bounds h =
    record {
      parents = h.parents ∙ ap (λ (xs : List ScopeId). the_root ∷ xs) (sym (parents-push es e ∙ (ap (λ (xs : List ScopeId). parents_in es ++ xs) none ∙ append-nil (parents_in es))));
      openers = h.openers ∙ ap (λ (xs : List TaskId). no_opener ∷ xs) (sym (openers-push es e ∙ (ap (λ (xs : List TaskId). openers_in es ++ xs) free ∙ append-nil (openers_in es))));
      bounds = bounds;
    }

module _ {L : Type 0} {stands : L → ℕ → Tree → Type 0} {U : Given} {l : L} {es : List Entry} {ks : List Event} {set : PlaceSet} {ended : Bool} {ns : List Note} (k : KeepsSo stands U l es ks set ended ns) where
  -- where a task may act the root is not yet released
  pub acts-open : (t : TaskId) (act : Act) → AllowedAct (tree_of U.places es) t act → ended ≡ false
  acts-open t act may =
      (elim ended as (λ b. Ending b es → b ≡ false) [
        | true ↦ λ e. absurd (none_acts U es t act k.folds e may)
        | false ↦ λ e. refl
      ]) k.ending

  pub stepped : (ended ≡ false → NoneDue (length es) ks) → (t : TaskId) (act : Act) (batch : List (List ℕ)) → AllowedAct (tree_of U.places es) t act → (l' : L) (ns' : List Note) → stands l' (left_to_join U es) (made_act (tree_of U.places es) t act) → Grown t act (made_act (tree_of U.places es) t act) ns ns' → KeepsSo stands U l' (es ++ Step t act batch ∷ []) ks set ended ns'
  stepped free t act batch may l' ns' stood grown =
      let zero_n : length es ≡ 0 + length es = omega arith in
      let on : ended ≡ false = acts-open t act may in
      let same = tree-push U.places es (Step t act batch) in
      record {
        proper = k.proper;
        folds = record {
          some = k.folds.some;
          few = k.folds.few;
          allowed = allowed-push 0 (opening U.places) es (Step t act batch) k.folds.allowed may;
          plan = plan-push 0 (plan_of U) es (Step t act batch) k.folds.plan (subst (λ (i : ℕ). NoneDue i (plan_left (plan_of U) es)) zero_n (subst (λ (js : List Event). NoneDue (length es) js) k.left (free on)));
        };
        tree = stands_on stands U l' es (Step t act batch) (made_act (tree_of U.places es) t act) same (act-places (tree_of U.places es) t act) stood;
        left = k.left ∙ sym (left-step (plan_of U) es t act batch);
        come = come_on U es (Step t act batch) ks (made_act (tree_of U.places es) t act) same (act-places (tree_of U.places es) t act) (λ p. death_same p es (Step t act batch) refl) k.come;
        ending = stays_open ended es (Step t act batch) k.ending (subst (λ (b : Bool). Ending b es) on k.ending) tt;
        died = λ q low. k.died q low ∙ (sym (or-false (dies_in q es)) ∙ sym (dies-push q es (Step t act batch)));
        noted = record {
          parents = grown.parents ∙ (ap (λ (xs : List ScopeId). xs ++ parents_by act) k.noted.parents ∙ ap (λ (xs : List ScopeId). the_root ∷ xs) (ap (λ (xs : List ScopeId). parents_in es ++ xs) (sym (append-nil (parents_by act))) ∙ sym (parents-push es (Step t act batch))));
          openers = grown.openers ∙ (ap (λ (xs : List TaskId). xs ++ openers_by t act) k.noted.openers ∙ ap (λ (xs : List TaskId). no_opener ∷ xs) (ap (λ (xs : List TaskId). openers_in es ++ xs) (sym (append-nil (openers_by t act))) ∙ sym (openers-push es (Step t act batch))));
          bounds = subst (λ (T : Tree). Each (Bounds (map (λ n. n.faults) ns')) T.scopes) (sym same) grown.bounds;
        };
      }

  pub rooted : ended ≡ false → NoneDue (length es) ks → (lost : PlaceSet) (masked : ℕ) (thrown : List Fault) → Allowed (tree_of U.places es) (Root lost masked thrown) → (l' : L) → stands l' (left_to_join U es) (without (tree_of U.places es) the_root) → KeepsSo stands U l' (es ++ Root lost masked thrown ∷ []) ks set true ns
  rooted on free lost masked thrown may l' stood =
      let zero_n : length es ≡ 0 + length es = omega arith in
      let same = tree-push U.places es (Root lost masked thrown) in
      record {
        proper = k.proper;
        folds = record {
          some = k.folds.some;
          few = k.folds.few;
          allowed = allowed-push 0 (opening U.places) es (Root lost masked thrown) k.folds.allowed may;
          plan = plan-push 0 (plan_of U) es (Root lost masked thrown) k.folds.plan (subst (λ (i : ℕ). NoneDue i (plan_left (plan_of U) es)) zero_n (subst (λ (js : List Event). NoneDue (length es) js) k.left free));
        };
        tree = stands_on stands U l' es (Root lost masked thrown) (without (tree_of U.places es) the_root) same refl stood;
        left = k.left ∙ sym (left-root (plan_of U) es lost masked thrown);
        come = come_on U es (Root lost masked thrown) ks (without (tree_of U.places es) the_root) same refl (λ p. death_same p es (Root lost masked thrown) refl) k.come;
        ending = root-push es lost masked thrown (subst (λ (b : Bool). Ending b es) on k.ending);
        died = λ q low. k.died q low ∙ (sym (or-false (dies_in q es)) ∙ sym (dies-push q es (Root lost masked thrown)));
        noted = unnoted es (Root lost masked thrown) _ ns refl refl (subst (λ (T : Tree). Each (Bounds (map (λ n. n.faults) ns)) T.scopes) (sym same) (each_filter (Bounds (map (λ n. n.faults) ns)) (λ g. not (on_chain (tree_of U.places es) the_root g.number)) (tree_of U.places es).scopes k.noted.bounds)) k.noted;
      }
