-- The law of asking.
use Rattle.std.proofs.Common.{◌≡◌, ℕ, ◌<◌, ◌≤◌, Bool, List, [], ◌∷◌, ◌++◌, map, reverse, refl, ap, ◌∙◌, sym, subst}
use Rattle.std.proofs.lemmas.List.{reverse-append, reverse-reverse}
use Rattle.rx_rules.proofs.Common.{ScopeId, Fault, Vars, Term, Does, Opens, Calls, Spawns, Waits, Releases, Prints, Counts, Done, does, granted, Tree, tree_of, Given, Folds}
use Rattle.rx_rules.specs.declared.tasks.Kind.{Kind}
use Rattle.rx_rules.specs.declared.tasks.Kind.TheVariants.{Finish}
use Rattle.rx_rules.specs.declared.entries.Entry.{Entry}
use Rattle.rx_finish.specs.declared.ledger.Caller.{Caller}
use Rattle.rx_finish.specs.Callers.{MayAskMoving, MayAskWait, MayAskEnd}
use Rattle.rx_tree_laws.specs.Held.{is_held}
use Rattle.rx_tree_laws.specs.Spine.{Spine}
use Rattle.rx_tree_laws.specs.TermSteps.{Targets}
use Rattle.rx_tree_laws.proofs.Granting.{not_held, release_held}
use Rattle.rx_tree_laws.proofs.SpineGrants.{GrantsSpine, spine-grant, EmptyWhereDone, spine-done}
use Rattle.rx_tree_laws.proofs.Targets.{targets-exist}
use Rattle.rx_ledger.specs.Owned.{Owned, own_told}
use Rattle.rx_ledger.specs.TermAsks.{kinds_told, Serves, MayAskNext, LawOfAsking}
use Rattle.rx_ledger.proofs.OwnTold.{may_wait_next, may_end_next}

-- The scopes of a task by their kinds.

abbrev pub kinds_of : Owned → List Kind
kinds_of own = map (λ s. s.1) own

first_kind : (own : Owned) (k : Kind) (ks : List Kind) → kinds_of own ≡ k ∷ ks → (s : ScopeId) × (rest : Owned) × (own ≡ (s, k) ∷ rest) × (kinds_of rest ≡ ks)
first_kind [] k ks h = absurd (let g : ⊥ = cc h in g)
first_kind (x ∷ own) k ks h =
    let same : x.1 ≡ k = cc h in
    let more : kinds_of own ≡ ks = cc h in
    (x.0, own, (λ i. (x.0, same i) ∷ own), more)

-- the newest of them
pub newest : (own : Owned) (front : List Kind) (k : Kind) → reverse (kinds_of own) ≡ front ++ k ∷ [] → (s : ScopeId) × (rest : Owned) × (own ≡ (s, k) ∷ rest) × (kinds_of rest ≡ reverse front)
newest own front k h = first_kind own k (reverse front) (sym (reverse-reverse (kinds_of own)) ∙ (ap (λ (ks : List Kind). reverse ks) h ∙ reverse-append front (k ∷ [])))

pub none_own : (own : Owned) → reverse (kinds_of own) ≡ [] → own ≡ []
none_own [] h = refl
none_own (x ∷ own) h =
    let e : x.1 ∷ kinds_of own ≡ [] = sym (reverse-reverse (kinds_of (x ∷ own))) ∙ ap (λ (ks : List Kind). reverse ks) h in
    absurd (let g : ⊥ = cc e in g)

module _ (U : Given) (es : List Entry) (who : Caller) (here : ℕ) (vars : Vars) (t : Term) (folds : Folds U es) (low : here < (tree_of U.places es).places) (known : vars.places ≤ (tree_of U.places es).places) (spine : Spine t (kinds_told es who.task)) (serves : Serves (tree_of U.places es) who (is_held t)) where
  abbrev T : Tree
  T = tree_of U.places es

  abbrev ks : List Kind
  ks = kinds_told es who.task

  -- who does not release does not wait
  free : (d : Does) → does vars here t ≡ d → (d ≡ Releases → ⊥) → MayAskMoving T who
  free d is never = subst (λ (b : Bool). Serves T who b) (not_held vars here t (λ f. never (sym is ∙ f))) serves

  targets : (d : Does) → does vars here t ≡ d → Targets T.places d
  targets d is = subst (λ (z : Does). Targets T.places z) is (targets-exist vars here T.places t low known)

  may_wait : (faults : List Fault) → does vars here t ≡ Waits faults → MayAskMoving T who → MayAskWait T who
  may_wait faults is m =
      let grant : GrantsSpine ks (Waits faults) (granted [] t) = subst (λ (z : Does). GrantsSpine ks z (granted [] t)) is (spine-grant ks vars here [] t spine) in
      let new = newest (own_told es who.task) grant.1.0 Finish grant.1.1 in
      may_wait_next U es who new.0 new.1 folds new.2 m

  may_end : (faults : List Fault) → does vars here t ≡ Done faults → MayAskMoving T who → MayAskEnd T who
  may_end faults is m =
      let none : ks ≡ [] = subst (λ (z : Does). EmptyWhereDone ks z) is (spine-done ks vars here t spine) in
      may_end_next U es who folds (none_own (own_told es who.task) none) m

  asks : (d : Does) → does vars here t ≡ d → MayAskNext T who d
  asks Opens is = free Opens is (λ f. let g : ⊥ = cc f in g)
  asks (Calls place) is = record { asks = free (Calls place) is (λ f. let g : ⊥ = cc f in g); target = targets (Calls place) is }
  asks (Spawns place) is = record { asks = free (Spawns place) is (λ f. let g : ⊥ = cc f in g); target = targets (Spawns place) is }
  asks (Waits faults) is = may_wait faults is (free (Waits faults) is (λ f. let g : ⊥ = cc f in g))
  asks Releases is = subst (λ (b : Bool). Serves T who b) (release_held vars here t is) serves
  asks (Prints value) is = free (Prints value) is (λ f. let g : ⊥ = cc f in g)
  asks (Counts name) is = free (Counts name) is (λ f. let g : ⊥ = cc f in g)
  asks (Done faults) is = may_end faults is (free (Done faults) is (λ f. let g : ⊥ = cc f in g))
  asks _ is = tt

pub law_of_asking : LawOfAsking
law_of_asking U es who here vars t folds low known spine serves = asks U es who here vars t folds low known spine serves (does vars here t) refl
