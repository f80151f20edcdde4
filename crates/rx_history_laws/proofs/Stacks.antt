-- The scopes that a task has opened and not released, as the entries tell: the paths of their statements, the newest first.
use Rattle.std.proofs.Common.{◌≡◌, ◌⊎◌, ℕ, Bool, true, false, cond, ◌==◌, List, [], ◌∷◌, ◌++◌, Some, None, refl, ap, sym, subst, ◌∙◌, arith, inl, inr}
use Rattle.std.proofs.lemmas.Bool.{true≢false}
use Rattle.rx_rules.proofs.Common.{PlaceId, ScopeId, PlaceSet, Fault, Block, Stmt, Async, AtAsync, At, begins, Term, at, Empty, Run, Raise, Trying, Body, Held, Vars, Does, Opens, Calls, Spawns, Waits, Releases, Prints, Counts, Done, does, granted, child, stmt_child, brought, own_path}
use Rattle.rx_rules.proofs.StepRules.{StepRule, IsAsking, GoesOn, empty, raised, counts, prints, spawns, spawns_at, calls, opens, asks_in_try, waits, waits_raised, asks_in_body, releases, rule_of, granted_inside}
use Rattle.rx_rules.specs.declared.entries.Act.{Act}
use Rattle.rx_rules.specs.declared.entries.Act.TheVariants.{Open, At as Calling, Spawn, Arrive, Wait, Release, End, Print as Printed, Census as Counted}
use Rattle.rx_rules.specs.declared.entries.Entry.{Entry}
use Rattle.rx_rules.specs.declared.entries.Entry.TheVariants.{Step, Root, Death, Join}
use Rattle.rx_rules.specs.Plays.{Fits}
use Rattle.rx_history_laws.proofs.Paths.{Starts, starts-trans, starts-at, starts-below, below-starts, below-at}
use Rattle.rx_history_laws.proofs.TermOrder.{Later, Sorted, granted-moved}
use Rattle.rx_history_laws.proofs.NestedTerm.{Nested, from-parts, EachStarts, opens_one, grown, granted-nested, items-nested}

abbrev pub rest_of : List (List ℕ) → List (List ℕ)
rest_of [] = []
rest_of (p ∷ ps) = ps

abbrev pub stack_after : Act → List (List ℕ) → List (List ℕ)
stack_after (Open s r x) ps = x ∷ ps
stack_after (Calling from to s r c x) ps = x ∷ ps
stack_after (Release s lost masked thrown) ps = rest_of ps
stack_after _ ps = ps

abbrev pub open_paths : List Entry → ℕ → List (List ℕ)
open_paths [] c = []
open_paths (Step t act batch ∷ past) c = cond (t.0 == c) (stack_after act (open_paths past c)) (open_paths past c)
open_paths (Root lost masked thrown ∷ past) c = open_paths past c
open_paths (Death d ∷ past) c = open_paths past c
open_paths (Join d ∷ past) c = open_paths past c

abbrev pub outermost : List (List ℕ) → List (List ℕ)
outermost [] = []
outermost (p ∷ ps) = outermost ps ++ p ∷ []

abbrev pub Stacked : List ℕ → List (List ℕ) → Type 0
Stacked x [] = ⊥
Stacked x (p ∷ ps) = (x ≡ p) ⊎ Stacked x ps

each_last : (ps : List (List ℕ)) (p z : List ℕ) → EachStarts (ps ++ p ∷ []) z → EachStarts ps z × Starts p z
each_last [] p z e = (tt, e.0)
each_last (q ∷ ps) p z e = let r = each_last ps p z e.1 in ((e.0, r.0), r.1)

pub stacked-starts : (ps : List (List ℕ)) (x z : List ℕ) → Stacked x ps → EachStarts (outermost ps) z → Starts x z
stacked-starts [] x z s e = absurd s
stacked-starts (p ∷ ps) x z (inl h) e = subst (λ v. Starts v z) (sym h) (each_last (outermost ps) p z e).1
stacked-starts (p ∷ ps) x z (inr h) e = stacked-starts ps x z h (each_last (outermost ps) p z e).0

-- what is on the stack after an act was on it before, or is the act's own path
pub stacked-after : (act : Act) (ps : List (List ℕ)) (x : List ℕ) → Stacked x (stack_after act ps) → (own_path act ≡ x ∷ []) ⊎ Stacked x ps
stacked-after (Open s r y) ps x (inl h) = inl (ap (λ v. v ∷ []) (sym h))
stacked-after (Open s r y) ps x (inr h) = inr h
stacked-after (Calling from to s r c y) ps x (inl h) = inl (ap (λ v. v ∷ []) (sym h))
stacked-after (Calling from to s r c y) ps x (inr h) = inr h
stacked-after (Release s lost masked thrown) [] x h = inr h
stacked-after (Release s lost masked thrown) (p ∷ ps) x h = inr (inr h)
stacked-after _ ps x h = inr h

-- What each request does to the open scopes of the term that makes it.

abbrev is_bare : Term → Bool
is_bare Empty = true
is_bare (Raise faults) = true
is_bare _ = false

abbrev Asked : Does → Term → Type 0
Asked Opens t = opens_one t ≡ true
Asked (Calls place) t = opens_one t ≡ true
Asked (Spawns place) t = opens_one t ≡ false
Asked (Prints value) t = opens_one t ≡ false
Asked (Counts name) t = opens_one t ≡ false
Asked (Waits faults) t = (begins t ≡ None) × ((ps : List (List ℕ)) → Nested t ps → Nested (granted [] t) ps)
Asked Releases t = (begins t ≡ None) × (Nested t [] → ⊥) × ((faults : List Fault) (ps : List (List ℕ)) (p : List ℕ) → Nested t (ps ++ p ∷ []) → Nested (granted faults t) ps × Later p (granted faults t))
Asked (Done faults) t = is_bare t ≡ true
Asked _ t = Unit {0}

asked-trying : (d : Does) (inside : Term) (dead_only : Bool) (handler : Block) (x : List ℕ) (rest : Term) → IsAsking d → Sorted (Trying inside dead_only handler x rest) → Asked d inside → Asked d (Trying inside dead_only handler x rest)
asked-trying (Waits faults) inside dead_only handler x rest a s h = (h.0, λ ps n. (h.1 ps n.0, n.1, n.2))
asked-trying Releases inside dead_only handler x rest a s h = (
  h.0,
  λ n. h.1 n.0,
  λ faults ps p n.
      let r = h.2 faults ps p n.0 in let e = from-parts (at x 0) ps p n.2 in (
        (r.0, n.1, e.0),
        λ y k. elim k [
          | inl i ↦ r.1 y i
          | inr (inl i) ↦ starts-below (at x 0) p y e.1 (below-starts (at x 0) (at x 1) y (below-at x 0 1 (omega arith)) i)
          | inr (inr i) ↦ starts-below x p y (starts-trans x (at x 0) p (starts-at x 0) e.1) (s.3 y i)
        ],
      ),
)
asked-trying (Done faults) inside dead_only handler x rest a s h = absurd a
asked-trying _ inside dead_only handler x rest a s h = h

asked-body : (d : Does) (inside rest : Term) → GoesOn inside → IsAsking d → Sorted inside → Asked d inside → Asked d (Body inside rest)
asked-body (Waits faults) inside rest g a s h = (h.0, goes) where
  goes : (ps : List (List ℕ)) → Nested (Body inside rest) ps → Nested (granted [] (Body inside rest)) ps
  goes [] n = absurd n
  goes (p ∷ ps) n = subst (λ u. Nested u (p ∷ ps)) (granted_inside [] inside rest g) (h.1 ps n.0, n.1, λ y k. n.2 y ((granted-moved [] inside s).shrinks y k), n.3, n.4)
asked-body Releases inside rest g a s h = (h.0, λ n. n, goes) where
  goes : (faults : List Fault) (ps : List (List ℕ)) (p : List ℕ) → Nested (Body inside rest) (ps ++ p ∷ []) → Nested (granted faults (Body inside rest)) ps × Later p (granted faults (Body inside rest))
  goes faults [] p n = absurd (h.1 n.0)
  goes faults (q ∷ ps) p n =
      let r = h.2 faults ps p n.0 in let e = from-parts q ps p n.4 in (
        subst (λ u. Nested u (q ∷ ps)) (granted_inside faults inside rest g) (r.0, n.1, λ y k. n.2 y ((granted-moved faults inside s).shrinks y k), n.3, e.0),
        subst (Later p) (granted_inside faults inside rest g) (λ y k. elim k [
          | inl i ↦ r.1 y i
          | inr i ↦ starts-below q p y e.1 (n.3 y i)
        ]),
      )
asked-body (Done faults) inside rest g a s h = absurd a
asked-body _ inside rest g a s h = h

held-waits : (inside rest : Term) → is_bare inside ≡ true → (ps : List (List ℕ)) → Nested (Body inside rest) ps → Nested (Held rest) ps
held-waits inside rest b [] n = absurd n
held-waits inside rest b (p ∷ []) n = (n.1, n.3)
held-waits Empty rest b (p ∷ q ∷ ps) n = absurd n.0
held-waits (Raise faults) rest b (p ∷ q ∷ ps) n = absurd n.0
held-waits inside rest b (p ∷ q ∷ ps) n = absurd (true≢false (sym b))

held-released : (rest : Term) (faults : List Fault) (ps : List (List ℕ)) (p : List ℕ) → Nested (Held rest) (ps ++ p ∷ []) → Nested (granted faults (Held rest)) ps × Later p (granted faults (Held rest))
held-released rest [] [] p n = (n.0, n.1)
held-released rest (f ∷ fs) [] p n = (tt, λ y k. absurd k)
held-released rest faults (q ∷ []) p n = absurd n
held-released rest faults (q ∷ a ∷ ps) p n = absurd n

asked_by : {vars : Vars} {here : ℕ} {t : Term} {d : Does} → StepRule vars here t d → Sorted t → Asked d t
asked_by empty s = refl
asked_by raised s = refl
asked_by counts s = refl
asked_by (prints z) s = refl
asked_by spawns s = refl
asked_by (spawns_at p there) s = refl
asked_by (calls p there) s = refl
asked_by opens s = refl
asked_by (asks_in_try {inside = inside} {d = d} {dead_only = o} {handler = handler} {x = x} {rest = rest} g a m) s =
    asked-trying d inside o handler x rest a s (asked_by m s.0)
asked_by (waits {rest = rest}) s = (refl, held-waits Empty rest refl)
asked_by (waits_raised {faults = faults} {rest = rest}) s = (refl, held-waits (Raise faults) rest refl)
asked_by (asks_in_body {inside = inside} {d = d} {rest = rest} g a m) s = asked-body d inside rest g a s.0 (asked_by m s.0)
asked_by (releases {rest = rest}) s = (refl, λ n. n, held-released rest)
asked_by _ s = tt

asked : (vars : Vars) (here : ℕ) (t : Term) → Sorted t → Asked (does vars here t) t
asked vars here t s = asked_by (rule_of vars here t) s

-- a request that the ledger grants
pub asked-nested : (here : PlaceId) (t : Term) (d : Does) (act : Act) (ps : List (List ℕ)) → Asked d t → Fits here t d act → Sorted t → Nested t (outermost ps) → Nested (granted (brought act) t) (outermost (stack_after act ps))
asked-nested here t Opens (Open s r x) ps k f so n =
    subst (λ y. Nested (granted [] t) (grown y (outermost ps) x)) k (granted-nested [] t x (outermost ps) f so n)
asked-nested here t (Calls p) (Calling from to s r c x) ps k f so n =
    subst (λ y. Nested (granted [] t) (grown y (outermost ps) x)) k (granted-nested [] t x (outermost ps) f.2 so n)
asked-nested here t (Spawns p) (Spawn c s from to x) ps k f so n =
    subst (λ y. Nested (granted [] t) (grown y (outermost ps) x)) k (granted-nested [] t x (outermost ps) f.2 so n)
asked-nested here t (Prints z) (Printed value x) ps k f so n =
    subst (λ y. Nested (granted [] t) (grown y (outermost ps) x)) k (granted-nested [] t x (outermost ps) f.1 so n)
asked-nested here t (Counts name) (Counted places x) ps k f so n =
    subst (λ y. Nested (granted [] t) (grown y (outermost ps) x)) k (granted-nested [] t x (outermost ps) f so n)
asked-nested here t (Waits faults) (Wait s thrown) ps k f so n = k.1 (outermost ps) n
asked-nested here t Releases (Release s lost masked thrown) [] k f so n = absurd (k.1 n)
asked-nested here t Releases (Release s lost masked thrown) (p ∷ ps) k f so n = (k.2 (brought (Release s lost masked thrown)) (outermost ps) p n).0
asked-nested here t d act ps k f so n = absurd f

pub fits-nested : (here : PlaceId) (vars : Vars) (t : Term) (act : Act) (ps : List (List ℕ)) → Fits here t (does vars here.0 t) act → Sorted t → Nested t (outermost ps) → Nested (granted (brought act) t) (outermost (stack_after act ps))
fits-nested here vars t act ps f so n = asked-nested here t (does vars here.0 t) act ps (asked vars here.0 t so) f so n

-- what is left after a release lies after the statement of the scope that is released
asked-released : (here : PlaceId) (t : Term) (d : Does) (s : ScopeId) (lost : PlaceSet) (masked : ℕ) (thrown : List Fault) (ps : List (List ℕ)) (p : List ℕ) → Asked d t → Fits here t d (Release s lost masked thrown) → Nested t (outermost (p ∷ ps)) → Later p (granted (brought (Release s lost masked thrown)) t)
asked-released here t Releases s lost masked thrown ps p k f n = (k.2 (brought (Release s lost masked thrown)) (outermost ps) p n).1
asked-released here t d s lost masked thrown ps p k f n = absurd f

pub fits-released : (here : PlaceId) (vars : Vars) (t : Term) (s : ScopeId) (lost : PlaceSet) (masked : ℕ) (thrown : List Fault) (ps : List (List ℕ)) (p : List ℕ) → Fits here t (does vars here.0 t) (Release s lost masked thrown) → Sorted t → Nested t (outermost (p ∷ ps)) → Later p (granted (brought (Release s lost masked thrown)) t)
fits-released here vars t s lost masked thrown ps p f so n =
    asked-released here t (does vars here.0 t) s lost masked thrown ps p (asked vars here.0 t so) f n

-- the statement that a request begins is the entry's own
none-some : (x : List ℕ) → None ≡ Some x → ⊥
none-some x e = cc

asked-begins : (here : PlaceId) (t : Term) (d : Does) (act : Act) (x : List ℕ) → Asked d t → Fits here t d act → begins t ≡ Some x → own_path act ≡ x ∷ []
asked-begins here t Opens (Open s r y) x k f e = let same : Some y ≡ Some x = sym f ∙ e in let it : y ≡ x = cc in ap (λ v. v ∷ []) it
asked-begins here t (Calls p) (Calling from to s r c y) x k f e = let same : Some y ≡ Some x = sym f.2 ∙ e in let it : y ≡ x = cc in ap (λ v. v ∷ []) it
asked-begins here t (Spawns p) (Spawn c s from to y) x k f e = let same : Some y ≡ Some x = sym f.2 ∙ e in let it : y ≡ x = cc in ap (λ v. v ∷ []) it
asked-begins here t (Prints z) (Printed value y) x k f e = let same : Some y ≡ Some x = sym f.1 ∙ e in let it : y ≡ x = cc in ap (λ v. v ∷ []) it
asked-begins here t (Counts name) (Counted places y) x k f e = let same : Some y ≡ Some x = sym f ∙ e in let it : y ≡ x = cc in ap (λ v. v ∷ []) it
asked-begins here t (Waits faults) (Wait s thrown) x k f e = let bad : None ≡ Some x = sym k.0 ∙ e in absurd (none-some x bad)
asked-begins here t Releases (Release s lost masked thrown) x k f e = let bad : None ≡ Some x = sym k.0 ∙ e in absurd (none-some x bad)
asked-begins here t d act x k f e = absurd f

pub fits-begins : (here : PlaceId) (vars : Vars) (t : Term) (act : Act) (x : List ℕ) → Fits here t (does vars here.0 t) act → Sorted t → begins t ≡ Some x → own_path act ≡ x ∷ []
fits-begins here vars t act x f so e = asked-begins here t (does vars here.0 t) act x (asked vars here.0 t so) f e

-- an act that puts x on its task's stack
abbrev pub Pushes : Act → List ℕ → Type 0
Pushes act x = (ps : List (List ℕ)) → Stacked x (stack_after act ps)

asked-pushes : (here : PlaceId) (t : Term) (d : Does) (act : Act) (x : List ℕ) → Asked d t → Fits here t d act → begins t ≡ Some x → opens_one t ≡ true → Pushes act x
asked-pushes here t Opens (Open s r y) x k f e o ps = let same : Some y ≡ Some x = sym f ∙ e in let it : x ≡ y = cc in inl it
asked-pushes here t (Calls p) (Calling from to s r c y) x k f e o ps = let same : Some y ≡ Some x = sym f.2 ∙ e in let it : x ≡ y = cc in inl it
asked-pushes here t (Spawns p) (Spawn c s from to y) x k f e o ps = absurd (true≢false (sym o ∙ k))
asked-pushes here t (Prints z) (Printed value y) x k f e o ps = absurd (true≢false (sym o ∙ k))
asked-pushes here t (Counts name) (Counted places y) x k f e o ps = absurd (true≢false (sym o ∙ k))
asked-pushes here t (Waits faults) (Wait s thrown) x k f e o ps = let bad : None ≡ Some x = sym k.0 ∙ e in absurd (none-some x bad)
asked-pushes here t Releases (Release s lost masked thrown) x k f e o ps = let bad : None ≡ Some x = sym k.0 ∙ e in absurd (none-some x bad)
asked-pushes here t d act x k f e o ps = absurd f

pub fits-pushes : (here : PlaceId) (vars : Vars) (t : Term) (act : Act) (x : List ℕ) → Fits here t (does vars here.0 t) act → Sorted t → begins t ≡ Some x → opens_one t ≡ true → Pushes act x
fits-pushes here vars t act x f so e o = asked-pushes here t (does vars here.0 t) act x (asked vars here.0 t so) f e o

-- a task that ends has none open
bare-closed : (t : Term) → is_bare t ≡ true → (ps : List (List ℕ)) → Nested t ps → ps ≡ []
bare-closed Empty b [] n = refl
bare-closed Empty b (p ∷ ps) n = absurd n
bare-closed (Raise faults) b [] n = refl
bare-closed (Raise faults) b (p ∷ ps) n = absurd n
bare-closed t b ps n = absurd (true≢false (sym b))

pub done-closed : (here : PlaceId) (vars : Vars) (t : Term) (faults : List Fault) → does vars here.0 t ≡ Done faults → Sorted t → (ps : List (List ℕ)) → Nested t ps → ps ≡ []
done-closed here vars t faults e so ps n =
    bare-closed t (subst (λ d. Asked d t) e (asked vars here.0 t so)) ps n

-- a task that asks for more does not end
pub fits-not_end : (here : PlaceId) (t : Term) (d : Does) (act : Act) (faults : List Fault) → act ≡ End faults → Fits here t d act → ⊥
fits-not_end here t Opens (Open s r x) faults e f = cc
fits-not_end here t (Calls p) (Calling from to s r c x) faults e f = cc
fits-not_end here t (Spawns p) (Spawn c s from to x) faults e f = cc
fits-not_end here t (Prints z) (Printed value x) faults e f = cc
fits-not_end here t (Counts name) (Counted places x) faults e f = cc
fits-not_end here t (Waits fs) (Wait s thrown) faults e f = cc
fits-not_end here t Releases (Release s lost masked thrown) faults e f = cc
fits-not_end here t d act faults e f = absurd f

-- nor does it arrive
pub fits-not_arrive : (here : PlaceId) (t : Term) (d : Does) (act : Act) (p : PlaceId) → act ≡ Arrive p → Fits here t d act → ⊥
fits-not_arrive here t Opens (Open s r x) p e f = cc
fits-not_arrive here t (Calls q) (Calling from to s r c x) p e f = cc
fits-not_arrive here t (Spawns q) (Spawn c s from to x) p e f = cc
fits-not_arrive here t (Prints z) (Printed value x) p e f = cc
fits-not_arrive here t (Counts name) (Counted places x) p e f = cc
fits-not_arrive here t (Waits fs) (Wait s thrown) p e f = cc
fits-not_arrive here t Releases (Release s lost masked thrown) p e f = cc
fits-not_arrive here t d act p e f = absurd f

-- a child starts with none open
stmt-flat : (stmt : Stmt) (x : List ℕ) → Nested (stmt_child stmt x) []
stmt-flat (Async body) x = items-nested body x 0 Empty tt
stmt-flat (AtAsync place body) x = items-nested body x 0 Empty tt
stmt-flat (At place body) x = items-nested body x 0 Empty tt
stmt-flat _ x = tt

pub child-flat : (t : Term) → Nested (child t) []
child-flat (Run stmt x rest) = stmt-flat stmt x
child-flat (Trying inside dead_only handler x rest) = child-flat inside
child-flat (Body inside rest) = child-flat inside
child-flat _ = tt
