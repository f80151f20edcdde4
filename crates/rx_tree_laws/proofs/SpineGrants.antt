-- The open scopes of a term after a granted request, and of one that is done.
use Rattle.std.proofs.Common.{◌≡◌, ℕ, Bool, List, [], ◌∷◌, ◌++◌, Some, refl, ap, subst, sym}
use Rattle.rx_rules.proofs.Common.{Fault, Block, Stmt, Async, AtAsync, At, Vars, Term, Empty, Run, Raise, Trying, Body, Held, items, Does, Opens, Calls, Spawns, Waits, Releases, Prints, Counts, Done, does, or_raise, granted, stmt_child, child, replaced, begins, Answer, Gives, Fine, Fails, answered, after_it}
use Rattle.rx_rules.proofs.StepRules.{StepRule, IsAsking, empty, raised, counts, prints, spawns, spawns_at, calls, opens, asks_in_try, waits, waits_raised, asks_in_body, releases, rule_of, granted_inside}
use Rattle.rx_rules.specs.declared.tasks.Kind.{Kind}
use Rattle.rx_rules.specs.declared.tasks.Kind.TheVariants.{Finish as OfFinish, Call as OfCall}
use Rattle.rx_tree_laws.specs.Spine.{NoScopeOpen, Spine}
use Rattle.rx_tree_laws.proofs.Spines.{flat-spine, flat-items, flat-at}

-- what stands after each request: a scope more, one less, or the same; a wait is at a finish, and what is done has none open
abbrev pub GrantsSpine : List Kind → Does → Term → Type 0
GrantsSpine ks Opens t = Spine t (ks ++ OfFinish ∷ [])
GrantsSpine ks (Calls place) t = Spine t (ks ++ OfCall ∷ [])
GrantsSpine ks (Spawns place) t = Spine t ks
GrantsSpine ks (Waits faults) t = Spine t ks × ((front : List Kind) × (ks ≡ front ++ OfFinish ∷ []))
GrantsSpine ks Releases t = (front : List Kind) × (k : Kind) × (ks ≡ front ++ k ∷ []) × Spine t front
GrantsSpine ks (Prints value) t = Spine t ks
GrantsSpine ks (Counts name) t = Spine t ks
GrantsSpine ks _ t = Unit {0}

in-try : (ks : List Kind) (d : Does) (t : Term) (o : Bool) (b : Block) (x : List ℕ) (rest : Term) → NoScopeOpen rest → GrantsSpine ks d t → GrantsSpine ks d (Trying t o b x rest)
in-try ks Opens t o b x rest u h = (h, u)
in-try ks (Calls place) t o b x rest u h = (h, u)
in-try ks (Spawns place) t o b x rest u h = (h, u)
in-try ks (Waits faults) t o b x rest u h = ((h.0, u), h.1)
in-try ks Releases t o b x rest u h = (h.0, h.1, h.2, (h.3, u))
in-try ks (Prints value) t o b x rest u h = (h, u)
in-try ks (Counts name) t o b x rest u h = (h, u)
in-try ks _ t o b x rest u h = tt

in-body : (ks : List Kind) (d : Does) (t rest : Term) → NoScopeOpen rest → GrantsSpine ks d t → GrantsSpine (OfFinish ∷ ks) d (Body t rest)
in-body ks Opens t rest u h = (refl, h, u)
in-body ks (Calls place) t rest u h = (refl, h, u)
in-body ks (Spawns place) t rest u h = (refl, h, u)
in-body ks (Waits faults) t rest u h = ((refl, h.0, u), (OfFinish ∷ h.1.0, ap (λ v. OfFinish ∷ v) h.1.1))
in-body ks Releases t rest u h = (OfFinish ∷ h.0, h.1, ap (λ v. OfFinish ∷ v) h.2, (refl, h.3, u))
in-body ks (Prints value) t rest u h = (refl, h, u)
in-body ks (Counts name) t rest u h = (refl, h, u)
in-body ks _ t rest u h = tt

released : (faults : List Fault) (rest : Term) → NoScopeOpen rest → Spine (or_raise faults rest) []
released [] rest h = flat-spine rest h
released (f ∷ fs) rest h = refl

-- a body that is over or raised waits at its finish
waits-now : (k : Kind) (ks : List Kind) (faults : List Fault) (rest : Term) → k ≡ OfFinish → ks ≡ [] → NoScopeOpen rest → GrantsSpine (k ∷ ks) (Waits faults) (Held rest)
waits-now k ks faults rest f e u =
    subst (λ (v : Kind). GrantsSpine (v ∷ ks) (Waits faults) (Held rest)) (sym f)
    (subst (λ (v : List Kind). Spine (Held rest) (OfFinish ∷ v)) (sym e) u, ([], ap (λ v. OfFinish ∷ v) e))

grants_by : {vars : Vars} {here : ℕ} {t : Term} {d : Does} → StepRule vars here t d → (faults : List Fault) (ks : List Kind) → Spine t ks → GrantsSpine ks d (granted faults t)
grants_by (counts {rest = rest}) faults ks h = flat-at ks rest h.0 h.1
grants_by (prints {rest = rest} z) faults ks h = flat-at ks rest h.0 h.1
grants_by (spawns {rest = rest}) faults ks h = flat-at ks rest h.0 h.1
grants_by (spawns_at {rest = rest} p there) faults ks h = flat-at ks rest h.0 h.1
grants_by (calls {rest = rest} p there) faults ks h = subst (λ (v : List Kind). Spine (Held rest) (v ++ OfCall ∷ [])) (sym h.0) h.1
grants_by (opens {body = body} {x = x} {rest = rest}) faults ks h =
    subst (λ (v : List Kind). Spine (Body (items body x Empty) rest) (v ++ OfFinish ∷ [])) (sym h.0)
    (refl, flat-spine (items body x Empty) (flat-items body x 0 Empty tt), h.1)
grants_by (asks_in_try {inside = inside} {d = d} {dead_only = o} {handler = b} {x = x} {rest = rest} g a s) faults ks h =
    in-try ks d (granted faults inside) o b x rest h.1 (grants_by s faults ks h.0)
grants_by waits faults [] h = absurd h
grants_by (waits {rest = rest}) faults (k ∷ ks) h = waits-now k ks [] rest h.0 h.1 h.2
grants_by waits_raised faults [] h = absurd h
grants_by (waits_raised {faults = fs} {rest = rest}) faults (k ∷ ks) h = waits-now k ks fs rest h.0 h.1 h.2
grants_by (asks_in_body g a s) faults [] h = absurd h
grants_by (asks_in_body {inside = inside} {d = d} {rest = rest} g a s) faults (k ∷ ks) h =
    subst (λ (v : Kind). GrantsSpine (v ∷ ks) d (granted faults (Body inside rest))) (sym h.0)
    (subst (λ (u : Term). GrantsSpine (OfFinish ∷ ks) d u) (granted_inside faults inside rest g)
    (in-body ks d (granted faults inside) rest h.2 (grants_by s faults ks h.1)))
grants_by releases faults [] h = absurd h
grants_by (releases {rest = rest}) faults (k ∷ []) h = ([], k, refl, released faults rest h)
grants_by releases faults (k ∷ j ∷ ks) h = absurd h
grants_by _ faults ks h = tt

pub spine-grant : (ks : List Kind) (vars : Vars) (here : ℕ) (faults : List Fault) (t : Term) → Spine t ks → GrantsSpine ks (does vars here t) (granted faults t)
spine-grant ks vars here faults t h = grants_by (rule_of vars here t) faults ks h

-- a statement stands at the front
abbrev pub IsBegun : Term → Type 0
IsBegun (Run stmt x rest) = Unit {0}
IsBegun (Trying inside dead_only handler x rest) = IsBegun inside
IsBegun (Body inside rest) = IsBegun inside
IsBegun _ = ⊥

-- what is done has no scope open
abbrev pub EmptyWhereDone : List Kind → Does → Type 0
EmptyWhereDone ks (Done faults) = ks ≡ []
EmptyWhereDone ks _ = Unit {0}

asking-empty : (ks : List Kind) (d : Does) → IsAsking d → EmptyWhereDone ks d
asking-empty ks (Done faults) a = absurd a
asking-empty ks _ a = tt

done_by : {vars : Vars} {here : ℕ} {t : Term} {d : Does} → StepRule vars here t d → (ks : List Kind) → Spine t ks → EmptyWhereDone ks d
done_by empty ks h = h
done_by raised ks h = h
done_by (asks_in_try {d = d} g a s) ks h = asking-empty ks d a
done_by (asks_in_body {d = d} g a s) ks h = asking-empty ks d a
done_by _ ks h = tt

pub spine-done : (ks : List Kind) (vars : Vars) (here : ℕ) (t : Term) → Spine t ks → EmptyWhereDone ks (does vars here t)
spine-done ks vars here t h = done_by (rule_of vars here t) ks h

-- a store's answer leaves the open scopes
pub spine-answer : (ks : List Kind) (t new : Term) → Spine t ks → NoScopeOpen new → IsBegun t → Spine (replaced t new) ks
spine-answer ks (Run stmt x rest) new h u b = subst (λ (v : List Kind). Spine new v) (sym h.0) (flat-spine new u)
spine-answer ks (Trying inside o c x rest) new h u b = (spine-answer ks inside new h.0 u b, h.1)
spine-answer [] (Body inside rest) new h u b = absurd h
spine-answer (k ∷ ks) (Body inside rest) new h u b = (h.0, spine-answer ks inside new h.1 u b, h.2)
spine-answer ks _ new h u b = absurd b

flat_child : (stmt : Stmt) (x : List ℕ) → NoScopeOpen (stmt_child stmt x)
flat_child (Async body) x = flat-items body x 0 Empty tt
flat_child (AtAsync place body) x = flat-items body x 0 Empty tt
flat_child (At place body) x = flat-items body x 0 Empty tt
flat_child _ x = tt

-- a new task has no scope open
pub flat-child : (t : Term) → NoScopeOpen (child t)
flat-child (Run stmt x rest) = flat_child stmt x
flat-child (Trying inside o b x rest) = flat-child inside
flat-child (Body inside rest) = flat-child inside
flat-child _ = tt

-- The store's answer.

-- where a statement begins, one has begun
pub begun_is : (t : Term) (x : List ℕ) → begins t ≡ Some x → IsBegun t
begun_is (Run stmt y rest) x e = tt
begun_is (Trying inside o b y rest) x e = begun_is inside x e
begun_is (Body inside rest) x e = begun_is inside x e
begun_is _ x e = absurd (let f : ⊥ = cc in f)

pub flat-after : (t : Term) (ks : List Kind) → Spine t ks → NoScopeOpen (after_it t)
flat-after (Run stmt x rest) ks h = h.1
flat-after (Trying inside o b x rest) ks h = flat-after inside ks h.0
flat-after (Body inside rest) [] h = absurd h
flat-after (Body inside rest) (k ∷ ks) h = flat-after inside ks h.1
flat-after _ ks h = tt

-- the same scopes are open after the store's answer
pub answer_spine : (a : Answer) (t : Term) (ks : List Kind) → Spine t ks → IsBegun t → Spine (answered a t) ks
answer_spine (Gives name value) t ks h b = spine-answer ks t (after_it t) h (flat-after t ks h) b
answer_spine Fine t ks h b = spine-answer ks t (after_it t) h (flat-after t ks h) b
answer_spine (Fails fault) t ks h b = spine-answer ks t (Raise (fault ∷ [])) h tt b
