-- What a step of a term makes of the scopes in which it stands.
use Rattle.std.proofs.Common.{◌≡◌, ℕ, suc, ◌+◌, ◌<◌, ◌≤◌, Bool, true, false, List, [], ◌∷◌, ◌++◌, Some, refl, ap, subst, arith}
use Rattle.rx_rules.proofs.Common.{Fault, Block, Nothing, Then, Stmt, Term, Empty, Raise, Run, Turns, Trying, Body, Held, Does, Local, Opens, Calls, Spawns, Waits, Releases, Prints, Counts, Done, granted, child, Vars, does, items, items_from, at, or_raise, begins, Answer, Gives, Fine, Fails, answered, New, Get, Put, Forget}
use Rattle.rx_rules.proofs.StepRules.{StepRule, IsAsking, GoesOn, empty, raised, raises, sets, makes, gets, puts, forgets, counts, prints, spawns, spawns_at, calls, opens, takes_first, takes_other, repeats, tries, turns_over, turns_on, try_over, caught, uncaught, in_try, asks_in_try, waits, waits_raised, in_body, asks_in_body, releases, rule_of, granted_inside}
use Rattle.rx_runs.specs.Framing.{frames, first, Flat, FlatAfterItem}

-- it does not wait
abbrev pub Calm : Term → Type 0
Calm t = first (frames t) ≡ false

-- a statement begins
abbrev pub Begun : Term → Type 0
Begun t = (x : List ℕ) × (begins t ≡ Some x)

-- it stands in the same scopes
abbrev pub Keeps : Term → Term → Type 0
Keeps t after = FlatAfterItem after × (frames after ≡ frames t)

abbrev pub Stored : Term → Type 0
Stored t = Calm t × Begun t × ((a : Answer) → Keeps t (answered a t))

-- what a step of a term at one of so many places makes
abbrev pub Framed : ℕ → Term → Does → Type 0
Framed places t (Local after vars) = Calm t × Keeps t after
Framed places t Opens = Calm t × Begun t × FlatAfterItem (granted [] t) × (frames (granted [] t) ≡ false ∷ frames t)
Framed places t (Calls p) = Calm t × Begun t × (p < places) × Flat (child t) × FlatAfterItem (granted [] t) × (frames (granted [] t) ≡ true ∷ frames t)
Framed places t (Spawns p) = Calm t × Begun t × (p < places) × Flat (child t) × Keeps t (granted [] t)
Framed places t (Waits faults) = (fs : List Bool) × (frames t ≡ false ∷ fs) × FlatAfterItem (granted [] t) × (frames (granted [] t) ≡ true ∷ fs)
Framed places t Releases = (fs : List Bool) × (frames t ≡ true ∷ fs) × ((faults : List Fault) → FlatAfterItem (granted faults t) × (frames (granted faults t) ≡ fs))
Framed places t (Prints value) = Calm t × Begun t × Keeps t (granted [] t)
Framed places t (Counts name) = Calm t × Begun t × Keeps t (granted [] t)
Framed places t (Done faults) = frames t ≡ []
Framed places t _ = Stored t

-- Flat terms.

pub flat_items : (b : Block) (x : List ℕ) (i : ℕ) (rest : Term) → Flat rest → Flat (items_from b x i rest)
flat_items Nothing x i rest h = h
flat_items (Then one more) x i rest h = flat_items more x (suc i) rest h

pub flat_shape : (t : Term) → Flat t → FlatAfterItem t
flat_shape Empty h = tt
flat_shape (Raise faults) h = tt
flat_shape (Run stmt x rest) h = h
flat_shape (Turns body x k times rest) h = h
flat_shape _ h = absurd h

pub flat_frames : (t : Term) → Flat t → frames t ≡ []
flat_frames (Trying inside dead_only handler x rest) h = absurd h
flat_frames (Body inside rest) h = absurd h
flat_frames (Held rest) h = absurd h
flat_frames _ h = refl

flat_so : (t : Term) → Flat t → FlatAfterItem t × (frames t ≡ [])
flat_so t h = (flat_shape t h, flat_frames t h)

items_so : (b : Block) (x : List ℕ) (rest : Term) → Flat rest → FlatAfterItem (items b x rest) × (frames (items b x rest) ≡ [])
items_so b x rest h = flat_so (items b x rest) (flat_items b x 0 rest h)

stored : (stmt : Stmt) (x : List ℕ) (rest : Term) → Flat rest → Stored (Run stmt x rest)
stored stmt x rest h = (refl, (x, refl), λ a. answer a) where
  answer : (a : Answer) → Keeps (Run stmt x rest) (answered a (Run stmt x rest))
  answer (Gives name value) = flat_so rest h
  answer Fine = flat_so rest h
  answer (Fails fault) = (tt, refl)

-- In the body of a try.

trying_answer : (inside : Term) (dead_only : Bool) (handler : Block) (x : List ℕ) (rest : Term) → Flat rest → (a : Answer) → Keeps inside (answered a inside) → Keeps (Trying inside dead_only handler x rest) (answered a (Trying inside dead_only handler x rest))
trying_answer inside dead_only handler x rest flat (Gives name value) h = ((h.0, flat), h.1)
trying_answer inside dead_only handler x rest flat Fine h = ((h.0, flat), h.1)
trying_answer inside dead_only handler x rest flat (Fails fault) h = ((h.0, flat), h.1)

trying_stored : (inside : Term) (dead_only : Bool) (handler : Block) (x : List ℕ) (rest : Term) → Flat rest → Stored inside → Stored (Trying inside dead_only handler x rest)
trying_stored inside dead_only handler x rest flat h = (h.0, h.1, λ a. trying_answer inside dead_only handler x rest flat a (h.2 a))

try_asks : (places : ℕ) (inside : Term) (dead_only : Bool) (handler : Block) (x : List ℕ) (rest : Term) (d : Does) → Flat rest → IsAsking d → Framed places inside d → Framed places (Trying inside dead_only handler x rest) d
try_asks places inside dead_only handler x rest (Local after vars) flat a h = absurd a
try_asks places inside dead_only handler x rest Opens flat a h = (h.0, h.1, (h.2, flat), h.3)
try_asks places inside dead_only handler x rest (Calls p) flat a h = (h.0, h.1, h.2, h.3, (h.4, flat), h.5)
try_asks places inside dead_only handler x rest (Spawns p) flat a h = (h.0, h.1, h.2, h.3, ((h.4.0, flat), h.4.1))
try_asks places inside dead_only handler x rest (Waits faults) flat a h = (h.0, h.1, (h.2, flat), h.3)
try_asks places inside dead_only handler x rest Releases flat a h = (h.0, h.1, λ f. (((h.2 f).0, flat), (h.2 f).1))
try_asks places inside dead_only handler x rest (Prints value) flat a h = (h.0, h.1, ((h.2.0, flat), h.2.1))
try_asks places inside dead_only handler x rest (Counts name) flat a h = (h.0, h.1, ((h.2.0, flat), h.2.1))
try_asks places inside dead_only handler x rest (Done faults) flat a h = absurd a
try_asks places inside dead_only handler x rest _ flat a h = trying_stored inside dead_only handler x rest flat h

-- In the body of a finish, where it goes on.

calm_body : (fs : List Bool) → first fs ≡ false → first (fs ++ false ∷ []) ≡ false
calm_body [] h = refl
calm_body (b ∷ fs) h = h

more : (fs gs : List Bool) → fs ≡ gs → (fs ++ false ∷ []) ≡ (gs ++ false ∷ [])
more fs gs e = ap (λ (l : List Bool). l ++ false ∷ []) e

body_answer : (inside rest : Term) → Flat rest → (a : Answer) → Keeps inside (answered a inside) → Keeps (Body inside rest) (answered a (Body inside rest))
body_answer inside rest flat (Gives name value) h = ((h.0, flat), more _ _ h.1)
body_answer inside rest flat Fine h = ((h.0, flat), more _ _ h.1)
body_answer inside rest flat (Fails fault) h = ((h.0, flat), more _ _ h.1)

body_stored : (inside rest : Term) → Flat rest → Stored inside → Stored (Body inside rest)
body_stored inside rest flat h = (calm_body (frames inside) h.0, h.1, λ a. body_answer inside rest flat a (h.2 a))

-- a granted body, by the term inside
abbrev IsBody : Term → Term → List Bool → Type 0
IsBody rest t fs = FlatAfterItem t × (frames t ≡ fs)

as_body : (inside rest : Term) (fs : List Bool) → GoesOn inside → Flat rest → (faults : List Fault) → IsBody rest (granted faults inside) fs → IsBody rest (granted faults (Body inside rest)) (fs ++ false ∷ [])
as_body inside rest fs g flat faults h = subst (λ (t : Term). IsBody rest t (fs ++ false ∷ [])) (granted_inside faults inside rest g) ((h.0, flat), more _ _ h.1)

body_asks : (places : ℕ) (inside rest : Term) (d : Does) → Flat rest → GoesOn inside → IsAsking d → Framed places inside d → Framed places (Body inside rest) d
body_asks places inside rest (Local after vars) flat g a h = absurd a
body_asks places inside rest Opens flat g a h = let b = as_body inside rest (false ∷ frames inside) g flat [] (h.2, h.3) in (calm_body (frames inside) h.0, h.1, b.0, b.1)
body_asks places inside rest (Calls p) flat g a h = let b = as_body inside rest (true ∷ frames inside) g flat [] (h.4, h.5) in (calm_body (frames inside) h.0, h.1, h.2, h.3, b.0, b.1)
body_asks places inside rest (Spawns p) flat g a h = let b = as_body inside rest (frames inside) g flat [] h.4 in (calm_body (frames inside) h.0, h.1, h.2, h.3, (b.0, b.1))
body_asks places inside rest (Waits faults) flat g a h = let b = as_body inside rest (true ∷ h.0) g flat [] (h.2, h.3) in (h.0 ++ false ∷ [], more _ _ h.1, b.0, b.1)
body_asks places inside rest Releases flat g a h = (h.0 ++ false ∷ [], more _ _ h.1, λ f. as_body inside rest h.0 g flat f (h.2 f))
body_asks places inside rest (Prints value) flat g a h = let b = as_body inside rest (frames inside) g flat [] h.2 in (calm_body (frames inside) h.0, h.1, (b.0, b.1))
body_asks places inside rest (Counts name) flat g a h = let b = as_body inside rest (frames inside) g flat [] h.2 in (calm_body (frames inside) h.0, h.1, (b.0, b.1))
body_asks places inside rest (Done faults) flat g a h = absurd a
body_asks places inside rest _ flat g a h = body_stored inside rest flat h

-- Each step of a term.

held_framed : (faults : List Fault) (rest : Term) → Flat rest → FlatAfterItem (or_raise faults rest) × (frames (or_raise faults rest) ≡ [])
held_framed [] rest h = flat_so rest h
held_framed (f ∷ fs) rest h = (tt, refl)

framed_by : {vars : Vars} {here : ℕ} {t : Term} {d : Does} → StepRule vars here t d → (places : ℕ) → here < places → vars.places ≤ places → FlatAfterItem t → Framed places t d
framed_by empty places low known h = refl
framed_by raised places low known h = refl
framed_by (raises fault) places low known h = (refl, (tt, refl))
framed_by (sets {rest = rest} z) places low known h = (refl, flat_so rest h)
framed_by (makes {name = name} {words = words} {x = x} {rest = rest}) places low known h = stored (New name words) x rest h
framed_by (gets {name = name} {target = target} {index = index} {x = x} {rest = rest} r k home) places low known h = stored (Get name target index) x rest h
framed_by (puts {target = target} {index = index} {value = value} {x = x} {rest = rest} r k z home) places low known h = stored (Put target index value) x rest h
framed_by (forgets {target = target} {x = x} {rest = rest} r home) places low known h = stored (Forget target) x rest h
framed_by (counts {x = x} {rest = rest}) places low known h = (refl, (x, refl), flat_so rest h)
framed_by (prints {x = x} {rest = rest} z) places low known h = (refl, (x, refl), flat_so rest h)
framed_by (spawns {body = body} {x = x} {rest = rest}) places low known h = (refl, (x, refl), low, flat_items body x 0 Empty tt, flat_so rest h)
framed_by (spawns_at {body = body} {x = x} {rest = rest} p there) places low known h =
    (refl, (x, refl), omega (arith, there, known), flat_items body x 0 Empty tt, flat_so rest h)
framed_by (calls {body = body} {x = x} p there) places low known h =
    (refl, (x, refl), omega (arith, there, known), flat_items body x 0 Empty tt, h, refl)
framed_by (opens {body = body} {x = x}) places low known h = let b = items_so body x Empty tt in (refl, (x, refl), (b.0, h), ap (λ (l : List Bool). l ++ false ∷ []) b.1)
framed_by (takes_first {first = one} {x = x} {rest = rest}) places low known h = (refl, items_so one (at x 0) rest h)
framed_by (takes_other {other = other} {x = x} {rest = rest}) places low known h = (refl, items_so other (at x 1) rest h)
framed_by repeats places low known h = (refl, (h, refl))
framed_by (tries {body = body} {x = x}) places low known h = let b = items_so body (at x 0) Empty tt in (refl, ((b.0, h), b.1))
framed_by (turns_over {rest = rest}) places low known h = (refl, flat_so rest h)
framed_by (turns_on {body = body} {x = x} {k = k} {times = times} {rest = rest} left) places low known h = (refl, items_so body (at x k) (Turns body x (suc k) times rest) h)
framed_by (try_over {rest = rest}) places low known h = (refl, flat_so rest h.1)
framed_by (caught {handler = handler} {x = x} {rest = rest}) places low known h = (refl, items_so handler (at x 1) rest h.1)
framed_by uncaught places low known h = (refl, (tt, refl))
framed_by (in_try s) places low known h = let k = framed_by s places low known h.0 in (k.0, ((k.1.0, h.1), k.1.1))
framed_by (asks_in_try {inside = inside} {d = d} {dead_only = o} {handler = handler} {x = x} {rest = rest} g a s) places low known h =
    try_asks places inside o handler x rest d h.1 a (framed_by s places low known h.0)
framed_by waits places low known h = ([], refl, h.1, refl)
framed_by waits_raised places low known h = ([], refl, h.1, refl)
framed_by (in_body {inside = inside} s) places low known h = let k = framed_by s places low known h.0 in (calm_body (frames inside) k.0, ((k.1.0, h.1), more _ _ k.1.1))
framed_by (asks_in_body {inside = inside} {d = d} {rest = rest} g a s) places low known h =
    body_asks places inside rest d h.1 g a (framed_by s places low known h.0)
framed_by (releases {rest = rest}) places low known h = ([], refl, λ f. held_framed f rest h)

pub framed : (vars : Vars) (here places : ℕ) → here < places → vars.places ≤ places → (t : Term) → FlatAfterItem t → Framed places t (does vars here t)
framed vars here places low known t h = framed_by (rule_of vars here t) places low known h

-- so many places that a task there may name each that it knows
abbrev pub enough : Vars → ℕ → ℕ
enough vars here = suc (here + vars.places)

pub all_framed : (vars : Vars) (here : ℕ) (t : Term) → FlatAfterItem t → Framed (enough vars here) t (does vars here t)
all_framed vars here t shape = framed vars here (enough vars here) (omega arith) (omega arith) t shape
