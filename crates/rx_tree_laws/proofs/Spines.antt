-- The open scopes of a term after each kind of step.
use Rattle.std.proofs.Common.{◌≡◌, ℕ, suc, List, [], ◌∷◌, refl, subst, sym}
use Rattle.rx_rules.proofs.Common.{Block, Nothing, Then, Vars, Term, Empty, Run, Raise, Turns, Trying, Body, Held, items, items_from, at, Does, Local, does}
use Rattle.rx_rules.proofs.StepRules.{StepRule, IsAsking, raises, sets, takes_first, takes_other, repeats, tries, turns_over, turns_on, try_over, caught, uncaught, in_try, asks_in_try, in_body, asks_in_body, rule_of}
use Rattle.rx_rules.specs.declared.tasks.Kind.{Kind}
use Rattle.rx_tree_laws.specs.Spine.{NoScopeOpen, Spine}

-- where no scope is open the spine is empty
pub flat-spine : (t : Term) → NoScopeOpen t → Spine t []
flat-spine Empty h = refl
flat-spine (Run stmt x rest) h = (refl, h)
flat-spine (Raise faults) h = refl
flat-spine (Turns body x k times rest) h = (refl, h)
flat-spine (Trying inside o b x rest) h = (flat-spine inside h.0, h.1)
flat-spine (Body inside rest) h = absurd h
flat-spine (Held rest) h = absurd h

-- statements open no scope before they begin
pub flat-items : (b : Block) (x : List ℕ) (i : ℕ) (rest : Term) → NoScopeOpen rest → NoScopeOpen (items_from b x i rest)
flat-items Nothing x i rest h = h
flat-items (Then first more) x i rest h = flat-items more x (suc i) rest h

pub flat-at : (ks : List Kind) (t : Term) → ks ≡ [] → NoScopeOpen t → Spine t ks
flat-at ks t e h = subst (λ (v : List Kind). Spine t v) (sym e) (flat-spine t h)

items-at : (ks : List Kind) (b : Block) (x : List ℕ) (rest : Term) → ks ≡ [] → NoScopeOpen rest → Spine (items b x rest) ks
items-at ks b x rest e h = flat-at ks (items b x rest) e (flat-items b x 0 rest h)

-- a local step leaves the open scopes
abbrev pub LeavesSpine : List Kind → Does → Type 0
LeavesSpine ks (Local left vars) = Spine left ks
LeavesSpine ks _ = Unit {0}

asking-leaves : (ks : List Kind) (d : Does) → IsAsking d → LeavesSpine ks d
asking-leaves ks (Local left vars) a = absurd a
asking-leaves ks _ a = tt

leaves_by : {vars : Vars} {here : ℕ} {t : Term} {d : Does} → StepRule vars here t d → (ks : List Kind) → Spine t ks → LeavesSpine ks d
leaves_by (raises fault) ks h = h.0
leaves_by (sets {rest = rest} z) ks h = flat-at ks rest h.0 h.1
leaves_by (takes_first {first = first} {x = x} {rest = rest}) ks h = items-at ks first (at x 0) rest h.0 h.1
leaves_by (takes_other {other = other} {x = x} {rest = rest}) ks h = items-at ks other (at x 1) rest h.0 h.1
leaves_by repeats ks h = h
leaves_by (tries {body = body} {x = x}) ks h = (items-at ks body (at x 0) Empty h.0 tt, h.1)
leaves_by (turns_over {rest = rest}) ks h = flat-at ks rest h.0 h.1
leaves_by (turns_on {body = body} {x = x} {k = k} {times = times} {rest = rest} more) ks h = items-at ks body (at x k) (Turns body x (suc k) times rest) h.0 h.1
leaves_by (try_over {rest = rest}) ks h = flat-at ks rest h.0 h.1
leaves_by (caught {handler = handler} {x = x} {rest = rest}) ks h = items-at ks handler (at x 1) rest h.0 h.1
leaves_by uncaught ks h = h.0
leaves_by (in_try s) ks h = (leaves_by s ks h.0, h.1)
leaves_by (asks_in_try {d = d} g a s) ks h = asking-leaves ks d a
leaves_by (in_body s) [] h = absurd h
leaves_by (in_body s) (k ∷ ks) h = (h.0, leaves_by s ks h.1, h.2)
leaves_by (asks_in_body {d = d} g a s) ks h = asking-leaves ks d a
leaves_by _ ks h = tt

pub spine-local : (ks : List Kind) (vars : Vars) (here : ℕ) (t : Term) → Spine t ks → LeavesSpine ks (does vars here t)
spine-local ks vars here t h = leaves_by (rule_of vars here t) ks h
