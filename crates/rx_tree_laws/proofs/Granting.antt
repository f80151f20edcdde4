-- Whether a term waits after a request was granted, and what a term that waits does.
use Rattle.std.proofs.Common.{◌≡◌, ℕ, Bool, true, false, List, [], ◌∷◌, refl, ap, subst, ◌∙◌}
use Rattle.rx_rules.proofs.Common.{Fault, Stmt, Async, AtAsync, At, Vars, Term, Empty, Run, Raise, Trying, Body, Does, Opens, Calls, Spawns, Waits, Releases, Prints, Counts, within, does, or_raise, granted, stmt_child, child, replaced, after_it, Answer, Gives, Fine, Fails, answered}
use Rattle.rx_rules.proofs.StepRules.{StepRule, counts, prints, spawns, spawns_at, calls, opens, in_try, asks_in_try, waits, waits_raised, in_body, asks_in_body, releases, rule_of, granted_inside}
use Rattle.rx_tree_laws.specs.Held.{is_held, Unheld, HeldInFront}
use Rattle.rx_tree_laws.proofs.Holding.{unheld-front, unheld-items, items-front}

-- after a granted request the task waits exactly where it asked for a wait or a call
abbrev pub AfterGrant : Does → Term → Type 0
AfterGrant Opens t = HeldInFront t × (is_held t ≡ false)
AfterGrant (Calls place) t = HeldInFront t × (is_held t ≡ true)
AfterGrant (Spawns place) t = HeldInFront t × (is_held t ≡ false)
AfterGrant (Waits faults) t = HeldInFront t × (is_held t ≡ true)
AfterGrant Releases t = HeldInFront t × (is_held t ≡ false)
AfterGrant (Prints value) t = HeldInFront t × (is_held t ≡ false)
AfterGrant (Counts name) t = HeldInFront t × (is_held t ≡ false)
AfterGrant _ t = Unit {0}

-- so it is of a term around it
around : (d : Does) (t u : Term) → (HeldInFront t → HeldInFront u) → is_held u ≡ is_held t → AfterGrant d t → AfterGrant d u
around Opens t u f e h = (f h.0, e ∙ h.1)
around (Calls place) t u f e h = (f h.0, e ∙ h.1)
around (Spawns place) t u f e h = (f h.0, e ∙ h.1)
around (Waits faults) t u f e h = (f h.0, e ∙ h.1)
around Releases t u f e h = (f h.0, e ∙ h.1)
around (Prints value) t u f e h = (f h.0, e ∙ h.1)
around (Counts name) t u f e h = (f h.0, e ∙ h.1)
around _ t u f e h = tt

released : (faults : List Fault) (rest : Term) → Unheld rest → HeldInFront (or_raise faults rest) × (is_held (or_raise faults rest) ≡ false)
released [] rest h = unheld-front rest h
released (f ∷ fs) rest h = (tt, refl)

grant_by : {vars : Vars} {here : ℕ} {t : Term} {d : Does} → StepRule vars here t d → (faults : List Fault) → HeldInFront t → AfterGrant d (granted faults t)
grant_by (counts {rest = rest}) faults h = unheld-front rest h
grant_by (prints {rest = rest} z) faults h = unheld-front rest h
grant_by (spawns {rest = rest}) faults h = unheld-front rest h
grant_by (spawns_at {rest = rest} p there) faults h = unheld-front rest h
grant_by (calls p there) faults h = (h, refl)
grant_by (opens {body = body} {x = x}) faults h = let r = items-front body x Empty tt in ((r.0, h), r.1)
grant_by (asks_in_try {inside = inside} {d = d} {dead_only = o} {handler = b} {x = x} {rest = rest} g a s) faults h =
    around d (granted faults inside) (Trying (granted faults inside) o b x rest) (λ k. (k, h.1)) refl (grant_by s faults h.0)
grant_by waits faults h = (h.1, refl)
grant_by waits_raised faults h = (h.1, refl)
grant_by (asks_in_body {inside = inside} {d = d} {rest = rest} g a s) faults h =
    subst (λ (u : Term). AfterGrant d u) (granted_inside faults inside rest g)
    (around d (granted faults inside) (Body (granted faults inside) rest) (λ k. (k, h.1)) refl (grant_by s faults h.0))
grant_by (releases {rest = rest}) faults h = released faults rest h
grant_by _ faults h = tt

pub after-grant : (vars : Vars) (here : ℕ) (faults : List Fault) (t : Term) → HeldInFront t → AfterGrant (does vars here t) (granted faults t)
after-grant vars here faults t h = grant_by (rule_of vars here t) faults h

held_by : {vars : Vars} {here : ℕ} {t : Term} {d : Does} → StepRule vars here t d → is_held t ≡ true → d ≡ Releases
held_by releases h = refl
held_by (in_try {dead_only = o} {handler = b} {x = x} {rest = rest} s) h = ap (within (λ t. Trying t o b x rest)) (held_by s h)
held_by (in_body {rest = rest} s) h = ap (within (λ t. Body t rest)) (held_by s h)
held_by (asks_in_try g a s) h = held_by s h
held_by (asks_in_body g a s) h = held_by s h
held_by _ h = cc

-- a term that waits releases
pub held-releases : (vars : Vars) (here : ℕ) (t : Term) → is_held t ≡ true → does vars here t ≡ Releases
held-releases vars here t h = held_by (rule_of vars here t) h

-- what a store's answer leaves does not wait
pub after-answer : (t new : Term) → HeldInFront t → Unheld new → HeldInFront (replaced t new) × (is_held (replaced t new) ≡ false)
after-answer (Trying inside o b x rest) new h u = let r = after-answer inside new h.0 u in ((r.0, h.1), r.1)
after-answer (Body inside rest) new h u = let r = after-answer inside new h.0 u in ((r.0, h.1), r.1)
after-answer _ new h u = unheld-front new u

pub unheld-after : (t : Term) → HeldInFront t → Unheld (after_it t)
unheld-after (Run stmt x rest) h = h
unheld-after (Trying inside o b x rest) h = unheld-after inside h.0
unheld-after (Body inside rest) h = unheld-after inside h.0
unheld-after _ h = tt

of_child : (stmt : Stmt) (x : List ℕ) → Unheld (stmt_child stmt x)
of_child (Async body) x = unheld-items body x 0 Empty tt
of_child (AtAsync place body) x = unheld-items body x 0 Empty tt
of_child (At place body) x = unheld-items body x 0 Empty tt
of_child _ x = tt

-- a new task does not wait
pub unheld-child : (t : Term) → Unheld (child t)
unheld-child (Run stmt x rest) = of_child stmt x
unheld-child (Trying inside o b x rest) = unheld-child inside
unheld-child (Body inside rest) = unheld-child inside
unheld-child _ = tt

-- where it releases, it waits
abbrev HeldIfReleased : Does → Bool → Type 0
HeldIfReleased Releases held = held ≡ true
HeldIfReleased _ held = Unit {0}

released_by : {vars : Vars} {here : ℕ} {t : Term} {d : Does} → StepRule vars here t d → HeldIfReleased d (is_held t)
released_by releases = refl
released_by (asks_in_try g a s) = released_by s
released_by (asks_in_body g a s) = released_by s
released_by _ = tt

-- no task waits after the store's answer
pub answer_waits : (a : Answer) (t : Term) → HeldInFront t → HeldInFront (answered a t) × (is_held (answered a t) ≡ false)
answer_waits (Gives name value) t h = after-answer t (after_it t) h (unheld-after t h)
answer_waits Fine t h = after-answer t (after_it t) h (unheld-after t h)
answer_waits (Fails fault) t h = after-answer t (Raise (fault ∷ [])) h tt

-- a task that does not release does not wait
pub not_held : (vars : Vars) (here : ℕ) (t : Term) → (does vars here t ≡ Releases → ⊥) → is_held t ≡ false
not_held vars here t never =
    (elim (is_held t) as (λ b. is_held t ≡ b → b ≡ false) [
      | true ↦ λ e. absurd (never (held-releases vars here t e))
      | false ↦ λ e. refl
    ]) refl

-- a task that releases waits
pub release_held : (vars : Vars) (here : ℕ) (t : Term) → does vars here t ≡ Releases → is_held t ≡ true
release_held vars here t asks = subst (λ (d : Does). HeldIfReleased d (is_held t)) asks (released_by (rule_of vars here t))
