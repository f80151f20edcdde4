-- What a term does, seen from the tries and finishes around it.
use Rattle.std.proofs.Common.{◌≡◌, ℕ, List, [], ◌∷◌, Bool, refl, ap, sym, ◌∙◌}
use Rattle.rx_rules.proofs.Common.{Fault, Block, Vars, Term, Empty, Raise, Trying, Body, Does, Local, does, within, begins, granted, child, replaced, after_it, receives, trying_does, body_does, body_granted}
use Rattle.rx_control.specs.Levels.{Level, More, Again, Tried, Inside, Waiting, seq, wrap}
use Rattle.rx_control.specs.Inside.Front.{lifted}

-- a term that is neither empty nor raised
abbrev pub IsBusy : Term → Type 0
IsBusy Empty = ⊥
IsBusy (Raise faults) = ⊥
IsBusy _ = Unit {0}

within-id : (d : Does) → within (λ t. t) d ≡ d
within-id (Local left vars) = refl
within-id _ = refl

within-within : (f g : Term → Term) (d : Does) → within f (within g d) ≡ within (λ t. f (g t)) d
within-within f g (Local left vars) = refl
within-within f g _ = refl

trying-busy : (vars : Vars) (t : Term) (d : Does) (dead_only : Bool) (handler : Block) (x : List ℕ) (rest : Term) → IsBusy t → trying_does vars t d dead_only handler x rest ≡ within (λ u. Trying u dead_only handler x rest) d
trying-busy vars Empty d dead_only handler x rest h = absurd h
trying-busy vars (Raise faults) d dead_only handler x rest h = absurd h
trying-busy vars _ d dead_only handler x rest h = refl

body-busy : (t : Term) (d : Does) (rest : Term) → IsBusy t → body_does t d rest ≡ within (λ u. Body u rest) d
body-busy Empty d rest h = absurd h
body-busy (Raise faults) d rest h = absurd h
body-busy _ d rest h = refl

granted-busy : (t after rest : Term) → IsBusy t → body_granted t after rest ≡ Body after rest
granted-busy Empty after rest h = absurd h
granted-busy (Raise faults) after rest h = absurd h
granted-busy _ after rest h = refl

-- the next step
pub does-wrap : (vars : Vars) (here : ℕ) (t : Term) (s : List Level) → IsBusy t → does vars here (wrap t s) ≡ lifted s (does vars here t)
does-wrap vars here t [] h = sym (within-id (does vars here t))
does-wrap vars here t (More left x i ∷ s) h = does-wrap vars here t s h
does-wrap vars here t (Again body x k times ∷ s) h = does-wrap vars here t s h
does-wrap vars here t (Tried dead_only handler x ∷ s) h =
    does-wrap vars here (Trying t dead_only handler x (seq s)) s tt
    ∙ ap (within (λ u. wrap u s)) (trying-busy vars t (does vars here t) dead_only handler x (seq s) h)
    ∙ within-within (λ u. wrap u s) (λ u. Trying u dead_only handler x (seq s)) (does vars here t)
does-wrap vars here t (Inside ∷ s) h =
    does-wrap vars here (Body t (seq s)) s tt
    ∙ ap (within (λ u. wrap u s)) (body-busy t (does vars here t) (seq s) h)
    ∙ within-within (λ u. wrap u s) (λ u. Body u (seq s)) (does vars here t)
does-wrap vars here t (Waiting ∷ s) h = does-wrap vars here t s h

-- the statement that it begins
pub begins-wrap : (t : Term) (s : List Level) → begins (wrap t s) ≡ begins t
begins-wrap t [] = refl
begins-wrap t (More left x i ∷ s) = begins-wrap t s
begins-wrap t (Again body x k times ∷ s) = begins-wrap t s
begins-wrap t (Tried dead_only handler x ∷ s) = begins-wrap (Trying t dead_only handler x (seq s)) s
begins-wrap t (Inside ∷ s) = begins-wrap (Body t (seq s)) s
begins-wrap t (Waiting ∷ s) = begins-wrap t s

-- the new task
pub child-wrap : (t : Term) (s : List Level) → child (wrap t s) ≡ child t
child-wrap t [] = refl
child-wrap t (More left x i ∷ s) = child-wrap t s
child-wrap t (Again body x k times ∷ s) = child-wrap t s
child-wrap t (Tried dead_only handler x ∷ s) = child-wrap (Trying t dead_only handler x (seq s)) s
child-wrap t (Inside ∷ s) = child-wrap (Body t (seq s)) s
child-wrap t (Waiting ∷ s) = child-wrap t s

-- a granted request
pub granted-wrap : (faults : List Fault) (t : Term) (s : List Level) → IsBusy t → granted faults (wrap t s) ≡ wrap (granted faults t) s
granted-wrap faults t [] h = refl
granted-wrap faults t (More left x i ∷ s) h = granted-wrap faults t s h
granted-wrap faults t (Again body x k times ∷ s) h = granted-wrap faults t s h
granted-wrap faults t (Tried dead_only handler x ∷ s) h = granted-wrap faults (Trying t dead_only handler x (seq s)) s tt
granted-wrap faults t (Inside ∷ s) h =
    granted-wrap faults (Body t (seq s)) s tt ∙ ap (λ u. wrap u s) (granted-busy t (granted faults t) (seq s) h)
granted-wrap faults t (Waiting ∷ s) h = granted-wrap faults t s h

-- an answer of the store
pub replaced-wrap : (new t : Term) (s : List Level) → replaced (wrap t s) new ≡ wrap (replaced t new) s
replaced-wrap new t [] = refl
replaced-wrap new t (More left x i ∷ s) = replaced-wrap new t s
replaced-wrap new t (Again body x k times ∷ s) = replaced-wrap new t s
replaced-wrap new t (Tried dead_only handler x ∷ s) = replaced-wrap new (Trying t dead_only handler x (seq s)) s
replaced-wrap new t (Inside ∷ s) = replaced-wrap new (Body t (seq s)) s
replaced-wrap new t (Waiting ∷ s) = replaced-wrap new t s

pub after-wrap : (t : Term) (s : List Level) → after_it (wrap t s) ≡ after_it t
after-wrap t [] = refl
after-wrap t (More left x i ∷ s) = after-wrap t s
after-wrap t (Again body x k times ∷ s) = after-wrap t s
after-wrap t (Tried dead_only handler x ∷ s) = after-wrap (Trying t dead_only handler x (seq s)) s
after-wrap t (Inside ∷ s) = after-wrap (Body t (seq s)) s
after-wrap t (Waiting ∷ s) = after-wrap t s

pub receives-wrap : (t : Term) (s : List Level) → receives (wrap t s) ≡ receives t
receives-wrap t [] = refl
receives-wrap t (More left x i ∷ s) = receives-wrap t s
receives-wrap t (Again body x k times ∷ s) = receives-wrap t s
receives-wrap t (Tried dead_only handler x ∷ s) = receives-wrap (Trying t dead_only handler x (seq s)) s
receives-wrap t (Inside ∷ s) = receives-wrap (Body t (seq s)) s
receives-wrap t (Waiting ∷ s) = receives-wrap t s
