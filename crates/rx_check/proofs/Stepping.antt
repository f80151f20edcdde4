-- Each step of a task keeps what it has still to run within the rules.
use Rattle.std.proofs.Common.{◌≡◌, ℕ, suc, ℤ, pos, ◌<◌, ◌≤◌, Bool, List, [], ◌∷◌, Option, Some, length, refl, sym, subst, arith}
use Rattle.rx_rules.proofs.Common.{GlobalRef, Fault, Value, Number, Ref, Stmt, SetTo, New, Get, Census, Async, AtAsync, At, Block, Vars, bound, Term, Empty, Run, Raise, Turns, Trying, Body, items, at, Does, Local, Makes, Gets, Puts, Forgets, Counts, Done, does, or_raise, granted, stmt_child, child, replaced, after_it}
use Rattle.rx_rules.proofs.StepRules.{StepRule, IsAsking, GoesOn, raises, sets, makes, gets, puts, forgets, counts, prints, spawns, spawns_at, calls, opens, takes_first, takes_other, repeats, tries, turns_over, turns_on, try_over, caught, uncaught, in_try, asks_in_try, waits, waits_raised, in_body, asks_in_body, releases, rule_of}
use Rattle.rx_check.specs.Rules.{Kind, ANumber, AReference, assigned}
use Rattle.rx_check.proofs.Lawful.{Own, Inner, Lawful}
use Rattle.rx_check.proofs.Safe.{Holds, Agrees, Better, better-same, better-bound, agrees-bound, agrees-better, Safe, Later, Good, later-good, good-raise, later-items, later-better, safe-better}

-- such a term with variables that are no worse
abbrev pub Next : (ℕ → Option Kind) → ℕ → Vars → Vars → Term → Type 0
Next kinds q vars after t = Better kinds vars after × Good kinds q after t

-- What a term does keeps it so: `again` is what an answer of the store leaves, `failed` what a fault of it leaves, and `allowed`
-- what a granted request leaves.
abbrev pub Keeps : (ℕ → Option Kind) → ℕ → Vars → Term → (Fault → Term) → (List Fault → Term) → Does → Type 0
Keeps kinds q vars again failed allowed (Local left after) = Next kinds q vars after left
Keeps kinds q vars again failed allowed (Makes name words) =
    ((r : GlobalRef) → Next kinds q vars (bound name (Ref r) vars) again) × ((fault : Fault) → Good kinds q vars (failed fault))
Keeps kinds q vars again failed allowed (Gets name target index) =
    ((z : ℤ) → Next kinds q vars (bound name (Number z) vars) again) × ((fault : Fault) → Good kinds q vars (failed fault))
Keeps kinds q vars again failed allowed (Puts target index value) = Good kinds q vars again × ((fault : Fault) → Good kinds q vars (failed fault))
Keeps kinds q vars again failed allowed (Forgets target) = Good kinds q vars again × ((fault : Fault) → Good kinds q vars (failed fault))
Keeps kinds q vars again failed allowed (Counts name) =
    (faults : List Fault) (n : ℕ) → Next kinds q vars (record (bound name (Number (pos n)) vars) { places = n }) (allowed faults)
Keeps kinds q vars again failed allowed (Done faults) = Unit {0}
Keeps kinds q vars again failed allowed _ = (faults : List Fault) → Good kinds q vars (allowed faults)

module _ (kinds : ℕ → Option Kind) (q : ℕ) (vars : Vars) where
  raised-so : (faults : List Fault) → Next kinds q vars vars (Raise faults)
  raised-so faults = (better-same kinds vars, good-raise kinds q vars faults)

  next-later : (known : List ℕ) (t : Term) → Agrees kinds vars known → Later kinds q vars known t → Next kinds q vars vars t
  next-later known t a h = (better-same kinds vars, later-good kinds q vars known t a h)

  -- with a value for the name that a statement assigns
  next-bound : (known : List ℕ) (name : ℕ) (k : Kind) (v : Value) (rest : Term) → kinds name ≡ Some k → Holds (Some k) (Some v) → name < length vars.values → Agrees kinds vars known → Later kinds q vars (name ∷ known) rest → Next kinds q vars (bound name v vars) rest
  next-bound known name k v rest e h less a later =
      let held : Holds (kinds name) (Some v) = subst (λ (o : Option Kind). Holds o (Some v)) (sym e) h in
      let better : Better kinds vars (bound name v vars) = better-bound kinds vars name v held less in
      (better, later-good kinds q (bound name v vars) (name ∷ known) rest (agrees-bound kinds vars known name v held less a) (later-better kinds q vars (bound name v vars) (name ∷ known) rest better later))

  -- the number of places that the task knows is in no rule
  next-told : (after : Vars) (n : ℕ) (rest : Term) → Next kinds q vars after rest → Next kinds q vars (record after { places = n }) rest
  next-told after n rest h =
      let told : Better kinds after (record after { places = n }) = record { cells = refl; holds = λ m k. k } in (
        record { cells = h.0.cells; holds = h.0.holds },
        (h.1.0, agrees-better kinds after (record after { places = n }) h.1.0 told h.1.1, safe-better kinds q after (record after { places = n }) h.1.0 rest told h.1.2),
      )

  assigns : (known : List ℕ) (stmt : Stmt) (name : ℕ) (k : Kind) (v : Value) (rest : Term) → q ≤ length vars.values → Own kinds q known stmt → assigned stmt ≡ Some (name, k) → Holds (Some k) (Some v) → Agrees kinds vars known → Later kinds q vars (name ∷ known) rest → Next kinds q vars (bound name v vars) rest
  assigns known stmt name k v rest wide o e h a later =
      let f = o.assigns (name, k) e in
      let less : name < q = f.1 in
      next-bound known name k v rest f.0 h (omega (arith, less, wide)) a later

  inside-good : (known : List ℕ) (b : Block) (x : List ℕ) → Agrees kinds vars known → Lawful kinds q known b → Good kinds q vars (items b x Empty)
  inside-good known b x a h = later-good kinds q vars known (items b x Empty) a (later-items kinds q vars known b x 0 Empty h (known, (λ n k. k), tt))

  in-context : (f : Term → Term) (again : Term) (failed : Fault → Term) (allowed : List Fault → Term) (d : Does) → IsAsking d → ((after : Vars) (t : Term) → Better kinds vars after → Good kinds q after t → Good kinds q after (f t)) → Keeps kinds q vars again failed allowed d
      → Keeps kinds q vars (f again) (λ fault. f (failed fault)) (λ faults. f (allowed faults)) d
  in-context f again failed allowed (Local left after) g k h = absurd g
  in-context f again failed allowed (Makes name words) g k h =
      ((λ r. let n = h.0 r in (n.0, k (bound name (Ref r) vars) again n.0 n.1)), λ fault. k vars (failed fault) (better-same kinds vars) (h.1 fault))
  in-context f again failed allowed (Gets name target index) g k h =
      ((λ z. let n = h.0 z in (n.0, k (bound name (Number z) vars) again n.0 n.1)), λ fault. k vars (failed fault) (better-same kinds vars) (h.1 fault))
  in-context f again failed allowed (Puts target index value) g k h = (k vars again (better-same kinds vars) h.0, λ fault. k vars (failed fault) (better-same kinds vars) (h.1 fault))
  in-context f again failed allowed (Forgets target) g k h = (k vars again (better-same kinds vars) h.0, λ fault. k vars (failed fault) (better-same kinds vars) (h.1 fault))
  in-context f again failed allowed (Counts name) g k h =
      λ faults n. let m = h faults n in (m.0, k (record (bound name (Number (pos n)) vars) { places = n }) (allowed faults) m.0 m.1)
  in-context f again failed allowed (Done faults) g k h = absurd g
  in-context f again failed allowed _ g k h = λ faults. k vars (allowed faults) (better-same kinds vars) (h faults)

  -- what a term does keeps it so
  abbrev pub KeepsTerm : Term → Does → Type 0
  KeepsTerm t d = Keeps kinds q vars (replaced t (after_it t)) (λ fault. replaced t (Raise (fault ∷ []))) (λ faults. granted faults t) d

  in-try : (known : List ℕ) (o : Bool) (b : Block) (x : List ℕ) (rest : Term) → Agrees kinds vars known → Lawful kinds q known b → Later kinds q vars known rest
      → (after : Vars) (t : Term) → Better kinds vars after → Good kinds q after t → Good kinds q after (Trying t o b x rest)
  in-try known o b x rest a l h after t better good = (known, agrees-better kinds vars after known better a, (good, l, later-better kinds q vars after known rest better h))

  in-body : (known : List ℕ) (rest : Term) → Agrees kinds vars known → Later kinds q vars known rest → (after : Vars) (t : Term) → Better kinds vars after → Good kinds q after t → Good kinds q after (Body t rest)
  in-body known rest a h after t better good = (known, agrees-better kinds vars after known better a, (good, later-better kinds q vars after known rest better h))

  of_body : (inside : Term) (d : Does) (known : List ℕ) (rest : Term) → GoesOn inside → IsAsking d → Agrees kinds vars known → Later kinds q vars known rest → KeepsTerm inside d → KeepsTerm (Body inside rest) d
  of_body Empty d known rest g o a h k = absurd g
  of_body (Raise fs) d known rest g o a h k = absurd g
  of_body inside d known rest g o a h k =
      in-context (λ t. Body t rest) (replaced inside (after_it inside)) (λ fault. replaced inside (Raise (fault ∷ []))) (λ faults. granted faults inside) d o (in-body known rest a h) k

  -- the items of a block, and then what comes after them
  next-items : (known : List ℕ) (b : Block) (x : List ℕ) (rest : Term) → Agrees kinds vars known → Lawful kinds q known b → Later kinds q vars known rest → Next kinds q vars vars (items b x rest)
  next-items known b x rest a l h = next-later known (items b x rest) a (later-items kinds q vars known b x 0 rest l h)

  good-or_raise : (faults : List Fault) (rest : Term) → Good kinds q vars rest → Good kinds q vars (or_raise faults rest)
  good-or_raise [] rest h = h
  good-or_raise (f ∷ fs) rest h = good-raise kinds q vars (f ∷ fs)

  keeps_by : {here : ℕ} {t : Term} {d : Does} → StepRule vars here t d → (known : List ℕ) → q ≤ length vars.values → Agrees kinds vars known → Safe kinds q vars known t → KeepsTerm t d
  keeps_by (raises fault) known wide a h = raised-so (fault ∷ [])
  keeps_by (sets {name = name} {value = value} {rest = rest} z) known wide a h = assigns known (SetTo name value) name ANumber (Number z) rest wide h.0 refl tt a h.2
  keeps_by (makes {name = name} {words = words} {rest = rest}) known wide a h =
      ((λ r. assigns known (New name words) name AReference (Ref r) rest wide h.0 refl tt a h.2), λ fault. good-raise kinds q vars (fault ∷ []))
  keeps_by (gets {name = name} {target = target} {index = index} {rest = rest} r k home) known wide a h =
      ((λ z. assigns known (Get name target index) name ANumber (Number z) rest wide h.0 refl tt a h.2), λ fault. good-raise kinds q vars (fault ∷ []))
  keeps_by (puts {rest = rest} r k z home) known wide a h = (later-good kinds q vars known rest a h.2, λ fault. good-raise kinds q vars (fault ∷ []))
  keeps_by (forgets {rest = rest} r home) known wide a h = (later-good kinds q vars known rest a h.2, λ fault. good-raise kinds q vars (fault ∷ []))
  keeps_by (counts {name = name} {rest = rest}) known wide a h =
      λ faults n. next-told (bound name (Number (pos n)) vars) n rest (assigns known (Census name) name ANumber (Number (pos n)) rest wide h.0 refl tt a h.2)
  keeps_by (prints {rest = rest} z) known wide a h = λ faults. later-good kinds q vars known rest a h.2
  keeps_by (spawns {rest = rest}) known wide a h = λ faults. later-good kinds q vars known rest a h.2
  keeps_by (spawns_at {rest = rest} p there) known wide a h = λ faults. later-good kinds q vars known rest a h.2
  keeps_by (calls {rest = rest} p there) known wide a h = λ faults. later-good kinds q vars known rest a h.2
  keeps_by (opens {body = body} {x = x}) known wide a h = λ faults. (known, a, (inside-good known body x a h.1, h.2))
  keeps_by (takes_first {first = first} {x = x} {rest = rest}) known wide a h = next-items known first (at x 0) rest a h.1.0 h.2
  keeps_by (takes_other {other = other} {x = x} {rest = rest}) known wide a h = next-items known other (at x 1) rest a h.1.1 h.2
  keeps_by repeats known wide a h = (better-same kinds vars, (known, a, (h.1, h.2)))
  keeps_by (tries {body = body} {x = x}) known wide a h = (better-same kinds vars, (known, a, (inside-good known body (at x 0) a h.1.0, h.1.1, h.2)))
  keeps_by (turns_over {rest = rest}) known wide a h = next-later known rest a h.1
  keeps_by (turns_on {body = body} {x = x} {k = k} {times = times} {rest = rest} left) known wide a h =
      next-items known body (at x k) (Turns body x (suc k) times rest) a h.0 (known, (λ n k. k), (h.0, h.1))
  keeps_by (try_over {rest = rest}) known wide a h = next-later known rest a h.2
  keeps_by (caught {handler = handler} {x = x} {rest = rest}) known wide a h = next-items known handler (at x 1) rest a h.1 h.2
  keeps_by (uncaught {faults = faults}) known wide a h = raised-so faults
  keeps_by (in_try {left = left} {after = after} {dead_only = o} {handler = b} {x = x} {rest = rest} s) known wide a h =
      let k = keeps_by s h.0.0 wide h.0.1 h.0.2 in (k.0, in-try known o b x rest a h.1 h.2 after left k.0 k.1)
  keeps_by (asks_in_try {inside = inside} {d = d} {dead_only = o} {handler = b} {x = x} {rest = rest} g asks s) known wide a h =
      in-context (λ t. Trying t o b x rest) (replaced inside (after_it inside)) (λ fault. replaced inside (Raise (fault ∷ []))) (λ faults. granted faults inside) d asks (in-try known o b x rest a h.1 h.2)
      (keeps_by s h.0.0 wide h.0.1 h.0.2)
  keeps_by (waits {rest = rest}) known wide a h = λ faults. later-good kinds q vars known rest a h.1
  keeps_by (waits_raised {rest = rest}) known wide a h = λ faults. later-good kinds q vars known rest a h.1
  keeps_by (in_body {left = left} {after = after} {rest = rest} s) known wide a h =
      let k = keeps_by s h.0.0 wide h.0.1 h.0.2 in (k.0, in-body known rest a h.1 after left k.0 k.1)
  keeps_by (asks_in_body {inside = inside} {d = d} {rest = rest} g asks s) known wide a h =
      of_body inside d known rest g asks a h.1 (keeps_by s h.0.0 wide h.0.1 h.0.2)
  keeps_by (releases {rest = rest}) known wide a h = λ faults. good-or_raise faults rest (known, a, h)
  keeps_by _ known wide a h = tt

  pub keeps : (here : ℕ) (known : List ℕ) (t : Term) → q ≤ length vars.values → Agrees kinds vars known → Safe kinds q vars known t → KeepsTerm t (does vars here t)
  keeps here known t wide a h = keeps_by (rule_of vars here t) known wide a h

  -- a new task
  starting : (known : List ℕ) (stmt : Stmt) (x : List ℕ) → Agrees kinds vars known → Inner kinds q known stmt → Good kinds q vars (stmt_child stmt x)
  starting known (Async body) x a i = inside-good known body x a i
  starting known (AtAsync place body) x a i = inside-good known body x a i
  starting known (At place body) x a i = inside-good known body x a i
  starting known _ x a i = (known, a, tt)

  pub good-child : (known : List ℕ) (t : Term) → Agrees kinds vars known → Safe kinds q vars known t → Good kinds q vars (child t)
  good-child known (Run stmt x rest) a h = starting known stmt x a h.1
  good-child known (Trying inside o b x rest) a h = good-child h.0.0 inside h.0.1 h.0.2
  good-child known (Body inside rest) a h = good-child h.0.0 inside h.0.1 h.0.2
  good-child known _ a h = (known, a, tt)
