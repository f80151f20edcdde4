-- Whether a term waits, after each kind of step.
use Rattle.std.proofs.Common.{◌≡◌, ℕ, suc, false, List, refl}
use Rattle.rx_rules.proofs.Common.{Block, Nothing, Then, Vars, Term, Empty, Run, Raise, Turns, Trying, Body, Held, items, items_from, at, Does, Local, does}
use Rattle.rx_rules.proofs.StepRules.{StepRule, raises, sets, takes_first, takes_other, repeats, tries, turns_over, turns_on, try_over, caught, uncaught, in_try, asks_in_try, in_body, asks_in_body, rule_of}
use Rattle.rx_tree_laws.specs.Held.{is_held, Unheld, HeldInFront}

-- where no task waits, none waits at the front
pub unheld-front : (t : Term) → Unheld t → HeldInFront t × (is_held t ≡ false)
unheld-front Empty h = (tt, refl)
unheld-front (Run stmt x rest) h = (h, refl)
unheld-front (Raise faults) h = (tt, refl)
unheld-front (Turns body x k times rest) h = (h, refl)
unheld-front (Trying inside o b x rest) h = let r = unheld-front inside h.0 in ((r.0, h.1), r.1)
unheld-front (Body inside rest) h = let r = unheld-front inside h.0 in ((r.0, h.1), r.1)
unheld-front (Held rest) h = absurd h

-- statements wait nowhere
pub unheld-items : (b : Block) (x : List ℕ) (i : ℕ) (rest : Term) → Unheld rest → Unheld (items_from b x i rest)
unheld-items Nothing x i rest h = h
unheld-items (Then first more) x i rest h = unheld-items more x (suc i) rest h

-- a term that begins with them does not wait
pub items-front : (b : Block) (x : List ℕ) (rest : Term) → Unheld rest → HeldInFront (items b x rest) × (is_held (items b x rest) ≡ false)
items-front b x rest h = unheld-front (items b x rest) (unheld-items b x 0 rest h)

-- after a local step no task waits
abbrev pub AfterLocal : Does → Type 0
AfterLocal (Local left vars) = HeldInFront left × (is_held left ≡ false)
AfterLocal _ = Unit {0}

local_by : {vars : Vars} {here : ℕ} {t : Term} {d : Does} → StepRule vars here t d → HeldInFront t → AfterLocal d
local_by (raises fault) h = (tt, refl)
local_by (sets {rest = rest} z) h = unheld-front rest h
local_by (takes_first {first = first} {x = x} {rest = rest}) h = items-front first (at x 0) rest h
local_by (takes_other {other = other} {x = x} {rest = rest}) h = items-front other (at x 1) rest h
local_by repeats h = (h, refl)
local_by (tries {body = body} {x = x}) h = let r = items-front body (at x 0) Empty tt in ((r.0, h), r.1)
local_by (turns_over {rest = rest}) h = unheld-front rest h
local_by (turns_on {body = body} {x = x} {k = k} {times = times} {rest = rest} more) h = items-front body (at x k) (Turns body x (suc k) times rest) h
local_by (try_over {rest = rest}) h = unheld-front rest h.1
local_by (caught {handler = handler} {x = x} {rest = rest}) h = items-front handler (at x 1) rest h.1
local_by uncaught h = (tt, refl)
local_by (in_try s) h = let r = local_by s h.0 in ((r.0, h.1), r.1)
local_by (in_body s) h = let r = local_by s h.0 in ((r.0, h.1), r.1)
local_by (asks_in_try g a s) h = local_by s h.0
local_by (asks_in_body g a s) h = local_by s h.0
local_by _ h = tt

pub after-local : (vars : Vars) (here : ℕ) (t : Term) → HeldInFront t → AfterLocal (does vars here t)
after-local vars here t h = local_by (rule_of vars here t) h
