-- A local step or an answer brings no item into a waiter that no item was in.
use Rattle.std.proofs.Common.{◌≡◌, ◌⊎◌, ℕ, suc, Bool, false, List, [], ◌∷◌, ◌++◌, Some, None, refl, ap, sym, subst, ◌∙◌, inl, inr}
use Rattle.rx_rules.proofs.Common.{Fault, Block, Nothing, Then, Stmt, If, Try, Term, Empty, Run, Raise, Turns, Trying, Body, Vars, Does, at, items_from, items, does, replaced, after_it}
use Rattle.rx_rules.proofs.StepRules.{StepRule, raises, sets, takes_first, takes_other, repeats, tries, turns_over, turns_on, try_over, caught, uncaught, in_try, asks_in_try, in_body, asks_in_body, rule_of}
use Rattle.rx_base.proofs.Elements.{tails-are}
use Rattle.rx_history_laws.proofs.Straight.{code_at, is_waiter}
use Rattle.rx_history_laws.proofs.Paths.{Starts, starts-same, starts-trans, starts-at}
use Rattle.rx_history_laws.proofs.TermOrder.{IfLocal, asking-if}
use Rattle.rx_history_laws.proofs.TermCode.{Coded, Idle, code-on, no_part_if, no_part_try}
use Rattle.rx_history_laws.proofs.Heads.{Head}

-- an item of t from which h comes, with no waiter between
pub record From (code : Block) (t : Term) (h : List ℕ) : Type 0 where
  pub head : List ℕ
  pub is_head : Head t head
  pub begins : Starts head h
  pub between : (x : List ℕ) (j : ℕ) (r : List ℕ) (u : Stmt) → h ≡ x ++ j ∷ r → Starts head x → code_at code x ≡ Some u → is_waiter u ≡ false

abbrev pub HeadsFrom : Block → Term → Term → Type 0
HeadsFrom code t after = (h : List ℕ) → Head after h → From code t h

starts-longer : (x : List ℕ) (j : ℕ) (r : List ℕ) → Starts (x ++ j ∷ r) x → ⊥
starts-longer [] j r s = s
starts-longer (i ∷ x) j r s = starts-longer x j r s.1

pub from-same : (code : Block) (t : Term) (h : List ℕ) → Head t h → From code t h
from-same code t h k =
    record { head = h; is_head = k; begins = starts-same h; between = λ x j r u w s e. absurd (starts-longer x j r (subst (λ v. Starts v x) w s)) }

from-wider : (code : Block) (t u : Term) (h : List ℕ) → ((v : List ℕ) → Head t v → Head u v) → From code t h → From code u h
from-wider code t u h f k = record { head = k.head; is_head = f k.head k.is_head; begins = k.begins; between = k.between }

-- the items of a block
pub items-heads : (b : Block) (x : List ℕ) (i : ℕ) (rest : Term) (h : List ℕ) → Head (items_from b x i rest) h → ((m : ℕ) × (h ≡ at x m)) ⊎ Head rest h
items-heads Nothing x i rest h k = inr k
items-heads (Then first more) x i rest h (inl e) = inl (i, e)
items-heads (Then first more) x i rest h (inr k) = items-heads more x (suc i) rest h k

nothing-left : (x : List ℕ) (j : ℕ) (r : List ℕ) → [] ≡ x ++ j ∷ r → ⊥
nothing-left [] j r e = cc
nothing-left (i ∷ x) j r e = cc

between-two : (z x : List ℕ) (c m j : ℕ) (r : List ℕ) → at (at z c) m ≡ x ++ j ∷ r → Starts z x → (x ≡ z) ⊎ (x ≡ at z c)
between-two [] [] c m j r e s = inl refl
between-two [] (k ∷ []) c m j r e s = inr (let same : c ≡ k = cc in ap (λ v. v ∷ []) (sym same))
between-two [] (k ∷ l ∷ x) c m j r e s =
    absurd (nothing-left x j r (tails-are m l [] (x ++ j ∷ r) (tails-are c k (m ∷ []) (l ∷ (x ++ j ∷ r)) e)))
between-two (k ∷ z) [] c m j r e s = absurd s
between-two (k ∷ z) (l ∷ x) c m j r e s =
    elim (between-two z x c m j r (tails-are k l (at (at z c) m) (x ++ j ∷ r) e) s.1) [
      | inl q ↦ inl (ap (λ v. v ∷ x) (sym s.0) ∙ ap (λ v. k ∷ v) q)
      | inr q ↦ inr (ap (λ v. v ∷ x) (sym s.0) ∙ ap (λ v. k ∷ v) q)
    ]

no_stmt : (u : Stmt) → None ≡ Some u → ⊥
no_stmt u e = cc

-- an item of a block of an idle statement
from-idle : (code : Block) (t : Term) (z : List ℕ) (c m : ℕ) → Idle code z → Head t z → From code t (at (at z c) m)
from-idle code t z c m idle k =
    record {
      head = z;
      is_head = k;
      begins = starts-trans z (at z c) (at (at z c) m) (starts-at z c) (starts-at (at z c) m);
      between = λ x j r u w s e. elim (between-two z x c m j r w s) [
        | inl q ↦
            let one : Some idle.0 ≡ Some u = sym idle.1 ∙ subst (λ v. code_at code v ≡ Some u) q e in
            let it : idle.0 ≡ u = cc in
            ap is_waiter (sym it) ∙ idle.2
        | inr q ↦ absurd (no_stmt u (sym (code-on code z idle.0 idle.1 (c ∷ []) ∙ idle.3 c) ∙ subst (λ v. code_at code v ≡ Some u) q e))
      ];
    }

block-from : (code : Block) (t : Term) (b : Block) (z : List ℕ) (c : ℕ) (rest : Term) → Idle code z → Head t z → ((h : List ℕ) → Head rest h → Head t h) → HeadsFrom code t (items b (at z c) rest)
block-from code t b z c rest idle here f h k =
    elim (items-heads b (at z c) 0 rest h k) [
      | inl m ↦ subst (From code t) (sym m.1) (from-idle code t z c m.0 idle here)
      | inr r ↦ from-same code t h (f h r)
    ]

in-trying : (code : Block) (inside after : Term) (dead_only : Bool) (handler : Block) (x : List ℕ) (rest : Term) → HeadsFrom code inside after → HeadsFrom code (Trying inside dead_only handler x rest) (Trying after dead_only handler x rest)
in-trying code inside after dead_only handler x rest f h (inl k) = from-wider code inside (Trying inside dead_only handler x rest) h (λ v n. inl n) (f h k)
in-trying code inside after dead_only handler x rest f h (inr k) = from-same code (Trying inside dead_only handler x rest) h (inr k)

in-body : (code : Block) (inside after rest : Term) → HeadsFrom code inside after → HeadsFrom code (Body inside rest) (Body after rest)
in-body code inside after rest f h (inl k) = from-wider code inside (Body inside rest) h (λ v n. inl n) (f h k)
in-body code inside after rest f h (inr k) = from-same code (Body inside rest) h (inr k)

from_by : (code : Block) {vars : Vars} {here : ℕ} {t : Term} {d : Does} → StepRule vars here t d → Coded code t → IfLocal (HeadsFrom code t) d
from_by code (raises fault) c = λ h k. absurd k
from_by code {t = t} (sets z) c = λ h k. from-same code t h (inr k)
from_by code {t = t} (takes_first {test = test} {first = first} {other = other} {x = x} {rest = rest}) c =
    block-from code t first x 0 rest (If test first other, c.0, refl, no_part_if test first other) (inl refl) (λ h k. inr k)
from_by code {t = t} (takes_other {test = test} {first = first} {other = other} {x = x} {rest = rest}) c =
    block-from code t other x 1 rest (If test first other, c.0, refl, no_part_if test first other) (inl refl) (λ h k. inr k)
from_by code {t = t} repeats c = λ h k. from-same code t h k
from_by code {t = t} (tries {body = body} {dead_only = o} {handler = handler} {x = x}) c = λ h k. elim k [
  | inl i ↦ block-from code t body x 0 Empty (Try body o handler, c.0, refl, no_part_try body o handler) (inl refl) (λ v n. absurd n) h i
  | inr r ↦ from-same code t h r
]
from_by code {t = t} turns_over c = λ h k. from-same code t h (inr k)
from_by code {t = t} (turns_on {body = body} {x = x} {k = k} {times = times} {rest = rest} left) c =
    block-from code t body x k (Turns body x (suc k) times rest) c.2 (inl refl) (λ h n. n)
from_by code {t = t} try_over c = λ h k. from-same code t h (inr (inr k))
from_by code {t = t} (caught {handler = handler} {x = x} {rest = rest}) c = block-from code t handler x 1 rest c.3 (inr (inl refl)) (λ h k. inr (inr k))
from_by code uncaught c = λ h k. absurd k
from_by code (in_try {inside = inside} {left = left} {dead_only = o} {handler = handler} {x = x} {rest = rest} s) c =
    in-trying code inside left o handler x rest (from_by code s c.0)
from_by code {t = t} {d = d} (asks_in_try g a s) c = asking-if (HeadsFrom code t) d a
from_by code (in_body {inside = inside} {left = left} {rest = rest} s) c = in-body code inside left rest (from_by code s c.0)
from_by code {t = t} {d = d} (asks_in_body g a s) c = asking-if (HeadsFrom code t) d a
from_by code _ c = tt

pub local-from : (code : Block) (vars : Vars) (here : ℕ) (t : Term) → Coded code t → IfLocal (HeadsFrom code t) (does vars here t)
local-from code vars here t c = from_by code (rule_of vars here t) c

-- an answer leaves items that were there

after-head : (t : Term) (h : List ℕ) → Head (after_it t) h → Head t h
after-head (Run stmt x rest) h k = inr k
after-head (Trying inside dead_only handler x rest) h k = inl (after-head inside h k)
after-head (Body inside rest) h k = inl (after-head inside h k)
after-head _ h k = absurd k

pub replaced-head : (t new : Term) (h : List ℕ) → Head (replaced t new) h → Head t h ⊎ Head new h
replaced-head (Trying inside dead_only handler x rest) new h (inl k) = elim (replaced-head inside new h k) [ inl a ↦ inl (inl a) | inr b ↦ inr b ]
replaced-head (Trying inside dead_only handler x rest) new h (inr k) = inl (inr k)
replaced-head (Body inside rest) new h (inl k) = elim (replaced-head inside new h k) [ inl a ↦ inl (inl a) | inr b ↦ inr b ]
replaced-head (Body inside rest) new h (inr k) = inl (inr k)
replaced-head _ new h k = inr k

pub fine-head : (t : Term) (h : List ℕ) → Head (replaced t (after_it t)) h → Head t h
fine-head t h k = elim (replaced-head t (after_it t) h k) [ inl a ↦ a | inr b ↦ after-head t h b ]

pub fails-head : (t : Term) (faults : List Fault) (h : List ℕ) → Head (replaced t (Raise faults)) h → Head t h
fails-head t faults h k = elim (replaced-head t (Raise faults) h k) [ inl a ↦ a | inr b ↦ absurd b ]
