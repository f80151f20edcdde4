-- A path of a script that meets the rules has at most 65 numbers.
use Rattle.std.proofs.Common.{ℕ, zero, suc, ◌+◌, ◌*◌, ◌≤◌, nat_lt, not, List, [], ◌∷◌, ◌++◌, length, arith}
use Rattle.std.specs.List.{list_all}
use Rattle.std.proofs.lemmas.Bool.{or_parts, ltb-false}
use Rattle.rx_rules.proofs.Common.{Stmt, Async, AtAsync, At, Finish, If, Repeat, Try, Block, Nothing, Then}
use Rattle.rx_check.specs.Rules.{Sight, inside, sights, nodes, learned, assigned, pairs_in, exprs_of}
use Rattle.rx_check.specs.Checked.{Meets}
use Rattle.rx_check.proofs.Lawful.{AllPass, meets-pass, passes}
use Rattle.rx_span.specs.Paths.{Names, NamesIn, IsPath}

-- no statement of these lies deeper than 32
abbrev Shallow : List Sight → Type 0
Shallow [] = Unit {0}
Shallow (s ∷ ss) = (s.depth ≤ 32) × Shallow ss

left : (ss ts : List Sight) → Shallow (ss ++ ts) → Shallow ss
left [] ts h = tt
left (s ∷ ss) ts h = (h.0, left ss ts h.1)

right : (ss ts : List Sight) → Shallow (ss ++ ts) → Shallow ts
right [] ts h = h
right (s ∷ ss) ts h = right ss ts h.1

pass-shallow : (script ss : List Sight) → AllPass script ss → Shallow ss
pass-shallow script [] h = tt
pass-shallow script (s ∷ ss) h = (
  ltb-false 32 s.depth (or_parts (nat_lt 32 s.depth) (not (list_all (λ e. not (nat_lt 32 (pairs_in e))) (exprs_of s.stmt))) (passes script s h.0).depth).0,
  pass-shallow script ss h.1,
)

mutual
  short : (s : Stmt) (x : List ℕ) (known : List ℕ) (depth : ℕ) → depth ≤ 32 → Shallow (inside known depth s) → Names s x → length x + 2 * depth ≤ 64
  short s [] known depth l h n = omega arith
  short (Async body) (i ∷ x) known depth l h n = let r = short_in body i x known (suc depth) h n in omega arith
  short (AtAsync place body) (i ∷ x) known depth l h n = let r = short_in body i x known (suc depth) h n in omega arith
  short (At place body) (i ∷ x) known depth l h n = let r = short_in body i x known (suc depth) h n in omega arith
  short (Finish body) (i ∷ x) known depth l h n = let r = short_in body i x known (suc depth) h n in omega arith
  short (If test first other) (zero ∷ []) known depth l h n = absurd n
  short (If test first other) (suc zero ∷ []) known depth l h n = absurd n
  short (If test first other) (suc (suc k) ∷ x) known depth l h n = absurd n
  short (If test first other) (zero ∷ i ∷ x) known depth l h n = let r = short_in first i x known (suc depth) (left (sights known (suc depth) first) (sights known (suc depth) other) h) n in omega arith
  short (If test first other) (suc zero ∷ i ∷ x) known depth l h n = let r = short_in other i x known (suc depth) (right (sights known (suc depth) first) (sights known (suc depth) other) h) n in omega arith
  short (Repeat times body) (k ∷ []) known depth l h n = absurd n
  short (Repeat times body) (k ∷ i ∷ x) known depth l h n = let r = short_in body i x known (suc depth) h n in omega arith
  short (Try body dead_only handler) (zero ∷ []) known depth l h n = absurd n
  short (Try body dead_only handler) (suc zero ∷ []) known depth l h n = absurd n
  short (Try body dead_only handler) (suc (suc k) ∷ x) known depth l h n = absurd n
  short (Try body dead_only handler) (zero ∷ i ∷ x) known depth l h n = let r = short_in body i x known (suc depth) (left (sights known (suc depth) body) (sights known (suc depth) handler) h) n in omega arith
  short (Try body dead_only handler) (suc zero ∷ i ∷ x) known depth l h n = let r = short_in handler i x known (suc depth) (right (sights known (suc depth) body) (sights known (suc depth) handler) h) n in omega arith
  short s (i ∷ x) known depth l h n = absurd n

  short_in : (b : Block) (i : ℕ) (x : List ℕ) (known : List ℕ) (depth : ℕ) → Shallow (sights known depth b) → NamesIn b i x → length x + 2 * depth ≤ 64
  short_in Nothing i x known depth h n = absurd n
  short_in (Then t ts) zero x known depth h n = short t x known depth h.0 (left (inside known depth t) (sights (learned (assigned t) known) depth ts) h.1) n
  short_in (Then t ts) (suc i) x known depth h n = short_in ts i x (learned (assigned t) known) depth (right (inside known depth t) (sights (learned (assigned t) known) depth ts) h.1) n

pub path-short : (code : Block) → Meets code → (x : List ℕ) → IsPath code x → length x ≤ 65
path-short code m [] n = absurd n
path-short code m (i ∷ x) n = let r = short_in code i x [] 0 (pass-shallow (nodes code) (nodes code) (meets-pass code m)) n in omega arith
