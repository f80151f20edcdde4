-- Tasks are started inside tasks no deeper than statements stand in blocks, and a script that meets the rules has at most 32.
use Rattle.std.proofs.Common.{◌≡◌, ◌⊎◌, ℕ, suc, ◌+◌, ◌≤◌, nat_lt, Bool, true, false, ◌||◌, List, [], refl, arith, inl, inr, max}
use Rattle.std.proofs.lemmas.Bool.Decides.{nat_tests}
use Rattle.rx_rules.proofs.Common.{Stmt, Async, AtAsync, At, Finish, If, Repeat, Try, Block, Nothing, Then}
use Rattle.rx_check.specs.Rules.{Sight, assigned, learned, inside, sights, nodes}
use Rattle.rx_check.specs.Checked.{Meets}
use Rattle.rx_check.proofs.Lawful.{AllPass, passes, meets-pass}
use Rattle.rx_parts_bounds.specs.Nesting.{nest, nest_of}
use Rattle.rx_check.proofs.Lawful.{pass-left, pass-right}

-- below so many blocks
abbrev IsWithin : ℕ → ℕ → Type 0
IsWithin depth n = (n ≡ 0) ⊎ (n + depth ≤ 33)

not_less : (m n : ℕ) (b : Bool) → nat_lt m n || b ≡ false → n ≤ m
not_less m n b h = either (nat_lt m n) refl h where
  either : (c : Bool) → nat_lt m n ≡ c → c || b ≡ false → n ≤ m
  either true e k = absurd (let f : ⊥ = cc in f)
  either false e k = grind (arith, nat_tests, e)

both : (depth a b : ℕ) → IsWithin depth a → IsWithin depth b → IsWithin depth (max a b)
both depth a b (inl h) (inl k) = inl (omega arith)
both depth a b (inl h) (inr k) = inr (omega arith)
both depth a b (inr h) (inl k) = inr (omega arith)
both depth a b (inr h) (inr k) = inr (omega arith)

deeper : (depth n : ℕ) → depth ≤ 32 → IsWithin (suc depth) n → IsWithin depth (1 + n)
deeper depth n le (inl h) = inr (omega arith)
deeper depth n le (inr h) = inr (omega arith)

as_deep : (depth n : ℕ) → IsWithin (suc depth) n → IsWithin depth n
as_deep depth n (inl h) = inl h
as_deep depth n (inr h) = inr (omega arith)

mutual
  stmt_within : (script : List Sight) (known : List ℕ) (depth : ℕ) (t : Stmt) → depth ≤ 32 → AllPass script (inside known depth t) → IsWithin depth (nest_of t)
  stmt_within script known depth (Async body) le h = deeper depth (nest body) le (block_within script known (suc depth) body h)
  stmt_within script known depth (AtAsync place body) le h = deeper depth (nest body) le (block_within script known (suc depth) body h)
  stmt_within script known depth (At place body) le h = deeper depth (nest body) le (block_within script known (suc depth) body h)
  stmt_within script known depth (Finish body) le h = as_deep depth (nest body) (block_within script known (suc depth) body h)
  stmt_within script known depth (If test first other) le h =
      both depth (nest first) (nest other)
      (as_deep depth (nest first) (block_within script known (suc depth) first (pass-left script (sights known (suc depth) first) (sights known (suc depth) other) h)))
      (as_deep depth (nest other) (block_within script known (suc depth) other (pass-right script (sights known (suc depth) first) (sights known (suc depth) other) h)))
  stmt_within script known depth (Repeat times body) le h = as_deep depth (nest body) (block_within script known (suc depth) body h)
  stmt_within script known depth (Try body dead_only handler) le h =
      both depth (nest body) (nest handler)
      (as_deep depth (nest body) (block_within script known (suc depth) body (pass-left script (sights known (suc depth) body) (sights known (suc depth) handler) h)))
      (as_deep depth (nest handler) (block_within script known (suc depth) handler (pass-right script (sights known (suc depth) body) (sights known (suc depth) handler) h)))
  stmt_within script known depth _ le h = inl refl

  block_within : (script : List Sight) (known : List ℕ) (depth : ℕ) (b : Block) → AllPass script (sights known depth b) → IsWithin depth (nest b)
  block_within script known depth Nothing h = inl refl
  block_within script known depth (Then t ts) h =
      let le : depth ≤ 32 = not_less 32 depth _ (passes script (record { stmt = t; depth = depth; known = known }) h.0).depth in
      both depth (nest_of t) (nest ts)
      (stmt_within script known depth t le (pass-left script (inside known depth t) (sights (learned (assigned t) known) depth ts) h.1))
      (block_within script (learned (assigned t) known) depth ts (pass-right script (inside known depth t) (sights (learned (assigned t) known) depth ts) h.1))

pub few_nest : (code : Block) → Meets code → nest code ≤ 33
few_nest code meets = by (block_within (nodes code) [] 0 code (meets-pass code meets)) where
  by : IsWithin 0 (nest code) → nest code ≤ 33
  by (inl h) = omega arith
  by (inr h) = omega arith
