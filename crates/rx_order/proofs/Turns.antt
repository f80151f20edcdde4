-- The part of a statement into which a path goes.
use Rattle.std.proofs.Common.{◌≡◌, ℕ, zero, suc, ◌+◌, ◌<◌, ◌≤◌, List, [], ◌∷◌, length, drop, refl, ap, sym, subst, arith, length-drop, Bool, Option, Some, None, slice_get}
use Rattle.rx_base.proofs.Elements.{drop-next}
use Rattle.rx_rules.proofs.Common.{Stmt, Block, If, Repeat, Try}
use Rattle.rx_syntax.specs.Shape.{Shape, StmtIs, BlockStands}
use Rattle.rx_syntax.specs.declared.nodes.ExprId.{ExprId}
use Rattle.rx_syntax.specs.declared.nodes.BlockId.{BlockId}
use Rattle.rx_syntax.specs.declared.nodes.Stmt.TheVariants.{If as IfNode, Repeat as RepeatNode, Try as TryNode}
use Rattle.rx_order.specs.declared.parts.Part.{Part}
use Rattle.rx_order.specs.Inside.Parts.{turn_in, one_in, part_in, numbers_of, IsPart}

-- a turn
pub turn-there : (s : Shape) (block : BlockId) (body : Block) (path : List ℕ) (at k : ℕ) → BlockStands s block body → slice_get path at ≡ Some k → at + 1 < length path → IsPart s path (at + 1) (Some (record { number = k; block = block; at = at + 1 })) (turn_in body (drop at path))
turn-there s block body path at k b e l =
    let P : List ℕ → Type 0 = λ x. IsPart s path (at + 1) (Some (record { number = k; block = block; at = at + 1 })) (turn_in body x) in
    subst P (sym (drop-next path at k e)) (by-rest (drop (at + 1) path) refl)
  where
    by-rest : (x : List ℕ) → x ≡ drop (at + 1) path → IsPart s path (at + 1) (Some (record { number = k; block = block; at = at + 1 })) (turn_in body (k ∷ x))
    by-rest [] q = absurd (omega (arith, ap length q, length-drop (at + 1) path, l))
    by-rest (i ∷ x) q = (refl, b, sym q, refl)

pub no-turn : (s : Shape) (body : Block) (path : List ℕ) (at n : ℕ) → length path ≤ at + 1 → IsPart s path n None (turn_in body (drop at path))
no-turn s body path at n l = by-list (drop at path) refl
  where
    by-list : (x : List ℕ) → x ≡ drop at path → IsPart s path n None (turn_in body x)
    by-list [] q = tt
    by-list (k ∷ []) q = tt
    by-list (k ∷ i ∷ x) q = absurd (omega (arith, ap length q, length-drop at path, l))

-- one of two blocks
pub one-none : (s : Shape) (first other : Block) (path : List ℕ) (n : ℕ) (x : List ℕ) → IsPart s path n None (turn_in first x) → IsPart s path n None (one_in first other x)
one-none s first other path n [] h = tt
one-none s first other path n (zero ∷ []) h = tt
one-none s first other path n (zero ∷ i ∷ x) h = absurd h
one-none s first other path n (suc zero ∷ []) h = tt
one-none s first other path n (suc zero ∷ i ∷ x) h = absurd h
one-none s first other path n (suc (suc k) ∷ x) h = tt

pub one-zero : (s : Shape) (first other : Block) (path : List ℕ) (n : ℕ) (x : List ℕ) (r : Part) → r.number ≡ 0 → IsPart s path n (Some r) (turn_in first x) → IsPart s path n (Some r) (one_in first other x)
one-zero s first other path n [] r e h = absurd h
one-zero s first other path n (zero ∷ []) r e h = absurd h
one-zero s first other path n (zero ∷ i ∷ x) r e h = h
one-zero s first other path n (suc k ∷ []) r e h = absurd h
one-zero s first other path n (suc k ∷ i ∷ x) r e h = absurd (omega (arith, e, h.0))

pub one-one : (s : Shape) (first other : Block) (path : List ℕ) (n : ℕ) (x : List ℕ) (r : Part) (one : BlockId) → r.number ≡ 1 → BlockStands s one other → IsPart s path n (Some r) (turn_in first x) → IsPart s path n (Some (record { number = 1; block = one; at = r.at })) (one_in first other x)
one-one s first other path n [] r one e b h = absurd h
one-one s first other path n (k ∷ []) r one e b h = absurd h
one-one s first other path n (zero ∷ i ∷ x) r one e b h = absurd (omega (arith, e, h.0))
one-one s first other path n (suc zero ∷ i ∷ x) r one e b h = (refl, b, h.2, h.3)
one-one s first other path n (suc (suc k) ∷ i ∷ x) r one e b h = absurd (omega (arith, e, h.0))

pub one-past : (s : Shape) (first other : Block) (path : List ℕ) (n : ℕ) (x : List ℕ) (r : Part) → (r.number ≡ 0 → ⊥) → (r.number ≡ 1 → ⊥) → IsPart s path n (Some r) (turn_in first x) → IsPart s path n None (one_in first other x)
one-past s first other path n [] r e f h = tt
one-past s first other path n (k ∷ []) r e f h = absurd h
one-past s first other path n (zero ∷ i ∷ x) r e f h = absurd (e h.0)
one-past s first other path n (suc zero ∷ i ∷ x) r e f h = absurd (f h.0)
one-past s first other path n (suc (suc k) ∷ i ∷ x) r e f h = tt

-- the statements with a number before the position
pub if-part : (s : Shape) (test : ExprId) (first other : BlockId) (path : List ℕ) (at : ℕ) (r : Option Part) → ((a b : Block) → BlockStands s first a → BlockStands s other b → IsPart s path (at + 1) r (one_in a b (drop at path))) → (t : Stmt) → StmtIs s (IfNode test first other) t → IsPart s path (at + numbers_of t) r (part_in t (drop at path))
if-part s test first other path at r f (If e a b) h = f a b (h.0, h.1, h.2) h.3
if-part s test first other path at r f _ h = absurd h

pub try-part : (s : Shape) (dead_only : Bool) (body handler : BlockId) (path : List ℕ) (at : ℕ) (r : Option Part) → ((a b : Block) → BlockStands s body a → BlockStands s handler b → IsPart s path (at + 1) r (one_in a b (drop at path))) → (t : Stmt) → StmtIs s (TryNode body dead_only handler) t → IsPart s path (at + numbers_of t) r (part_in t (drop at path))
try-part s dead_only body handler path at r f (Try a d b) h = f a b (h.0, h.1, h.2) h.3
try-part s dead_only body handler path at r f _ h = absurd h

pub repeat-part : (s : Shape) (times : ℕ) (body : BlockId) (path : List ℕ) (at : ℕ) (r : Option Part) → ((b : Block) → BlockStands s body b → IsPart s path (at + 1) r (turn_in b (drop at path))) → (t : Stmt) → StmtIs s (RepeatNode times body) t → IsPart s path (at + numbers_of t) r (part_in t (drop at path))
repeat-part s times body path at r f (Repeat n b) h = f b (h.0, h.1, h.2)
repeat-part s times body path at r f _ h = absurd h
