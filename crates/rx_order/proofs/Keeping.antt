-- Whether a path is kept, by the statements along it.
use Rattle.std.proofs.Common.{◌≡◌, ℕ, zero, suc, ◌+◌, ◌<◌, Bool, true, false, List, [], ◌∷◌, length, drop, refl, ap, sym, arith, Some, None, slice_get}
use Rattle.rx_base.proofs.Elements.{drop-next}
use Rattle.rx_rules.proofs.Common.{Stmt, Block, At, If, Repeat, Try, is_kept, is_kept_in}
use Rattle.rx_syntax.specs.Shape.{Shape, BlockStands}
use Rattle.rx_order.specs.declared.parts.Part.{Part}
use Rattle.rx_order.specs.Inside.Parts.{is_kept_along, part_in, IsPart, IsOpen}

-- the statement at the position that the path tells
pub kept-at : (b : Block) (x : List ℕ) (at i : ℕ) → slice_get x at ≡ Some i → is_kept_along b (drop at x) ≡ is_kept_in b i (drop (at + 1) x)
kept-at b x at i e = ap (is_kept_along b) (drop-next x at i e)

-- the path ends at the statement
pub kept-end : (t : Stmt) → IsOpen t → true ≡ is_kept t []
kept-end (At p b) o = refl
kept-end (If e a b) o = refl
kept-end (Repeat n b) o = refl
kept-end (Try a d b) o = refl
kept-end _ o = absurd o

-- it goes nowhere inside it
pub kept-out : (s : Shape) (path : List ℕ) (n : ℕ) (t : Stmt) (x : List ℕ) → IsOpen t → 0 < length x → IsPart s path n None (part_in t x) → false ≡ is_kept t x
kept-out s path n t [] o l h = absurd (omega (arith, l))
kept-out s path n (At p b) (i ∷ x) o l h = absurd h
kept-out s path n (If e a b) (zero ∷ []) o l h = refl
kept-out s path n (If e a b) (zero ∷ i ∷ x) o l h = absurd h
kept-out s path n (If e a b) (suc zero ∷ []) o l h = refl
kept-out s path n (If e a b) (suc zero ∷ i ∷ x) o l h = absurd h
kept-out s path n (If e a b) (suc (suc k) ∷ x) o l h = refl
kept-out s path n (Repeat m b) (k ∷ []) o l h = refl
kept-out s path n (Repeat m b) (k ∷ i ∷ x) o l h = absurd h
kept-out s path n (Try a d b) (zero ∷ []) o l h = refl
kept-out s path n (Try a d b) (zero ∷ i ∷ x) o l h = absurd h
kept-out s path n (Try a d b) (suc zero ∷ []) o l h = refl
kept-out s path n (Try a d b) (suc zero ∷ i ∷ x) o l h = absurd h
kept-out s path n (Try a d b) (suc (suc k) ∷ x) o l h = refl
kept-out s path n _ (i ∷ x) o l h = absurd o

-- it goes on inside it
pub record Further (s : Shape) (path : List ℕ) (n : ℕ) (r : Part) (value : Bool) : Type 0 where
  pub block : Block
  pub stands : BlockStands s r.block block
  pub same : value ≡ is_kept_along block (drop r.at path)
  pub at : r.at ≡ n

pub kept-on : (s : Shape) (path : List ℕ) (n : ℕ) (t : Stmt) (x : List ℕ) (r : Part) → IsOpen t → 0 < length x → IsPart s path n (Some r) (part_in t x) → Further s path n r (is_kept t x)
kept-on s path n t [] r o l h = absurd (omega (arith, l))
kept-on s path n (At p b) (i ∷ x) r o l h = record { block = b; stands = h.1; same = sym (ap (is_kept_along b) h.2); at = h.3 }
kept-on s path n (If e a b) (zero ∷ []) r o l h = absurd h
kept-on s path n (If e a b) (zero ∷ i ∷ x) r o l h = record { block = a; stands = h.1; same = sym (ap (is_kept_along a) h.2); at = h.3 }
kept-on s path n (If e a b) (suc zero ∷ []) r o l h = absurd h
kept-on s path n (If e a b) (suc zero ∷ i ∷ x) r o l h = record { block = b; stands = h.1; same = sym (ap (is_kept_along b) h.2); at = h.3 }
kept-on s path n (If e a b) (suc (suc k) ∷ x) r o l h = absurd h
kept-on s path n (Repeat m b) (k ∷ []) r o l h = absurd h
kept-on s path n (Repeat m b) (k ∷ i ∷ x) r o l h = record { block = b; stands = h.1; same = sym (ap (is_kept_along b) h.2); at = h.3 }
kept-on s path n (Try a d b) (zero ∷ []) r o l h = absurd h
kept-on s path n (Try a d b) (zero ∷ i ∷ x) r o l h = record { block = a; stands = h.1; same = sym (ap (is_kept_along a) h.2); at = h.3 }
kept-on s path n (Try a d b) (suc zero ∷ []) r o l h = absurd h
kept-on s path n (Try a d b) (suc zero ∷ i ∷ x) r o l h = record { block = b; stands = h.1; same = sym (ap (is_kept_along b) h.2); at = h.3 }
kept-on s path n (Try a d b) (suc (suc k) ∷ x) r o l h = absurd h
kept-on s path n _ (i ∷ x) r o l h = absurd o
