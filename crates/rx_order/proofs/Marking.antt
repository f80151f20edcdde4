-- The marks along a path, by the statements along it.
use Rattle.std.proofs.Common.{◌≡◌, ◌≢◌, ℕ, zero, suc, ◌+◌, ◌==◌, cond, List, [], ◌∷◌, ◌++◌, drop, refl, ap, sym, ◌∙◌, subst, arith, Some, None, option_to_list, slice_get}
use Rattle.std.proofs.lemmas.Bool.{eq-eqb, ne_eqb}
use Rattle.std.proofs.lemmas.Option.{same_Some}
use Rattle.rx_base.proofs.Elements.{drop-next}
use Rattle.rx_rules.proofs.Common.{Stmt, SetTo, New, Get, Put, Forget, Census, Print, Throw, Async, AtAsync, At, Finish, If, Repeat, Try, Block, Nothing, Then}
use Rattle.rx_syntax.specs.Shape.{Shape, BlockStands}
use Rattle.rx_order.specs.declared.marks.Role.{Role}
use Rattle.rx_order.specs.declared.marks.Role.TheVariants.{Follows, Branches}
use Rattle.rx_order.specs.declared.parts.Part.{Part}
use Rattle.rx_order.specs.Marks.{mark_of, marks, marks_in}
use Rattle.rx_order.specs.Inside.Parts.{item_of, part_in, part_mark, marks_along, IsPart}

-- the statement at the position that the path tells
pub marks-at : (b : Block) (x : List ℕ) (at i : ℕ) → slice_get x at ≡ Some i → marks_along b (drop at x) ≡ marks_in b i (drop (at + 1) x)
marks-at b x at i e = ap (marks_along b) (drop-next x at i e)

pub marks-none : (b : Block) (i : ℕ) (x : List ℕ) → item_of b i ≡ None → marks_in b i x ≡ []
marks-none Nothing i x e = refl
marks-none (Then t ts) zero x e = cc
marks-none (Then t ts) (suc i) x e = marks-none ts i x e

pub marks-some : (b : Block) (i : ℕ) (x : List ℕ) (t : Stmt) → item_of b i ≡ Some t → marks_in b i x ≡ mark_of t ∷ marks t x
marks-some Nothing i x t e = cc
marks-some (Then u us) zero x t e = ap (λ v. mark_of v ∷ marks v x) (same_Some u t e)
marks-some (Then u us) (suc i) x t e = marks-some us i x t e

-- the path goes nowhere inside the statement
pub marks-out : (s : Shape) (path : List ℕ) (n : ℕ) (t : Stmt) (x : List ℕ) → IsPart s path n None (part_in t x) → marks t x ≡ []
marks-out s path n (Async b) x h = absurd h
marks-out s path n (AtAsync p b) x h = absurd h
marks-out s path n (At p b) x h = absurd h
marks-out s path n (Finish b) x h = absurd h
marks-out s path n (If e a b) [] h = refl
marks-out s path n (If e a b) (zero ∷ []) h = refl
marks-out s path n (If e a b) (zero ∷ i ∷ x) h = absurd h
marks-out s path n (If e a b) (suc zero ∷ []) h = refl
marks-out s path n (If e a b) (suc zero ∷ i ∷ x) h = absurd h
marks-out s path n (If e a b) (suc (suc k) ∷ x) h = refl
marks-out s path n (Repeat m b) [] h = refl
marks-out s path n (Repeat m b) (k ∷ []) h = refl
marks-out s path n (Repeat m b) (k ∷ i ∷ x) h = absurd h
marks-out s path n (Try a d b) [] h = refl
marks-out s path n (Try a d b) (zero ∷ []) h = refl
marks-out s path n (Try a d b) (zero ∷ i ∷ x) h = absurd h
marks-out s path n (Try a d b) (suc zero ∷ []) h = refl
marks-out s path n (Try a d b) (suc zero ∷ i ∷ x) h = absurd h
marks-out s path n (Try a d b) (suc (suc k) ∷ x) h = refl
marks-out s path n _ x h = refl

-- it goes on inside it
pub record Marked (s : Shape) (path : List ℕ) (n : ℕ) (r : Part) (t : Stmt) (x : List ℕ) : Type 0 where
  pub block : Block
  pub stands : BlockStands s r.block block
  pub same : marks t x ≡ option_to_list (part_mark t r.number) ++ marks_along block (drop r.at path)
  pub at : r.at ≡ n

marks-block : (b : Block) (x y : List ℕ) (ms : List Role) → ms ≡ marks_along b x → y ≡ x → ms ≡ marks_along b y
marks-block b x y ms e f = e ∙ ap (marks_along b) (sym f)

whole : (b : Block) (x : List ℕ) → (t : Stmt) → ((i : ℕ) (y : List ℕ) → marks t (i ∷ y) ≡ marks_in b i y) → marks t [] ≡ [] → marks t x ≡ marks_along b x
whole b [] t h e = e
whole b (i ∷ x) t h e = h i x

pub marks-on : (s : Shape) (path : List ℕ) (n : ℕ) (t : Stmt) (x : List ℕ) (r : Part) → IsPart s path n (Some r) (part_in t x) → Marked s path n r t x
marks-on s path n (Async b) x r h = record { block = b; stands = h.1; same = marks-block b x (drop r.at path) (marks (Async b) x) (whole b x (Async b) (λ i y. refl) refl) h.2; at = h.3 }
marks-on s path n (AtAsync p b) x r h = record { block = b; stands = h.1; same = marks-block b x (drop r.at path) (marks (AtAsync p b) x) (whole b x (AtAsync p b) (λ i y. refl) refl) h.2; at = h.3 }
marks-on s path n (At p b) x r h = record { block = b; stands = h.1; same = marks-block b x (drop r.at path) (marks (At p b) x) (whole b x (At p b) (λ i y. refl) refl) h.2; at = h.3 }
marks-on s path n (Finish b) x r h = record { block = b; stands = h.1; same = marks-block b x (drop r.at path) (marks (Finish b) x) (whole b x (Finish b) (λ i y. refl) refl) h.2; at = h.3 }
marks-on s path n (If e a b) [] r h = absurd h
marks-on s path n (If e a b) (zero ∷ []) r h = absurd h
marks-on s path n (If e a b) (zero ∷ i ∷ x) r h = record { block = a; stands = h.1; same = ap (λ y. Branches ∷ marks_along a y) (sym h.2); at = h.3 }
marks-on s path n (If e a b) (suc zero ∷ []) r h = absurd h
marks-on s path n (If e a b) (suc zero ∷ i ∷ x) r h = record { block = b; stands = h.1; same = ap (λ y. Branches ∷ marks_along b y) (sym h.2); at = h.3 }
marks-on s path n (If e a b) (suc (suc k) ∷ x) r h = absurd h
marks-on s path n (Repeat m b) [] r h = absurd h
marks-on s path n (Repeat m b) (k ∷ []) r h = absurd h
marks-on s path n (Repeat m b) (k ∷ i ∷ x) r h = record { block = b; stands = h.1; same = ap (λ y. Follows ∷ marks_along b y) (sym h.2); at = h.3 }
marks-on s path n (Try a d b) [] r h = absurd h
marks-on s path n (Try a d b) (zero ∷ []) r h = absurd h
marks-on s path n (Try a d b) (zero ∷ i ∷ x) r h = record { block = a; stands = h.1; same = rw (eq-eqb r.number 0 h.0) (ap (λ y. Follows ∷ marks_along a y) (sym h.2)); at = h.3 }
marks-on s path n (Try a d b) (suc zero ∷ []) r h = absurd h
marks-on s path n (Try a d b) (suc zero ∷ i ∷ x) r h = record { block = b; stands = h.1; same = rw (ne_eqb r.number 0 (λ e. let f = h.0 in omega arith)) (ap (λ y. Branches ∷ marks_along b y) (sym h.2)); at = h.3 }
marks-on s path n (Try a d b) (suc (suc k) ∷ x) r h = absurd h
marks-on s path n _ x r h = absurd h
