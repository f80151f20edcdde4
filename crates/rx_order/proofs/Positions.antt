-- Positions in lists and in blocks.
use Rattle.std.proofs.Common.{◌≡◌, ℕ, zero, suc, ◌<◌, ◌≤◌, false, List, [], ◌∷◌, length, refl, ap, sym, ◌∙◌, subst, arith, Option, Some, None, IfSome, slice_get}
use Rattle.std.proofs.lemmas.Option.{slice_get_within, same_Some}
use Rattle.rx_rules.proofs.Common.{Stmt, Block, Nothing, Then, is_kept, is_kept_in, before_inside, is_before_in}
use Rattle.rx_syntax.specs.Shape.{Shape, StmtIs, ListStands, BlockStands}
use Rattle.rx_syntax.specs.declared.nodes.StmtId.{StmtId}
use Rattle.rx_syntax.specs.declared.nodes.BlockId.{BlockId}
use Rattle.rx_syntax.specs.declared.nodes.Stmt.{Stmt as Node}
use Rattle.rx_order.specs.Inside.Parts.{item_of}

-- the statement at a position of a block
pub record Held (s : Shape) (b : Block) (i : ℕ) (id : StmtId) : Type 0 where
  pub node : Node
  pub there : slice_get s.stmts id.0 ≡ Some node
  pub stmt : Stmt
  pub is : StmtIs s node stmt
  pub at : item_of b i ≡ Some stmt

held : (s : Shape) (ids : List StmtId) (b : Block) (i : ℕ) (id : StmtId) → ListStands s ids b → slice_get ids i ≡ Some id → Held s b i id
held s [] b i id h e = cc
held s (j ∷ ids) Nothing i id h e = absurd h
held s (j ∷ ids) (Then t ts) zero id h e =
    let P : StmtId → Type 0 = λ j. (node : Node) × (slice_get s.stmts j.0 ≡ Some node) × StmtIs s node t in
    let k = subst P (same_Some j id e) h.0 in
    record { node = k.0; there = k.1; stmt = t; is = k.2; at = refl }
held s (j ∷ ids) (Then t ts) (suc i) id h e =
    let k = held s ids ts i id h.1 e in
    record { node = k.node; there = k.there; stmt = k.stmt; is = k.is; at = k.at }

pub block-held : (s : Shape) (k : BlockId) (b : Block) (i : ℕ) (id : StmtId) → BlockStands s k b → IfSome (slice_get s.blocks k.0) (λ ids. slice_get ids i ≡ Some id) → Held s b i id
block-held s k b i id h f =
    let P : Option (List StmtId) → Type 0 = λ o. IfSome o (λ ids. slice_get ids i ≡ Some id) in
    held s h.0 b i id h.2 (subst P h.1 f)

pub held-within : (s : Shape) (b : Block) (i : ℕ) (id : StmtId) → Held s b i id → id.0 < length s.stmts
held-within s b i id h = slice_get_within s.stmts id.0 h.node h.there

pub held-is : (s : Shape) (b : Block) (i : ℕ) (id : StmtId) (node : Node) → slice_get s.stmts id.0 ≡ Some node → Held s b i id → (t : Stmt) × StmtIs s node t × (item_of b i ≡ Some t)
held-is s b i id node e h =
    let P : Node → Type 0 = λ n. StmtIs s n h.stmt in
    (h.stmt, subst P (same_Some h.node node (sym h.there ∙ e)) h.is, h.at)

past : (s : Shape) (ids : List StmtId) (b : Block) (i : ℕ) → ListStands s ids b → length ids ≤ i → item_of b i ≡ None
past s [] Nothing i h e = refl
past s [] (Then t ts) i h e = absurd h
past s (j ∷ ids) Nothing i h e = absurd h
past s (j ∷ ids) (Then t ts) zero h e = absurd (omega (arith, e))
past s (j ∷ ids) (Then t ts) (suc i) h e = past s ids ts i h.1 (omega (arith, e))

pub block-past : (s : Shape) (k : BlockId) (b : Block) (i len : ℕ) → BlockStands s k b → IfSome (slice_get s.blocks k.0) (λ ids. len ≡ length ids) → len ≤ i → item_of b i ≡ None
block-past s k b i len h f e =
    let P : Option (List StmtId) → Type 0 = λ o. IfSome o (λ ids. len ≡ length ids) in
    let l : len ≡ length h.0 = subst P h.1 f in
    past s h.0 b i h.2 (omega (arith, l, e))

-- the two walks at the statement of a position
pub kept-none : (b : Block) (i : ℕ) (x : List ℕ) → item_of b i ≡ None → is_kept_in b i x ≡ false
kept-none Nothing i x e = refl
kept-none (Then t ts) zero x e = cc
kept-none (Then t ts) (suc i) x e = kept-none ts i x e

pub kept-some : (b : Block) (i : ℕ) (x : List ℕ) (t : Stmt) → item_of b i ≡ Some t → is_kept_in b i x ≡ is_kept t x
kept-some Nothing i x t e = cc
kept-some (Then u us) zero x t e = ap (λ v. is_kept v x) (same_Some u t e)
kept-some (Then u us) (suc i) x t e = kept-some us i x t e

pub before-none : (b : Block) (i : ℕ) (x y : List ℕ) → item_of b i ≡ None → is_before_in b i x i y ≡ false
before-none Nothing i x y e = refl
before-none (Then t ts) zero x y e = cc
before-none (Then t ts) (suc i) x y e = before-none ts i x y e

pub before-some : (b : Block) (i : ℕ) (x y : List ℕ) (t : Stmt) → item_of b i ≡ Some t → is_before_in b i x i y ≡ before_inside t x y
before-some Nothing i x y t e = cc
before-some (Then u us) zero x y t e = ap (λ v. before_inside v x y) (same_Some u t e)
before-some (Then u us) (suc i) x y t e = before-some us i x y t e

pub before-less : (b : Block) (i : ℕ) (x : List ℕ) (j : ℕ) (y : List ℕ) → i < j → is_before_in b i x j y ≡ is_kept_in b i x
before-less Nothing i x j y e = refl
before-less (Then t ts) zero x zero y e = absurd (omega (arith, e))
before-less (Then t ts) zero x (suc j) y e = refl
before-less (Then t ts) (suc i) x zero y e = absurd (omega (arith, e))
before-less (Then t ts) (suc i) x (suc j) y e = before-less ts i x j y (omega (arith, e))

pub before-more : (b : Block) (i : ℕ) (x : List ℕ) (j : ℕ) (y : List ℕ) → j < i → is_before_in b i x j y ≡ false
before-more Nothing i x j y e = refl
before-more (Then t ts) zero x zero y e = absurd (omega (arith, e))
before-more (Then t ts) zero x (suc j) y e = absurd (omega (arith, e))
before-more (Then t ts) (suc i) x zero y e = refl
before-more (Then t ts) (suc i) x (suc j) y e = before-more ts i x j y (omega (arith, e))
