use Rattle.std.proofs.Common.{◌≡◌, ◌∙◌, ℕ, zero, suc, pos, ◌<◌, ◌^◌, List, [], ◌∷◌, map, length, Some, None, slice_get, refl, ap, sym, subst, arith}
use Rattle.rx_rules.proofs.Common.{Block, Nothing, Then, Num, Print}
use Rattle.rx_syntax.specs.declared.nodes.StmtId.{StmtId}
use Rattle.rx_syntax.specs.declared.nodes.Expr.{Expr as Part}
use Rattle.rx_syntax.specs.declared.nodes.Expr.TheVariants.{Num as NumPart}
use Rattle.rx_syntax.specs.declared.nodes.Stmt.{Stmt as Node}
use Rattle.rx_syntax.specs.declared.nodes.Stmt.TheVariants.{Print as PrintNode}
use Rattle.rx_syntax.specs.Shape.{Shape, IsSmall}
use Rattle.rx_syntax.specs.Whole.{IsWhole}
use Rattle.tests_of_runs.proofs.span.script.Goals as goal

-- print 1; print 2;
abbrev two : Block
two = Then (Print (Num (pos 1))) (Then (Print (Num (pos 2))) Nothing)

abbrev stmts : List Node
stmts = PrintNode (record { 0 = 0 }) ∷ PrintNode (record { 0 = 1 }) ∷ []

abbrev exprs : List Part
exprs = NumPart (pos 1) ∷ NumPart (pos 2) ∷ []

abbrev ids : List StmtId
ids = record { 0 = 0 } ∷ record { 0 = 1 } ∷ []

abbrev shape : List Node → List Part → List (List StmtId) → List (List ℕ) → Shape
shape a b k n = record { stmts = a; exprs = b; blocks = k; names = n; top = record { 0 = 0 } }

small : IsSmall (ids ∷ [])
small zero l e = subst (λ (l : List StmtId). length l < 2 ^ 32) (ap (λ o. elim o [ Some x ↦ x | None ↦ [] ]) e) (omega arith)
small (suc k) l e = absurd (let f : ⊥ = cc in f)

is_whole : IsWhole (shape stmts exprs (ids ∷ []) [])
is_whole =
    record {
      small = small;
      tree = two;
      stands = (ids, refl, ((PrintNode (record { 0 = 0 }), refl, refl), ((PrintNode (record { 0 = 1 }), refl, refl), tt)));
      fits = (tt, (tt, tt));
      names = record { are_names = λ i name e. absurd (let f : ⊥ = cc in f); distinct = λ i j name e f. absurd (let f : ⊥ = cc in f); in_order = refl };
      spelled = (omega arith, (omega arith, tt));
    }

as_whole : (a : List Node) (b : List Part) (k : List (List StmtId)) (n : List (List ℕ)) → a ≡ stmts → b ≡ exprs → k ≡ ids ∷ [] → n ≡ [] → IsWhole (shape a b k n)
as_whole a b k n e f g h =
    subst (λ (a : List Node). IsWhole (shape a b k n)) (sym e) (
    subst (λ (b : List Part). IsWhole (shape stmts b k n)) (sym f) (
    subst (λ (k : List (List StmtId)). IsWhole (shape stmts exprs k n)) (sym g) (
    subst (λ (n : List (List ℕ)). IsWhole (shape stmts exprs (ids ∷ []) n)) (sym h) is_whole)))

pub new-script-requires : goal.new-script-requires
new-script-requires c =
    as_whole c.in_ok-vec.field-0.items c.in_ok-vec-2.field-0.items (map (λ b. b.items) c.in_ok-vec-4.field-0.items) (map (λ n. n.items) c.new.result.items) c.in_ok-vec.ensures.items c.in_ok-vec-2.ensures.items
    (ap (map (λ b. b.items)) c.in_ok-vec-4.ensures.items ∙ ap (λ x. x ∷ []) c.in_ok-vec-3.ensures.items)
    (ap (map (λ n. n.items)) c.new.ensures.items)
