-- The nodes of the lines, by their numbers, stand for the lines.
use Rattle.std.proofs.Common.{Vec, map, ◌≡◌, ℕ, ◌+◌, ◌-◌, ◌*◌, ◌%◌, ◌^◌, ◌<◌, ◌≤◌, zero, suc, pos, true, List, [], ◌∷◌, ◌++◌, length, Some, slice_get, refl, arith, ap, sym, ◌∙◌, subst, append_assoc, append-nil, length-append}
use Rattle.std.specs.Global.{Global}
use Rattle.std.proofs.lemmas.Option.{same_Some}
use Rattle.std.proofs.lemmas.List.{map-append}
use Rattle.rx_base.proofs.Elements.{get-more, get-last}
use Rattle.rx_rules.proofs.Common.{Block, Nothing, Then}
use Rattle.rx_syntax.specs.declared.nodes.StmtId.{StmtId}
use Rattle.rx_syntax.specs.declared.nodes.Expr.{Expr as Part}
use Rattle.rx_syntax.specs.declared.nodes.Expr.TheVariants.{Num as NumPart}
use Rattle.rx_syntax.specs.declared.nodes.Stmt.{Stmt as Node}
use Rattle.rx_syntax.specs.declared.nodes.Stmt.TheVariants.{Print as PrintNode, AtAsync as AtAsyncNode, Finish as FinishNode, Try as TryNode}
use Rattle.rx_syntax.specs.Shape.{Shape, IsSmall, StmtIs, ListStands, Stands}
use Rattle.rx_syntax.specs.Arenas.{shape_from}
use Rattle.rx_syntax.specs.Whole.{IsWhole}
use Rattle.rx_syntax.specs.Grammar.{spellings}
use Rattle.rx_syntax.specs.Tokens.{AreNames}
use Rattle.rx_gen.specs.Lines.{line, lines_from, lines}
use Rattle.rx_gen.proofs.Spelled.{all-fit, are-names, spelled}

-- the lists of the numbers below n, one behind the other
abbrev pub pieces : {A : Type 0} (f : ℕ → List A) → ℕ → List A
pieces f zero = []
pieces f (suc n) = pieces f n ++ f n

pub piece-more : {A : Type 0} (f : ℕ → List A) (i m : ℕ) (old now : List A) → m ≡ i + 1 → old ≡ pieces f i → now ≡ old ++ f i → now ≡ pieces f m
piece-more f i zero old now h so_far is = absurd (omega (arith, h))
piece-more f i (suc m) old now h so_far is =
    let same : i ≡ m = omega (arith, h) in
    is ∙ ap (λ xs. xs ++ f i) so_far ∙ ap (λ j. pieces f j ++ f j) same

get-behind : {A : Type 0} (xs ys : List A) (j k : ℕ) → j ≡ length xs + k → slice_get (xs ++ ys) j ≡ slice_get ys k
get-behind [] ys j k h = ap (slice_get ys) (omega (arith, h))
get-behind (x ∷ xs) ys zero k h = absurd (omega (arith, h))
get-behind (x ∷ xs) ys (suc j) k h = get-behind xs ys j k (omega (arith, h))

-- what a number's list has at a place
at-piece : {A : Type 0} (f : ℕ → List A) (i n d j k : ℕ) (x : A) → n ≡ i + 1 + d → j ≡ length (pieces f i) + k → slice_get (f i) k ≡ Some x → slice_get (pieces f n) j ≡ Some x
at-piece f i zero d j k x h p e = absurd (omega (arith, h))
at-piece f i (suc m) zero j k x h p e =
    let same : i ≡ m = omega (arith, h) in
    subst (λ (m : ℕ). slice_get (pieces f m ++ f m) j ≡ Some x) same (get-behind (pieces f i) (f i) j k p ∙ e)
at-piece f i (suc m) (suc d) j k x h p e = get-more (pieces f m) (f m) j x (at-piece f i m d j k x (omega (arith, h)) p e)

-- the expressions, the statements and the blocks of a line, and the statement that it is
abbrev pub parts_of : ℕ → ℕ → List Part
parts_of q i = NumPart (pos (i % q)) ∷ NumPart (pos ((i + 1) % q)) ∷ NumPart (pos i) ∷ []

abbrev pub nodes_of : ℕ → List Node
nodes_of i =
    PrintNode (record { 0 = 3 * i + 2 }) ∷ AtAsyncNode (record { 0 = 3 * i + 1 }) (record { 0 = 5 * i })
    ∷ AtAsyncNode (record { 0 = 3 * i }) (record { 0 = 5 * i + 1 }) ∷ FinishNode (record { 0 = 5 * i + 2 })
    ∷ TryNode (record { 0 = 5 * i + 3 }) true (record { 0 = 5 * i + 4 }) ∷ []

abbrev pub blocks_of : ℕ → List (List StmtId)
blocks_of i =
    (record { 0 = 5 * i } ∷ []) ∷ (record { 0 = 5 * i + 1 } ∷ []) ∷ (record { 0 = 5 * i + 2 } ∷ []) ∷ (record { 0 = 5 * i + 3 } ∷ []) ∷ [] ∷ []

abbrev pub tops_from : ℕ → ℕ → List StmtId
tops_from i zero = []
tops_from i (suc n) = record { 0 = 5 * i + 4 } ∷ tops_from (i + 1) n

pub tops-more : (n i : ℕ) (old out next : List StmtId) → i < n → out ++ tops_from i (n - i) ≡ old → next ≡ out ++ record { 0 = 5 * i + 4 } ∷ [] → next ++ tops_from (i + 1) (n - (i + 1)) ≡ old
tops-more n i old out next below whole is =
    let left : n - i ≡ suc (n - (i + 1)) = omega (arith, below) in
    ap (λ o. o ++ tops_from (i + 1) (n - (i + 1))) is ∙ append_assoc out (record { 0 = 5 * i + 4 } ∷ []) (tops_from (i + 1) (n - (i + 1)))
    ∙ ap (λ m. out ++ tops_from i m) (sym left) ∙ whole

length-parts : (q n : ℕ) → length (pieces (parts_of q) n) ≡ 3 * n
length-parts q zero = refl
length-parts q (suc n) = omega (arith, length-append (pieces (parts_of q) n) (parts_of q n), length-parts q n)

length-nodes : (n : ℕ) → length (pieces nodes_of n) ≡ 5 * n
length-nodes zero = refl
length-nodes (suc n) = omega (arith, length-append (pieces nodes_of n) (nodes_of n), length-nodes n)

length-blocks : (n : ℕ) → length (pieces blocks_of n) ≡ 5 * n
length-blocks zero = refl
length-blocks (suc n) = omega (arith, length-append (pieces blocks_of n) (blocks_of n), length-blocks n)

length-tops : (i n : ℕ) → length (tops_from i n) ≡ n
length-tops i zero = refl
length-tops i (suc n) = ap suc (length-tops (i + 1) n)

-- the nodes of n lines over q places
pub record HoldsLines (q n : ℕ) (s : Shape) : Type 0 where
  pub stmts : s.stmts ≡ pieces nodes_of n
  pub exprs : s.exprs ≡ pieces (parts_of q) n
  pub blocks : s.blocks ≡ pieces blocks_of n ++ tops_from 0 n ∷ []
  pub top : s.top.0 ≡ 5 * n

-- the lists when all lines were put down, and the block of the whole behind the others
pub put-down : (q n i : ℕ) (stmts : Vec Node Global) (exprs : Vec Part Global) (before : List (Vec StmtId Global)) (tops : Vec StmtId Global) (blocks : Vec (Vec StmtId Global) Global) (names : Vec (Vec ℕ Global) Global)
    → i ≡ n → stmts.items ≡ pieces nodes_of i → exprs.items ≡ pieces (parts_of q) i → map (λ b. b.items) before ≡ pieces blocks_of i
    → tops.items ++ tops_from i (n - i) ≡ tops_from 0 n → blocks.items ≡ before ++ tops ∷ []
    → HoldsLines q n (shape_from stmts exprs blocks names (record { 0 = 5 * n }))
put-down q n i stmts exprs before tops blocks names e a b d t p =
    let none : 0 ≡ n - i = omega (arith, e) in
    let all : tops.items ≡ tops_from 0 n = sym (append-nil tops.items) ∙ ap (λ m. tops.items ++ tops_from i m) none ∙ t in
    record {
      stmts = a ∙ ap (pieces nodes_of) e;
      exprs = b ∙ ap (pieces (parts_of q)) e;
      blocks = ap (map (λ b. b.items)) p ∙ map-append _ _ _ ∙ ap (λ ids. ids ++ tops.items ∷ []) (d ∙ ap (pieces blocks_of) e) ∙ ap (λ ids. pieces blocks_of n ++ ids ∷ []) all;
      top = refl;
    }

part-at : (q n i j k : ℕ) (s : Shape) (x : Part) → HoldsLines q n s → i < n → j ≡ 3 * i + k → slice_get (parts_of q i) k ≡ Some x → slice_get s.exprs j ≡ Some x
part-at q n i j k s x d h p e =
    ap (λ xs. slice_get xs j) d.exprs ∙ at-piece (parts_of q) i n (n - (i + 1)) j k x (omega (arith, h)) (omega (arith, p, length-parts q i)) e

node-at : (q n i j k : ℕ) (s : Shape) (x : Node) → HoldsLines q n s → i < n → j ≡ 5 * i + k → slice_get (nodes_of i) k ≡ Some x → slice_get s.stmts j ≡ Some x
node-at q n i j k s x d h p e =
    ap (λ xs. slice_get xs j) d.stmts ∙ at-piece nodes_of i n (n - (i + 1)) j k x (omega (arith, h)) (omega (arith, p, length-nodes i)) e

block-at : (q n i j k : ℕ) (s : Shape) (x : List StmtId) → HoldsLines q n s → i < n → j ≡ 5 * i + k → slice_get (blocks_of i) k ≡ Some x → slice_get s.blocks j ≡ Some x
block-at q n i j k s x d h p e =
    ap (λ xs. slice_get xs j) d.blocks
    ∙ get-more (pieces blocks_of n) (tops_from 0 n ∷ []) j x (at-piece blocks_of i n (n - (i + 1)) j k x (omega (arith, h)) (omega (arith, p, length-blocks i)) e)

line-stands : (q n i : ℕ) (s : Shape) → HoldsLines q n s → i < n → StmtIs s (TryNode (record { 0 = 5 * i + 3 }) true (record { 0 = 5 * i + 4 })) (line q i)
line-stands q n i s d h = (
  record { 0 = 5 * i + 3 } ∷ [],
  block-at q n i (5 * i + 3) 3 s _ d h refl refl,
  (
    (
      FinishNode (record { 0 = 5 * i + 2 }),
      node-at q n i (5 * i + 3) 3 s _ d h refl refl,
      (
        record { 0 = 5 * i + 2 } ∷ [],
        block-at q n i (5 * i + 2) 2 s _ d h refl refl,
        (
          (
            AtAsyncNode (record { 0 = 3 * i }) (record { 0 = 5 * i + 1 }),
            node-at q n i (5 * i + 2) 2 s _ d h refl refl,
            (
              record { 0 = 5 * i + 1 } ∷ [],
              block-at q n i (5 * i + 1) 1 s _ d h refl refl,
              (
                (
                  AtAsyncNode (record { 0 = 3 * i + 1 }) (record { 0 = 5 * i }),
                  node-at q n i (5 * i + 1) 1 s _ d h refl refl,
                  (
                    record { 0 = 5 * i } ∷ [],
                    block-at q n i (5 * i) 0 s _ d h (omega arith) refl,
                    (
                      (
                        PrintNode (record { 0 = 3 * i + 2 }),
                        node-at q n i (5 * i) 0 s _ d h (omega arith) refl,
                        part-at q n i (3 * i + 2) 2 s _ d h refl refl,
                      ),
                      tt,
                    ),
                    part-at q n i (3 * i + 1) 1 s _ d h refl refl,
                  ),
                ),
                tt,
              ),
              part-at q n i (3 * i) 0 s _ d h (omega arith) refl,
            ),
          ),
          tt,
        ),
      ),
    ),
    tt,
  ),
  ([], block-at q n i (5 * i + 4) 4 s _ d h refl refl, tt),
  refl,
)

lines-stand : (q n i m : ℕ) (s : Shape) → HoldsLines q n s → i + m ≤ n → ListStands s (tops_from i m) (lines_from q i m)
lines-stand q n i zero s d h = tt
lines-stand q n i (suc m) s d h =
    let below : i < n = omega (arith, h) in (
      (TryNode (record { 0 = 5 * i + 3 }) true (record { 0 = 5 * i + 4 }), node-at q n i (5 * i + 4) 4 s _ d below refl refl, line-stands q n i s d below),
      lines-stand q n (i + 1) m s d (omega (arith, h)),
    )

pub stands : (q n : ℕ) (s : Shape) → HoldsLines q n s → Stands s (lines q n)
stands q n s d = (
  tops_from 0 n,
  ap (λ xs. slice_get xs s.top.0) d.blocks ∙ get-last (pieces blocks_of n) (tops_from 0 n) s.top.0 (omega (arith, d.top, length-blocks n)),
  lines-stand q n 0 n s d (omega arith),
)

is-short : (ids jds : List StmtId) → length ids ≤ 10000 → Some ids ≡ Some jds → length jds < 2 ^ 32
is-short ids jds h e = let same : length ids ≡ length jds = ap length (same_Some ids jds e) in omega (arith, h, same)

small-none : IsSmall []
small-none k ids e = absurd (none k ids e)
  where
    none : (k : ℕ) (ids : List StmtId) → slice_get [] k ≡ Some ids → ⊥
    none k ids e = cc

small-before : (ids : List StmtId) (bs : List (List StmtId)) → length ids ≤ 10000 → IsSmall bs → IsSmall (ids ∷ bs)
small-before ids bs h hs zero jds e = is-short ids jds h e
small-before ids bs h hs (suc k) jds e = hs k jds e

small-both : (bs cs : List (List StmtId)) → IsSmall bs → IsSmall cs → IsSmall (bs ++ cs)
small-both [] cs hb hc k ids e = hc k ids e
small-both (b ∷ bs) cs hb hc zero ids e = hb zero ids e
small-both (b ∷ bs) cs hb hc (suc k) ids e = small-both bs cs (λ j. hb (suc j)) hc k ids e

small-line : (i : ℕ) → IsSmall (blocks_of i)
small-line i =
    let d : List (List StmtId) = (record { 0 = 5 * i + 3 } ∷ []) ∷ [] ∷ [] in
    let c : List (List StmtId) = (record { 0 = 5 * i + 2 } ∷ []) ∷ d in
    let b : List (List StmtId) = (record { 0 = 5 * i + 1 } ∷ []) ∷ c in
    let small-d : IsSmall d = small-before (record { 0 = 5 * i + 3 } ∷ []) ([] ∷ []) (omega arith) (small-before [] [] (omega arith) small-none) in
    let small-c : IsSmall c = small-before (record { 0 = 5 * i + 2 } ∷ []) d (omega arith) small-d in
    let small-b : IsSmall b = small-before (record { 0 = 5 * i + 1 } ∷ []) c (omega arith) small-c in
    small-before (record { 0 = 5 * i } ∷ []) b (omega arith) small-b

small-lines : (n : ℕ) → IsSmall (pieces blocks_of n)
small-lines zero = small-none
small-lines (suc n) = small-both (pieces blocks_of n) (blocks_of n) (small-lines n) (small-line n)

-- the nodes are a script
pub whole : (q n : ℕ) (s : Shape) → HoldsLines q n s → s.names ≡ [] → n ≤ 10000 → IsWhole s
whole q n s d none h = record {
  small = subst (λ (bs : List (List StmtId)). IsSmall bs) (sym d.blocks)
      (small-both (pieces blocks_of n) (tops_from 0 n ∷ []) (small-lines n) (small-before (tops_from 0 n) [] (omega (arith, length-tops 0 n, h)) small-none));
  tree = lines q n;
  stands = stands q n s d;
  fits = all-fit q 0 n;
  names = subst (λ (names : List (List ℕ)). AreNames names (spellings (lines q n))) (sym none) (are-names q n);
  spelled = spelled q 0 n (omega (arith, h));
}
