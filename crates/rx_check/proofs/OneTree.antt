-- A script stands for one block of statements alone.
use Rattle.std.proofs.Common.{◌≡◌, List, [], ◌∷◌, Some, refl, ap, sym, ◌∙◌, subst, slice_get}
use Rattle.std.proofs.lemmas.Option.{same_Some}
use Rattle.rx_rules.proofs.Common.{Expr, Num, Name, Here, Bin, Stmt, SetTo, New, Get, Put, Forget, Census, Print, Throw, Async, AtAsync, At, Finish, If, Repeat, Try, Block, Nothing, Then}
use Rattle.rx_syntax.specs.Shape.{Shape, ExprStands, StmtIs, ListStands, BlockStands, Stands, op_of}
use Rattle.rx_syntax.specs.declared.nodes.StmtId.{StmtId}
use Rattle.rx_syntax.specs.declared.nodes.ExprId.{ExprId}
use Rattle.rx_syntax.specs.declared.nodes.BlockId.{BlockId}
use Rattle.rx_syntax.specs.declared.nodes.Expr.{Expr as Part}
use Rattle.rx_syntax.specs.declared.nodes.Expr.TheVariants.{Num as NumPart, Name as NamePart, Here as HerePart, Bin as BinPart}
use Rattle.rx_syntax.specs.declared.nodes.Stmt.{Stmt as Node}
use Rattle.rx_syntax.specs.declared.nodes.Stmt.TheVariants.{Set as SetNode, New as NewNode, Get as GetNode, Put as PutNode, Forget as ForgetNode, Census as CensusNode, Print as PrintNode, Throw as ThrowNode, Async as AsyncNode, AtAsync as AtAsyncNode, At as AtNode, Finish as FinishNode, If as IfNode, Repeat as RepeatNode, Try as TryNode}
use Rattle.rx_check.proofs.Exprs.{part-is}

expr-one : (es : List Part) (i : ExprId) (e f : Expr) → ExprStands es i e → ExprStands es i f → e ≡ f
expr-one es i (Num z) f h k = sym (part-is es i (NumPart z) f h k)
expr-one es i (Name n) f h k = ap (λ m. Name m) h.2 ∙ sym (part-is es i (NamePart h.0) f h.1 k)
expr-one es i Here f h k = sym (part-is es i HerePart f h k)
expr-one es i (Bin op l r) f h k =
    let q = part-is es i (BinPart h.0 h.1 h.2) f h.3 k in
    ap (λ o. Bin o l r) h.4 ∙ (ap (λ x. Bin (op_of h.0) x r) (expr-one es h.1 l q.0 h.7 q.5) ∙ (ap (λ x. Bin (op_of h.0) q.0 x) (expr-one es h.2 r q.1 h.8 q.6) ∙ sym q.2))

-- what a node stands for, by the node
abbrev pub NodeIs : Shape → Node → Stmt → Type 0
NodeIs s (SetNode name value) t = (e : Expr) × (t ≡ SetTo name.0 e) × ExprStands s.exprs value e
NodeIs s (NewNode name words) t = t ≡ New name.0 words
NodeIs s (GetNode name target index) t = (e : Expr) × (t ≡ Get name.0 target.0 e) × ExprStands s.exprs index e
NodeIs s (PutNode target index value) t = (e : Expr) × (f : Expr) × (t ≡ Put target.0 e f) × ExprStands s.exprs index e × ExprStands s.exprs value f
NodeIs s (ForgetNode target) t = t ≡ Forget target.0
NodeIs s (CensusNode name) t = t ≡ Census name.0
NodeIs s (PrintNode value) t = (e : Expr) × (t ≡ Print e) × ExprStands s.exprs value e
NodeIs s (ThrowNode value) t = (e : Expr) × (t ≡ Throw e) × ExprStands s.exprs value e
NodeIs s (AsyncNode body) t = (b : Block) × (t ≡ Async b) × BlockStands s body b
NodeIs s (AtAsyncNode place body) t = (e : Expr) × (b : Block) × (t ≡ AtAsync e b) × ExprStands s.exprs place e × BlockStands s body b
NodeIs s (AtNode place body) t = (e : Expr) × (b : Block) × (t ≡ At e b) × ExprStands s.exprs place e × BlockStands s body b
NodeIs s (FinishNode body) t = (b : Block) × (t ≡ Finish b) × BlockStands s body b
NodeIs s (IfNode test first other) t = (e : Expr) × (a : Block) × (b : Block) × (t ≡ If e a b) × ExprStands s.exprs test e × BlockStands s first a × BlockStands s other b
NodeIs s (RepeatNode times body) t = (b : Block) × (t ≡ Repeat times b) × BlockStands s body b
NodeIs s (TryNode body dead_only handler) t = (a : Block) × (b : Block) × (t ≡ Try a dead_only b) × BlockStands s body a × BlockStands s handler b

node-is : (s : Shape) (node : Node) (t : Stmt) → StmtIs s node t → NodeIs s node t
node-is s (SetNode name value) (SetTo n e) h = (e, ap (λ m. SetTo m e) h.0, h.1)
node-is s (NewNode name words) (New n w) h = ap (λ m. New m w) h.0 ∙ ap (New name.0) h.1
node-is s (GetNode name target index) (Get n t e) h = (e, ap (λ m. Get m t e) h.0 ∙ ap (λ m. Get name.0 m e) h.1, h.2)
node-is s (PutNode target index value) (Put t e f) h = (e, f, ap (λ m. Put m e f) h.0, h.1, h.2)
node-is s (ForgetNode target) (Forget t) h = ap (λ m. Forget m) h
node-is s (CensusNode name) (Census n) h = ap (λ m. Census m) h
node-is s (PrintNode value) (Print e) h = (e, refl, h)
node-is s (ThrowNode value) (Throw e) h = (e, refl, h)
node-is s (AsyncNode body) (Async b) h = (b, refl, (h.0, h.1, h.2))
node-is s (AtAsyncNode place body) (AtAsync e b) h = (e, b, refl, h.3, (h.0, h.1, h.2))
node-is s (AtNode place body) (At e b) h = (e, b, refl, h.3, (h.0, h.1, h.2))
node-is s (FinishNode body) (Finish b) h = (b, refl, (h.0, h.1, h.2))
node-is s (IfNode test first other) (If e a b) h = (e, a, b, refl, h.4, (h.0, h.1, h.2), h.3)
node-is s (RepeatNode times body) (Repeat n b) h = (b, ap (λ m. Repeat m b) h.3, (h.0, h.1, h.2))
node-is s (TryNode body dead_only handler) (Try a d b) h = (a, b, ap (λ x. Try a x b) h.4, (h.0, h.1, h.2), h.3)
node-is s _ _ h = absurd h

same-list : (s : Shape) (k : BlockId) (ids : List StmtId) (u : Block) → slice_get s.blocks k.0 ≡ Some ids → BlockStands s k u → ListStands s ids u
same-list s k ids u e h = subst (λ (js : List StmtId). ListStands s js u) (same_Some h.0 ids (sym h.1 ∙ e)) h.2

mutual
  stmt-one : (s : Shape) (node : Node) (t u : Stmt) → StmtIs s node t → NodeIs s node u → t ≡ u
  stmt-one s (SetNode name value) (SetTo n e) u h k = ap (λ m. SetTo m e) h.0 ∙ (ap (SetTo name.0) (expr-one s.exprs value e k.0 h.1 k.2) ∙ sym k.1)
  stmt-one s (NewNode name words) (New n w) u h k = ap (λ m. New m w) h.0 ∙ (ap (New name.0) h.1 ∙ sym k)
  stmt-one s (GetNode name target index) (Get n t e) u h k = ap (λ m. Get m t e) h.0 ∙ (ap (λ m. Get name.0 m e) h.1 ∙ (ap (Get name.0 target.0) (expr-one s.exprs index e k.0 h.2 k.2) ∙ sym k.1))
  stmt-one s (PutNode target index value) (Put t e f) u h k =
      ap (λ m. Put m e f) h.0 ∙ (ap (λ x. Put target.0 x f) (expr-one s.exprs index e k.0 h.1 k.3) ∙ (ap (Put target.0 k.0) (expr-one s.exprs value f k.1 h.2 k.4) ∙ sym k.2))
  stmt-one s (ForgetNode target) (Forget t) u h k = ap (λ m. Forget m) h ∙ sym k
  stmt-one s (CensusNode name) (Census n) u h k = ap (λ m. Census m) h ∙ sym k
  stmt-one s (PrintNode value) (Print e) u h k = ap (λ x. Print x) (expr-one s.exprs value e k.0 h k.2) ∙ sym k.1
  stmt-one s (ThrowNode value) (Throw e) u h k = ap (λ x. Throw x) (expr-one s.exprs value e k.0 h k.2) ∙ sym k.1
  stmt-one s (AsyncNode body) (Async b) u h k = ap (λ x. Async x) (list-one s h.0 b k.0 h.2 (same-list s body h.0 k.0 h.1 k.2)) ∙ sym k.1
  stmt-one s (AtAsyncNode place body) (AtAsync e b) u h k =
      ap (λ x. AtAsync x b) (expr-one s.exprs place e k.0 h.3 k.3) ∙ (ap (AtAsync k.0) (list-one s h.0 b k.1 h.2 (same-list s body h.0 k.1 h.1 k.4)) ∙ sym k.2)
  stmt-one s (AtNode place body) (At e b) u h k =
      ap (λ x. At x b) (expr-one s.exprs place e k.0 h.3 k.3) ∙ (ap (At k.0) (list-one s h.0 b k.1 h.2 (same-list s body h.0 k.1 h.1 k.4)) ∙ sym k.2)
  stmt-one s (FinishNode body) (Finish b) u h k = ap (λ x. Finish x) (list-one s h.0 b k.0 h.2 (same-list s body h.0 k.0 h.1 k.2)) ∙ sym k.1
  stmt-one s (IfNode test first other) (If e a b) u h k =
      ap (λ x. If x a b) (expr-one s.exprs test e k.0 h.4 k.4)
      ∙ (ap (λ x. If k.0 x b) (list-one s h.0 a k.1 h.2 (same-list s first h.0 k.1 h.1 k.5))
      ∙ (ap (If k.0 k.1) (list-one s h.3.0 b k.2 h.3.2 (same-list s other h.3.0 k.2 h.3.1 k.6)) ∙ sym k.3))
  stmt-one s (RepeatNode times body) (Repeat n b) u h k =
      ap (λ m. Repeat m b) h.3 ∙ (ap (Repeat times) (list-one s h.0 b k.0 h.2 (same-list s body h.0 k.0 h.1 k.2)) ∙ sym k.1)
  stmt-one s (TryNode body dead_only handler) (Try a d b) u h k =
      ap (λ x. Try a x b) h.4
      ∙ (ap (λ x. Try x dead_only b) (list-one s h.0 a k.0 h.2 (same-list s body h.0 k.0 h.1 k.3))
      ∙ (ap (Try k.0 dead_only) (list-one s h.3.0 b k.1 h.3.2 (same-list s handler h.3.0 k.1 h.3.1 k.4)) ∙ sym k.2))
  stmt-one s _ _ u h k = absurd h

  list-one : (s : Shape) (ids : List StmtId) (t u : Block) → ListStands s ids t → ListStands s ids u → t ≡ u
  list-one s [] Nothing Nothing h k = refl
  list-one s [] Nothing (Then u us) h k = absurd k
  list-one s (i ∷ ids) Nothing u h k = absurd h
  list-one s [] (Then t ts) u h k = absurd h
  list-one s (i ∷ ids) (Then t ts) Nothing h k = absurd k
  list-one s (i ∷ ids) (Then t ts) (Then u us) h k =
      let P : Node → Type 0 = λ m. StmtIs s m u in
      let is : StmtIs s h.0.0 u = subst P (same_Some k.0.0 h.0.0 (sym k.0.1 ∙ h.0.1)) k.0.2 in
      ap (λ x. Then x ts) (stmt-one s h.0.0 t u h.0.2 (node-is s h.0.0 u is)) ∙ ap (Then u) (list-one s ids ts us h.1 k.1)

pub one-tree : (s : Shape) (t u : Block) → Stands s t → Stands s u → t ≡ u
one-tree s t u h k = list-one s h.0 t u h.2 (same-list s s.top h.0 u h.1 k)
