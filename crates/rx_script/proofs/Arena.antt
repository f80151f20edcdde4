-- How the arenas of a reader stand for the state of the machine, as they grow.
use Rattle.std.proofs.Common.{◌≡◌, ◌⊎◌, inl, inr, ℕ, zero, suc, ◌+◌, ◌<◌, ◌≤◌, ◌^◌, List, [], ◌∷◌, ◌++◌, length, take, drop, refl, ap, sym, ◌∙◌, subst, arith, append_assoc, append-nil, length-append, length-take, map, Vec, Global, Some, slice_get, Result, Ok, Err, OnOk}
use Rattle.std.proofs.lemmas.List.{same_from_push, length-drop}
use Rattle.std.proofs.lemmas.Option.{same_Some}
use Rattle.std.proofs.Math.Seq.{take-append_seam, drop-append_seam}
use Rattle.rx_base.proofs.Elements.{get-last, more-at}
use Rattle.rx_rules.proofs.Common.{Expr, Num, Name, Here, Bin, Stmt, SetTo, New, Get, Put, Forget, Census, Print, Throw, Async, AtAsync, At, Finish, If, Repeat, Try, Block, Nothing, Then}
use Rattle.rx_syntax.specs.Shape.{Shape, IsSmall, ExprStands, StmtIs, ListStands, BlockStands}
use Rattle.rx_script.specs.Inside.Items.{Opener, ByAsync, ByAtAsync, ByAt, ByFinish, ByIf, ByRepeat, ByTry, Whole, Close}
use Rattle.rx_script.specs.Inside.Machine.{added, Frame, Fore, Other, Handler, Waits, Free, ForElse, ForCatch, BlocksRead, free, ended, item_stepped}
use Rattle.rx_script.specs.Inside.Pieces.{Grows, only, OpenerStands}
use Rattle.rx_script.specs.Inside.Arena.{OwnerStands, WaitingStands, Framed, ReaderHolds, Takes, Adds, Opens, Shuts, BeginsWait, BlockMakes, GrowsByOne, blocks_of, shape_of}
use Rattle.rx_script.specs.declared.items.Opener.{Opener as Front}
use Rattle.rx_script.specs.declared.items.Opener.TheVariants as fronts
use Rattle.rx_script.specs.declared.items.Item.TheVariants as pieces
use Rattle.rx_syntax.specs.declared.nodes.StmtId.{StmtId}
use Rattle.rx_syntax.specs.declared.nodes.ExprId.{ExprId}
use Rattle.rx_syntax.specs.declared.nodes.BlockId.{BlockId}
use Rattle.rx_syntax.specs.declared.nodes.Expr.{Expr as Part}
use Rattle.rx_syntax.specs.declared.nodes.Stmt.{Stmt as Node}
use Rattle.rx_syntax.specs.declared.nodes.Stmt.TheVariants.{Set as SetNode, New as NewNode, Get as GetNode, Put as PutNode, Forget as ForgetNode, Census as CensusNode, Print as PrintNode, Throw as ThrowNode, Async as AsyncNode, AtAsync as AtAsyncNode, At as AtNode, Finish as FinishNode, If as IfNode, Repeat as RepeatNode, Try as TryNode}
use Rattle.rx_script.specs.declared.reader.Owner.{Owner}
use Rattle.rx_script.specs.declared.reader.Owner.TheVariants as owners
use Rattle.rx_script.specs.declared.reader.Opened.{Opened}
use Rattle.rx_script.specs.declared.reader.Waiting.{Waiting}
use Rattle.rx_script.specs.declared.reader.Waiting.TheVariants as waitings
use Rattle.rx_script.specs.declared.reader.Reader.{Reader}

-- all that stood in the one still stands in the other
pub record Extends (s t : Shape) : Type 0 where
  pub stmts : (i : ℕ) (x : Node) → slice_get s.stmts i ≡ Some x → slice_get t.stmts i ≡ Some x
  pub exprs : (i : ℕ) (x : Part) → slice_get s.exprs i ≡ Some x → slice_get t.exprs i ≡ Some x
  pub blocks : (i : ℕ) (x : List StmtId) → slice_get s.blocks i ≡ Some x → slice_get t.blocks i ≡ Some x

pub extends-by : (s t : Shape) (xs : List Node) (ys : List Part) (zs : List (List StmtId)) → t.stmts ≡ s.stmts ++ xs → t.exprs ≡ s.exprs ++ ys → t.blocks ≡ s.blocks ++ zs → Extends s t
extends-by s t xs ys zs a b d = record {
  stmts = more-at s.stmts xs t.stmts a;
  exprs = more-at s.exprs ys t.exprs b;
  blocks = more-at s.blocks zs t.blocks d;
}

pub expr-grows : (s t : Shape) → Extends s t → (i : ExprId) (e : Expr) → ExprStands s.exprs i e → ExprStands t.exprs i e
expr-grows s t x i (Num n) h = x.exprs _ _ h
expr-grows s t x i (Name n) h = (h.0, x.exprs _ _ h.1, h.2)
expr-grows s t x i Here h = x.exprs _ _ h
expr-grows s t x i (Bin o a b) h = (h.0, h.1, h.2, x.exprs _ _ h.3, h.4, h.5, h.6, expr-grows s t x h.1 a h.7, expr-grows s t x h.2 b h.8)

mutual
  pub stmt-grows : (s t : Shape) → Extends s t → (node : Node) (u : Stmt) → StmtIs s node u → StmtIs t node u
  stmt-grows s t x (SetNode name value) (SetTo n e) h = (h.0, expr-grows s t x value e h.1)
  stmt-grows s t x (NewNode name words) (New n w) h = h
  stmt-grows s t x (GetNode name target index) (Get n u e) h = (h.0, h.1, expr-grows s t x index e h.2)
  stmt-grows s t x (PutNode target index value) (Put u e f) h = (h.0, expr-grows s t x index e h.1, expr-grows s t x value f h.2)
  stmt-grows s t x (ForgetNode target) (Forget u) h = h
  stmt-grows s t x (CensusNode name) (Census n) h = h
  stmt-grows s t x (PrintNode value) (Print e) h = expr-grows s t x value e h
  stmt-grows s t x (ThrowNode value) (Throw e) h = expr-grows s t x value e h
  stmt-grows s t x (AsyncNode body) (Async b) h = (h.0, x.blocks _ _ h.1, list-grows s t x h.0 b h.2)
  stmt-grows s t x (AtAsyncNode place body) (AtAsync e b) h = (h.0, x.blocks _ _ h.1, list-grows s t x h.0 b h.2, expr-grows s t x place e h.3)
  stmt-grows s t x (AtNode place body) (At e b) h = (h.0, x.blocks _ _ h.1, list-grows s t x h.0 b h.2, expr-grows s t x place e h.3)
  stmt-grows s t x (FinishNode body) (Finish b) h = (h.0, x.blocks _ _ h.1, list-grows s t x h.0 b h.2)
  stmt-grows s t x (IfNode test first other) (If e a b) h =
      (h.0, x.blocks _ _ h.1, list-grows s t x h.0 a h.2, (h.3.0, x.blocks _ _ h.3.1, list-grows s t x h.3.0 b h.3.2), expr-grows s t x test e h.4)
  stmt-grows s t x (RepeatNode times body) (Repeat n b) h = (h.0, x.blocks _ _ h.1, list-grows s t x h.0 b h.2, h.3)
  stmt-grows s t x (TryNode body dead_only handler) (Try a d b) h =
      (h.0, x.blocks _ _ h.1, list-grows s t x h.0 a h.2, (h.3.0, x.blocks _ _ h.3.1, list-grows s t x h.3.0 b h.3.2), h.4)
  stmt-grows s t x _ _ h = absurd h

  pub list-grows : (s t : Shape) → Extends s t → (ids : List StmtId) (ts : Block) → ListStands s ids ts → ListStands t ids ts
  list-grows s t x [] Nothing h = tt
  list-grows s t x (i ∷ ids) Nothing h = h
  list-grows s t x [] (Then u us) h = h
  list-grows s t x (i ∷ ids) (Then u us) h = ((h.0.0, x.stmts _ _ h.0.1, stmt-grows s t x h.0.0 u h.0.2), list-grows s t x ids us h.1)

-- what else stands in the one still stands in the other
block-grows : (s t : Shape) → Extends s t → (k : BlockId) (b : Block) → BlockStands s k b → BlockStands t k b
block-grows s t x k b h = (h.0, x.blocks _ _ h.1, list-grows s t x h.0 b h.2)

opener-grows : (s t : Shape) → Extends s t → (front : Front) (o : Opener) → OpenerStands s.exprs front o → OpenerStands t.exprs front o
opener-grows s t x fronts.Async ByAsync h = tt
opener-grows s t x (fronts.AtAsync i) (ByAtAsync e) h = expr-grows s t x i e h
opener-grows s t x (fronts.At i) (ByAt e) h = expr-grows s t x i e h
opener-grows s t x fronts.Finish ByFinish h = tt
opener-grows s t x (fronts.If i) (ByIf e) h = expr-grows s t x i e h
opener-grows s t x (fronts.Repeat times) (ByRepeat n) h = h
opener-grows s t x fronts.Try ByTry h = tt
opener-grows s t x _ _ h = absurd h

owner-grows : (s t : Shape) → Extends s t → (owner : Owner) (f : Frame) → OwnerStands s owner f → OwnerStands t owner f
owner-grows s t x (owners.Front front) (Fore o) h = opener-grows s t x front o h
owner-grows s t x (owners.Other test first) (Other e a) h = (expr-grows s t x test e h.0, block-grows s t x first a h.1)
owner-grows s t x (owners.Handler body dead_only) (Handler a d) h = (block-grows s t x body a h.0, h.1)
owner-grows s t x _ _ h = absurd h

waiting-grows : (s t : Shape) → Extends s t → (waiting : Waiting) (w : Waits) → WaitingStands s waiting w → WaitingStands t waiting w
waiting-grows s t x waitings.Free Free h = tt
waiting-grows s t x (waitings.ForElse test first) (ForElse e a) h = (expr-grows s t x test e h.0, block-grows s t x first a h.1)
waiting-grows s t x (waitings.ForCatch body) (ForCatch a) h = block-grows s t x body a h
waiting-grows s t x _ _ h = absurd h

framed-grows : (s t : Shape) → Extends s t → (opened : List Opened) (pending : List StmtId) (outer : List (Block × Frame)) (so_far : Block) → Framed s opened pending outer so_far → Framed t opened pending outer so_far
framed-grows s t x opened pending [] so_far h = (h.0, list-grows s t x pending so_far h.1)
framed-grows s t x opened pending (f ∷ outer) so_far h =
    (h.0, h.1, h.2, h.3, h.4, h.5, h.6, owner-grows s t x h.1.owner f.1 h.7, list-grows s t x h.3 so_far h.8, framed-grows s t x h.0 h.2 outer f.0 h.9)

-- a number stands for a statement
abbrev pub IsAt : Shape → StmtId → Stmt → Type 0
IsAt s i t = (node : Node) × (slice_get s.stmts i.0 ≡ Some node) × StmtIs s node t

pub list-added : (s : Shape) (ids : List StmtId) (ts : Block) (i : StmtId) (t : Stmt) → ListStands s ids ts → IsAt s i t → ListStands s (ids ++ i ∷ []) (added ts t)
list-added s [] Nothing i t h n = (n, tt)
list-added s (j ∷ ids) Nothing i t h n = absurd h
list-added s [] (Then u us) i t h n = absurd h
list-added s (j ∷ ids) (Then u us) i t h n = (h.0, list-added s ids us i t h.1 n)

pub framed-added : (s : Shape) (opened : List Opened) (pending : List StmtId) (outer : List (Block × Frame)) (so_far : Block) (i : StmtId) (t : Stmt) → Framed s opened pending outer so_far → IsAt s i t → Framed s opened (pending ++ i ∷ []) outer (added so_far t)
framed-added s opened pending [] so_far i t h n = (h.0, list-added s pending so_far i t h.1 n)
framed-added s opened pending (f ∷ outer) so_far i t h n =
    (h.0, h.1, h.2, h.3 ++ i ∷ [], h.4, ap (λ p. p ++ i ∷ []) h.5 ∙ append_assoc h.2 h.3 (i ∷ []), h.6, h.7, list-added s h.3 so_far i t h.8 n, h.9)

framed-at : (s : Shape) (opened front : List Opened) (pending ids : List StmtId) (outer : List (Block × Frame)) (so_far : Block) → opened ≡ front → pending ≡ ids → Framed s front ids outer so_far → Framed s opened pending outer so_far
framed-at s opened front pending ids outer so_far e f h =
    let one : Framed s opened ids outer so_far = subst (λ (o : List Opened). Framed s o ids outer so_far) (sym e) h in
    subst (λ (p : List StmtId). Framed s opened p outer so_far) (sym f) one

waiting-at : (s : Shape) (v w : Waiting) (x : Waits) → v ≡ w → WaitingStands s w x → WaitingStands s v x
waiting-at s v w x e h = subst (λ (u : Waiting). WaitingStands s u x) (sym e) h

-- the same vectors have the same items
same-items : {A : Type 0} (v w : Vec A Global) → v ≡ w → v.items ≡ w.items
same-items {A} v w e = ap (λ (u : Vec A Global). u.items) e

same-blocks : (old new : Reader) → new.blocks ≡ old.blocks → blocks_of new ≡ blocks_of old
same-blocks old new e = ap (λ (v : Vec (Vec StmtId Global) Global). map (λ b. b.items) v.items) e

no-more : {A : Type 0} (xs ys : List A) → ys ≡ xs → ys ≡ xs ++ []
no-more xs ys e = e ∙ sym (append-nil xs)

same-extends : (old new : Reader) → new.stmts ≡ old.stmts → new.exprs ≡ old.exprs → new.blocks ≡ old.blocks → Extends (shape_of old) (shape_of new)
same-extends old new a b d =
    extends-by (shape_of old) (shape_of new) [] [] []
    (no-more _ _ (same-items new.stmts old.stmts a))
    (no-more _ _ (same-items new.exprs old.exprs b))
    (no-more _ _ (same-blocks old new d))

-- more expressions
pub holds-exprs : (r : Reader) (es : Vec Part Global) (s : BlocksRead) → Grows r.exprs.items es.items → ReaderHolds r s → ReaderHolds (record r { exprs = es }) s
holds-exprs r es s g h =
    let new : Reader = record r { exprs = es } in
    let x : Extends (shape_of r) (shape_of new) = extends-by (shape_of r) (shape_of new) [] g.0 [] (sym (append-nil _)) g.1 (sym (append-nil _)) in
    (framed-grows (shape_of r) (shape_of new) x r.frames.items r.pending.items s.outer s.so_far h.0, waiting-grows (shape_of r) (shape_of new) x r.waiting s.waits h.1)

-- a statement more
add-extends : (old new : Reader) (node : Node) → Adds old node new → Extends (shape_of old) (shape_of new)
add-extends old new node a =
    extends-by (shape_of old) (shape_of new) (node ∷ []) [] [] a.stmts
    (no-more _ _ (same-items new.exprs old.exprs a.exprs))
    (no-more _ _ (same-blocks old new a.blocks))

add-holds : (old new : Reader) (node : Node) (u : Stmt) (outer : List (Block × Frame)) (ts : Block) → Adds old node new → StmtIs (shape_of old) node u → ReaderHolds old (free outer ts) → ReaderHolds new (free outer (added ts u))
add-holds old new node u outer ts a i h =
    let s = shape_of old in
    let t = shape_of new in
    let x = add-extends old new node a in
    let at : IsAt t (record { 0 = length old.stmts.items }) u =
    (node, ap (λ us. slice_get us (length old.stmts.items)) a.stmts ∙ get-last old.stmts.items node (length old.stmts.items) refl, stmt-grows s t x node u i) in (
      framed-at t new.frames.items old.frames.items new.pending.items _ outer (added ts u) (same-items new.frames old.frames a.frames) a.pending
          (framed-added t old.frames.items old.pending.items outer ts _ u (framed-grows s t x old.frames.items old.pending.items outer ts h.0) at),
      waiting-at t new.waiting old.waiting Free a.waiting (waiting-grows s t x old.waiting Free h.1),
    )

-- a first block waits
wait-holds : (old new : Reader) (waiting : Waiting) (w : Waits) (outer : List (Block × Frame)) (ts : Block) → BeginsWait old waiting new → WaitingStands (shape_of old) waiting w → Framed (shape_of old) old.frames.items old.pending.items outer ts → ReaderHolds new (record { outer = outer; so_far = ts; waits = w })
wait-holds old new waiting w outer ts b i h =
    let s = shape_of old in
    let t = shape_of new in
    let x = same-extends old new b.stmts b.exprs b.blocks in (
      framed-at t new.frames.items old.frames.items new.pending.items old.pending.items outer ts (same-items new.frames old.frames b.frames) (same-items new.pending old.pending b.pending)
          (framed-grows s t x old.frames.items old.pending.items outer ts h),
      waiting-at t new.waiting waiting w b.waits (waiting-grows s t x waiting w i),
    )

-- what a block and what it belongs to make
front-holds : (old new : Reader) (front : Front) (k : BlockId) (o : Opener) (b : Block) (outer : List (Block × Frame)) (ts : Block) → BlockMakes old (owners.Front front) k new → OpenerStands old.exprs.items front o → BlockStands (shape_of old) k b → ReaderHolds old (free outer ts) → ReaderHolds new (ended outer ts (Fore o) b)
front-holds old new fronts.Async k ByAsync b outer ts m i n h = add-holds old new _ (Async b) outer ts m n h
front-holds old new (fronts.AtAsync p) k (ByAtAsync e) b outer ts m i n h = add-holds old new _ (AtAsync e b) outer ts m (n.0, n.1, n.2, i) h
front-holds old new (fronts.At p) k (ByAt e) b outer ts m i n h = add-holds old new _ (At e b) outer ts m (n.0, n.1, n.2, i) h
front-holds old new fronts.Finish k ByFinish b outer ts m i n h = add-holds old new _ (Finish b) outer ts m n h
front-holds old new (fronts.If p) k (ByIf e) b outer ts m i n h = wait-holds old new _ (ForElse e b) outer ts m (i, n) h.0
front-holds old new (fronts.Repeat times) k (ByRepeat c) b outer ts m i n h = add-holds old new _ (Repeat c b) outer ts m (n.0, n.1, n.2, i) h
front-holds old new fronts.Try k ByTry b outer ts m i n h = wait-holds old new _ (ForCatch b) outer ts m n h.0
front-holds old new _ k _ b outer ts m i n h = absurd i

makes-holds : (old new : Reader) (owner : Owner) (k : BlockId) (f : Frame) (b : Block) (outer : List (Block × Frame)) (ts : Block) → BlockMakes old owner k new → OwnerStands (shape_of old) owner f → BlockStands (shape_of old) k b → ReaderHolds old (free outer ts) → ReaderHolds new (ended outer ts f b)
makes-holds old new (owners.Front front) k (Fore o) b outer ts m i n h = front-holds old new front k o b outer ts m i n h
makes-holds old new (owners.Other test first) k (Other e a) b outer ts m i n h =
    add-holds old new _ (If e a b) outer ts m (i.1.0, i.1.1, i.1.2, (n.0, n.1, n.2), i.0) h
makes-holds old new (owners.Handler body dead_only) k (Handler a d) b outer ts m i n h =
    add-holds old new _ (Try a d b) outer ts m (i.0.0, i.0.1, i.0.2, (n.0, n.1, n.2), i.1) h
makes-holds old new _ k _ b outer ts m i n h = absurd i

-- the innermost block, without its frame
framed-shut : (s : Shape) (opened front : List Opened) (last : Opened) (pending : List StmtId) (f : Block × Frame) (outer : List (Block × Frame)) (b : Block) → opened ≡ front ++ last ∷ [] → Framed s opened pending (f ∷ outer) b → OwnerStands s last.owner f.1 × ListStands s (drop last.start pending) b × Framed s front (take last.start pending) outer f.0
framed-shut s opened front last pending f outer b e h =
    let same = same_from_push front h.0 last h.1 (sym e ∙ h.4) in
    let at_start : last.start ≡ length h.2 = ap (λ (o : Opened). o.start) same.1 ∙ h.6 in
    let took : take last.start pending ≡ h.2 = ap (take last.start) h.5 ∙ ap (λ n. take n (h.2 ++ h.3)) at_start ∙ take-append_seam h.2 h.3 in
    let dropped : drop last.start pending ≡ h.3 = ap (drop last.start) h.5 ∙ ap (λ n. drop n (h.2 ++ h.3)) at_start ∙ drop-append_seam h.2 h.3 in (
      subst (λ (o : Opened). OwnerStands s o.owner f.1) (sym same.1) h.7,
      subst (λ (ids : List StmtId). ListStands s ids b) (sym dropped) h.8,
      framed-at s front h.0 (take last.start pending) h.2 outer f.0 same.0 took h.9,
    )

-- the innermost block has ended
close-holds : (old mid new : Reader) (left : Vec Opened Global) (last : Opened) (k : BlockId) (f : Block × Frame) (outer : List (Block × Frame)) (b : Block) → old.frames.items ≡ left.items ++ last ∷ [] → Shuts (record old { frames = left }) last.start mid → k.0 ≡ length (blocks_of old) → BlockMakes mid last.owner k new → ReaderHolds old (free (f ∷ outer) b) → ReaderHolds new (ended outer f.0 f.1 b)
close-holds old mid new left last k f outer b e u p m h =
    let front = left.items in
    let s = shape_of old in
    let t = shape_of mid in
    let x : Extends s t = extends-by s t [] [] _ (no-more _ _ (same-items mid.stmts old.stmts u.stmts)) (no-more _ _ (same-items mid.exprs old.exprs u.exprs)) u.blocks in
    let q = framed-shut s old.frames.items front last old.pending.items f outer b e h.0 in
    let at : slice_get (blocks_of mid) k.0 ≡ Some (drop last.start old.pending.items) = ap (λ bs. slice_get bs k.0) u.blocks ∙ get-last (blocks_of old) _ k.0 p in
    makes-holds mid new last.owner k f.1 b outer f.0 m (owner-grows s t x last.owner f.1 q.0) (drop last.start old.pending.items, at, list-grows s t x _ b q.1) (
      framed-at t mid.frames.items front mid.pending.items (take last.start old.pending.items) outer f.0 (same-items mid.frames left u.frames) u.pending (framed-grows s t x front _ outer f.0 q.2),
      waiting-at t mid.waiting old.waiting Free u.waiting (waiting-grows s t x old.waiting Free h.1),
    )

-- what an item does
at-state : (r : Reader) (s t : BlocksRead) → Some s ≡ Some t → ReaderHolds r s → ReaderHolds r t
at-state r s t e h = subst (λ (u : BlocksRead). ReaderHolds r u) (same_Some s t e) h

whole-grows : (r : Reader) (node : Node) (u : Stmt) → StmtIs (only r.exprs.items) node u → StmtIs (shape_of r) node u
whole-grows r node u i = stmt-grows (only r.exprs.items) (shape_of r) (extends-by (only r.exprs.items) (shape_of r) r.stmts.items [] (blocks_of r) refl (sym (append-nil _)) refl) node u i

take-whole : (old new : Reader) (node : Node) (u : Stmt) (outer : List (Block × Frame)) (ts : Block) (w : Waits) (t : BlocksRead) → Adds old node new → StmtIs (only old.exprs.items) node u → ReaderHolds old (record { outer = outer; so_far = ts; waits = w }) → item_stepped outer ts w (Whole u) ≡ Some t → ReaderHolds new t
take-whole old new node u outer ts Free t a i h e = at-state new _ t e (add-holds old new node u outer ts a (whole-grows old node u i) h)
take-whole old new node u outer ts (ForElse c b) t a i h e = cc
take-whole old new node u outer ts (ForCatch b) t a i h e = cc

pub takes-whole : (old new : Reader) (node : Node) → Adds old node new → Takes old (pieces.Whole node) new
takes-whole old new node a s t (Whole u) h i e = take-whole old new node u s.outer s.so_far s.waits t a i h e
takes-whole old new node a s t _ h i e = absurd i

take-close : (old mid new : Reader) (left : Vec Opened Global) (last : Opened) (k : BlockId) (outer : List (Block × Frame)) (b : Block) (w : Waits) (t : BlocksRead) → old.frames.items ≡ left.items ++ last ∷ [] → Shuts (record old { frames = left }) last.start mid → k.0 ≡ length (blocks_of old) → BlockMakes mid last.owner k new → ReaderHolds old (record { outer = outer; so_far = b; waits = w }) → item_stepped outer b w Close ≡ Some t → ReaderHolds new t
take-close old mid new left last k [] b Free t e u p m h x = cc
take-close old mid new left last k (f ∷ outer) b Free t e u p m h x = at-state new _ t x (close-holds old mid new left last k f outer b e u p m h)
take-close old mid new left last k outer b (ForElse c a) t e u p m h x = cc
take-close old mid new left last k outer b (ForCatch a) t e u p m h x = cc

pub takes-close : (old mid new : Reader) (left : Vec Opened Global) (last : Opened) (k : BlockId) → old.frames.items ≡ left.items ++ last ∷ [] → Shuts (record old { frames = left }) last.start mid → k.0 ≡ length (blocks_of old) → BlockMakes mid last.owner k new → Takes old pieces.Close new
takes-close old mid new left last k e u p m s t Close h i x = take-close old mid new left last k s.outer s.so_far s.waits t e u p m h x
takes-close old mid new left last k e u p m s t _ h i x = absurd i

-- the last of a longer list, or one before it
push-get : {A : Type 0} (xs : List A) (y : A) (k : ℕ) (x : A) → slice_get (xs ++ y ∷ []) k ≡ Some x → (slice_get xs k ≡ Some x) ⊎ (x ≡ y)
push-get [] y zero x e = inr (sym (same_Some y x e))
push-get [] y (suc k) x e = cc
push-get (z ∷ xs) y zero x e = inl e
push-get (z ∷ xs) y (suc k) x e = push-get xs y k x e

-- blocks stay small
pub small-push : (bs : List (List StmtId)) (ids : List StmtId) → IsSmall bs → length ids < 2 ^ 32 → IsSmall (bs ++ ids ∷ [])
small-push bs ids h n k jds e = by (push-get bs ids k jds e)
  where
    by : (slice_get bs k ≡ Some jds) ⊎ (jds ≡ ids) → length jds < 2 ^ 32
    by (inl f) = h k jds f
    by (inr f) = subst (λ (us : List StmtId). length us < 2 ^ 32) (sym f) n

pub small-none : IsSmall []
small-none k ids e = absurd (none k ids e)
  where
    none : (k : ℕ) (ids : List StmtId) → slice_get [] k ≡ Some ids → ⊥
    none k ids e = cc

-- what it adds
small-at : (old new : Reader) → blocks_of new ≡ blocks_of old → IsSmall (blocks_of old) → IsSmall (blocks_of new)
small-at old new e h = subst (λ (bs : List (List StmtId)). IsSmall bs) (sym e) h

pub counts-add : (old new : Reader) (node : Node) → Adds old node new → GrowsByOne old new
counts-add old new node a = record {
  stmts = omega (arith, ap length a.stmts, length-append old.stmts.items (node ∷ []));
  exprs = a.exprs;
  blocks = omega (arith, ap length (same-blocks old new a.blocks));
  pending = omega (arith, ap length a.pending, length-append old.pending.items (record { 0 = length old.stmts.items } ∷ []));
  small = λ h n. small-at old new (same-blocks old new a.blocks) h;
}

pub counts-open : (old new : Reader) (owner : Owner) → Opens old owner new → GrowsByOne old new
counts-open old new owner a = record {
  stmts = omega (arith, ap length (same-items new.stmts old.stmts a.stmts));
  exprs = a.exprs;
  blocks = omega (arith, ap length (same-blocks old new a.blocks));
  pending = omega (arith, ap length (same-items new.pending old.pending a.pending));
  small = λ h n. small-at old new (same-blocks old new a.blocks) h;
}

record Few (old new : Reader) : Type 0 where
  stmts : length new.stmts.items ≤ length old.stmts.items + 1
  exprs : new.exprs ≡ old.exprs
  blocks : blocks_of new ≡ blocks_of old
  pending : length new.pending.items ≤ length old.pending.items + 1

few-add : (old new : Reader) (node : Node) → Adds old node new → Few old new
few-add old new node a = let d = counts-add old new node a in record { stmts = d.stmts; exprs = a.exprs; blocks = same-blocks old new a.blocks; pending = d.pending }

few-wait : (old new : Reader) (waiting : Waiting) → BeginsWait old waiting new → Few old new
few-wait old new waiting a = record {
  stmts = omega (arith, ap length (same-items new.stmts old.stmts a.stmts));
  exprs = a.exprs;
  blocks = same-blocks old new a.blocks;
  pending = omega (arith, ap length (same-items new.pending old.pending a.pending));
}

few-front : (old new : Reader) (front : Front) (k : BlockId) → BlockMakes old (owners.Front front) k new → Few old new
few-front old new fronts.Async k m = few-add old new _ m
few-front old new (fronts.AtAsync p) k m = few-add old new _ m
few-front old new (fronts.At p) k m = few-add old new _ m
few-front old new fronts.Finish k m = few-add old new _ m
few-front old new (fronts.If p) k m = few-wait old new _ m
few-front old new (fronts.Repeat times) k m = few-add old new _ m
few-front old new fronts.Try k m = few-wait old new _ m

few-makes : (old new : Reader) (owner : Owner) (k : BlockId) → BlockMakes old owner k new → Few old new
few-makes old new (owners.Front front) k m = few-front old new front k m
few-makes old new (owners.Other test first) k m = few-add old new _ m
few-makes old new (owners.Handler body dead_only) k m = few-add old new _ m

pub counts-close : (old mid new : Reader) (left : Vec Opened Global) (start : ℕ) (owner : Owner) (k : BlockId) → Shuts (record old { frames = left }) start mid → BlockMakes mid owner k new → GrowsByOne old new
counts-close old mid new left start owner k u m =
    let w = few-makes mid new owner k m in
    let ids = drop start old.pending.items in
    let e : blocks_of new ≡ blocks_of old ++ ids ∷ [] = w.blocks ∙ u.blocks in
    record {
      stmts = omega (arith, w.stmts, ap length (same-items mid.stmts old.stmts u.stmts));
      exprs = w.exprs ∙ u.exprs;
      blocks = omega (arith, ap length e, length-append (blocks_of old) (ids ∷ []));
      pending = omega (arith, w.pending, ap length u.pending, length-take start old.pending.items);
      small = λ h n. let short : length ids < 2 ^ 32 = omega (arith, length-drop start old.pending.items, n) in subst (λ (bs : List (List StmtId)). IsSmall bs) (sym e) (small-push (blocks_of old) ids h short);
    }

pub on-ok : {A E : Type 0} (P Q : Type 0) (r : Result A E) → OnOk r P → (P → Q) → OnOk r Q
on-ok P Q (Ok a) p f = f p
on-ok P Q (Err e) p f = tt
