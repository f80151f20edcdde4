-- What the parts of a script stand for, and how writing them goes on.
use Rattle.std.proofs.Common.{◌≡◌, ℕ, suc, ◌+◌, ◌<◌, Bool, true, false, List, [], ◌∷◌, ◌++◌, length, drop, Some, refl, ap, sym, ◌∙◌, subst, append_assoc, append-nil, add-one, pos, slice_get, reverse, IfSome, OnOk, Option, Result, Ok, Err}
use Rattle.std.proofs.lemmas.Grind.{flat_map-append}
use Rattle.std.specs.List.{flat_map}
use Rattle.std.proofs.lemmas.List.{reverse-append, reverse-reverse}
use Rattle.std.proofs.lemmas.Option.{slice_get_within}
use Rattle.rx_base.proofs.Elements.{drop-suc}
use Rattle.rx_rules.proofs.Common.{Expr as Tree, Num, Name, Here, Bin, Block, Nothing, Then, Stmt, SetTo, New, Get, Put, Forget, Census, Print, Throw, Async, AtAsync, At, Finish, If, Repeat, Try}
use Rattle.rx_syntax.specs.declared.nodes.StmtId.{StmtId}
use Rattle.rx_syntax.specs.declared.nodes.ExprId.{ExprId}
use Rattle.rx_syntax.specs.declared.nodes.BlockId.{BlockId}
use Rattle.rx_syntax.specs.declared.nodes.Stmt.{Stmt as Node}
use Rattle.rx_syntax.specs.declared.nodes.Stmt.TheVariants as nodes
use Rattle.rx_syntax.specs.declared.nodes.Expr.{Expr as Leaf}
use Rattle.rx_syntax.specs.declared.nodes.Expr.TheVariants as leaves
use Rattle.rx_syntax.specs.declared.token.Keyword.TheVariants.{Async as KAsync, At as KAt, If as KIf, Else as KElse, Catch as KCatch, Dead as KDead}
use Rattle.rx_syntax.specs.declared.token.Sign.TheVariants.{OpenBrace as LBrace, CloseBrace as RBrace, OpenParen as LParen, CloseParen as RParen, OpenSquare as LSquare, CloseSquare as RSquare, Equals, Semicolon}
use Rattle.rx_syntax.specs.declared.token.Token.{Token}
use Rattle.rx_syntax.specs.declared.token.Token.TheVariants.{Key, Called, Number, Oper, Mark}
use Rattle.rx_script.specs.declared.writer.Part.{Part}
use Rattle.rx_script.specs.declared.writer.Part.TheVariants.{One, Value, From}
use Rattle.rx_syntax.specs.Shape.{Shape, ExprStands, StmtIs, ListStands, Stands}
use Rattle.rx_syntax.specs.Grammar.{spell, catch_words, spelling, spellings}
use Rattle.rx_syntax.specs.Texts.{spaced}
use Rattle.rx_script.specs.Inside.Unwritten.{PartStands, PartsStand, front_of, parts_after, block_parts, catch_parts, expr_front, expr_rest, Wrote}
use Rattle.rx_script.proofs.Spelt.{sign-of-op}

-- parts one after another stand for their tokens one after another
pub parts-append : (s : Shape) (ps qs : List Part) (us vs : List Token) → PartsStand s ps us → PartsStand s qs vs → PartsStand s (ps ++ qs) (us ++ vs)
parts-append s [] qs us vs h k = subst (λ (ts : List Token). PartsStand s qs (ts ++ vs)) (sym h) k
parts-append s (p ∷ ps) qs us vs h k = (h.0, h.1 ++ vs, ap (λ ts. ts ++ vs) h.2 ∙ append_assoc h.0 h.1 vs, h.3, parts-append s ps qs h.1 vs h.4 k)

pub reverse-more : (xs ys : List Part) → reverse (xs ++ reverse ys) ≡ ys ++ reverse xs
reverse-more xs ys = reverse-append xs (reverse ys) ∙ ap (λ zs. zs ++ reverse xs) (reverse-reverse ys)

-- parts stand for tokens, as a record, so that both can be found
pub record Held (s : Shape) (ps : List Part) (ts : List Token) : Type 0 where
  pub held : PartsStand s ps ts

-- one part more in front
one : (s : Shape) (t : Token) (ps : List Part) (ts : List Token) → Held s ps ts → Held s (One t ∷ ps) (t ∷ ts)
one s t ps ts h = record { held = (t ∷ [], ts, refl, refl, h.held) }

value : (s : Shape) (id : ExprId) (e : Tree) (ps : List Part) (ts : List Token) → ExprStands s.exprs id e → Held s ps ts → Held s (Value id ∷ ps) (spell e ++ ts)
value s id e ps ts x h = record { held = (spell e, ts, refl, (e, x, refl), h.held) }

block : (s : Shape) (k : BlockId) (ids : List StmtId) (b : Block) (ps : List Part) (ts : List Token) → slice_get s.blocks k.0 ≡ Some ids → ListStands s ids b → Held s ps ts → Held s (From k 0 ∷ ps) (spellings b ++ ts)
block s k ids b ps ts at x h = record { held = (spellings b, ts, refl, (ids, b, at, x, refl), h.held) }

end-of : (s : Shape) → Held s [] []
end-of s = record { held = refl }

semicolon : (s : Shape) → Held s (One (Mark Semicolon) ∷ []) (Mark Semicolon ∷ [])
semicolon s = one s (Mark Semicolon) [] [] (end-of s)

brace : (s : Shape) → Held s (One (Mark RBrace) ∷ []) (Mark RBrace ∷ [])
brace s = one s (Mark RBrace) [] [] (end-of s)

body : (s : Shape) (k : BlockId) (ids : List StmtId) (b : Block) (ps : List Part) (ts : List Token) → slice_get s.blocks k.0 ≡ Some ids → ListStands s ids b → Held s ps ts → Held s (One (Mark LBrace) ∷ From k 0 ∷ ps) (Mark LBrace ∷ (spellings b ++ ts))
body s k ids b ps ts at x h = one s (Mark LBrace) _ _ (block s k ids b ps ts at x h)

-- what stands after the first token
pub record After (s : Shape) (t : Token) (ps : List Part) (ts : List Token) : Type 0 where
  pub left : List Token
  pub whole : ts ≡ t ∷ left
  pub stands : Held s ps left

handler : (s : Shape) (d : Bool) (k : BlockId) (ids : List StmtId) (b : Block) → slice_get s.blocks k.0 ≡ Some ids → ListStands s ids b → Held s (catch_parts d ++ block_parts k) (catch_words d ++ (spellings b ++ Mark RBrace ∷ []))
handler s false k ids b at x = one s (Key KCatch) _ _ (body s k ids b _ _ at x (brace s))
handler s true k ids b at x = one s (Key KCatch) _ _ (one s (Key KDead) _ _ (body s k ids b _ _ at x (brace s)))

pub stmt-parts : (s : Shape) (node : Node) (t : Stmt) → StmtIs s node t → After s (front_of node) (parts_after node) (spelling t)
stmt-parts s (nodes.Set name index) (SetTo n e) h = record { left = Called name.0 ∷ Mark Equals ∷ (spell e ++ Mark Semicolon ∷ []); whole = ap (λ m. spelling (SetTo m e)) h.0; stands = one s _ _ _ (one s _ _ _ (value s index e _ _ h.1 (semicolon s))) }
stmt-parts s (nodes.New name words) (New n w) h = record { left = Called name.0 ∷ Mark Equals ∷ Number (pos words) ∷ Mark Semicolon ∷ []; whole = ap (λ m. spelling (New m w)) h.0 ∙ ap (λ m. spelling (New name.0 m)) h.1; stands = one s _ _ _ (one s _ _ _ (one s _ _ _ (semicolon s))) }
stmt-parts s (nodes.Get name target index) (Get n t e) h = record { left = Called name.0 ∷ Mark Equals ∷ Called target.0 ∷ Mark LSquare ∷ (spell e ++ Mark RSquare ∷ Mark Semicolon ∷ []); whole = ap (λ m. spelling (Get m t e)) h.0 ∙ ap (λ m. spelling (Get name.0 m e)) h.1; stands = one s _ _ _ (one s _ _ _ (one s _ _ _ (one s _ _ _ (value s index e _ _ h.2 (one s _ _ _ (semicolon s)))))) }
stmt-parts s (nodes.Put target index new) (Put t e f) h = record { left = Called target.0 ∷ Mark LSquare ∷ (spell e ++ Mark RSquare ∷ Mark Equals ∷ (spell f ++ Mark Semicolon ∷ [])); whole = ap (λ m. spelling (Put m e f)) h.0; stands = one s _ _ _ (one s _ _ _ (value s index e _ _ h.1 (one s _ _ _ (one s _ _ _ (value s new f _ _ h.2 (semicolon s)))))) }
stmt-parts s (nodes.Forget target) (Forget t) h = record { left = Called target.0 ∷ Mark Semicolon ∷ []; whole = ap (λ m. spelling (Forget m)) h; stands = one s _ _ _ (semicolon s) }
stmt-parts s (nodes.Census name) (Census n) h = record { left = Called name.0 ∷ Mark Semicolon ∷ []; whole = ap (λ m. spelling (Census m)) h; stands = one s _ _ _ (semicolon s) }
stmt-parts s (nodes.Print id) (Print e) h = record { left = spell e ++ Mark Semicolon ∷ []; whole = refl; stands = value s id e _ _ h (semicolon s) }
stmt-parts s (nodes.Throw id) (Throw e) h = record { left = spell e ++ Mark Semicolon ∷ []; whole = refl; stands = value s id e _ _ h (semicolon s) }
stmt-parts s (nodes.Async k) (Async b) h = record { left = Mark LBrace ∷ (spellings b ++ Mark RBrace ∷ []); whole = refl; stands = body s k h.0 b _ _ h.1 h.2 (brace s) }
stmt-parts s (nodes.AtAsync place k) (AtAsync e b) h = record { left = spell e ++ Key KAsync ∷ Mark LBrace ∷ (spellings b ++ Mark RBrace ∷ []); whole = ap (λ ts. Key KAt ∷ ts) (append_assoc (spell e) (Key KAsync ∷ Mark LBrace ∷ []) (spellings b ++ Mark RBrace ∷ [])); stands = value s place e _ _ h.3 (one s _ _ _ (body s k h.0 b _ _ h.1 h.2 (brace s))) }
stmt-parts s (nodes.At place k) (At e b) h = record { left = spell e ++ Mark LBrace ∷ (spellings b ++ Mark RBrace ∷ []); whole = ap (λ ts. Key KAt ∷ ts) (append_assoc (spell e) (Mark LBrace ∷ []) (spellings b ++ Mark RBrace ∷ [])); stands = value s place e _ _ h.3 (body s k h.0 b _ _ h.1 h.2 (brace s)) }
stmt-parts s (nodes.Finish k) (Finish b) h = record { left = Mark LBrace ∷ (spellings b ++ Mark RBrace ∷ []); whole = refl; stands = body s k h.0 b _ _ h.1 h.2 (brace s) }
stmt-parts s (nodes.If test first other) (If e a b) h = record {
  left = spell e ++ Mark LBrace ∷ (spellings a ++ Mark RBrace ∷ Key KElse ∷ Mark LBrace ∷ (spellings b ++ Mark RBrace ∷ []));
  whole = ap (λ ts. Key KIf ∷ ts) (append_assoc (spell e) (Mark LBrace ∷ []) (spellings a ++ Mark RBrace ∷ Key KElse ∷ Mark LBrace ∷ (spellings b ++ Mark RBrace ∷ [])));
  stands = value s test e _ _ h.4 (body s first h.0 a _ _ h.1 h.2 (one s _ _ _ (one s _ _ _ (body s other h.3.0 b _ _ h.3.1 h.3.2 (brace s)))));
}
stmt-parts s (nodes.Repeat times k) (Repeat n b) h = record { left = Number (pos times) ∷ Mark LBrace ∷ (spellings b ++ Mark RBrace ∷ []); whole = ap (λ m. spelling (Repeat m b)) h.3; stands = one s _ _ _ (body s k h.0 b _ _ h.1 h.2 (brace s)) }
stmt-parts s (nodes.Try first dead_only second) (Try a d b) h = record {
  left = Mark LBrace ∷ (spellings a ++ Mark RBrace ∷ (catch_words dead_only ++ (spellings b ++ Mark RBrace ∷ [])));
  whole = ap (λ c. spelling (Try a c b)) h.4;
  stands = body s first h.0 a _ _ h.1 h.2 (one s _ _ _ (handler s dead_only second h.3.0 b h.3.1 h.3.2));
}
stmt-parts s _ _ h = absurd h

-- the node that stands at a place is that which was read
leaf-is : (a b : Leaf) (es : List Leaf) (i : ℕ) → slice_get es i ≡ Some a → slice_get es i ≡ Some b → b ≡ a
leaf-is a b es i h k = cc

leaf-parts : (s : Shape) (i : ExprId) (e : Tree) → ExprStands s.exprs i e → (node : Leaf) × (slice_get s.exprs i.0 ≡ Some node) × After s (expr_front node) (expr_rest node) (spell e)
leaf-parts s i (Num z) h = (leaves.Num z, h, record { left = []; whole = refl; stands = end-of s })
leaf-parts s i (Name n) h = (leaves.Name h.0, h.1, record { left = []; whole = ap (λ m. Called m ∷ []) h.2; stands = end-of s })
leaf-parts s i Here h = (leaves.Here, h, record { left = []; whole = refl; stands = end-of s })
leaf-parts s i (Bin o a b) h = (
  leaves.Bin h.0 h.1 h.2,
  h.3,
  record {
    left = spell a ++ Oper h.0 ∷ (spell b ++ Mark RParen ∷ []);
    whole = ap (λ p. spell (Bin p a b)) h.4 ∙ ap (λ g. Mark LParen ∷ (spell a ++ Oper g ∷ (spell b ++ Mark RParen ∷ []))) (sign-of-op h.0);
    stands = value s h.1 a _ _ h.7 (one s _ _ _ (value s h.2 b _ _ h.8 (one s _ _ _ (end-of s))));
  },
)

pub expr-parts : (s : Shape) (i : ExprId) (node : Leaf) (e : Tree) → slice_get s.exprs i.0 ≡ Some node → ExprStands s.exprs i e → After s (expr_front node) (expr_rest node) (spell e)
expr-parts s i node e at h =
    let p = leaf-parts s i e h in
    subst (λ (n : Leaf). After s (expr_front n) (expr_rest n) (spell e)) (leaf-is node p.0 s.exprs i.0 at p.1) p.2

-- the first token of a part was written, and its other parts are in front of the others
pub went-on : (s : Shape) (old new : List ℕ) (p : Part) (t : Token) (rest ps qs : List Part) (ts : List Token) → ((us : List Token) → PartStands s p us → After s t rest us) → new ≡ old ++ spaced s.names t → qs ≡ rest ++ ps → PartsStand s (p ∷ ps) ts → Wrote s old new qs ts
went-on s old new p t rest ps qs ts after text parts h =
    let a = after h.0 h.3 in
    record {
      wrote = t ∷ [];
      left = a.left ++ h.1;
      whole = h.2 ∙ ap (λ us. us ++ h.1) a.whole;
      text = text ∙ ap (λ bs. old ++ bs) (sym (append-nil (spaced s.names t)));
      stands = subst (λ (ns : List Part). PartsStand s ns (a.left ++ h.1)) (sym parts) (parts-append s rest ps a.left h.1 a.stands.held h.4);
    }

pub value-after : (s : Shape) (id : ExprId) (node : Leaf) (us : List Token) → slice_get s.exprs id.0 ≡ Some node → PartStands s (Value id) us → After s (expr_front node) (expr_rest node) us
value-after s id node us at h = subst (λ (ts : List Token). After s (expr_front node) (expr_rest node) ts) (sym h.2) (expr-parts s id node h.0 at h.1)

-- the statement in front of a block, and the others
item-parts : (s : Shape) (k : BlockId) (i : ℕ) (ids : List StmtId) (id : StmtId) (node : Node) (b : Block) → slice_get s.blocks k.0 ≡ Some ids → slice_get s.stmts id.0 ≡ Some node → ListStands s (id ∷ drop (i + 1) ids) b → After s (front_of node) (parts_after node ++ From k (i + 1) ∷ []) (spellings b)
item-parts s k i ids id node Nothing in_blocks in_stmts h = absurd h
item-parts s k i ids id node (Then t ts) in_blocks in_stmts h =
    let e : h.0.0 ≡ node = cc in
    let a = stmt-parts s node t (subst (λ (n : Node). StmtIs s n t) e h.0.2) in
    let others : PartsStand s (From k (i + 1) ∷ []) (spellings ts) = (spellings ts, [], sym (append-nil (spellings ts)), (ids, ts, in_blocks, h.1, refl), refl) in
    record { left = a.left ++ spellings ts; whole = ap (λ us. us ++ spellings ts) a.whole; stands = record { held = parts-append s (parts_after node) (From k (i + 1) ∷ []) a.left (spellings ts) a.stands.held others } }

pub item-after : (s : Shape) (k : BlockId) (i : ℕ) (ids : List StmtId) (id : StmtId) (node : Node) (us : List Token) → slice_get s.blocks k.0 ≡ Some ids → slice_get ids i ≡ Some id → slice_get s.stmts id.0 ≡ Some node → PartStands s (From k i) us → After s (front_of node) (parts_after node ++ From k (i + 1) ∷ []) us
item-after s k i ids id node us in_blocks in_ids in_stmts h =
    let e : ids ≡ h.0 = cc in
    let f : drop i h.0 ≡ id ∷ drop (i + 1) ids = ap (drop i) (sym e) ∙ drop-suc ids i id in_ids ∙ ap (λ j. id ∷ drop j ids) (sym (add-one i)) in
    let x : ListStands s (id ∷ drop (i + 1) ids) h.1 = subst (λ (js : List StmtId). ListStands s js h.1) f h.3 in
    subst (λ (ts : List Token). After s (front_of node) (parts_after node ++ From k (i + 1) ∷ []) ts) (sym h.4) (item-parts s k i ids id node h.1 in_blocks in_stmts x)

-- the same after an answer without an error
pub both-ok : {A E : Type 0} (r : Result A E) (P Q R : Type 0) → OnOk r P → OnOk r Q → (P → Q → R) → OnOk r R
both-ok (Ok a) P Q R p q f = f p q
both-ok (Err e) P Q R p q f = tt

at-list : (blocks : List (List StmtId)) (k : ℕ) (ids : List StmtId) (P : List StmtId → Type 0) → slice_get blocks k ≡ Some ids → IfSome (slice_get blocks k) P → P ids
at-list blocks k ids P at h = subst (λ (o : Option (List StmtId)). IfSome o P) at h

first-known : (s : Shape) (id : StmtId) (ids : List StmtId) (b : Block) → ListStands s (id ∷ ids) b → id.0 < length s.stmts
first-known s id ids Nothing h = absurd h
first-known s id ids (Then t ts) h = slice_get_within s.stmts id.0 h.0.0 h.0.1

-- the statement at a position in a block is one of the script
pub item-known : (s : Shape) (k : BlockId) (i : ℕ) (id : StmtId) (ts : List Token) → PartStands s (From k i) ts → IfSome (slice_get s.blocks k.0) (λ ids. slice_get ids i ≡ Some id) → id.0 < length s.stmts
item-known s k i id ts h at =
    let here : slice_get h.0 i ≡ Some id = at-list s.blocks k.0 h.0 (λ ids. slice_get ids i ≡ Some id) h.2 at in
    first-known s id (drop (suc i) h.0) h.1 (subst (λ (js : List StmtId). ListStands s js h.1) (drop-suc h.0 i id here) h.3)

pub item-wrote : (s : Shape) (k : BlockId) (i : ℕ) (id : StmtId) (node : Node) (old new : List ℕ) (ps ns qs : List Part) (ts : List Token) → IfSome (slice_get s.blocks k.0) (λ ids. slice_get ids i ≡ Some id) → slice_get s.stmts id.0 ≡ Some node → ns ≡ ps ++ From k (i + 1) ∷ [] → new ≡ old ++ spaced s.names (front_of node) → qs ≡ ns ++ reverse (parts_after node) → PartsStand s (From k i ∷ reverse ps) ts → Wrote s old new (reverse qs) ts
item-wrote s k i id node old new ps ns qs ts at in_stmts pushed text parts h =
    let in_blocks : slice_get s.blocks k.0 ≡ Some h.3.0 = h.3.2 in
    let in_ids : slice_get h.3.0 i ≡ Some id = at-list s.blocks k.0 h.3.0 (λ ids. slice_get ids i ≡ Some id) in_blocks at in
    let order : reverse qs ≡ (parts_after node ++ From k (i + 1) ∷ []) ++ reverse ps = ap reverse (parts ∙ ap (λ ms. ms ++ reverse (parts_after node)) pushed) ∙ reverse-more (ps ++ From k (i + 1) ∷ []) (parts_after node) ∙ ap (λ ms. parts_after node ++ ms) (reverse-append ps (From k (i + 1) ∷ [])) ∙ sym (append_assoc (parts_after node) (From k (i + 1) ∷ []) (reverse ps)) in
    went-on s old new (From k i) (front_of node) (parts_after node ++ From k (i + 1) ∷ []) (reverse ps) (reverse qs) ts (λ us. item-after s k i h.3.0 id node us in_blocks in_ids in_stmts) text order h

pub value-known : (s : Shape) (id : ExprId) (ts : List Token) → PartStands s (Value id) ts → id.0 < length s.exprs
value-known s id ts h = let p = leaf-parts s id h.0 h.1 in slice_get_within s.exprs id.0 p.0 p.1

pub value-wrote : (s : Shape) (id : ExprId) (node : Leaf) (old new : List ℕ) (ps qs : List Part) (ts : List Token) → slice_get s.exprs id.0 ≡ Some node → new ≡ old ++ spaced s.names (expr_front node) → qs ≡ ps ++ reverse (expr_rest node) → PartsStand s (Value id ∷ reverse ps) ts → Wrote s old new (reverse qs) ts
value-wrote s id node old new ps qs ts at text parts h =
    went-on s old new (Value id) (expr_front node) (expr_rest node) (reverse ps) (reverse qs) ts (λ us. value-after s id node us at) text (ap reverse parts ∙ reverse-more ps (expr_rest node)) h

-- what is written in two steps
pub wrote-more : (s : Shape) (one two three : List ℕ) (p : Part) (ps qs : List Part) (ts : List Token) → Wrote s one two (p ∷ ps) ts → ((us : List Token) → PartsStand s (p ∷ ps) us → Wrote s two three qs us) → Wrote s one three qs ts
wrote-more s one two three p ps qs ts w next =
    let v = next w.left w.stands in
    record {
      wrote = w.wrote ++ v.wrote;
      left = v.left;
      whole = w.whole ∙ ap (λ us. w.wrote ++ us) v.whole ∙ sym (append_assoc w.wrote v.wrote v.left);
      text = v.text ∙ ap (λ bs. bs ++ flat_map (spaced s.names) v.wrote) w.text ∙ append_assoc one (flat_map (spaced s.names) w.wrote) (flat_map (spaced s.names) v.wrote) ∙ ap (λ bs. one ++ bs) (sym (flat_map-append (spaced s.names) w.wrote v.wrote));
      stands = v.stands;
    }

-- the whole script is the block at its top, from its first statement on
pub top-stands : (s : Shape) (b : Block) → Stands s b → PartsStand s (From s.top 0 ∷ []) (spellings b)
top-stands s b h = (spellings b, [], sym (append-nil (spellings b)), (h.0, b, h.1, h.2, refl), refl)

pub last-first : (xs ys : List Part) (p : Part) → xs ≡ ys ++ p ∷ [] → reverse xs ≡ p ∷ reverse ys
last-first xs ys p e = ap reverse e ∙ reverse-append ys (p ∷ [])

-- the same where the top is pushed on an empty list
pub first-part : (s : Shape) (top : BlockId) (none parts : List Part) (b : Block) → s.top ≡ top → none ≡ [] → parts ≡ none ++ From top 0 ∷ [] → Stands s b → PartsStand s (reverse parts) (spellings b)
first-part s top none parts b is empty pushed h =
    let e : parts ≡ From s.top 0 ∷ [] = pushed ∙ ap (λ ps. ps ++ From top 0 ∷ []) empty ∙ ap (λ k. From k 0 ∷ []) (sym is) in
    subst (λ (ps : List Part). PartsStand s (reverse ps) (spellings b)) (sym e) (top-stands s b h)
