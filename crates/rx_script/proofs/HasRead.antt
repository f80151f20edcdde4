-- What a reader has read of the tokens.
use Rattle.std.proofs.Common.{◌≡◌, ◌+◌, ◌<◌, ◌≤◌, ◌^◌, List, [], ◌∷◌, ◌++◌, length, vec_len, refl, ap, sym, ◌∙◌, subst, arith, append-nil, length-append, Vec, Global, true, false, Some, Result, Ok, Err, IfOk, option_and_then, slice_get}
use Rattle.rx_base.proofs.Elements.{get-last}
use Rattle.rx_rules.proofs.Common.{Stmt, SetTo, Block}
use Rattle.rx_syntax.specs.Shape.{Shape, IsSmall, ListStands, BlockStands}
use Rattle.rx_syntax.specs.Grammar.{spelling}
use Rattle.rx_script.specs.Inside.Items.{Opener, ByAsync, Item, Whole, Open, Close, Else, Catch, item_words, opener_words, item_at, Mode, Outermost}
use Rattle.rx_script.specs.Inside.Machine.{Frame, Waits, Free, ForElse, ForCatch, BlocksRead, free, step, items_run, mode_in, mode}
use Rattle.rx_script.specs.Inside.Pieces.{mode_of, Grows, ItemStands, IsItemAnswer}
use Rattle.rx_script.specs.Places.{IsPlace}
use Rattle.rx_script.specs.Inside.Arena.{ReaderHolds, MayTake, Takes, GrowsByOne, IsRead, blocks_of}
use Rattle.rx_syntax.specs.declared.token.Token.{Token}
use Rattle.rx_script.specs.declared.items.Item.{Item as Piece}
use Rattle.rx_script.specs.declared.items.Mode.{Mode as Stand}
use Rattle.rx_script.specs.declared.items.Mode.TheVariants as stands
use Rattle.rx_syntax.specs.declared.nodes.Expr.{Expr as Part}
use Rattle.rx_syntax.specs.declared.nodes.StmtId.{StmtId}
use Rattle.rx_script.specs.declared.reader.Reader.{Reader}
use Rattle.rx_script.proofs.Runs.{words, some-and, start, run-append}
use Rattle.rx_script.proofs.Spelt.{takes}
use Rattle.rx_script.proofs.Places.{HasRun, place, run-more, script-read}
use Rattle.rx_script.proofs.Arena.{Extends, extends-by, list-grows, holds-exprs}

pub record HasRead (r : Reader) (tokens rest : List Token) : Type 0 where
  pub items : List Item
  pub state : BlocksRead
  pub holds : ReaderHolds r state
  pub whole : tokens ≡ words items ++ rest
  pub runs : HasRun items state
  pub stmts : length r.stmts.items + length rest ≤ length tokens
  pub exprs : length r.exprs.items + length rest ≤ length tokens
  pub blocks : length (blocks_of r) + length rest ≤ length tokens
  pub pending : length r.pending.items + length rest ≤ length tokens
  pub small : IsSmall (blocks_of r)

-- an item has a token
spelling-some : (s : Stmt) → 0 < length (spelling s)
spelling-some (SetTo n e) = omega arith
spelling-some _ = omega arith

opener-some : (o : Opener) → 0 < length (opener_words o)
opener-some ByAsync = omega arith
opener-some _ = omega arith

item-some : (x : Item) → 0 < length (item_words x)
item-some (Whole s) = spelling-some s
item-some (Open o) = opener-some o
item-some Close = omega arith
item-some Else = omega arith
item-some (Catch false) = omega arith
item-some (Catch true) = omega arith

pub shorter : (m : Mode) (rest after : List Token) (x : Item) → item_at m rest ≡ Ok (x, after) → length after < length rest
shorter m rest after x e =
    let k = takes m rest (x, after) e in
    omega (arith, ap length k.1, length-append (item_words x) after, item-some x)

-- the step of the last item
last-step : (xs : List Item) (s t : BlocksRead) (x : Item) → items_run start xs ≡ Some s → items_run start (xs ++ x ∷ []) ≡ Some t → step s x ≡ Some t
last-step xs s t x e f =
    let one : items_run s (x ∷ []) ≡ Some t = ap (option_and_then (λ v. items_run v (x ∷ []))) (sym e) ∙ sym (run-append start xs (x ∷ [])) ∙ f in
    let m = some-and (step s x) (λ v. items_run v []) t one in
    m.1 ∙ m.2

-- an item was read, with these expressions
pub record Reads (r : Reader) (es : Vec Part Global) (m : Mode) (rest after : List Token) (piece : Piece) : Type 0 where
  pub grows : Grows r.exprs.items es.items
  pub item : Item
  pub stands : ItemStands es.items piece item
  pub reads : item_at m rest ≡ Ok (item, after)

pub reads-of : {S : Type 0} (r : Reader) (es : Vec Part Global) (m n : Mode) (rest : List Token) (piece : Piece) (after : S) (left : S → List Token) (a : Result (Piece × S) S) → Grows r.exprs.items es.items → m ≡ n → a ≡ Ok (piece, after) → IsItemAnswer es.items a left (item_at m rest) → Reads r es n rest (left after) piece
reads-of {S} r es m n rest piece after left a g e f h =
    let k : IsItemAnswer es.items (Ok (piece, after)) left (item_at m rest) = subst (λ (b : Result (Piece × S) S). IsItemAnswer es.items b left (item_at m rest)) f h in
    record { grows = g; item = k.0; stands = k.1; reads = ap (λ o. item_at o rest) (sym e) ∙ k.2 }

pub refused-of : {S : Type 0} (es : List Part) (m n : Mode) (rest : List Token) (bad : S) (left : S → List Token) (a : Result (Piece × S) S) → m ≡ n → a ≡ Err bad → IsItemAnswer es a left (item_at m rest) → item_at n rest ≡ Err (left bad)
refused-of {S} es m n rest bad left a e f h =
    let k : IsItemAnswer es (Err bad) left (item_at m rest) = subst (λ (b : Result (Piece × S) S). IsItemAnswer es b left (item_at m rest)) f h in
    ap (λ o. item_at o rest) (sym e) ∙ k

pub ok-at : {A E : Type 0} (P : A → Type 0) (r : Result A E) (a : A) → r ≡ Ok a → IfOk r P → P a
ok-at {A} {E} P r a e h = subst (λ (o : Result A E). IfOk o P) e h

-- it may stand there
pub may-take : (r : Reader) (es : Vec Part Global) (tokens rest after : List Token) (piece : Piece) (i : HasRead r tokens rest) → Reads r es (mode i.state) rest after piece → MayTake (record r { exprs = es }) piece
may-take r es tokens rest after piece i a =
    let t = run-more i.items i.state rest a.item after i.runs a.reads in
    record {
      state = i.state;
      next = t.0;
      item = a.item;
      holds = holds-exprs r es i.state a.grows i.holds;
      stands = a.stands;
      steps = last-step i.items i.state t.0 a.item i.runs.runs t.1.runs;
    }

-- one item more
pub reads-more : (r : Reader) (es : Vec Part Global) (new : Reader) (tokens rest after : List Token) (piece : Piece) (i : HasRead r tokens rest) → Reads r es (mode i.state) rest after piece → vec_len es + length after ≤ vec_len r.exprs + length rest → Takes (record r { exprs = es }) piece new → GrowsByOne (record r { exprs = es }) new → length tokens < 2 ^ 31 → HasRead new tokens after
reads-more r es new tokens rest after piece i a few k n short =
    let t = run-more i.items i.state rest a.item after i.runs a.reads in
    let l = shorter (mode i.state) rest after a.item a.reads in
    record {
      items = i.items ++ a.item ∷ [];
      state = t.0;
      holds = k i.state t.0 a.item (holds-exprs r es i.state a.grows i.holds) a.stands (last-step i.items i.state t.0 a.item i.runs.runs t.1.runs);
      whole = i.whole ∙ t.2;
      runs = t.1;
      stmts = omega (arith, n.stmts, i.stmts, l);
      exprs = omega (arith, ap (λ (v : Vec Part Global). length v.items) n.exprs, i.exprs, few, es.ok.0, r.exprs.ok.0);
      blocks = omega (arith, n.blocks, i.blocks, l);
      pending = omega (arith, n.pending, i.pending, l);
      small = n.small i.small (omega (arith, i.pending, short));
    }

-- where no item can be read is the place
pub stops-at : (r : Reader) (tokens rest bad : List Token) (i : HasRead r tokens rest) → item_at (mode i.state) rest ≡ Err bad → (mode i.state ≡ Outermost → rest ≡ [] → ⊥) → IsPlace tokens bad
stops-at r tokens rest bad i e n =
    subst (λ (ts : List Token). IsPlace ts bad) (sym i.whole) (place i.items i.state rest bad i.runs (λ us z f. n (ap mode f) z) e)

-- a state that nothing waits for
outermost-in : (w : Waits) (outer : List (Block × Frame)) → mode_in w outer ≡ Outermost → (w ≡ Free) × (outer ≡ [])
outermost-in Free [] e = (refl, refl)
outermost-in Free (f ∷ outer) e = cc
outermost-in (ForElse c a) outer e = cc
outermost-in (ForCatch a) outer e = cc

state-is : (s : BlocksRead) → mode s ≡ Outermost → s ≡ free [] s.so_far
state-is s e =
    let p = outermost-in s.waits s.outer e in
    let one : s ≡ record { outer = []; so_far = s.so_far; waits = s.waits } = ap (λ (o : List (Block × Frame)). record { outer = o; so_far = s.so_far; waits = s.waits }) p.1 in
    one ∙ ap (λ (w : Waits). record { outer = []; so_far = s.so_far; waits = w }) p.0

-- the tokens are the script's where none is left and no block is open
pub all-read : (r : Reader) (tokens rest : List Token) → HasRead r tokens rest → (m : (s : BlocksRead) → ReaderHolds r s → mode s ≡ Outermost) → rest ≡ [] → length tokens < 2 ^ 31 → IsRead tokens r
all-read r tokens rest i m n short =
    let e = state-is i.state (m i.state i.holds) in
    let t = i.state.so_far in
    let h : ReaderHolds r (free [] t) = subst (λ (s : BlocksRead). ReaderHolds r s) e i.holds in
    let k = script-read i.items t (record { items = i.runs.items; runs = i.runs.runs ∙ ap Some e }) in
    record {
      script = t;
      fits = k.0;
      spelled = i.whole ∙ ap (λ ts. words i.items ++ ts) n ∙ append-nil (words i.items) ∙ k.1;
      stands = h.0.1;
      blocks = omega (arith, i.blocks, short);
      pending = omega (arith, i.pending, short);
      small = i.small;
    }

pub mode-outermost : (m : Stand) → mode_of m ≡ Outermost → m ≡ stands.Outermost
mode-outermost stands.Outermost e = refl
mode-outermost stands.Inside e = cc
mode-outermost stands.AfterFirst e = cc
mode-outermost stands.AfterBody e = cc

-- the block of the whole script
pub stands-top : (s t : Shape) (ids : List StmtId) (b : Block) → t.stmts ≡ s.stmts → t.exprs ≡ s.exprs → t.blocks ≡ s.blocks ++ ids ∷ [] → t.top.0 ≡ length s.blocks → ListStands s ids b → BlockStands t t.top b
stands-top s t ids b es ee eb et h =
    let x : Extends s t = extends-by s t [] [] (ids ∷ []) (es ∙ sym (append-nil s.stmts)) (ee ∙ sym (append-nil s.exprs)) eb in
    (ids, ap (λ us. slice_get us t.top.0) eb ∙ get-last s.blocks ids t.top.0 et, list-grows s t x ids b h)
