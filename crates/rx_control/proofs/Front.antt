-- What stands at the front of a stack, and what it does.
use Rattle.std.proofs.Common.{◌≡◌, ℕ, suc, ◌+◌, ◌-◌, ◌<◌, List, [], ◌∷◌, ◌++◌, length, drop, Option, Some, None, Bool, cond, refl, ap, sym, ◌∙◌, subst, append_assoc, arith, length-drop, add-one, nat_le, slice_get, option_to_list, IfSome}
use Rattle.std.proofs.lemmas.List.{at_drop_more}
use Rattle.std.proofs.lemmas.Option.{slice_get_within, get_or_from_slice_get}
use Rattle.rx_rules.proofs.Common.{Fault, Block, Stmt, Nothing, Then, Vars, Empty, Run, Raise, Turns, Trying, Body as BodyTerm, Held as HeldTerm, Does, Local, Waits, Releases, does, stmt_does, items, at, catches}
use Rattle.rx_syntax.specs.declared.nodes.StmtId.{StmtId}
use Rattle.rx_syntax.specs.declared.nodes.BlockId.{BlockId}
use Rattle.rx_syntax.specs.declared.nodes.Stmt.{Stmt as Node}
use Rattle.rx_syntax.specs.Shape.{Shape, ListStands, StmtIs}
use Rattle.rx_control.specs.Levels.{Level, More, Again, Tried, Inside, Waiting, Settled, seq, wrap, term_of}
use Rattle.rx_control.specs.declared.frame.Frame.{Frame}
use Rattle.rx_control.specs.declared.frame.Frame.TheVariants.{Seq}
use Rattle.rx_control.specs.Stands.{path_of, FramesStand}
use Rattle.rx_history.specs.Next.{next_of}
use Rattle.rx_control.specs.Inside.Front.{lifted, PositionStands}
use Rattle.rx_control.proofs.Wrapping.{does-wrap}
use Rattle.rx_control.proofs.Moves.{top-stands, path-snoc}

pub next-lifted : (s : List Level) (d : Does) → next_of (lifted s d) ≡ next_of d
next-lifted s (Local left vars) = refl
next-lifted s _ = refl

-- the statement at the front of a stack
pub record Statement (s : Shape) (base : List ℕ) (below : List Frame) (block : BlockId) (next : ℕ) (part : Option ℕ) (levels : List Level) : Type 0 where
  pub stmt : Stmt
  pub more : Block
  pub others : List Level
  pub is : levels ≡ More (Then stmt more) (path_of base below ++ option_to_list part) next ∷ others
  pub awaits : PositionStands s block next stmt more
  pub rest : FramesStand s base below others

pub statement : (s : Shape) (base : List ℕ) (below : List Frame) (block : BlockId) (next : ℕ) (part : Option ℕ) (levels : List Level) → FramesStand s base (below ++ Seq block next part ∷ []) levels → Settled None levels → Statement s base below block next part levels
statement s base below block next part levels h k =
    let t = top-stands s base below (Seq block next part) levels h in
    by-left t.others t.stands.0 (t.is ∙ ap (λ g. g ∷ t.others) t.stands.2) t.stands.1 t.stands.3 t.stands.4 t.rest
  where
    by-left : (gs : List Level) (left : Block) → levels ≡ More left (path_of base below ++ option_to_list part) next ∷ gs → (ids : List StmtId) → slice_get s.blocks block.0 ≡ Some ids → ListStands s (drop next ids) left → FramesStand s base below gs → Statement s base below block next part levels
    by-left gs Nothing e ids b l r = let P : List Level → Type 0 = λ ls. Settled None ls in absurd (subst P e k)
    by-left gs (Then t ts) e ids b l r = record { stmt = t; more = ts; others = gs; is = e; awaits = record { ids = ids; block_is = b; left = l }; rest = r }

-- what stands at the front does

pub does-statement : (vars : Vars) (here : ℕ) (stmt : Stmt) (more : Block) (x : List ℕ) (i : ℕ) (gs : List Level) → does vars here (term_of None (More (Then stmt more) x i ∷ gs)) ≡ lifted gs (stmt_does vars here stmt (at x i) (seq (More more x (suc i) ∷ gs)))
does-statement vars here stmt more x i gs = does-wrap vars here (Run stmt (at x i) (seq (More more x (suc i) ∷ gs))) gs tt

pub does-turns : (vars : Vars) (here : ℕ) (b : Block) (x : List ℕ) (k n : ℕ) (gs : List Level) → does vars here (term_of None (Again b x k n ∷ gs)) ≡ Local (wrap (cond (nat_le n k) (seq gs) (items b (at x k) (Turns b x (suc k) n (seq gs)))) gs) vars
does-turns vars here b x k n gs = does-wrap vars here (Turns b x k n (seq gs)) gs tt

pub does-tried : (vars : Vars) (here : ℕ) (d : Bool) (b : Block) (x : List ℕ) (gs : List Level) → does vars here (term_of None (Tried d b x ∷ gs)) ≡ Local (wrap (seq gs) gs) vars
does-tried vars here d b x gs = does-wrap vars here (Trying Empty d b x (seq gs)) gs tt

pub does-inside : (vars : Vars) (here : ℕ) (gs : List Level) → does vars here (term_of None (Inside ∷ gs)) ≡ Waits []
does-inside vars here gs = does-wrap vars here (BodyTerm Empty (seq gs)) gs tt

pub does-waiting : (vars : Vars) (here : ℕ) (gs : List Level) → does vars here (term_of None (Waiting ∷ gs)) ≡ Releases
does-waiting vars here gs = does-wrap vars here (HeldTerm (seq gs)) gs tt

pub does-raised-tried : (vars : Vars) (here : ℕ) (faults : List Fault) (d : Bool) (b : Block) (x : List ℕ) (gs : List Level) → does vars here (term_of (Some faults) (Tried d b x ∷ gs)) ≡ Local (wrap (cond (catches d faults) (items b (at x 1) (seq gs)) (Raise faults)) gs) vars
does-raised-tried vars here faults d b x gs = does-wrap vars here (Trying (Raise faults) d b x (seq gs)) gs tt

pub does-raised-inside : (vars : Vars) (here : ℕ) (faults : List Fault) (gs : List Level) → does vars here (term_of (Some faults) (Inside ∷ gs)) ≡ Waits faults
does-raised-inside vars here faults gs = does-wrap vars here (BodyTerm (Raise faults) (seq gs)) gs tt

-- the statements after one
first-id : (s : Shape) (n : ℕ) (ids : List StmtId) (stmt : Stmt) (more : Block) → ListStands s (drop n ids) (Then stmt more) → n < length ids
first-id s n ids stmt more h = by-list (drop n ids) refl h
  where
    by-list : (l : List StmtId) → l ≡ drop n ids → ListStands s l (Then stmt more) → n < length ids
    by-list [] q k = absurd k
    by-list (i ∷ l) q k = omega (arith, ap length q, length-drop n ids)

-- the statement at a position, and the position after it
pub record Taken (s : Shape) (block : BlockId) (next : ℕ) (stmt : Stmt) (more : Block) (id : StmtId) : Type 0 where
  pub node : Node
  pub there : slice_get s.stmts id.0 ≡ Some node
  pub is : StmtIs s node stmt
  pub ids : List StmtId
  pub block_is : slice_get s.blocks block.0 ≡ Some ids
  pub left : ListStands s (drop (next + 1) ids) more

pub awaits-taken : (s : Shape) (block : BlockId) (next : ℕ) (stmt : Stmt) (more : Block) (id : StmtId) → PositionStands s block next stmt more → IfSome (slice_get s.blocks block.0) (λ ids. slice_get ids next ≡ Some id) → Taken s block next stmt more id
awaits-taken s block next stmt more id a h =
    let g : slice_get a.ids next ≡ Some id = let P : Option (List StmtId) → Type 0 = λ o. IfSome o (λ ids. slice_get ids next ≡ Some id) in subst P a.block_is h in
    let e = at_drop_more {Y = List StmtId} (λ l. l) a.ids next id (slice_get_within a.ids next id g) ∙ ap (λ y. y ∷ drop (next + 1) a.ids) (get_or_from_slice_get a.ids next id id g) in
    let P : List StmtId → Type 0 = λ l. ListStands s l (Then stmt more) in
    let k = subst P e a.left in
    record { node = k.0.0; there = k.0.1; is = k.0.2; ids = a.ids; block_is = a.block_is; left = k.1 }

-- the frame after a statement
pub awaits-more : (s : Shape) (block : BlockId) (next : ℕ) (stmt : Stmt) (more : Block) → (a : PositionStands s block next stmt more) → ListStands s (drop (next + 1) a.ids) more
awaits-more s block next stmt more a =
    let P : List StmtId → Type 0 = λ l. ListStands s l (Then stmt more) in
    let d : StmtId = record { 0 = 0 } in
    let k = subst P (at_drop_more {Y = List StmtId} (λ l. l) a.ids next d (first-id s next a.ids stmt more a.left)) a.left in k.1

pub gone-on : (s : Shape) (base : List ℕ) (below frames : List Frame) (block : BlockId) (next : ℕ) (part : Option ℕ) (stmt : Stmt) (more : Block) (others : List Level) → PositionStands s block next stmt more → FramesStand s base below others → frames ≡ below ++ Seq block (next + 1) part ∷ [] → FramesStand s base frames (More more (path_of base below ++ option_to_list part) (suc next) ∷ others)
gone-on s base below frames block next part stmt more others a h e = (
  Seq block (next + 1) part,
  below,
  e,
  (more, a.ids, ap (More more (path_of base below ++ option_to_list part)) (sym (add-one next)), a.block_is, awaits-more s block next stmt more a),
  h,
)

-- the path of the statement that was begun
pub begun-path : (base : List ℕ) (below : List Frame) (block : BlockId) (next : ℕ) (part : Option ℕ) → path_of base (below ++ Seq block (next + 1) part ∷ []) ≡ at (path_of base below ++ option_to_list part) next
begun-path base below block next part =
    let n : next + 1 - 1 ≡ next = omega arith in
    path-snoc base below (Seq block (next + 1) part)
    ∙ ap (λ k. path_of base below ++ (option_to_list part ++ k ∷ [])) n
    ∙ sym (append_assoc (path_of base below) (option_to_list part) (next ∷ []))
