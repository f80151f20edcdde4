-- How the arenas of a reader stand for the state of the machine.
use Rattle.std.specs.Prelude.{◌≡◌, ℕ, ◌+◌, ◌≤◌, ◌<◌, ◌^◌, List, [], ◌∷◌, ◌++◌, take, drop, Some, map, length, Result, Ok, Err}
use Rattle.rx_rules.specs.Code.{Block}
use Rattle.rx_syntax.specs.Shape.{Shape, IsSmall, ExprStands, ListStands, BlockStands}
use Rattle.rx_syntax.specs.Grammar.{AllInRange, spellings}
use Rattle.rx_script.specs.Inside.Items.{Item}
use Rattle.rx_script.specs.Inside.Machine.{Frame, Fore, Other, Handler, Waits, Free, ForElse, ForCatch, BlocksRead, step}
use Rattle.rx_script.specs.Inside.Pieces.{OpenerStands, ItemStands}
use Rattle.rx_script.specs.Places.{IsPlace}
use Rattle.rx_script.specs.declared.items.Opener.TheVariants as fronts
use Rattle.rx_script.specs.declared.items.Item.{Item as Piece}
use Rattle.rx_syntax.specs.declared.nodes.StmtId.{StmtId}
use Rattle.rx_syntax.specs.declared.nodes.BlockId.{BlockId}
use Rattle.rx_syntax.specs.declared.nodes.Stmt.{Stmt as Node}
use Rattle.rx_syntax.specs.declared.nodes.Stmt.TheVariants.{Async as AsyncNode, AtAsync as AtAsyncNode, At as AtNode}
use Rattle.rx_syntax.specs.declared.nodes.Stmt.TheVariants.{Finish as FinishNode, If as IfNode, Repeat as RepeatNode, Try as TryNode}
use Rattle.rx_syntax.specs.declared.token.Token.{Token}
use Rattle.rx_script.specs.declared.reader.Owner.{Owner}
use Rattle.rx_script.specs.declared.reader.Owner.TheVariants as owners
use Rattle.rx_script.specs.declared.reader.Opened.{Opened}
use Rattle.rx_script.specs.declared.reader.Waiting.{Waiting}
use Rattle.rx_script.specs.declared.reader.Waiting.TheVariants as waitings
use Rattle.rx_script.specs.declared.reader.Reader.{Reader}

-- the blocks of a reader
abbrev pub blocks_of : Reader → List (List StmtId)
blocks_of r = map (λ b. b.items) r.blocks.items

-- the statements, expressions and blocks that are whole
abbrev pub shape_of : Reader → Shape
shape_of r = record { stmts = r.stmts.items; exprs = r.exprs.items; blocks = blocks_of r; names = []; top = record { 0 = 0 } }

-- what an open block belongs to
abbrev pub OwnerStands : Shape → Owner → Frame → Type 0
OwnerStands s (owners.Front front) (Fore o) = OpenerStands s.exprs front o
OwnerStands s (owners.Other test first) (Other e a) = ExprStands s.exprs test e × BlockStands s first a
OwnerStands s (owners.Handler body dead_only) (Handler a d) = BlockStands s body a × (d ≡ dead_only)
OwnerStands s _ _ = ⊥

-- a first block that waits for a second
abbrev pub WaitingStands : Shape → Waiting → Waits → Type 0
WaitingStands s waitings.Free Free = Unit {0}
WaitingStands s (waitings.ForElse test first) (ForElse e a) = ExprStands s.exprs test e × BlockStands s first a
WaitingStands s (waitings.ForCatch body) (ForCatch a) = BlockStands s body a
WaitingStands s _ _ = ⊥

-- The numbers that are pending stand for the statements of the open blocks, and the blocks are opened where their statements begin.
abbrev pub Framed : Shape → List Opened → List StmtId → List (Block × Frame) → Block → Type 0
Framed s opened pending [] so_far = (opened ≡ []) × ListStands s pending so_far
Framed s opened pending (f ∷ outer) so_far =
    (front : List Opened) × (last : Opened) × (before : List StmtId) × (ids : List StmtId)
    × (opened ≡ front ++ last ∷ []) × (pending ≡ before ++ ids) × (last.start ≡ length before) × OwnerStands s last.owner f.1
    × ListStands s ids so_far × Framed s front before outer f.0

-- the reader has read this
abbrev pub ReaderHolds : Reader → BlocksRead → Type 0
ReaderHolds r s = Framed (shape_of r) r.frames.items r.pending.items s.outer s.so_far × WaitingStands (shape_of r) r.waiting s.waits

-- an item may stand next
pub record MayTake (r : Reader) (piece : Piece) : Type 0 where
  pub state : BlocksRead
  pub next : BlocksRead
  pub item : Item
  pub holds : ReaderHolds r state
  pub stands : ItemStands r.exprs.items piece item
  pub steps : step state item ≡ Some next

-- the reader after one item more
abbrev pub Takes : Reader → Piece → Reader → Type 0
Takes old piece new = (s t : BlocksRead) (x : Item) → ReaderHolds old s → ItemStands old.exprs.items piece x → step s x ≡ Some t
    → ReaderHolds new t

-- one statement more, which is pending
pub record Adds (old : Reader) (node : Node) (new : Reader) : Type 0 where
  pub stmts : new.stmts.items ≡ old.stmts.items ++ node ∷ []
  pub pending : new.pending.items ≡ old.pending.items ++ record { 0 = length old.stmts.items } ∷ []
  pub exprs : new.exprs ≡ old.exprs
  pub blocks : new.blocks ≡ old.blocks
  pub frames : new.frames ≡ old.frames
  pub waiting : new.waiting ≡ old.waiting

-- one open block more, and nothing waits
pub record Opens (old : Reader) (owner : Owner) (new : Reader) : Type 0 where
  pub stmts : new.stmts ≡ old.stmts
  pub pending : new.pending ≡ old.pending
  pub exprs : new.exprs ≡ old.exprs
  pub blocks : new.blocks ≡ old.blocks
  pub frames : new.frames.items ≡ old.frames.items ++ record { owner = owner; start = length old.pending.items } ∷ []
  pub waiting : new.waiting ≡ waitings.Free

-- the statements that are pending from there on are now a block
pub record Shuts (old : Reader) (start : ℕ) (new : Reader) : Type 0 where
  pub stmts : new.stmts ≡ old.stmts
  pub pending : new.pending.items ≡ take start old.pending.items
  pub exprs : new.exprs ≡ old.exprs
  pub blocks : blocks_of new ≡ blocks_of old ++ drop start old.pending.items ∷ []
  pub frames : new.frames ≡ old.frames
  pub waiting : new.waiting ≡ old.waiting

-- a first block waits
pub record BeginsWait (old : Reader) (waiting : Waiting) (new : Reader) : Type 0 where
  pub stmts : new.stmts ≡ old.stmts
  pub pending : new.pending ≡ old.pending
  pub exprs : new.exprs ≡ old.exprs
  pub blocks : new.blocks ≡ old.blocks
  pub frames : new.frames ≡ old.frames
  pub waits : new.waiting ≡ waiting

-- what a whole block and what it belongs to make
abbrev pub BlockMakes : Reader → Owner → BlockId → Reader → Type 0
BlockMakes old (owners.Front fronts.Async) k new = Adds old (AsyncNode k) new
BlockMakes old (owners.Front (fronts.AtAsync place)) k new = Adds old (AtAsyncNode place k) new
BlockMakes old (owners.Front (fronts.At place)) k new = Adds old (AtNode place k) new
BlockMakes old (owners.Front fronts.Finish) k new = Adds old (FinishNode k) new
BlockMakes old (owners.Front (fronts.If test)) k new = BeginsWait old (waitings.ForElse test k) new
BlockMakes old (owners.Front (fronts.Repeat times)) k new = Adds old (RepeatNode times k) new
BlockMakes old (owners.Front fronts.Try) k new = BeginsWait old (waitings.ForCatch k) new
BlockMakes old (owners.Other test first) k new = Adds old (IfNode test first k) new
BlockMakes old (owners.Handler body dead_only) k new = Adds old (TryNode body dead_only k) new

-- one statement, block and pending statement more at most, and blocks stay small
pub record GrowsByOne (old new : Reader) : Type 0 where
  pub stmts : length new.stmts.items ≤ length old.stmts.items + 1
  pub exprs : new.exprs ≡ old.exprs
  pub blocks : length (blocks_of new) ≤ length (blocks_of old) + 1
  pub pending : length new.pending.items ≤ length old.pending.items + 1
  pub small : IsSmall (blocks_of old) → length old.pending.items < 2 ^ 32 → IsSmall (blocks_of new)

-- what was read is a script
pub record IsRead (tokens : List Token) (r : Reader) : Type 0 where
  pub script : Block
  pub fits : AllInRange script
  pub spelled : tokens ≡ spellings script
  pub stands : ListStands (shape_of r) r.pending.items script
  pub blocks : length (blocks_of r) < 2 ^ 31
  pub pending : length r.pending.items < 2 ^ 31
  pub small : IsSmall (blocks_of r)

-- tokens are a script, or so many are left from the one that can't go on
abbrev pub IsParsed : List Token → Result Reader ℕ → Type 0
IsParsed tokens (Ok r) = IsRead tokens r
IsParsed tokens (Err left) = (bad : List Token) × (left ≡ length bad) × IsPlace tokens bad
