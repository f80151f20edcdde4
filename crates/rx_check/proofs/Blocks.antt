-- The blocks of a statement.
use Rattle.std.proofs.Common.{◌≡◌, ℕ, suc, ◌+◌, ◌*◌, List, [], ◌++◌, refl, ap}
use Rattle.rx_rules.proofs.Common.{Stmt, SetTo, New, Get, Put, Forget, Census, Print, Throw, Async, AtAsync, At, Finish, If, Repeat, Try, Block, work, work_of}
use Rattle.rx_syntax.specs.Shape.{Shape, StmtIs, BlockStands}
use Rattle.rx_syntax.specs.declared.nodes.Stmt.{Stmt as Node}
use Rattle.rx_syntax.specs.declared.nodes.Stmt.TheVariants.{Set as SetNode, New as NewNode, Get as GetNode, Put as PutNode, Forget as ForgetNode, Census as CensusNode, Print as PrintNode, Throw as ThrowNode, Async as AsyncNode, AtAsync as AtAsyncNode, At as AtNode, Finish as FinishNode, If as IfNode, Repeat as RepeatNode, Try as TryNode}
use Rattle.rx_check.specs.Rules.{inside, sights}
use Rattle.rx_check.specs.Inside.Walk.{bodies_of, work_with}
use Rattle.rx_check.specs.declared.parts.Bodies.{Bodies}
use Rattle.rx_check.specs.declared.parts.Bodies.TheVariants.{No as NoBody, One as OneBody, Two as TwoBodies}

-- the statements inside a statement and its work, by its blocks
abbrev pub BodiesAre : Shape → Bodies → Node → Stmt → Type 0
BodiesAre s NoBody node t = ((known : List ℕ) (depth : ℕ) → inside known depth t ≡ []) × (work_of t ≡ work_with node 0 0)
BodiesAre s (OneBody k) node t =
    (b : Block) × BlockStands s k b × ((known : List ℕ) (depth : ℕ) → inside known depth t ≡ sights known (suc depth) b) × (work_of t ≡ work_with node (work b) 0)
BodiesAre s (TwoBodies k l) node t =
    (a : Block) × (b : Block) × BlockStands s k a × BlockStands s l b
    × ((known : List ℕ) (depth : ℕ) → inside known depth t ≡ sights known (suc depth) a ++ sights known (suc depth) b)
    × (work_of t ≡ work_with node (work a) (work b))

pub bodies-are : (s : Shape) (node : Node) (t : Stmt) → StmtIs s node t → BodiesAre s (bodies_of node) node t
bodies-are s (SetNode name value) (SetTo n e) h = (λ known depth. refl, refl)
bodies-are s (NewNode name words) (New n w) h = (λ known depth. refl, refl)
bodies-are s (GetNode name target index) (Get n t e) h = (λ known depth. refl, refl)
bodies-are s (PutNode target index value) (Put t e f) h = (λ known depth. refl, refl)
bodies-are s (ForgetNode target) (Forget t) h = (λ known depth. refl, refl)
bodies-are s (CensusNode name) (Census n) h = (λ known depth. refl, refl)
bodies-are s (PrintNode value) (Print e) h = (λ known depth. refl, refl)
bodies-are s (ThrowNode value) (Throw e) h = (λ known depth. refl, refl)
bodies-are s (AsyncNode body) (Async b) h = (b, (h.0, h.1, h.2), λ known depth. refl, refl)
bodies-are s (AtAsyncNode place body) (AtAsync e b) h = (b, (h.0, h.1, h.2), λ known depth. refl, refl)
bodies-are s (AtNode place body) (At e b) h = (b, (h.0, h.1, h.2), λ known depth. refl, refl)
bodies-are s (FinishNode body) (Finish b) h = (b, (h.0, h.1, h.2), λ known depth. refl, refl)
bodies-are s (IfNode test first other) (If e a b) h = (a, b, (h.0, h.1, h.2), h.3, λ known depth. refl, refl)
bodies-are s (RepeatNode times body) (Repeat n b) h = (b, (h.0, h.1, h.2), λ known depth. refl, ap (λ k. 1 + k * (1 + work b)) h.3)
bodies-are s (TryNode body dead_only handler) (Try a d b) h = (a, b, (h.0, h.1, h.2), h.3, λ known depth. refl, refl)
bodies-are s _ _ h = absurd h
