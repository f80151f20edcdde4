-- Answers of the store and grants of the ledger.
use Rattle.std.proofs.Common.{◌≡◌, ℕ, suc, List, [], ◌∷◌, length, Option, Some, None, Bool, refl, ap, ◌∙◌, Ok, Err}
use Rattle.rx_rules.proofs.Common.{Fault, Value, Expr, Block, Stmt, SetTo, At, Finish, Then, Term, Empty, Run, Raise, Turns as TurnsTerm, Trying, Body as BodyTerm, Held as HeldTerm, Fails, answered, answer_of, replaced, after_it, receives, stmt_receives, granted, stmt_granted, or_raise, at}
use Rattle.rx_syntax.specs.declared.nodes.ExprId.{ExprId}
use Rattle.rx_syntax.specs.declared.nodes.BlockId.{BlockId}
use Rattle.rx_syntax.specs.declared.nodes.Stmt.TheVariants.{Finish as FinishNode, At as AtNode}
use Rattle.rx_syntax.specs.Shape.{Shape, StmtIs, BlockStands}
use Rattle.rx_control.specs.Levels.{Level, More, Again, Tried, Inside, Waiting, seq, wrap, term_of}
use Rattle.rx_control.specs.Inside.Front.{levels_opened}
use Rattle.rx_control.proofs.Wrapping.{replaced-wrap, after-wrap, receives-wrap, granted-wrap}

pub finish-is : (s : Shape) (body : BlockId) (t : Stmt) → StmtIs s (FinishNode body) t → (b : Block) × (t ≡ Finish b) × BlockStands s body b
finish-is s body (Finish b) h = (b, refl, h)
finish-is s body _ h = absurd h

pub at-is : (s : Shape) (place : ExprId) (body : BlockId) (t : Stmt) → StmtIs s (AtNode place body) t → (e : Expr) × (b : Block) × (t ≡ At e b)
at-is s place body (At e b) h = (e, b, refl)
at-is s place body _ h = absurd h

pub answered-err : (fault : Fault) (o : Option ℕ) → answer_of o (Err fault) ≡ Fails fault
answered-err fault (Some name) = refl
answered-err fault None = refl

answered-ok : (v : Option Value) (o : Option ℕ) (t : Term) → answered (answer_of o (Ok v)) t ≡ replaced t (after_it t)
answered-ok (Some v) (Some name) t = refl
answered-ok None (Some name) t = refl
answered-ok v None t = refl

pub receives-front : (stmt : Stmt) (more : Block) (x : List ℕ) (i : ℕ) (gs : List Level) → receives (term_of None (More (Then stmt more) x i ∷ gs)) ≡ stmt_receives stmt
receives-front stmt more x i gs = receives-wrap (Run stmt (at x i) (seq (More more x (suc i) ∷ gs))) gs

pub fails-front : (fault : Fault) (stmt : Stmt) (more : Block) (x : List ℕ) (i : ℕ) (gs : List Level) → answered (Fails fault) (term_of None (More (Then stmt more) x i ∷ gs)) ≡ term_of (Some (fault ∷ [])) (More (Then stmt more) x i ∷ gs)
fails-front fault stmt more x i gs = replaced-wrap (Raise (fault ∷ [])) (Run stmt (at x i) (seq (More more x (suc i) ∷ gs))) gs

pub goes-front : (v : Option Value) (o : Option ℕ) (stmt : Stmt) (more : Block) (x : List ℕ) (i : ℕ) (gs : List Level) → answered (answer_of o (Ok v)) (term_of None (More (Then stmt more) x i ∷ gs)) ≡ term_of None (More more x (suc i) ∷ gs)
goes-front v o stmt more x i gs =
    let r = Run stmt (at x i) (seq (More more x (suc i) ∷ gs)) in
    answered-ok v o (wrap r gs) ∙ ap (replaced (wrap r gs)) (after-wrap r gs) ∙ replaced-wrap (seq (More more x (suc i) ∷ gs)) r gs

-- grants

opened-term : (stmt : Stmt) (y : List ℕ) (more : Block) (x : List ℕ) (k : ℕ) (gs : List Level) → wrap (stmt_granted stmt y (seq (More more x k ∷ gs))) gs ≡ term_of None (levels_opened stmt y (More more x k ∷ gs))
opened-term (SetTo name value) y more x k gs = refl
opened-term _ y more x k gs = refl

pub granted-front : (faults : List Fault) (stmt : Stmt) (more : Block) (x : List ℕ) (i : ℕ) (gs : List Level) → granted faults (term_of None (More (Then stmt more) x i ∷ gs)) ≡ term_of None (levels_opened stmt (at x i) (More more x (suc i) ∷ gs))
granted-front faults stmt more x i gs =
    granted-wrap faults (Run stmt (at x i) (seq (More more x (suc i) ∷ gs))) gs tt ∙ opened-term stmt (at x i) more x (suc i) gs

pub granted-inside : (faults : List Fault) (r : Option (List Fault)) (gs : List Level) → granted faults (term_of r (Inside ∷ gs)) ≡ term_of None (Waiting ∷ gs)
granted-inside faults None gs = granted-wrap faults (BodyTerm Empty (seq gs)) gs tt
granted-inside faults (Some fs) gs = granted-wrap faults (BodyTerm (Raise fs) (seq gs)) gs tt

pub granted-waiting : (faults : List Fault) (gs : List Level) → granted faults (term_of None (Waiting ∷ gs)) ≡ wrap (or_raise faults (seq gs)) gs
granted-waiting faults gs = granted-wrap faults (HeldTerm (seq gs)) gs tt

pub raised-or : (faults : List Fault) (rest : Term) → (length faults ≡ 0 → ⊥) → or_raise faults rest ≡ Raise faults
raised-or [] rest h = absurd (h refl)
raised-or (f ∷ fs) rest h = refl

pub calm-or : (faults : List Fault) (rest : Term) → length faults ≡ 0 → or_raise faults rest ≡ rest
calm-or [] rest h = refl
calm-or (f ∷ fs) rest h = absurd (cc)

pub granted-turns : (faults : List Fault) (b : Block) (x : List ℕ) (k n : ℕ) (gs : List Level) → granted faults (term_of None (Again b x k n ∷ gs)) ≡ term_of None (Again b x k n ∷ gs)
granted-turns faults b x k n gs = granted-wrap faults (TurnsTerm b x k n (seq gs)) gs tt

pub granted-tried : (faults : List Fault) (r : Option (List Fault)) (d : Bool) (b : Block) (x : List ℕ) (gs : List Level) → granted faults (term_of r (Tried d b x ∷ gs)) ≡ term_of r (Tried d b x ∷ gs)
granted-tried faults None d b x gs = granted-wrap faults (Trying Empty d b x (seq gs)) gs tt
granted-tried faults (Some fs) d b x gs = granted-wrap faults (Trying (Raise fs) d b x (seq gs)) gs tt
