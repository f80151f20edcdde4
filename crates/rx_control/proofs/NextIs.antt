-- What the term of a control does, by its innermost frame.
use Rattle.std.proofs.Common.{◌≡◌, ℕ, suc, List, [], ◌∷◌, ◌++◌, Option, Some, None, Bool, cond, refl, ap, sym, ◌∙◌, subst, nat_le, option_to_list}
use Rattle.rx_rules.proofs.Common.{Fault, Vars, Term, Raise, Turns as TurnsTerm, Does, Local, Waits, Releases, does, stmt_does, items, at, catches}
use Rattle.rx_syntax.specs.declared.nodes.BlockId.{BlockId}
use Rattle.rx_syntax.specs.Shape.{Shape}
use Rattle.rx_control.specs.Levels.{More, seq, wrap}
use Rattle.rx_control.specs.declared.frame.Frame.{Frame}
use Rattle.rx_control.specs.declared.frame.Frame.TheVariants.{Turns, Try, Body, Held}
use Rattle.rx_control.specs.declared.control.Control.{Control}
use Rattle.rx_control.specs.Stands.{path_of, AfterLocalStep}
use Rattle.rx_history.specs.Next.{next_of}
use Rattle.rx_history.specs.declared.step.Next.TheVariants.{Local as LocalStep}
use Rattle.rx_control.specs.Inside.Front.{lifted, AtStatement}
use Rattle.rx_control.proofs.Front.{does-statement, does-turns, does-tried, does-inside, does-waiting, does-raised-tried, does-raised-inside}
use Rattle.rx_control.proofs.Standing.{AtTop, calm-turns, at-turns, at-tried, at-inside, at-waiting}

pub stmt-does : (s : Shape) (c : Control) (t : Term) (below : List Frame) (block : BlockId) (next : ℕ) (part : Option ℕ) (a : AtStatement s c t below block next part) (vars : Vars) (here : ℕ) → does vars here t ≡ lifted a.others (stmt_does vars here a.stmt (at (path_of c.base below ++ option_to_list part) next) (seq (More a.more (path_of c.base below ++ option_to_list part) (suc next) ∷ a.others)))
stmt-does s c t below block next part a vars here =
    ap (does vars here) a.is ∙ does-statement vars here a.stmt a.more (path_of c.base below ++ option_to_list part) next a.others

pub turns-does : (s : Shape) (c : Control) (t : Term) (below : List Frame) (body : BlockId) (k n : ℕ) → c.raised ≡ None → (a : AtTop s c t below (Turns body k n)) (vars : Vars) (here : ℕ) → does vars here t ≡ Local (wrap (cond (nat_le n k) (seq a.others) (items a.stands.0 (at (path_of c.base below) k) (TurnsTerm a.stands.0 (path_of c.base below) (suc k) n (seq a.others)))) a.others) vars
turns-does s c t below body k n r a vars here =
    ap (does vars here) (at-turns s c t below body k n r a) ∙ does-turns vars here a.stands.0 (path_of c.base below) k n a.others

pub tried-does : (s : Shape) (c : Control) (t : Term) (below : List Frame) (d : Bool) (b : BlockId) → c.raised ≡ None → (a : AtTop s c t below (Try d b)) (vars : Vars) (here : ℕ) → does vars here t ≡ Local (wrap (seq a.others) a.others) vars
tried-does s c t below d b r a vars here =
    ap (does vars here) (at-tried s c t below d b None r a) ∙ does-tried vars here d a.stands.0 (path_of c.base below) a.others

pub raised-tried-does : (s : Shape) (c : Control) (t : Term) (below : List Frame) (d : Bool) (b : BlockId) (faults : List Fault) → c.raised ≡ Some faults → (a : AtTop s c t below (Try d b)) (vars : Vars) (here : ℕ) → does vars here t ≡ Local (wrap (cond (catches d faults) (items a.stands.0 (at (path_of c.base below) 1) (seq a.others)) (Raise faults)) a.others) vars
raised-tried-does s c t below d b faults r a vars here =
    ap (does vars here) (at-tried s c t below d b (Some faults) r a) ∙ does-raised-tried vars here faults d a.stands.0 (path_of c.base below) a.others

pub inside-does : (s : Shape) (c : Control) (t : Term) (below : List Frame) → c.raised ≡ None → (a : AtTop s c t below Body) (vars : Vars) (here : ℕ) → does vars here t ≡ Waits []
inside-does s c t below r a vars here =
    ap (does vars here) (at-inside s c t below None r a) ∙ does-inside vars here a.others

pub raised-inside-does : (s : Shape) (c : Control) (t : Term) (below : List Frame) (faults : List Fault) → c.raised ≡ Some faults → (a : AtTop s c t below Body) (vars : Vars) (here : ℕ) → does vars here t ≡ Waits faults
raised-inside-does s c t below faults r a vars here =
    ap (does vars here) (at-inside s c t below (Some faults) r a) ∙ does-raised-inside vars here faults a.others

pub waiting-does : (s : Shape) (c : Control) (t : Term) (below : List Frame) → c.raised ≡ None → (a : AtTop s c t below Held) (vars : Vars) (here : ℕ) → does vars here t ≡ Releases
waiting-does s c t below r a vars here =
    ap (does vars here) (at-waiting s c t below r a) ∙ does-waiting vars here a.others

-- at the end of a finish's body the ledger is asked
pub inside-leaves : (s : Shape) (c d : Control) (t : Term) (below : List Frame) (a : AtTop s c t below Body) (vars : Vars) (here : ℕ) → AfterLocalStep s d (does vars here t)
inside-leaves s c d t below a vars here = by-raised c.raised refl
  where
    by-raised : (r : Option (List Fault)) → c.raised ≡ r → AfterLocalStep s d (does vars here t)
    by-raised None e = let P : Does → Type 0 = λ x. AfterLocalStep s d x in subst P (sym (inside-does s c t below e a vars here)) tt
    by-raised (Some faults) e = let P : Does → Type 0 = λ x. AfterLocalStep s d x in subst P (sym (raised-inside-does s c t below faults e a vars here)) tt

-- turns and tries go on by local steps
pub turns-local : (s : Shape) (c : Control) (t : Term) (below : List Frame) (body : BlockId) (k n : ℕ) (a : AtTop s c t below (Turns body k n)) (vars : Vars) (here : ℕ) → next_of (does vars here t) ≡ LocalStep
turns-local s c t below body k n a vars here =
    ap next_of (turns-does s c t below body k n (calm-turns s c t below body k n a) a vars here)

pub try-local : (s : Shape) (c : Control) (t : Term) (below : List Frame) (d : Bool) (b : BlockId) (a : AtTop s c t below (Try d b)) (vars : Vars) (here : ℕ) → next_of (does vars here t) ≡ LocalStep
try-local s c t below d b a vars here = by-raised c.raised refl
  where
    by-raised : (r : Option (List Fault)) → c.raised ≡ r → next_of (does vars here t) ≡ LocalStep
    by-raised None e = ap next_of (tried-does s c t below d b e a vars here)
    by-raised (Some faults) e = ap next_of (raised-tried-does s c t below d b faults e a vars here)
