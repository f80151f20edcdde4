-- What a control carries, and where no statement is begun.
use Rattle.std.proofs.Common.{◌≡◌, ℕ, suc, List, [], ◌∷◌, ◌++◌, Option, Some, None, Bool, refl, ap, sym, ◌∙◌, subst, unwrap_or, option_to_list}
use Rattle.std.proofs.lemmas.Option.{same_Some, none-some}
use Rattle.rx_rules.proofs.Common.{Fault, Block, Stmt, Nothing, Then, Vars, Term, Empty, Run, Raise, Turns as TurnsTerm, Trying, Body as BodyTerm, Held as HeldTerm, Does, Local, Waits, does, stmt_does, begins, granted, replaced, at}
use Rattle.rx_rules.proofs.StepRules.{StepRule, GoesOn, empty, raised, asks_in_try, waits, waits_raised, asks_in_body, rule_of, granted_inside}
use Rattle.rx_history.specs.Next.{carried}
use Rattle.rx_control.specs.Levels.{Level, More, Again, Tried, Inside, Waiting, Settled, seq, term_of}
use Rattle.rx_syntax.specs.declared.nodes.BlockId.{BlockId}
use Rattle.rx_syntax.specs.Shape.{Shape}
use Rattle.rx_control.specs.declared.frame.Frame.{Frame}
use Rattle.rx_control.specs.declared.frame.Frame.TheVariants.{Turns, Try as TryFrame, Body, Held}
use Rattle.rx_control.specs.declared.control.Control.{Control}
use Rattle.rx_control.specs.Stands.{path_of, StandsFor, FramesStand}
use Rattle.rx_control.specs.Inside.Front.{lifted, AtStatement}
use Rattle.rx_control.proofs.Standing.{at-top, at-turns, at-tried, at-inside, at-waiting}
use Rattle.rx_control.proofs.Wrapping.{begins-wrap, replaced-wrap}
use Rattle.rx_control.proofs.Front.{does-statement, does-turns, does-tried, does-inside, does-waiting, does-raised-tried, does-raised-inside}

carried-lifted : (s : List Level) (d : Does) → carried (lifted s d) ≡ carried d
carried-lifted s (Local left vars) = refl
carried-lifted s _ = refl

-- what carries a list begins no statement
carries_by : {vars : Vars} {here : ℕ} {t : Term} {d : Does} → StepRule vars here t d → (faults : List Fault) → carried d ≡ Some faults → begins t ≡ None
carries_by empty faults e = refl
carries_by raised faults e = refl
carries_by waits faults e = refl
carries_by waits_raised faults e = refl
carries_by (asks_in_try g a s) faults e = carries_by s faults e
carries_by (asks_in_body g a s) faults e = carries_by s faults e
carries_by _ faults e = absurd (none-some faults e)

stmt-carries : (vars : Vars) (here : ℕ) (stmt : Stmt) (x : List ℕ) (rest : Term) (faults : List Fault) → carried (stmt_does vars here stmt x rest) ≡ Some faults → ⊥
stmt-carries vars here stmt x rest faults e = none-some x (sym (carries_by (rule_of vars here (Run stmt x rest)) faults e))

-- after the list is handed out
pub record Took (r : Option (List Fault)) (levels : List Level) (faults : List Fault) : Type 0 where
  pub list : unwrap_or r [] ≡ faults
  pub settled : Settled None levels
  pub is : term_of None levels ≡ replaced (term_of r levels) Empty

pub took : (vars : Vars) (here : ℕ) (faults : List Fault) (r : Option (List Fault)) (levels : List Level) → Settled r levels → carried (does vars here (term_of r levels)) ≡ Some faults → Took r levels faults
took vars here faults None [] h e = record { list = same_Some _ _ e; settled = tt; is = refl }
took vars here faults None (More Nothing x i ∷ gs) h e = absurd h
took vars here faults None (More (Then stmt more) x i ∷ gs) h e =
    let rest : Term = seq (More more x (suc i) ∷ gs) in
    absurd (stmt-carries vars here stmt (at x i) rest faults (sym (ap carried (does-statement vars here stmt more x i gs) ∙ carried-lifted gs (stmt_does vars here stmt (at x i) rest)) ∙ e))
took vars here faults None (Again body x k times ∷ gs) h e =
    let q : None ≡ Some faults = sym (ap carried (does-turns vars here body x k times gs)) ∙ e in absurd (cc)
took vars here faults None (Tried d b x ∷ gs) h e =
    let q : None ≡ Some faults = sym (ap carried (does-tried vars here d b x gs)) ∙ e in absurd (cc)
took vars here faults None (Inside ∷ gs) h e =
    let q : Some [] ≡ Some faults = sym (ap carried (does-inside vars here gs)) ∙ e in
    record { list = same_Some _ _ q; settled = tt; is = sym (replaced-wrap Empty (BodyTerm Empty (seq gs)) gs) }
took vars here faults None (Waiting ∷ gs) h e =
    let q : None ≡ Some faults = sym (ap carried (does-waiting vars here gs)) ∙ e in absurd (cc)
took vars here faults (Some fs) [] h e = record { list = same_Some _ _ e; settled = tt; is = refl }
took vars here faults (Some fs) (More left x i ∷ gs) h e = absurd h
took vars here faults (Some fs) (Again body x k times ∷ gs) h e = absurd h
took vars here faults (Some fs) (Tried d b x ∷ gs) h e =
    let q : None ≡ Some faults = sym (ap carried (does-raised-tried vars here fs d b x gs)) ∙ e in absurd (cc)
took vars here faults (Some fs) (Inside ∷ gs) h e =
    let q : Some fs ≡ Some faults = sym (ap carried (does-raised-inside vars here fs gs)) ∙ e in
    record { list = same_Some _ _ q; settled = tt; is = sym (replaced-wrap Empty (BodyTerm (Raise fs) (seq gs)) gs) }
took vars here faults (Some fs) (Waiting ∷ gs) h e = absurd h

-- what is raised begins nothing, and neither do the other levels
pub raised-begins : (faults : List Fault) (gs : List Level) → begins (term_of (Some faults) gs) ≡ None
raised-begins faults gs = begins-wrap (Raise faults) gs

pub turns-begins : (b : Block) (x : List ℕ) (k n : ℕ) (gs : List Level) → begins (term_of None (Again b x k n ∷ gs)) ≡ None
turns-begins b x k n gs = begins-wrap (TurnsTerm b x k n (seq gs)) gs

pub tried-begins : (d : Bool) (b : Block) (x : List ℕ) (gs : List Level) → begins (term_of None (Tried d b x ∷ gs)) ≡ None
tried-begins d b x gs = begins-wrap (Trying Empty d b x (seq gs)) gs

pub inside-begins : (gs : List Level) → begins (term_of None (Inside ∷ gs)) ≡ None
inside-begins gs = begins-wrap (BodyTerm Empty (seq gs)) gs

pub waiting-begins : (gs : List Level) → begins (term_of None (Waiting ∷ gs)) ≡ None
waiting-begins gs = begins-wrap (HeldTerm (seq gs)) gs

pub stmt-begins : (stmt : Stmt) (more : Block) (x : List ℕ) (i : ℕ) (gs : List Level) → begins (term_of None (More (Then stmt more) x i ∷ gs)) ≡ Some (at x i)
stmt-begins stmt more x i gs = begins-wrap (Run stmt (at x i) (seq (More more x (suc i) ∷ gs))) gs

-- no statement stands at the front of these
pub turns-begin : (s : Shape) (c : Control) (t : Term) (below : List Frame) (body : BlockId) (k n : ℕ) → c.frames.items ≡ below ++ Turns body k n ∷ [] → StandsFor s c t → c.raised ≡ None → begins t ≡ None
turns-begin s c t below body k n e h r =
    let a = at-top s c t below (Turns body k n) e h in
    ap begins (at-turns s c t below body k n r a) ∙ turns-begins a.stands.0 (path_of c.base below) k n a.others

pub tried-begin : (s : Shape) (c : Control) (t : Term) (below : List Frame) (d : Bool) (b : BlockId) → c.frames.items ≡ below ++ TryFrame d b ∷ [] → StandsFor s c t → c.raised ≡ None → begins t ≡ None
tried-begin s c t below d b e h r =
    let a = at-top s c t below (TryFrame d b) e h in
    ap begins (at-tried s c t below d b None r a) ∙ tried-begins d a.stands.0 (path_of c.base below) a.others

pub inside-begin : (s : Shape) (c : Control) (t : Term) (below : List Frame) → c.frames.items ≡ below ++ Body ∷ [] → StandsFor s c t → c.raised ≡ None → begins t ≡ None
inside-begin s c t below e h r =
    let a = at-top s c t below Body e h in ap begins (at-inside s c t below None r a) ∙ inside-begins a.others

pub waiting-begin : (s : Shape) (c : Control) (t : Term) (below : List Frame) → c.frames.items ≡ below ++ Held ∷ [] → StandsFor s c t → c.raised ≡ None → begins t ≡ None
waiting-begin s c t below e h r =
    let a = at-top s c t below Held e h in ap begins (at-waiting s c t below r a) ∙ waiting-begins a.others

pub raised-begin : (s : Shape) (c : Control) (t : Term) (faults : List Fault) → StandsFor s c t → c.raised ≡ Some faults → begins t ≡ None
raised-begin s c t faults h r = ap begins (h.is ∙ ap (λ r. term_of r h.levels) r) ∙ raised-begins faults h.levels

-- a statement at the front begins its path
pub statement-begin : (s : Shape) (c : Control) (t : Term) (below : List Frame) (block : BlockId) (next : ℕ) (part : Option ℕ) → (a : AtStatement s c t below block next part) → begins t ≡ Some (at (path_of c.base below ++ option_to_list part) next)
statement-begin s c t below block next part a = ap begins a.is ∙ stmt-begins a.stmt a.more (path_of c.base below ++ option_to_list part) next a.others

-- the list that is handed out, and the control afterwards
pub took-list : (s : Shape) (c : Control) (t : Term) (here : ℕ) (faults : List Fault) (r : Option (List Fault)) → c.raised ≡ r → StandsFor s c t → carried (does c.vars here t) ≡ Some faults → unwrap_or r [] ≡ faults
took-list s c t here faults r e h k =
    let P : Option (List Fault) → Type 0 = λ r. Settled r h.levels in
    (took c.vars here faults r h.levels (subst P e h.settled) (ap (λ t. carried (does c.vars here t)) (sym (h.is ∙ ap (λ r. term_of r h.levels) e)) ∙ k)).list

pub took-stands : (s : Shape) (c d : Control) (t : Term) (here : ℕ) (faults : List Fault) → d.base ≡ c.base → d.frames.items ≡ c.frames.items → d.raised ≡ None → StandsFor s c t → carried (does c.vars here t) ≡ Some faults → StandsFor s d (replaced t Empty)
took-stands s c d t here faults b f r h k =
    let o = took c.vars here faults c.raised h.levels h.settled (ap (λ t. carried (does c.vars here t)) (sym h.is) ∙ k) in
    let P : Option (List Fault) → Type 0 = λ r. Settled r h.levels in
    let Q : List ℕ → Type 0 = λ x. FramesStand s x d.frames.items h.levels in
    let R : List Frame → Type 0 = λ fs. FramesStand s c.base fs h.levels in
    record { levels = h.levels; stands = subst Q (sym b) (subst R (sym f) h.stands); settled = subst P (sym r) o.settled; is = ap (λ t. replaced t Empty) h.is ∙ sym o.is ∙ sym (ap (λ r. term_of r h.levels) r) }

abbrev IsWait : Does → Type 0
IsWait (Waits faults) = Unit {0}
IsWait _ = ⊥

waits_by : {vars : Vars} {here : ℕ} {t : Term} {d : Does} → StepRule vars here t d → (list : List Fault) → IsWait d → GoesOn (replaced t Empty) × (granted list (replaced t Empty) ≡ granted list t)
waits_by waits list w = (tt, refl)
waits_by waits_raised list w = (tt, refl)
waits_by (asks_in_try {dead_only = o} {handler = b} {x = x} {rest = rest} g a s) list w = (tt, ap (λ v. Trying v o b x rest) (waits_by s list w).1)
waits_by (asks_in_body {inside = inside} {rest = rest} g a s) list w =
    let k = waits_by s list w in
    (tt, sym (granted_inside list (replaced inside Empty) rest k.0) ∙ ap (λ v. BodyTerm v rest) k.1 ∙ granted_inside list inside rest g)
waits_by _ list w = absurd w

-- a wait grants the same without the list that it carries
pub wait-grants : (vars : Vars) (here : ℕ) (t : Term) (faults list : List Fault) → does vars here t ≡ Waits faults → granted list (replaced t Empty) ≡ granted list t
wait-grants vars here t faults list h = (waits_by (rule_of vars here t) list (subst (λ (d : Does). IsWait d) (sym h) tt)).1
