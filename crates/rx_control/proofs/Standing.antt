-- The term of a control by its innermost frame.
use Rattle.std.proofs.Common.{◌≡◌, ℕ, List, [], ◌∷◌, ◌++◌, Option, Some, None, Bool, refl, ap, sym, ◌∙◌, subst, option_to_list}
use Rattle.rx_rules.proofs.Common.{Fault, Block, Term}
use Rattle.rx_syntax.specs.declared.nodes.BlockId.{BlockId}
use Rattle.rx_syntax.specs.Shape.{Shape}
use Rattle.rx_control.specs.Levels.{Level, More, Again, Tried, Inside, Waiting, Settled, term_of}
use Rattle.rx_control.specs.declared.frame.Frame.{Frame}
use Rattle.rx_control.specs.declared.frame.Frame.TheVariants.{Seq, Turns, Try, Body, Held}
use Rattle.rx_control.specs.declared.control.Control.{Control}
use Rattle.rx_control.specs.Stands.{path_of, FrameStands, FramesStand, StandsFor}
use Rattle.rx_control.specs.Inside.Front.{AtStatement, SettlesTo}
use Rattle.rx_control.proofs.Moves.{top-stands}
use Rattle.rx_control.proofs.Front.{statement}

-- the top frame, and the term
pub record AtTop (s : Shape) (c : Control) (t : Term) (below : List Frame) (f : Frame) : Type 0 where
  pub level : Level
  pub others : List Level
  pub stands : FrameStands s (path_of c.base below) f level
  pub rest : FramesStand s c.base below others
  pub settled : Settled c.raised (level ∷ others)
  pub is : t ≡ term_of c.raised (level ∷ others)

pub at-top : (s : Shape) (c : Control) (t : Term) (below : List Frame) (f : Frame) → c.frames.items ≡ below ++ f ∷ [] → StandsFor s c t → AtTop s c t below f
at-top s c t below f e h =
    let P : List Frame → Type 0 = λ fs. FramesStand s c.base fs h.levels in
    let k = top-stands s c.base below f h.levels (subst P e h.stands) in
    let Q : List Level → Type 0 = λ ls. Settled c.raised ls in
    record { level = k.level; others = k.others; stands = k.stands; rest = k.rest; settled = subst Q k.is h.settled; is = h.is ∙ ap (term_of c.raised) k.is }

-- a statement at the top
pub at-statement : (s : Shape) (c : Control) (t : Term) (below : List Frame) (block : BlockId) (next : ℕ) (part : Option ℕ) → c.raised ≡ None → c.frames.items ≡ below ++ Seq block next part ∷ [] → StandsFor s c t → AtStatement s c t below block next part
at-statement s c t below block next part r e h =
    let P : List Frame → Type 0 = λ fs. FramesStand s c.base fs h.levels in
    let Q : Option (List Fault) → Type 0 = λ r. Settled r h.levels in
    let k = statement s c.base below block next part h.levels (subst P e h.stands) (subst Q r h.settled) in
    record { stmt = k.stmt; more = k.more; others = k.others; awaits = k.awaits; frames = e; rest = k.rest; calm = r; is = h.is ∙ ap (λ r. term_of r h.levels) r ∙ ap (term_of None) k.is }

-- the others, with what was raised
pub at-turns : (s : Shape) (c : Control) (t : Term) (below : List Frame) (body : BlockId) (k n : ℕ) → c.raised ≡ None → (a : AtTop s c t below (Turns body k n)) → t ≡ term_of None (Again a.stands.0 (path_of c.base below) k n ∷ a.others)
at-turns s c t below body k n r a = a.is ∙ ap (λ r. term_of r (a.level ∷ a.others)) r ∙ ap (λ g. term_of None (g ∷ a.others)) a.stands.1

pub at-tried : (s : Shape) (c : Control) (t : Term) (below : List Frame) (d : Bool) (b : BlockId) (r : Option (List Fault)) → c.raised ≡ r → (a : AtTop s c t below (Try d b)) → t ≡ term_of r (Tried d a.stands.0 (path_of c.base below) ∷ a.others)
at-tried s c t below d b r e a = a.is ∙ ap (λ r. term_of r (a.level ∷ a.others)) e ∙ ap (λ g. term_of r (g ∷ a.others)) a.stands.1

pub at-inside : (s : Shape) (c : Control) (t : Term) (below : List Frame) (r : Option (List Fault)) → c.raised ≡ r → (a : AtTop s c t below Body) → t ≡ term_of r (Inside ∷ a.others)
at-inside s c t below r e a = a.is ∙ ap (λ r. term_of r (a.level ∷ a.others)) e ∙ ap (λ g. term_of r (g ∷ a.others)) a.stands

pub at-waiting : (s : Shape) (c : Control) (t : Term) (below : List Frame) → c.raised ≡ None → (a : AtTop s c t below Held) → t ≡ term_of None (Waiting ∷ a.others)
at-waiting s c t below e a = a.is ∙ ap (λ r. term_of r (a.level ∷ a.others)) e ∙ ap (λ g. term_of None (g ∷ a.others)) a.stands

-- a control of settled frames
pub settled-stands : (s : Shape) (c : Control) (levels : List Level) (r : Option (List Fault)) (t : Term) → c.raised ≡ r → SettlesTo s c.base c.frames.items r levels → t ≡ term_of r levels → StandsFor s c t
settled-stands s c levels r t e h i =
    let P : Option (List Fault) → Type 0 = λ r. Settled r h.levels_left in
    record { levels = h.levels_left; stands = h.stands; settled = subst P (sym e) h.settled; is = i ∙ sym h.is ∙ sym (ap (λ r. term_of r h.levels_left) e) }

-- what was raised stands at no block, turn or wait
pub calm-seq : (s : Shape) (c : Control) (t : Term) (below : List Frame) (block : BlockId) (next : ℕ) (part : Option ℕ) → AtTop s c t below (Seq block next part) → c.raised ≡ None
calm-seq s c t below block next part a =
    let P : Level → Type 0 = λ g. Settled c.raised (g ∷ a.others) in by-raised a.others a.stands.0 (path_of c.base below ++ option_to_list part) next c.raised (subst P a.stands.2 a.settled)
  where
    by-raised : (gs : List Level) (left : Block) (x : List ℕ) (i : ℕ) (r : Option (List Fault)) → Settled r (More left x i ∷ gs) → r ≡ None
    by-raised gs left x i None h = refl
    by-raised gs left x i (Some faults) h = absurd h

pub calm-turns : (s : Shape) (c : Control) (t : Term) (below : List Frame) (body : BlockId) (k n : ℕ) → AtTop s c t below (Turns body k n) → c.raised ≡ None
calm-turns s c t below body k n a =
    let P : Level → Type 0 = λ g. Settled c.raised (g ∷ a.others) in by-raised a.others a.stands.0 (path_of c.base below) c.raised (subst P a.stands.1 a.settled)
  where
    by-raised : (gs : List Level) (b : Block) (x : List ℕ) (r : Option (List Fault)) → Settled r (Again b x k n ∷ gs) → r ≡ None
    by-raised gs b x None h = refl
    by-raised gs b x (Some faults) h = absurd h

pub calm-held : (s : Shape) (c : Control) (t : Term) (below : List Frame) → AtTop s c t below Held → c.raised ≡ None
calm-held s c t below a =
    let P : Level → Type 0 = λ g. Settled c.raised (g ∷ a.others) in by-raised a.others c.raised (subst P a.stands a.settled)
  where
    by-raised : (gs : List Level) (r : Option (List Fault)) → Settled r (Waiting ∷ gs) → r ≡ None
    by-raised gs None h = refl
    by-raised gs (Some faults) h = absurd h
