-- The steps of a stack.
use Rattle.std.proofs.Common.{◌≡◌, ℕ, suc, ◌+◌, ◌<◌, ◌≤◌, List, [], ◌∷◌, ◌++◌, Option, Some, None, Bool, true, false, cond, refl, ap, sym, ◌∙◌, subst, arith, append-nil, nat_le, option_to_list}
use Rattle.std.proofs.lemmas.Bool.Decides.{nat_tests}
use Rattle.rx_rules.proofs.Common.{Fault, Block, Then, Vars, Term, Does, Local, at}
use Rattle.rx_syntax.specs.declared.nodes.BlockId.{BlockId}
use Rattle.rx_syntax.specs.Shape.{Shape, BlockStands}
use Rattle.rx_control.specs.Levels.{Level, More, Again, Tried, wrap, term_of}
use Rattle.rx_control.specs.declared.frame.Frame.{Frame}
use Rattle.rx_control.specs.declared.frame.Frame.TheVariants.{Seq, Turns, Try, Body}
use Rattle.rx_control.specs.declared.control.Control.{Control}
use Rattle.rx_control.specs.Stands.{path_of, FramesStand, AfterLocalStep}
use Rattle.rx_control.specs.Inside.Front.{lifted, SettlesTo, AtStatement}
use Rattle.rx_control.proofs.Moves.{path-snoc}
use Rattle.rx_control.proofs.Front.{gone-on, begun-path}
use Rattle.rx_control.proofs.Standing.{settled-stands}

pub leaves-by : (s : Shape) (c : Control) (d e : Does) → d ≡ e → AfterLocalStep s c e → AfterLocalStep s c d
leaves-by s c d e q h = let P : Does → Type 0 = λ d. AfterLocalStep s c d in subst P (sym q) h

-- a block is entered, the path of the statement being x
pub entered : (s : Shape) (base : List ℕ) (below frames : List Frame) (block : BlockId) (b : Block) (x : List ℕ) (k : ℕ) (gs : List Level) → frames ≡ below ++ Seq block 0 (Some k) ∷ [] → path_of base below ≡ x → BlockStands s block b → FramesStand s base below gs → FramesStand s base frames (More b (at x k) 0 ∷ gs)
entered s base below frames block b x k gs e p h r =
    (Seq block 0 (Some k), below, e, (b, h.0, ap (λ y. More b (y ++ k ∷ []) 0) (sym p), h.1, h.2), r)

pub entered-body : (s : Shape) (base : List ℕ) (below frames : List Frame) (block : BlockId) (b : Block) (x : List ℕ) (gs : List Level) → frames ≡ below ++ Seq block 0 None ∷ [] → path_of base below ≡ x → BlockStands s block b → FramesStand s base below gs → FramesStand s base frames (More b x 0 ∷ gs)
entered-body s base below frames block b x gs e p h r =
    (Seq block 0 None, below, e, (b, h.0, ap (λ y. More b y 0) (sym (append-nil (path_of base below) ∙ p)), h.1, h.2), r)

pub looped : (s : Shape) (base : List ℕ) (below frames : List Frame) (body : BlockId) (b : Block) (x : List ℕ) (k n : ℕ) (gs : List Level) → frames ≡ below ++ Turns body k n ∷ [] → path_of base below ≡ x → BlockStands s body b → FramesStand s base below gs → FramesStand s base frames (Again b x k n ∷ gs)
looped s base below frames body b x k n gs e p h r = (Turns body k n, below, e, (b, ap (λ y. Again b y k n) (sym p), h), r)

pub tried : (s : Shape) (base : List ℕ) (below frames : List Frame) (d : Bool) (handler : BlockId) (b : Block) (x : List ℕ) (gs : List Level) → frames ≡ below ++ Try d handler ∷ [] → path_of base below ≡ x → BlockStands s handler b → FramesStand s base below gs → FramesStand s base frames (Tried d b x ∷ gs)
tried s base below frames d handler b x gs e p h r = (Try d handler, below, e, (b, ap (Tried d b) (sym p), h), r)

-- a frame without numbers leaves the path
pub same-path : (base : List ℕ) (below frames : List Frame) (f : Frame) (x : List ℕ) → frames ≡ below ++ f ∷ [] → path_of base (below ++ f ∷ []) ≡ path_of base below → path_of base below ≡ x → path_of base frames ≡ x
same-path base below frames f x e p q = ap (path_of base) e ∙ p ∙ q

pub path-try : (base : List ℕ) (below : List Frame) (d : Bool) (h : BlockId) → path_of base (below ++ Try d h ∷ []) ≡ path_of base below
path-try base below d h = path-snoc base below (Try d h) ∙ append-nil (path_of base below)

pub path-body : (base : List ℕ) (below : List Frame) → path_of base (below ++ Body ∷ []) ≡ path_of base below
path-body base below = path-snoc base below Body ∙ append-nil (path_of base below)

pub path-turns : (base : List ℕ) (below : List Frame) (b : BlockId) (k n : ℕ) → path_of base (below ++ Turns b k n ∷ []) ≡ path_of base below
path-turns base below b k n = path-snoc base below (Turns b k n) ∙ append-nil (path_of base below)

-- a local step is made
pub done-leaves : (s : Shape) (c : Control) (gs : List Level) (d : Does) (left : Term) (vars : Vars) (levels : List Level) (r : Option (List Fault)) → d ≡ Local left vars → c.raised ≡ r → SettlesTo s c.base c.frames.items r levels → wrap left gs ≡ term_of r levels → c.vars ≡ vars → AfterLocalStep s c (lifted gs d)
done-leaves s c gs d left vars levels r e q h i v =
    leaves-by s c (lifted gs d) (lifted gs (Local left vars)) (ap (lifted gs) e) (settled-stands s c levels r (wrap left gs) q h i, v)

pub step-leaves : (s : Shape) (c : Control) (d : Does) (left : Term) (vars : Vars) (levels : List Level) (r : Option (List Fault)) → d ≡ Local left vars → c.raised ≡ r → SettlesTo s c.base c.frames.items r levels → left ≡ term_of r levels → c.vars ≡ vars → AfterLocalStep s c d
step-leaves s c d left vars levels r e q h i v =
    leaves-by s c d (Local left vars) e (settled-stands s c levels r left q h i, v)

-- the frames once the statement at the front has been passed
pub record Went (s : Shape) (base : List ℕ) (below frames : List Frame) (next : ℕ) (part : Option ℕ) (more : Block) (others : List Level) : Type 0 where
  pub stands : FramesStand s base frames (More more (path_of base below ++ option_to_list part) (suc next) ∷ others)
  pub path : path_of base frames ≡ at (path_of base below ++ option_to_list part) next

pub went : (s : Shape) (c : Control) (t : Term) (below frames : List Frame) (block : BlockId) (next after : ℕ) (part : Option ℕ) (a : AtStatement s c t below block next part) → frames ≡ below ++ Seq block after part ∷ [] → after ≡ next + 1 → Went s c.base below frames next part a.more a.others
went s c t below frames block next after part a e n =
    let q : frames ≡ below ++ Seq block (next + 1) part ∷ [] = e ∙ ap (λ n. below ++ Seq block n part ∷ []) n in
    record {
      stands = gone-on s c.base below frames block next part a.stmt a.more a.others a.awaits a.rest q;
      path = ap (path_of c.base) q ∙ begun-path c.base below block next part;
    }

-- the levels below and at a statement
pub whole-stands : (s : Shape) (c : Control) (t : Term) (below : List Frame) (block : BlockId) (next : ℕ) (part : Option ℕ) (a : AtStatement s c t below block next part) → FramesStand s c.base c.frames.items (More (Then a.stmt a.more) (path_of c.base below ++ option_to_list part) next ∷ a.others)
whole-stands s c t below block next part a =
    (Seq block next part, below, a.frames, (Then a.stmt a.more, a.awaits.ids, refl, a.awaits.block_is, a.awaits.left), a.rest)

-- settled frames with one block or one loop at the top
pub settled-turns : (s : Shape) (base : List ℕ) (frames : List Frame) (b : Block) (x : List ℕ) (k n : ℕ) (gs : List Level) → FramesStand s base frames (Again b x k n ∷ gs) → SettlesTo s base frames None (Again b x k n ∷ gs)
settled-turns s base frames b x k n gs h = record { levels_left = Again b x k n ∷ gs; stands = h; settled = tt; is = refl }

pub turn-over : (k n : ℕ) (x y : Term) → n ≤ k → cond (nat_le n k) x y ≡ x
turn-over k n x y e = let q : (nat_le n k) ≡ true = grind (arith, nat_tests) in ap (λ b. cond b x y) q

pub turn-goes : (k n : ℕ) (x y : Term) → k < n → cond (nat_le n k) x y ≡ y
turn-goes k n x y h = let q : (nat_le n k) ≡ false = grind (arith, nat_tests) in ap (λ b. cond b x y) q
