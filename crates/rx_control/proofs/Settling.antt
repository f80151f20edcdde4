-- Taking off what is over.
use Rattle.std.proofs.Common.{◌≡◌, ℕ, ◌-◌, ◌<◌, ◌≤◌, List, [], ◌∷◌, ◌++◌, length, drop, Option, Some, None, true, false, refl, ap, sym, ◌∙◌, subst, arith, length-drop, slice_get, option_to_list, IfSome, nat_le}
use Rattle.std.proofs.lemmas.Bool.Decides.{nat_tests}
use Rattle.rx_rules.proofs.Common.{Fault, Block, Nothing, Then}
use Rattle.rx_control.specs.Levels.{Level, More, Again, Tried, Inside, Waiting, Settled, term_of}
use Rattle.rx_syntax.specs.Shape.{Shape, ListStands}
use Rattle.rx_syntax.specs.declared.nodes.StmtId.{StmtId}
use Rattle.rx_syntax.specs.declared.nodes.BlockId.{BlockId}
use Rattle.rx_control.specs.declared.frame.Frame.{Frame}
use Rattle.rx_control.specs.declared.frame.Frame.TheVariants.{Seq}
use Rattle.rx_control.specs.Stands.{FrameStands, FramesStand}
use Rattle.rx_control.specs.Inside.Front.{LevelIsOver, IsCatch, SettlesTo}
use Rattle.rx_control.proofs.Moves.{top-stands, empty-stands}

-- the frames stand for the term of these levels
pub record Leads (s : Shape) (base : List ℕ) (frames : List Frame) (raised : Option (List Fault)) (levels : List Level) : Type 0 where
  pub levels_left : List Level
  pub stands : FramesStand s base frames levels_left
  pub is : term_of raised levels_left ≡ term_of raised levels

none-left : (s : Shape) (n next : ℕ) (ids : List StmtId) (left : Block) (x : List ℕ) → n ≡ length ids → ListStands s (drop next ids) left → LevelIsOver (nat_le n next) (More left x next)
none-left s n next ids left x e h = by-left left (drop next ids) refl h
  where
    by-left : (left : Block) (more : List StmtId) → more ≡ drop next ids → ListStands s more left → LevelIsOver (nat_le n next) (More left x next)
    by-left Nothing [] q h = let l : length ids ≤ next = omega (arith, ap length q, length-drop next ids) in grind (arith, nat_tests)
    by-left Nothing (i ∷ more) q h = absurd h
    by-left (Then t ts) [] q h = absurd h
    by-left (Then t ts) (i ∷ more) q h = let l : next < length ids = omega (arith, ap length q, length-drop next ids) in grind (arith, nat_tests)

pub seq-over : (s : Shape) (x : List ℕ) (block : BlockId) (next n : ℕ) (part : Option ℕ) (g : Level) → FrameStands s x (Seq block next part) g → IfSome (slice_get s.blocks block.0) (λ ids. n ≡ length ids) → LevelIsOver (nat_le n next) g
seq-over s x block next n part g h k =
    let l : n ≡ length h.1 = let P : Option (List StmtId) → Type 0 = λ o. IfSome o (λ ids. n ≡ length ids) in subst P h.3 k in
    let P : Level → Type 0 = λ g. LevelIsOver (nat_le n next) g in
    subst P (sym h.2) (none-left s n next h.1 h.0 (x ++ option_to_list part) l h.4)

-- one frame less, which was over
pub leads-less : (s : Shape) (base : List ℕ) (below : List Frame) (f : Frame) (levels : List Level) → ((x : List ℕ) (g : Level) → FrameStands s x f g → LevelIsOver true g) → Leads s base (below ++ f ∷ []) None levels → Leads s base below None levels
leads-less s base below f levels over l =
    let t = top-stands s base below f l.levels_left l.stands in
    by-level t.level t.others (over _ t.level t.stands) t.is t.rest
  where
    by-level : (g : Level) (gs : List Level) → LevelIsOver true g → l.levels_left ≡ g ∷ gs → FramesStand s base below gs → Leads s base below None levels
    by-level (More Nothing x i) gs o e r = record { levels_left = gs; stands = r; is = sym (ap (term_of None) e) ∙ l.is }
    by-level (More (Then u us) x i) gs o e r = absurd (cc)
    by-level (Again body x k times) gs o e r = absurd (cc)
    by-level (Tried dead_only handler x) gs o e r = absurd (cc)
    by-level Inside gs o e r = absurd (cc)
    by-level Waiting gs o e r = absurd (cc)

-- no frame is left
pub settles-empty : (s : Shape) (base : List ℕ) (raised : Option (List Fault)) (levels : List Level) → Leads s base [] raised levels → SettlesTo s base [] raised levels
settles-empty s base raised levels l =
    let e = empty-stands s base l.levels_left l.stands in
    record {
      levels_left = l.levels_left;
      stands = l.stands;
      settled = let P : List Level → Type 0 = λ ls. Settled raised ls in subst P (sym e) (by-raised raised);
      is = l.is;
    }
  where
    by-raised : (r : Option (List Fault)) → Settled r []
    by-raised None = tt
    by-raised (Some faults) = tt

-- the same where faults were raised

pub unwinds-less : (s : Shape) (base : List ℕ) (below : List Frame) (f : Frame) (faults : List Fault) (levels : List Level) → ((x : List ℕ) (g : Level) → FrameStands s x f g → IsCatch false g) → Leads s base (below ++ f ∷ []) (Some faults) levels → Leads s base below (Some faults) levels
unwinds-less s base below f faults levels over l =
    let t = top-stands s base below f l.levels_left l.stands in
    by-level t.level t.others (over _ t.level t.stands) t.is t.rest
  where
    by-level : (g : Level) (gs : List Level) → IsCatch false g → l.levels_left ≡ g ∷ gs → FramesStand s base below gs → Leads s base below (Some faults) levels
    by-level (Tried dead_only handler x) gs o e r = absurd (cc)
    by-level Inside gs o e r = absurd (cc)
    by-level _ gs o e r = record { levels_left = gs; stands = r; is = sym (ap (term_of (Some faults)) e) ∙ l.is }

pub unwinds-here : (s : Shape) (base : List ℕ) (below : List Frame) (f : Frame) (faults : List Fault) (levels : List Level) → ((x : List ℕ) (g : Level) → FrameStands s x f g → IsCatch true g) → Leads s base (below ++ f ∷ []) (Some faults) levels → SettlesTo s base (below ++ f ∷ []) (Some faults) levels
unwinds-here s base below f faults levels over l =
    let t = top-stands s base below f l.levels_left l.stands in
    record {
      levels_left = l.levels_left;
      stands = l.stands;
      settled = let P : List Level → Type 0 = λ ls. Settled (Some faults) ls in subst P (sym t.is) (by-level t.level t.others (over _ t.level t.stands));
      is = l.is;
    }
  where
    by-level : (g : Level) (gs : List Level) → IsCatch true g → Settled (Some faults) (g ∷ gs)
    by-level (Tried dead_only handler x) gs o = tt
    by-level Inside gs o = tt
    by-level _ gs o = absurd (cc)
