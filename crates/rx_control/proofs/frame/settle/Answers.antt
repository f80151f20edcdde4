use Rattle.std.proofs.Common.{rules, ◌≡◌, ℕ, List, None, Bool, true, sym, subst}
use Rattle.rx_control.specs.Levels.{Level}
use Rattle.rx_control.specs.declared.frame.Frame.{Frame}
use Rattle.rx_control.specs.Stands.{path_of, FrameStands}
use Rattle.rx_control.specs.Inside.Front.{LevelIsOver}
use Rattle.rx_control.proofs.Moves.{top-stands}
use Rattle.rx_control.proofs.Settling.{Leads, leads-less}
use Rattle.rx_control.proofs.frame.settle.Goals as goal

pub is_over-requires : goal.is_over-requires
is_over-requires c =
    let b = c.in-Some.ensures.0 in
    let P : List Frame → Type 0 = λ fs. Leads c.args.script.now c.requires.0 fs None c.requires.1 in
    let l = subst P c.in-Some.ensures.1 (c.frames.invariant c.requires.0 c.requires.1 c.requires.2) in
    let t = top-stands _ _ b c.in-Some.frame l.levels_left l.stands in
    (path_of c.requires.0 b, t.level, t.stands)

pub frames-preserved : goal.frames-preserved
frames-preserved c base levels h =
    let b = c.in-Some.ensures.0 in
    let q = c.in-Some.ensures.1 in
    let P : List Frame → Type 0 = λ fs. Leads c.args.script.now base fs None levels in
    let e : c.is_over.result ≡ true = search rules in
    let over : (x : List ℕ) (g : Level) → FrameStands c.args.script.now x c.in-Some.frame g → LevelIsOver true g = λ x g k. let Q : Bool → Type 0 = λ o. LevelIsOver o g in subst Q e (c.is_over.ensures x g k) in
    subst P (sym (c.drop_top.ensures.items b c.in-Some.frame q)) (leads-less _ base b c.in-Some.frame levels over (subst P q (c.frames.invariant base levels h)))
