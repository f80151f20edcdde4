use Rattle.std.proofs.Common.{ℕ, List, Some, Bool, true, false, sym, subst}
use Rattle.rx_control.specs.Levels.{Level}
use Rattle.rx_control.specs.declared.frame.Frame.{Frame}
use Rattle.rx_control.specs.Stands.{FrameStands}
use Rattle.rx_control.specs.Inside.Front.{IsCatch, SettlesTo}
use Rattle.rx_control.proofs.Settling.{Leads, unwinds-less, unwinds-here, settles-empty}
use Rattle.rx_control.proofs.frame.unwind.Goals as goal

pub returns-then-is_catch : goal.returns-then-is_catch
returns-then-is_catch c s base levels faults h =
    let b = c.in-Some.ensures.0 in
    let q = c.in-Some.ensures.1 in
    let P : List Frame → Type 0 = λ fs. Leads s base fs (Some faults) levels in
    let R : List Frame → Type 0 = λ fs. SettlesTo s base fs (Some faults) levels in
    let over : (x : List ℕ) (g : Level) → FrameStands s x c.in-Some.frame g → IsCatch true g = λ x g k. let Q : Bool → Type 0 = λ o. IsCatch o g in subst Q c.if-is_catch.true (c.is_catch.ensures s x g k) in
    subst R (sym q) (unwinds-here s base b c.in-Some.frame faults levels over (subst P q (c.frames.invariant s base levels faults h)))

pub frames-preserved : goal.frames-preserved
frames-preserved c s base levels faults h =
    let b = c.in-Some.ensures.0 in
    let q = c.in-Some.ensures.1 in
    let P : List Frame → Type 0 = λ fs. Leads s base fs (Some faults) levels in
    let over : (x : List ℕ) (g : Level) → FrameStands s x c.in-Some.frame g → IsCatch false g = λ x g k. let Q : Bool → Type 0 = λ o. IsCatch o g in subst Q c.if-is_catch.false (c.is_catch.ensures s x g k) in
    subst P (sym (c.drop_top.ensures.items b c.in-Some.frame q)) (unwinds-less s base b c.in-Some.frame faults levels over (subst P q (c.frames.invariant s base levels faults h)))

pub returns : goal.returns
returns c s base levels faults h =
    let P : List Frame → Type 0 = λ fs. Leads s base fs (Some faults) levels in
    let R : List Frame → Type 0 = λ fs. SettlesTo s base fs (Some faults) levels in
    subst R (sym c.in_default.ensures) (settles-empty s base (Some faults) levels (subst P c.in_default.ensures (c.frames.invariant s base levels faults h)))
