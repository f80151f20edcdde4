use Rattle.std.proofs.lemmas.Int.{ints, to_z-of_z}
use mir.Val.{SFits}
use Rattle.std.proofs.Common.{rules, w64, suc, ◌∷◌, ◌++◌, Some, None, refl, ap, sym, ◌∙◌, subst, option_to_list}
use Rattle.rx_rules.proofs.Common.{Number, Then, Empty, Raise as RaiseTerm, Turns as TurnsTerm, Trying, bound, items, at, raise}
use Rattle.rx_control.specs.Levels.{More, Again, Tried, seq, wrap}
use Rattle.rx_control.specs.declared.frame.Frame.TheVariants.{Seq, Try}
use Rattle.rx_plan.specs.declared.plan.Plan.{Plan}
use Rattle.rx_control.specs.declared.control.Control.{Control}
use Rattle.rx_control.specs.Stands.{path_of}
use Rattle.rx_plan.specs.Plans.{IsPlan}
use Rattle.rx_control.proofs.Steps.{went, entered, looped, tried, same-path, path-try, done-leaves, settled-turns, whole-stands}
use Rattle.rx_control.proofs.control.Control.carry_out.Goals as goal

pub settle-requires : goal.settle-requires
settle-requires c =
    let h = c.requires.due.2 in
    let w = went c.args.script.now c.args.self.now c.requires.due.0 c.requires.due.1 c.go_on.new.frames.items c.args.block c.args.next c.following-after.result c.args.part h.front (c.go_on.ensures.items c.requires.due.1 (Seq c.args.block c.args.next c.args.part) h.front.frames) c.following-after.ensures in
    (c.args.self.now.base, More h.front.more (path_of c.args.self.now.base c.requires.due.1 ++ option_to_list c.args.part) (suc c.args.next) ∷ h.front.others, w.stands)

pub returns-in_ok-set-in-Assign-clause-done : goal.returns-in_ok-set-in-Assign-clause-done
returns-in_ok-set-in-Assign-clause-done c t below h =
    let P : Plan → Type 0 = λ p. IsPlan c.args.script.now p c.args.self.now.vars (at (path_of c.args.self.now.base below ++ option_to_list c.args.part) c.args.next) (seq (More h.front.more (path_of c.args.self.now.base below ++ option_to_list c.args.part) (suc c.args.next) ∷ h.front.others)) h.act in
    let k = subst P c.in-Assign.is h.is in
    let w = went c.args.script.now c.args.self.now t below c.go_on.new.frames.items c.args.block c.args.next c.following-after.result c.args.part h.front (c.go_on.ensures.items below (Seq c.args.block c.args.next c.args.part) h.front.frames) c.following-after.ensures in
    let d : Control = record { base = c.args.self.now.base; frames = c.settle.new.frames; raised = c.args.self.now.raised; vars = c.set.new.self } in
    done-leaves c.args.script.now d h.front.others h.act (seq (More h.front.more (path_of c.args.self.now.base below ++ option_to_list c.args.part) (suc c.args.next) ∷ h.front.others)) (bound c.in-Assign.name.0 (Number c.in-Assign.value) c.args.self.now.vars) (More h.front.more (path_of c.args.self.now.base below ++ option_to_list c.args.part) (suc c.args.next) ∷ h.front.others) None k h.front.calm
    (c.settle.ensures c.args.self.now.base (More h.front.more (path_of c.args.self.now.base below ++ option_to_list c.args.part) (suc c.args.next) ∷ h.front.others) w.stands) refl
    (let fits : SFits w64 c.in-Assign.value = search (rules, ints) in
    c.in_ok-set-in-Assign.ensures.ok ∙ ap (λ z. bound c.in-Assign.name.0 (Number z) c.args.self.now.vars) (to_z-of_z w64 c.in-Assign.value fits))

pub returns-in_ok-faults-in-Raise-clause-done : goal.returns-in_ok-faults-in-Raise-clause-done
returns-in_ok-faults-in-Raise-clause-done c t below h =
    let P : Plan → Type 0 = λ p. IsPlan c.args.script.now p c.args.self.now.vars (at (path_of c.args.self.now.base below ++ option_to_list c.args.part) c.args.next) (seq (More h.front.more (path_of c.args.self.now.base below ++ option_to_list c.args.part) (suc c.args.next) ∷ h.front.others)) h.act in
    let k = subst P c.in-Raise.is h.is in
    let faults = c.in_ok-faults-in-Raise.faults in
    let d : Control = record { base = c.args.self.now.base; frames = c.unwind.new.frames; raised = Some faults; vars = c.args.self.now.vars } in
    let ls = More (Then h.front.stmt h.front.more) (path_of c.args.self.now.base below ++ option_to_list c.args.part) c.args.next ∷ h.front.others in
    done-leaves c.args.script.now d h.front.others h.act (raise c.in-Raise.fault) c.args.self.now.vars ls (Some faults) k refl
    (c.unwind.ensures c.args.script.now c.args.self.now.base ls faults (whole-stands c.args.script.now c.args.self.now t below c.args.block c.args.next c.args.part h.front))
    (ap (λ fs. wrap (RaiseTerm fs) h.front.others) (sym c.in_ok-faults-in-Raise.ensures)) refl

pub settle-requires-in-Choose : goal.settle-requires-in-Choose
settle-requires-in-Choose c =
    let h = c.requires.due.2 in
    let P : Plan → Type 0 = λ p. IsPlan c.args.script.now p c.args.self.now.vars (at (path_of c.args.self.now.base c.requires.due.1 ++ option_to_list c.args.part) c.args.next) (seq (More h.front.more (path_of c.args.self.now.base c.requires.due.1 ++ option_to_list c.args.part) (suc c.args.next) ∷ h.front.others)) h.act in
    let k = subst P c.in-Choose.is h.is in
    let w = went c.args.script.now c.args.self.now c.requires.due.0 c.requires.due.1 c.go_on-in-Choose.new.frames.items c.args.block c.args.next c.following-after.result c.args.part c.requires.due.2.front (c.go_on-in-Choose.ensures.items c.requires.due.1 (Seq c.args.block c.args.next c.args.part) c.requires.due.2.front.frames) c.following-after.ensures in
    (c.args.self.now.base, More k.0 (at (at (path_of c.args.self.now.base c.requires.due.1 ++ option_to_list c.args.part) c.args.next) c.in-Choose.number) 0 ∷ More h.front.more (path_of c.args.self.now.base c.requires.due.1 ++ option_to_list c.args.part) (suc c.args.next) ∷ h.front.others, entered c.args.script.now c.args.self.now.base c.go_on-in-Choose.new.frames.items c.enter.new.frames.items c.in-Choose.inner k.0 (at (path_of c.args.self.now.base c.requires.due.1 ++ option_to_list c.args.part) c.args.next) c.in-Choose.number (More h.front.more (path_of c.args.self.now.base c.requires.due.1 ++ option_to_list c.args.part) (suc c.args.next) ∷ h.front.others) c.enter.ensures w.path k.1 w.stands)

pub returns-in-Choose-clause-done : goal.returns-in-Choose-clause-done
returns-in-Choose-clause-done c t below h =
    let P : Plan → Type 0 = λ p. IsPlan c.args.script.now p c.args.self.now.vars (at (path_of c.args.self.now.base below ++ option_to_list c.args.part) c.args.next) (seq (More h.front.more (path_of c.args.self.now.base below ++ option_to_list c.args.part) (suc c.args.next) ∷ h.front.others)) h.act in
    let k = subst P c.in-Choose.is h.is in
    let w = went c.args.script.now c.args.self.now t below c.go_on-in-Choose.new.frames.items c.args.block c.args.next c.following-after.result c.args.part h.front (c.go_on-in-Choose.ensures.items below (Seq c.args.block c.args.next c.args.part) h.front.frames) c.following-after.ensures in
    let d : Control = record { base = c.args.self.now.base; frames = c.settle-in-Choose.new.frames; raised = c.args.self.now.raised; vars = c.args.self.now.vars } in
    let ls = More k.0 (at (at (path_of c.args.self.now.base below ++ option_to_list c.args.part) c.args.next) c.in-Choose.number) 0 ∷ More h.front.more (path_of c.args.self.now.base below ++ option_to_list c.args.part) (suc c.args.next) ∷ h.front.others in
    done-leaves c.args.script.now d h.front.others h.act (items k.0 (at (at (path_of c.args.self.now.base below ++ option_to_list c.args.part) c.args.next) c.in-Choose.number) (seq (More h.front.more (path_of c.args.self.now.base below ++ option_to_list c.args.part) (suc c.args.next) ∷ h.front.others))) c.args.self.now.vars ls None k.2 h.front.calm
    (c.settle-in-Choose.ensures c.args.self.now.base ls (entered c.args.script.now c.args.self.now.base c.go_on-in-Choose.new.frames.items c.enter.new.frames.items c.in-Choose.inner k.0 (at (path_of c.args.self.now.base below ++ option_to_list c.args.part) c.args.next) c.in-Choose.number (More h.front.more (path_of c.args.self.now.base below ++ option_to_list c.args.part) (suc c.args.next) ∷ h.front.others) c.enter.ensures w.path k.1 w.stands)) refl refl

pub returns-in-Loop-clause-done : goal.returns-in-Loop-clause-done
returns-in-Loop-clause-done c t below h =
    let P : Plan → Type 0 = λ p. IsPlan c.args.script.now p c.args.self.now.vars (at (path_of c.args.self.now.base below ++ option_to_list c.args.part) c.args.next) (seq (More h.front.more (path_of c.args.self.now.base below ++ option_to_list c.args.part) (suc c.args.next) ∷ h.front.others)) h.act in
    let k = subst P c.in-Loop.is h.is in
    let w = went c.args.script.now c.args.self.now t below c.go_on-in-Loop.new.frames.items c.args.block c.args.next c.following-after.result c.args.part h.front (c.go_on-in-Loop.ensures.items below (Seq c.args.block c.args.next c.args.part) h.front.frames) c.following-after.ensures in
    let d : Control = record { base = c.args.self.now.base; frames = c.push_reserved.new.self; raised = c.args.self.now.raised; vars = c.args.self.now.vars } in
    let ls = Again k.0 (at (path_of c.args.self.now.base below ++ option_to_list c.args.part) c.args.next) 0 c.in-Loop.times ∷ More h.front.more (path_of c.args.self.now.base below ++ option_to_list c.args.part) (suc c.args.next) ∷ h.front.others in
    done-leaves c.args.script.now d h.front.others h.act (TurnsTerm k.0 (at (path_of c.args.self.now.base below ++ option_to_list c.args.part) c.args.next) 0 c.in-Loop.times (seq (More h.front.more (path_of c.args.self.now.base below ++ option_to_list c.args.part) (suc c.args.next) ∷ h.front.others))) c.args.self.now.vars ls None k.2 h.front.calm
    (settled-turns c.args.script.now c.args.self.now.base c.push_reserved.new.self.items k.0 (at (path_of c.args.self.now.base below ++ option_to_list c.args.part) c.args.next) 0 c.in-Loop.times (More h.front.more (path_of c.args.self.now.base below ++ option_to_list c.args.part) (suc c.args.next) ∷ h.front.others) (looped c.args.script.now c.args.self.now.base c.go_on-in-Loop.new.frames.items c.push_reserved.new.self.items c.in-Loop.body k.0 (at (path_of c.args.self.now.base below ++ option_to_list c.args.part) c.args.next) 0 c.in-Loop.times (More h.front.more (path_of c.args.self.now.base below ++ option_to_list c.args.part) (suc c.args.next) ∷ h.front.others) c.push_reserved.ensures.items w.path k.1 w.stands)) refl refl

pub settle-requires-in-Attempt : goal.settle-requires-in-Attempt
settle-requires-in-Attempt c =
    let h = c.requires.due.2 in
    let P : Plan → Type 0 = λ p. IsPlan c.args.script.now p c.args.self.now.vars (at (path_of c.args.self.now.base c.requires.due.1 ++ option_to_list c.args.part) c.args.next) (seq (More h.front.more (path_of c.args.self.now.base c.requires.due.1 ++ option_to_list c.args.part) (suc c.args.next) ∷ h.front.others)) h.act in
    let k = subst P c.in-Attempt.is h.is in
    let w = went c.args.script.now c.args.self.now c.requires.due.0 c.requires.due.1 c.go_on-in-Attempt.new.frames.items c.args.block c.args.next c.following-after.result c.args.part c.requires.due.2.front (c.go_on-in-Attempt.ensures.items c.requires.due.1 (Seq c.args.block c.args.next c.args.part) c.requires.due.2.front.frames) c.following-after.ensures in
    let fs = c.push_reserved-in-Attempt.new.self.items in
    let y = at (path_of c.args.self.now.base c.requires.due.1 ++ option_to_list c.args.part) c.args.next in
    let ls = Tried c.in-Attempt.dead_only k.2.0 y ∷ More h.front.more (path_of c.args.self.now.base c.requires.due.1 ++ option_to_list c.args.part) (suc c.args.next) ∷ h.front.others in
    let e = c.push_reserved-in-Attempt.ensures.items in
    let q = tried c.args.script.now c.args.self.now.base c.go_on-in-Attempt.new.frames.items fs c.in-Attempt.dead_only c.in-Attempt.handler k.2.0 y (More h.front.more (path_of c.args.self.now.base c.requires.due.1 ++ option_to_list c.args.part) (suc c.args.next) ∷ h.front.others) e w.path k.2.1 w.stands in (
      c.args.self.now.base,
      More k.0 (at y 0) 0 ∷ ls,
      entered c.args.script.now c.args.self.now.base fs c.enter-in-Attempt.new.frames.items c.in-Attempt.body k.0 y 0 ls c.enter-in-Attempt.ensures
          (same-path c.args.self.now.base c.go_on-in-Attempt.new.frames.items fs (Try c.in-Attempt.dead_only c.in-Attempt.handler) y e (path-try c.args.self.now.base c.go_on-in-Attempt.new.frames.items c.in-Attempt.dead_only c.in-Attempt.handler) w.path) k.1 q,
    )

pub returns-in-Attempt-clause-done : goal.returns-in-Attempt-clause-done
returns-in-Attempt-clause-done c t below h =
    let P : Plan → Type 0 = λ p. IsPlan c.args.script.now p c.args.self.now.vars (at (path_of c.args.self.now.base below ++ option_to_list c.args.part) c.args.next) (seq (More h.front.more (path_of c.args.self.now.base below ++ option_to_list c.args.part) (suc c.args.next) ∷ h.front.others)) h.act in
    let k = subst P c.in-Attempt.is h.is in
    let w = went c.args.script.now c.args.self.now t below c.go_on-in-Attempt.new.frames.items c.args.block c.args.next c.following-after.result c.args.part h.front (c.go_on-in-Attempt.ensures.items below (Seq c.args.block c.args.next c.args.part) h.front.frames) c.following-after.ensures in
    let fs = c.push_reserved-in-Attempt.new.self.items in
    let y = at (path_of c.args.self.now.base below ++ option_to_list c.args.part) c.args.next in
    let ls = Tried c.in-Attempt.dead_only k.2.0 y ∷ More h.front.more (path_of c.args.self.now.base below ++ option_to_list c.args.part) (suc c.args.next) ∷ h.front.others in
    let e = c.push_reserved-in-Attempt.ensures.items in
    let q = tried c.args.script.now c.args.self.now.base c.go_on-in-Attempt.new.frames.items fs c.in-Attempt.dead_only c.in-Attempt.handler k.2.0 y (More h.front.more (path_of c.args.self.now.base below ++ option_to_list c.args.part) (suc c.args.next) ∷ h.front.others) e w.path k.2.1 w.stands in
    let r = entered c.args.script.now c.args.self.now.base fs c.enter-in-Attempt.new.frames.items c.in-Attempt.body k.0 y 0 ls c.enter-in-Attempt.ensures
    (same-path c.args.self.now.base c.go_on-in-Attempt.new.frames.items fs (Try c.in-Attempt.dead_only c.in-Attempt.handler) y e (path-try c.args.self.now.base c.go_on-in-Attempt.new.frames.items c.in-Attempt.dead_only c.in-Attempt.handler) w.path) k.1 q in
    let d : Control = record { base = c.args.self.now.base; frames = c.settle-in-Attempt.new.frames; raised = c.args.self.now.raised; vars = c.args.self.now.vars } in
    done-leaves c.args.script.now d h.front.others h.act (Trying (items k.0 (at y 0) Empty) c.in-Attempt.dead_only k.2.0 y (seq (More h.front.more (path_of c.args.self.now.base below ++ option_to_list c.args.part) (suc c.args.next) ∷ h.front.others))) c.args.self.now.vars (More k.0 (at y 0) 0 ∷ ls) None k.2.2 h.front.calm
    (c.settle-in-Attempt.ensures c.args.self.now.base (More k.0 (at y 0) 0 ∷ ls) r) refl refl
