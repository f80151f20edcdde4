use Rattle.std.proofs.Common.{rules, ◌≡◌, suc, List, ◌∷◌, ◌++◌, length, Some, None, refl, ap, sym, ◌∙◌, subst, option_to_list}
use Rattle.rx_rules.proofs.Common.{Term, granted}
use Rattle.rx_control.specs.Levels.{More, Waiting, seq, wrap, term_of}
use Rattle.rx_control.specs.declared.frame.Frame.{Frame}
use Rattle.rx_control.specs.declared.frame.Frame.TheVariants.{Seq, Turns, Try, Body, Held}
use Rattle.rx_control.specs.declared.control.Control.{Control}
use Rattle.rx_control.specs.Stands.{path_of, FramesStand, StandsFor}
use Rattle.rx_control.specs.Inside.Front.{levels_opened, SettlesTo}
use Rattle.rx_control.proofs.Standing.{at-top, at-statement, at-turns, at-tried, at-inside, at-waiting, calm-seq, calm-turns, calm-held, settled-stands}
use Rattle.rx_control.proofs.Steps.{went}
use Rattle.rx_control.proofs.Answering.{granted-front, granted-inside, granted-waiting, granted-turns, granted-tried, raised-or, calm-or}
use Rattle.rx_control.proofs.control.Control.grant.Goals as goal

pub at_hand-stmt-requires : goal.at_hand-stmt-requires
at_hand-stmt-requires c =
    let q = c.requires.stands in
    let e = rw c.in-Some-Seq.field-0-is at c.in-Some-Seq.ensures in
    let b = at-top c.args.script.now c.args.self.now q.0 e.0 (Seq c.in-Some-Seq.block c.in-Some-Seq.next c.in-Some-Seq.part) e.1 q.1 in
    let r = calm-seq c.args.script.now c.args.self.now q.0 e.0 c.in-Some-Seq.block c.in-Some-Seq.next c.in-Some-Seq.part b in
    let a = at-statement c.args.script.now c.args.self.now q.0 e.0 c.in-Some-Seq.block c.in-Some-Seq.next c.in-Some-Seq.part r e.1 q.1 in
    let x = path_of c.args.self.now.base e.0 ++ option_to_list c.in-Some-Seq.part in
    let ls = More a.more x (suc c.in-Some-Seq.next) ∷ a.others in
    (a.stmt, a.more, a.awaits)

pub following-after-requires : goal.following-after-requires
following-after-requires c =
    let q = c.requires.stands in
    let e = rw c.in-Some-Seq.field-0-is at c.in-Some-Seq.ensures in
    let b = at-top c.args.script.now c.args.self.now q.0 e.0 (Seq c.in-Some-Seq.block c.in-Some-Seq.next c.in-Some-Seq.part) e.1 q.1 in
    let r = calm-seq c.args.script.now c.args.self.now q.0 e.0 c.in-Some-Seq.block c.in-Some-Seq.next c.in-Some-Seq.part b in
    let a = at-statement c.args.script.now c.args.self.now q.0 e.0 c.in-Some-Seq.block c.in-Some-Seq.next c.in-Some-Seq.part r e.1 q.1 in
    let x = path_of c.args.self.now.base e.0 ++ option_to_list c.in-Some-Seq.part in
    let ls = More a.more x (suc c.in-Some-Seq.next) ∷ a.others in
    (a.stmt, a.more, a.awaits)

pub open_after-requires-clause-stands : goal.open_after-requires-clause-stands
open_after-requires-clause-stands c =
    let q = c.requires.stands in
    let e = rw c.in-Some-Seq.field-0-is at c.in-Some-Seq.ensures in
    let b = at-top c.args.script.now c.args.self.now q.0 e.0 (Seq c.in-Some-Seq.block c.in-Some-Seq.next c.in-Some-Seq.part) e.1 q.1 in
    let r = calm-seq c.args.script.now c.args.self.now q.0 e.0 c.in-Some-Seq.block c.in-Some-Seq.next c.in-Some-Seq.part b in
    let a = at-statement c.args.script.now c.args.self.now q.0 e.0 c.in-Some-Seq.block c.in-Some-Seq.next c.in-Some-Seq.part r e.1 q.1 in
    let x = path_of c.args.self.now.base e.0 ++ option_to_list c.in-Some-Seq.part in
    let ls = More a.more x (suc c.in-Some-Seq.next) ∷ a.others in
    let w = went c.args.script.now c.args.self.now q.0 e.0 c.go_on.new.frames.items c.in-Some-Seq.block c.in-Some-Seq.next c.following-after.result c.in-Some-Seq.part a (c.go_on.ensures.items e.0 (Seq c.in-Some-Seq.block c.in-Some-Seq.next c.in-Some-Seq.part) e.1) c.following-after.ensures in
    (c.args.self.now.base, ls, w.stands)

pub open_after-requires-clause-stmt : goal.open_after-requires-clause-stmt
open_after-requires-clause-stmt c =
    let q = c.requires.stands in
    let e = rw c.in-Some-Seq.field-0-is at c.in-Some-Seq.ensures in
    let b = at-top c.args.script.now c.args.self.now q.0 e.0 (Seq c.in-Some-Seq.block c.in-Some-Seq.next c.in-Some-Seq.part) e.1 q.1 in
    let r = calm-seq c.args.script.now c.args.self.now q.0 e.0 c.in-Some-Seq.block c.in-Some-Seq.next c.in-Some-Seq.part b in
    let a = at-statement c.args.script.now c.args.self.now q.0 e.0 c.in-Some-Seq.block c.in-Some-Seq.next c.in-Some-Seq.part r e.1 q.1 in
    let x = path_of c.args.self.now.base e.0 ++ option_to_list c.in-Some-Seq.part in
    let ls = More a.more x (suc c.in-Some-Seq.next) ∷ a.others in
    (a.stmt, c.at_hand-stmt.ensures a.stmt a.more a.awaits)

pub returns-in-Some-Seq-clause-stands : goal.returns-in-Some-Seq-clause-stands
returns-in-Some-Seq-clause-stands c t h =
    let e = rw c.in-Some-Seq.field-0-is at c.in-Some-Seq.ensures in
    let b = at-top c.args.script.now c.args.self.now t e.0 (Seq c.in-Some-Seq.block c.in-Some-Seq.next c.in-Some-Seq.part) e.1 h in
    let r = calm-seq c.args.script.now c.args.self.now t e.0 c.in-Some-Seq.block c.in-Some-Seq.next c.in-Some-Seq.part b in
    let a = at-statement c.args.script.now c.args.self.now t e.0 c.in-Some-Seq.block c.in-Some-Seq.next c.in-Some-Seq.part r e.1 h in
    let x = path_of c.args.self.now.base e.0 ++ option_to_list c.in-Some-Seq.part in
    let ls = More a.more x (suc c.in-Some-Seq.next) ∷ a.others in
    let w = went c.args.script.now c.args.self.now t e.0 c.go_on.new.frames.items c.in-Some-Seq.block c.in-Some-Seq.next c.following-after.result c.in-Some-Seq.part a (c.go_on.ensures.items e.0 (Seq c.in-Some-Seq.block c.in-Some-Seq.next c.in-Some-Seq.part) e.1) c.following-after.ensures in
    let d : Control = record { base = c.args.self.now.base; frames = c.open_after.new.frames; raised = c.args.self.now.raised; vars = c.args.self.now.vars } in
    let g = ap (granted c.args.faults) a.is ∙ granted-front c.args.faults a.stmt a.more x c.in-Some-Seq.next a.others ∙ ap (λ y. term_of None (levels_opened a.stmt y ls)) (sym w.path) in
    settled-stands c.args.script.now d (levels_opened a.stmt (path_of c.args.self.now.base c.go_on.new.frames.items) ls) None (granted c.args.faults t) r (c.open_after.ensures c.args.self.now.base ls a.stmt w.stands (c.at_hand-stmt.ensures a.stmt a.more a.awaits)) g

pub returns-in-Some-Body-clause-stands : goal.returns-in-Some-Body-clause-stands
returns-in-Some-Body-clause-stands c t h =
    let e = rw c.in-Some-Body.field-0-is at c.in-Some-Body.ensures in
    let a = at-top c.args.script.now c.args.self.now t e.0 Body e.1 h in
    let d : Control = record { base = c.args.self.now.base; frames = c.push_reserved.new.self; raised = None; vars = c.args.self.now.vars } in
    let P : List Frame → Type 0 = λ fs. FramesStand c.args.script.now c.args.self.now.base fs a.others in
    let k = subst P (sym (c.drop_top.ensures.items e.0 Body e.1)) a.rest in
    let g = ap (granted c.args.faults) (at-inside c.args.script.now c.args.self.now t e.0 c.args.self.now.raised refl a) ∙ granted-inside c.args.faults c.args.self.now.raised a.others in
    let z : SettlesTo c.args.script.now c.args.self.now.base c.push_reserved.new.self.items None (Waiting ∷ a.others) = record { levels_left = Waiting ∷ a.others; stands = (Held, c.drop_top.new.frames.items, c.push_reserved.ensures.items, refl, k); settled = tt; is = refl } in
    settled-stands c.args.script.now d (Waiting ∷ a.others) None (granted c.args.faults t) refl z g

pub settle-requires : goal.settle-requires
settle-requires c =
    let h = c.requires.stands.1 in
    let e = rw c.in-Some-Held.field-0-is at c.in-Some-Held.ensures in
    let a = at-top c.args.script.now c.args.self.now c.requires.stands.0 e.0 Held e.1 h in
    let P : List Frame → Type 0 = λ fs. FramesStand c.args.script.now c.args.self.now.base fs a.others in
    (c.args.self.now.base, a.others, subst P (sym (c.drop_top-in-Some-Held.ensures.items e.0 Held e.1)) a.rest)

pub returns-then-len-eq0-clause-stands : goal.returns-then-len-eq0-clause-stands
returns-then-len-eq0-clause-stands c t h =
    let e = rw c.in-Some-Held.field-0-is at c.in-Some-Held.ensures in
    let a = at-top c.args.script.now c.args.self.now t e.0 Held e.1 h in
    let r = calm-held c.args.script.now c.args.self.now t e.0 a in
    let P : List Frame → Type 0 = λ fs. FramesStand c.args.script.now c.args.self.now.base fs a.others in
    let k = subst P (sym (c.drop_top-in-Some-Held.ensures.items e.0 Held e.1)) a.rest in
    let d : Control = record { base = c.args.self.now.base; frames = c.settle.new.frames; raised = c.args.self.now.raised; vars = c.args.self.now.vars } in
    let n : length c.args.faults ≡ 0 = search rules in
    let g = ap (granted c.args.faults) (at-waiting c.args.script.now c.args.self.now t e.0 r a) ∙ granted-waiting c.args.faults a.others ∙ ap (λ u. wrap u a.others) (calm-or c.args.faults (seq a.others) n) in
    settled-stands c.args.script.now d a.others None (granted c.args.faults t) r (c.settle.ensures c.args.self.now.base a.others k) g

pub returns-else-len-eq0-clause-stands : goal.returns-else-len-eq0-clause-stands
returns-else-len-eq0-clause-stands c t h =
    let e = rw c.in-Some-Held.field-0-is at c.in-Some-Held.ensures in
    let a = at-top c.args.script.now c.args.self.now t e.0 Held e.1 h in
    let r = calm-held c.args.script.now c.args.self.now t e.0 a in
    let P : List Frame → Type 0 = λ fs. FramesStand c.args.script.now c.args.self.now.base fs a.others in
    let k = subst P (sym (c.drop_top-in-Some-Held.ensures.items e.0 Held e.1)) a.rest in
    let d : Control = record { base = c.args.self.now.base; frames = c.unwind.new.frames; raised = Some c.args.faults; vars = c.args.self.now.vars } in
    let n : length c.args.faults ≡ 0 → ⊥ = λ z. c.if-len-eq0.false (c.len.ensures ∙ z) in
    let g = ap (granted c.args.faults) (at-waiting c.args.script.now c.args.self.now t e.0 r a) ∙ granted-waiting c.args.faults a.others ∙ ap (λ u. wrap u a.others) (raised-or c.args.faults (seq a.others) n) in
    settled-stands c.args.script.now d a.others (Some c.args.faults) (granted c.args.faults t) refl (c.unwind.ensures c.args.script.now c.args.self.now.base a.others c.args.faults k) g

pub returns-in-Some-Turns-clause-stands : goal.returns-in-Some-Turns-clause-stands
returns-in-Some-Turns-clause-stands c t h =
    let e = rw c.in-Some-Turns.field-0-is at c.in-Some-Turns.ensures in
    let a = at-top c.args.script.now c.args.self.now t e.0 (Turns c.in-Some-Turns.field-0-0 c.in-Some-Turns.field-0-1 c.in-Some-Turns.field-0-2) e.1 h in
    let r = calm-turns c.args.script.now c.args.self.now t e.0 c.in-Some-Turns.field-0-0 c.in-Some-Turns.field-0-1 c.in-Some-Turns.field-0-2 a in
    let q = at-turns c.args.script.now c.args.self.now t e.0 c.in-Some-Turns.field-0-0 c.in-Some-Turns.field-0-1 c.in-Some-Turns.field-0-2 r a in
    let P : Term → Type 0 = λ u. StandsFor c.args.script.now c.args.self.now u in
    subst P (sym (ap (granted c.args.faults) q ∙ granted-turns c.args.faults _ _ _ _ a.others ∙ sym q)) h

pub returns-in-Some-Try-clause-stands : goal.returns-in-Some-Try-clause-stands
returns-in-Some-Try-clause-stands c t h =
    let e = rw c.in-Some-Try.field-0-is at c.in-Some-Try.ensures in
    let a = at-top c.args.script.now c.args.self.now t e.0 (Try c.in-Some-Try.field-0-0 c.in-Some-Try.field-0-1) e.1 h in
    let q = at-tried c.args.script.now c.args.self.now t e.0 c.in-Some-Try.field-0-0 c.in-Some-Try.field-0-1 c.args.self.now.raised refl a in
    let P : Term → Type 0 = λ u. StandsFor c.args.script.now c.args.self.now u in
    subst P (sym (ap (granted c.args.faults) q ∙ granted-tried c.args.faults c.args.self.now.raised c.in-Some-Try.field-0-0 a.stands.0 (path_of c.args.self.now.base e.0) a.others ∙ sym q)) h
