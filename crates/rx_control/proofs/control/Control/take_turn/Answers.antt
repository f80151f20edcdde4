use Rattle.std.proofs.Common.{rules, ◌≡◌, suc, ◌+◌, ◌<◌, ◌≤◌, List, ◌∷◌, None, refl, ap, sym, ◌∙◌, subst, arith, add-one}
use Rattle.rx_rules.proofs.Common.{Turns as TurnsTerm, items, at}
use Rattle.rx_control.specs.Levels.{More, Again, seq, wrap}
use Rattle.rx_control.specs.declared.frame.Frame.{Frame}
use Rattle.rx_control.specs.declared.frame.Frame.TheVariants.{Turns}
use Rattle.rx_control.specs.declared.control.Control.{Control}
use Rattle.rx_control.specs.Stands.{path_of, FramesStand}
use Rattle.rx_control.proofs.Standing.{at-top, calm-turns}
use Rattle.rx_control.proofs.NextIs.{turns-does}
use Rattle.rx_control.proofs.Steps.{entered, looped, same-path, path-turns, step-leaves, turn-over, turn-goes}
use Rattle.rx_control.proofs.control.Control.take_turn.Goals as goal

pub settle-requires : goal.settle-requires
settle-requires c =
    let q = c.requires.stands in
    let a = at-top c.args.script.now c.args.self.now q.0 q.1 (Turns c.args.body c.args.turn c.args.times) q.3 q.2 in
    let P : List Frame → Type 0 = λ fs. FramesStand c.args.script.now c.args.self.now.base fs a.others in
    (c.args.self.now.base, a.others, subst P (sym (c.drop_top.ensures.items q.1 (Turns c.args.body c.args.turn c.args.times) q.3)) a.rest)

pub returns-then-times-turn : goal.returns-then-times-turn
returns-then-times-turn c here t below h e =
    let a = at-top c.args.script.now c.args.self.now t below (Turns c.args.body c.args.turn c.args.times) e h in
    let r = calm-turns c.args.script.now c.args.self.now t below c.args.body c.args.turn c.args.times a in
    let P : List Frame → Type 0 = λ fs. FramesStand c.args.script.now c.args.self.now.base fs a.others in
    let st = c.settle.ensures c.args.self.now.base a.others (subst P (sym (c.drop_top.ensures.items below (Turns c.args.body c.args.turn c.args.times) e)) a.rest) in
    let d : Control = record { base = c.args.self.now.base; frames = c.settle.new.frames; raised = c.args.self.now.raised; vars = c.args.self.now.vars } in
    let q : c.args.times ≤ c.args.turn = search rules in
    step-leaves c.args.script.now d _ _ c.args.self.now.vars a.others None (turns-does c.args.script.now c.args.self.now t below c.args.body c.args.turn c.args.times r a c.args.self.now.vars here.0) r st
    (ap (λ u. wrap u a.others) (turn-over c.args.turn c.args.times (seq a.others) _ q)) refl

pub settle-requires-else-times-turn : goal.settle-requires-else-times-turn
settle-requires-else-times-turn c =
    let q = c.requires.stands in
    let a = at-top c.args.script.now c.args.self.now q.0 q.1 (Turns c.args.body c.args.turn c.args.times) q.3 q.2 in
    let l : c.args.turn < c.args.times = omega (arith, c.if-times-turn.false) in
    let n : c.args.turn + 1 ≡ suc c.args.turn = add-one c.args.turn in
    let x = path_of c.args.self.now.base q.1 in
    let f = c.drop_top.ensures.items q.1 (Turns c.args.body c.args.turn c.args.times) q.3 in
    let P : List Frame → Type 0 = λ fs. FramesStand c.args.script.now c.args.self.now.base fs a.others in
    let e1 = c.push_reserved.ensures.items in
    let ls = Again a.stands.0 x (c.args.turn + 1) c.args.times ∷ a.others in
    let w = looped c.args.script.now c.args.self.now.base c.drop_top.new.frames.items c.push_reserved.new.self.items c.args.body a.stands.0 x (c.args.turn + 1) c.args.times a.others e1 (ap (path_of c.args.self.now.base) f) a.stands.2 (subst P (sym f) a.rest) in
    let y = same-path c.args.self.now.base c.drop_top.new.frames.items c.push_reserved.new.self.items (Turns c.args.body (c.args.turn + 1) c.args.times) x e1 (path-turns c.args.self.now.base c.drop_top.new.frames.items c.args.body (c.args.turn + 1) c.args.times) (ap (path_of c.args.self.now.base) f) in
    let z = entered c.args.script.now c.args.self.now.base c.push_reserved.new.self.items c.enter.new.frames.items c.args.body a.stands.0 x c.args.turn ls c.enter.ensures y a.stands.2 w in
    (c.args.self.now.base, More a.stands.0 (at x c.args.turn) 0 ∷ ls, z)

pub returns-else-times-turn : goal.returns-else-times-turn
returns-else-times-turn c here t below h e =
    let a = at-top c.args.script.now c.args.self.now t below (Turns c.args.body c.args.turn c.args.times) e h in
    let l : c.args.turn < c.args.times = omega (arith, c.if-times-turn.false) in
    let n : c.args.turn + 1 ≡ suc c.args.turn = add-one c.args.turn in
    let x = path_of c.args.self.now.base below in
    let f = c.drop_top.ensures.items below (Turns c.args.body c.args.turn c.args.times) e in
    let P : List Frame → Type 0 = λ fs. FramesStand c.args.script.now c.args.self.now.base fs a.others in
    let e1 = c.push_reserved.ensures.items in
    let ls = Again a.stands.0 x (c.args.turn + 1) c.args.times ∷ a.others in
    let w = looped c.args.script.now c.args.self.now.base c.drop_top.new.frames.items c.push_reserved.new.self.items c.args.body a.stands.0 x (c.args.turn + 1) c.args.times a.others e1 (ap (path_of c.args.self.now.base) f) a.stands.2 (subst P (sym f) a.rest) in
    let y = same-path c.args.self.now.base c.drop_top.new.frames.items c.push_reserved.new.self.items (Turns c.args.body (c.args.turn + 1) c.args.times) x e1 (path-turns c.args.self.now.base c.drop_top.new.frames.items c.args.body (c.args.turn + 1) c.args.times) (ap (path_of c.args.self.now.base) f) in
    let z = entered c.args.script.now c.args.self.now.base c.push_reserved.new.self.items c.enter.new.frames.items c.args.body a.stands.0 x c.args.turn ls c.enter.ensures y a.stands.2 w in
    let r = calm-turns c.args.script.now c.args.self.now t below c.args.body c.args.turn c.args.times a in
    let d : Control = record { base = c.args.self.now.base; frames = c.settle-else-times-turn.new.frames; raised = c.args.self.now.raised; vars = c.args.self.now.vars } in
    step-leaves c.args.script.now d _ _ c.args.self.now.vars (More a.stands.0 (at x c.args.turn) 0 ∷ ls) None (turns-does c.args.script.now c.args.self.now t below c.args.body c.args.turn c.args.times r a c.args.self.now.vars here.0) r
    (c.settle-else-times-turn.ensures c.args.self.now.base (More a.stands.0 (at x c.args.turn) 0 ∷ ls) z)
    (ap (λ u. wrap u a.others) (turn-goes c.args.turn c.args.times (seq a.others) _ l ∙ ap (λ k. items a.stands.0 (at x c.args.turn) (TurnsTerm a.stands.0 x k c.args.times (seq a.others))) (sym n))) refl
