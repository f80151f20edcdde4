use Rattle.std.proofs.Common.{◌∷◌, None, refl, sym, subst}
use Rattle.rx_rules.proofs.Common.{Stmt}
use Rattle.rx_control.specs.Levels.{More, Inside, Waiting}
use Rattle.rx_control.specs.declared.frame.Frame.TheVariants.{Body, Held}
use Rattle.rx_control.specs.Stands.{path_of, FramesStand}
use Rattle.rx_control.specs.Inside.Front.{levels_opened, SettlesTo}
use Rattle.rx_control.proofs.Steps.{entered-body, same-path, path-body}
use Rattle.rx_control.proofs.Answering.{finish-is, at-is}
use Rattle.rx_control.proofs.statement.open_after.Goals as goal

pub settle-requires : goal.settle-requires
settle-requires c =
    let q = c.requires.stands in
    let k = finish-is c.args.script.now c.in-Finish.body c.requires.stmt.0 (rw c.in-Finish.is at c.requires.stmt.1) in
    let e = c.push_reserved.ensures.items in
    let q : FramesStand c.args.script.now c.requires.stands.0 c.push_reserved.new.self.items (Inside ∷ c.requires.stands.1) = (Body, c.args.frames.now.items, e, refl, c.requires.stands.2) in
    let y = same-path c.requires.stands.0 c.args.frames.now.items c.push_reserved.new.self.items Body (path_of c.requires.stands.0 c.args.frames.now.items) e (path-body c.requires.stands.0 c.args.frames.now.items) refl in
    let z = entered-body c.args.script.now c.requires.stands.0 c.push_reserved.new.self.items c.enter.new.frames.items c.in-Finish.body k.0 (path_of c.requires.stands.0 c.args.frames.now.items) (Inside ∷ c.requires.stands.1) c.enter.ensures y k.2 q in
    (c.requires.stands.0, More k.0 (path_of c.requires.stands.0 c.args.frames.now.items) 0 ∷ Inside ∷ c.requires.stands.1, z)

pub returns-in-Finish : goal.returns-in-Finish
returns-in-Finish c base levels t fs h =
    let k = finish-is c.args.script.now c.in-Finish.body t (rw c.in-Finish.is at h) in
    let e = c.push_reserved.ensures.items in
    let q : FramesStand c.args.script.now base c.push_reserved.new.self.items (Inside ∷ levels) = (Body, c.args.frames.now.items, e, refl, fs) in
    let y = same-path base c.args.frames.now.items c.push_reserved.new.self.items Body (path_of base c.args.frames.now.items) e (path-body base c.args.frames.now.items) refl in
    let z = entered-body c.args.script.now base c.push_reserved.new.self.items c.enter.new.frames.items c.in-Finish.body k.0 (path_of base c.args.frames.now.items) (Inside ∷ levels) c.enter.ensures y k.2 q in
    let P : Stmt → Type 0 = λ t. SettlesTo c.args.script.now base c.settle.new.frames.items None (levels_opened t (path_of base c.args.frames.now.items) levels) in
    subst P (sym k.1) (c.settle.ensures base (More k.0 (path_of base c.args.frames.now.items) 0 ∷ Inside ∷ levels) z)

pub returns-in-At : goal.returns-in-At
returns-in-At c base levels t fs h =
    let k = at-is c.args.script.now c.in-At.place c.in-At.body t (rw c.in-At.is at h) in
    let P : Stmt → Type 0 = λ t. SettlesTo c.args.script.now base c.push_reserved-in-At.new.self.items None (levels_opened t (path_of base c.args.frames.now.items) levels) in
    subst P (sym k.2) (record { levels_left = Waiting ∷ levels; stands = (Held, c.args.frames.now.items, c.push_reserved-in-At.ensures.items, refl, fs); settled = tt; is = refl })
