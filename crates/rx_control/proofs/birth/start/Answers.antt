use Rattle.std.proofs.Common.{rules, ◌≡◌, [], ◌∷◌, ◌++◌, None, refl}
use Rattle.rx_control.specs.declared.frame.Frame.TheVariants.{Seq}
use Rattle.rx_control.specs.Levels.{More}
use Rattle.rx_control.specs.Stands.{path_of}
use Rattle.rx_control.proofs.Starting.{first-frame, started}
use Rattle.rx_control.proofs.birth.start.Goals as goal

pub settle-requires : goal.settle-requires
settle-requires c =
    let e : c.enter.new.frames.items ≡ Seq c.args.block 0 None ∷ [] = search rules in
    (c.args.base, More c.requires.0 (path_of c.args.base [] ++ []) 0 ∷ [], first-frame c.args.script.now c.args.base c.enter.new.frames.items c.args.block c.requires.0 e c.requires.1)

pub returns : goal.returns
returns c b h =
    let e : c.enter.new.frames.items ≡ Seq c.args.block 0 None ∷ [] = search rules in
    (started c.args.script.now _ b refl (c.settle.ensures c.args.base (More b (path_of c.args.base [] ++ []) 0 ∷ []) (first-frame c.args.script.now c.args.base c.enter.new.frames.items c.args.block b e h)), refl)
