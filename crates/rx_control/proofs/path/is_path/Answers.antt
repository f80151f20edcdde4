use Rattle.std.proofs.Common.{[], ◌∷◌, option_to_list}
use Rattle.rx_control.specs.Stands.{path_of}
use Rattle.rx_control.proofs.Paths.{goes-on}
use Rattle.rx_control.proofs.path.is_path.Goals as goal

pub returns-in-None : goal.returns-in-None
returns-in-None c =
    let on = goes-on c.args.path.now (path_of c.args.base.now c.args.frames.now) c.in-Some.left.now (option_to_list c.args.part) (c.args.next ∷ []) c.in-Some.ensures in
    (λ h. cc, λ h. absurd (c.in-None.ensures [] (on.0 h)))
