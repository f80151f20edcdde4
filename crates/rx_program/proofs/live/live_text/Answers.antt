use Rattle.rx_program.specs.Top.{status_by}
use Rattle.rx_program.proofs.Told.{handed-on}
use Rattle.rx_program.proofs.Asking.{live-can, live-done}
use Rattle.rx_program.proofs.live.live_text.Goals as goal

pub returns-in-Ok-clause-ok : goal.returns-in-Ok-clause-ok
returns-in-Ok-clause-ok g c =
    handed-on c.made.result c.make_live.result _ _ c.made.ensures.ok c.make_live.ensures (λ r told asked is.
    live-done c.args.live.now asked _ _ c.in-Ok.program.script r.0.items (status_by r.1) is c.in-Ok.ensures.ok told)

pub returns-in-Err-clause-complete : goal.returns-in-Err-clause-complete
returns-in-Err-clause-complete g c asked is can calm =
    let w = live-can c.args.live.now asked _ is can in c.in-Err.ensures.complete w.0 w.1 w.2 calm
