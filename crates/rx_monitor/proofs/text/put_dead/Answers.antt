use Rattle.std.proofs.Common.{◌≡◌, arith}
use Rattle.std.proofs.lemmas.Result.{on_ok_weaker}
use Rattle.rx_monitor.proofs.Places.{dead-none, dead-text}
use Rattle.rx_monitor.proofs.text.put_dead.Goals as goal

pub returns-then-dead-eq0 : goal.returns-then-dead-eq0
returns-then-dead-eq0 c = dead-none c.args.dead _ (omega arith)

pub returns : goal.returns
returns c =
    on_ok_weaker c.put_places.result
    (dead-text c.args.dead _ _ _ (omega arith) (λ (zero : c.args.dead.0 ≡ 0). omega arith) c.in_ok-put_text.ensures.ok)
    c.put_places.ensures
