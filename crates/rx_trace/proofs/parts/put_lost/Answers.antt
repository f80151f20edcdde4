use Rattle.std.proofs.Common.{◌≡◌, arith}
use Rattle.std.proofs.lemmas.Result.{on_ok_weaker}
use Rattle.rx_trace.proofs.Places.{lost-none, lost-text}
use Rattle.rx_trace.proofs.parts.put_lost.Goals as goal

pub returns-then-lost-eq0 : goal.returns-then-lost-eq0
returns-then-lost-eq0 c = lost-none c.args.lost _ (omega arith)

pub returns : goal.returns
returns c =
    on_ok_weaker c.put_places.result
    (lost-text c.args.lost _ _ _ (omega arith) (λ (zero : c.args.lost.0 ≡ 0). omega arith) c.in_ok-put_text.ensures.ok)
    c.put_places.ensures
