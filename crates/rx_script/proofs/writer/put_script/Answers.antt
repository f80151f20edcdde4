use Rattle.std.proofs.Common.{sym}
use Rattle.rx_base.proofs.Results.{on-ok-then}
use Rattle.rx_syntax.specs.Grammar.{spellings}
use Rattle.rx_script.proofs.Written.{first-part}
use Rattle.rx_script.proofs.writer.put_script.Goals as goal

pub put_all-requires : goal.put_all-requires
put_all-requires c =
    let w = c.whole.ensures in
    (spellings w.0, first-part c.args.script.now c.top.result c.new-parts.result.items c.push.new.self.items w.0 (sym c.top.ensures) c.new-parts.ensures.items c.in_ok-push.ensures.items w.1)

pub returns : goal.returns
returns c = on-ok-then c.put_all.result _ _ c.put_all.ensures (λ f t h.
    f (spellings t) (first-part c.args.script.now c.top.result c.new-parts.result.items c.push.new.self.items t (sym c.top.ensures) c.new-parts.ensures.items c.in_ok-push.ensures.items h))
