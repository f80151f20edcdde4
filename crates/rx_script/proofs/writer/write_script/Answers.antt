use Rattle.rx_base.proofs.Results.{on-ok-then}
use Rattle.rx_script.specs.Writing.{script_text}
use Rattle.rx_script.proofs.OneScript.{written-reads-back}
use Rattle.rx_script.proofs.writer.write_script.Goals as goal

pub returns-clause-reads_back : goal.returns-clause-reads_back
returns-clause-reads_back c = on-ok-then c.put_text.result _ _ c.put_text.ensures.ok (λ text.
    let names = c.args.script.now.names in
    let w = c.whole.ensures in
    (script_text names w.0, w.0, text w.0 w.1, w.1, written-reads-back names w.0 w.3 w.2 w.4))
