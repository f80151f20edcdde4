use Rattle.std.proofs.Common.{◌≡◌, ◌++◌, ap, ◌∙◌, codes}
use Rattle.std.proofs.lemmas.Result.{on_ok_weaker}
use Rattle.rx_history.specs.declared.setup.Setup.{Setup}
use Rattle.rx_history.specs.Events.{events_of}
use Rattle.rx_trace.specs.EntryLines.{entry_lines}
use Rattle.rx_trace.specs.EventLines.{journals_lines}
use Rattle.rx_history.specs.Logs.{Log}
use Rattle.rx_history.specs.Setups.{given}
use Rattle.rx_trace.specs.Text.{setup_lines, trace_text}
use Rattle.rx_trace.proofs.Lines.{six-texts}
use Rattle.rx_trace.proofs.text.put_trace.Goals as goal

pub returns : goal.returns
unfolding trace_text
returns c =
    let setup : c.h.inside.setup ≡ c.args.h.now.setup = ap (λ (h : Log). h.setup) c.h.view_is in
    let written : c.put_setup.new.out.items ≡ c.put_text.new.out.items ++ setup_lines (given c.args.h.now.setup) = c.in_ok-put_setup.ensures ∙ ap (λ (s : Setup). c.put_text.new.out.items ++ setup_lines (given s)) setup in
    on_ok_weaker c.put_text-3.result
    (six-texts c.args.out.now.items (codes "rx10 trace 2\n") (setup_lines (given c.args.h.now.setup)) (codes "history\n")
    (entry_lines 0 c.args.h.now.entries) (journals_lines 0 (events_of c.args.j.now)) (codes "done\n")
    c.put_text.new.out.items c.put_setup.new.out.items c.put_text-2.new.out.items c.put_entries.new.out.items c.put_journals.new.out.items c.put_text-3.new.out.items
    c.in_ok-put_text.ensures.ok written c.in_ok-put_text-2.ensures.ok c.in_ok-put_entries.ensures c.in_ok-put_journals.ensures)
    c.put_text-3.ensures.ok
