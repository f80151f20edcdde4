use Rattle.std.proofs.Common.{◌++◌, ◌∙◌, ap, sym, length, codes}
use Rattle.std.specs.List.{flat_map}
use Rattle.rx_lines.specs.Replies.{fault_text}
use Rattle.rx_trace.proofs.Lines.{part-some}
use Rattle.rx_lines.proofs.Telling.{told-as, joined}
use Rattle.rx_lines.proofs.replies.put_thrown.Goals as goal

pub returns : goal.returns
returns g c = λ w f text now.
    let xs = c.args.thrown.now in
    let word = codes " thrown" in
    let some = part-some word fault_text xs (λ e. c.if-len-eq0.false (c.len.ensures ∙ ap length e)) in
    told-as w f _ _ _ (text ++ (word ++ flat_map fault_text xs)) _ (ap (λ z. text ++ z) (sym some))
    (joined w f _ _ _ text word (flat_map fault_text xs) (c.put_faults.ensures w f (text ++ word) (c.put.ensures w f text now)))
