use Rattle.std.proofs.Common.{◌≡◌, ap, sym, ◌∙◌, length, drop, pos}
use Rattle.std.proofs.lemmas.List.{take_rest}
use Rattle.std.proofs.lemmas.Option.{same_Some, none-some}
use Rattle.rx_text.specs.Numbers.{natural_text}
use Rattle.rx_answers.proofs.Heads.{scanned-head, in-range, one-answer}
use Rattle.rx_answers.proofs.pair.first_line.Goals.{else-size-ge0-via-then-size-ge0+else-size-le65536, else-size-ge0-via-else-size-ge0}
use Rattle.rx_answers.proofs.pair.first_line.Goals as goal

pub returns-in_err-size-clause-none : goal.returns-in_err-size-clause-none
returns-in_err-size-clause-none c = λ e size rest head.
    let s = scanned-head c.args.bytes.now c.in_ok-tail.tail.now rest size c.scan_num.result c.in_ok-tail.ensures.some head c.scan_num.ensures.exact in
    none-some (pos size, length (natural_text size)) (sym c.in_err-size.was ∙ s.0)

pub returns-in_err-rest-clause-none : goal.returns-in_err-rest-clause-none
returns-in_err-rest-clause-none c = λ e size rest head.
    let s = scanned-head c.args.bytes.now c.in_ok-tail.tail.now rest size c.scan_num.result c.in_ok-tail.ensures.some head c.scan_num.ensures.exact in
    let end : c.in_ok-size.end ≡ length (natural_text size) = ap (λ x. x.1) (same_Some (c.in_ok-size.size, c.in_ok-size.end) (pos size, length (natural_text size)) (sym c.in_ok-size.was ∙ s.0)) in
    c.after-2.ensures.none c.in_err-rest.was rest (take_rest c.in_ok-tail.tail.now c.in_ok-size.end ∙ ap (λ k. drop k c.in_ok-tail.tail.now) end ∙ s.1)

pub returns-else-size-ge0-clause-none : goal.returns-else-size-ge0-clause-none
returns-else-size-ge0-clause-none c = λ e size rest head.
    let s = scanned-head c.args.bytes.now c.in_ok-tail.tail.now rest size c.scan_num.result c.in_ok-tail.ensures.some head c.scan_num.ensures.exact in
    let is : c.in_ok-size.size ≡ pos size = ap (λ x. x.0) (same_Some (c.in_ok-size.size, c.in_ok-size.end) (pos size, length (natural_text size)) (sym c.in_ok-size.was ∙ s.0)) in
    let inside = in-range c.in_ok-size.size size is head.short in
    elim c.else-size-ge0.branch [
      | else-size-ge0-via-then-size-ge0+else-size-le65536 w ↦ one-answer _ inside.1 w.if-size-le65536.false
      | else-size-ge0-via-else-size-ge0 w ↦ one-answer _ inside.0 w.if-size-ge0.false
    ]
