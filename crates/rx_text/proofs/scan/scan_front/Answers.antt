use Rattle.std.proofs.Common.{◌≡◌, ◌+◌, suc, ap, ◌∙◌, sym, slice_index, negsuc, pos}
use Rattle.std.proofs.lemmas.List.{take_rest}
use Rattle.std.proofs.lemmas.Option.{same_Some, none-some}
use Rattle.rx_text.proofs.Scanning.{plain, signed, pair-found, no-sign, has-sign, above-some, below-some, stored}
use Rattle.rx_text.proofs.scan.scan_front.Goals as goal

pub returns-in_err-n-2-clause-exact : goal.returns-in_err-n-2-clause-exact
returns-in_err-n-2-clause-exact c = λ z end stands.
    let sign = has-sign (slice_index c.args.bytes.now 0) c.sign_len.result c.sign_len.ensures.sign c.if-sign_len-eq0.false in
    let s = signed c.args.bytes.now _ c.scan_natural-else-sign_len-eq0.result z end (take_rest c.args.bytes.now 1) c.scan_natural-else-sign_len-eq0.ensures.exact sign stands in
    absurd (none-some (suc s.k, s.len) (sym c.in_err-n-2.was ∙ s.scanned))

pub returns-in_err-below-clause-exact : goal.returns-in_err-below-clause-exact
returns-in_err-below-clause-exact c = λ z end stands.
    let sign = has-sign (slice_index c.args.bytes.now 0) c.sign_len.result c.sign_len.ensures.sign c.if-sign_len-eq0.false in
    let s = signed c.args.bytes.now _ c.scan_natural-else-sign_len-eq0.result z end (take_rest c.args.bytes.now 1) c.scan_natural-else-sign_len-eq0.ensures.exact sign stands in
    let same = pair-found c.in_ok-n-2.n (suc s.k) c.in_ok-n-2.len s.len (sym c.in_ok-n-2.was ∙ s.scanned) in
    absurd (none-some (negsuc s.k) (sym c.in_err-below.was ∙ c.below.ensures ∙ below-some c.in_ok-n-2.n s.k same.0 s.low))

pub returns-in_ok-above-clause-exact : goal.returns-in_ok-above-clause-exact
returns-in_ok-above-clause-exact c = λ z end stands.
    let apart = no-sign (slice_index c.args.bytes.now 0) c.sign_len.result c.sign_len.ensures.sign c.if-sign_len-eq0.true in
    let s = plain c.args.bytes.now c.scan_natural.result z end c.scan_natural.ensures.exact apart stands in
    let same = pair-found c.in_ok-n.n s.n c.in_ok-n.len end (sym c.in_ok-n.was ∙ s.scanned) in
    stored c.in_ok-above.field-0 z c.in_ok-n.len end stands.fits
    (same_Some c.in_ok-above.field-0 (pos s.n) (sym c.in_ok-above.was ∙ c.above.ensures ∙ above-some c.in_ok-n.n s.n same.0 s.low) ∙ sym s.is) same.1

pub returns-in_ok-below-clause-exact : goal.returns-in_ok-below-clause-exact
returns-in_ok-below-clause-exact c = λ z end stands.
    let sign = has-sign (slice_index c.args.bytes.now 0) c.sign_len.result c.sign_len.ensures.sign c.if-sign_len-eq0.false in
    let s = signed c.args.bytes.now _ c.scan_natural-else-sign_len-eq0.result z end (take_rest c.args.bytes.now 1) c.scan_natural-else-sign_len-eq0.ensures.exact sign stands in
    let same = pair-found c.in_ok-n-2.n (suc s.k) c.in_ok-n-2.len s.len (sym c.in_ok-n-2.was ∙ s.scanned) in
    let long : 1 + c.in_ok-n-2.len ≡ end = ap (λ k. 1 + k) same.1 ∙ s.long in
    stored c.in_ok-below.field-0 z (1 + c.in_ok-n-2.len) end stands.fits
    (same_Some c.in_ok-below.field-0 (negsuc s.k) (sym c.in_ok-below.was ∙ c.below.ensures ∙ below-some c.in_ok-n-2.n s.k same.0 s.low) ∙ sym s.is) long
