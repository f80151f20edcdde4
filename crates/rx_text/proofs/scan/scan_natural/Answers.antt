use Rattle.std.proofs.Common.{◌≡◌, true, false, length, ap, ◌∙◌, sym, arith, take}
use Rattle.std.specs.Fmt.{decimal}
use Rattle.std.specs.Str.Parse.{digits_value}
use Rattle.rx_text.proofs.Scanning.{front-is, begins, is-spelling, found}
use Rattle.rx_text.proofs.scan.scan_natural.Goals as goal

pub returns-in_err-n-clause-exact : goal.returns-in_err-n-clause-exact
returns-in_err-n-clause-exact c = λ n rest low last is.
    let b = begins c.args.bytes.now n rest low last is in absurd (omega (arith, b.run, b.short, c.in_err-n.ensures.long))

pub returns-then-is_spelling-clause-stands : goal.returns-then-is_spelling-clause-stands
returns-then-is_spelling-clause-stands c =
    front-is c.args.bytes.now c.in_ok-n.n c.in_ok-n.len c.in_ok-n.ensures.run c.in_ok-n.ensures.short c.in_ok-n.ensures.value (sym c.is_spelling.ensures ∙ c.if-is_spelling.true)

pub returns-then-is_spelling-clause-exact : goal.returns-then-is_spelling-clause-exact
returns-then-is_spelling-clause-exact c = λ n rest low last is.
    let b = begins c.args.bytes.now n rest low last is in
    let same : c.in_ok-n.len ≡ length (decimal n) = c.in_ok-n.ensures.run ∙ b.run in
    found c.in_ok-n.n n c.in_ok-n.len (length (decimal n)) (c.in_ok-n.ensures.value ∙ ap (λ k. digits_value 10 (take k c.args.bytes.now)) same ∙ b.value) same

pub returns-else-is_spelling-clause-exact : goal.returns-else-is_spelling-clause-exact
returns-else-is_spelling-clause-exact c = λ n rest low last is.
    let b = begins c.args.bytes.now n rest low last is in
    let same : c.in_ok-n.len ≡ length (decimal n) = c.in_ok-n.ensures.run ∙ b.run in
    let clash : false ≡ true = sym c.if-is_spelling.false ∙ c.is_spelling.ensures ∙ ap (is-spelling c.args.bytes.now) same ∙ b.spelling in
    cc
