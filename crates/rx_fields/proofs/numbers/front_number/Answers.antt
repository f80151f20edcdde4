use Rattle.std.proofs.Common.{◌≡◌, true, sym, ◌∙◌, arith, add-one}
use Rattle.std.specs.Char.{is_ascii_digit}
use Rattle.std.specs.List.{prefix_len}
use Rattle.rx_text.proofs.Scanning.{is-spelling, digits-more, value-more, run-ends-all, run-ends-at}
use Rattle.rx_fields.proofs.Digit.{few-low, front_digits, one_spelling, other_spelling}
use Rattle.rx_fields.proofs.numbers.front_number.Goals.{then-digits-test+else-is_ascii_digit, else-digits-test, then-len-gt1+else-bytes-eq48, else-len-gt1}
use Rattle.rx_fields.proofs.numbers.front_number.Goals as goal

pub overflow_mul-n : goal.overflow_mul-n
overflow_mul-n c = omega (arith, few-low c.args.bytes.now c.digits.len c.digits.n (omega arith) c.digits.invariant.digits c.digits.invariant.value)

pub overflow_add-n : goal.overflow_add-n
overflow_add-n c = omega (arith, c.type_inv.bytes c.digits.len, few-low c.args.bytes.now c.digits.len c.digits.n (omega arith) c.digits.invariant.digits c.digits.invariant.value)

pub digits-preserved : goal.digits-preserved
digits-preserved c = record {
  within = omega arith;
  few = omega arith;
  digits = rw add-one (digits-more c.args.bytes.now c.digits.len c.digits-test.true c.digits.invariant.digits (sym c.is_ascii_digit.ensures.value ∙ c.if-is_ascii_digit.true));
  value = value-more c.args.bytes.now c.digits.len c.digits.n c.from.result c.digits-test.true c.digits.invariant.value (sym c.is_ascii_digit.ensures.value ∙ c.if-is_ascii_digit.true) c.from.ensures;
}

pub returns : goal.returns
returns c =
    let bytes = c.args.bytes.now in
    let len = c.digits.len in
    let run : len ≡ prefix_len is_ascii_digit bytes = elim c.digits-test.branch [
      | then-digits-test+else-is_ascii_digit w ↦ run-ends-at bytes len c.digits.invariant.within c.digits.invariant.digits (sym w.is_ascii_digit.ensures.value ∙ w.if-is_ascii_digit.false)
      | else-digits-test w ↦ run-ends-all bytes len c.digits.invariant.within w.digits-test.false c.digits.invariant.digits
    ] in
    let spelling : is-spelling bytes len ≡ true = elim c.if-len-gt1.branch [
      | then-len-gt1+else-bytes-eq48 w ↦ other_spelling bytes len c.if-len-eq0.false w.if-bytes-eq48.false
      | else-len-gt1 w ↦ one_spelling bytes len c.if-len-eq0.false w.if-len-gt1.false
    ] in
    let small = c.digits.auto.n-fits in
    record { some = front_digits bytes c.digits.n len c.digits.invariant.few c.digits.invariant.value run spelling; low = omega arith }
