use Rattle.std.proofs.Common.{suc, ◌∙◌, sym, arith, add-one}
use Rattle.rx_text.proofs.Scanning.{digits-more, run-longer, run-ends-all, run-ends-at, value-more, value-low}
use Rattle.rx_text.proofs.scan.scan_digits.Goals as goal

pub returns-then-len-eq19-clause-long : goal.returns-then-len-eq19-clause-long
returns-then-len-eq19-clause-long c =
    let more = digits-more c.args.bytes.now c.digits.len c.digits-test.true c.digits.invariant.digits (sym c.is_ascii_digit.ensures.value ∙ c.if-is_ascii_digit.true) in
    omega (arith, run-longer c.args.bytes.now (suc c.digits.len) c.digits-test.true more)

pub overflow_mul-n : goal.overflow_mul-n
overflow_mul-n c = omega (arith, value-low c.args.bytes.now c.digits.len c.digits.n (omega arith) c.digits.invariant.digits c.digits.invariant.value)

pub overflow_add-n : goal.overflow_add-n
overflow_add-n c = omega (arith, c.type_inv.bytes c.digits.len, value-low c.args.bytes.now c.digits.len c.digits.n (omega arith) c.digits.invariant.digits c.digits.invariant.value)

pub digits-preserved : goal.digits-preserved
digits-preserved c = record {
  within = omega arith;
  short = omega arith;
  digits = rw add-one (digits-more c.args.bytes.now c.digits.len c.digits-test.true c.digits.invariant.digits (sym c.is_ascii_digit.ensures.value ∙ c.if-is_ascii_digit.true));
  value = value-more c.args.bytes.now c.digits.len c.digits.n c.from.result c.digits-test.true c.digits.invariant.value (sym c.is_ascii_digit.ensures.value ∙ c.if-is_ascii_digit.true) c.from.ensures;
}

pub returns-else-is_ascii_digit-clause-run : goal.returns-else-is_ascii_digit-clause-run
returns-else-is_ascii_digit-clause-run c =
    run-ends-at c.args.bytes.now c.digits.len c.digits.invariant.within c.digits.invariant.digits (sym c.is_ascii_digit.ensures.value ∙ c.if-is_ascii_digit.false)

pub returns-after-digits-clause-run : goal.returns-after-digits-clause-run
returns-after-digits-clause-run c = run-ends-all c.args.bytes.now c.digits.len c.digits.invariant.within c.digits-test.false c.digits.invariant.digits
