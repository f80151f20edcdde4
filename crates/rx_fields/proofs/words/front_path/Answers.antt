use Rattle.std.proofs.Common.{◌+◌, sym, ◌∙◌, arith, take, slice_set}
use Rattle.rx_fields.proofs.Dotted.{read-more, read-path, take-more, few-long, set-keeps}
use Rattle.rx_fields.proofs.words.front_path.Goals as goal

pub returns-then-ends_word-clause-some : goal.returns-then-ends_word-clause-some
returns-then-ends_word-clause-some c =
    let more = take-more c.numbers.few c.numbers.len c.in-Some.n (omega (arith, c.numbers.invariant.below, c.numbers.invariant.size)) in
    read-path c.args.bytes.now (take c.numbers.len c.numbers.few) (take (c.numbers.len + 1) (slice_set c.numbers.few c.numbers.len c.in-Some.n)) c.numbers.rest.now c.in-Some.tail.now c.in-Some.n c.numbers.invariant.read c.in-Some.ensures.low c.in-Some.ensures.some
    (sym c.ends_word.ensures ∙ c.if-ends_word.true) more (few-long (slice_set c.numbers.few c.numbers.len c.in-Some.n) (c.numbers.len + 1) (omega (arith, c.numbers.invariant.below)))

pub numbers-preserved : goal.numbers-preserved
numbers-preserved c =
    let more = take-more c.numbers.few c.numbers.len c.in-Some.n (omega (arith, c.numbers.invariant.below, c.numbers.invariant.size)) in
    let size = set-keeps c.numbers.few c.numbers.len c.in-Some.n in
    record {
      below = omega (arith, c.numbers.invariant.below, size);
      size = set-keeps c.numbers.few c.numbers.len c.in-Some.n ∙ c.numbers.invariant.size;
      read = read-more c.args.bytes.now (take c.numbers.len c.numbers.few) (take (c.numbers.len + 1) (slice_set c.numbers.few c.numbers.len c.in-Some.n)) c.numbers.rest.now c.in-Some.tail.now c.in_ok-rest.rest.now c.in-Some.n c.numbers.invariant.read c.in-Some.ensures.low c.in-Some.ensures.some c.in_ok-rest.ensures more;
    }
