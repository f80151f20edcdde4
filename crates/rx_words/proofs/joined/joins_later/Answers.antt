use Rattle.std.proofs.Common.{◌≡◌, ◌∙◌, ℕ, ◌+◌, ◌-◌, ◌≤◌, sym, arith, nat_lt, false}
use Rattle.std.proofs.lemmas.Bool.Decides.{nat_tests}
use Rattle.rx_words.proofs.Joins.{not-later, none-later, later-at}
use Rattle.rx_words.proofs.joined.joins_later.Goals as goal

lt-of : (i n : ℕ) → n ≤ i → nat_lt i n ≡ false
lt-of i n less = grind (arith, nat_tests)

pub returns-then-place-places : goal.returns-then-place-places
returns-then-place-places c =
    let less = c.if-place-places.true in
    let is = c.from-place.ensures in
    sym (not-later c.args.kill c.args.places c.args.joins.now (omega (arith, less, is)))

pub returns-then-i-len : goal.returns-then-i-len
returns-then-i-len c =
    let more = c.if-place-places.false in
    let is = c.from-place.ensures in
    let place : c.args.kill.place.0 ≡ c.args.places + (c.from-place.result - c.args.places) = omega (arith, more, is) in
    sym (later-at c.args.kill c.args.places (c.from-place.result - c.args.places) c.item.result c.args.joins.now place c.item.ensures)

pub returns-else-i-len : goal.returns-else-i-len
returns-else-i-len c =
    let more = c.if-place-places.false in
    let end = c.if-i-len.false in
    let is = c.from-place.ensures in
    let count = c.len.ensures in
    let place : c.args.kill.place.0 ≡ c.args.places + (c.from-place.result - c.args.places) = omega (arith, more, is) in
    let none : nat_lt (c.from-place.result - c.args.places) c.len.result ≡ false = lt-of (c.from-place.result - c.args.places) c.len.result end in
    none ∙ sym (none-later c.args.kill c.args.places (c.from-place.result - c.args.places) c.args.joins.now place (omega (arith, end, count)))
