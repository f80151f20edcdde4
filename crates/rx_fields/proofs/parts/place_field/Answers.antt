use Rattle.std.proofs.Common.{sym, ◌<◌, ◌≤◌, ◌^◌, arith}
use Rattle.rx_fields.proofs.Fronts.{place_known, no_place_known}
use Rattle.rx_fields.proofs.parts.place_field.Goals as goal

pub returns-then-n-from : goal.returns-then-n-from
returns-then-n-from c =
    let small = c.ranges.places.fits in
    let few : c.args.places < 2 ^ 32 = omega arith in
    let low : c.in-Some.n < c.args.places = omega (arith, c.from.ensures, c.if-n-from.true) in
    sym (place_known c.args.places c.args.words.now c.short_number.new.self c.in-Some.n few low c.in-Some.ensures.some)

pub returns-else-n-from : goal.returns-else-n-from
returns-else-n-from c =
    let small = c.ranges.places.fits in
    let few : c.args.places < 2 ^ 32 = omega arith in
    let high : c.args.places ≤ c.in-Some.n = omega (arith, c.from.ensures, c.if-n-from.false) in
    sym (no_place_known c.args.places c.args.words.now c.short_number.new.self c.in-Some.n few c.in-Some.ensures.low high c.in-Some.ensures.some)
