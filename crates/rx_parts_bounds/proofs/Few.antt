-- A script that meets the checker's rules has few events at each place.
use Rattle.std.proofs.Common.{◌+◌, ◌*◌, ◌≤◌, length, arith}
use Rattle.std.proofs.Math.Nat.{mul-le-mul_left, mul-le-mul_right}
use Rattle.rx_rules.proofs.Common.{work}
use Rattle.rx_parts_bounds.specs.Nesting.{nest}
use Rattle.rx_parts_bounds.specs.Bounds.{EventsAreFew}
use Rattle.rx_check.proofs.Judging.{meets-work}
use Rattle.rx_parts_bounds.proofs.Deep.{few_nest}
use Rattle.rx_parts_bounds.proofs.Events.{events_bounded}

pub events_are_few : EventsAreFew
events_are_few code U p k meets place =
    let n : 1 + nest code ≤ 34 = (let d : nest code ≤ 33 = few_nest code meets in omega arith) in
    let few : length k ≤ (1 + nest code) * work code = events_bounded code U p k place in
    let one : (1 + nest code) * work code ≤ 34 * work code = mul-le-mul_right (work code) n in
    let two : 34 * work code ≤ 34 * 100000 = mul-le-mul_left 34 (meets-work code meets) in
    omega (arith, few, one, two)
