use Rattle.std.proofs.Common.{◌≡◌, ◌≤◌, ◌-◌, true, length, take}
use Rattle.std.specs.Str.{all_ascii_digits}
use Rattle.std.specs.Str.Parse.{digits_value}
use Rattle.rx_fields.proofs.numbers.front_number.Given as goal

-- the bytes so far are digits, at most nine, and the number is theirs
abbrev pub invariant-digits : goal.invariant-digits
invariant-digits l = record {
  within : l.len ≤ length l.bytes;
  few : l.len ≤ 9;
  digits : all_ascii_digits (take l.len l.bytes) ≡ true;
  value : l.n ≡ digits_value 10 (take l.len l.bytes);
}

abbrev pub decreases-digits : goal.decreases-digits
decreases-digits l = length l.bytes - l.len
