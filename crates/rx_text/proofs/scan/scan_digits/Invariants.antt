use Rattle.std.proofs.Common.{◌≡◌, ◌≤◌, ◌-◌, true, length, take}
use Rattle.std.specs.Str.{all_ascii_digits}
use Rattle.std.specs.Str.Parse.{digits_value}
use Rattle.rx_text.proofs.scan.scan_digits.Given as goal

-- the bytes so far are digits, and the number is theirs
abbrev pub invariant-digits : goal.invariant-digits
invariant-digits l = record {
  within : l.len ≤ length l.bytes;
  short : l.len ≤ 19;
  digits : all_ascii_digits (take l.len l.bytes) ≡ true;
  value : l.n ≡ digits_value 10 (take l.len l.bytes);
}

abbrev pub decreases-digits : goal.decreases-digits
decreases-digits l = length l.bytes - l.len
