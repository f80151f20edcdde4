use Rattle.std.proofs.Common.{◌≡◌, ◌<◌, ◌-◌, length, take}
use Rattle.rx_fields.proofs.Dotted.{Read}
use Rattle.rx_fields.proofs.words.front_path.Given as goal

-- fewer numbers are read than the list has, each with its dot
abbrev pub invariant-numbers : goal.invariant-numbers
invariant-numbers l =
    record { below : l.len < length l.few; size : length l.few ≡ length l.initial.few; read : Read l.bytes (take l.len l.few) l.rest }

abbrev pub decreases-numbers : goal.decreases-numbers
decreases-numbers l = length l.initial.few - l.len
