use Rattle.std.proofs.Common.{◌≡◌, ◌+◌, ◌≤◌, ℕ, suc, length}
use Rattle.rx_trace.specs.Inside.Stages.{state_of}
use Rattle.rx_trace.proofs.ReadPlaces.{HasRead}
use Rattle.rx_trace.proofs.reader.read_trace.Given as goal

-- the lines before this one have been read, and the rest is left
abbrev pub invariant-lines : goal.invariant-lines
invariant-lines l = (n : ℕ) × (l.number ≡ suc n) × HasRead l.bytes n (state_of l.stage) l.rest × (n + length l.rest ≤ length l.bytes)

abbrev pub decreases-lines : goal.decreases-lines
decreases-lines l = length l.rest
