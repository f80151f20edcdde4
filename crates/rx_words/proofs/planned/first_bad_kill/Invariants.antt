use Rattle.std.proofs.Common.{◌≡◌, [], drop, take, map}
use Rattle.rx_words.specs.Words.{bad_kill}
use Rattle.rx_words.specs.Commands.{place_of}
use Rattle.rx_words.proofs.planned.first_bad_kill.Given as goal

abbrev pub invariant-loop-i : goal.invariant-loop-i
invariant-loop-i l = bad_kill l.fn.places l.fn.joins [] l.fn.kills ≡ bad_kill l.fn.places l.fn.joins (map place_of (take l.i l.fn.kills)) (drop l.i l.fn.kills)
