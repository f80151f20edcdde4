use Rattle.std.proofs.Common.{◌≡◌, drop, map}
use Rattle.rx_rules.proofs.Common.{has}
use Rattle.rx_words.specs.Commands.{place_of}
use Rattle.rx_words.proofs.planned.names.Given as goal

abbrev pub invariant-loop-planned : goal.invariant-loop-planned
invariant-loop-planned l = has l.fn.place (map place_of l.fn.kills) ≡ has l.fn.place (map place_of (drop l.planned-index l.fn.kills))
