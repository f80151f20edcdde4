use Rattle.std.proofs.Common.{◌≡◌, ◌+◌, length}
use Rattle.rx_words.specs.Words.{options, nothing_yet}
use Rattle.rx_words.specs.Commands.{IsInRange, wants_of}
use Rattle.rx_words.proofs.options.read_options.Given as goal

abbrev pub invariant-options : goal.invariant-options
invariant-options l =
    (options l.fn.verb nothing_yet 1 l.fn.words ≡ options l.fn.verb (wants_of l.said) l.k l.left) × IsInRange l.said × (l.k + length l.left ≡ 1 + length l.fn.words)

abbrev pub decreases-options : goal.decreases-options
decreases-options l = length l.left
