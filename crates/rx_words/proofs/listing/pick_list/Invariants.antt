use Rattle.std.proofs.Common.{◌≡◌, length}
use Rattle.rx_words.specs.Words.{all_numbers, parts}
use Rattle.rx_words.specs.Commands.{later}
use Rattle.rx_words.proofs.Parts.{behind}
use Rattle.rx_words.proofs.listing.pick_list.Given as goal

abbrev pub invariant-parts : goal.invariant-parts
invariant-parts l = all_numbers (parts l.fn.word) ≡ behind l.list.items (all_numbers (later l.left))

abbrev pub decreases-parts : goal.decreases-parts
decreases-parts l = length l.left
