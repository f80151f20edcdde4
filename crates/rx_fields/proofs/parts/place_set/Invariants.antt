use Rattle.std.proofs.Common.{◌≡◌, length}
use Rattle.rx_fields.specs.Inside.PartWords.{places_at}
use Rattle.rx_fields.proofs.parts.place_set.Given as goal

-- the places so far and those that are left are all
abbrev pub invariant-places : goal.invariant-places
invariant-places l = places_at l.places l.set.0 l.words ≡ places_at l.places 0 l.initial.words

abbrev pub decreases-places : goal.decreases-places
decreases-places l = length l.words
