use Rattle.std.proofs.Common.{None, [], ◌∙◌, sym}
use Rattle.rx_book.proofs.Masks.{has_bit-deaths_in}
use Rattle.rx_parts.specs.declared.items.EventItem.{EventItem}
use Rattle.rx_objects.proofs.Places.{none_dies}
use Rattle.rx_objects.proofs.place.PlaceObjectObject.deaths.Goals as goal

pub returns : goal.returns
returns g c = λ p h. has_bit-deaths_in (λ (x : EventItem). None) [] p ∙ sym (none_dies p c.args.self.now.entries)
