use Rattle.rx_book.proofs.Masks.{has_bit-deaths_in}
use Rattle.rx_book.proofs.objects.deaths_are_a_set.Goals as goal

pub returns : goal.returns
returns g c = λ items p. has_bit-deaths_in g.I.Dies.place items p
