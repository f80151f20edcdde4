use Rattle.rx_objects.proofs.Places.{place_stays}
use Rattle.rx_objects.proofs.place.PlaceObjectObject.stays.Goals as goal

pub returns : goal.returns
returns g c = place_stays
