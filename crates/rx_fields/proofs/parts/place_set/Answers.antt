use Rattle.std.proofs.Common.{rules}
use Rattle.rx_fields.specs.Inside.FieldWords.{place_of}
use Rattle.rx_fields.proofs.Taking.{joined-more, took-as, below-power}
use Rattle.rx_fields.proofs.parts.place_set.Goals as goal

pub places-preserved : goal.places-preserved
places-preserved c =
    joined-more c.args.places c.places.set c.with-set.result c.in-Some.place c.places.words c.next_place.new.words c.args.words.now c.requires c.places.invariant
    (took-as (place_of c.args.places) c.places.words c.next_place.new.words c.next_place.result c.in-Some.place c.next_place.ensures c.in-Some.is)
    (below-power c.places.set.0 c.in-Some.place.0 c.if-set-place-ne0.false) (search rules) c.with-set.ensures
