-- What a place's answer holds.
use Rattle.std.specs.Prelude.{◌≡◌, Option, Some, None, Result}
use Rattle.rx_base.specs.declared.values.Value.{Value}
use Rattle.rx_base.specs.declared.values.Fault.{Fault}
use Rattle.rx_book.specs.declared.passes.Pass.{Pass}
use Rattle.rx_parts.specs.declared.items.EntryItem.{EntryItem}
use Rattle.rx_objects.specs.declared.place.PlaceReply.{PlaceReply}
use Rattle.rx_objects.specs.declared.place.PlaceReply.TheVariants.{Cell as Answers, NoMemory}

-- the pass, and the answer where there was memory
abbrev pub PartsAre : PlaceReply → Pass EntryItem → Option (Result (Option Value) Fault) → Type 0
PartsAre (Answers answer pass) p a = (p ≡ pass) × (a ≡ Some answer)
PartsAre (NoMemory pass) p a = (p ≡ pass) × (a ≡ None)
