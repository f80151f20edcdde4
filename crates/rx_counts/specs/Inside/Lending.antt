-- What pages end as, where a `&mut` to one of their slots is returned.
use Rattle.std.specs.Prelude.{ℕ, Option, slice_set}
use Rattle.std.specs.Global.{Box}
use Rattle.std.specs.Borrow.{Lends, LendsIf, MutBor, Fml}
use denote.RattleType.{RattleType}
use Rattle.std.specs.contracts.alloc.Global as global
use Rattle.std.specs.contracts.boxed.Box as boxed
use Rattle.std.specs.contracts.option.Option as option
use Rattle.std.specs.contracts.impls.GlobalAllocator.TheImpl.{ghosts}
use Rattle.rx_counts.specs.declared.record.Record.{Record}
use Rattle.rx_counts.specs.declared.pages.Pages.{Pages}
use Rattle.rx_counts.specs.contracts.pages.Pages.{the_row}
use Rattle.rx_counts.specs.contracts.record.Record as kept

abbrev pub slot_row : RattleType
slot_row = option.the_row (boxed.the_row kept.the_row global.the_row ghosts)

-- once the borrow r ends, the slot of n has what was last written through it
abbrev pub LendsSlot : MutBor Pages → ℕ → MutBor (Option (Box Record)) → Fml
LendsSlot s n r = Lends the_row slot_row s r (slice_set s.now n)

-- the same where r is a reference, and at `None` the pages stay as they are
abbrev pub LendsSlotIf : MutBor Pages → ℕ → Option (MutBor (Option (Box Record))) → Fml
LendsSlotIf s n r = LendsIf the_row slot_row s r (slice_set s.now n) s.now
