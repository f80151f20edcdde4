-- What an event of a store was asked.
use Rattle.std.specs.Prelude.{ℕ, ℤ}
use Rattle.rx_base.specs.declared.ids.GlobalRef.{GlobalRef}
use Rattle.rx_rules.specs.declared.events.Cell.{Cell}
use Rattle.rx_rules.specs.declared.events.Cell.TheVariants.{Make, MakeFull, Get, Put, Forget, GetRefused, PutRefused, ForgetStale}

-- a call of a store, without its answer
pub data Ask : Type 0 where
  makes : (words : ℕ) → Ask
  gets : (target : GlobalRef) (index : ℤ) → Ask
  puts : (target : GlobalRef) (index value : ℤ) → Ask
  forgets : (target : GlobalRef) → Ask

-- the call that an event tells of
abbrev pub ask_of : Cell → Ask
ask_of (Make n start generation) = makes n
ask_of (MakeFull n) = makes n
ask_of (Get r i value) = gets r i
ask_of (GetRefused r i stale) = gets r i
ask_of (Put r i value) = puts r i value
ask_of (PutRefused r i value stale) = puts r i value
ask_of (Forget r) = forgets r
ask_of (ForgetStale r) = forgets r
