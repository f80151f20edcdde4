-- How many of the first events of a journal are those of a store.
use Rattle.std.specs.Prelude.{◌≡◌, ℕ, suc, ◌<◌, ◌≤◌, List, [], ◌∷◌, length, take}
use Rattle.rx_rules.specs.declared.events.Cell.{Cell}
use Rattle.rx_rules.specs.declared.events.Cell.TheVariants.{Make, MakeFull}
use Rattle.rx_rules.specs.declared.events.PlaceEvent.{PlaceEvent}
use Rattle.rx_rules.specs.declared.events.PlaceEvent.TheVariants.{Done, Close}
use Rattle.rx_rules.specs.Store.{IsStoreRun, opening_state}
use Rattle.rx_rules.specs.Run.{NotFalling}

-- a block that is asked for has one word or more
abbrev pub CellAsksSome : Cell → Type 0
CellAsksSome (Make n start generation) = 0 < n
CellAsksSome (MakeFull n) = 0 < n
CellAsksSome _ = Unit {0}

-- the same of an event of a journal
abbrev pub WantsSome : PlaceEvent → Type 0
WantsSome (Done task stamp cell path) = CellAsksSome cell
WantsSome (Close stamp) = Unit {0}

-- the same of each event
abbrev pub AllWantSome : List PlaceEvent → Type 0
AllWantSome [] = Unit {0}
AllWantSome (e ∷ es) = WantsSome e × AllWantSome es

-- The events are the beginning of a run of a store of w words, no stamp falls, and none asks for a block of no words. The law of
-- stores alone would give such a block at word 0; no statement asks for one, so an event that does is never good.
pub record AreLawful (w : ℕ) (es : List PlaceEvent) : Type 0 where
  pub law : IsStoreRun w opening_state es
  pub rising : NotFalling 0 es
  pub some : AllWantSome es

-- the first n events of the journal are lawful, and n + 1, where there are so many, are not
pub record IsLawfulCount (w : ℕ) (j : List PlaceEvent) (n : ℕ) : Type 0 where
  pub within : n ≤ length j
  pub lawful : AreLawful w (take n j)
  pub no_more : n < length j → AreLawful w (take (suc n) j) → ⊥

-- two such numbers are one
abbrev pub OneLawfulCount : Type 0
OneLawfulCount = (w : ℕ) (j : List PlaceEvent) (m n : ℕ) → IsLawfulCount w j m → IsLawfulCount w j n → m ≡ n
