-- The law of stores allows one answer to a call.
use Rattle.std.specs.Prelude.{◌≡◌, ℕ}
use Rattle.rx_rules.specs.declared.events.Cell.{Cell}
use Rattle.rx_rules.specs.Store.{State, MayCell}
use Rattle.rx_store.specs.Asks.{ask_of}

-- two events of one call that the law allows in one state are the same
abbrev pub OneAnswer : Type 0
OneAnswer = (w : ℕ) (S : State) (c d : Cell) → ask_of c ≡ ask_of d → MayCell w S c → MayCell w S d → c ≡ d
