use Rattle.std.proofs.Common.{◌≡◌, ◌<◌, ◌≤◌, ℕ}
use Rattle.rx_rules.proofs.Common.{Block, Given, Game, tree_in}
use Rattle.rx_rank.specs.Numbers.{Ascends}
use Rattle.rx_syntax.specs.Shape.{Shape}
use Rattle.rx_machine.specs.Slots.{seat_at}
use Rattle.rx_machine.specs.Holds.{CanTurn}
use Rattle.rx_machine.specs.Picking.{slot_able, is_listed}
use Rattle.rx_machine.proofs.machine.Machine.note_all.Given as goal

-- of the slots before i it is noted whether they are enabled
abbrev pub invariant-loop-i : goal.invariant-loop-i
invariant-loop-i g l =
    (l.self ≡ record l.initial.self { ready = l.self.ready })
    × (l.self.ready.room ≡ l.initial.self.ready.room)
    × (Ascends 0 l.initial.self.ready.members → Ascends 0 l.self.ready.members)
    × ((shape : Shape) (code : Block) (U : Given) (G : Game) → CanTurn shape code U l.initial.self G → (n : ℕ) → n < l.i → is_listed n l.self.ready.members ≡ slot_able (tree_in U G) (seat_at l.initial.self.seats.items n))
    × ((n : ℕ) → l.i ≤ n → is_listed n l.self.ready.members ≡ is_listed n l.initial.self.ready.members)
