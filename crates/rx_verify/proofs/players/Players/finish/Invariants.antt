use Rattle.std.proofs.Common.{List, length}
use Rattle.rx_rules.specs.declared.entries.Entry.{Entry}
use Rattle.rx_rules.proofs.Common.{Block, Given}
use Rattle.rx_syntax.specs.Shape.{Stands}
use Rattle.rx_history.specs.Events.{events_of}
use Rattle.rx_verify.specs.Players.{PlayersAre, PlayersStand, none_rests}
use Rattle.rx_verify.proofs.MarksEnd.{StuckBelow}
use Rattle.rx_verify.proofs.players.Players.finish.Given as goal

abbrev pub invariant-loop-t : goal.invariant-loop-t
invariant-loop-t l =
    (code : Block) (U : Given) (es : List Entry) → Stands l.p.script code → PlayersAre l.p.script code U es (events_of l.journals) (length es) l.initial.self
    → (now : PlayersStand none_rests l.p.script code U es (events_of l.journals) (length es) l.self) × StuckBelow es (length es) now.seats l.t
