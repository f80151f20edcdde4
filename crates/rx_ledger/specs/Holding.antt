-- Which tickets a reply holds.
use Rattle.std.specs.Prelude.{Option, Some, None}
use Rattle.rx_ticket.specs.declared.tickets.AnyTicket.{AnyTicket}
use Rattle.rx_ticket.specs.declared.tickets.AnyTicket.TheVariants.{Running, Held}
use Rattle.rx_ledger.specs.declared.asks.Reply.{Reply}
use Rattle.rx_ledger.specs.declared.asks.Reply.TheVariants.{Opened, Called, Spawned, Landed}
use Rattle.rx_ledger.specs.declared.asks.Reply.TheVariants.{Waits, Released, Printed, Census as Counted}
use Rattle.rx_ledger.specs.declared.asks.Reply.TheVariants.{NotYet, NoMemory}

-- that of the task which asked, also in a request that comes back
abbrev pub asking_in : Reply → Option AnyTicket
asking_in (Opened ticket scope) = Some (Running ticket)
asking_in (Called ticket callee) = Some (Held ticket)
asking_in (Spawned ticket child) = Some (Running ticket)
asking_in (Landed ticket) = Some (Running ticket)
asking_in (Waits ticket) = Some (Held ticket)
asking_in (Released ticket outcome) = Some (Running ticket)
asking_in (Printed ticket) = Some (Running ticket)
asking_in (Counted ticket places) = Some (Running ticket)
asking_in (NotYet place request) = Some request.ticket
asking_in (NoMemory request) = Some request.ticket
asking_in _ = None

-- that of the task which was started, unless it is born struck
abbrev pub started_in : Reply → Option AnyTicket
started_in (Called ticket callee) = callee
started_in (Spawned ticket child) = child
started_in _ = None
