-- A coordinator that was asked stands after some entries.
use Rattle.std.proofs.Common.{ℕ, List, [], ◌∷◌, ◌++◌, inl, inr}
use Rattle.rx_rules.proofs.Common.{TaskId}
use Rattle.rx_rules.specs.declared.entries.Entry.{Entry}
use Rattle.rx_coordinator.specs.declared.requests.Request.{Request}
use Rattle.rx_coordinator.specs.declared.requests.Request.TheVariants.{Send}
use Rattle.rx_coordinator.specs.declared.requests.Answer.{Answer}
use Rattle.rx_coordinator.specs.declared.requests.Answer.TheVariants.{Bad, Full, NoMemory, NotYet, Sent}
use Rattle.rx_coordinator.specs.declared.waiters.Waiters.{Waiters}
use Rattle.rx_coordinator.specs.declared.parking.Freed.{Freed}
use Rattle.rx_coordinator.specs.declared.parking.Freed.TheVariants.{One, NoOne, Short}
use Rattle.rx_coordinator.specs.Stands.{IsReplyTo, Landing}
use Rattle.rx_coordinator.specs.Parking.{AskedBeside, FreedIs, request_of, answer_to}

landed : (p : ℕ) (es : List Entry) (t : TaskId) (S : List Entry → Type 0) → Landing p es t S → (fs : List Entry) × S fs
landed p es t S (inl h) = (es ++ h.0 ∷ [], h.3)
landed p es t S (inr h) = (es, h.1)

asked : (p : ℕ) (es : List Entry) (q : Request) (a : Answer) (S : List Entry → Type 0) → IsReplyTo p es q a S → (fs : List Entry) × S fs
asked p es q Bad S h = (es, h.1)
asked p es q Full S h = (es, h.2)
asked p es q NoMemory S h = (es, h.1)
asked p es q (NotYet place) S h = (es, h.2)
asked p es (Send t to) (Sent b) S h = landed p (es ++ h.0 ∷ []) b.child S h.3
asked p es q _ S h = (es ++ h.0 ∷ [], h.3)

pub beside : (p : ℕ) (es : List Entry) (q : Request) (ws us : Waiters) (a : Answer) (S : List Entry → Type 0) → AskedBeside p es q ws a S us
    → (fs : List Entry) × S fs
beside p es q ws us a S (inl h) = (es, h.2)
beside p es q ws us a S (inr h) = asked p es q a S h.1

-- and so does one that was asked for a release that has waited
pub freed : (p : ℕ) (es : List Entry) (f : Freed) (ws us : Waiters) (S : List Entry → Type 0) → FreedIs p es f ws S us
    → (fs : List Entry) × S fs
freed p es (One s who o) ws us S h = asked p es (request_of who) (answer_to who o) S h.2
freed p es NoOne ws us S h = (es, h.0)
freed p es Short ws us S h = (es, h.0)
