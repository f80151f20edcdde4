-- What may be moved to another thread. A struct that holds a snapshot gets no rule of its own, so each is found here once, from the
-- rules of its fields.
use denote.RattleType.{RattleType}
use denote.Param.Send.{IsSend, sendable}
use Rattle.std.proofs.Crossing.{crosses}
use Rattle.std.proofs.marker.PhantomData.TheSendSync as phantom
use Rattle.rx_base.proofs.ids.PlaceId.TheSendSync as place
use Rattle.rx_base.proofs.lists.Batch.TheSendSync as batch
use Rattle.rx_book.proofs.passes.Pass.TheSendSync as pass
use Rattle.rx_control.proofs.control.Control.TheSendSync as control
use Rattle.rx_ticket.proofs.tickets.AnyTicket.TheSendSync as ticket
use Rattle.rx_activities.specs.declared.naming.Naming.{Ghosts}
use Rattle.rx_activities.specs.contracts.hand.Hand as Hand
use Rattle.rx_activities.specs.contracts.activity.Activity as Activity

-- the fields of a hand, as a field of another struct has them
pub hand_field_send : IsSend Hand.the_field.row
hand_field_send = search (control.the_field_send, batch.the_send, ticket.the_field_send, place.the_field_send, pass.the_field_send, crosses, sendable) depth 60 fits 20000

pub activity_send : (N : RattleType) (g : Ghosts N.Denot) → IsSend N → IsSend (Activity.the_row N g)
activity_send N g s = search (hand_field_send, phantom.the_field_send, crosses, sendable) depth 60 fits 20000
