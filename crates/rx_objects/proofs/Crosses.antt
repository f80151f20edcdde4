-- What may be moved to another thread, and which books may be shared. A struct that holds a snapshot gets no rule of its own, so each
-- is found here once, from the rules of its fields.
use denote.RattleType.{RattleType}
use denote.Ref.{NamedLft}
use denote.Param.Send.{IsSend, IsSync, sendable}
use Rattle.std.proofs.Crossing.{crosses}
use Rattle.std.proofs.alloc.Global.TheSendSync as heap
use Rattle.std.proofs.option.Option.TheSendSync as option
use Rattle.rx_base.proofs.ids.PlaceId.TheSendSync as place
use Rattle.rx_book.proofs.passes.Note.TheSendSync as note
use Rattle.rx_ledger.proofs.asks.Request.TheSendSync as request
use Rattle.rx_ledger.proofs.keeper.Keeper.TheSendSync as keeper
use Rattle.rx_counts.proofs.ledger.CountLedger.TheSendSync as counts
use Rattle.rx_monitor.proofs.board.BoardWriter.TheSendSync as writer
use Rattle.rx_store.proofs.store.Store.TheSendSync as store
use Rattle.rx_objects.proofs.scopes.ScopeSet.TheSendSync as scopes
use Rattle.rx_objects.proofs.trail.Trail.TheLaws.TheKnot as trail
use Rattle.rx_objects.specs.contracts.ledger.LedgerObject as LedgerObject
use Rattle.rx_objects.specs.contracts.ledger.LedgerOp as LedgerOp
use Rattle.rx_objects.specs.contracts.place.PlaceObject as PlaceObject
use Rattle.rx_objects.specs.contracts.surroundings.LedgerAndGate as LedgerAndGate
use Rattle.rx_objects.specs.declared.surroundings.Surroundings.{Ghosts}

pub ledger_op_send : IsSend LedgerOp.the_row
ledger_op_send = search (request.the_field_send, option.the_field_send, note.the_send, crosses, sendable) depth 60 fits 20000

pub ledger_object_send : IsSend LedgerObject.the_row
ledger_object_send = search (keeper.the_send, counts.the_send, place.the_field_send, note.the_send, option.the_field_send, writer.the_send, scopes.the_field_send, heap.the_field_send, trail.crosses, crosses, sendable) depth 60 fits 20000

pub place_object_send : (S : RattleType) (g : Ghosts S.Denot) → IsSend S → IsSend (PlaceObject.the_row S g)
place_object_send S g s = search (place.the_field_send, store.the_send, option.the_field_send, note.the_send, trail.crosses, crosses, sendable) depth 60 fits 20000

pub ledger_and_gate_send : (a : NamedLft) (L G : RattleType) → IsSync L → IsSync G → IsSend (LedgerAndGate.the_row a L G)
ledger_and_gate_send a L G x y = search (crosses, sendable) depth 60 fits 20000
