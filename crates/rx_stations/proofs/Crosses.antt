-- What workers may share. A struct that holds a snapshot gets no rule of its own, so each is found here once, from the rules of its fields.
use denote.RattleType.{RattleType}
use denote.Ref.{NamedLft}
use denote.Struct.Struct.{Struct}
use denote.Struct.Declared.{fields, shape}
use denote.Param.Send.{IsSend, IsSync, AllSync, recorded_sync, struct_sync, sendable}
use Rattle.std.proofs.Crossing.{Vec-sync, crosses}
use Rattle.std.proofs.MapsCrossing.{BTreeMap-send}
use Rattle.rx_base.proofs.ids.PlaceId.TheSendSync as place
use Rattle.rx_check.proofs.program.Program.TheSendSync as program
use Rattle.rx_book.proofs.keyed_lock.Lock.TheSendSync as lock
use Rattle.rx_mail.proofs.mailbox.Mail.TheSendSync as mail
use Rattle.rx_objects.specs.declared.place_book.PlaceBook.{Ghosts as PlaceGhosts}
use Rattle.rx_objects.proofs.scopes.ScopeSet.TheSendSync as scopes
use Rattle.rx_activities.proofs.Crosses.{activity_send}
use Rattle.rx_activities.specs.declared.naming.Naming.{Ghosts}
use Rattle.rx_stations.proofs.bed.Bed.TheSendSync as bed
use Rattle.rx_stations.proofs.keys.Keys.TheSendSync as keys
use Rattle.rx_stations.proofs.keys.Letter.TheSendSync as letter
use Rattle.rx_stations.specs.contracts.hall.Hall as Hall
use Rattle.rx_stations.specs.contracts.queue.Queue as Queue
use Rattle.rx_stations.specs.contracts.station.Station as Station

pub queue_send : (N : RattleType) (g : Ghosts N.Denot) → IsSend N → IsSend (Queue.the_row N g)
queue_send N g s = search (activity_send, scopes.the_field_send, BTreeMap-send, crosses, sendable) depth 60 fits 20000

pub station_sync : (N P : RattleType) (g : Ghosts N.Denot) (h : PlaceGhosts P.Denot) → IsSend N → IsSync P → IsSync (Station.the_row N P g h)
station_sync N P g h n y =
    search (place.the_field_sync, mail.the_sync, letter.the_send, lock.the_sync, keys.the_send, queue_send, crosses, sendable) depth 60 fits 20000

pub hall_sync : (a : NamedLft) (N L P : RattleType) (g : Ghosts N.Denot) (h : PlaceGhosts P.Denot) → IsSend N → IsSync L → IsSync P → IsSync (Hall.the_row a N L P g h)
hall_sync a N L P g h n x y =
    let T = Hall.the_type a N L P g h in
    let all : AllSync (fields T) = (
      search (program.the_sync, sendable) depth 20,
      (
        search (x, crosses, sendable) depth 20,
        (Vec-sync (Station.the_row N P g h) (station_sync N P g h n y), (bed.the_field_sync, tt)),
      ),
    ) in
    recorded_sync (Struct (shape T)) T.D T.to T.to_one (struct_sync (shape T) all)
