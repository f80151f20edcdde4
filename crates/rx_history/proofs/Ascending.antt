-- A list in order stays so with an item that comes after its last.
use Rattle.std.proofs.Common.{List, [], ◌∷◌, ◌++◌}
use Rattle.rx_rules.proofs.Common.{Kill, Ascends}
use Rattle.rx_history.specs.KillOrder.{IsAscending, ComesLast}

from : (a : Kill) (ks : List Kill) (item : Kill) → Ascends a ks → ComesLast (a ∷ ks) item → Ascends a (ks ++ item ∷ [])
from a [] item h last = (last, tt)
from a (k ∷ ks) item h last = (h.0, from k ks item h.1 last)

pub ascending-push : (ks : List Kill) (item : Kill) → IsAscending ks → ComesLast ks item → IsAscending (ks ++ item ∷ [])
ascending-push [] item h last = tt
ascending-push (k ∷ ks) item h last = from k ks item h last
