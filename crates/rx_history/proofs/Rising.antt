-- A list of moments that never fall stays so with one that is at least its last.
use Rattle.std.proofs.Common.{ℕ, List, [], ◌∷◌, ◌++◌, arith}
use Rattle.rx_rules.proofs.Common.{AreJoins}
use Rattle.rx_history.specs.JoinOrder.{NeverFalls, IsAtLeastLast}

from : (low : ℕ) (e : ℕ) (es : List ℕ) (item : ℕ) → AreJoins low (e ∷ es) → IsAtLeastLast (e ∷ es) item → AreJoins low (e ∷ es ++ item ∷ [])
from low e [] item h last = (h.0, (last, tt))
from low e (f ∷ es) item h last = (h.0, from e f es item h.1 last)

pub rising-push : (es : List ℕ) (item : ℕ) → NeverFalls es → IsAtLeastLast es item → NeverFalls (es ++ item ∷ [])
rising-push [] item h last = (omega arith, tt)
rising-push (e ∷ es) item h last = from 0 e es item h last
