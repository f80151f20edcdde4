-- A desk and the line that is read, in the middle of a session.
use Rattle.std.specs.Prelude.{◌≡◌, ℕ, ◌≤◌, ◌<◌, List, [], ◌∷◌, ◌++◌, length, Option}
use Rattle.rx_coordinator.specs.declared.parking.Parking.{Parking}
use Rattle.rx_coordinator.specs.Parking.{Parks}
use Rattle.rx_fields.specs.Words.{pieces}
use Rattle.rx10_coordinator.specs.declared.received.Extent.{Extent}
use Rattle.rx10_coordinator.specs.declared.received.Extent.TheVariants.{Whole, Long, Cut}
use Rattle.rx10_coordinator.specs.declared.received.Received.{Received}
use Rattle.rx10_coordinator.specs.declared.desk.Desk.{Desk}
use Rattle.rx_lines.specs.Session.{Between, IsOpen, AllAnswered, greeting}
use Rattle.rx_lines.specs.Inside.Telling.{TextIsTold}
use Rattle.rx10_coordinator.specs.Inside.Logging.{IsLogged, IsTorn}

-- the bytes that are kept of a line are all of it, or it has too many, or memory ran out
abbrev pub Keeps : Extent → List ℕ → List ℕ → Type 0
Keeps Whole bytes line = (bytes ≡ line) × (length line ≤ 4096)
Keeps Long bytes line = 4096 < length line
Keeps Cut bytes line = Unit {0}

-- this is the line so far
abbrev pub IsLine : Received → List ℕ → Type 0
IsLine r line = Keeps r.extent r.bytes.items line

-- the coordinator stands where the session stands
pub record DeskInvariant (p : ℕ) (b : Between) (k : Parking) : Type 0 where
  pub parks : Parks k p b.entries
  pub waiters : b.waiters ≡ k.waiters

-- all lines of these bytes are answered, and the log has the entries
pub record LinesAnswered (p : ℕ) (w : Option (List ℕ)) (f : ℕ) (v : Option (List ℕ)) (g : ℕ)
    (x : Option (List ℕ)) (h : ℕ) (y : Option (List ℕ)) (i : ℕ)
    (d : Desk) (r : Received) (bytes : List ℕ) : Type 0 where
  pub lines : List (List ℕ)
  pub last : List ℕ
  pub before : Between
  pub after : Between
  pub replies : List ℕ
  pub cut : pieces 10 bytes ≡ lines ++ last ∷ []
  pub opens : IsOpen before
  pub answered : AllAnswered p before lines replies after
  pub holds : DeskInvariant p after d.parking
  pub reads : IsLine r last
  pub tells : TextIsTold w f v g d.pending (greeting p ++ replies)
  pub logged : IsLogged x h y i d.log after.entries

-- of these bytes a front is answered so, and then a write to the log has failed
pub record Breaks (p : ℕ) (w : Option (List ℕ)) (f : ℕ) (v : Option (List ℕ)) (g : ℕ)
    (x : Option (List ℕ)) (h : ℕ) (y : Option (List ℕ)) (i : ℕ)
    (d : Desk) (bytes : List ℕ) : Type 0 where
  pub heard : List ℕ
  pub unheard : List ℕ
  pub lines : List (List ℕ)
  pub last : List ℕ
  pub before : Between
  pub after : Between
  pub replies : List ℕ
  pub all : bytes ≡ heard ++ unheard
  pub cut : pieces 10 heard ≡ lines ++ last ∷ []
  pub opens : IsOpen before
  pub answered : AllAnswered p before lines replies after
  pub tells : TextIsTold w f v g d.pending (greeting p ++ replies)
  pub torn : IsTorn x h y i after.entries
