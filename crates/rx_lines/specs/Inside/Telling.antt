-- Text that is told: some of it is written, and the rest is to be written next.
use Rattle.std.specs.Prelude.{◌≡◌, ℕ, ◌≤◌, ◌<◌, Bool, true, false, List, ◌++◌, length, Option}
use Rattle.std.specs.Io.KnownBytes.{Appends}
use Rattle.rx_base.specs.Outside.{Rose}
use Rattle.rx_lines.specs.declared.output.Pending.{Pending}

-- what is not written is pending; or a write has failed
abbrev pub IsLeft : Bool → ℕ → ℕ → List ℕ → List ℕ → Type 0
IsLeft false f g rest text = rest ≡ text
IsLeft true f g rest text = Rose f g × (0 < length rest)

-- This text was told since the sink had written w and failed f times. Now it has written v and failed g times.
pub record TextIsTold (w : Option (List ℕ)) (f : ℕ) (v : Option (List ℕ)) (g : ℕ) (t : Pending) (text : List ℕ) : Type 0 where
  pub sent : List ℕ
  pub rest : List ℕ
  pub later : f ≤ g
  pub wrote : Appends w v sent
  pub all : text ≡ sent ++ rest
  pub left : IsLeft t.is_failed f g rest t.text.items

-- from one moment of the sink and the text that is pending to another one this piece was told
abbrev pub Puts : {K : Type 0} → (K → Option (List ℕ)) → (K → ℕ) → K → Pending → K → Pending → List ℕ → Type 0
Puts written faults o t n u piece =
    (w : Option (List ℕ)) (f : ℕ) (text : List ℕ) → TextIsTold w f (written o) (faults o) t text
    → TextIsTold w f (written n) (faults n) u (text ++ piece)
