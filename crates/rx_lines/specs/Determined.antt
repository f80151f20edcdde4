-- What determines the text of a session: the input, the number of places, and what memory and numbers ran out for.
use Rattle.std.specs.Prelude.{◌≡◌, ◌⊎◌, ℕ, ◌≤◌, Bool, true, false, List, [], ◌∷◌, length, Option, Some, None, if◌then◌else◌}
use Rattle.std.proofs.Common.{inl, inr}
use Rattle.rx_coordinator.specs.declared.requests.Answer.{Answer}
use Rattle.rx_coordinator.specs.declared.requests.Answer.TheVariants.{NoMemory}
use Rattle.rx_lines.specs.Session.{Between, ran_out, Rests, LineAnswered, AllAnswered, IsSession}
use Rattle.rx_lines.specs.Session.LineAnswered.{malformed, unread, replied}

-- What ran out while a line was answered: memory or numbers for the request, where its reply says so. And how many releases are told behind
-- the reply, and whether these are all that were possible.
pub record Shortage : Type 0 where
  pub reply : Option Answer
  pub told : ℕ
  pub all : Bool

-- the answer, if it says that memory or numbers ran out for the request
abbrev pub refusal : Answer → Option Answer
refusal a = if ran_out a then Some a else None

-- no more was possible
abbrev pub is_all : (p : ℕ) (b c : Between) → Rests p b c → Bool
is_all p b c (inl none) = true
is_all p b c (inr short) = false

-- Of one line. Where memory ran out for the line itself, its reply says so, and no release was tried.
abbrev pub shortage : (p : ℕ) (b : Between) (line text : List ℕ) (c : Between) → LineAnswered p b line text c → Shortage
shortage p b line text c (malformed none told same) = record { reply = None; told = 0; all = true }
shortage p b line text c (unread told short) = record { reply = Some NoMemory; told = 0; all = false }
shortage p b line text c (replied q a m xs is asks frees told) =
    record { reply = refusal a; told = length xs; all = is_all p frees.0 c frees.2 }

-- line by line
abbrev pub shortages : (p : ℕ) (b : Between) (lines : List (List ℕ)) (text : List ℕ) (c : Between) → AllAnswered p b lines text c
    → List Shortage
shortages p b [] text c all = []
shortages p b (line ∷ lines) text d all = shortage p b line all.1 all.0 all.3 ∷ shortages p all.0 lines all.2 d all.4

-- of all lines of a session
abbrev pub ran_out_in : {p : ℕ} {bytes text : List ℕ} → IsSession p bytes text → List Shortage
ran_out_in {p = p} s = shortages p s.before s.lines s.replies s.after s.answered

-- The same ran out for two lines: both replies say so, or neither does, and as many releases are told behind them. That they are as many is
-- not asked where all that were possible are told behind both.
abbrev pub IsAlike : Shortage → Shortage → Type 0
IsAlike x y = (x.reply ≡ y.reply) × ((x.told ≡ y.told) ⊎ ((x.all ≡ true) × (y.all ≡ true)))

-- and so for all lines
abbrev pub AreAlike : List Shortage → List Shortage → Type 0
AreAlike [] [] = Unit {0}
AreAlike (x ∷ xs) (y ∷ ys) = IsAlike x y × AreAlike xs ys
AreAlike _ _ = ⊥

-- Two sessions with one input and as many places tell the same, whoever chose them, where the same ran out for the same lines.
abbrev pub OneText : Type 0
OneText =
    (p : ℕ) (bytes text other : List ℕ) → 1 ≤ p → p ≤ 16 → (s : IsSession p bytes text) (t : IsSession p bytes other)
    → AreAlike (ran_out_in s) (ran_out_in t) → text ≡ other

-- And so they do where nothing ran out.
abbrev pub OneTextWithEnough : Type 0
OneTextWithEnough =
    (p : ℕ) (bytes text other : List ℕ) → 1 ≤ p → p ≤ 16 → (s : IsSession p bytes text) (t : IsSession p bytes other)
    → s.after.is_short ≡ false → t.after.is_short ≡ false → text ≡ other
