-- What a session tells: the greeting, and behind it for each line its reply and the lines of the releases that it made possible.
use Rattle.std.specs.Prelude.{◌≡◌, ◌⊎◌, ℕ, nat_le, Bool, true, false, ◌||◌, List, [], ◌∷◌, ◌++◌, length, Option, Some, None}
use Rattle.std.specs.Prelude.{if◌then◌else◌, codes}
use Rattle.std.specs.List.{flat_map}
use Rattle.rx_text.specs.Numbers.{natural_text}
use Rattle.rx_fields.specs.Words.{pieces}
use Rattle.rx_rules.specs.declared.entries.Entry.{Entry}
use Rattle.rx_rules.specs.Fold.{tree_of}
use Rattle.rx_finish.specs.declared.ledger.Outcome.{Outcome}
use Rattle.rx_coordinator.specs.declared.requests.Request.{Request}
use Rattle.rx_coordinator.specs.declared.requests.Answer.{Answer}
use Rattle.rx_coordinator.specs.declared.requests.Answer.TheVariants.{Full, NoMemory}
use Rattle.rx_coordinator.specs.declared.waiters.Waiter.{Waiter}
use Rattle.rx_coordinator.specs.declared.waiters.Waiters.{Waiters}
use Rattle.rx_coordinator.specs.declared.parking.Freed.TheVariants.{NoOne, Short}
use Rattle.rx_coordinator.specs.Waiters.{waiter_at}
use Rattle.rx_coordinator.specs.Parking.{AskedBeside, FreedFrom, FreedIs, WaiterIsThere}
use Rattle.rx_lines.specs.Lines.{line_request}
use Rattle.rx_lines.specs.Replies.{answer_line, freed_line}

-- Between two lines: the entries so far, who waits for which scope, and whether memory or numbers have run out for anything so far.
pub record Between : Type 0 where
  pub entries : List Entry
  pub waiters : Waiters
  pub is_short : Bool

-- before the first line
pub record IsOpen (b : Between) : Type 0 where
  pub entries : b.entries ≡ []
  pub waiters : (n : ℕ) → waiter_at b.waiters n ≡ None
  pub plenty : b.is_short ≡ false

-- these are the entries now
abbrev pub Are : List Entry → List Entry → Type 0
Are fs es = es ≡ fs

-- memory or numbers ran out for a request
abbrev pub ran_out : Answer → Bool
ran_out Full = true
ran_out NoMemory = true
ran_out _ = false

-- A request has this answer, and whoever waits then does so where the tree says.
pub record RequestIsAnswered (p : ℕ) (b : Between) (q : Request) (a : Answer) (c : Between) : Type 0 where
  pub asked : AskedBeside p b.entries q b.waiters a (Are c.entries) c.waiters
  pub there : (n : ℕ) (who : Waiter) → waiter_at c.waiters n ≡ Some who → WaiterIsThere (tree_of p c.entries) n who
  pub short : c.is_short ≡ (b.is_short || ran_out a)

-- a release that has waited, of the scope of this number, has this outcome
pub record Frees (p : ℕ) (b : Between) (who : Waiter) (o : Outcome) (c : Between) : Type 0 where
  pub scope : ℕ
  pub freed : FreedFrom p b.entries scope who o b.waiters (Are c.entries) c.waiters
  pub short : c.is_short ≡ b.is_short

-- one after another these have
abbrev pub FreesEach : ℕ → Between → List (Waiter × Outcome) → Between → Type 0
FreesEach p b [] c = c ≡ b
FreesEach p b (x ∷ xs) d = (c : Between) × Frees p b x.0 x.1 c × FreesEach p c xs d

-- no release that waits is possible, or memory or numbers ran out for one
abbrev pub Rests : ℕ → Between → Between → Type 0
Rests p b c =
    (FreedIs p b.entries NoOne b.waiters (Are c.entries) c.waiters × (c.is_short ≡ b.is_short))
    ⊎ (FreedIs p b.entries Short b.waiters (Are c.entries) c.waiters × (c.is_short ≡ true))

-- the releases that are possible
abbrev pub FreesAll : ℕ → Between → List (Waiter × Outcome) → Between → Type 0
FreesAll p b xs d = (c : Between) × FreesEach p b xs c × Rests p c d

-- their lines
abbrev pub freed_lines : List (Waiter × Outcome) → List ℕ
freed_lines xs = flat_map (λ x. freed_line x.0 x.1) xs

-- the request that a line is, where it has no more bytes than a line may have
abbrev pub request_in : List ℕ → Option Request
request_in line = if nat_le (length line) 4096 then line_request line else None

-- What is told for a line. Where memory runs out for the line itself, nothing is asked.
pub data LineAnswered (p : ℕ) (b : Between) (line text : List ℕ) (c : Between) : Type 0 where
  malformed : request_in line ≡ None → text ≡ codes "malformed\n" → c ≡ b → LineAnswered p b line text c
  unread : text ≡ codes "no memory\n" → c ≡ record b { is_short = true } → LineAnswered p b line text c
  replied : (q : Request) (a : Answer) (m : Between) (xs : List (Waiter × Outcome)) → request_in line ≡ Some q → RequestIsAnswered p b q a m
      → FreesAll p m xs c → text ≡ answer_line a ++ freed_lines xs → LineAnswered p b line text c

-- what is told for lines
abbrev pub AllAnswered : ℕ → Between → List (List ℕ) → List ℕ → Between → Type 0
AllAnswered p b [] text c = (text ≡ []) × (c ≡ b)
AllAnswered p b (line ∷ lines) text d =
    (c : Between) × (here later : List ℕ) × LineAnswered p b line here c × AllAnswered p c lines later d × (text ≡ here ++ later)

-- what is told before the first line
abbrev pub greeting : ℕ → List ℕ
greeting p = codes "coordinator 1 places " ++ natural_text p ++ codes " most 16 line 4096 main t0\n"

-- The text of a session that opens with p places and has this input. Bytes after the last line feed (the code 10) are no line.
pub record IsSession (p : ℕ) (bytes text : List ℕ) : Type 0 where
  pub lines : List (List ℕ)
  pub last : List ℕ
  pub before : Between
  pub after : Between
  pub replies : List ℕ
  pub cut : pieces 10 bytes ≡ lines ++ last ∷ []
  pub opens : IsOpen before
  pub answered : AllAnswered p before lines replies after
  pub told : text ≡ greeting p ++ replies
