-- What a word is as a field.
use Rattle.std.specs.Prelude.{ℕ, ◌+◌, ◌^◌, nat_le, nat_lt, ◌==◌, ◌&&◌, List, [], ◌∷◌, length, Option, Some, None, option_map}
use Rattle.std.specs.Prelude.{if◌then◌else◌, codes, ℤ, pos, negsuc, zero, suc}
use Rattle.std.specs.Str.{bytes_eq}
use Rattle.std.specs.Str.Parse.{digits_value}
use Rattle.rx_base.specs.declared.ids.PlaceId.{PlaceId}
use Rattle.rx_base.specs.declared.ids.TaskId.{TaskId}
use Rattle.rx_base.specs.declared.ids.ScopeId.{ScopeId}
use Rattle.rx_base.specs.declared.ids.GlobalRef.{GlobalRef}
use Rattle.rx_base.specs.declared.ids.Kill.{Kill}
use Rattle.rx_base.specs.declared.values.Fault.{Fault}
use Rattle.rx_base.specs.declared.values.Fault.TheVariants.{Dead, Thrown, Overflow, NoPlace, WrongPlace, Stale, Index, HeapFull}
use Rattle.rx_text.specs.Numbers.{natural_text}
use Rattle.rx_kills.proofs.Spelling.{spelling}
use Rattle.rx_fields.specs.Words.{pieces, stripped}
use Rattle.rx_fields.specs.Inside.Readers.{Reader, followed, done, word}

-- an answer and then another
abbrev pub next : {A B : Type 0} → Option A → (A → Option B) → Option B
next None f = None
next (Some a) f = f a

-- a number below the limit, in its one spelling
abbrev pub number_below : ℕ → List ℕ → Option ℕ
number_below limit w = if bytes_eq w (natural_text (digits_value 10 w))
    && nat_lt (digits_value 10 w) limit then Some (digits_value 10 w) else None

-- a number after the sign `-`; there is no `-0`
abbrev pub negative : ℕ → Option ℤ
negative zero = None
negative (suc n) = Some (negsuc n)

-- a number of 64 bits, in its one spelling
abbrev pub number_of : List ℕ → Option ℤ
number_of [] = None
number_of (b ∷ bs) = if b == 45 then next (number_below (2 ^ 63 + 1) bs) negative else option_map pos (number_below (2 ^ 63) (b ∷ bs))

-- the number as one of 32 bits without a sign
abbrev pub short_of : ℤ → Option ℕ
short_of (pos n) = if nat_lt n (2 ^ 32) then Some n else None
short_of (negsuc n) = None

abbrev pub natural_of : List ℕ → Option ℕ
natural_of w = number_below (2 ^ 32) w

abbrev pub place_of : ℕ → List ℕ → Option PlaceId
place_of places w = option_map (λ n. record { 0 = n }) (number_below places w)

abbrev pub task_spelt : List ℕ → Option TaskId
task_spelt w = option_map (λ n. record { 0 = n }) (next (stripped (codes "t") w) natural_of)

abbrev pub scope_spelt : List ℕ → Option ScopeId
scope_spelt w = option_map (λ n. record { 0 = n }) (next (stripped (codes "s") w) natural_of)

-- one number for each piece
abbrev pub naturals_of : List (List ℕ) → Option (List ℕ)
naturals_of [] = Some []
naturals_of (w ∷ ws) = next (natural_of w) (λ n. option_map (λ ns. n ∷ ns) (naturals_of ws))

-- numbers joined by dots (the code 46)
abbrev pub path_of : List ℕ → Option (List ℕ)
path_of w = next (naturals_of (pieces 46 w)) (λ ns. if nat_le (length ns) 65 then Some ns else None)

-- a fault that is a word
abbrev pub plain_fault : List ℕ → Option Fault
plain_fault w =
    if bytes_eq w (codes "overflow") then Some Overflow else (
    if bytes_eq w (codes "noplace") then Some NoPlace else (
    if bytes_eq w (codes "wrongplace") then Some WrongPlace else (
    if bytes_eq w (codes "stale") then Some Stale else (
    if bytes_eq w (codes "index") then Some Index else (
    if bytes_eq w (codes "heapfull") then Some HeapFull else None)))))

-- the first answer
abbrev pub or_else : {A : Type 0} → Option A → Option A → Option A
or_else None b = b
or_else (Some a) b = Some a

abbrev pub dead_of : ℕ → List ℕ → Option Fault
dead_of places w = option_map (λ p. Dead p) (next (stripped (codes "dead:") w) (place_of places))

abbrev pub fault_spelt : List ℕ → Option Fault
fault_spelt w = option_map (λ n. Thrown n) (next (stripped (codes "code:") w) number_of)

abbrev pub fault_of : ℕ → List ℕ → Option Fault
fault_of places w = or_else (dead_of places w) (or_else (fault_spelt w) (plain_fault w))

-- the kill that a word spells
abbrev pub kill_of : List ℕ → Option Kill
kill_of w = (spelling w).kill

-- a number that is not 0
abbrev pub above_zero : ℕ → Option ℕ
above_zero n = if n == 0 then None else Some n

-- a number from 1 to a limit
abbrev pub count_of : ℕ → List ℕ → Option ℕ
count_of most w = next (number_below (most + 1) w) above_zero

-- a number of masked faults
abbrev pub masked_of : List ℕ → Option ℕ
masked_of w = next (natural_of w) above_zero

abbrev pub natural_at : Reader ℕ
natural_at = word natural_of

abbrev pub number_at : Reader ℤ
number_at = word number_of

abbrev pub place_at : ℕ → Reader PlaceId
place_at places = word (place_of places)

abbrev pub task_at : Reader TaskId
task_at = word task_spelt

abbrev pub scope_at : Reader ScopeId
scope_at = word scope_spelt

abbrev pub count_at : ℕ → Reader ℕ
count_at most = word (count_of most)

abbrev pub path_at : Reader (List ℕ)
path_at = word path_of

-- a block of this place: its start and its generation
abbrev pub block_at : ℕ → Reader GlobalRef
block_at home = followed natural_at (λ start. followed natural_at (λ generation. done (record {
  home = record { 0 = home };
  start = start;
  generation = generation;
})))
