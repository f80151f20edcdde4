-- The place of a hole among the others, as the code finds it.
use Rattle.std.proofs.Common.{◌≡◌, ℕ, ◌+◌, ◌<◌, ◌≤◌, ◌↔◌, Bool, true, false, IsTrue, List, length, get_or, take, set, arith, subst, sym, remove, insert, All}
use Rattle.std.proofs.lemmas.Bool.{iff_false}
use Rattle.rx_heap.specs.declared.block.Hole.{Hole}
use Rattle.rx_heap.specs.Inside.HoleEdits.{Joins, HasRoom}
use Rattle.rx_heap.proofs.Joining.{EndsBefore, BeginsAfter, LieApart-get_or, joins_alone, joins_next, joins_last, joins_between, length-joins}

-- n words from s on come before hole i and after the holes before it
pub record IsPlace (w : ℕ) (hs : List Hole) (capacity i s n : ℕ) : Type 0 where
  pub some : 0 < n
  pub room : HasRoom w hs capacity s n
  pub within : i ≤ length hs
  pub before : All (λ h. h.start < s) (take i hs)
  pub after : (d : Hole) → i < length hs → s ≤ (get_or hs i d).start

pub place_from : (w : ℕ) (hs now : List Hole) (capacity i s n : ℕ) → now ≡ hs → 0 < n → HasRoom w hs capacity s n → i ≤ length now → All (λ h. h.start < s) (take i now) → ((d : Hole) → i < length now → s ≤ (get_or now i d).start) → IsPlace w hs capacity i s n
place_from w hs now capacity i s n e some room within before after =
    let P : List Hole → Type 0 = λ z. HasRoom w z capacity s n → IsPlace w z capacity i s n in
    let made : P now = λ r. record { some = some; room = r; within = within; before = before; after = after } in
    subst P e made room

pub hole_fits : (w : ℕ) (hs : List Hole) (capacity s n j : ℕ) (d : Hole) → HasRoom w hs capacity s n → j < length hs → (get_or hs j d).start + (get_or hs j d).len ≤ w
hole_fits w hs capacity s n j d r lt = (LieApart-get_or w 0 hs j d lt r.apart).1

-- the hole before i does not end at s
abbrev pub EndsElsewhere : List Hole → ℕ → ℕ → Type 0
EndsElsewhere hs i s = (j : ℕ) (d : Hole) → j + 1 ≡ i → (get_or hs j d).start + (get_or hs j d).len ≡ s → ⊥

-- hole i does not begin at e
abbrev pub BeginsElsewhere : List Hole → ℕ → ℕ → Type 0
BeginsElsewhere hs i e = (d : Hole) → i < length hs → e ≡ (get_or hs i d).start → ⊥

ends : (w : ℕ) (hs : List Hole) (capacity i s n : ℕ) → IsPlace w hs capacity i s n → EndsElsewhere hs i s → EndsBefore hs i s
ends w hs capacity i s n p e = record { starts = p.before; free = p.room.clear s (omega arith) (let some = p.some in omega arith); ends = e }

begins : (w : ℕ) (hs : List Hole) (capacity i s n : ℕ) → IsPlace w hs capacity i s n → BeginsElsewhere hs i (s + n) → BeginsAfter hs i s n
begins w hs capacity i s n p e = record { starts = p.after; free = p.room.clear; apart = e }

pub place_alone : (w : ℕ) (hs : List Hole) (capacity i : ℕ) (h : Hole) → IsPlace w hs capacity i h.start h.len → EndsElsewhere hs i h.start → BeginsElsewhere hs i (h.start + h.len) → Joins hs (insert hs i h) h.start h.len
place_alone w hs capacity i h p e b =
    joins_alone w hs i h p.within p.some p.room.apart (ends w hs capacity i h.start h.len p e) (begins w hs capacity i h.start h.len p b)

pub place_has_room : (w : ℕ) (hs : List Hole) (capacity i : ℕ) (h : Hole) → IsPlace w hs capacity i h.start h.len → EndsElsewhere hs i h.start → BeginsElsewhere hs i (h.start + h.len) → length hs < capacity
place_has_room w hs capacity i h p e b =
    let most = length-joins w hs i h p.within p.room.ends p.room.apart (place_alone w hs capacity i h p e b) in
    let room = p.room.room in
    omega arith

pub place_next : (w : ℕ) (hs : List Hole) (capacity i : ℕ) (g d : Hole) (s n : ℕ) → IsPlace w hs capacity i s n → i < length hs → EndsElsewhere hs i s → s + n ≡ (get_or hs i d).start → g.start ≡ s → g.len ≡ (get_or hs i d).len + n → Joins hs (set hs i g) s n
place_next w hs capacity i g d s n p lt e touch es el =
    joins_next w hs i g d s n lt p.some p.room.apart (ends w hs capacity i s n p e) (sym touch) es el

pub place_last : (w : ℕ) (hs : List Hole) (capacity i j : ℕ) (g d : Hole) (s n : ℕ) → IsPlace w hs capacity i s n → j + 1 ≡ i → (get_or hs j d).start + (get_or hs j d).len ≡ s → BeginsElsewhere hs i (s + n) → g.start ≡ (get_or hs j d).start → g.len ≡ (get_or hs j d).len + n → Joins hs (set hs j g) s n
place_last w hs capacity i j g d s n p is touch b es el =
    let within = p.within in
    let B : ℕ → Type 0 = λ k. BeginsAfter hs k s n in
    joins_last w hs j g d s n (omega arith) p.room.apart (subst B (sym is) (begins w hs capacity i s n p b)) touch es el

pub place_between : (hs : List Hole) (i j : ℕ) (g d : Hole) (s n : ℕ) → j + 1 ≡ i → i < length hs → (get_or hs j d).start + (get_or hs j d).len ≡ s → s + n ≡ (get_or hs i d).start → g.start ≡ (get_or hs j d).start → g.len ≡ (get_or hs j d).len + (n + (get_or hs i d).len) → Joins hs (remove (set hs j g) i) s n
place_between hs i j g d s n is lt before after es el =
    let J : ℕ → Type 0 = λ k. k < length hs → s + n ≡ (get_or hs k d).start → g.len ≡ (get_or hs j d).len + (n + (get_or hs k d).len) → Joins hs (remove (set hs j g) k) s n in
    let made : J (j + 1) = λ lt after el. joins_between hs j g d s n lt before (sym after) es el in
    subst J is made lt after el

-- what the tests of the code say, of the list that it reads
pub ends_there : (hs now : List Hole) (i s : ℕ) (b : Bool) → now ≡ hs → b ≡ true → ((j : ℕ) (d : Hole) → j + 1 ≡ i → (IsTrue b ↔ ((get_or now j d).start + (get_or now j d).len ≡ s))) → (j : ℕ) (d : Hole) → j + 1 ≡ i → (get_or hs j d).start + (get_or hs j d).len ≡ s
ends_there hs now i s b e t told j d is =
    let P : List Hole → Type 0 = λ z. (get_or z j d).start + (get_or z j d).len ≡ s in subst P e ((told j d is).0 t)

pub ends_elsewhere : (hs now : List Hole) (i s : ℕ) (b : Bool) → now ≡ hs → b ≡ false → ((j : ℕ) (d : Hole) → j + 1 ≡ i → (IsTrue b ↔ ((get_or now j d).start + (get_or now j d).len ≡ s))) → EndsElsewhere hs i s
ends_elsewhere hs now i s b e f told = λ j d is.
    let P : List Hole → Type 0 = λ z. (get_or z j d).start + (get_or z j d).len ≡ s → ⊥ in subst P e (iff_false (told j d is) f)

pub begins_there : (hs now : List Hole) (i e : ℕ) (b : Bool) → now ≡ hs → b ≡ true → ((d : Hole) → i < length now → (IsTrue b ↔ (e ≡ (get_or now i d).start))) → (d : Hole) → i < length hs → e ≡ (get_or hs i d).start
begins_there hs now i e b same t told d lt =
    let P : List Hole → Type 0 = λ z. i < length z → e ≡ (get_or z i d).start in
    let made : P now = λ l. (told d l).0 t in
    subst P same made lt

pub begins_elsewhere : (hs now : List Hole) (i e : ℕ) (b : Bool) → now ≡ hs → b ≡ false → ((d : Hole) → i < length now → (IsTrue b ↔ (e ≡ (get_or now i d).start))) → BeginsElsewhere hs i e
begins_elsewhere hs now i e b same f told = λ d lt.
    let P : List Hole → Type 0 = λ z. i < length z → e ≡ (get_or z i d).start → ⊥ in
    let made : P now = λ l. iff_false (told d l) f in
    subst P same made lt

pub within_there : (hs now : List Hole) (i : ℕ) → now ≡ hs → i < length now → i < length hs
within_there hs now i e lt = let P : List Hole → Type 0 = λ z. i < length z in subst P e lt

-- a hole that the code has read ends among the w words
pub read_fits : (w : ℕ) (hs : List Hole) (capacity s n i : ℕ) (r : Hole) → HasRoom w hs capacity s n → i < length hs → r ≡ get_or hs i r → r.start + r.len ≤ w
read_fits w hs capacity s n i r room lt e =
    let P : Hole → Type 0 = λ z. z.start + z.len ≤ w in subst P (sym e) (hole_fits w hs capacity s n i r room lt)
