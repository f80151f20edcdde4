-- The slots that are enabled are the enabled tasks.
use Rattle.std.proofs.Common.{◌≡◌, ℕ, zero, suc, ◌+◌, ◌-◌, ◌<◌, ◌≤◌, Bool, true, false, cond, not, ◌&&◌, ◌||◌, ◌==◌, List, [], ◌∷◌, ◌++◌, filter, reverse, length, Option, Some, None, is_none, slice_get, refl, ap, ◌∙◌, sym, subst, arith, append_assoc}
use Rattle.std.specs.List.{find}
use Rattle.std.proofs.lemmas.Bool.{eq-eqb, ne_eqb}
use Rattle.std.proofs.lemmas.List.{reverse-append, append-nil}
use Rattle.rx_rules.proofs.Common.{Tree, is_task, task_of, quiet, inner, is_enabled, enabled, Player}
use Rattle.rx_rules.specs.declared.tasks.Task.{Task}
use Rattle.rx_rules.specs.declared.entries.Entry.{Entry}
use Rattle.rx_tree_laws.specs.Sound.{TasksFall}
use Rattle.rx_syntax.specs.Shape.{Shape}
use Rattle.rx_machine.specs.declared.seat.Seat.{Seat}
use Rattle.rx_machine.specs.Slots.{row_of, seat_at, live_task, live_in, SlotIs}
use Rattle.rx_machine.specs.Picking.{slot_able}
use Rattle.rx_machine.proofs.Live.{live_stands, none_above}
use Rattle.rx_rules.specs.declared.entries.Entry.{Entry}

-- the numbers of the enabled slots, from slot n on
abbrev pub able_from : Tree → ℕ → List (Option Seat) → List ℕ
able_from T n [] = []
able_from T n (o ∷ os) = cond (slot_able T o) (n ∷ able_from T (suc n) os) (able_from T (suc n) os)

-- what a look-up finds, if it passes
abbrev found : (Task → Bool) → Option Task → List Task
found q None = []
found q (Some x) = cond (q x) (x ∷ []) []

-- the same for the numbers n, n + 1, .. k of them
abbrev gather : (Task → Bool) → List Task → ℕ → ℕ → List Task
gather q xs n zero = []
gather q xs n (suc k) = found q (find (is_task (record { 0 = n })) xs) ++ gather q xs (suc n) k

gather_same : (q : Task → Bool) (xs ys : List Task) (n k : ℕ) → ((j : ℕ) → n ≤ j → j < n + k → find (is_task (record { 0 = j })) xs ≡ find (is_task (record { 0 = j })) ys) → gather q xs n k ≡ gather q ys n k
gather_same q xs ys n zero h = refl
gather_same q xs ys n (suc k) h =
    ap (λ o. found q o ++ gather q xs (suc n) k) (h n (omega arith) (omega arith))
    ∙ ap (λ v. found q (find (is_task (record { 0 = n })) ys) ++ v) (gather_same q xs ys (suc n) k (λ j low high. h j (omega arith) (omega arith)))

gather_none : (q : Task → Bool) (xs : List Task) (n k : ℕ) → ((j : ℕ) → n ≤ j → find (is_task (record { 0 = j })) xs ≡ None) → gather q xs n k ≡ []
gather_none q xs n zero h = refl
gather_none q xs n (suc k) h = ap (λ o. found q o ++ gather q xs (suc n) k) (h n (omega arith)) ∙ gather_none q xs (suc n) k (λ j low. h j (omega arith))

gather_split : (q : Task → Bool) (xs : List Task) (n a b : ℕ) → gather q xs n (a + b) ≡ gather q xs n a ++ gather q xs (n + a) b
gather_split q xs n zero b = let e : 0 + b ≡ b = omega arith in let f : n + 0 ≡ n = omega arith in ap (gather q xs n) e ∙ ap (λ v. gather q xs v b) (sym f)
gather_split q xs n (suc a) b =
    let e : suc a + b ≡ suc (a + b) = omega arith in
    let f : suc n + a ≡ n + suc a = omega arith in
    ap (gather q xs n) e
    ∙ (ap (λ v. found q (find (is_task (record { 0 = n })) xs) ++ v) (gather_split q xs (suc n) a b ∙ ap (λ v. gather q xs (suc n) a ++ gather q xs v b) f)
    ∙ sym (append_assoc (found q (find (is_task (record { 0 = n })) xs)) (gather q xs (suc n) a) (gather q xs (n + suc a) b)))

-- tasks whose numbers fall stand, from the oldest on, as their numbers tell
gathered : (q : Task → Bool) (xs : List Task) (n : ℕ) → TasksFall n xs → reverse (filter q xs) ≡ gather q xs 0 n
gathered q [] n h = sym (gather_none q [] 0 n (λ j low. refl))
gathered q (x ∷ xs) n h =
    let m : ℕ = x.number.0 in
    let low : m < n = h.0 in
    let size : n ≡ m + suc (n - suc m) = omega arith in
    let here : find (is_task (record { 0 = m })) (x ∷ xs) ≡ Some x = (let e : (m == m) ≡ true = eq-eqb m m refl in rw e refl) in
    let above : gather q (x ∷ xs) (suc m) (n - suc m) ≡ [] = gather_none q (x ∷ xs) (suc m) (n - suc m) (λ j le. none_above j (suc m) (x ∷ xs) (let s : m < suc m = omega arith in (s, h.1)) le) in
    let before : gather q (x ∷ xs) 0 m ≡ gather q xs 0 m = gather_same q (x ∷ xs) xs 0 m (λ j le less. let e : (m == j) ≡ false = ne_eqb m j (λ s. absurd (omega (arith, s))) in rw e refl) in
    let z : 0 + m ≡ m = omega arith in
    sym
    (ap (gather q (x ∷ xs) 0) size
    ∙ (gather_split q (x ∷ xs) 0 m (suc (n - suc m))
    ∙ (ap (λ v. gather q (x ∷ xs) 0 m ++ gather q (x ∷ xs) v (suc (n - suc m))) z
    ∙ (ap (λ o. gather q (x ∷ xs) 0 m ++ (found q o ++ gather q (x ∷ xs) (suc m) (n - suc m))) here
    ∙ (ap (λ v. gather q (x ∷ xs) 0 m ++ (found q (Some x) ++ v)) above
    ∙ (ap (λ v. gather q (x ∷ xs) 0 m ++ v) (append-nil (found q (Some x)))
    ∙ (ap (λ v. v ++ found q (Some x)) (before ∙ sym (gathered q xs m h.1))
    ∙ last q x (filter q xs))))))))
  where
    last : (q : Task → Bool) (x : Task) (ys : List Task) → reverse ys ++ cond (q x) (x ∷ []) [] ≡ reverse (cond (q x) (x ∷ ys) ys)
    last q x ys = elim (q x) as (λ b. reverse ys ++ cond b (x ∷ []) [] ≡ reverse (cond b (x ∷ ys) ys)) [ true ↦ sym (reverse-append (x ∷ []) ys) | false ↦ append-nil (reverse ys) ]

-- the rows of the slots that are enabled
abbrev rows_from : Tree → List (Option Seat) → List Task
rows_from T [] = []
rows_from T (None ∷ os) = rows_from T os
rows_from T (Some seat ∷ os) = cond (is_enabled T (row_of seat)) (row_of seat ∷ rows_from T os) (rows_from T os)

-- a struck task is not enabled
struck_off : (T : Tree) (o : Option Task) → live_in o ≡ None → found (is_enabled T) o ≡ []
struck_off T None h = refl
struck_off T (Some x) h =
    elim x.struck as (λ s. cond (is_none s) (Some x) None ≡ None → cond (is_none s && (not x.waits || quiet T (inner T x))) (x ∷ []) [] ≡ []) [
      | Some b ↦ λ e. refl
      | None ↦ λ e. absurd (let f : ⊥ = cc in f)
    ] h

rows_gather : (shape : Shape) (es : List Entry) (T : Tree) (ps : List Player) (n : ℕ) (os : List (Option Seat)) → ((j : ℕ) → j < length os → SlotIs shape es T ps (n + j) (seat_at os j)) → rows_from T os ≡ gather (is_enabled T) T.tasks n (length os)
rows_gather shape es T ps n [] h = refl
rows_gather shape es T ps n (None ∷ os) h =
    let z : n + 0 ≡ n = omega arith in
    let none : live_task T n ≡ None = subst (λ (v : ℕ). SlotIs shape es T ps v None) z (h 0 (omega arith)) in
    let rest = rows_gather shape es T ps (suc n) os (λ j low. let e : n + suc j ≡ suc n + j = omega arith in subst (λ (v : ℕ). SlotIs shape es T ps v (seat_at os j)) e (h (suc j) (omega arith))) in
    rest ∙ ap (λ v. v ++ gather (is_enabled T) T.tasks (suc n) (length os)) (sym (struck_off T (task_of T (record { 0 = n })) none))
rows_gather shape es T ps n (Some seat ∷ os) h =
    let z : n + 0 ≡ n = omega arith in
    let is = subst (λ (v : ℕ). SlotIs shape es T ps v (Some seat)) z (h 0 (omega arith)) in
    let stands : task_of T (record { 0 = n }) ≡ Some (row_of seat) = (live_stands T n (row_of seat) is.3.row).0 in
    let rest = rows_gather shape es T ps (suc n) os (λ j low. let e : n + suc j ≡ suc n + j = omega arith in subst (λ (v : ℕ). SlotIs shape es T ps v (seat_at os j)) e (h (suc j) (omega arith))) in
    front (is_enabled T (row_of seat)) (row_of seat) (rows_from T os) (gather (is_enabled T) T.tasks (suc n) (length os)) rest
    ∙ ap (λ o. found (is_enabled T) o ++ gather (is_enabled T) T.tasks (suc n) (length os)) (sym stands)
  where
    front : (b : Bool) (x : Task) (xs ys : List Task) → xs ≡ ys → cond b (x ∷ xs) xs ≡ cond b (x ∷ []) [] ++ ys
    front true x xs ys e = ap (λ v. x ∷ v) e
    front false x xs ys e = e

-- the enabled tasks are those of the slots that are enabled
pub enabled_rows : (shape : Shape) (es : List Entry) (T : Tree) (ps : List Player) (os : List (Option Seat)) → TasksFall T.next_task T.tasks → length os ≡ T.next_task → ((n : ℕ) → SlotIs shape es T ps n (seat_at os n)) → rows_from T os ≡ enabled T
enabled_rows shape es T ps os falls size slots =
    rows_gather shape es T ps 0 os (λ j low. let z : 0 + j ≡ j = omega arith in subst (λ (v : ℕ). SlotIs shape es T ps v (seat_at os j)) (sym z) (slots j))
    ∙ (ap (gather (is_enabled T) T.tasks 0) size ∙ sym (gathered (is_enabled T) T.tasks T.next_task falls))

pub able_length : (T : Tree) (n : ℕ) (os : List (Option Seat)) → length (able_from T n os) ≡ length (rows_from T os)
able_length T n [] = refl
able_length T n (None ∷ os) = able_length T (suc n) os
able_length T n (Some seat ∷ os) =
    elim (is_enabled T (row_of seat)) as (λ b. length (cond b (n ∷ able_from T (suc n) os) (able_from T (suc n) os)) ≡ length (cond b (row_of seat ∷ rows_from T os) (rows_from T os))) [
      | true ↦ ap suc (able_length T (suc n) os)
      | false ↦ able_length T (suc n) os
    ]

-- what the numbers of the slots from n on say of number i
abbrev AbleAt : Tree → ℕ → List (Option Seat) → List Task → ℕ → ℕ → Type 0
AbleAt T n os rows k i = (seat : Seat) × (n ≤ i) × (seat_at os (i - n) ≡ Some seat) × (slice_get rows k ≡ Some (row_of seat))

able_later : (T : Tree) (n : ℕ) (o : Option Seat) (os : List (Option Seat)) (k i : ℕ) → AbleAt T (suc n) os (rows_from T os) k i → AbleAt T n (o ∷ os) (rows_from T os) k i
able_later T n o os k i r =
    let le : suc n ≤ i = r.1 in
    let e : i - n ≡ suc (i - suc n) = omega arith in
    (r.0, omega arith, ap (seat_at (o ∷ os)) e ∙ r.2, r.3)

able_here : (T : Tree) (n : ℕ) (seat : Seat) (os : List (Option Seat)) (b : Bool) (k i : ℕ) → ((j : ℕ) → slice_get (able_from T (suc n) os) j ≡ Some i → AbleAt T (suc n) os (rows_from T os) j i) → slice_get (cond b (n ∷ able_from T (suc n) os) (able_from T (suc n) os)) k ≡ Some i → AbleAt T n (Some seat ∷ os) (cond b (row_of seat ∷ rows_from T os) (rows_from T os)) k i
able_here T n seat os false k i more h = able_later T n (Some seat) os k i (more k h)
able_here T n seat os true zero i more h =
    let same : n ≡ i = cc in
    let f : i - n ≡ 0 = omega (arith, same) in
    (seat, omega (arith, same), ap (seat_at (Some seat ∷ os)) f, refl)
able_here T n seat os true (suc k) i more h =
    let r = able_later T n (Some seat) os k i (more k h) in (r.0, r.1, r.2, r.3)

-- the k-th of the numbers is the slot of the k-th enabled task
pub able_at : (T : Tree) (n : ℕ) (os : List (Option Seat)) (k i : ℕ) → slice_get (able_from T n os) k ≡ Some i → (seat : Seat) × (n ≤ i) × (seat_at os (i - n) ≡ Some seat) × (slice_get (rows_from T os) k ≡ Some (row_of seat))
able_at T n [] k i h = absurd (let f : ⊥ = cc in f)
able_at T n (None ∷ os) k i h =
    able_later T n None os k i (able_at T (suc n) os k i h)
able_at T n (Some seat ∷ os) k i h = able_here T n seat os (is_enabled T (row_of seat)) k i (λ j e. able_at T (suc n) os j i e) h
