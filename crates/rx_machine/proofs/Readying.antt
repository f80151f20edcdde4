-- Ascending lists of the numbers of enabled tasks.
use Rattle.std.proofs.Common.{◌≡◌, ◌≢◌, ℕ, zero, suc, ◌+◌, ◌<◌, ◌≤◌, ◌==◌, ltb, eqb, Bool, true, false, cond, not, ◌&&◌, ◌||◌, List, [], ◌∷◌, Option, Some, None, is_none, refl, ap, ◌∙◌, sym, subst, arith, inl, inr}
use Rattle.std.proofs.lemmas.Bool.{cases_lt, cond-true, cond-false, lt-ltb, le-ltb, eqb-true, eq-eqb, ne_eqb, true≢false}
use Rattle.rx_rules.specs.declared.tasks.Task.{Task}
use Rattle.rx_rules.proofs.Common.{Tree, task_of, quiet, inner, Player}
use Rattle.rx_rank.specs.Numbers.{Ascends, inserted, removed, marked}
use Rattle.rx_tree_laws.specs.Sound.{Sound}
use Rattle.rx_tree_laws.specs.Enabling.{able, able_in}
use Rattle.rx_tree_laws.proofs.Reach.{task_below}
use Rattle.rx_syntax.specs.Shape.{Shape}
use Rattle.rx_machine.specs.declared.seat.Seat.{Seat}
use Rattle.rx_machine.specs.Slots.{row_of, seat_at, live_in, SlotIs}
use Rattle.rx_machine.specs.Picking.{slot_able, is_listed, AreEnabled}
use Rattle.rx_machine.proofs.Live.{live_stands}
use Rattle.rx_machine.proofs.EnabledTasks.{able_from}
use Rattle.rx_rules.specs.declared.entries.Entry.{Entry}

-- A number put in or taken out.

inserted_same : (x : ℕ) (ys : List ℕ) → is_listed x (inserted x ys) ≡ true
unfolding inserted
inserted_same x [] = rw (eq-eqb x x refl) refl
inserted_same x (y ∷ ys) =
    (elim (ltb x y) as (λ b. is_listed x (cond b (x ∷ y ∷ ys) (cond (eqb x y) (y ∷ ys) (y ∷ inserted x ys))) ≡ true) [
      | true ↦ rw (eq-eqb x x refl) refl
      | false ↦
          (elim (eqb x y) as (λ c. eqb x y ≡ c → is_listed x (cond c (y ∷ ys) (y ∷ inserted x ys)) ≡ true) [
            | true ↦ λ e. let f : eqb y x ≡ true = eq-eqb y x (sym (eqb-true x y e)) in rw f refl
            | false ↦ λ e. ap (λ v. (y == x) || v) (inserted_same x ys) ∙ or_true (y == x)
          ]) refl
    ])
  where
    or_true : (b : Bool) → (b || true) ≡ true
    or_true true = refl
    or_true false = refl

pub inserted_none : (x : ℕ) → inserted x [] ≡ x ∷ []
unfolding inserted
inserted_none x = refl

inserted_other : (x n : ℕ) (ys : List ℕ) → n ≢ x → is_listed n (inserted x ys) ≡ is_listed n ys
unfolding inserted
inserted_other x n [] apart = let f : (x == n) ≡ false = ne_eqb x n (λ e. apart (sym e)) in rw f refl
inserted_other x n (y ∷ ys) apart =
    let f : (x == n) ≡ false = ne_eqb x n (λ e. apart (sym e)) in
    elim (ltb x y) as (λ b. is_listed n (cond b (x ∷ y ∷ ys) (cond (eqb x y) (y ∷ ys) (y ∷ inserted x ys))) ≡ is_listed n (y ∷ ys)) [
      | true ↦ rw f refl
      | false ↦
          elim (eqb x y) as (λ c. is_listed n (cond c (y ∷ ys) (y ∷ inserted x ys)) ≡ is_listed n (y ∷ ys)) [
            | true ↦ refl
            | false ↦ ap (λ v. (y == n) || v) (inserted_other x n ys apart)
          ]
    ]

removed_same : (x : ℕ) (ys : List ℕ) → is_listed x (removed x ys) ≡ false
removed_same x [] = refl
removed_same x (y ∷ ys) =
    (elim (y == x) as (λ b. (y == x) ≡ b → is_listed x (cond (not b) (y ∷ removed x ys) (removed x ys)) ≡ false) [
      | true ↦ λ e. removed_same x ys
      | false ↦ λ e. rw e (removed_same x ys)
    ]) refl

removed_other : (x n : ℕ) (ys : List ℕ) → n ≢ x → is_listed n (removed x ys) ≡ is_listed n ys
removed_other x n [] apart = refl
removed_other x n (y ∷ ys) apart =
    (elim (y == x) as (λ b. (y == x) ≡ b → is_listed n (cond (not b) (y ∷ removed x ys) (removed x ys)) ≡ is_listed n (y ∷ ys)) [
      | true ↦ λ e. let f : (y == n) ≡ false = ne_eqb y n (λ k. apart (sym k ∙ eqb-true y x e)) in rw f (removed_other x n ys apart)
      | false ↦ λ e. ap (λ v. (y == n) || v) (removed_other x n ys apart)
    ]) refl

pub marked_same : (b : Bool) (x : ℕ) (ys : List ℕ) → is_listed x (marked b x ys) ≡ b
marked_same true x ys = inserted_same x ys
marked_same false x ys = removed_same x ys

pub marked_other : (b : Bool) (x n : ℕ) (ys : List ℕ) → n ≢ x → is_listed n (marked b x ys) ≡ is_listed n ys
marked_other true x n ys apart = inserted_other x n ys apart
marked_other false x n ys apart = removed_other x n ys apart

-- Ascending lists.

ascends_less : (a b : ℕ) (ys : List ℕ) → b ≤ a → Ascends a ys → Ascends b ys
ascends_less a b [] le h = tt
ascends_less a b (y ∷ ys) le h = let low : a ≤ y = h.0 in (omega arith, h.1)

ascends_inserted : (a x : ℕ) (ys : List ℕ) → a ≤ x → Ascends a ys → Ascends a (inserted x ys)
unfolding inserted
ascends_inserted a x [] le h = (le, tt)
ascends_inserted a x (y ∷ ys) le h =
    let low : a ≤ y = h.0 in
    elim (cases_lt x y) [
      | inl less ↦ subst (Ascends a) (sym (cond-true (ltb x y) (x ∷ y ∷ ys) (cond (eqb x y) (y ∷ ys) (y ∷ inserted x ys)) (lt-ltb x y less))) (le, (omega (arith, less), h.1))
      | inr more ↦
          subst (Ascends a) (sym (cond-false (ltb x y) (x ∷ y ∷ ys) (cond (eqb x y) (y ∷ ys) (y ∷ inserted x ys)) (le-ltb x y more)))
          ((elim (eqb x y) as (λ c. eqb x y ≡ c → Ascends a (cond c (y ∷ ys) (y ∷ inserted x ys))) [
            | true ↦ λ e. h
            | false ↦ λ e. (low, ascends_inserted (y + 1) x ys (past x y more e) h.1)
          ]) refl)
    ]
  where
    past : (x y : ℕ) → y ≤ x → eqb x y ≡ false → y + 1 ≤ x
    past x y more e = elim (cases_lt y x) [ inl l ↦ omega (arith, l) | inr g ↦ (let same : x ≡ y = omega (arith, more, g) in absurd (true≢false (sym (eq-eqb x y same) ∙ e))) ]

ascends_removed : (a x : ℕ) (ys : List ℕ) → Ascends a ys → Ascends a (removed x ys)
ascends_removed a x [] h = tt
ascends_removed a x (y ∷ ys) h =
    let low : a ≤ y = h.0 in
    elim (y == x) as (λ b. Ascends a (cond (not b) (y ∷ removed x ys) (removed x ys))) [
      | true ↦ ascends_less (y + 1) a (removed x ys) (omega (arith, low)) (ascends_removed (y + 1) x ys h.1)
      | false ↦ (low, ascends_removed (y + 1) x ys h.1)
    ]

pub ascends_marked : (b : Bool) (x : ℕ) (ys : List ℕ) → Ascends 0 ys → Ascends 0 (marked b x ys)
ascends_marked true x ys h = ascends_inserted 0 x ys (omega arith) h
ascends_marked false x ys h = ascends_removed 0 x ys h

-- what is below the list is not in it
has_below : (a n : ℕ) (ys : List ℕ) → Ascends a ys → n < a → is_listed n ys ≡ false
has_below a n [] h less = refl
has_below a n (y ∷ ys) h less =
    let low : a ≤ y = h.0 in
    let f : (y == n) ≡ false = ne_eqb y n (λ e. absurd (omega (arith, low, less, e))) in
    rw f (has_below (y + 1) n ys h.1 (omega (arith, low, less)))

has_first : (x : ℕ) (xs : List ℕ) → is_listed x (x ∷ xs) ≡ true
has_first x xs = rw (eq-eqb x x refl) refl

-- ascending lists of the same numbers are the same
pub ascends_same : (a : ℕ) (xs ys : List ℕ) → Ascends a xs → Ascends a ys → ((n : ℕ) → is_listed n xs ≡ is_listed n ys) → xs ≡ ys
ascends_same a [] [] h k e = refl
ascends_same a [] (y ∷ ys) h k e = absurd (true≢false (sym (has_first y ys) ∙ sym (e y)))
ascends_same a (x ∷ xs) [] h k e = absurd (true≢false (sym (has_first x xs) ∙ e x))
ascends_same a (x ∷ xs) (y ∷ ys) h k e =
    let same : x ≡ y = elim (cases_lt x y) [
      | inl less ↦ absurd (true≢false (sym (has_first x xs) ∙ (e x ∙ has_below y x (y ∷ ys) ((let r : y ≤ y = omega arith in r), k.1) less)))
      | inr more ↦ elim (cases_lt y x) [
        | inl less ↦ absurd (true≢false (sym (has_first y ys) ∙ (sym (e y) ∙ has_below x y (x ∷ xs) ((let r : x ≤ x = omega arith in r), h.1) less)))
        | inr less ↦ omega (arith, more, less)
      ]
    ] in
    let rest : (n : ℕ) → is_listed n xs ≡ is_listed n ys = λ n. elim (cases_lt n (x + 1)) [
      | inl low ↦ has_below (x + 1) n xs h.1 low ∙ sym (has_below (y + 1) n ys k.1 (omega (arith, low, same)))
      | inr high ↦
          let f : (x == n) ≡ false = ne_eqb x n (λ w. absurd (omega (arith, high, w))) in
          let g : (y == n) ≡ false = ne_eqb y n (λ w. absurd (omega (arith, high, w, same))) in
          sym (ap (λ b. b || is_listed n xs) f) ∙ (e n ∙ ap (λ b. b || is_listed n ys) g)
    ] in
    ap (λ v. v ∷ xs) same ∙ ap (λ v. y ∷ v) (ascends_same (y + 1) xs ys (subst (λ (v : ℕ). Ascends (v + 1) xs) same h.1) k.1 rest)

-- The slots.

able_ascends : (T : Tree) (i : ℕ) (os : List (Option Seat)) → Ascends i (able_from T i os)
able_ascends T i [] = tt
able_ascends T i (o ∷ os) =
    elim (slot_able T o) as (λ b. Ascends i (cond b (i ∷ able_from T (suc i) os) (able_from T (suc i) os))) [
      | true ↦ ((let r : i ≤ i = omega arith in r), (let one : suc i ≡ i + 1 = omega arith in subst (λ (v : ℕ). Ascends v (able_from T (suc i) os)) one (able_ascends T (suc i) os)))
      | false ↦ ascends_less (suc i) i (able_from T (suc i) os) (omega arith) (able_ascends T (suc i) os)
    ]

able_has : (T : Tree) (i j : ℕ) (os : List (Option Seat)) → is_listed (i + j) (able_from T i os) ≡ slot_able T (seat_at os j)
able_has T i j [] = refl
able_has T i zero (o ∷ os) =
    let z : i + 0 ≡ i = omega arith in
    ap (λ (v : ℕ). is_listed v (able_from T i (o ∷ os))) z
    ∙ elim (slot_able T o) as (λ b. is_listed i (cond b (i ∷ able_from T (suc i) os) (able_from T (suc i) os)) ≡ b) [
      | true ↦ has_first i (able_from T (suc i) os)
      | false ↦ has_below (suc i) i (able_from T (suc i) os) (able_ascends T (suc i) os) (omega arith)
    ]
able_has T i (suc j) (o ∷ os) =
    let z : i + suc j ≡ suc i + j = omega arith in
    let f : (i == suc i + j) ≡ false = ne_eqb i (suc i + j) (λ w. absurd (omega (arith, w))) in
    ap (λ (v : ℕ). is_listed v (able_from T i (o ∷ os))) z
    ∙ (elim (slot_able T o) as (λ b. is_listed (suc i + j) (cond b (i ∷ able_from T (suc i) os) (able_from T (suc i) os)) ≡ is_listed (suc i + j) (able_from T (suc i) os)) [
      | true ↦ ap (λ b. b || is_listed (suc i + j) (able_from T (suc i) os)) f
      | false ↦ refl
    ] ∙ able_has T (suc i) j os)

-- a slot is enabled where the task of its number is
pub slot_task : (shape : Shape) (es : List Entry) (T : Tree) (ps : List Player) (n : ℕ) (o : Option Seat) → SlotIs shape es T ps n o → slot_able T o ≡ able T (record { 0 = n })
slot_task shape es T ps n (Some seat) is = sym (ap (able_in T) (live_stands T n (row_of seat) is.3.row).0)
slot_task shape es T ps n None none = sym (off (task_of T (record { 0 = n })) none) where
  off : (o : Option Task) → live_in o ≡ None → able_in T o ≡ false
  off None h = refl
  off (Some x) h =
      elim x.struck as (λ s. cond (is_none s) (Some x) None ≡ None → (is_none s && (not x.waits || quiet T (inner T x))) ≡ false) [
        | Some b ↦ λ e. refl
        | None ↦ λ e. absurd (let f : ⊥ = cc in f)
      ] h

-- past the last number no task is enabled
pub able_high : (T : Tree) (n : ℕ) → Sound T → T.next_task ≤ n → able T (record { 0 = n }) ≡ false
able_high T n h high =
    (elim (task_of T (record { 0 = n })) as (λ o. task_of T (record { 0 = n }) ≡ o → able_in T o ≡ false) [
      | None ↦ λ e. refl
      | Some x ↦ λ e. let low : n < T.next_task = task_below T.next_task T.tasks (record { 0 = n }) x h.tasks_fall e in absurd (omega (arith, low, high))
    ]) refl

-- the set has the numbers of the slots that are enabled
pub ready_slots : (shape : Shape) (es : List Entry) (T : Tree) (ps : List Player) (os : List (Option Seat)) (ns : List ℕ) → ((n : ℕ) → SlotIs shape es T ps n (seat_at os n)) → AreEnabled T ns → ns ≡ able_from T 0 os
ready_slots shape es T ps os ns slots r =
    ascends_same 0 ns (able_from T 0 os) r.0 (able_ascends T 0 os) (λ n.
    let z : n ≡ 0 + n = omega arith in
    r.1 n ∙ (sym (slot_task shape es T ps n (seat_at os n) (slots n)) ∙ (sym (able_has T 0 n os) ∙ ap (λ (v : ℕ). is_listed v (able_from T 0 os)) (sym z))))
