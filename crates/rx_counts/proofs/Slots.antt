-- The cells of a table of counts: places and pairs that differ have different cells, and each cell is that of one of them.
use Rattle.std.proofs.Common.{◌≡◌, ℕ, zero, suc, ◌<◌, ◌≤◌, ◌+◌, ◌*◌, ◌-◌, ◌/◌, ◌%◌, true, false, cond, ◌||◌, ◌&&◌, ◌==◌, ltb, List, length, slice_index_or, refl, sym, ap, ◌∙◌, subst, arith, ⊎_elim}
use Rattle.std.proofs.Math.Nat.{div-add-mod, mod-lt, div-lt_iff_lt-mul, add-mul, mul_comm, mul-le-mul_right}
use Rattle.std.proofs.lemmas.Nat.{div-mul-add, mod-mul-add}
use Rattle.std.proofs.lemmas.Bool.{eqb-true, eqb-false, eq-eqb, ne_eqb, true≢false, and_parts, and_from, lt-ltb, ltb-true, cases_eq}
use Rattle.std.proofs.lemmas.List.{get_or_past}
use Rattle.rx_rules.proofs.Common.{PlaceId, is_hit}
use Rattle.rx_rules.specs.declared.tasks.Where.{Where}
use Rattle.rx_rules.specs.declared.tasks.Where.TheVariants.{At, Travel}
use Rattle.rx_tree_laws.specs.Sound.{Inside}
use Rattle.rx_finish.specs.Calls.{landing}
use Rattle.rx_counts.specs.Keeping.{same_where}
use Rattle.rx_counts.specs.Stands.{row, column, table_size, is_inside, slot}
use Rattle.rx_counts.specs.Inside.Dying.{hits_cell}

-- Rows and columns.

pub row_same : (v w : Where) → same_where w v ≡ true → row v ≡ row w
row_same (At p) (At q) e = refl
row_same (At p) (Travel from to) e = absurd (true≢false (sym e))
row_same (Travel from to) (At q) e = absurd (true≢false (sym e))
row_same (Travel f t) (Travel p r) e = ap (λ (n : ℕ). n + 1) (eqb-true f.0 p.0 (and_parts (f.0 == p.0) (t.0 == r.0) e).0)

pub column_same : (v w : Where) → same_where w v ≡ true → column v ≡ column w
column_same (At p) (At q) e = eqb-true p.0 q.0 e
column_same (At p) (Travel from to) e = absurd (true≢false (sym e))
column_same (Travel from to) (At q) e = absurd (true≢false (sym e))
column_same (Travel f t) (Travel p r) e = eqb-true t.0 r.0 (and_parts (f.0 == p.0) (t.0 == r.0) e).1

same_both : (v w : Where) → row v ≡ row w → column v ≡ column w → same_where w v ≡ true
same_both (At p) (At q) a b = eq-eqb p.0 q.0 b
same_both (At p) (Travel from to) a b = absurd (omega arith)
same_both (Travel from to) (At q) a b = absurd (omega arith)
same_both (Travel f t) (Travel p r) a b = and_from (f.0 == p.0) (t.0 == r.0) (eq-eqb f.0 p.0 (omega arith)) (eq-eqb t.0 r.0 b)

pub inside_cells : (n : ℕ) (w : Where) → Inside n w → is_inside n w ≡ true
inside_cells n (At p) h = and_from (ltb 0 (n + 1)) (ltb p.0 n) (lt-ltb 0 (n + 1) (omega arith)) (lt-ltb p.0 n h)
inside_cells n (Travel f t) h =
    let a : f.0 < n = h.0 in
    and_from (ltb (f.0 + 1) (n + 1)) (ltb t.0 n) (lt-ltb (f.0 + 1) (n + 1) (omega arith)) (lt-ltb t.0 n h.1)

low_row : (n : ℕ) (w : Where) → is_inside n w ≡ true → row w < n + 1
low_row n w e = ltb-true (row w) (n + 1) (and_parts (ltb (row w) (n + 1)) (ltb (column w) n) e).0

low_column : (n : ℕ) (w : Where) → is_inside n w ≡ true → column w < n
low_column n w e = ltb-true (column w) n (and_parts (ltb (row w) (n + 1)) (ltb (column w) n) e).1

-- Cells of places and pairs.

slot_in : (n : ℕ) (w : Where) → is_inside n w ≡ true → slot n w ≡ row w * n + column w
slot_in n w e = ap (λ b. cond b (row w * n + column w) (table_size n)) e

slot_out : (n : ℕ) (w : Where) → is_inside n w ≡ false → slot n w ≡ table_size n
slot_out n w e = ap (λ b. cond b (row w * n + column w) (table_size n)) e

cell_below : (n r c : ℕ) → r < n + 1 → c < n → r * n + c < table_size n
cell_below n r c low col =
    let a : (r + 1) * n ≤ (n + 1) * n = mul-le-mul_right n (let q : r + 1 ≤ n + 1 = omega arith in q) in
    let b : (r + 1) * n ≡ r * n + 1 * n = add-mul r 1 n in
    let one_n : 1 * n ≡ n = omega arith in
    let s : r * n + c < r * n + 1 * n = omega arith in
    let t : r * n + c < (r + 1) * n = subst (λ (m : ℕ). r * n + c < m) (sym b) s in
    below t a
  where
    below : {x y z : ℕ} → x < y → y ≤ z → x < z
    below p q = omega arith

pub slot_below : (n : ℕ) (w : Where) → is_inside n w ≡ true → slot n w < table_size n
slot_below n w e = subst (λ (m : ℕ). m < table_size n) (sym (slot_in n w e)) (cell_below n (row w) (column w) (low_row n w e) (low_column n w e))

pub has_place : (n : ℕ) (w : Where) → slot n w < table_size n → is_inside n w ≡ true
has_place n w low =
    (elim (is_inside n w) as (λ b. is_inside n w ≡ b → b ≡ true) [
      | true ↦ λ e. refl
      | false ↦ λ e. absurd (irrefl (subst (λ (m : ℕ). m < table_size n) (slot_out n w e) low))
    ]) refl
  where
    irrefl : {x : ℕ} → x < x → ⊥
    irrefl p = omega arith

pub slot_row : (n : ℕ) (w : Where) → is_inside n w ≡ true → slot n w / n ≡ row w
slot_row n w e = ap (λ (m : ℕ). m / n) (slot_in n w e) ∙ div-mul-add (row w) n (column w) (low_column n w e)

pub slot_column : (n : ℕ) (w : Where) → is_inside n w ≡ true → slot n w % n ≡ column w
slot_column n w e = ap (λ (m : ℕ). m % n) (slot_in n w e) ∙ mod-mul-add (row w) n (column w) (low_column n w e)

pub same_slot : (n : ℕ) (v w : Where) → same_where w v ≡ true → slot n v ≡ slot n w
same_slot n v w e =
    ap (λ (r : ℕ). cond (ltb r (n + 1) && ltb (column v) n) (r * n + column v) (table_size n)) (row_same v w e)
    ∙ ap (λ (c : ℕ). cond (ltb (row w) (n + 1) && ltb c n) (row w * n + c) (table_size n)) (column_same v w e)

pub slot_same : (n : ℕ) (v w : Where) → is_inside n v ≡ true → slot n v ≡ slot n w → same_where w v ≡ true
slot_same n v w in_v e =
    let in_w : is_inside n w ≡ true = has_place n w (subst (λ (m : ℕ). m < table_size n) e (slot_below n v in_v)) in
    same_both v w
    (sym (slot_row n v in_v) ∙ ap (λ (m : ℕ). m / n) e ∙ slot_row n w in_w)
    (sym (slot_column n v in_v) ∙ ap (λ (m : ℕ). m % n) e ∙ slot_column n w in_w)

-- The place or the pair of a cell.

abbrev pub unslot : ℕ → ℕ → Where
unslot n i = cond (i / n == 0) (At (record { 0 = i % n })) (Travel (record { 0 = i / n - 1 }) (record { 0 = i % n }))

pub unslot_row : (n i : ℕ) → row (unslot n i) ≡ i / n
unslot_row n i =
    (elim (i / n == 0) as (λ b. i / n == 0 ≡ b → row (cond b (At (record { 0 = i % n })) (Travel (record { 0 = i / n - 1 }) (record { 0 = i % n }))) ≡ i / n) [
      | true ↦ λ e. sym (eqb-true (i / n) 0 e)
      | false ↦ λ e. back (i / n) (eqb-false (i / n) 0 e)
    ]) refl
  where
    back : (m : ℕ) → (m ≡ 0 → ⊥) → m - 1 + 1 ≡ m
    back zero h = absurd (h refl)
    back (suc m) h = omega arith

pub unslot_column : (n i : ℕ) → column (unslot n i) ≡ i % n
unslot_column n i = elim (i / n == 0) as (λ b. column (cond b (At (record { 0 = i % n })) (Travel (record { 0 = i / n - 1 }) (record { 0 = i % n }))) ≡ i % n) [ true ↦ refl | false ↦ refl ]

pub unslot_landing : (n i : ℕ) → (landing (unslot n i)).0 ≡ i % n
unslot_landing n i = elim (i / n == 0) as (λ b. (landing (cond b (At (record { 0 = i % n })) (Travel (record { 0 = i / n - 1 }) (record { 0 = i % n })))).0 ≡ i % n) [ true ↦ refl | false ↦ refl ]

-- a table with a cell is that of some place
pub some_place : (n i : ℕ) → i < table_size n → 0 < n
some_place zero i low = absurd (omega arith)
some_place (suc n) i low = omega arith

unslot_inside : (n i : ℕ) → i < table_size n → is_inside n (unslot n i) ≡ true
unslot_inside n i low =
    let pos : 0 < n = some_place n i low in
    and_from (ltb (row (unslot n i)) (n + 1)) (ltb (column (unslot n i)) n)
    (ap (λ (m : ℕ). ltb m (n + 1)) (unslot_row n i) ∙ lt-ltb (i / n) (n + 1) ((div-lt_iff_lt-mul {k = n} {x = i} {y = n + 1} pos).1 low))
    (ap (λ (m : ℕ). ltb m n) (unslot_column n i) ∙ lt-ltb (i % n) n (mod-lt i pos))

pub slot_of_unslot : (n i : ℕ) → i < table_size n → slot n (unslot n i) ≡ i
slot_of_unslot n i low =
    slot_in n (unslot n i) (unslot_inside n i low)
    ∙ ap (λ (r : ℕ). r * n + column (unslot n i)) (unslot_row n i)
    ∙ ap (λ (c : ℕ). i / n * n + c) (unslot_column n i)
    ∙ ap (λ (m : ℕ). m + i % n) (mul_comm (i / n) n)
    ∙ div-add-mod i n

-- What a death hits.

suc_eqb : (a b : ℕ) → (a + 1 == b + 1) ≡ (a == b)
suc_eqb a b =
    ⊎_elim
    (λ (e : a ≡ b). eq-eqb (a + 1) (b + 1) (omega arith) ∙ sym (eq-eqb a b e))
    (λ (e : a ≡ b → ⊥). ne_eqb (a + 1) (b + 1) (λ q. e (omega arith)) ∙ sym (ne_eqb a b e))
    (cases_eq a b)

hit_by : (d : PlaceId) (w : Where) → ((row w == d.0 + 1) || (column w == d.0)) ≡ is_hit d w
hit_by d (At p) = ap (λ b. b || (p.0 == d.0)) (ne_eqb 0 (d.0 + 1) (λ e. absurd (omega arith)))
hit_by d (Travel f t) = ap (λ b. b || (t.0 == d.0)) (suc_eqb f.0 d.0)

pub hits_slot : (d : PlaceId) (n : ℕ) (w : Where) → is_inside n w ≡ true → hits_cell n d.0 (slot n w) ≡ is_hit d w
hits_slot d n w e =
    ap (λ (r : ℕ). (r == d.0 + 1) || (slot n w % n == d.0)) (slot_row n w e)
    ∙ ap (λ (c : ℕ). (row w == d.0 + 1) || (c == d.0)) (slot_column n w e)
    ∙ hit_by d w

-- past the table there is nothing
pub none_out : (n : ℕ) (xs : List ℕ) (w : Where) → length xs ≡ table_size n → is_inside n w ≡ false → slice_index_or xs (slot n w) 0 ≡ 0
none_out n xs w len e = get_or_past xs (slot n w) 0 (le_same (len ∙ sym (slot_out n w e)))
  where
    le_same : {x y : ℕ} → x ≡ y → x ≤ y
    le_same p = omega arith

-- so what is above 0 has a cell
pub cell_of : (n : ℕ) (xs : List ℕ) (w : Where) → length xs ≡ table_size n → 0 < slice_index_or xs (slot n w) 0 → is_inside n w ≡ true
cell_of n xs w len pos =
    (elim (is_inside n w) as (λ b. is_inside n w ≡ b → b ≡ true) [
      | true ↦ λ e. refl
      | false ↦ λ e. let z = none_out n xs w len e in absurd (omega arith)
    ]) refl
