-- The positions of a journal's events, from its end on.
use Rattle.std.proofs.Common.{◌≡◌, ℕ, zero, suc, ◌+◌, ◌<◌, ◌≤◌, ◌==◌, Bool, true, false, cond, List, [], ◌∷◌, ◌++◌, ◌⊎◌, drop, length, replicate, Option, Some, None, slice_get, slice_index_or, slice_set, refl, ap, sym, ◌∙◌, subst, arith, inl, inr}
use Rattle.std.specs.List.{filter_map, cons_option}
use Rattle.std.proofs.lemmas.Bool.{eq-eqb, eqb-true, cases_eq}
use Rattle.std.proofs.lemmas.Bool.Decides.{leb_tells}
use Rattle.std.proofs.lemmas.Option.{slice_get_within, slice_get_past}
use Rattle.std.proofs.lemmas.List.{length-set, get_or-set_same, get_or-set_other, get_or-replicate, get_or_past, length-replicate}
use Rattle.rx_rules.proofs.Common.{TaskId, cell_of, journal_at}
use Rattle.rx_base.proofs.Elements.{get-within}
use Rattle.rx_rules.specs.declared.events.Cell.{Cell}
use Rattle.rx_rules.specs.declared.events.PlaceEvent.{PlaceEvent}
use Rattle.rx_rules.specs.declared.events.PlaceEvent.TheVariants.{Done, Close}
use Rattle.rx_verify.specs.Events.{IsFirst, IsOf}
use Rattle.rx_verify.specs.declared.table.EventTable.{EventTable}
use Rattle.rx_verify.specs.declared.table.Row.{Row}
use Rattle.rx_verify.specs.Table.{TableIs, row_first, row_after}
use Rattle.rx_verify.specs.Inside.Rows.{RowFrom, RowIs}
use Rattle.rx_verify.proofs.Following.{past_event, none_past}
use Rattle.rx_runs.proofs.Pairs.{journal_got}

-- an event of another task
other_task : (t : ℕ) (u : TaskId) (stamp : ℕ) (cell : Cell) (path : List ℕ) → (u.0 ≡ t → ⊥) → cell_of t (Done u stamp cell path) ≡ None
other_task t u stamp cell path apart = by (u.0 == t) refl where
  by : (b : Bool) → (u.0 == t) ≡ b → ◌≡◌ {A = Option (ℕ × Cell × List ℕ)} (cond b (Some (stamp, cell, path)) None) None
  by true same = absurd (apart (eqb-true u.0 t same))
  by false same = refl

-- the first event from a position on

pub first_here : (t : ℕ) (j : List PlaceEvent) (e : ℕ) → IsOf t j e → IsFirst t j e e
first_here t j e is = record { here = inr is; same = refl }

pub first_at_end : (t : ℕ) (j : List PlaceEvent) → IsFirst t j (length j) (length j)
first_at_end t j = record { here = inl refl; same = refl }

-- it is the first from its own position on too
pub first_again : (t : ℕ) (j : List PlaceEvent) (from e : ℕ) → IsFirst t j from e → IsFirst t j e e
first_again t j from e f = record { here = f.here; same = refl }

first_passed : (t : ℕ) (j : List PlaceEvent) (p q v : ℕ) (x : PlaceEvent) → slice_get j q ≡ Some x → cell_of t x ≡ None → p ≡ suc q → IsFirst t j p v → IsFirst t j q v
first_passed t j p q v x at none next f =
    record {
      here = f.here;
      same = f.same
          ∙ (ap (λ (n : ℕ). filter_map (cell_of t) (drop n j)) next
          ∙ sym (past_event t j q x at ∙ ap (λ (o : Option (ℕ × Cell × List ℕ)). cons_option o (filter_map (cell_of t) (drop (suc q) j))) none));
    }

-- the event is that of the task which is told
pub told_of : (t : ℕ) (j : List PlaceEvent) (e : ℕ) (u : TaskId) (stamp : ℕ) (cell : Cell) (path : List ℕ) → slice_get j e ≡ Some (Done u stamp cell path) → IsOf t j e → u.0 ≡ t
told_of t j e u stamp cell path at is =
    let both : Some (Done u stamp cell path) ≡ Some (Done (record { 0 = t }) is.0 is.1 is.2) = sym at ∙ is.3 in
    let same : u ≡ record { 0 = t } = cc in
    ap (λ (v : TaskId). v.0) same

-- The row.

pub row_at_end : (j : List PlaceEvent) (tasks width : ℕ) → RowFrom j tasks (length j) (replicate width (length j)) (replicate (length j) (length j))
row_at_end j tasks width =
    record {
      size = length-replicate (length j) (length j);
      first = λ t lt. subst (λ (v : ℕ). IsFirst t j (length j) v) (sym (blank t)) (first_at_end t j);
      next = λ t e le lt is. absurd (let below = slice_get_within j e _ is.3 in omega (arith, below, le));
    }
  where
    blank : (t : ℕ) → slice_index_or (replicate width (length j)) t (length j) ≡ length j
    blank t = elim (leb_tells width t) [
      | inl h ↦ get_or_past (replicate width (length j)) t (length j) (let size = length-replicate width (length j) in omega (arith, size, h.1))
      | inr h ↦ get_or-replicate width t (length j) (length j) (omega (arith, h.1))
    ]

-- one position earlier, where no task below the number has its event
pub row_passed : (j : List PlaceEvent) (tasks p q : ℕ) (firsts nexts : List ℕ) (x : PlaceEvent) → slice_get j q ≡ Some x → p ≡ suc q → ((t : ℕ) → t < tasks → cell_of t x ≡ None) → RowFrom j tasks p firsts nexts → RowFrom j tasks q firsts nexts
row_passed j tasks p q firsts nexts x at next none row =
    record {
      size = row.size;
      first = λ t lt. first_passed t j p q (slice_index_or firsts t (length j)) x at (none t lt) next (row.first t lt);
      next = later;
    }
  where
    later : (t e : ℕ) → q ≤ e → t < tasks → IsOf t j e → IsFirst t j (suc e) (slice_index_or nexts e (length j))
    later t e le lt is = elim (cases_eq e q) [
      | inl same ↦ absurd (here (subst (λ (n : ℕ). IsOf t j n) same is))
      | inr apart ↦ row.next t e (omega (arith, le, apart, next)) lt is
    ] where
      here : IsOf t j q → ⊥
      here told =
          let both : x ≡ Done (record { 0 = t }) told.0 told.1 told.2 = (let two : Some x ≡ Some (Done (record { 0 = t }) told.0 told.1 told.2) = sym at ∙ told.3 in cc) in
          let some : cell_of t x ≡ Some (told.0, told.1, told.2) = ap (λ (v : PlaceEvent). cell_of t v) both ∙ ap (λ (b : Bool). cond b (Some (told.0, told.1, told.2)) None) (eq-eqb t t refl) in
          let off : cell_of t x ≡ None = none t lt in
          cc

-- one position earlier, where a task that counts has its event
pub row_more : (j : List PlaceEvent) (tasks p q v : ℕ) (firsts nexts : List ℕ) (u : TaskId) (stamp : ℕ) (cell : Cell) (path : List ℕ) → slice_get j q ≡ Some (Done u stamp cell path) → p ≡ suc q → u.0 < length firsts → v ≡ slice_index_or firsts u.0 (length j) → RowFrom j tasks p firsts nexts → RowFrom j tasks q (slice_set firsts u.0 q) (slice_set nexts q v)
row_more j tasks p q v firsts nexts u stamp cell path at next within was row =
    record { size = length-set nexts q v ∙ row.size; first = first; next = later }
  where
    first : (t : ℕ) → t < tasks → IsFirst t j q (slice_index_or (slice_set firsts u.0 q) t (length j))
    first t lt = elim (cases_eq t u.0) [
      | inl same ↦
          let value : slice_index_or (slice_set firsts u.0 q) t (length j) ≡ q = ap (λ (n : ℕ). slice_index_or (slice_set firsts u.0 q) n (length j)) same ∙ get_or-set_same firsts u.0 q (length j) within in
          subst (λ (n : ℕ). IsFirst t j q n) (sym value) (first_here t j q (subst (λ (n : ℕ). IsOf n j q) (sym same) (stamp, cell, path, at)))
      | inr apart ↦
          subst (λ (n : ℕ). IsFirst t j q n) (sym (get_or-set_other firsts u.0 t q (length j) apart))
          (first_passed t j p q (slice_index_or firsts t (length j)) _ at (other_task t u stamp cell path (λ e. apart (sym e))) next (row.first t lt))
    ]

    later : (t e : ℕ) → q ≤ e → t < tasks → IsOf t j e → IsFirst t j (suc e) (slice_index_or (slice_set nexts q v) e (length j))
    later t e le lt is = elim (cases_eq e q) [
      | inl same ↦
          let mine : u.0 ≡ t = told_of t j q u stamp cell path at (subst (λ (n : ℕ). IsOf t j n) same is) in
          let below : q < length nexts = (let a = slice_get_within j q _ at in let b = row.size in omega (arith, a, b)) in
          let value : slice_index_or (slice_set nexts q v) e (length j) ≡ slice_index_or firsts t (length j) =
          ap (λ (n : ℕ). slice_index_or (slice_set nexts q v) n (length j)) same
          ∙ (get_or-set_same nexts q v (length j) below ∙ (was ∙ ap (λ (n : ℕ). slice_index_or firsts n (length j)) mine)) in
          subst (λ (n : ℕ). IsFirst t j (suc e) n) (sym value)
          (subst (λ (n : ℕ). IsFirst t j n (slice_index_or firsts t (length j))) (next ∙ ap suc (sym same)) (row.first t lt))
      | inr apart ↦
          subst (λ (n : ℕ). IsFirst t j (suc e) n) (sym (get_or-set_other nexts q e v (length j) apart)) (row.next t e (omega (arith, le, apart, next)) lt is)
    ]

-- a task with no room for its first event is not below the number
pub none_counts : (j : List PlaceEvent) (tasks q room : ℕ) (u : TaskId) (stamp : ℕ) (cell : Cell) (path : List ℕ) → slice_get j q ≡ Some (Done u stamp cell path) → ((t e : ℕ) → t < tasks → IsOf t j e → t < room) → room ≤ u.0 → (t : ℕ) → t < tasks → cell_of t (Done u stamp cell path) ≡ None
none_counts j tasks q room u stamp cell path at enough out t lt =
    other_task t u stamp cell path (λ same. let there = enough t q lt (subst (λ (n : ℕ). IsOf n j q) same (stamp, cell, path, at)) in omega (arith, there, out, same))

-- Room for the tasks that have events.

pub enough_more : (j : List PlaceEvent) (tasks k n m : ℕ) → ((t e : ℕ) → e < k → t < tasks → IsOf t j e → t < n) → n ≤ m → ((t : ℕ) → t < tasks → IsOf t j k → t < m) → (t e : ℕ) → e < k + 1 → t < tasks → IsOf t j e → t < m
enough_more j tasks k n m before le here t e below lt is = elim (cases_eq e k) [
  | inl same ↦ here t lt (subst (λ (i : ℕ). IsOf t j i) same is)
  | inr apart ↦ (let there = before t e (omega (arith, below, apart)) lt is in omega (arith, there, le))
]

pub task_there : (j : List PlaceEvent) (k t : ℕ) (x : PlaceEvent) (u : TaskId) (stamp : ℕ) (cell : Cell) (path : List ℕ) → slice_get j k ≡ Some x → x ≡ Done u stamp cell path → IsOf t j k → u.0 ≡ t
task_there j k t x u stamp cell path at is there = told_of t j k u stamp cell path (at ∙ ap (λ (v : PlaceEvent). Some v) is) there

pub no_task_there : (j : List PlaceEvent) (k t stamp : ℕ) (x : PlaceEvent) → slice_get j k ≡ Some x → x ≡ Close stamp → IsOf t j k → ⊥
no_task_there j k t stamp x at is there =
    let both : Some (Close stamp) ≡ Some (Done (record { 0 = t }) there.0 there.1 there.2) = sym (at ∙ ap (λ (v : PlaceEvent). Some v) is) ∙ there.3 in
    cc

-- The table.

-- an element of a list with one more is the last, or was there before
last_or_before : (rows : List Row) (row one : Row) (p : ℕ) → slice_get (rows ++ row ∷ []) p ≡ Some one → ((p ≡ length rows) × (row ≡ one)) ⊎ (slice_get rows p ≡ Some one)
last_or_before [] row one zero h = inl (refl, (let same : row ≡ one = cc in same))
last_or_before [] row one (suc p) h = absurd (let f : ⊥ = cc in f)
last_or_before (r ∷ rows) row one zero h = inr h
last_or_before (r ∷ rows) row one (suc p) h = elim (last_or_before rows row one p h) [ inl k ↦ inl (ap suc k.0, k.1) | inr k ↦ inr k ]

-- each row so far is that of its journal
abbrev pub RowsAre : List (List PlaceEvent) → ℕ → List Row → Type 0
RowsAre js tasks rows = (p : ℕ) (row : Row) → slice_get rows p ≡ Some row → RowIs (journal_at js p) tasks row

pub rows_more : (js : List (List PlaceEvent)) (tasks : ℕ) (rows : List Row) (j : List PlaceEvent) (row : Row) → RowsAre js tasks rows → slice_get js (length rows) ≡ Some j → RowIs j tasks row → RowsAre js tasks (rows ++ row ∷ [])
rows_more js tasks rows j row before at is p one there = by (last_or_before rows row one p there) where
  by : ((p ≡ length rows) × (row ≡ one)) ⊎ (slice_get rows p ≡ Some one) → RowIs (journal_at js p) tasks one
  by (inr h) = before p one h
  by (inl h) =
      let here : journal_at js p ≡ j = journal_got js p j (ap (λ (n : ℕ). slice_get js n) h.0 ∙ at) in
      subst (λ (k : List PlaceEvent). RowIs k tasks one) (sym here) (subst (λ (r : Row). RowIs j tasks r) h.1 is)

-- no journal, and no row
pub nothing_there : (js : List (List PlaceEvent)) (t p from : ℕ) → length js ≤ p → IsFirst t (journal_at js p) from 0
nothing_there js t p from out =
    let none : journal_at js p ≡ [] = ap (λ (o : Option (List PlaceEvent)). elim o [ Some j ↦ j | None ↦ [] ]) (slice_get_past js p out) in
    subst (λ (j : List PlaceEvent). IsFirst t j from 0) (sym none) (record { here = inl refl; same = sym (none_past t [] from (omega arith)) })

pub table_is : (js : List (List PlaceEvent)) (tasks : ℕ) (table : EventTable) → length table.rows.items ≡ length js → RowsAre js tasks table.rows.items → TableIs js tasks table
table_is js tasks table size are =
    record {
      first = λ p t lt. first p t lt (slice_get table.rows.items p) refl;
      after = λ p e t stamp cell path lt at. after p e t lt (stamp, cell, path, at) (slice_get table.rows.items p) refl;
    }
  where
    outside : (p : ℕ) → slice_get table.rows.items p ≡ None → length js ≤ p
    outside p none = elim (leb_tells (length js) p) [
      | inl h ↦ h.1
      | inr h ↦ absurd (let there = get-within table.rows.items p (omega (arith, h.1, size)) in let off : None ≡ Some there.0 = sym none ∙ there.1 in cc)
    ]

    first : (p t : ℕ) → t < tasks → (o : Option Row) → slice_get table.rows.items p ≡ o → IsFirst t (journal_at js p) 0 (row_first o t)
    first p t lt None at = nothing_there js t p 0 (outside p at)
    first p t lt (Some row) at =
        let row_is = are p row at in
        subst (λ (n : ℕ). IsFirst t (journal_at js p) 0 (slice_index_or row.first.items t n)) (sym row_is.size) (row_is.first t lt)

    after : (p e t : ℕ) → t < tasks → IsOf t (journal_at js p) e → (o : Option Row) → slice_get table.rows.items p ≡ o → IsFirst t (journal_at js p) (suc e) (row_after o e)
    after p e t lt is None at = nothing_there js t p (suc e) (outside p at)
    after p e t lt is (Some row) at =
        let row_is = are p row at in
        subst (λ (n : ℕ). IsFirst t (journal_at js p) (suc e) (slice_index_or row.next.items e n)) (sym row_is.size) (row_is.next t e (omega arith) lt is)
