-- Marks, one after the other.
use Rattle.std.proofs.Common.{◌≡◌, ◌≢◌, ℕ, zero, suc, ◌<◌, Bool, true, false, ◌&&◌, ◌||◌, ◌==◌, List, [], ◌∷◌, replicate, length, slice_index_or, slice_set, refl, ap, sym, ◌∙◌, arith}
use Rattle.std.proofs.lemmas.Bool.{eqb-true, eq-eqb, true≢false}
use Rattle.std.proofs.lemmas.List.{get_or-set_same, get_or-set_other}
use Rattle.rx_base.proofs.Elements.{length-set}
use Rattle.rx_rules.specs.declared.events.PlaceEvent.{PlaceEvent}
use Rattle.rx_rules.proofs.Common.{journal_at}
use Rattle.rx_verdict.specs.Marked.{row_at, marked, no_marks, with_mark, NoMarks, OneMark}

-- No marks.

long-replicate : (n : ℕ) → length (replicate n false) ≡ n
long-replicate zero = refl
long-replicate (suc n) = ap suc (long-replicate n)

nothing_in : (n e : ℕ) → slice_index_or (replicate n false) e false ≡ false
nothing_in zero e = refl
nothing_in (suc n) zero = refl
nothing_in (suc n) (suc e) = nothing_in n e

rows-none : (js : List (List PlaceEvent)) → length (no_marks js) ≡ length js
rows-none [] = refl
rows-none (j ∷ js) = ap suc (rows-none js)

row-none : (js : List (List PlaceEvent)) (p : ℕ) → row_at (no_marks js) p ≡ replicate (length (journal_at js p)) false
row-none [] p = refl
row-none (j ∷ js) zero = refl
row-none (j ∷ js) (suc p) = row-none js p

pub marks_begin_empty : NoMarks
marks_begin_empty js = (
  record { rows = rows-none js; events = λ p. ap length (row-none js p) ∙ long-replicate (length (journal_at js p)) },
  λ p e. ap (λ (r : List Bool). slice_index_or r e false) (row-none js p) ∙ nothing_in (length (journal_at js p)) e,
)

-- One mark more.

-- a place with events has a journal
pub has_journal : (js : List (List PlaceEvent)) (p e : ℕ) → e < length (journal_at js p) → p < length js
has_journal [] p e l = absurd (omega arith)
has_journal (j ∷ js) zero e l = omega arith
has_journal (j ∷ js) (suc p) e l = let r = has_journal js p e l in omega arith

module _ (ms : List (List Bool)) (p e : ℕ) (in_rows : p < length ms) (in_row : e < length (row_at ms p)) where
  row-same : row_at (with_mark ms p e) p ≡ slice_set (row_at ms p) e true
  row-same = get_or-set_same ms p (slice_set (row_at ms p) e true) [] in_rows

  row-other : (q : ℕ) → q ≢ p → row_at (with_mark ms p e) q ≡ row_at ms q
  row-other q o = get_or-set_other ms p q (slice_set (row_at ms p) e true) [] o

  row-long : (q : ℕ) (b : Bool) → (q == p) ≡ b → length (row_at (with_mark ms p e) q) ≡ length (row_at ms q)
  row-long q true is =
      let same : q ≡ p = eqb-true q p is in
      ap (λ n. length (row_at (with_mark ms p e) n)) same ∙ (ap length row-same ∙ (length-set (row_at ms p) e true ∙ ap (λ n. length (row_at ms n)) (sym same)))
  row-long q false is = ap length (row-other q (λ v. true≢false (sym (eq-eqb q p v) ∙ is)))

  one : (q f : ℕ) (b : Bool) → (q == p) ≡ b → (d : Bool) → (f == e) ≡ d → marked (with_mark ms p e) q f ≡ ((b && d) || marked ms q f)
  one q f true is true at =
      ap (λ n. marked (with_mark ms p e) n f) (eqb-true q p is) ∙ (ap (λ (r : List Bool). slice_index_or r f false) row-same
      ∙ (ap (λ n. slice_index_or (slice_set (row_at ms p) e true) n false) (eqb-true f e at) ∙ get_or-set_same (row_at ms p) e true false in_row))
  one q f true is false at =
      let same : q ≡ p = eqb-true q p is in
      ap (λ n. marked (with_mark ms p e) n f) same ∙ (ap (λ (r : List Bool). slice_index_or r f false) row-same
      ∙ (get_or-set_other (row_at ms p) e f true false (λ v. true≢false (sym (eq-eqb f e v) ∙ at)) ∙ ap (λ n. marked ms n f) (sym same)))
  one q f false is d at = ap (λ (r : List Bool). slice_index_or r f false) (row-other q (λ v. true≢false (sym (eq-eqb q p v) ∙ is)))

pub marks_are_added : OneMark
marks_are_added js ms p e h l =
    let in_rows : p < length ms = let r = has_journal js p e l in omega (arith, h.rows) in
    let in_row : e < length (row_at ms p) = omega (arith, h.events p) in (
      record {
        rows = length-set ms p (slice_set (row_at ms p) e true) ∙ h.rows;
        events = λ q. row-long ms p e in_rows in_row q (q == p) refl ∙ h.events q;
      },
      λ q f. one ms p e in_rows in_row q f (q == p) refl (f == e) refl,
    )
