-- The rows of the tree against the history.
use Rattle.std.proofs.Common.{◌≡◌, ◌≢◌, ℕ, zero, suc, ◌<◌, ◌≤◌, Bool, true, false, cond, ◌==◌, List, [], ◌∷◌, ◌++◌, length, filter, slice_get, Some, None, refl, ap, ◌∙◌, sym, subst, arith}
use Rattle.std.specs.List.{find}
use Rattle.std.proofs.lemmas.Bool.{eq-eqb, eqb-true, true≢false}
use Rattle.std.proofs.lemmas.List.Folds.{list_any-append}
use Rattle.rx_rules.proofs.Common.{TaskId, is_task, change_first, Moves, Birth, birth_of, moves_from, death_number}
use Rattle.rx_rules.specs.declared.tasks.Where.{Where}
use Rattle.rx_rules.specs.declared.tasks.Where.TheVariants.{At, Travel}
use Rattle.rx_rules.specs.declared.entries.Act.{Act}
use Rattle.rx_rules.specs.declared.entries.Entry.{Entry}
use Rattle.rx_rules.specs.declared.tasks.Task.{Task}
use Rattle.rx_runs.specs.Ties.{is_end, has_end, HasLanded, PlaceSo, RowSo, RowsSo}
use Rattle.rx_runs.proofs.Told.{Told}

pub rows-up : (n m : ℕ) (es : List Entry) (xs : List Task) → n ≤ m → RowsSo n es xs → RowsSo m es xs
rows-up n m es [] le h = tt
rows-up n m es (x ∷ xs) le h = (let low : x.number.0 < n = h.0 in omega arith, h.1, h.2)

pub rows-on : (n : ℕ) (es more : List Entry) (xs : List Task) → ((k : ℕ) (w : Where) → k < n → RowSo es k w → RowSo more k w) → RowsSo n es xs → RowsSo n more xs
rows-on n es more [] f h = tt
rows-on n es more (x ∷ xs) f h =
    let low : x.number.0 < n = h.0 in
    (h.0, λ e. f x.number.0 x.place low (h.1 e), rows-on x.number.0 es more xs (λ k w l r. f k w (omega arith) r) h.2)

pub rows-filter : (test : Task → Bool) (n : ℕ) (es : List Entry) (xs : List Task) → RowsSo n es xs → RowsSo n es (filter test xs)
rows-filter test n es [] h = tt
rows-filter test n es (x ∷ xs) h = step (test x) refl (rows-filter test x.number.0 es xs h.2) where
  step : (b : Bool) → test x ≡ b → RowsSo x.number.0 es (filter test xs) → RowsSo n es (filter test (x ∷ xs))
  step true e more = rw e (h.0, h.1, more)
  step false e more = rw e (let low : x.number.0 < n = h.0 in rows-up x.number.0 n es (filter test xs) (omega arith) more)

pub rows-change : (t : TaskId) (f : Task → Task) → ((x : Task) → (f x).number ≡ x.number) → ((x : Task) → (f x).place ≡ x.place) → ((x : Task) → (f x).struck ≡ x.struck) → (n : ℕ) (es : List Entry) (xs : List Task) → RowsSo n es xs → RowsSo n es (change_first (is_task t) f xs)
rows-change t f same place struck n es [] h = tt
rows-change t f same place struck n es (x ∷ xs) h = step (is_task t x) refl (rows-change t f same place struck x.number.0 es xs h.2) where
  step : (b : Bool) → is_task t x ≡ b → RowsSo x.number.0 es (change_first (is_task t) f xs) → RowsSo n es (change_first (is_task t) f (x ∷ xs))
  step true e more =
      rw e (
        subst (λ (k : TaskId). k.0 < n) (sym (same x)) h.0,
        λ u. subst (λ (k : TaskId). RowSo es k.0 (f x).place) (sym (same x)) (subst (λ (w : Where). RowSo es x.number.0 w) (sym (place x)) (h.1 (sym (struck x) ∙ u))),
        subst (λ (k : TaskId). RowsSo k.0 es xs) (sym (same x)) h.2,
      )
  step false e more = rw e (h.0, h.1, more)

-- the row that a search finds
pub row-found : (t : TaskId) (x : Task) (n : ℕ) (es : List Entry) (xs : List Task) → find (is_task t) xs ≡ Some x → x.struck ≡ None → RowsSo n es xs → (t.0 < n) × RowSo es t.0 x.place
row-found t x n es [] e u h = cc
row-found t x n es (y ∷ ys) e u h = step (is_task t y) refl (λ f. row-found t x y.number.0 es ys f u h.2) e where
  step : (b : Bool) → is_task t y ≡ b → (find (is_task t) ys ≡ Some x → (t.0 < y.number.0) × RowSo es t.0 x.place) → cond b (Some y) (find (is_task t) ys) ≡ Some x → (t.0 < n) × RowSo es t.0 x.place
  step true k rest e =
      let same : y ≡ x = cc in
      let it : y.number.0 ≡ t.0 = eqb-true y.number.0 t.0 k in
      let r : RowSo es y.number.0 y.place = h.1 (ap (λ (z : Task). z.struck) same ∙ u) in
      let low : y.number.0 < n = h.0 in
      (omega arith, subst (λ (i : ℕ). RowSo es i x.place) it (subst (λ (z : Task). RowSo es y.number.0 z.place) same r))
  step false k rest e =
      let more = rest e in
      let low : y.number.0 < n = h.0 in
      let less : t.0 < y.number.0 = more.0 in
      (omega arith, more.1)

pub row-at : (i : ℕ) (x : Task) (n : ℕ) (es : List Entry) (xs : List Task) → slice_get xs i ≡ Some x → x.struck ≡ None → RowsSo n es xs → (x.number.0 < n) × RowSo es x.number.0 x.place
row-at i x n es [] e u h = cc
row-at zero x n es (y ∷ ys) e u h =
    let same : y ≡ x = cc in
    subst (λ (z : Task). (z.number.0 < n) × RowSo es z.number.0 z.place) same (h.0, h.1 (ap (λ (z : Task). z.struck) same ∙ u))
row-at (suc i) x n es (y ∷ ys) e u h =
    let more = row-at i x y.number.0 es ys e u h.2 in
    let low : y.number.0 < n = h.0 in
    let less : x.number.0 < y.number.0 = more.0 in
    (omega arith, more.1)

-- one row

pub row_as : (es more : List Entry) (k : ℕ) (w : Where) → birth_of more k ≡ birth_of es k → moves_from 0 more k ≡ moves_from 0 es k → death_number 0 (birth_of es k).to more ≡ death_number 0 (birth_of es k).to es → RowSo es k w → RowSo more k w
row_as es more k w b m d r =
    record {
      place = subst (λ (v : Birth). PlaceSo v (moves_from 0 more k) w) (sym b) (subst (λ (v : Moves). PlaceSo (birth_of es k) v w) (sym m) r.place);
      going = ap has_end m ∙ r.going;
      lives = ap (λ (v : Birth). death_number 0 v.to more) b ∙ d ∙ r.lives;
    }

pub landed-more : (b : Birth) (moves : Moves) (m : ℕ × Act × List (List ℕ)) → HasLanded b (moves ++ m ∷ [])
landed-more b [] m = tt
landed-more b (v ∷ moves) m = tt

place-more : (b : Birth) (moves : Moves) (m : ℕ × Act × List (List ℕ)) (w : Where) → HasLanded b moves → PlaceSo b moves w → PlaceSo b (moves ++ m ∷ []) w
place-more b moves m (At p) l h = (h.0, landed-more b moves m)
place-more b moves m (Travel from p) l h =
    absurd (let no_move : HasLanded b [] = subst (λ (v : Moves). HasLanded b v) h.2 l in true≢false (sym h.1 ∙ no_move))

pub row_more : (size : ℕ) (es more : List Entry) (t : TaskId) (act : Act) (batch : List (List ℕ)) → Told size es more t act batch → is_end (length es, act, batch) ≡ false → t.0 < size → HasLanded (birth_of es t.0) (moves_from 0 es t.0) → (w : Where) → RowSo es t.0 w → RowSo more t.0 w
row_more size es more t act batch d e low l w r =
    record {
      place =
          subst (λ (v : Birth). PlaceSo v (moves_from 0 more t.0) w) (sym (d.births t.0 low))
          (subst (λ (v : Moves). PlaceSo (birth_of es t.0) v w) (sym d.own) (place-more (birth_of es t.0) (moves_from 0 es t.0) (length es, act, batch) w l r.place));
      going = ap has_end d.own ∙ list_any-append is_end (moves_from 0 es t.0) ((length es, act, batch) ∷ []) ∙ rw (r.going, e) refl;
      lives = ap (λ (v : Birth). death_number 0 v.to more) (d.births t.0 low) ∙ d.deaths (birth_of es t.0).to ∙ r.lives;
    }

pub row_other : (size : ℕ) (es more : List Entry) (t : TaskId) (act : Act) (batch : List (List ℕ)) → Told size es more t act batch → (k : ℕ) (w : Where) → k < size → t.0 ≢ k → RowSo es k w → RowSo more k w
row_other size es more t act batch d k w low o r = row_as es more k w (d.births k low) (d.moves k o) (d.deaths (birth_of es k).to) r

pub row_any : (size : ℕ) (es more : List Entry) (t : TaskId) (act : Act) (batch : List (List ℕ)) → Told size es more t act batch → is_end (length es, act, batch) ≡ false → t.0 < size → HasLanded (birth_of es t.0) (moves_from 0 es t.0) → (k : ℕ) (w : Where) → k < size → RowSo es k w → RowSo more k w
row_any size es more t act batch d e low l k w less r = step (t.0 == k) refl where
  step : (b : Bool) → (t.0 == k) ≡ b → RowSo more k w
  step true h =
      let same : t.0 ≡ k = eqb-true t.0 k h in
      subst (λ (i : ℕ). RowSo more i w) same (row_more size es more t act batch d e low l w (subst (λ (i : ℕ). RowSo es i w) (sym same) r))
  step false h = row_other size es more t act batch d k w less (λ v. true≢false (sym (eq-eqb t.0 k v) ∙ h)) r
