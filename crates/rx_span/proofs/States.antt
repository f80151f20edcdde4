-- How the table goes from one path to the one before it.
use Rattle.std.proofs.Common.{◌≡◌, ◌⊎◌, ℕ, zero, suc, ◌+◌, ◌<◌, ◌≤◌, min, Bool, true, false, ◌&&◌, ◌==◌, nat_le, List, [], ◌∷◌, length, filter, take, drop, refl, ap, sym, subst, ◌∙◌, arith, inl, inr, add-zero, length-drop}
use Rattle.std.proofs.lemmas.Bool.{cond-true, cond-false, eq-eqb, ne_eqb, le-leb, lt-leb, cases_lt, cases_eq}
use Rattle.rx_rules.proofs.Common.{Block}
use Rattle.rx_order.specs.Marks.{marks_of}
use Rattle.rx_span.specs.declared.chains.Kept.{Kept}
use Rattle.rx_span.specs.Paths.{IsPath, ComesBefore}
use Rattle.rx_span.specs.Inside.Sorting.{shared}
use Rattle.rx_span.specs.Inside.Best.{may_lead, better, pick, best_chains}
use Rattle.rx_span.specs.Inside.Kept.{better_kept, leads, follow, past, IsKept}
use Rattle.rx_span.proofs.Picks.{Chain, Each, each-map, each-all, filter-same, NeverRises}
use Rattle.rx_span.proofs.Sharing.{shared-left, shared-right, shared-min, marks_of-all, before-leads}
use Rattle.rx_span.proofs.Lists.{All, Ascends}
use Rattle.rx_span.proofs.Rows.{kept-more, kept-is, kept-better, Rows, led, follow-is, past-is, Table}

abbrev pub head_of : Chain → List ℕ
head_of [] = []
head_of (x ∷ c) = x

-- how far x goes with the first statement of a chain
abbrev pub with_head : List ℕ → Chain → ℕ
with_head x c = shared x (head_of c)

-- the table before x is passed, which comes before each statement of S
pub record State (code : Block) (x : List ℕ) (S : List (List ℕ)) (rows : List Kept) (from : ℕ) (passed : Kept) : Type 0 where
  pub few : Each (λ c. with_head x c ≤ from) (best_chains code S)
  pub each : Rows (best_chains code S) (with_head x) 0 (take from rows)
  pub best : IsKept (best_chains code S) passed (pick (filter (λ c. with_head x c == from) (best_chains code S)))

each-heads : (code : Block) (P : List ℕ → Type 0) (S : List (List ℕ)) → All P S → Each (λ c. P (head_of c)) (best_chains code S)
each-heads code P [] h = tt
each-heads code P (x ∷ S) h = (h.0, each-heads code P S h.1)

pub never-rises : (code : Block) (x : List ℕ) (S : List (List ℕ)) → All (ComesBefore x) S → Ascends S → NeverRises (with_head x) (best_chains code S)
never-rises code x [] h a = tt
never-rises code x (y ∷ S) h a = (
  each-map (λ c. ComesBefore y (head_of c)) (λ c. with_head x c ≤ shared x y) (λ c k. (let e = shared-min x y (head_of c) h.0 k in omega arith)) (best_chains code S) (each-heads code (ComesBefore y) S a.0),
  never-rises code x S h.1 a.1,
)

may-leads : (code : Block) (x : List ℕ) (S : List (List ℕ)) → IsPath code x → All (ComesBefore x) S → All (IsPath code) S → Each (λ c. may_lead code x c ≡ leads (drop (with_head x c) (marks_of code x))) (best_chains code S)
may-leads code x [] p h n = tt
may-leads code x (y ∷ S) p h n = (before-leads code x y p n.0 h.0, may-leads code x S p h.1 n.1)

and_true : (b : Bool) → (b && true) ≡ b
and_true true = refl
and_true false = refl

-- what follows x in its best chain
pub follows-is : (code : Block) (x : List ℕ) (S : List (List ℕ)) (rows : List Kept) (inside : Kept) → IsPath code x → All (ComesBefore x) S → Ascends S → All (IsPath code) S → Table (best_chains code S) (with_head x) (length x) rows inside → IsKept (best_chains code S) (follow (marks_of code x) rows) (pick (filter (may_lead code x) (best_chains code S)))
follows-is code x S rows inside p h a n t =
    let cs = best_chains code S in
    let M = marks_of code x in
    let l : length M ≡ length rows = marks_of-all code x p ∙ sym t.long in
    let few : Each (λ c. with_head x c ≤ 0 + length rows) cs = each-all (λ c. with_head x c ≤ 0 + length rows) (λ c. (let e = shared-left x (head_of c) in let g = t.long in omega arith)) cs in
    let same : Each (λ c. led M (with_head x) 0 c ≡ may_lead code x c) cs =
    each-map (λ c. may_lead code x c ≡ leads (drop (with_head x c) M)) (λ c. led M (with_head x) 0 c ≡ may_lead code x c)
    (λ c e. ap (λ b. leads (drop (with_head x c) M) && b) (le-leb 0 (with_head x c) (omega arith)) ∙ and_true (leads (drop (with_head x c) M)) ∙ sym e) cs (may-leads code x S p h n) in
    kept-is cs (follow M rows) (pick (filter (led M (with_head x) 0) cs)) (pick (filter (may_lead code x) cs)) (ap pick (filter-same (led M (with_head x) 0) (may_lead code x) cs same))
    (follow-is cs (with_head x) M (never-rises code x S h a) rows 0 M refl l few t.each)

rows-drop : (cs : List Chain) (f : Chain → ℕ) (d n : ℕ) (rows : List Kept) → Rows cs f d rows → Rows cs f (d + n) (drop n rows)
rows-drop cs f d zero rows h = subst (λ m. Rows cs f m rows) (sym (add-zero d)) h
rows-drop cs f d (suc n) [] h = tt
rows-drop cs f d (suc n) (r ∷ rs) h = let e : suc d + n ≡ d + suc n = omega arith in subst (λ m. Rows cs f m (drop n rs)) e (rows-drop cs f (suc d) n rs h.1)

-- The chains of the next path, from those of this one. It goes with this one for p numbers.
module _ (cs : List Chain) (f g : Chain → ℕ) (p : ℕ) (o : Chain) (own : g o ≡ p) (others : Each (λ c. g c ≡ min p (f c)) cs) where
  same_below : (d : ℕ) → d < p → filter (λ c. g c == d) (o ∷ cs) ≡ filter (λ c. f c == d) cs
  same_below d l =
      cond-false (g o == d) (o ∷ filter (λ c. g c == d) cs) (filter (λ c. g c == d) cs) (ne_eqb (g o) d (λ e. omega arith))
      ∙ filter-same (λ c. g c == d) (λ c. f c == d) cs (each-map (λ c. g c ≡ min p (f c)) (λ c. (g c == d) ≡ (f c == d)) (λ c e. by_number (g c) (f c) e (cases_eq (f c) d)) cs others)
    where
      by_number : (m n : ℕ) → m ≡ min p n → (n ≡ d) ⊎ (n ≡ d → ⊥) → (m == d) ≡ (n == d)
      by_number m n e (inl i) = eq-eqb m d (omega arith) ∙ sym (eq-eqb n d i)
      by_number m n e (inr i) = ne_eqb m d (λ k. i (omega arith)) ∙ sym (ne_eqb n d i)

  same_at : filter (λ c. g c == p) (o ∷ cs) ≡ o ∷ filter (λ c. nat_le p (f c)) cs
  same_at =
      cond-true (g o == p) (o ∷ filter (λ c. g c == p) cs) (filter (λ c. g c == p) cs) (eq-eqb (g o) p own)
      ∙ ap (λ l. o ∷ l) (filter-same (λ c. g c == p) (λ c. nat_le p (f c)) cs (each-map (λ c. g c ≡ min p (f c)) (λ c. (g c == p) ≡ nat_le p (f c)) (λ c e. by_number (g c) (f c) e (cases_lt (f c) p)) cs others))
    where
      by_number : (m n : ℕ) → m ≡ min p n → (n < p) ⊎ (p ≤ n) → (m == p) ≡ nat_le p n
      by_number m n e (inl l) = ne_eqb m p (λ k. omega arith) ∙ sym (lt-leb p n l)
      by_number m n e (inr l) = eq-eqb m p (omega arith) ∙ sym (le-leb p n l)

  rows-next : (rows : List Kept) (d n : ℕ) → d + n ≤ p → Rows cs f d rows → Rows (o ∷ cs) g d (take n rows)
  rows-next rows d zero l h = tt
  rows-next [] d (suc n) l h = tt
  rows-next (r ∷ rs) d (suc n) l h = (
    kept-is (o ∷ cs) r (pick (filter (λ c. f c == d) cs)) (pick (filter (λ c. g c == d) (o ∷ cs))) (ap pick (sym (same_below d (omega arith)))) (kept-more o cs r (pick (filter (λ c. f c == d) cs)) h.0),
    rows-next rs (suc d) n (omega arith) h.1,
  )

module _ (code : Block) (x y : List ℕ) (S : List (List ℕ)) (rows : List Kept) (inside own : Kept) where
  abbrev cs : List Chain
  cs = best_chains code S

  abbrev p : ℕ
  p = shared x y

  abbrev o : Chain
  o = y ∷ pick (filter (may_lead code y) cs)

  together : (x ≡ []) ⊎ ComesBefore x y → (z : List ℕ) → ComesBefore y z → shared x z ≡ min p (shared y z)
  together (inl e) z h = ap (λ w. shared w z) e ∙ (let q : p ≡ 0 = ap (λ w. shared w y) e in omega arith)
  together (inr k) z h = shared-min x y z k h

  -- the chains of this path from number p on
  late : All (ComesBefore y) S → Ascends S → Table cs (with_head y) (length y) rows inside → IsKept cs (past (drop p rows) inside) (pick (filter (λ c. nat_le p (with_head y c)) cs))
  late h a t =
      let long : length rows ≡ length y = t.long in
      let low : p ≤ length y = shared-right x y in
      let rest : p + length (drop p rows) ≡ length y = let l = length-drop p rows in omega arith in
      past-is cs (with_head y) inside (never-rises code y S h a) (drop p rows) p
      (each-all (λ c. with_head y c ≤ p + length (drop p rows)) (λ c. (let l = shared-left y (head_of c) in omega arith)) cs)
      (subst (λ n. IsKept cs inside (pick (filter (λ c. with_head y c == n) cs))) (sym rest) t.inside)
      (let e : 0 + p ≡ p = omega arith in subst (λ n. Rows cs (with_head y) n (drop p rows)) e (rows-drop cs (with_head y) 0 p rows t.each))

  pub state-next : (x ≡ []) ⊎ ComesBefore x y → All (ComesBefore y) S → Ascends S → Table cs (with_head y) (length y) rows inside → own.length ≡ length o → own.head ≡ length cs → State code x (y ∷ S) rows p (better_kept own (past (drop p rows) inside))
  state-next first h a t el eh =
      let others : Each (λ c. with_head x c ≡ min p (with_head y c)) cs = each-map (λ c. ComesBefore y (head_of c)) (λ c. with_head x c ≡ min p (with_head y c)) (λ c k. together first (head_of c) k) cs (each-heads code (ComesBefore y) S h) in
      record {
        few = ((let e : p ≤ p = omega arith in e), each-map (λ c. with_head x c ≡ min p (with_head y c)) (λ c. with_head x c ≤ p) (λ c e. omega arith) cs others);
        each = rows-next cs (with_head y) (with_head x) p o refl others rows 0 p (omega arith) t.each;
        best = kept-is (o ∷ cs) (better_kept own (past (drop p rows) inside)) (better o (pick (filter (λ c. nat_le p (with_head y c)) cs))) (pick (filter (λ c. with_head x c == p) (o ∷ cs)))
            (ap pick (sym (same_at cs (with_head y) (with_head x) p o refl others)))
            (kept-better (o ∷ cs) own (past (drop p rows) inside) o (pick (filter (λ c. nat_le p (with_head y c)) cs)) (record { len = el; at = λ l. inl (eh, refl) })
            (kept-more o cs (past (drop p rows) inside) (pick (filter (λ c. nat_le p (with_head y c)) cs)) (late h a t)));
      }
