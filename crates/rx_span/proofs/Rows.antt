-- What the rows of a path tell of the chains that were passed.
use Rattle.std.proofs.Common.{◌≡◌, ◌⊎◌, ℕ, zero, suc, ◌+◌, ◌<◌, ◌≤◌, Bool, true, false, cond, ◌&&◌, ◌==◌, nat_lt, nat_le, List, [], ◌∷◌, ◌++◌, length, filter, take, drop, replicate, refl, ap, sym, subst, ◌∙◌, arith, inl, inr, add-zero}
use Rattle.std.proofs.lemmas.Bool.{cases_lt, eq-eqb, ne_eqb, le-leb, lt-leb, and_left, and_right}
use Rattle.std.proofs.lemmas.List.{length-take-le, length-append}
use Rattle.rx_order.specs.declared.marks.Role.{Role}
use Rattle.rx_span.specs.declared.chains.Kept.{Kept}
use Rattle.rx_span.specs.Inside.Best.{better, pick}
use Rattle.rx_span.specs.Inside.Kept.{none, better_kept, leads, follow, past, IsLaid, IsKept}
use Rattle.rx_span.proofs.Picks.{Chain, Each, each-map, better-nil, pick-append, filter-same, filter-none, filter-number, NeverRises, split}

pub kept-none : (cs : List Chain) → IsKept cs none []
kept-none cs = record { len = refl; at = λ h. absurd (omega arith) }

pub kept-more : (o : Chain) (cs : List Chain) (k : Kept) (c : Chain) → IsKept cs k c → IsKept (o ∷ cs) k c
kept-more o cs k c h = record { len = h.len; at = λ l. inr (h.at l) }

pub kept-is : (cs : List Chain) (k : Kept) (c d : Chain) → c ≡ d → IsKept cs k c → IsKept cs k d
kept-is cs k c d e h = subst (IsKept cs k) e h

pub kept-better : (cs : List Chain) (a b : Kept) (c d : Chain) → IsKept cs a c → IsKept cs b d → IsKept cs (better_kept a b) (better c d)
kept-better cs a b c d h k = by_test (nat_lt a.length b.length) (nat_lt (length c) (length d)) (ap (λ m. nat_lt m b.length) h.len ∙ ap (nat_lt (length c)) k.len)
  where
    by_test : (s t : Bool) → s ≡ t → IsKept cs (cond s b a) (cond t d c)
    by_test true true e = k
    by_test false false e = h
    by_test true false e = cc
    by_test false true e = cc

-- the rows from number d on are the best chains of each number
abbrev pub Rows : List Chain → (Chain → ℕ) → ℕ → List Kept → Type 0
Rows cs f d [] = Unit {0}
Rows cs f d (r ∷ rs) = IsKept cs r (pick (filter (λ c. f c == d) cs)) × Rows cs f (suc d) rs

drop-tail : (ms : List Role) (d : ℕ) (m : Role) (rest : List Role) → drop d ms ≡ m ∷ rest → drop (suc d) ms ≡ rest
drop-tail [] zero m rest e = cc
drop-tail [] (suc d) m rest e = cc
drop-tail (n ∷ ms) zero m rest e = cc
drop-tail (n ∷ ms) (suc d) m rest e = drop-tail ms d m rest e

-- the chains of numbers that lead, from number d on
abbrev pub led : List Role → (Chain → ℕ) → ℕ → Chain → Bool
led ms f d c = leads (drop (f c) ms) && nat_le d (f c)

pub follow-is : (cs : List Chain) (f : Chain → ℕ) (all : List Role) → NeverRises f cs → (rows : List Kept) (d : ℕ) (ms : List Role) → drop d all ≡ ms → length ms ≡ length rows → Each (λ c. f c ≤ d + length rows) cs → Rows cs f d rows → IsKept cs (follow ms rows) (pick (filter (led all f d) cs))
follow-is cs f all falls [] d [] e l few h =
    kept-is cs none [] (pick (filter (led all f d) cs)) (ap pick (sym (filter-none (led all f d) cs (each-map (λ c. f c ≤ d + 0) (λ c. led all f d c ≡ false) (λ c m. by_number (f c) (omega arith) (cases_lt (f c) d)) cs few)))) (kept-none cs)
  where
    by_number : (n : ℕ) → n ≤ d → (n < d) ⊎ (d ≤ n) → (leads (drop n all) && nat_le d n) ≡ false
    by_number n m (inl k) = and_right (leads (drop n all)) (nat_le d n) (lt-leb d n k)
    by_number n m (inr k) = let same : n ≡ d = omega arith in and_left (leads (drop n all)) (nat_le d n) (ap (λ i. leads (drop i all)) same ∙ ap leads e)
follow-is cs f all falls [] d (m ∷ ms) e l few h = absurd (omega arith)
follow-is cs f all falls (r ∷ rs) d [] e l few h = absurd (omega arith)
follow-is cs f all falls (r ∷ rs) d (m ∷ ms) e l few h =
    by_test (leads (m ∷ ms)) (leads (drop d all)) (ap leads (sym e))
    (follow-is cs f all falls rs (suc d) ms (drop-tail all d m ms e) (omega arith) (each-map (λ c. f c ≤ d + suc (length rs)) (λ c. f c ≤ suc d + length rs) (λ c k. omega arith) cs few) h.1)
    (ap pick (split f (λ c. leads (drop (f c) all)) d cs falls) ∙ pick-append (filter (led all f (suc d)) cs) (filter (λ c. leads (drop (f c) all) && (f c == d)) cs))
    (filter-number f (λ n. leads (drop n all)) d cs)
  where
    by_test : (s t : Bool) → s ≡ t → IsKept cs (follow ms rs) (pick (filter (led all f (suc d)) cs)) → pick (filter (led all f d) cs) ≡ better (pick (filter (led all f (suc d)) cs)) (pick (filter (λ c. leads (drop (f c) all) && (f c == d)) cs)) → filter (λ c. leads (drop (f c) all) && (f c == d)) cs ≡ cond t (filter (λ c. f c == d) cs) [] → IsKept cs (cond s (better_kept (follow ms rs) r) (follow ms rs)) (pick (filter (led all f d) cs))
    by_test true true q k p n =
        kept-is cs (better_kept (follow ms rs) r) (better (pick (filter (led all f (suc d)) cs)) (pick (filter (λ c. f c == d) cs))) (pick (filter (led all f d) cs))
        (ap (λ x. better (pick (filter (led all f (suc d)) cs)) (pick x)) (sym n) ∙ sym p)
        (kept-better cs (follow ms rs) r (pick (filter (led all f (suc d)) cs)) (pick (filter (λ c. f c == d) cs)) k h.0)
    by_test false false q k p n =
        kept-is cs (follow ms rs) (pick (filter (led all f (suc d)) cs)) (pick (filter (led all f d) cs))
        (sym (better-nil (pick (filter (led all f (suc d)) cs))) ∙ ap (λ x. better (pick (filter (led all f (suc d)) cs)) (pick x)) (sym n) ∙ sym p) k
    by_test true false q k p n = cc
    by_test false true q k p n = cc

-- the chains from number d on
pub past-is : (cs : List Chain) (f : Chain → ℕ) (inside : Kept) → NeverRises f cs → (rows : List Kept) (d : ℕ) → Each (λ c. f c ≤ d + length rows) cs → IsKept cs inside (pick (filter (λ c. f c == d + length rows) cs)) → Rows cs f d rows → IsKept cs (past rows inside) (pick (filter (λ c. nat_le d (f c)) cs))
past-is cs f inside falls [] d few i h =
    kept-is cs inside (pick (filter (λ c. f c == d + 0) cs)) (pick (filter (λ c. nat_le d (f c)) cs))
    (ap pick (filter-same (λ c. f c == d + 0) (λ c. nat_le d (f c)) cs (each-map (λ c. f c ≤ d + 0) (λ c. (f c == d + 0) ≡ nat_le d (f c)) (λ c m. by_number (f c) m (cases_lt (f c) d)) cs few))) i
  where
    by_number : (n : ℕ) → n ≤ d + 0 → (n < d) ⊎ (d ≤ n) → (n == d + 0) ≡ nat_le d n
    by_number n m (inl k) = ne_eqb n (d + 0) (λ e. omega arith) ∙ sym (lt-leb d n k)
    by_number n m (inr k) = eq-eqb n (d + 0) (omega arith) ∙ sym (le-leb d n k)
past-is cs f inside falls (r ∷ rs) d few i h =
    let more : d + suc (length rs) ≡ suc d + length rs = omega arith in
    let rest : IsKept cs (past rs inside) (pick (filter (λ c. nat_le (suc d) (f c)) cs)) =
    past-is cs f inside falls rs (suc d) (each-map (λ c. f c ≤ d + suc (length rs)) (λ c. f c ≤ suc d + length rs) (λ c k. omega arith) cs few) (subst (λ n. IsKept cs inside (pick (filter (λ c. f c == n) cs))) more i) h.1 in
    kept-is cs (better_kept (past rs inside) r) (better (pick (filter (λ c. nat_le (suc d) (f c)) cs)) (pick (filter (λ c. f c == d) cs))) (pick (filter (λ c. nat_le d (f c)) cs))
    (sym (ap pick (split f (λ c. true) d cs falls) ∙ pick-append (filter (λ c. nat_le (suc d) (f c)) cs) (filter (λ c. f c == d) cs)))
    (kept-better cs (past rs inside) r (pick (filter (λ c. nat_le (suc d) (f c)) cs)) (pick (filter (λ c. f c == d) cs)) rest h.0)

-- Rows are laid.

pub rows-append : (cs : List Chain) (f : Chain → ℕ) (d : ℕ) (ks ls : List Kept) → Rows cs f d ks → Rows cs f (d + length ks) ls → Rows cs f d (ks ++ ls)
rows-append cs f d [] ls h k = subst (λ n. Rows cs f n ls) (add-zero d) k
rows-append cs f d (a ∷ ks) ls h k =
    let e : d + suc (length ks) ≡ suc d + length ks = omega arith in (h.0, rows-append cs f (suc d) ks ls h.1 (subst (λ n. Rows cs f n ls) e k))

none-above : (cs : List Chain) (f : Chain → ℕ) (n d : ℕ) → Each (λ c. f c ≤ n) cs → n < d → IsKept cs none (pick (filter (λ c. f c == d) cs))
none-above cs f n d few l =
    kept-is cs none [] (pick (filter (λ c. f c == d) cs)) (ap pick (sym (filter-none (λ c. f c == d) cs (each-map (λ c. f c ≤ n) (λ c. (f c == d) ≡ false) (λ c m. ne_eqb (f c) d (λ e. omega arith)) cs few)))) (kept-none cs)

rows-none : (cs : List Chain) (f : Chain → ℕ) (n : ℕ) → Each (λ c. f c ≤ n) cs → (k d : ℕ) → n < d → Rows cs f d (replicate k none)
rows-none cs f n few zero d l = tt
rows-none cs f n few (suc k) d l = (none-above cs f n d few l, rows-none cs f n few k (suc d) (omega arith))

length-none : (k : ℕ) → length (replicate k none) ≡ k
length-none zero = refl
length-none (suc k) = ap suc (length-none k)

-- what the rows of a path of this length tell, and what is inside it
pub record Table (cs : List Chain) (f : Chain → ℕ) (len : ℕ) (rows : List Kept) (kept : Kept) : Type 0 where
  pub long : length rows ≡ len
  pub each : Rows cs f 0 rows
  pub inside : IsKept cs kept (pick (filter (λ c. f c == len) cs))

pub laid : (cs : List Chain) (f : Chain → ℕ) (from len : ℕ) (passed inside : Kept) (old new : List Kept) → from ≤ length old → Each (λ c. f c ≤ from) cs → Rows cs f 0 (take from old) → IsKept cs passed (pick (filter (λ c. f c == from) cs)) → IsLaid from passed len old new inside → Table cs f len new inside
laid cs f from len passed inside old new l few rows p (inl h) =
    record {
      long = ap length h.1 ∙ length-take-le from old l ∙ h.0;
      each = subst (Rows cs f 0) (sym h.1) rows;
      inside = subst (λ k. IsKept cs k (pick (filter (λ c. f c == len) cs))) (sym h.2) (subst (λ n. IsKept cs passed (pick (filter (λ c. f c == n) cs))) h.0 p);
    }
laid cs f from len passed inside old new l few rows p (inr h) =
    let e : length (take from old) ≡ from = length-take-le from old l in
    let e2 : 0 + length (take from old) ≡ from = omega arith in
    record {
      long = (let a = ap length h.2 in let b = length-append (take from old) (passed ∷ replicate h.0 none) in let c = length-none h.0 in omega arith);
      each = subst (Rows cs f 0) (sym h.2) (rows-append cs f 0 (take from old) (passed ∷ replicate h.0 none) rows (subst (λ n. Rows cs f n (passed ∷ replicate h.0 none)) (sym e2) (p, rows-none cs f from few h.0 (suc from) (omega arith))));
      inside = subst (λ k. IsKept cs k (pick (filter (λ c. f c == len) cs))) (sym h.3) (none-above cs f from len few (omega arith));
    }
