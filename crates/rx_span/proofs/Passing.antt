-- One path is passed.
use Rattle.std.proofs.Common.{◌≡◌, ◌⊎◌, ℕ, zero, suc, ◌+◌, ◌<◌, ◌≤◌, ◌==◌, Bool, true, nat_lt, List, [], ◌∷◌, ◌++◌, length, map, filter, drop, slice_get, Some, refl, ap, sym, subst, ◌∙◌, arith, inl, inr, add-one, get_or, ⊎_elim}
use Rattle.std.proofs.lemmas.Bool.{cond_both, cases_lt, eq-eqb}
use Rattle.std.proofs.lemmas.Option.{slice_get-get_or, get_or_from_slice_get}
use Rattle.rx_rules.proofs.Common.{Block}
use Rattle.rx_order.specs.declared.marks.Role.{Role}
use Rattle.rx_order.specs.Marks.{marks_of}
use Rattle.rx_span.specs.declared.chains.Kept.{Kept}
use Rattle.rx_span.specs.Paths.{IsPath, ArePaths, ComesBefore}
use Rattle.rx_span.specs.Inside.Sorting.{shared, Descends, next_of, backwards}
use Rattle.rx_span.specs.Inside.Best.{may_lead, better, pick, best_chains}
use Rattle.rx_span.specs.Inside.Kept.{better_kept, follow, past, IsLaid, IsKept, Linked}
use Rattle.rx_span.proofs.Picks.{Chain, Each, each-map, each-all, filter-all}
use Rattle.rx_span.proofs.Lists.{path-in, next-in, length-back, next-comes, ascends-back, paths-back, descends-at}
use Rattle.rx_span.proofs.Rows.{Table, laid}
use Rattle.rx_span.proofs.Ties.{linked-next}
use Rattle.rx_span.proofs.States.{State, with_head, follows-is, state-next}

-- Lengths.

pub length-best : (code : Block) (S : List (List ℕ)) → length (best_chains code S) ≡ length S
length-best code [] = refl
length-best code (x ∷ S) = ap suc (length-best code S)

pick-short : (q : Chain → Bool) (n : ℕ) (cs : List Chain) → Each (λ c. length c ≤ n) cs → length (pick (filter q cs)) ≤ n
pick-short q n [] h = omega arith
pick-short q n (c ∷ cs) h = cond_both (q c) (c ∷ filter q cs) (filter q cs) (λ l. length (pick l) ≤ n) (λ e. with_first (pick-short q n cs h.1)) (λ e. pick-short q n cs h.1)
  where
    with_first : length (pick (filter q cs)) ≤ n → length (better c (pick (filter q cs))) ≤ n
    with_first k = cond_both (nat_lt (length c) (length (pick (filter q cs)))) (pick (filter q cs)) c (λ l. length l ≤ n) (λ e. k) (λ e. h.0)

chains-short : (code : Block) (S : List (List ℕ)) → Each (λ c. length c ≤ length S) (best_chains code S)
chains-short code [] = tt
chains-short code (x ∷ S) =
    let r = chains-short code S in
    let l = pick-short (may_lead code x) (length S) (best_chains code S) r in
    ((let k : suc (length (pick (filter (may_lead code x) (best_chains code S)))) ≤ suc (length S) = omega arith in k), each-map (λ c. length c ≤ length S) (λ c. length c ≤ suc (length S)) (λ c k. omega arith) (best_chains code S) r)

-- The path at a place.

-- the path that stands at a position
pub next-there : {X : Type 0} (f : X → List ℕ) (xs : List X) (i : ℕ) (x : List ℕ) → slice_get (map f xs) i ≡ Some x → next_of i (map f xs) ≡ x
next-there f xs i x e = get_or_from_slice_get (map f xs) i x [] e

pub next-past : (xs : List (List ℕ)) (n : ℕ) → length xs ≤ n → next_of n xs ≡ []
next-past [] n l = refl
next-past (x ∷ xs) zero l = absurd (omega arith)
next-past (x ∷ xs) (suc n) l = next-past xs n (omega arith)

next-get : (xs : List (List ℕ)) (n : ℕ) → n < length xs → slice_get xs n ≡ Some (next_of n xs)
next-get xs n l = slice_get-get_or xs n [] l

module _ (code : Block) (xs : List (List ℕ)) (n : ℕ) (low : n < length xs) (falls : Descends xs) (paths : ArePaths code xs) where
  abbrev y : List ℕ
  y = next_of n xs

  abbrev S : List (List ℕ)
  S = backwards n xs

  abbrev cs : List Chain
  cs = best_chains code S

  pub is_path : IsPath code y
  is_path = path-in code xs y paths (next-in xs n low)

  length_cs : length cs ≡ n
  length_cs = length-best code S ∙ length-back n xs

  pub table : (rows new : List Kept) (from : ℕ) (passed inside : Kept) → State code y S rows from passed → from ≤ length rows → IsLaid from passed (length y) rows new inside → Table cs (with_head y) (length y) new inside
  table rows new from passed inside st l h = laid cs (with_head y) from (length y) passed inside rows new l st.few st.each st.best h

  pub kept_follows : (rows : List Kept) (inside : Kept) (ms : List Role) (k : Kept) → Table cs (with_head y) (length y) rows inside → ms ≡ marks_of code y → k ≡ follow ms rows → IsKept cs k (pick (filter (may_lead code y) cs))
  kept_follows rows inside ms k t e f =
      subst (λ l. IsKept cs l (pick (filter (may_lead code y) cs))) (sym (f ∙ ap (λ u. follow u rows) e))
      (follows-is code y S rows inside is_path (next-comes xs n falls low) (ascends-back xs n falls (omega arith)) (paths-back code xs n paths (omega arith)) t)

  pub kept_short : (k : Kept) → IsKept cs k (pick (filter (may_lead code y) cs)) → k.length ≤ n
  kept_short k h =
      let l = pick-short (may_lead code y) (length S) cs (chains-short code S) in let e = length-back n xs in let g = h.len in omega arith

  pub next_linked : (links new : List Kept) (k : Kept) → Linked cs xs links → length links ≡ n → IsKept cs k (pick (filter (may_lead code y) cs)) → new ≡ links ++ k ∷ [] → Linked (best_chains code (backwards (n + 1) xs)) xs new
  next_linked links new k h e g f =
      let at : slice_get xs (length cs) ≡ Some y = ap (slice_get xs) length_cs ∙ next-get xs n low in
      subst (λ m. Linked (best_chains code (backwards m xs)) xs new) (sym (add-one n))
      (subst (Linked (best_chains code (backwards (suc n) xs)) xs) (sym f) (linked-next cs xs links y (pick (filter (may_lead code y) cs)) k h (length_cs ∙ sym e) at g))

  next_first : (next_of (suc n) xs ≡ []) ⊎ ComesBefore (next_of (suc n) xs) y
  next_first =
      ⊎_elim (λ (l : suc n < length xs). inr (descends-at xs n (suc n) falls (omega arith) l)) (λ (l : length xs ≤ suc n). inl (next-past xs (suc n) l)) (cases_lt (suc n) (length xs))

  pub next_state : (rows : List Kept) (inside k own late passed : Kept) (from : ℕ) → Table cs (with_head y) (length y) rows inside → IsKept cs k (pick (filter (may_lead code y) cs)) → own ≡ record { length = k.length + 1; head = n } → late ≡ past (drop from rows) inside → from ≡ shared (next_of (n + 1) xs) y → passed ≡ better_kept own late → State code (next_of (n + 1) xs) (backwards (n + 1) xs) rows from passed
  next_state rows inside k own late passed from t g eo el ef ep =
      let one : n + 1 ≡ suc n = add-one n in
      let ef2 : from ≡ shared (next_of (suc n) xs) y = ef ∙ ap (λ m. shared (next_of m xs) y) one in
      let len : own.length ≡ length (y ∷ pick (filter (may_lead code y) cs)) = ap (λ o. o.length) eo ∙ (let q = g.len in let r : k.length + 1 ≡ suc (length (pick (filter (may_lead code y) cs))) = omega arith in r) in
      let head : own.head ≡ length cs = ap (λ o. o.head) eo ∙ sym length_cs in
      let st = state-next code (next_of (suc n) xs) y S rows inside own next_first (next-comes xs n falls low) (ascends-back xs n falls (omega arith)) t len head in
      let ep2 : passed ≡ better_kept own (past (drop (shared (next_of (suc n) xs) y) rows) inside) = ep ∙ ap (better_kept own) (el ∙ ap (λ m. past (drop m rows) inside) ef2) in
      subst (λ m. State code (next_of m xs) (backwards m xs) rows from passed) (sym one)
      (subst (λ m. State code (next_of (suc n) xs) (backwards (suc n) xs) rows m passed) (sym ef2)
      (subst (State code (next_of (suc n) xs) (backwards (suc n) xs) rows (shared (next_of (suc n) xs) y)) (sym ep2) st))

-- After the last path the best of all chains is kept.
pub all-passed : (code : Block) (xs : List (List ℕ)) (n from : ℕ) (rows : List Kept) (passed : Kept) → n ≡ length xs → from ≤ length (next_of n xs) → State code (next_of n xs) (backwards n xs) rows from passed → IsKept (best_chains code (backwards (length xs) xs)) passed (pick (best_chains code (backwards (length xs) xs)))
all-passed code xs n from rows passed e l st =
    let S = backwards n xs in
    let none : next_of n xs ≡ [] = next-past xs n (omega arith) in
    let z : from ≡ 0 = let k : length (next_of n xs) ≡ 0 = ap length none in omega arith in
    let all : filter (λ c. with_head (next_of n xs) c == from) (best_chains code S) ≡ best_chains code S =
    filter-all (λ c. with_head (next_of n xs) c == from) (best_chains code S)
    (each-all (λ c. (with_head (next_of n xs) c == from) ≡ true) (λ c. eq-eqb (with_head (next_of n xs) c) from (ap (λ w. with_head w c) none ∙ sym z)) (best_chains code S)) in
    subst (λ m. IsKept (best_chains code (backwards m xs)) passed (pick (best_chains code (backwards m xs)))) e (subst (λ cs. IsKept (best_chains code S) passed (pick cs)) all st.best)
