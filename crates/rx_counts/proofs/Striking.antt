-- What a death does to the sums of a scope: the strike.
use Rattle.std.proofs.Common.{◌≡◌, ℕ, zero, suc, ◌<◌, ◌≤◌, ◌+◌, Bool, true, false, cond, ◌||◌, ◌&&◌, ◌==◌, ltb, List, [], ◌∷◌, Option, Some, None, is_none, slice_index_or, length, map, count_by, IfSome, refl, sym, ap, ◌∙◌, subst, arith, ⊎_elim}
use Rattle.std.specs.List.{find, list_any}
use Rattle.std.specs.Global.{Box}
use Rattle.std.proofs.lemmas.Bool.{eqb-true, true≢false, and_parts, lt-ltb, le-ltb, cases_eq, cases_lt, false_from_ne_true}
use Rattle.std.proofs.Math.Bool.{and-false, and-true}
use Rattle.rx_tree_laws.proofs.Releasing.{each_all}
use Rattle.rx_tree_laws.proofs.Staying.{any_same}
use Rattle.rx_rules.proofs.Common.{PlaceId, ScopeId, hit, is_hit, was_lost_at, has_number}
use Rattle.rx_rules.specs.declared.tasks.Where.{Where}
use Rattle.rx_rules.specs.declared.tasks.Where.TheVariants.{At, Travel}
use Rattle.rx_rules.specs.declared.tasks.Blow.{Blow}
use Rattle.rx_rules.specs.declared.tasks.Task.{Task}
use Rattle.rx_rules.specs.declared.tasks.Scope.{Scope}
use Rattle.rx_base.proofs.Bools.{same-or-false}
use Rattle.rx_tree_laws.proofs.Changes.{each_more}
use Rattle.rx_tree_laws.proofs.Blows.{hit_under, hit_place, hit_struck}
use Rattle.rx_counts.specs.declared.record.Sums.{Sums}
use Rattle.rx_counts.specs.declared.record.Record.{Record}
use Rattle.rx_counts.specs.Keeping.{keeper, is_number, kept_at, same_where, count_of, total_of}
use Rattle.rx_counts.specs.Stands.{table_size, is_inside, slot, ShapeOf, SumsOf, RecordOf, Both, RecordsFit, Pairs, record_at, in_sums}
use Rattle.rx_counts.specs.Inside.Dying.{hits_cell, hit_sum, hits, Strikes, StrikesRecord, MayHit}
use Rattle.rx_counts.proofs.Counting.{one, each_part, count_same, count_none, count_split, count_map, any_map, any_counted}
use Rattle.rx_counts.proofs.Telling.{same_self}
use Rattle.rx_counts.proofs.Slots.{unslot, slot_of_unslot, slot_below, slot_same, same_slot, has_place, hits_slot, none_out}
use Rattle.rx_counts.proofs.Joining.{both_pairs}

hit_alike : (d : PlaceId) (w v : Where) → same_where w v ≡ true → is_hit d w ≡ is_hit d v
hit_alike d (At p) (At q) e = ap (λ n. n == d.0) (sym (eqb-true q.0 p.0 e))
hit_alike d (At p) (Travel f t) e = absurd (true≢false (sym e))
hit_alike d (Travel p r) (At q) e = absurd (true≢false (sym e))
hit_alike d (Travel p r) (Travel f t) e =
    let parts = and_parts (f.0 == p.0) (t.0 == r.0) e in
    ap (λ n. (n == d.0) || (r.0 == d.0)) (sym (eqb-true f.0 p.0 parts.0)) ∙ ap (λ n. (f.0 == d.0) || (n == d.0)) (sym (eqb-true t.0 r.0 parts.1))

after_hit : (b : Blow) (o : Option Blow) (h same k hw : Bool) → (same ≡ true → hw ≡ h) → (is_none (cond (is_none o && h) (Some b) o) && same) && k ≡ cond hw false ((is_none o && same) && k)
after_hit b (Some c) h same k true e = refl
after_hit b (Some c) h same k false e = refl
after_hit b None true true k hw e = rw (e refl)
after_hit b None true false k true e = refl
after_hit b None true false k false e = refl
after_hit b None false true k hw e = rw (e refl)
after_hit b None false false k true e = refl
after_hit b None false false k false e = refl

cell_after : (b : Blow) (keeps : Scope → Bool) (gs : List Scope) (s : ℕ) (w : Where) (x : Task) → (is_none (hit b x).struck && same_where w (hit b x).place) && kept_at keeps gs s (hit b x) ≡ cond (is_hit b.place w) false ((is_none x.struck && same_where w x.place) && kept_at keeps gs s x)
cell_after b keeps gs s w x =
    ap (λ o. (is_none o && same_where w (hit b x).place) && kept_at keeps gs s (hit b x)) (hit_struck b x (is_none x.struck && is_hit b.place x.place))
    ∙ ap (λ v. (is_none (cond (is_none x.struck && is_hit b.place x.place) (Some b) x.struck) && same_where w v) && kept_at keeps gs s (hit b x)) (hit_place b x)
    ∙ ap (λ (u : ScopeId). (is_none (cond (is_none x.struck && is_hit b.place x.place) (Some b) x.struck) && same_where w x.place) && is_number s (keeper keeps gs (Some u))) (hit_under b x)
    ∙ after_hit b x.struck (is_hit b.place x.place) (same_where w x.place) (kept_at keeps gs s x) (is_hit b.place w) (λ e. hit_alike b.place w x.place e)

pub count_strike : (b : Blow) (keeps : Scope → Bool) (gs : List Scope) (ts : List Task) (s : ℕ) (w : Where) → count_of keeps gs (map (hit b) ts) s w ≡ cond (is_hit b.place w) 0 (count_of keeps gs ts s w)
count_strike b keeps gs ts s w =
    count_map (λ x. (is_none x.struck && same_where w x.place) && kept_at keeps gs s x) (hit b) ts
    ∙ count_same (λ x. (is_none (hit b x).struck && same_where w (hit b x).place) && kept_at keeps gs s (hit b x)) (λ x. cond (is_hit b.place w) false ((is_none x.struck && same_where w x.place) && kept_at keeps gs s x)) ts (each_all _ (λ (x : Task). cell_after b keeps gs s w x) ts)
    ∙ (elim (is_hit b.place w) as (λ h. count_by (λ x. cond h false ((is_none x.struck && same_where w x.place) && kept_at keeps gs s x)) ts ≡ cond h 0 (count_of keeps gs ts s w)) [
      | true ↦ count_none (λ x. false) ts (each_all _ (λ (x : Task). refl) ts)
      | false ↦ refl
    ])

lost_after : (b : Blow) (p : ℕ) (o : Option Blow) (h : Bool) → (elim (cond (is_none o && h) (Some b) o) as (λ _. Bool) [ Some c ↦ c.place.0 == p | None ↦ false ]) ≡ ((elim o as (λ _. Bool) [ Some c ↦ c.place.0 == p | None ↦ false ]) || ((is_none o && h) && (b.place.0 == p)))
lost_after b p (Some c) h = same-or-false (c.place.0 == p)
lost_after b p None true = refl
lost_after b p None false = refl

lost_cell : (b : Blow) (keeps : Scope → Bool) (gs : List Scope) (s p : ℕ) (x : Task) → was_lost_at p (hit b x) && kept_at keeps gs s (hit b x) ≡ (was_lost_at p x || ((is_none x.struck && is_hit b.place x.place) && (b.place.0 == p))) && kept_at keeps gs s x
lost_cell b keeps gs s p x =
    ap (λ o. (elim o as (λ _. Bool) [ Some c ↦ c.place.0 == p | None ↦ false ]) && kept_at keeps gs s (hit b x)) (hit_struck b x (is_none x.struck && is_hit b.place x.place))
    ∙ ap (λ v. v && kept_at keeps gs s (hit b x)) (lost_after b p x.struck (is_hit b.place x.place))
    ∙ ap (λ (u : ScopeId). (was_lost_at p x || ((is_none x.struck && is_hit b.place x.place) && (b.place.0 == p))) && is_number s (keeper keeps gs (Some u))) (hit_under b x)

or_both : (a b c d k : Bool) → ((a || b) && k) || (c || d) ≡ ((a && k) || c) || ((b && k) || d)
or_both true b true d true = refl
or_both true b false d true = refl
or_both false true true d true = refl
or_both false true false d true = refl
or_both false false true d true = refl
or_both false false false d true = refl
or_both true true c d false = refl
or_both true false c d false = refl
or_both false true c d false = refl
or_both false false c d false = refl

any_either : {X : Type 0} (a c k : X → Bool) (xs : List X) → list_any (λ x. (a x || c x) && k x) xs ≡ (list_any (λ x. a x && k x) xs || list_any (λ x. c x && k x) xs)
any_either a c k [] = refl
any_either a c k (x ∷ xs) = ap (λ b. ((a x || c x) && k x) || b) (any_either a c k xs) ∙ or_both (a x) (c x) (list_any (λ x. a x && k x) xs) (list_any (λ x. c x && k x) xs) (k x)

any_lost : {X : Type 0} (a c k : X → Bool) (e : Bool) (xs : List X) → list_any (λ x. (a x || (c x && e)) && k x) xs ≡ (list_any (λ x. a x && k x) xs || (list_any (λ x. c x && k x) xs && e))
any_lost {X = X} a c k true xs = any_same (λ x. (a x || (c x && true)) && k x) (λ x. (a x || c x) && k x) xs (each_all _ (λ (x : X). ap (λ v. (a x || v) && k x) (and-true (c x))) xs) ∙ any_either a c k xs ∙ ap (λ v. list_any (λ x. a x && k x) xs || v) (sym (and-true (list_any (λ x. c x && k x) xs)))
any_lost {X = X} a c k false xs = any_same (λ x. (a x || (c x && false)) && k x) (λ x. a x && k x) xs (each_all _ (λ (x : X). ap (λ v. (a x || v) && k x) (and-false (c x)) ∙ ap (λ v. v && k x) (sym (same-or-false (a x)))) xs) ∙ same-or-false (list_any (λ x. a x && k x) xs) ∙ ap (λ v. list_any (λ x. a x && k x) xs || v) (sym (and-false (list_any (λ x. c x && k x) xs)))

-- The sum of the cells that the death hits is the number of tasks that it strikes.

cell_here : (u h k : Bool) → one (((u && h) && k) && true) ≡ one (((u && h) && k) && false) + one (h && ((u && true) && k))
cell_here true true true = refl
cell_here true true false = refl
cell_here true false true = refl
cell_here true false false = refl
cell_here false true true = refl
cell_here false true false = refl
cell_here false false true = refl
cell_here false false false = refl

cell_else : (c h u k b : Bool) → one (c && b) ≡ one (c && b) + one (h && ((u && false) && k))
cell_else c true true k b = omega arith
cell_else c true false k b = omega arith
cell_else c false u k b = omega arith

-- one more cell
next_cell : (d : PlaceId) (size : ℕ) (u k : Bool) (v : Where) (n : ℕ) → n < table_size size → one (((u && is_hit d v) && k) && ltb (slot size v) (suc n)) ≡ one (((u && is_hit d v) && k) && ltb (slot size v) n) + one (hits_cell size d.0 n && ((u && same_where (unslot size n) v) && k))
next_cell d size u k v n low =
    ⊎_elim
    (λ (e : slot size v ≡ n).
    let in_v : is_inside size v ≡ true = has_place size v (subst (λ (m : ℕ). m < table_size size) (sym e) low) in
    let same : same_where (unslot size n) v ≡ true = slot_same size v (unslot size n) in_v (e ∙ sym (slot_of_unslot size n low)) in
    let is : hits_cell size d.0 n ≡ is_hit d v = ap (hits_cell size d.0) (sym e) ∙ hits_slot d size v in_v in
    let up : ltb (slot size v) (suc n) ≡ true = lt-ltb (slot size v) (suc n) (next e) in
    let off : ltb (slot size v) n ≡ false = le-ltb (slot size v) n (last e) in
    cell_at u (is_hit d v) k (ltb (slot size v) (suc n)) (ltb (slot size v) n) (hits_cell size d.0 n) (same_where (unslot size n) v) up off is same)
    (λ (e : slot size v ≡ n → ⊥).
    let other : same_where (unslot size n) v ≡ false = false_from_ne_true (same_where (unslot size n) v) (λ m. e (same_slot size v (unslot size n) m ∙ slot_of_unslot size n low)) in
    let still : ltb (slot size v) (suc n) ≡ ltb (slot size v) n = ⊎_elim (λ (a : slot size v < n). lt-ltb (slot size v) (suc n) (further a) ∙ sym (lt-ltb (slot size v) n a)) (λ (a : n ≤ slot size v). le-ltb (slot size v) (suc n) (above (slot size v) n a e) ∙ sym (le-ltb (slot size v) n a)) (cases_lt (slot size v) n) in
    cell_not ((u && is_hit d v) && k) (ltb (slot size v) (suc n)) (ltb (slot size v) n) (hits_cell size d.0 n) u k (same_where (unslot size n) v) still other)
    (cases_eq (slot size v) n)
  where
    next : {m n : ℕ} → m ≡ n → m < suc n
    next e = omega arith

    last : {m n : ℕ} → m ≡ n → n ≤ m
    last e = omega arith

    further : {m n : ℕ} → m < n → m < suc n
    further e = omega arith

    above : (m n : ℕ) → n ≤ m → (m ≡ n → ⊥) → suc n ≤ m
    above m n le apart = ⊎_elim (λ (a : n < m). a) (λ (b : m ≤ n). absurd (apart (omega arith))) (cases_lt n m)

    cell_at : (u h k a b c s : Bool) → a ≡ true → b ≡ false → c ≡ h → s ≡ true → one (((u && h) && k) && a) ≡ one (((u && h) && k) && b) + one (c && ((u && s) && k))
    cell_at u h k a b c s ea eb ec es = rw (ea, eb, ec, es) (cell_here u h k)

    cell_not : (t a b c u k s : Bool) → a ≡ b → s ≡ false → one (t && a) ≡ one (t && b) + one (c && ((u && s) && k))
    cell_not t a b c u k s ea es = rw (ea, es) (cell_else t c u k b)

count_if : (b : Bool) (p : Task → Bool) (ts : List Task) → count_by (λ x. b && p x) ts ≡ cond b (count_by p ts) 0
count_if true p ts = refl
count_if false p ts = count_none (λ x. false) ts (each_all _ (λ (x : Task). refl) ts)

sum_cells : (d : PlaceId) (keeps : Scope → Bool) (gs : List Scope) (ts : List Task) (q : Sums) (m n : ℕ) → SumsOf keeps gs ts q m → n ≤ table_size q.places → hit_sum q.places d.0 q.counts n ≡ count_by (λ x. ((is_none x.struck && is_hit d x.place) && kept_at keeps gs m x) && ltb (slot q.places x.place) n) ts
sum_cells d keeps gs ts q m zero h le = sym (count_none (λ x. ((is_none x.struck && is_hit d x.place) && kept_at keeps gs m x) && ltb (slot q.places x.place) 0) ts (each_all _ (λ (x : Task). ap (λ b. ((is_none x.struck && is_hit d x.place) && kept_at keeps gs m x) && b) (le-ltb (slot q.places x.place) 0 (omega arith)) ∙ and-false ((is_none x.struck && is_hit d x.place) && kept_at keeps gs m x)) ts))
sum_cells d keeps gs ts q m (suc n) h le =
    let p : ℕ = q.places in
    let low : n < table_size q.places = le in
    let a = sum_cells d keeps gs ts q m n h (below low) in
    let c : slice_index_or q.counts n 0 ≡ count_of keeps gs ts m (unslot q.places n) = ap (λ i. slice_index_or q.counts i 0) (sym (slot_of_unslot q.places n low)) ∙ h.counts (unslot q.places n) in
    let s = count_split (λ x. ((is_none x.struck && is_hit d x.place) && kept_at keeps gs m x) && ltb (slot q.places x.place) (suc n)) (λ x. ((is_none x.struck && is_hit d x.place) && kept_at keeps gs m x) && ltb (slot q.places x.place) n) (λ x. hits_cell q.places d.0 n && ((is_none x.struck && same_where (unslot q.places n) x.place) && kept_at keeps gs m x)) ts
    (each_all _ (λ (x : Task). next_cell d q.places (is_none x.struck) (kept_at keeps gs m x) x.place n low) ts) in
    let f = count_if (hits_cell q.places d.0 n) (λ x. (is_none x.struck && same_where (unslot q.places n) x.place) && kept_at keeps gs m x) ts in
    let e : cond (hits_cell q.places d.0 n) (slice_index_or q.counts n 0) 0 ≡ cond (hits_cell q.places d.0 n) (count_of keeps gs ts m (unslot q.places n)) 0 = ap (λ v. cond (hits_cell q.places d.0 n) v 0) c in
    together a (e ∙ sym f) s
  where
    below : {n m : ℕ} → n < m → n ≤ m
    below h = omega arith

    together : {x y z v w : ℕ} → x ≡ y → z ≡ v → w ≡ y + v → x + z ≡ w
    together a b c = omega arith

-- the tasks that it strikes
abbrev pub struck_count : PlaceId → (Scope → Bool) → List Scope → List Task → ℕ → ℕ
struck_count d keeps gs ts m = count_by (λ x. (is_none x.struck && is_hit d x.place) && kept_at keeps gs m x) ts

-- whoever is counted has a cell
cell_true : (d : PlaceId) (keeps : Scope → Bool) (gs : List Scope) (ts : List Task) (q : Sums) (m : ℕ) (x : Task) → SumsOf keeps gs ts q m → ((p : Task → Bool) → one (p x) ≤ count_by p ts) → ((is_none x.struck && is_hit d x.place) && kept_at keeps gs m x) && ltb (slot q.places x.place) (length q.counts) ≡ (is_none x.struck && is_hit d x.place) && kept_at keeps gs m x
cell_true d keeps gs ts q m x h part =
    (elim (is_inside q.places x.place) as (λ b. is_inside q.places x.place ≡ b → ((is_none x.struck && is_hit d x.place) && kept_at keeps gs m x) && ltb (slot q.places x.place) (length q.counts) ≡ (is_none x.struck && is_hit d x.place) && kept_at keeps gs m x) [
      | true ↦ λ e.
          ap (λ b. ((is_none x.struck && is_hit d x.place) && kept_at keeps gs m x) && b) (lt-ltb (slot q.places x.place) (length q.counts) (subst (λ (n : ℕ). slot q.places x.place < n) (sym h.cells) (slot_below q.places x.place e)))
          ∙ and-true ((is_none x.struck && is_hit d x.place) && kept_at keeps gs m x)
      | false ↦ λ e.
          let none : count_of keeps gs ts m x.place ≡ 0 = sym (h.counts x.place) ∙ none_out q.places q.counts x.place h.cells e in
          let mine = part (λ y. (is_none y.struck && same_where x.place y.place) && kept_at keeps gs m y) in
          not_here (is_none x.struck) (is_hit d x.place) (same_where x.place x.place) (kept_at keeps gs m x) (ltb (slot q.places x.place) (length q.counts)) (same_self x.place) (zero_one ((is_none x.struck && same_where x.place x.place) && kept_at keeps gs m x) (count_of keeps gs ts m x.place) none mine)
    ]) refl
  where
    zero_one : (b : Bool) (n : ℕ) → n ≡ 0 → one b ≤ n → b ≡ false
    zero_one true n e le = absurd (omega arith)
    zero_one false n e le = refl

    not_here : (u h s k l : Bool) → s ≡ true → (u && s) && k ≡ false → ((u && h) && k) && l ≡ (u && h) && k
    not_here u h s k l es e = here u h k l (sym (ap (λ b. (u && b) && k) es) ∙ e)
      where
        here : (u h k l : Bool) → (u && true) && k ≡ false → ((u && h) && k) && l ≡ (u && h) && k
        here true true true l e = absurd (true≢false e)
        here true true false l e = refl
        here true false k l e = refl
        here false h k l e = refl

pub hits_are : (d : PlaceId) (keeps : Scope → Bool) (gs : List Scope) (ts : List Task) (q : Sums) (m : ℕ) → SumsOf keeps gs ts q m → hits q.places d.0 q.counts ≡ struck_count d keeps gs ts m
hits_are d keeps gs ts q m h =
    sum_cells d keeps gs ts q m (length q.counts) h (same_le h.cells)
    ∙ count_same (λ x. ((is_none x.struck && is_hit d x.place) && kept_at keeps gs m x) && ltb (slot q.places x.place) (length q.counts)) (λ x. (is_none x.struck && is_hit d x.place) && kept_at keeps gs m x) ts
    (each_more (λ x. (p : Task → Bool) → one (p x) ≤ count_by p ts) _ (λ (x : Task) part. cell_true d keeps gs ts q m x h part) ts (each_part ts ts (λ p. omega arith)))
  where
    same_le : {n m : ℕ} → n ≡ m → n ≤ m
    same_le e = omega arith

-- Totals.

total_bool : (b : Blow) (o : Option Blow) (h k : Bool) → one (is_none o && k) ≡ one (is_none (cond (is_none o && h) (Some b) o) && k) + one ((is_none o && h) && k)
total_bool b (Some c) h k = refl
total_bool b None true true = refl
total_bool b None true false = refl
total_bool b None false true = refl
total_bool b None false false = refl

total_cell : (b : Blow) (keeps : Scope → Bool) (gs : List Scope) (m : ℕ) (x : Task) → is_none (hit b x).struck && kept_at keeps gs m (hit b x) ≡ is_none (cond (is_none x.struck && is_hit b.place x.place) (Some b) x.struck) && kept_at keeps gs m x
total_cell b keeps gs m x =
    ap (λ o. is_none o && kept_at keeps gs m (hit b x)) (hit_struck b x (is_none x.struck && is_hit b.place x.place))
    ∙ ap (λ (u : ScopeId). is_none (cond (is_none x.struck && is_hit b.place x.place) (Some b) x.struck) && is_number m (keeper keeps gs (Some u))) (hit_under b x)

pub total_strike : (b : Blow) (keeps : Scope → Bool) (gs : List Scope) (ts : List Task) (m : ℕ) → total_of keeps gs ts m ≡ total_of keeps gs (map (hit b) ts) m + struck_count b.place keeps gs ts m
total_strike b keeps gs ts m =
    let a = count_split (λ x. is_none x.struck && kept_at keeps gs m x) (λ x. is_none (hit b x).struck && kept_at keeps gs m (hit b x)) (λ x. (is_none x.struck && is_hit b.place x.place) && kept_at keeps gs m x) ts
    (each_all _ (λ (x : Task). total_bool b x.struck (is_hit b.place x.place) (kept_at keeps gs m x) ∙ ap (λ (v : ℕ). v + one ((is_none x.struck && is_hit b.place x.place) && kept_at keeps gs m x)) (ap one (sym (total_cell b keeps gs m x)))) ts) in
    let c = count_map (λ x. is_none x.struck && kept_at keeps gs m x) (hit b) ts in
    omega arith

-- The strike of sums, of a record, and of all.

pub sums_strike : (b : Blow) (keeps : Scope → Bool) (gs : List Scope) (ts : List Task) (r q : Sums) (m : ℕ) → Strikes b.place r q → SumsOf keeps gs ts r m → SumsOf keeps gs (map (hit b) ts) q m
sums_strike b keeps gs ts r q m s h =
    record {
      cells = s.cells ∙ h.cells ∙ ap table_size (sym s.places);
      counts = λ w.
          s.counts w
          ∙ ap (cond (is_hit b.place w) 0) (h.counts w)
          ∙ sym (count_strike b keeps gs ts m w);
      total =
          let a = s.total in
          let c = h.total in
          let e = hits_are b.place keeps gs ts r m h in
          let f = total_strike b keeps gs ts m in
          omega arith;
      orphans = s.orphans ∙ h.orphans;
      lost = λ p low.
          s.lost p low
          ∙ ap (λ c. c || (ltb 0 (hits r.places b.place.0 r.counts) && (b.place.0 == p))) (h.lost p low)
          ∙ ap (λ c. list_any (λ x. was_lost_at p x && kept_at keeps gs m x) ts || (c && (b.place.0 == p))) (ap (ltb 0) (hits_are b.place keeps gs ts r m h) ∙ sym (any_counted (λ x. (is_none x.struck && is_hit b.place x.place) && kept_at keeps gs m x) ts))
          ∙ sym (any_lost (was_lost_at p) (λ x. is_none x.struck && is_hit b.place x.place) (kept_at keeps gs m) (b.place.0 == p) ts)
          ∙ sym (any_same (λ x. was_lost_at p (hit b x) && kept_at keeps gs m (hit b x)) (λ x. (was_lost_at p x || ((is_none x.struck && is_hit b.place x.place) && (b.place.0 == p))) && kept_at keeps gs m x) ts (each_all _ (λ (x : Task). lost_cell b keeps gs m p x) ts))
          ∙ sym (any_map (λ x. was_lost_at p x && kept_at keeps gs m x) (hit b) ts);
    }

pub all_strike : (size : ℕ) (b : Blow) (keeps : Scope → Bool) (gs : List Scope) (ts : List Task) (rs qs : List (Option (Box Record))) → ((n : ℕ) → Pairs (StrikesRecord b.place) (record_at rs n) (record_at qs n)) → RecordsFit size keeps gs ts rs → RecordsFit size keeps gs (map (hit b) ts) qs
all_strike size b keeps gs ts rs qs s h n =
    both_pairs (RecordOf size keeps gs ts) (RecordOf size keeps gs (map (hit b) ts)) (StrikesRecord b.place) (record_at rs n) (record_at qs n) (find (has_number n) gs)
    (λ r q g found k a.
    let is : q ≡ in_sums (λ v. q.sums) r = k.0 in
    record {
      shape = subst (λ (v : Record). ShapeOf gs v g) (sym is) (record { kind = a.shape.kind; home = a.shape.home; parent = a.shape.parent; finish = a.shape.finish });
      sums = sums_strike b keeps gs ts r.sums q.sums g.number.0 k.1 a.sums;
      faults = λ e. (ap (λ (v : Record). v.body) is ∙ (a.faults e).0, ap (λ (v : Record). v.ends) is ∙ (a.faults e).1);
      places = λ e. k.1.places ∙ a.places e;
    })
    (s n) (h n)

-- no cell that is hit is above the total
pub may_hit : (size : ℕ) (d : PlaceId) (keeps : Scope → Bool) (gs : List Scope) (ts : List Task) (rs : List (Option (Box Record))) → RecordsFit size keeps gs ts rs → (n : ℕ) → IfSome (record_at rs n) (MayHit d)
may_hit size d keeps gs ts rs h n = may_in (record_at rs n) (find (has_number n) gs) (h n)
  where
    may_in : (o : Option Record) (g : Option Scope) → Both (RecordOf size keeps gs ts) o g → IfSome o (MayHit d)
    may_in (Some r) (Some g) a =
        let b : Blow = record { place = d; entry = 0 } in
        let e = hits_are d keeps gs ts r.sums g.number.0 a.sums in
        let f = total_strike b keeps gs ts g.number.0 in
        let t = a.sums.total in
        record { cells = a.sums.cells; total = omega arith }
    may_in (Some r) None a = absurd a
    may_in None g a = tt
