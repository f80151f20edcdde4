-- What a release names, and what hinders it.
use Rattle.std.proofs.Common.{◌≡◌, ℕ, zero, suc, ◌<◌, ◌≤◌, ◌%◌, Bool, true, false, cond, ◌||◌, ◌&&◌, ◌==◌, not, List, [], ◌∷◌, ◌++◌, Some, None, IfSome, is_none, length, slice_index_or, count_by, filter, refl, sym, ap, ◌∙◌, subst, arith}
use Rattle.std.specs.List.{list_any}
use Rattle.std.proofs.lemmas.Bool.{eq-eqb, ne_eqb, true≢false, and_parts, and_from, or_left, or_right, lt-ltb, not-false}
use Rattle.rx_tree_laws.proofs.Staying.{any_same}
use Rattle.rx_rules.proofs.Widths.{sixteen_places}
use Rattle.rx_rules.proofs.Common.{has_bit, members, all_places, PlaceId, ScopeId, Tree, is_under, quiet, was_lost_at, lost_under, masked_under, thrown_of}
use Rattle.rx_rules.specs.declared.tasks.Where.{Where}
use Rattle.rx_rules.specs.declared.tasks.Where.TheVariants.{At, Travel}
use Rattle.rx_rules.specs.declared.tasks.Task.{Task}
use Rattle.rx_rules.specs.declared.tasks.Scope.{Scope}
use Rattle.rx_base.proofs.Elements.{find-passes}
use Rattle.rx_tree_laws.specs.Sound.{Each, Sound}
use Rattle.rx_tree_laws.proofs.Changes.{each_found, each_more}
use Rattle.rx_tree_laws.proofs.Below.{found_any}
use Rattle.rx_tree_laws.proofs.Reached.{sound}
use Rattle.rx_tree_laws.proofs.Releasing.{on_meets, each_all}
use Rattle.rx_finish.specs.Calls.{IsHindered, landing}
use Rattle.rx_counts.specs.declared.record.Sums.{Sums}
use Rattle.rx_counts.specs.declared.record.Record.{Record}
use Rattle.rx_counts.specs.declared.ledger.CountLedger.{CountLedger}
use Rattle.rx_counts.specs.Keeping.{stands_home, kept_at, same_where, count_of, total_of, orphans_of, masked_of}
use Rattle.rx_counts.specs.Stands.{slot, SumsOf, StandsFor, record_at, count_in}
use Rattle.rx_counts.specs.Inside.Freeing.{IsLast, Hides}
use Rattle.rx_counts.proofs.Counting.{one, each_part, any_counted}
use Rattle.rx_counts.proofs.Telling.{keeper_meets, same_self, one_number}
use Rattle.rx_counts.proofs.Lasting.{kept_here}
use Rattle.rx_counts.proofs.Joining.{counted_cell}
use Rattle.rx_counts.proofs.Slots.{unslot, slot_of_unslot, unslot_landing}
use Rattle.rx_counts.proofs.Asking.{Kept}
use Rattle.rx_counts.proofs.Readying.{last_kept, total_quiet}
use Rattle.rx_counts.proofs.Stopping.{masked_named}

pub any_more : {X : Type 0} (p q : X → Bool) (xs : List X) → ((x : X) → p x ≡ true → q x ≡ true) → list_any p xs ≡ true → list_any q xs ≡ true
any_more p q [] f h = h
any_more p q (x ∷ xs) f h =
    (elim (p x) as (λ b. p x ≡ b → b || list_any p xs ≡ true → q x || list_any q xs ≡ true) [
      | true ↦ λ e k. or_left (q x) (list_any q xs) (f x e)
      | false ↦ λ e k. or_right (q x) (list_any q xs) (any_more p q xs f k)
    ]) refl h

-- a record with a total above 0 has a cell above 0
pub some_cell : (T : Tree) (keeps : Scope → Bool) (r : Record) (n : ℕ) → Sound T → SumsOf keeps T.scopes T.tasks r.sums n → 0 < r.sums.total → (w : Where) × (0 < count_in r.sums w)
some_cell T keeps r n h s pos =
    let total : r.sums.total ≡ total_of keeps T.scopes T.tasks n = s.total in
    let any : list_any (λ x. is_none x.struck && kept_at keeps T.scopes n x) T.tasks ≡ true = any_counted (λ x. is_none x.struck && kept_at keeps T.scopes n x) T.tasks ∙ lt-ltb 0 (total_of keeps T.scopes T.tasks n) (omega arith) in
    let found = found_any (λ x. is_none x.struck && kept_at keeps T.scopes n x) T.tasks any in
    let x : Task = found.0 in
    let here = and_parts (is_none x.struck) (kept_at keeps T.scopes n x) (find-passes (λ y. is_none y.struck && kept_at keeps T.scopes n y) T.tasks x found.1) in
    let part = each_found (λ y. (p : Task → Bool) → one (p y) ≤ count_by p T.tasks) (λ y. is_none y.struck && kept_at keeps T.scopes n y) T.tasks x (each_part T.tasks T.tasks (λ p. omega arith)) found.1 (λ y. (is_none y.struck && same_where x.place y.place) && kept_at keeps T.scopes n y) in
    let mine : (is_none x.struck && same_where x.place x.place) && kept_at keeps T.scopes n x ≡ true = and_from (is_none x.struck && same_where x.place x.place) (kept_at keeps T.scopes n x) (and_from (is_none x.struck) (same_where x.place x.place) here.0 (same_self x.place)) here.1 in
    let is_one = ap one mine in
    let c = s.counts x.place in
    (x.place, omega arith)

land_alike : (w v : Where) → same_where w v ≡ true → (landing v).0 == (landing w).0 ≡ true
land_alike (At p) (At q) e = e
land_alike (At p) (Travel f t) e = absurd (true≢false (sym e))
land_alike (Travel p r) (At q) e = absurd (true≢false (sym e))
land_alike (Travel p r) (Travel f t) e = (and_parts (f.0 == p.0) (t.0 == r.0) e).1

-- where a task is counted, the place where it is or goes hinders
by_count : (T : Tree) (s : ScopeId) (q : Sums) (p : PlaceId) (w : Where) → SumsOf (stands_home T.dead) T.scopes T.tasks q s.0 → 0 < count_in q w → p.0 ≡ (landing w).0 → list_any (λ x. (is_under T s x && is_none x.struck) && ((landing x.place).0 == p.0)) T.tasks ≡ true
by_count T s q p w sums up by_place =
    let keeps : Scope → Bool = stands_home T.dead in
    let c : count_in q w ≡ count_of keeps T.scopes T.tasks s.0 w = sums.counts w in
    let some : 0 < count_of keeps T.scopes T.tasks s.0 w = subst (λ (m : ℕ). 0 < m) c up in
    let there : (x : Task) → ((landing x.place).0 == p.0) ≡ ((landing x.place).0 == (landing w).0) = λ x. ap (λ (n : ℕ). (landing x.place).0 == n) by_place in
    let any : list_any (λ x. (is_none x.struck && same_where w x.place) && kept_at keeps T.scopes s.0 x) T.tasks ≡ true = any_counted (λ x. (is_none x.struck && same_where w x.place) && kept_at keeps T.scopes s.0 x) T.tasks ∙ lt-ltb 0 (count_of keeps T.scopes T.tasks s.0 w) some in
    any_more (λ x. (is_none x.struck && same_where w x.place) && kept_at keeps T.scopes s.0 x) (λ x. (is_under T s x && is_none x.struck) && ((landing x.place).0 == p.0)) T.tasks
    (λ x t.
    let one_ = and_parts (is_none x.struck && same_where w x.place) (kept_at keeps T.scopes s.0 x) t in
    let two = and_parts (is_none x.struck) (same_where w x.place) one_.0 in
    and_from (is_under T s x && is_none x.struck) ((landing x.place).0 == p.0)
    (and_from (is_under T s x) (is_none x.struck) (on_meets s T.scopes (Some x.under) ∙ keeper_meets keeps s T.scopes (Some x.under) one_.1) two.0)
    (there x ∙ land_alike w x.place two.1)) any

-- the same of a cell above 0
by_cell : (T : Tree) (s : ScopeId) (q : Sums) (p : PlaceId) (i : ℕ) → SumsOf (stands_home T.dead) T.scopes T.tasks q s.0 → i < length q.counts → 0 < slice_index_or q.counts i 0 → p.0 ≡ i % q.places → list_any (λ x. (is_under T s x && is_none x.struck) && ((landing x.place).0 == p.0)) T.tasks ≡ true
by_cell T s q p i sums low up by_place =
    by_count T s q p (unslot q.places i) sums
    (subst (λ (j : ℕ). 0 < slice_index_or q.counts j 0) (sym (slot_of_unslot q.places i (subst (λ (m : ℕ). i < m) sums.cells low))) up)
    (by_place ∙ sym (unslot_landing q.places i))

-- so a place is found that hinders
pub hindered : {room : ℕ} (l : CountLedger) (T : Tree) (s : ScopeId) (r : Record) (p : PlaceId) → StandsFor l room T → IsLast T s → record_at l.scopes s.0 ≡ Some r → 0 < r.sums.total → Hides r.sums.places r.sums.counts p → IsHindered T s p
hindered l T s r p st i e pos hides =
    let h : Sound T = sound st.reached in
    let keeps : Scope → Bool = stands_home T.dead in
    let k : Kept l.width T l.scopes s.0 = last_kept l T s st i in
    let same : k.kept ≡ r = (let f = k.found in cc) in
    let sums : SumsOf keeps T.scopes T.tasks r.sums s.0 = subst (λ (v : Record). SumsOf keeps T.scopes T.tasks v.sums s.0) same (subst (SumsOf keeps T.scopes T.tasks k.kept.sums) k.number k.fits.sums) in
    let cell = some_cell T keeps r s.0 h sums pos in
    let hid = hides (slot r.sums.places cell.0) (counted_cell r.sums cell.0 sums.cells cell.1) cell.1 in
    record {
      busy = sym (total_quiet l T s r st i e) ∙ nonzero r.sums.total pos;
      by = by_cell T s r.sums p hid.0 sums hid.1 hid.2 hid.3;
    }
  where
    nonzero : (n : ℕ) → 0 < n → n == 0 ≡ false
    nonzero zero h = absurd (omega arith)
    nonzero (suc n) h = ne_eqb (suc n) 0 (λ e. absurd (omega arith))

-- What a release names.

pub places_low : Each (λ (p : ℕ). p < 16) all_places
places_low = (omega arith, (omega arith, (omega arith, (omega arith, (omega arith, (omega arith, (omega arith, (omega arith, (omega arith, (omega arith, (omega arith, (omega arith, (omega arith, (omega arith, (omega arith, (omega arith, tt))))))))))))))))

pub filter_same : {X : Type 0} (p q : X → Bool) (xs : List X) → Each (λ x. p x ≡ q x) xs → filter p xs ≡ filter q xs
filter_same p q [] h = refl
filter_same p q (x ∷ xs) h = ap (λ b. cond b (x ∷ filter p xs) (filter p xs)) h.0 ∙ ap (λ ys. cond (q x) (x ∷ ys) ys) (filter_same p q xs h.1)

swap : (u l k : Bool) → (u ≡ true → k ≡ true) → (k ≡ true → u ≡ true) → u && l ≡ l && k
swap true true k f b = sym (f refl)
swap true false k f b = refl
swap false l true f b = absurd (true≢false (sym (b refl)))
swap false true false f b = refl
swap false false false f b = refl

-- whether a place is in the list that a release names is read from the record of the scope alone
pub lost_named : (T : Tree) (s : ScopeId) → Sound T → IsLast T s → quiet T s ≡ true → (p : ℕ) → list_any (λ y. is_under T s y && was_lost_at p y) T.tasks ≡ list_any (λ y. was_lost_at p y && kept_at (stands_home T.dead) T.scopes s.0 y) T.tasks
lost_named T s h i still p =
    any_same (λ y. is_under T s y && was_lost_at p y) (λ y. was_lost_at p y && kept_at (stands_home T.dead) T.scopes s.0 y) T.tasks
    (each_all _ (λ (y : Task).
    swap (is_under T s y) (was_lost_at p y) (kept_at (stands_home T.dead) T.scopes s.0 y)
    (λ e. kept_here T s h i still y.under (sym (on_meets s T.scopes (Some y.under)) ∙ e))
    (λ e. on_meets s T.scopes (Some y.under) ∙ keeper_meets (stands_home T.dead) s T.scopes (Some y.under) e)) T.tasks)

pub home_keeps : (T : Tree) (s : ScopeId) → Sound T → (i : IsLast T s) → stands_home T.dead i.scope ≡ true
home_keeps T s h i = not-false (stands_home T.dead i.scope) (sym (one_number (λ k. not (stands_home T.dead k)) T.next_scope T.scopes s i.scope h.falls i.stands) ∙ i.keeps_it)

pub record Outcomes (T : Tree) (s : ScopeId) (r : Record) : Type 0 where
  pub still : quiet T s ≡ true
  pub places : members r.sums.lost ≡ lost_under T s
  pub faults : r.body ++ r.ends ≡ thrown_of T s
  pub masked : r.sums.masked ≡ masked_under T s
  pub orphans : r.sums.orphans ≡ orphans_of (stands_home T.dead) T.scopes s.0

pub outcome : {room : ℕ} (l : CountLedger) (T : Tree) (s : ScopeId) (r : Record) → StandsFor l room T → IsLast T s → record_at l.scopes s.0 ≡ Some r → r.sums.total ≡ 0 → Outcomes T s r
outcome l T s r st i e zero_total =
    let h : Sound T = sound st.reached in
    let keeps : Scope → Bool = stands_home T.dead in
    let k : Kept l.width T l.scopes s.0 = last_kept l T s st i in
    let same : k.kept ≡ r = (let f = k.found in cc) in
    let sums : SumsOf keeps T.scopes T.tasks r.sums s.0 = subst (λ (v : Record). SumsOf keeps T.scopes T.tasks v.sums s.0) same (subst (SumsOf keeps T.scopes T.tasks k.kept.sums) k.number k.fits.sums) in
    let still : quiet T s ≡ true = sym (total_quiet l T s r st i e) ∙ eq-eqb r.sums.total 0 zero_total in
    let is : k.scope ≡ i.scope = (let a = k.stands in let b = i.stands in let c : Some k.scope ≡ Some i.scope = sym a ∙ b in cc) in
    let faults = subst (λ (v : Record). (v.body ≡ k.scope.body) × (v.ends ≡ k.scope.ends)) same (k.fits.faults (ap keeps is ∙ home_keeps T s h i)) in
    record {
      still = still;
      places =
          filter_same (has_bit r.sums.lost.0) (λ p. list_any (λ x. is_under T s x && was_lost_at p x) T.tasks) all_places (each_more (λ (p : ℕ). p < 16) _ (λ (p : ℕ) low. sums.lost p low ∙ sym (lost_named T s h i still p)) all_places places_low)
          ∙ ap (filter (λ p. list_any (λ x. is_under T s x && was_lost_at p x) T.tasks)) (sym (sixteen_places T st.has_room.cells));
      faults = ap (λ xs. xs ++ r.ends) (faults.0 ∙ ap (λ (v : Scope). v.body) is) ∙ ap (λ xs. i.scope.body ++ xs) (faults.1 ∙ ap (λ (v : Scope). v.ends) is) ∙ sym (let q : thrown_of T s ≡ i.scope.body ++ i.scope.ends = rw (i.stands, thrown_of) in q);
      masked = subst (λ o. IfSome o (λ v. v.sums.masked ≡ masked_of keeps T.scopes s.0)) e (st.fit.masked s.0) ∙ sym (masked_named T s h i still);
      orphans = sums.orphans;
    }

pub not_missing : {room : ℕ} (l : CountLedger) (T : Tree) (s : ScopeId) → StandsFor l room T → IsLast T s → record_at l.scopes s.0 ≡ None → ⊥
not_missing l T s st i e = let f = (last_kept l T s st i).found in cc

-- the total of such a record tells that it is quiet
pub quiet_now : {room : ℕ} (l : CountLedger) (T : Tree) (s : ScopeId) (r : Record) → StandsFor l room T → IsLast T s → record_at l.scopes s.0 ≡ Some r → r.sums.total ≡ 0 → quiet T s ≡ true
quiet_now l T s r st i e z = (outcome l T s r st i e z).still

pub zero_of : (n : ℕ) → n ≤ 0 → n ≡ 0
zero_of n e = omega arith
