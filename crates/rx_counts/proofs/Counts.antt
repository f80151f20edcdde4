-- The records tell the counts of the rules.
use Rattle.std.proofs.Common.{◌≡◌, ℕ, ◌<◌, min, Bool, true, false, cond, ◌&&◌, ◌==◌, not, Option, Some, None, is_some, is_none, option_map, IfSome, refl, sym, ap, ◌∙◌, subst, filter}
use Rattle.std.specs.List.{find, list_any}
use Rattle.rx_tree_laws.proofs.Releasing.{each_all}
use Rattle.rx_tree_laws.proofs.Staying.{any_same}
use Rattle.rx_rules.proofs.Widths.{sixteen_places}
use Rattle.rx_rules.proofs.Common.{has_bit, members, all_places, PlaceId, ScopeId, Tree, chain_in, death_of, was_lost_at, has_number}
use Rattle.rx_rules.specs.declared.tasks.Where.{Where}
use Rattle.rx_rules.specs.declared.tasks.Where.TheVariants.{At, Travel}
use Rattle.rx_rules.specs.declared.tasks.Task.{Task}
use Rattle.rx_rules.specs.declared.tasks.Scope.{Scope}
use Rattle.rx_rules.specs.Counts.{CountsOf, CountsAt, is_adopted, counts_at, is_there, goes, live_count, transit_count, lost_at, masks_at, masked_count}
use Rattle.rx_tree_laws.proofs.Changes.{each_more}
use Rattle.rx_counts.specs.declared.record.Record.{Record}
use Rattle.rx_counts.specs.declared.ledger.CountLedger.{CountLedger}
use Rattle.rx_counts.specs.Keeping.{stands_home, keeper, is_number, kept_at, same_where, count_of, is_orphan, faults_in, masked_of}
use Rattle.rx_counts.specs.Stands.{Both, StandsFor, HasScope, record_at, count_in}
use Rattle.rx_counts.specs.Stands.{RecordOf}
use Rattle.rx_counts.specs.Meaning.{counts_of, CountsStand}
use Rattle.rx_counts.proofs.Joining.{number_is}
use Rattle.rx_counts.proofs.Counting.{count_same, sum_same, sum_where}
use Rattle.rx_counts.proofs.Walks.{keeper_is}
use Rattle.rx_counts.proofs.Asking.{Kept, kept_some}
use Rattle.rx_counts.proofs.Hindering.{filter_same, places_low}

number_of_found : (o : Option Scope) (n : ℕ) → (elim o as (λ _. Bool) [ Some a ↦ a.number.0 == n | None ↦ false ]) ≡ is_number n (option_map (λ g. g.number.0) o)
number_of_found (Some g) n = refl
number_of_found None n = refl

adopted_is : (T : Tree) (g u : ScopeId) → is_adopted T g u ≡ is_number g.0 (keeper (stands_home T.dead) T.scopes (Some u))
adopted_is T g u = number_of_found (find (stands_home T.dead) (chain_in T.scopes (Some u))) g.0 ∙ ap (is_number g.0) (keeper_is (stands_home T.dead) T.scopes (Some u))

pub counts_is : (T : Tree) (g : ScopeId) (x : Task) → counts_at T g x ≡ kept_at (stands_home T.dead) T.scopes g.0 x
counts_is T g x = adopted_is T g x.under

masks_is : (T : Tree) (g : ScopeId) (h : Scope) → masks_at T g h ≡ is_orphan (stands_home T.dead) T.scopes g.0 h
masks_is T g h = ap (λ b. b && is_adopted T g h.number) (some_is (death_of T h.home)) ∙ ap (λ b. not (stands_home T.dead h) && b) (adopted_is T g h.number)
  where
    some_is : (o : Option ℕ) → is_some o ≡ not (is_none o)
    some_is (Some n) = refl
    some_is None = refl

pub masked_is : (T : Tree) (g : ScopeId) → masked_count T g ≡ masked_of (stands_home T.dead) T.scopes g.0
masked_is T g =
    ap (min 4294967295)
    (sum_where faults_in (masks_at T g) T.scopes
    ∙ sum_same (λ h. cond (masks_at T g h) (faults_in h) 0) (λ h. cond (is_orphan (stands_home T.dead) T.scopes g.0 h) (faults_in h) 0) T.scopes
    (each_all _ (λ (h : Scope). ap (λ b. cond b (faults_in h) 0) (masks_is T g h)) T.scopes))

there_is : (p : PlaceId) (w : Where) → is_there p w ≡ same_where (At p) w
there_is p (At q) = refl
there_is p (Travel f t) = refl

goes_is : (p r : PlaceId) (w : Where) → goes p r w ≡ same_where (Travel p r) w
goes_is p r (At q) = refl
goes_is p r (Travel f t) = refl

pub live_is : (T : Tree) (g : ScopeId) (p : PlaceId) → live_count T g p ≡ count_of (stands_home T.dead) T.scopes T.tasks g.0 (At p)
live_is T g p = count_same (λ x. is_none x.struck && is_there p x.place && counts_at T g x) (λ x. (is_none x.struck && same_where (At p) x.place) && kept_at (stands_home T.dead) T.scopes g.0 x) T.tasks (each_all _ (λ (x : Task). three (is_none x.struck) (is_there p x.place) (same_where (At p) x.place) (counts_at T g x) (kept_at (stands_home T.dead) T.scopes g.0 x) (there_is p x.place) (counts_is T g x)) T.tasks)
  where
    three : (a b c d e : Bool) → b ≡ c → d ≡ e → a && b && d ≡ (a && c) && e
    three true b c d e x y = ap (λ v. v && d) x ∙ ap (λ v. c && v) y
    three false b c d e x y = refl

pub transit_is : (T : Tree) (g : ScopeId) (p r : PlaceId) → transit_count T g p r ≡ count_of (stands_home T.dead) T.scopes T.tasks g.0 (Travel p r)
transit_is T g p r = count_same (λ x. is_none x.struck && goes p r x.place && counts_at T g x) (λ x. (is_none x.struck && same_where (Travel p r) x.place) && kept_at (stands_home T.dead) T.scopes g.0 x) T.tasks (each_all _ (λ (x : Task). three (is_none x.struck) (goes p r x.place) (same_where (Travel p r) x.place) (counts_at T g x) (kept_at (stands_home T.dead) T.scopes g.0 x) (goes_is p r x.place) (counts_is T g x)) T.tasks)
  where
    three : (a b c d e : Bool) → b ≡ c → d ≡ e → a && b && d ≡ (a && c) && e
    three true b c d e x y = ap (λ v. v && d) x ∙ ap (λ v. c && v) y
    three false b c d e x y = refl

pub lost_is : (T : Tree) (g : ScopeId) (p : ℕ) → list_any (λ x. was_lost_at p x && counts_at T g x) T.tasks ≡ list_any (λ x. was_lost_at p x && kept_at (stands_home T.dead) T.scopes g.0 x) T.tasks
lost_is T g p = any_same (λ x. was_lost_at p x && counts_at T g x) (λ x. was_lost_at p x && kept_at (stands_home T.dead) T.scopes g.0 x) T.tasks (each_all _ (λ (x : Task). ap (λ b. was_lost_at p x && b) (counts_is T g x)) T.tasks)

-- The accessors.

pub scope_record : {room : ℕ} (l : CountLedger) (T : Tree) (s : ScopeId) → StandsFor l room T → HasScope T s → Kept l.width T l.scopes s.0
scope_record l T s st h = kept_some T l.scopes s.0 st.fit.scopes (find (has_number s.0) T.scopes) refl h

pub cell_told : {room : ℕ} (l : CountLedger) (T : Tree) (s : ScopeId) (w : Where) (n : ℕ) → StandsFor l room T → HasScope T s → IfSome (record_at l.scopes s.0) (λ r. n ≡ count_in r.sums w) → n ≡ count_of (stands_home T.dead) T.scopes T.tasks s.0 w
cell_told l T s w n st h e =
    let k : Kept l.width T l.scopes s.0 = scope_record l T s st h in
    subst (λ o. IfSome o (λ r. n ≡ count_in r.sums w)) k.found e ∙ k.fits.sums.counts w ∙ ap (λ (m : ℕ). count_of (stands_home T.dead) T.scopes T.tasks m w) k.number

pub lost_told : {room : ℕ} (l : CountLedger) (T : Tree) (s : ScopeId) (r : Record) → StandsFor l room T → HasScope T s → record_at l.scopes s.0 ≡ Some r → members r.sums.lost ≡ lost_at T s
lost_told l T s r st h e =
    let k : Kept l.width T l.scopes s.0 = scope_record l T s st h in
    let same : k.kept ≡ r = (let f = k.found in cc) in
    filter_same (has_bit r.sums.lost.0) (λ p. list_any (λ x. was_lost_at p x && counts_at T s x) T.tasks) all_places
    (each_more (λ (p : ℕ). p < 16) _ (λ (p : ℕ) low. ap (λ (v : Record). has_bit v.sums.lost.0 p) (sym same) ∙ k.fits.sums.lost p low ∙ ap (λ (m : ℕ). list_any (λ x. was_lost_at p x && kept_at (stands_home T.dead) T.scopes m x) T.tasks) k.number ∙ sym (lost_is T s p)) all_places places_low)
    ∙ ap (filter (λ p. list_any (λ x. was_lost_at p x && counts_at T s x) T.tasks)) (sym (sixteen_places T st.has_room.cells))

pub scope_missing : {room : ℕ} (l : CountLedger) (T : Tree) (s : ScopeId) → StandsFor l room T → HasScope T s → record_at l.scopes s.0 ≡ None → ⊥
scope_missing l T s st h e = let f = (scope_record l T s st h).found in cc

-- The relation of the ledger in the words of the rules.

counted : (T : Tree) (n : ℕ) (o : Option Record) (k : Option Scope) → Both (λ r g. CountsOf T (counts_of n r) g) o k → CountsAt T (option_map (counts_of n) o) k
counted T n (Some r) (Some g) h = h
counted T n (Some r) None h = h
counted T n None (Some g) h = h
counted T n None None h = h

both_known : (P Q : Record → Scope → Type 0) (a : Option Record) (b : Option Scope) → ((r : Record) (g : Scope) → a ≡ Some r → b ≡ Some g → P r g → Q r g) → Both P a b → Both Q a b
both_known P Q (Some r) (Some g) k h = k r g refl refl h
both_known P Q (Some r) None k h = absurd h
both_known P Q None (Some g) k h = absurd h
both_known P Q None None k h = tt

pub counts_stand : CountsStand
counts_stand l room T st =
    record {
      reached = st.reached;
      places = st.fit.places;
      dead = st.fit.dead;
      next_task = st.fit.next_task;
      next_scope = st.fit.next_scope;
      scopes = λ n.
          counted T n (record_at l.scopes n) (find (has_number n) T.scopes) (both_known (RecordOf l.width (stands_home T.dead) T.scopes T.tasks) (λ r g. CountsOf T (counts_of n r) g) (record_at l.scopes n) (find (has_number n) T.scopes)
          (λ r g kept found a.
          record {
            number = ap (λ (m : ℕ). let q : ScopeId = record { 0 = m } in q) (sym (number_is n T.scopes g found));
            kind = a.shape.kind;
            home = a.shape.home;
            parent = a.shape.parent;
            live = λ p low. a.sums.counts (At p) ∙ sym (live_is T g.number p);
            transit = λ p q low lowq. a.sums.counts (Travel p q) ∙ sym (transit_is T g.number p q);
            lost = filter_same (has_bit r.sums.lost.0) (λ p. list_any (λ x. was_lost_at p x && counts_at T g.number x) T.tasks) all_places (each_more (λ (p : ℕ). p < 16) _ (λ (p : ℕ) low. a.sums.lost p low ∙ sym (lost_is T g.number p)) all_places places_low) ∙ ap (filter (λ p. list_any (λ x. was_lost_at p x && counts_at T g.number x) T.tasks)) (sym (sixteen_places T st.has_room.cells));
            faults = a.faults;
            masked = subst (λ o. IfSome o (λ v. v.sums.masked ≡ masked_of (stands_home T.dead) T.scopes n)) kept (st.fit.masked n) ∙ ap (masked_of (stands_home T.dead) T.scopes) (sym (number_is n T.scopes g found)) ∙ sym (masked_is T g.number);
          })
          (st.fit.scopes n));
    }
