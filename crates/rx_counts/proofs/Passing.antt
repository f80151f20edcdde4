-- One turn of the hand-over.
use Rattle.std.proofs.Common.{◌≡◌, ℕ, ◌<◌, ◌≤◌, ◌+◌, ◌^◌, Bool, true, false, cond, ◌&&◌, ◌==◌, not, ltb, List, [], ◌∷◌, ◌++◌, Option, Some, None, is_none, is_some, slice_index_or, length, IfSome, refl, sym, ap, ◌∙◌, subst, arith, ⊎_elim}
use Rattle.std.specs.List.{find}
use Rattle.std.specs.Global.{Box}
use Rattle.std.proofs.lemmas.Bool.{eqb-true, eq-eqb, ne_eqb, true≢false, and_parts, lt-ltb, le-ltb, cases_eq, cases_lt}
use Rattle.std.proofs.lemmas.List.Sums.{count_by-le-length}
use Rattle.std.proofs.Math.Bool.{and-false, and-true}
use Rattle.rx_tree_laws.proofs.Parents.{parent_rooted}
use Rattle.rx_rules.proofs.Common.{PlaceId, ScopeId, Tree, is_scope, the_root, has_number}
use Rattle.rx_rules.specs.declared.tasks.Scope.{Scope}
use Rattle.rx_base.proofs.Options.{some-of}
use Rattle.rx_tree_laws.specs.Chains.{Falls}
use Rattle.rx_tree_laws.specs.Sound.{Each}
use Rattle.rx_tree_laws.proofs.Changes.{each_found, each_more}
use Rattle.rx_tree_laws.proofs.Releasing.{each_none, each_below}
use Rattle.rx_counts.specs.declared.record.Sums.{Sums}
use Rattle.rx_counts.specs.declared.record.Record.{Record}
use Rattle.rx_counts.specs.Keeping.{stands_home, keeper, is_number, kept_at, same_where, count_of, is_orphan, faults_in}
use Rattle.rx_counts.specs.Stands.{table_size, slot, ShapeOf, SumsOf, RecordOf, Both, RecordsFit, AllMasked, ChangedBy, IsShaped, record_at}
use Rattle.rx_counts.specs.Inside.Dying.{Emptied, Gained, MayGain, given_by, given_until, Passing, parent_there}
use Rattle.rx_counts.proofs.HandOver.{but, heir, never_but, count_heir, keeper_keeps}
use Rattle.rx_counts.proofs.Handing.{all_hand, all_keeps, orphans_heir}
use Rattle.rx_counts.proofs.Walks.{keeper_step, keeper_low, keeper_stands, keeper_exists, OlderThan}
use Rattle.rx_counts.proofs.Shapes.{both_found, shape_in, walk_older}
use Rattle.rx_counts.proofs.Joining.{both_more, number_is, sums_masking}
use Rattle.rx_counts.proofs.Masking.{masked_hand, masked_keeps}
use Rattle.rx_counts.proofs.Slots.{unslot, slot_of_unslot}
use Rattle.rx_counts.proofs.Asking.{below_length}

-- the scope of a number, among all
pub each_at : (i n : ℕ) (P : Scope → Type 0) (gs : List Scope) → Falls n gs → ((g : Scope) → find (has_number i) gs ≡ Some g → P g) → Each (λ k. k.number.0 ≡ i → P k) gs
each_at i n P [] f h = tt
each_at i n P (k ∷ ks) f h =
    (elim (has_number i k) as (λ b. has_number i k ≡ b → ((g : Scope) → cond b (Some k) (find (has_number i) ks) ≡ Some g → P g) → Each (λ k. k.number.0 ≡ i → P k) (k ∷ ks)) [
      | true ↦ λ e w.
          let num : k.number.0 ≡ i = eqb-true k.number.0 i e in
          (λ q. w k refl, each_more (λ j. j.number.0 < k.number.0) (λ j. j.number.0 ≡ i → P j) (λ (j : Scope) (low : j.number.0 < k.number.0) q. absurd (omega arith)) ks (each_below k.number.0 ks f.1))
      | false ↦ λ e w. (λ q. absurd (true≢false (sym (eq-eqb k.number.0 i q) ∙ e)), each_at i k.number.0 P ks f.1 w)
    ]) refl h

ltb_same : (m i : ℕ) → (m ≡ i → ⊥) → ltb m i ≡ ltb m (i + 1)
ltb_same m i apart = ⊎_elim (λ (a : m < i). lt-ltb m i a ∙ sym (lt-ltb m (i + 1) (omega arith))) (λ (a : i ≤ m). le-ltb m i a ∙ sym (le-ltb m (i + 1) (above m i a apart))) (cases_lt m i)
  where
    above : (m n : ℕ) → n ≤ m → (m ≡ n → ⊥) → n + 1 ≤ m
    above m n le apart = ⊎_elim (λ (a : n < m). omega arith) (λ (b : m ≤ n). absurd (apart (omega arith))) (cases_lt n m)

-- who does not have the home, or another number, keeps on
until_same : (keeps : Scope → Bool) (d : PlaceId) (i : ℕ) (k : Scope) → (k.number.0 ≡ i → k.home.0 == d.0 ≡ false) → given_until keeps d i k ≡ given_until keeps d (i + 1) k
until_same keeps d i k h =
    ⊎_elim
    (λ (e : k.number.0 ≡ i). ap (λ b. keeps k && not (b && ltb k.number.0 i)) (h e) ∙ sym (ap (λ b. keeps k && not (b && ltb k.number.0 (i + 1))) (h e)))
    (λ (e : k.number.0 ≡ i → ⊥). ap (λ b. keeps k && not ((k.home.0 == d.0) && b)) (ltb_same k.number.0 i e))
    (cases_eq k.number.0 i)

-- who is older has given all away, if its home died
but_low : (keeps : Scope → Bool) (d : PlaceId) (i : ℕ) (h : ScopeId) (k : Scope) → h.0 ≡ i → k.number.0 < i → but h (given_until keeps d i) k ≡ (keeps k && not (k.home.0 == d.0))
but_low keeps d i h k e lt =
    ap (λ b. (keeps k && not ((k.home.0 == d.0) && ltb k.number.0 i)) && not b) (ne_eqb k.number.0 h.0 (λ q. absurd (omega arith)))
    ∙ and-true (keeps k && not ((k.home.0 == d.0) && ltb k.number.0 i))
    ∙ ap (λ b. keeps k && not ((k.home.0 == d.0) && b)) (lt-ltb k.number.0 i lt)
    ∙ ap (λ b. keeps k && not b) (and-true (k.home.0 == d.0))

but_next : (keeps : Scope → Bool) (d : PlaceId) (i : ℕ) (h : ScopeId) (k : Scope) → h.0 ≡ i → (k.number.0 ≡ i → k.home.0 == d.0 ≡ true) → but h (given_until keeps d i) k ≡ given_until keeps d (i + 1) k
but_next keeps d i h k e home =
    ⊎_elim
    (λ (q : k.number.0 ≡ i).
    ap (λ b. given_until keeps d i k && not b) (eq-eqb k.number.0 h.0 (q ∙ sym e)) ∙ and-false (given_until keeps d i k)
    ∙ sym (ap (λ b. keeps k && not (b && ltb k.number.0 (i + 1))) (home q) ∙ ap (λ b. keeps k && not b) (lt-ltb k.number.0 (i + 1) (omega arith)) ∙ and-false (keeps k)))
    (λ (q : k.number.0 ≡ i → ⊥).
    ap (λ b. given_until keeps d i k && not b) (ne_eqb k.number.0 h.0 (λ v. q (v ∙ e))) ∙ and-true (given_until keeps d i k) ∙ ap (λ b. keeps k && not ((k.home.0 == d.0) && b)) (ltb_same k.number.0 i q))
    (cases_eq k.number.0 i)

shaped_by : (size : ℕ) (T : Tree) (keeps : Scope → Bool) (rs qs : List (Option (Box Record))) → IsShaped T rs → RecordsFit size keeps T.scopes T.tasks qs → IsShaped T qs
shaped_by size T keeps rs qs h fit =
    record {
      falls = h.falls;
      opened = h.opened;
      shapes = λ n. both_more (RecordOf size keeps T.scopes T.tasks) (ShapeOf T.scopes) (record_at qs n) (find (has_number n) T.scopes) (λ r g e a. a.shape) (fit n);
    }

-- the next turn, where the records fit it
next_turn : {size : ℕ} (T : Tree) (keeps : Scope → Bool) (dead : List (Option ℕ)) (d : PlaceId) (i : ℕ) (rs qs : List (Option (Box Record))) → Passing size T keeps dead d i rs → RecordsFit size (given_until keeps d (i + 1)) T.scopes T.tasks qs → AllMasked (given_until keeps d (i + 1)) T.scopes qs → Passing size T keeps dead d (i + 1) qs
next_turn T keeps dead d i rs qs p fit masked =
    record {
      shaped = shaped_by _ T (given_until keeps d (i + 1)) rs qs p.shaped fit;
      after = p.after;
      lived = p.lived;
      root = p.root;
      based = p.based;
      few_tasks = p.few_tasks;
      few_scopes = p.few_scopes;
      fit = fit;
      masked = masked;
    }

-- Where no scope of this number has the home.

homeless : {size : ℕ} (T : Tree) (keeps : Scope → Bool) (dead : List (Option ℕ)) (d : PlaceId) (i : ℕ) (rs : List (Option (Box Record))) → Passing size T keeps dead d i rs → parent_there d (record_at rs i) ≡ None → (g : Scope) → find (has_number i) T.scopes ≡ Some g → g.home.0 == d.0 ≡ false
homeless T keeps dead d i rs p none g found =
    let q = both_found (ShapeOf T.scopes) (record_at rs i) (find (has_number i) T.scopes) g (p.shaped.shapes i) found in
    (elim (g.home.0 == d.0) as (λ b. g.home.0 == d.0 ≡ b → b ≡ false) [
      | true ↦ λ e.
          let home : q.0.home.0 == d.0 ≡ true = ap (λ (v : PlaceId). v.0 == d.0) q.2.home ∙ e in
          let no : q.0.parent ≡ None = sym (ap (λ b. cond b q.0.parent None) home) ∙ sym (ap (parent_there d) q.1) ∙ none in
          let zero_ : g.number.0 ≡ 0 = each_found (λ k. k.parent ≡ None → k.number.0 ≡ 0) (has_number i) T.scopes g p.based found (sym q.2.parent ∙ no) in
          let root : is_scope the_root g && not (stands_home dead g) ≡ false = each_found (λ k. is_scope the_root k && not (stands_home dead k) ≡ false) (has_number i) T.scopes g (each_none (λ k. is_scope the_root k && not (stands_home dead k)) T.scopes p.root) found in
          let dies : stands_home dead g ≡ false = p.after g ∙ ap (λ b. keeps g && not b) e ∙ and-false (keeps g) in
          absurd (true≢false (sym (ap (λ b. b && not (stands_home dead g)) (eq-eqb g.number.0 0 zero_) ∙ ap not dies) ∙ root))
      | false ↦ λ e. refl
    ]) refl

pub passes_by : {size : ℕ} (T : Tree) (keeps : Scope → Bool) (dead : List (Option ℕ)) (d : PlaceId) (i : ℕ) (rs : List (Option (Box Record))) → Passing size T keeps dead d i rs → parent_there d (record_at rs i) ≡ None → Passing size T keeps dead d (i + 1) rs
passes_by T keeps dead d i rs p none =
    let same : Each (λ k. given_until keeps d i k ≡ given_until keeps d (i + 1) k) T.scopes = each_more (λ k. k.number.0 ≡ i → k.home.0 == d.0 ≡ false) (λ k. given_until keeps d i k ≡ given_until keeps d (i + 1) k) (λ (k : Scope) h. until_same keeps d i k h) T.scopes (each_at i T.next_scope (λ k. k.home.0 == d.0 ≡ false) T.scopes p.shaped.falls (homeless T keeps dead d i rs p none)) in
    next_turn T keeps dead d i rs rs p
    (all_keeps _ (given_until keeps d i) (given_until keeps d (i + 1)) T.scopes T.tasks rs same (λ n k found. each_found (λ k. given_until keeps d i k ≡ given_until keeps d (i + 1) k) (has_number n) T.scopes k same found) p.fit)
    (masked_keeps (given_until keeps d i) (given_until keeps d (i + 1)) T.scopes rs same p.masked)

-- Where one has.

there : (d : PlaceId) (o : Option Record) (u : ScopeId) → parent_there d o ≡ Some u → (r : Record) × (o ≡ Some r) × (r.home.0 == d.0 ≡ true) × (r.parent ≡ Some u)
there d (Some r) u e =
    (elim (r.home.0 == d.0) as (λ b. r.home.0 == d.0 ≡ b → cond b r.parent None ≡ Some u → (s : Record) × (Some r ≡ Some s) × (s.home.0 == d.0 ≡ true) × (s.parent ≡ Some u)) [
      | true ↦ λ h k. (r, refl, h, k)
      | false ↦ λ h k. cc
    ]) refl e
there d None u e = cc

pub record Hands (T : Tree) (keeps : Scope → Bool) (d : PlaceId) (i a : ℕ) (rs : List (Option (Box Record))) (h : ScopeId) : Type 0 where
  pub from : Record
  pub has_from : record_at rs i ≡ Some from
  pub scope : Scope
  pub faults : length (from.body ++ from.ends) ≡ faults_in scope
  pub found : find (has_number i) T.scopes ≡ Some scope
  pub heir_scope : Scope
  pub found_heir : find (has_number a) T.scopes ≡ Some heir_scope
  pub home : scope.home.0 == d.0 ≡ true
  pub kept : given_until keeps d i scope ≡ true
  pub is_heir : heir (given_until keeps d i) T.scopes h ≡ Some a

abbrev number_id : ℕ → ScopeId
number_id n = record { 0 = n }

hands_to : {size : ℕ} (T : Tree) (keeps : Scope → Bool) (dead : List (Option ℕ)) (d : PlaceId) (i : ℕ) (rs : List (Option (Box Record))) (u : ScopeId) (g : Scope) → Passing size T keeps dead d i rs → find (has_number i) T.scopes ≡ Some g → g.parent ≡ Some u → u.0 < i → heir (given_until keeps d i) T.scopes (number_id i) ≡ keeper (stands_home dead) T.scopes (Some u)
hands_to T keeps dead d i rs u g p found parent older =
    let h : ScopeId = number_id i in
    let K : Scope → Bool = given_until keeps d i in
    let num : g.number.0 ≡ i = number_is i T.scopes g found in
    let off : but h K g ≡ false = ap (λ b. K g && not b) (eq-eqb g.number.0 i num) ∙ and-false (K g) in
    keeper_step T.tasks (but h K) T.next_scope T.scopes h g p.shaped.falls p.shaped.opened found
    ∙ ap (λ b. cond b (Some i) (keeper (but h K) T.scopes g.parent)) off
    ∙ ap (keeper (but h K) T.scopes) parent
    ∙ keeper_low T.tasks (but h K) (stands_home dead) T.next_scope i T.scopes (Some u) p.shaped.falls p.shaped.opened older
    (low_all T.scopes)
  where
    low_all : (gs : List Scope) → Each (λ k. k.number.0 < i → but (number_id i) (given_until keeps d i) k ≡ stands_home dead k) gs
    low_all [] = tt
    low_all (k ∷ ks) = (λ lt. but_low keeps d i (number_id i) k refl lt ∙ sym (p.after k), low_all ks)

both_as : (P : Record → Scope → Type 0) (o : Option Record) (b : Option Scope) (r : Record) (g : Scope) → o ≡ Some r → b ≡ Some g → Both P o b → P r g
both_as P o b r g e k h = subst (λ v. Both P (Some r) v) k (subst (λ v. Both P v b) e h)

pub hands : {size : ℕ} (T : Tree) (keeps : Scope → Bool) (dead : List (Option ℕ)) (d : PlaceId) (i : ℕ) (rs : List (Option (Box Record))) (u a : ScopeId) → Passing size T keeps dead d i rs → parent_there d (record_at rs i) ≡ Some u → keeper (stands_home dead) T.scopes (Some u) ≡ Some a.0 → Hands T keeps d i a.0 rs (number_id i)
hands {size = size} T keeps dead d i rs u a p e at =
    let t = there d (record_at rs i) u e in
    let k = shape_in T rs (number_id i) t.0 p.shaped t.1 in
    let home : k.0.home.0 == d.0 ≡ true = sym (ap (λ (v : PlaceId). v.0 == d.0) k.2.home) ∙ t.2 in
    let parent : k.0.parent ≡ Some u = sym k.2.parent ∙ t.3 in
    let older : u.0 < i = subst (OlderThan i) t.3 (walk_older T rs (number_id i) t.0 p.shaped t.1) in
    let num : k.0.number.0 ≡ i = number_is i T.scopes k.0 k.1 in
    let ga = some-of (find (has_number a.0) T.scopes) (keeper_stands (stands_home dead) a.0 T.scopes (Some u) at) in
    let kept : given_until keeps d i k.0 ≡ true = ap (λ b. b && not ((k.0.home.0 == d.0) && ltb k.0.number.0 i)) (p.lived k.0 home) ∙ ap (λ b. not ((k.0.home.0 == d.0) && b)) (le-ltb k.0.number.0 i (omega arith)) ∙ ap not (and-false (k.0.home.0 == d.0)) in
    let fits : RecordOf size (given_until keeps d i) T.scopes T.tasks t.0 k.0 = both_as (RecordOf size (given_until keeps d i) T.scopes T.tasks) (record_at rs i) (find (has_number i) T.scopes) t.0 k.0 t.1 k.1 (p.fit i) in
    record {
      from = t.0;
      has_from = t.1;
      scope = k.0;
      found = k.1;
      heir_scope = ga.0;
      found_heir = ga.1;
      home = home;
      kept = kept;
      faults = ap (λ xs. length (xs ++ t.0.ends)) (fits.faults kept).0 ∙ ap (λ xs. length (k.0.body ++ xs)) (fits.faults kept).1;
      is_heir = hands_to T keeps dead d i rs u k.0 p k.1 parent older ∙ at;
    }

pub passes_hand : {size : ℕ} (T : Tree) (keeps : Scope → Bool) (dead : List (Option ℕ)) (d : PlaceId) (i : ℕ) (rs ps qs : List (Option (Box Record))) (u a : ScopeId) (given : Sums) → Passing size T keeps dead d i rs → parent_there d (record_at rs i) ≡ Some u → keeper (stands_home dead) T.scopes (Some u) ≡ Some a.0 → IfSome (record_at rs i) (λ r. given ≡ given_by r) → ChangedBy Emptied i rs ps → ChangedBy (Gained given) a.0 ps qs → Passing size T keeps dead d (i + 1) qs
passes_hand T keeps dead d i rs ps qs u a given p e at took emptied gained =
    let h : Hands T keeps d i a.0 rs (number_id i) = hands T keeps dead d i rs u a p e at in
    let same : Each (λ k. but (number_id i) (given_until keeps d i) k ≡ given_until keeps d (i + 1) k) T.scopes = each_more (λ k. k.number.0 ≡ i → k.home.0 == d.0 ≡ true) (λ k. but (number_id i) (given_until keeps d i) k ≡ given_until keeps d (i + 1) k) (λ (k : Scope) v. but_next keeps d i (number_id i) k refl v) T.scopes (each_at i T.next_scope (λ k. k.home.0 == d.0 ≡ true) T.scopes p.shaped.falls (λ g found. let f = h.found in let is : h.scope ≡ g = cc in subst (λ (v : Scope). v.home.0 == d.0 ≡ true) is h.home)) in
    next_turn T keeps dead d i rs qs p
    (all_keeps _ (but (number_id i) (given_until keeps d i)) (given_until keeps d (i + 1)) T.scopes T.tasks qs same (λ n k found. each_found (λ k. but (number_id i) (given_until keeps d i) k ≡ given_until keeps d (i + 1) k) (has_number n) T.scopes k same found)
    (all_hand _ (given_until keeps d i) (number_id i) a.0 T.next_scope T.scopes T.tasks rs ps qs given h.scope h.heir_scope p.shaped.falls h.found h.found_heir h.kept h.is_heir took emptied gained p.fit))
    (masked_keeps (but (number_id i) (given_until keeps d i)) (given_until keeps d (i + 1)) T.scopes qs same
    (masked_hand (given_until keeps d i) (number_id i) a.0 T.next_scope T.scopes rs ps qs given h.scope h.from p.shaped.falls h.found h.kept h.is_heir h.has_from h.faults (subst (λ o. IfSome o (λ r. given ≡ given_by r)) h.has_from took) emptied gained p.masked))

-- there is always an heir
pub heir_exists : {size : ℕ} (T : Tree) (keeps : Scope → Bool) (dead : List (Option ℕ)) (d : PlaceId) (i : ℕ) (rs : List (Option (Box Record))) (u : ScopeId) → Passing size T keeps dead d i rs → parent_there d (record_at rs i) ≡ Some u → is_some (keeper (stands_home dead) T.scopes (Some u)) ≡ true
heir_exists T keeps dead d i rs u p e =
    let t = there d (record_at rs i) u e in
    let k = shape_in T rs (number_id i) t.0 p.shaped t.1 in
    keeper_exists (stands_home dead) T.scopes (Some u) p.root (parent_rooted T.tasks (has_number i) T.next_scope T.scopes k.0 u p.shaped.falls p.shaped.opened k.1 (sym k.2.parent ∙ t.3))

-- the sums of both fit
pub pour_ok : {size : ℕ} (T : Tree) (keeps : Scope → Bool) (dead : List (Option ℕ)) (d : PlaceId) (i : ℕ) (rs ps : List (Option (Box Record))) (u a : ScopeId) (given : Sums) → Passing size T keeps dead d i rs → parent_there d (record_at rs i) ≡ Some u → keeper (stands_home dead) T.scopes (Some u) ≡ Some a.0 → IfSome (record_at rs i) (λ r. given ≡ given_by r) → ChangedBy Emptied i rs ps → (a.0 < length ps) × IfSome (record_at ps a.0) (MayGain given)
pour_ok {size = size} T keeps dead d i rs ps u a given p e at took emptied =
    let h : Hands T keeps d i a.0 rs (number_id i) = hands T keeps dead d i rs u a p e at in
    let K : Scope → Bool = given_until keeps d i in
    let n : ℕ = T.next_scope in
    let apart : a.0 ≡ i → ⊥ = λ v. true≢false (sym (ap (is_number i) h.is_heir ∙ eq-eqb a.0 i v) ∙ never_but K (number_id i) T.scopes (Some (number_id i))) in
    let is : is_number a.0 (heir K T.scopes (number_id i)) ≡ true = ap (is_number a.0) h.is_heir ∙ eq-eqb a.0 a.0 refl in
    let giver = both_found (RecordOf size K T.scopes T.tasks) (record_at rs i) (find (has_number i) T.scopes) h.scope (p.fit i) h.found in
    let taker = both_found (RecordOf size K T.scopes T.tasks) (record_at rs a.0) (find (has_number a.0) T.scopes) h.heir_scope (p.fit a.0) h.found_heir in
    let is_given : given ≡ given_by giver.0 = subst (λ o. IfSome o (λ r. given ≡ given_by r)) giver.1 took in
    let has : record_at ps a.0 ≡ Some taker.0 = emptied.others a.0 apart ∙ taker.1 in
    let mine : SumsOf K T.scopes T.tasks taker.0.sums a.0 = subst (SumsOf K T.scopes T.tasks taker.0.sums) (number_is a.0 T.scopes h.heir_scope h.found_heir) taker.2.sums in
    let his : SumsOf K T.scopes T.tasks given i = subst (λ (v : Sums). SumsOf K T.scopes T.tasks v i) (sym is_given) (sums_masking K T.scopes T.tasks giver.0.sums i (length (giver.0.body ++ giver.0.ends)) (subst (SumsOf K T.scopes T.tasks giver.0.sums) (number_is i T.scopes h.scope h.found) giver.2.sums)) in
    let alike : given.places ≡ taker.0.sums.places =
    ap (λ (v : Sums). v.places) is_given ∙ giver.2.places h.kept
    ∙ sym (taker.2.places (and_parts (K h.heir_scope) (not (is_scope (number_id i) h.heir_scope)) (keeper_keeps (but (number_id i) K) T.next_scope a.0 T.scopes (Some (number_id i)) h.heir_scope p.shaped.falls h.is_heir h.found_heir)).0) in
    let few_t : length T.tasks < 2 ^ 32 = p.few_tasks in
    let few_s : length T.scopes < 2 ^ 32 = p.few_scopes in (
      below_length ps a.0 taker.0 has,
      subst (λ o. IfSome o (MayGain given)) (sym has)
          (record {
            places = alike;
            cells = his.cells ∙ ap table_size alike ∙ sym mine.cells;
            counts = λ k low.
                let n : ℕ = taker.0.sums.places in
                let in_table : k < table_size n = subst (λ (m : ℕ). k < m) mine.cells low in
                let w = unslot n k in
                let cell : slot n w ≡ k = slot_of_unslot n k in_table in
                let c1 : slice_index_or taker.0.sums.counts k 0 ≡ count_of K T.scopes T.tasks a.0 w = ap (λ j. slice_index_or taker.0.sums.counts j 0) (sym cell) ∙ mine.counts w in
                let c2 : slice_index_or given.counts k 0 ≡ count_of K T.scopes T.tasks i w = ap (λ j. slice_index_or given.counts j 0) (sym (ap (λ m. slot m w) alike ∙ cell)) ∙ his.counts w in
                let s = count_heir (λ t. is_none t.struck && same_where w t.place) K (number_id i) a.0 T.next_scope T.scopes T.tasks p.shaped.falls apart is in
                let b = count_by-le-length (λ t. (is_none t.struck && same_where w t.place) && kept_at (but (number_id i) K) T.scopes a.0 t) T.tasks in
                below4 c1 c2 s b few_t;
            total =
                let c1 = mine.total in
                let c2 = his.total in
                let s = count_heir (λ t. is_none t.struck) K (number_id i) a.0 n T.scopes T.tasks p.shaped.falls apart is in
                let b = count_by-le-length (λ t. is_none t.struck && kept_at (but (number_id i) K) T.scopes a.0 t) T.tasks in
                omega arith;
            orphans =
                let c1 = mine.orphans in
                let c2 = his.orphans in
                let s = orphans_heir K (number_id i) a.0 n T.scopes h.scope p.shaped.falls h.found h.kept apart is in
                let b = count_by-le-length (is_orphan (but (number_id i) K) T.scopes a.0) T.scopes in
                omega arith;
          }),
    )
  where
    below4 : {x y v w s l : ℕ} → x ≡ v → y ≡ w → s ≡ v + w → s ≤ l → l < 2 ^ 32 → x + y < 2 ^ 32
    below4 c1 c2 s b few = omega arith
