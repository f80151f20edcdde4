-- A release that masks faults names lost places.
use Rattle.std.proofs.Common.{◌≡◌, ◌≢◌, ℕ, zero, suc, ◌+◌, ◌<◌, ◌≤◌, min, Bool, true, false, cond, not, ◌||◌, ◌&&◌, List, [], ◌∷◌, ◌++◌, length, filter, sum_by, slice_get, Option, Some, None, option_map, slice_index_or, All, refl, sym, ap, ◌∙◌, subst, arith}
use Rattle.std.specs.List.{find, list_any, range_with_len}
use Rattle.std.proofs.lemmas.Bool.{eq-eqb, true≢false, or_right, false_from_ne_true}
use Rattle.rx_rules.proofs.Common.{PlaceId, TaskId, ScopeId, PlaceSet, Fault, members, Tree, is_task, is_scope, opened_by, on_chain, is_under, quiet, the_root, was_lost_at, lost_under, masked_under, WorksIn, MayFree, Allowed, made, wide_opening, places_of, AllAllowed, Reached, IsOlder, opens}
use Rattle.rx_rules.specs.declared.tasks.Where.TheVariants.{At}
use Rattle.rx_rules.specs.declared.tasks.Blow.{Blow}
use Rattle.rx_rules.specs.declared.tasks.Task.{Task}
use Rattle.rx_rules.specs.declared.tasks.Scope.{Scope}
use Rattle.rx_rules.specs.declared.entries.Act.TheVariants.{Open, At as Calls, Spawn, Arrive, Wait, Release, End, Print, Census}
use Rattle.rx_rules.specs.declared.entries.Entry.{Entry}
use Rattle.rx_rules.specs.declared.entries.Entry.TheVariants.{Step, Root, Death, Join}
use Rattle.rx_rules.specs.Inversions.{MaskedMeansLost, MaskedIsLost, WideMaskedIsLost}
use Rattle.rx_tree_laws.specs.Blows.{death_blow, blow_at}
use Rattle.rx_tree_laws.specs.Chains.{meets, HasOpener, Opened, Falls}
use Rattle.rx_tree_laws.specs.Sound.{Each, Inside, Sound}
use Rattle.rx_tree_laws.proofs.Changes.{each_found, each_more}
use Rattle.rx_tree_laws.proofs.Chains.{met_below, meets_skips}
use Rattle.rx_tree_laws.proofs.Opening.{met_head, root_unopened}
use Rattle.rx_tree_laws.proofs.Releasing.{each_below, each_both, each_none, on_meets}
use Rattle.rx_tree_laws.proofs.Reach.{fits_of}
use Rattle.rx_tree_laws.proofs.Reached.{sound}
use Rattle.rx_tree_laws.proofs.Below.{missed_later, one_opener, free_of}
use Rattle.rx_tree_laws.proofs.Histories.{dead-now, reached_now, none_yet_of}

-- Of the scopes that stand, where no opener that is at its place is under s, s alone is below s.

-- no opener that is at its place is under s
abbrev NoneUnder : List Task → List Scope → ScopeId → Type 0
NoneUnder ts gs s = (o : TaskId) (x : Task) (p : PlaceId) → find (is_task o) ts ≡ Some x → x.place ≡ At p → meets s gs (Some x.under) ≡ false

-- who opened s has opened none after it
abbrev NoneAfter : List Scope → ScopeId → Type 0
NoneAfter gs s = (o : TaskId) → list_any (λ k. is_scope s k && opened_by o k) gs ≡ true → Each (λ k. opened_by o k ≡ true → k.number.0 ≤ s.0) gs

head_alone : (ts : List Task) (n : ℕ) (g : Scope) (gs : List Scope) (s : ScopeId) (w : Option TaskId) → g.opener ≡ w → Falls n (g ∷ gs) → HasOpener ts g gs w → NoneUnder ts (g ∷ gs) s → NoneAfter (g ∷ gs) s → meets s gs g.parent ≡ true → ⊥
head_alone ts n g gs s None e f h free own m =
    true≢false (sym m ∙ ap (λ l. meets s l g.parent) h.0)
head_alone ts n g gs s (Some o) e f h free own m = by_shared (list_any (λ k. is_scope s k && opened_by o k) gs) refl where
  by_shared : (b : Bool) → list_any (λ k. is_scope s k && opened_by o k) gs ≡ b → ⊥
  by_shared false a = true≢false (sym (h.above s m a) ∙ missed_later s n g gs h.task.under f (free o h.task g.home h.stands h.at_home))
  by_shared true a =
      let mine : opened_by o g ≡ true = rw (e, eq-eqb o.0 o.0 refl) in
      let most : g.number.0 ≤ s.0 = (own o (or_right (is_scope s g && opened_by o g) (list_any (λ k. is_scope s k && opened_by o k) gs) a)).0 mine in
      let low : s.0 < g.number.0 = met_below s g.number.0 gs g.parent f.1 m in
      omega (arith, most, low)

alone : (ts : List Task) (n : ℕ) (gs : List Scope) (s : ScopeId) → Falls n gs → Opened ts gs → NoneUnder ts gs s → NoneAfter gs s → Each (λ g. meets s gs (Some g.number) ≡ true → is_scope s g ≡ true) gs
alone ts n [] s f h free own = tt
alone ts n (g ∷ gs) s f h free own = (
  λ m. by_head (is_scope s g) refl (sym (met_head s g gs) ∙ m),
  each_more (λ k. (k.number.0 < g.number.0) × (meets s gs (Some k.number) ≡ true → is_scope s k ≡ true)) (λ k. meets s (g ∷ gs) (Some k.number) ≡ true → is_scope s k ≡ true) (λ k b m. b.1 (sym (meets_skips s g gs k.number b.0) ∙ m)) gs
      (each_both (λ k. k.number.0 < g.number.0) (λ k. meets s gs (Some k.number) ≡ true → is_scope s k ≡ true) gs (each_below g.number.0 gs f.1)
      (alone ts g.number.0 gs s f.1 h.1
      (λ o x p found at. missed_later s n g gs x.under f (free o x p found at))
      (λ o a. (own o (or_right (is_scope s g && opened_by o g) (list_any (λ k. is_scope s k && opened_by o k) gs) a)).1))),
)
  where
    by_head : (b : Bool) → is_scope s g ≡ b → (b || meets s gs g.parent) ≡ true → is_scope s g ≡ true
    by_head true e m = e
    by_head false e m = absurd (head_alone ts n g gs s g.opener refl f h.0 free own m)

-- Where nothing is lost under a quiet scope, nobody is under it.

none_kept : {X : Type 0} (f : X → Bool) (xs : List X) (i : ℕ) (x : X) → filter f xs ≡ [] → slice_get xs i ≡ Some x → f x ≡ false
none_kept f [] i x e g = cc
none_kept f (y ∷ ys) i x e g = by_head (f y) refl i e g (λ j k. none_kept f ys j x k) where
  by_head : (b : Bool) → f y ≡ b → (i : ℕ) → cond b (y ∷ filter f ys) (filter f ys) ≡ [] → slice_get (y ∷ ys) i ≡ Some x → ((j : ℕ) → filter f ys ≡ [] → slice_get ys j ≡ Some x → f x ≡ false) → f x ≡ false
  by_head true w i k g more = cc
  by_head false w zero k g more = let same : y ≡ x = cc in ap f (sym same) ∙ w
  by_head false w (suc j) k g more = more j k g

-- each place stands at its own number
counted : (a n k : ℕ) → k < n → slice_get (range_with_len a n) k ≡ Some (a + k)
counted a zero k low = absurd (omega (arith, low))
counted a (suc n) zero low = ap Some (omega arith)
counted a (suc n) (suc k) low = counted (a + 1) n k (omega (arith, low)) ∙ ap Some (omega arith)

blow-place : (dead : List (Option ℕ)) (p : PlaceId) (b : Blow) → death_blow dead p ≡ Some b → b.place ≡ p
blow-place dead p b e = by_death (slice_index_or dead p.0 None) refl e where
  by_death : (o : Option ℕ) → slice_index_or dead p.0 None ≡ o → option_map (λ n. let w : Blow = record { place = p; entry = n } in w) o ≡ Some b → b.place ≡ p
  by_death None w k = cc
  by_death (Some n) w k = cc

none_under : (T : Tree) (s : ScopeId) → Sound T → quiet T s ≡ true → lost_under T s ≡ [] → NoneUnder T.tasks T.scopes s
none_under T s h still lost o x p found at = by_blow x.struck refl where
  by_blow : (w : Option Blow) → x.struck ≡ w → meets s T.scopes (Some x.under) ≡ false
  by_blow None e = free_of T s o x still found e
  by_blow (Some b) e =
      let fits = fits_of T o x h found in
      let same : b.place ≡ p = blow-place T.dead p b (sym (fits.struck ∙ ap (λ w. blow_at T.dead w) at) ∙ e) in
      let low : p.0 < T.places = subst (Inside T.places) at fits.inside in
      let few : T.places ≤ length T.dead = h.few in
      let none : list_any (λ y. is_under T s y && was_lost_at p.0 y) T.tasks ≡ false = none_kept (λ q. list_any (λ y. is_under T s y && was_lost_at q y) T.tasks) (places_of T) p.0 p.0 lost (counted 0 (length T.dead) p.0 (omega (arith, low, few)) ∙ ap Some (omega arith)) in
      let one : (is_under T s x && was_lost_at p.0 x) ≡ false = each_found (λ y. (is_under T s y && was_lost_at p.0 y) ≡ false) (is_task o) T.tasks x (each_none (λ y. is_under T s y && was_lost_at p.0 y) T.tasks none) found in
      let there : was_lost_at p.0 x ≡ true = rw e (eq-eqb b.place.0 p.0 (ap (λ (v : PlaceId). v.0) same)) in
      sym (on_meets s T.scopes (Some x.under)) ∙ false_from_ne_true (is_under T s x) (λ u. true≢false (sym (rw (u, there) refl) ∙ one))

-- Who opened s.

newest : (p : Scope → Bool) (n : ℕ) (gs : List Scope) (k : Scope) → Falls n gs → find p gs ≡ Some k → Each (λ h. p h ≡ true → h.number.0 ≤ k.number.0) gs
newest p n [] k f e = tt
newest p n (g ∷ gs) k f e = by_head (p g) refl e (newest p g.number.0 gs k f.1) where
  by_head : (b : Bool) → p g ≡ b → cond b (Some g) (find p gs) ≡ Some k → (find p gs ≡ Some k → Each (λ h. p h ≡ true → h.number.0 ≤ k.number.0) gs) → Each (λ h. p h ≡ true → h.number.0 ≤ k.number.0) (g ∷ gs)
  by_head true w q more =
      let same : g.number.0 ≡ k.number.0 = (let it : g ≡ k = cc in ap (λ (v : Scope). v.number.0) it) in (
        λ m. omega (arith, same),
        each_more (λ h. h.number.0 < g.number.0) (λ h. p h ≡ true → h.number.0 ≤ k.number.0) (λ h low m. omega (arith, same, low)) gs (each_below g.number.0 gs f.1),
      )
  by_head false w q more = (λ m. absurd (true≢false (sym m ∙ w)), more q)

-- a task that releases its last scope has opened none after it
after_own : (T : Tree) (t : TaskId) (s : ScopeId) (g : Scope) → Sound T → WorksIn T t s g → NoneAfter T.scopes s
after_own T t s g h own o a =
    let num : o.0 ≡ t.0 = one_opener T.next_scope T.scopes t o g h.falls own.0 (subst (λ (v : ScopeId). list_any (λ k. is_scope v k && opened_by o k) T.scopes ≡ true) (sym own.1) a) in
    let same : o ≡ t = ap (λ (n : ℕ). let q : TaskId = record { 0 = n } in q) num in
    let last : Each (λ k. opened_by t k ≡ true → k.number.0 ≤ g.number.0) T.scopes = newest (opened_by t) T.next_scope T.scopes g h.falls own.0 in
    subst (λ (v : ScopeId). Each (λ k. opened_by o k ≡ true → k.number.0 ≤ v.0) T.scopes) own.1
    (subst (λ (v : TaskId). Each (λ k. opened_by v k ≡ true → k.number.0 ≤ g.number.0) T.scopes) (sym same) last)

after_root : (T : Tree) → Sound T → NoneAfter T.scopes the_root
after_root T h o a = absurd (true≢false (sym a ∙ root_unopened T.tasks T.scopes o h.opened))

-- So no scope below it holds a fault.

filter_none : {X : Type 0} (f : X → Bool) (xs : List X) → Each (λ x. f x ≡ false) xs → filter f xs ≡ []
filter_none f [] h = refl
filter_none f (x ∷ xs) h = rw h.0 (filter_none f xs h.1)

not_below : (T : Tree) (s : ScopeId) (g : Scope) → (meets s T.scopes (Some g.number) ≡ true → is_scope s g ≡ true) → (on_chain T s g.number && not (is_scope s g)) ≡ false
not_below T s g h = by_met (on_chain T s g.number) refl where
  by_met : (b : Bool) → on_chain T s g.number ≡ b → (b && not (is_scope s g)) ≡ false
  by_met true e = ap not (h (sym (on_meets s T.scopes (Some g.number)) ∙ e))
  by_met false e = refl

none_masked : (T : Tree) (s : ScopeId) → Sound T → quiet T s ≡ true → NoneAfter T.scopes s → lost_under T s ≡ [] → masked_under T s ≡ 0
none_masked T s h still own lost =
    let none : filter (λ g. on_chain T s g.number && not (is_scope s g)) T.scopes ≡ [] = filter_none (λ g. on_chain T s g.number && not (is_scope s g)) T.scopes
    (each_more (λ g. meets s T.scopes (Some g.number) ≡ true → is_scope s g ≡ true) (λ g. (on_chain T s g.number && not (is_scope s g)) ≡ false) (not_below T s) T.scopes
    (alone T.tasks T.next_scope T.scopes s h.falls h.opened (none_under T s h still lost) own)) in
    ap (λ gs. min 4294967295 (sum_by (λ (g : Scope). length (g.body ++ g.ends)) gs)) none

masked-loses : (T : Tree) (s : ScopeId) (lost : PlaceSet) (masked : ℕ) (thrown : List Fault) → Sound T → NoneAfter T.scopes s → MayFree T s lost masked thrown → masked ≢ 0 → members lost ≢ []
masked-loses T s lost masked thrown h own may some none =
    some (may.count ∙ none_masked T s h may.is_quiet own (sym may.places ∙ none))

-- The same of each entry of a history.

at_entry : (T : Tree) (e : Entry) → Reached T → Allowed T e → MaskedMeansLost e
at_entry T (Step t (Release s lost masked thrown) batch) r a =
    masked-loses T s lost masked thrown (sound r) (after_own T t s a.asks.1 (sound r) a.asks.2) a.asks.3
at_entry T (Root lost masked thrown) r a = masked-loses T the_root lost masked thrown (sound r) (after_root T (sound r)) a.2
at_entry T (Step t (Open s p path) batch) r a = tt
at_entry T (Step t (Calls from to s p c path) batch) r a = tt
at_entry T (Step t (Spawn c s from to path) batch) r a = tt
at_entry T (Step t (Arrive p) batch) r a = tt
at_entry T (Step t (Wait s thrown) batch) r a = tt
at_entry T (Step t (End thrown) batch) r a = tt
at_entry T (Step t (Print value path) batch) r a = tt
at_entry T (Step t (Census places path) batch) r a = tt
at_entry T (Death d) r a = tt
at_entry T (Join d) r a = tt

from-tree : (n : ℕ) (T : Tree) (es : List Entry) → Reached T → All (IsOlder n) T.dead → AllAllowed n T es → (i : ℕ) (e : Entry) → slice_get es i ≡ Some e → MaskedMeansLost e
from-tree n T [] r o a i e g = cc
from-tree n T (x ∷ es) r o a zero e g = let same : x ≡ e = cc in subst MaskedMeansLost same (at_entry T x r a.0)
from-tree n T (x ∷ es) r o a (suc i) e g = from-tree (suc n) (made n T x) es (reached_now n T x r o a.0) (dead-now n T x o) a.1 i e g

pub wide-masked-lost : WideMaskedIsLost
wide-masked-lost limit places es low few a i e g = from-tree 0 (wide_opening limit places) es (opens places low few) (none_yet_of limit) a i e g

pub masked-lost : MaskedIsLost
masked-lost = wide-masked-lost 16
