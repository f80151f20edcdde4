-- What a release leaves.
use Rattle.std.proofs.Common.{◌≡◌, ℕ, ◌<◌, min, Bool, true, false, not, ◌&&◌, ◌==◌, List, [], ◌∷◌, ◌++◌, filter, length, sum_by, Some, None, is_some, option_map, Result, Ok, Err, OnOk, slice_index_or, slice_set, refl, sym, ap, ◌∙◌, lit<}
use Rattle.std.specs.List.{find, list_any}
use Rattle.std.proofs.lemmas.Bool.{eq-eqb}
use Rattle.std.proofs.lemmas.List.Elements.{filter_agree}
use Rattle.rx_rules.proofs.Common.{PlaceId, PlaceSet, ScopeId, Fault, all_places, members, has_bit, Tree, is_scope, is_under, on_chain, chain_in, quiet, MayFree, without, thrown_of, was_lost_at, change_first}
use Rattle.rx_rules.specs.declared.tasks.Task.{Task}
use Rattle.rx_rules.specs.declared.tasks.Scope.{Scope}
use Rattle.rx_rules.proofs.Widths.{sixteen_places}
use Rattle.rx_tree.specs.Inside.Positions.{IsFirst}
use Rattle.rx_tree.specs.Inside.Removal.{holds_scope}
use Rattle.rx_tree.proofs.Firsts.{at_first}

-- a walk that found nothing
none_found : {X : Type 0} (p : X → Bool) (g : X → PlaceId) (x : X) (xs : List X) (b : Bool) → p x ≡ b → option_map g (find p (x ∷ xs)) ≡ None → (option_map g (find p xs) ≡ None → not (list_any p xs) ≡ true) → not (list_any p (x ∷ xs)) ≡ true
none_found p g x xs true e h ih = let bad : Some (g x) ≡ None = rw e at h in cc
none_found p g x xs false e h ih = let rest : option_map g (find p xs) ≡ None = rw e at h in rw e (ih rest)

pub find_none : {X : Type 0} (p : X → Bool) (g : X → PlaceId) (xs : List X) → option_map g (find p xs) ≡ None → not (list_any p xs) ≡ true
find_none p g [] h = refl
find_none p g (x ∷ xs) h = none_found p g x xs (p x) refl h (find_none p g xs)

-- a walk that found one
abbrev pub Found : {X : Type 0} → (X → Bool) → (X → PlaceId) → List X → PlaceId → Type 0
Found p g xs q = (not (list_any p xs) ≡ false) × (list_any (λ x. p x && ((g x).0 == q.0)) xs ≡ true)

one_found : {X : Type 0} (p : X → Bool) (g : X → PlaceId) (x : X) (xs : List X) (q : PlaceId) (b : Bool) → p x ≡ b → option_map g (find p (x ∷ xs)) ≡ Some q → (option_map g (find p xs) ≡ Some q → Found p g xs q) → Found p g (x ∷ xs) q
one_found p g x xs q true e h ih =
    let same : Some (g x) ≡ Some q = rw e at h in
    let here : g x ≡ q = cc in
    let k : ((g x).0 == q.0) ≡ true = eq-eqb (g x).0 q.0 (ap (λ v. v.0) here) in
    (rw e, rw (e, k))
one_found p g x xs q false e h ih = let rest : option_map g (find p xs) ≡ Some q = rw e at h in (rw e (ih rest).0, rw e (ih rest).1)

pub find_some : {X : Type 0} (p : X → Bool) (g : X → PlaceId) (xs : List X) (q : PlaceId) → option_map g (find p xs) ≡ Some q → Found p g xs q
find_some p g [] q h = cc
find_some p g (x ∷ xs) q h = one_found p g x xs q (p x) refl h (find_some p g xs q)

-- sets by their bits
abbrev Below : List ℕ → Type 0
Below [] = Unit {0}
Below (x ∷ xs) = (x < 16) × Below xs

agree_below : (f g : ℕ → Bool) (xs : List ℕ) → Below xs → ((q : ℕ) → q < 16 → f q ≡ g q) → filter f xs ≡ filter g xs
agree_below f g [] b h = refl
agree_below f g (x ∷ xs) b h = rw (h x b.0, agree_below f g xs b.1 h)

pub members_are : (s : PlaceSet) (f : ℕ → Bool) → ((q : ℕ) → q < 16 → has_bit s.0 q ≡ f q) → members s ≡ filter f all_places
members_are s f h =
    agree_below (has_bit s.0) f all_places
    (lit< tt, (lit< tt, (lit< tt, (lit< tt, (lit< tt, (lit< tt, (lit< tt, (lit< tt, (lit< tt, (lit< tt, (lit< tt, (lit< tt, (lit< tt, (lit< tt, (lit< tt, (lit< tt, tt))))))))))))))))
    h

any_agree : {X : Type 0} (p q : X → Bool) → ((x : X) → p x ≡ q x) → (xs : List X) → list_any p xs ≡ list_any q xs
any_agree p q h [] = refl
any_agree p q h (x ∷ xs) = rw (h x, any_agree p q h xs)

-- what a release names and counts, where the scopes under it were gathered
pub names : (T : Tree) (s : ScopeId) → length T.dead ≡ 16 → (inside : List ScopeId) (lost : PlaceSet) (masked : ℕ) (thrown : List Fault) → ((r : ScopeId) → holds_scope inside r ≡ list_any (is_scope s) (chain_in T.scopes (Some r))) → quiet T s ≡ true → members lost ≡ filter (λ p. list_any (λ x. holds_scope inside x.under && was_lost_at p x) T.tasks) all_places → masked ≡ min 4294967295 (sum_by (λ g. length (g.body ++ g.ends)) (filter (λ g. holds_scope inside g.number && not (is_scope s g)) T.scopes)) → thrown ≡ thrown_of T s → MayFree T s lost masked thrown
names T s size inside lost masked thrown h q l m t =
    record {
      is_quiet = q;
      places = l ∙ filter_agree (λ p. list_any (λ x. holds_scope inside x.under && was_lost_at p x) T.tasks) (λ p. list_any (λ x. is_under T s x && was_lost_at p x) T.tasks) (λ p. any_agree (λ x. holds_scope inside x.under && was_lost_at p x) (λ x. is_under T s x && was_lost_at p x) (λ x. ap (λ b. b && was_lost_at p x) (h x.under)) T.tasks) all_places
          ∙ ap (filter (λ p. list_any (λ x. is_under T s x && was_lost_at p x) T.tasks)) (sym (sixteen_places T size));
      count = m ∙ ap (λ (gs : List Scope). min 4294967295 (sum_by (λ g. length (g.body ++ g.ends)) gs)) (filter_agree (λ g. holds_scope inside g.number && not (is_scope s g)) (λ g. on_chain T s g.number && not (is_scope s g)) (λ g. ap (λ b. b && not (is_scope s g)) (h g.number)) T.scopes);
      faults = t;
    }

-- and what it leaves
pub leaves : (T T' : Tree) (s : ScopeId) (inside : List ScopeId) → ((r : ScopeId) → holds_scope inside r ≡ list_any (is_scope s) (chain_in T.scopes (Some r))) → T' ≡ record T { tasks = filter (λ x. not (holds_scope inside x.under && is_some x.struck)) T.tasks; gone = T.gone ++ filter (λ x. holds_scope inside x.under && is_some x.struck) T.tasks; scopes = filter (λ g. not (holds_scope inside g.number)) T.scopes } → T' ≡ without T s
leaves T T' s inside h e =
    let a : filter (λ x. not (holds_scope inside x.under && is_some x.struck)) T.tasks ≡ filter (λ x. not (is_under T s x && is_some x.struck)) T.tasks = filter_agree _ _ (λ x. ap (λ b. not (b && is_some x.struck)) (h x.under)) T.tasks in
    let b : filter (λ x. holds_scope inside x.under && is_some x.struck) T.tasks ≡ filter (λ x. is_under T s x && is_some x.struck) T.tasks = filter_agree _ _ (λ x. ap (λ b. b && is_some x.struck) (h x.under)) T.tasks in
    let g : filter (λ g. not (holds_scope inside g.number)) T.scopes ≡ filter (λ g. not (on_chain T s g.number)) T.scopes = filter_agree _ _ (λ g. ap not (h g.number)) T.scopes in
    e ∙ (ap (λ xs. record T { tasks = xs; gone = T.gone ++ filter (λ x. holds_scope inside x.under && is_some x.struck) T.tasks; scopes = filter (λ g. not (holds_scope inside g.number)) T.scopes }) a
    ∙ (ap (λ xs. record T { tasks = filter (λ x. not (is_under T s x && is_some x.struck)) T.tasks; gone = T.gone ++ xs; scopes = filter (λ g. not (holds_scope inside g.number)) T.scopes }) b
    ∙ ap (λ xs. record T { tasks = filter (λ x. not (is_under T s x && is_some x.struck)) T.tasks; gone = T.gone ++ filter (λ x. is_under T s x && is_some x.struck) T.tasks; scopes = xs }) g))

-- faults that joined a scope's
pub noted : {E : Type 0} (r : Result Unit E) (xs : List Scope) (i : ℕ) (d : Scope) (s : ScopeId) (thrown new : List Fault) → IsFirst (is_scope s) xs i → OnOk r (new ≡ (slice_index_or xs i d).ends ++ thrown) → OnOk r (slice_set xs i (record (slice_index_or xs i d) { ends = new }) ≡ change_first (is_scope s) (λ g. record g { ends = g.ends ++ thrown }) xs)
noted (Ok u) xs i d s thrown new h e =
    ap (λ fs. slice_set xs i (record (slice_index_or xs i d) { ends = fs })) e
    ∙ at_first (is_scope s) (λ g. record g { ends = g.ends ++ thrown }) xs i d h
noted (Err f) xs i d s thrown new h e = tt

-- three lists of a tree
pub three : (T : Tree) (xs ys zs ws : List Task) (gs hs : List Scope) → xs ≡ ys → zs ≡ ws → gs ≡ hs → record T { tasks = xs; gone = zs; scopes = gs } ≡ record T { tasks = ys; gone = ws; scopes = hs }
three T xs ys zs ws gs hs a b c =
    ap (λ (v : List Task). record T { tasks = v; gone = zs; scopes = gs }) a
    ∙ (ap (λ (v : List Task). record T { tasks = ys; gone = v; scopes = gs }) b
    ∙ ap (λ (v : List Scope). record T { tasks = ys; gone = ws; scopes = v }) c)
