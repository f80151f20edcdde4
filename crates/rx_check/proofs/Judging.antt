-- The walk finds the first statement that fails a rule.
use Rattle.std.proofs.Common.{◌≡◌, ℕ, zero, suc, ◌<◌, ◌≤◌, ◌==◌, nat_lt, nat_le, Bool, true, false, not, ◌&&◌, ◌||◌, List, [], ◌∷◌, ◌++◌, length, map, Option, Some, None, is_some, inl, inr, refl, ap, sym, ◌∙◌, arith, Result, Ok, Err, slice_get, if◌then◌else◌}
use Rattle.std.specs.List.{list_all}
use Rattle.std.proofs.lemmas.List.Folds.{list_all-append}
use Rattle.std.proofs.lemmas.Bool.Decides.{nat_tests}
use Rattle.std.proofs.lemmas.Bool.{eqb-true, not-false, lt-ltb, le-ltb}
use Rattle.std.proofs.Math.Bool.{and-false, and-true}
use Rattle.rx_base.proofs.Numbers.{eq-refl}
use Rattle.rx_base.proofs.Bools.{or-assoc, and-first, and-second}
use Rattle.rx_base.proofs.Elements.{length-push}
use Rattle.rx_rules.proofs.Common.{Stmt, Async, AtAsync, At, Finish, If, Repeat, Try, Block, Nothing, Then, work, has}
use Rattle.rx_check.specs.Rules.{Kind, ANumber, AReference, exprs_of, targets_of, assigned, Sight, learned, inside, sights, nodes, same_kind, kind_after, kind_of, is_kind, more_names, names_after, names_of_all, fails_known, gets_other, fails_kind, fails_depth, is_name, fails_count, rule_of, found, first_fault, or_work, verdict}
use Rattle.rx_check.specs.Inside.Walk.{kind_in, Sofar, differs, gets_other_kind, is_one_more, mistakes_kind, rule_with, seen_with, noted, sight_stepped, and_on, sights_run, cap}
use Rattle.rx_check.proofs.Statements.{least}
use Rattle.rx_check.proofs.Capping.{cap-cases}

-- the names of those assigned so far
abbrev pub names_of : List (ℕ × Kind) → List ℕ
names_of seen = map (λ x. x.0) seen

-- the first of two that is there
abbrev pub or_else : Option Kind → Option Kind → Option Kind
or_else (Some k) o = Some k
or_else None o = o

eq-swap : (a b : ℕ) → (a == b) ≡ (b == a)
eq-swap a b = grind (arith, nat_tests)

-- kinds
kind-head : (b : Bool) (k : Kind) (o p : Option Kind) → (if b then Some k else or_else o p) ≡ or_else (if b then Some k else o) p
kind-head true k o p = refl
kind-head false k o p = refl

kind-in-append : (xs ys : List (ℕ × Kind)) (n : ℕ) → kind_in (xs ++ ys) n ≡ or_else (kind_in xs n) (kind_in ys n)
kind-in-append [] ys n = refl
kind-in-append (x ∷ xs) ys n = ap (λ o. if x.0 == n then Some x.1 else o) (kind-in-append xs ys n) ∙ kind-head (x.0 == n) x.1 (kind_in xs n) (kind_in ys n)

kind-after-else : (a : Option (ℕ × Kind)) (n : ℕ) (o p : Option Kind) → kind_after a n (or_else o p) ≡ or_else (kind_after a n o) p
kind-after-else (Some x) n o p = kind-head (x.0 == n) x.1 o p
kind-after-else None n o p = refl

kind-of-append : (xs ys : List Sight) (n : ℕ) → kind_of (xs ++ ys) n ≡ or_else (kind_of xs n) (kind_of ys n)
kind-of-append [] ys n = refl
kind-of-append (x ∷ xs) ys n = ap (kind_after (assigned x.stmt) n) (kind-of-append xs ys n) ∙ kind-after-else (assigned x.stmt) n (kind_of xs n) (kind_of ys n)

-- names
is-has : (b : Bool) (k : Kind) (o : Option Kind) (c : Bool) → is_some o ≡ c → is_some (if b then Some k else o) ≡ (b || c)
is-has true k o c e = refl
is-has false k o c e = e

some-has : (seen : List (ℕ × Kind)) (n : ℕ) → is_some (kind_in seen n) ≡ has n (names_of seen)
some-has [] n = refl
some-has (x ∷ xs) n = is-has (x.0 == n) x.1 (kind_in xs n) (has n (names_of xs)) (some-has xs n) ∙ ap (λ b. b || has n (names_of xs)) (eq-swap x.0 n)

has-append : (n : ℕ) (xs ys : List ℕ) → has n (xs ++ ys) ≡ (has n xs || has n ys)
has-append n [] ys = refl
has-append n (x ∷ xs) ys = ap (λ b. n == x || b) (has-append n xs ys) ∙ or-assoc (n == x) (has n xs) (has n ys)

map-append : (xs ys : List (ℕ × Kind)) → names_of (xs ++ ys) ≡ names_of xs ++ names_of ys
map-append [] ys = refl
map-append (x ∷ xs) ys = ap (λ l. x.0 ∷ l) (map-append xs ys)

length-names : (seen : List (ℕ × Kind)) → length (names_of seen) ≡ length seen
length-names [] = refl
length-names (x ∷ xs) = ap suc (length-names xs)

names-if : (b : Bool) (seen : List (ℕ × Kind)) (x : ℕ × Kind) → names_of (if b then seen else seen ++ x ∷ []) ≡ (if b then names_of seen else names_of seen ++ x.0 ∷ [])
names-if true seen x = refl
names-if false seen x = map-append seen (x ∷ [])

-- what was noted has the names so far
names-with : (a : Option (ℕ × Kind)) (seen : List (ℕ × Kind)) → names_of (seen_with a seen) ≡ more_names a (names_of seen)
names-with None seen = refl
names-with (Some x) seen = names-if (is_some (kind_in seen x.0)) seen x ∙ ap (λ b. if b then names_of seen else names_of seen ++ x.0 ∷ []) (some-has seen x.0)

names-append : (seen : List ℕ) (xs ys : List Sight) → names_after seen (xs ++ ys) ≡ names_after (names_after seen xs) ys
names-append seen [] ys = refl
names-append seen (x ∷ xs) ys = names-append (more_names (assigned x.stmt) seen) xs ys

-- what was assigned before
pub record Stands (before : List Sight) (seen : List (ℕ × Kind)) : Type 0 where
  pub kinds : (n : ℕ) → kind_of before n ≡ kind_in seen n
  pub names : names_after [] before ≡ names_of seen

pub stands-none : Stands [] []
stands-none = record { kinds = λ n. refl; names = refl }

else-none : (o : Option Kind) → or_else o None ≡ o
else-none (Some k) = refl
else-none None = refl

-- a name that has a kind keeps it
else-some : (o p : Option Kind) → is_some o ≡ true → or_else o p ≡ o
else-some (Some k) p e = refl
else-some None p e = cc

kind-with : (a : Option (ℕ × Kind)) (seen : List (ℕ × Kind)) (n : ℕ) → kind_in (seen_with a seen) n ≡ or_else (kind_in seen n) (kind_after a n None)
kind-with None seen n = sym (else-none (kind_in seen n))
kind-with (Some x) seen n = by-cases (is_some (kind_in seen x.0)) refl
  where
    by-name : is_some (kind_in seen x.0) ≡ true → (b : Bool) → (x.0 == n) ≡ b → kind_in seen n ≡ or_else (kind_in seen n) (if b then Some x.1 else None)
    by-name e true f = sym (else-some (kind_in seen n) (Some x.1) (ap (λ m. is_some (kind_in seen m)) (sym (eqb-true x.0 n f)) ∙ e))
    by-name e false f = sym (else-none (kind_in seen n))

    by-cases : (b : Bool) → is_some (kind_in seen x.0) ≡ b → kind_in (seen_with (Some x) seen) n ≡ or_else (kind_in seen n) (if x.0 == n then Some x.1 else None)
    by-cases true e = ap (λ b. kind_in (if b then seen else seen ++ x ∷ []) n) e ∙ by-name e (x.0 == n) refl
    by-cases false e = ap (λ b. kind_in (if b then seen else seen ++ x ∷ []) n) e ∙ kind-in-append seen (x ∷ []) n

-- one statement more
stands-more : (before : List Sight) (s : Sight) (seen : List (ℕ × Kind)) → Stands before seen → Stands (before ++ s ∷ []) (seen_with (assigned s.stmt) seen)
stands-more before s seen h = record {
  kinds = λ n. kind-of-append before (s ∷ []) n ∙ (ap (λ o. or_else o (kind_after (assigned s.stmt) n None)) (h.kinds n) ∙ sym (kind-with (assigned s.stmt) seen n));
  names = names-append [] before (s ∷ []) ∙ (ap (more_names (assigned s.stmt)) h.names ∙ sym (names-with (assigned s.stmt) seen));
}

-- the names that are known were assigned before
abbrev pub Knowing : List (ℕ × Kind) → List ℕ → Type 0
Knowing seen known = (n : ℕ) → has n known ≡ true → is_some (kind_in seen n) ≡ true

abbrev pub AllKnowing : List (ℕ × Kind) → List Sight → Type 0
AllKnowing seen [] = Unit {0}
AllKnowing seen (s ∷ ss) = Knowing seen s.known × AllKnowing (seen_with (assigned s.stmt) seen) ss

abbrev pub seen_after : List (ℕ × Kind) → List Sight → List (ℕ × Kind)
seen_after seen [] = seen
seen_after seen (s ∷ ss) = seen_after (seen_with (assigned s.stmt) seen) ss

all-append : (seen : List (ℕ × Kind)) (xs ys : List Sight) → AllKnowing seen xs → AllKnowing (seen_after seen xs) ys → AllKnowing seen (xs ++ ys)
all-append seen [] ys h k = k
all-append seen (x ∷ xs) ys h k = (h.0, all-append (seen_with (assigned x.stmt) seen) xs ys h.1 k)

else-is : (o p : Option Kind) → is_some o ≡ true → is_some (or_else o p) ≡ true
else-is (Some k) p e = refl
else-is None p e = cc

else-is-right : (o p : Option Kind) → is_some p ≡ true → is_some (or_else o p) ≡ true
else-is-right (Some k) p e = refl
else-is-right None p e = e

-- what has a kind still has one later
keeps-one : (a : Option (ℕ × Kind)) (seen : List (ℕ × Kind)) (n : ℕ) → is_some (kind_in seen n) ≡ true → is_some (kind_in (seen_with a seen) n) ≡ true
keeps-one a seen n e = ap is_some (kind-with a seen n) ∙ else-is (kind_in seen n) (kind_after a n None) e

keeps : (ss : List Sight) (seen : List (ℕ × Kind)) (n : ℕ) → is_some (kind_in seen n) ≡ true → is_some (kind_in (seen_after seen ss) n) ≡ true
keeps [] seen n e = e
keeps (s ∷ ss) seen n e = keeps ss (seen_with (assigned s.stmt) seen) n (keeps-one (assigned s.stmt) seen n e)

knowing-after : (ss : List Sight) (seen : List (ℕ × Kind)) (known : List ℕ) → Knowing seen known → Knowing (seen_after seen ss) known
knowing-after ss seen known h n e = keeps ss seen n (h n e)

-- what a statement assigns is known after it
learned-one : (x : ℕ × Kind) (seen : List (ℕ × Kind)) (known : List ℕ) (n : ℕ) → Knowing seen known → (b : Bool) → (n == x.0) ≡ b → (b || has n known) ≡ true → is_some (kind_in (seen_with (Some x) seen) n) ≡ true
learned-one x seen known n h true f g = ap is_some (kind-with (Some x) seen n) ∙ else-is-right (kind_in seen n) (if x.0 == n then Some x.1 else None) (ap (λ b. is_some (if b then Some x.1 else None)) (eq-swap x.0 n ∙ f))
learned-one x seen known n h false f g = keeps-one (Some x) seen n (h n g)

knowing-learned : (a : Option (ℕ × Kind)) (seen : List (ℕ × Kind)) (known : List ℕ) → Knowing seen known → Knowing (seen_with a seen) (learned a known)
knowing-learned None seen known h = h
knowing-learned (Some x) seen known h = λ n e. learned-one x seen known n h (n == x.0) refl e

mutual
  all-inside : (t : Stmt) (seen : List (ℕ × Kind)) (known : List ℕ) (depth : ℕ) → Knowing seen known → AllKnowing seen (inside known depth t)
  all-inside (Async body) seen known depth h = all-sights body seen known (suc depth) h
  all-inside (AtAsync place body) seen known depth h = all-sights body seen known (suc depth) h
  all-inside (At place body) seen known depth h = all-sights body seen known (suc depth) h
  all-inside (Finish body) seen known depth h = all-sights body seen known (suc depth) h
  all-inside (If test first other) seen known depth h =
      all-append seen (sights known (suc depth) first) (sights known (suc depth) other) (all-sights first seen known (suc depth) h)
      (all-sights other (seen_after seen (sights known (suc depth) first)) known (suc depth) (knowing-after (sights known (suc depth) first) seen known h))
  all-inside (Repeat times body) seen known depth h = all-sights body seen known (suc depth) h
  all-inside (Try body dead_only handler) seen known depth h =
      all-append seen (sights known (suc depth) body) (sights known (suc depth) handler) (all-sights body seen known (suc depth) h)
      (all-sights handler (seen_after seen (sights known (suc depth) body)) known (suc depth) (knowing-after (sights known (suc depth) body) seen known h))
  all-inside _ seen known depth h = tt

  all-sights : (b : Block) (seen : List (ℕ × Kind)) (known : List ℕ) (depth : ℕ) → Knowing seen known → AllKnowing seen (sights known depth b)
  all-sights Nothing seen known depth h = tt
  all-sights (Then t ts) seen known depth h =
      let more : List (ℕ × Kind) = seen_with (assigned t) seen in
      let k : Knowing more known = λ n e. keeps-one (assigned t) seen n (h n e) in (
        h,
        all-append more (inside known depth t) (sights (learned (assigned t) known) depth ts) (all-inside t more known depth k)
            (all-sights ts (seen_after more (inside known depth t)) (learned (assigned t) known) depth (knowing-after (inside known depth t) more (learned (assigned t) known) (knowing-learned (assigned t) seen known h))),
      )

pub all-knowing : (t : Block) → AllKnowing [] (nodes t)
all-knowing t = all-sights t [] [] 0 (λ n e. cc)

all-same : (p q g : ℕ → Bool) (xs : List ℕ) → list_all g xs ≡ true → ((n : ℕ) → g n ≡ true → p n ≡ q n) → list_all p xs ≡ list_all q xs
all-same p q g [] e f = refl
all-same p q g (x ∷ xs) e f =
    ap (λ b. b && list_all p xs) (f x (and-first (g x) (list_all g xs) e)) ∙ ap (λ b. q x && b) (all-same p q g xs (and-second (g x) (list_all g xs) e) f)

-- the whole script, and a statement in it
pub record Split (script before : List Sight) (s : Sight) (after : List Sight) (seen : List (ℕ × Kind)) : Type 0 where
  pub whole : script ≡ before ++ s ∷ after
  pub stands : Stands before seen
  pub few : length seen ≤ 32
  pub knowing : Knowing seen s.known

kind-here : (script before : List Sight) (s : Sight) (after : List Sight) (seen : List (ℕ × Kind)) (y : Split script before s after seen) (n : ℕ) → kind_of script n ≡ or_else (kind_in seen n) (kind_after (assigned s.stmt) n (kind_of after n))
kind-here script before s after seen y n =
    ap (λ l. kind_of l n) y.whole ∙ (kind-of-append before (s ∷ after) n ∙ ap (λ o. or_else o (kind_after (assigned s.stmt) n (kind_of after n))) (y.stands.kinds n))

kind-known : (script before : List Sight) (s : Sight) (after : List Sight) (seen : List (ℕ × Kind)) (y : Split script before s after seen) (n : ℕ) → has n s.known ≡ true → kind_of script n ≡ kind_in seen n
kind-known script before s after seen y n e =
    kind-here script before s after seen y n ∙ else-some (kind_in seen n) (kind_after (assigned s.stmt) n (kind_of after n)) (y.knowing n e)

same-self : (k : Kind) → same_kind k k ≡ true
same-self ANumber = refl
same-self AReference = refl

differs-else : (k : Kind) (o : Option Kind) → not (is_kind k (or_else o (Some k))) ≡ differs k o
differs-else k (Some l) = refl
differs-else k None = ap not (same-self k)

gets-same : (script before : List Sight) (s : Sight) (after : List Sight) (seen : List (ℕ × Kind)) (y : Split script before s after seen) (a : Option (ℕ × Kind)) → assigned s.stmt ≡ a → gets_other script a ≡ gets_other_kind seen a
gets-same script before s after seen y None e = refl
gets-same script before s after seen y (Some x) e =
    let k : kind_of script x.0 ≡ or_else (kind_in seen x.0) (Some x.1) =
    kind-here script before s after seen y x.0
    ∙ (ap (λ a. or_else (kind_in seen x.0) (kind_after a x.0 (kind_of after x.0))) e
    ∙ ap (λ b. or_else (kind_in seen x.0) (if b then Some x.1 else kind_of after x.0)) (eq-refl x.0)) in
    ap (λ o. not (is_kind x.1 o)) k ∙ differs-else x.1 (kind_in seen x.0)

kind-same : (script before : List Sight) (s : Sight) (after : List Sight) (seen : List (ℕ × Kind)) (y : Split script before s after seen) → fails_known s ≡ false → fails_kind script s ≡ mistakes_kind seen s
kind-same script before s after seen y e =
    let g : ℕ → Bool = λ n. has n s.known in
    let names : List ℕ = names_of_all (exprs_of s.stmt) in
    let targets : List ℕ = targets_of s.stmt in
    let all : (list_all g names && list_all g targets) ≡ true = sym (list_all-append g names targets) ∙ not-false (list_all g (names ++ targets)) e in
    let r : ℕ → Bool = λ n. not (is_kind AReference (kind_of script n)) in
    let q : ℕ → Bool = λ n. not (is_kind AReference (kind_in seen n)) in
    let u : ℕ → Bool = λ n. not (is_kind ANumber (kind_of script n)) in
    let v : ℕ → Bool = λ n. not (is_kind ANumber (kind_in seen n)) in
    let one : list_all r names ≡ list_all q names = all-same r q g names (and-first (list_all g names) (list_all g targets) all) (λ n h. ap (λ o. not (is_kind AReference o)) (kind-known script before s after seen y n h)) in
    let two : list_all u targets ≡ list_all v targets = all-same u v g targets (and-second (list_all g names) (list_all g targets) all) (λ n h. ap (λ o. not (is_kind ANumber o)) (kind-known script before s after seen y n h)) in
    ap (λ b. not b || not (list_all u targets) || gets_other script (assigned s.stmt)) one
    ∙ (ap (λ b. not (list_all q names) || not b || gets_other script (assigned s.stmt)) two
    ∙ ap (λ b. not (list_all q names) || not (list_all v targets) || b) (gets-same script before s after seen y (assigned s.stmt) refl))

get-past : (xs : List ℕ) (i : ℕ) → length xs ≤ i → slice_get xs i ≡ None
get-past [] i h = refl
get-past (x ∷ xs) zero h = absurd (omega (arith, h))
get-past (x ∷ xs) (suc i) h = get-past xs i (omega (arith, h))

get-more : (xs ys : List ℕ) (i y : ℕ) → slice_get xs i ≡ Some y → slice_get (xs ++ ys) i ≡ Some y
get-more [] ys i y e = cc
get-more (x ∷ xs) ys zero y e = e
get-more (x ∷ xs) ys (suc i) y e = get-more xs ys i y e

get-last : (xs : List ℕ) (y : ℕ) → slice_get (xs ++ y ∷ []) (length xs) ≡ Some y
get-last [] y = refl
get-last (x ∷ xs) y = get-last xs y

get-if : (b : Bool) (xs : List ℕ) (x i y : ℕ) → slice_get xs i ≡ Some y → slice_get (if b then xs else xs ++ x ∷ []) i ≡ Some y
get-if true xs x i y e = e
get-if false xs x i y e = get-more xs (x ∷ []) i y e

get-names : (a : Option (ℕ × Kind)) (xs : List ℕ) (i y : ℕ) → slice_get xs i ≡ Some y → slice_get (more_names a xs) i ≡ Some y
get-names None xs i y e = e
get-names (Some x) xs i y e = get-if (has x.0 xs) xs x.0 i y e

at-place : (ss : List Sight) (xs : List ℕ) (i y : ℕ) → slice_get xs i ≡ Some y → slice_get (names_after xs ss) i ≡ Some y
at-place [] xs i y e = e
at-place (s ∷ ss) xs i y e = at-place ss (more_names (assigned s.stmt) xs) i y (get-names (assigned s.stmt) xs i y e)

other-name : (xs : List ℕ) (x n : ℕ) → has x xs ≡ false → has n xs ≡ true → (x == n) ≡ false
other-name xs x n e f = by-cases (x == n) refl
  where
    by-cases : (b : Bool) → (x == n) ≡ b → (x == n) ≡ false
    by-cases false g = g
    by-cases true g = let h : true ≡ false = sym f ∙ (ap (λ m. has m xs) (sym (eqb-true x n g)) ∙ e) in cc

has-last : (xs : List ℕ) (n x : ℕ) → has n xs ≡ true → has n (xs ++ x ∷ []) ≡ true
has-last xs n x e = has-append n xs (x ∷ []) ∙ ap (λ b. b || has n (x ∷ [])) e

has-new : (xs : List ℕ) (x : ℕ) → has x (xs ++ x ∷ []) ≡ true
has-new xs x = has-append x xs (x ∷ []) ∙ (ap (λ b. has x xs || (b || false)) (eq-refl x) ∙ or-true-end (has x xs))
  where
    or-true-end : (a : Bool) → (a || true) ≡ true
    or-true-end true = refl
    or-true-end false = refl

-- a name that stands before a place is not at it
abbrev pub NotAt : List Sight → ℕ → ℕ → Type 0
NotAt ss i n = (xs : List ℕ) → has n xs ≡ true → length xs ≤ i → is_name (slice_get (names_after xs ss) i) n ≡ false

grown-name : (ss : List Sight) (xs : List ℕ) (i n x : ℕ) → NotAt ss i n → has n xs ≡ true → length xs ≤ i → has x xs ≡ false → (b : Bool) → nat_lt (length xs) i ≡ b → is_name (slice_get (names_after (xs ++ x ∷ []) ss) i) n ≡ false
grown-name ss xs i n x ih e h f true g = ih (xs ++ x ∷ []) (has-last xs n x e) (let l : length xs < i = grind (arith, nat_tests) in omega (arith, l, length-push xs x))
grown-name ss xs i n x ih e h f false g =
    let l : i ≤ length xs = grind (arith, nat_tests) in
    let m : length xs ≡ i = omega (arith, l, h) in
    let p : slice_get (xs ++ x ∷ []) i ≡ Some x = ap (slice_get (xs ++ x ∷ [])) (sym m) ∙ get-last xs x in
    ap (λ o. is_name o n) (at-place ss (xs ++ x ∷ []) i x p) ∙ other-name xs x n f e

not-at-if : (ss : List Sight) (xs : List ℕ) (i n x : ℕ) → NotAt ss i n → has n xs ≡ true → length xs ≤ i → (b : Bool) → has x xs ≡ b → is_name (slice_get (names_after (if b then xs else xs ++ x ∷ []) ss) i) n ≡ false
not-at-if ss xs i n x ih e h true f = ih xs e h
not-at-if ss xs i n x ih e h false f = grown-name ss xs i n x ih e h f (nat_lt (length xs) i) refl

not-at-more : (ss : List Sight) (xs : List ℕ) (i n : ℕ) → NotAt ss i n → has n xs ≡ true → length xs ≤ i → (a : Option (ℕ × Kind)) → is_name (slice_get (names_after (more_names a xs) ss) i) n ≡ false
not-at-more ss xs i n ih e h None = ih xs e h
not-at-more ss xs i n ih e h (Some x) = not-at-if ss xs i n x.0 ih e h (has x.0 xs) refl

not-at : (ss : List Sight) (i n : ℕ) → NotAt ss i n
not-at [] i n = λ xs e h. ap (λ o. is_name o n) (get-past xs i h)
not-at (s ∷ ss) i n = λ xs e h. not-at-more ss xs i n (not-at ss i n) e h (assigned s.stmt)

-- the place of the name that a statement assigns
new-name : (xs : List ℕ) (after : List Sight) (x : ℕ) → length xs ≤ 32 → is_name (slice_get (names_after (xs ++ x ∷ []) after) 32) x ≡ nat_le 32 (length xs)
new-name xs after x h = by-cases (nat_le 32 (length xs)) refl
  where
    by-cases : (b : Bool) → nat_le 32 (length xs) ≡ b → is_name (slice_get (names_after (xs ++ x ∷ []) after) 32) x ≡ b
    by-cases true g =
        let l : 32 ≤ length xs = grind (arith, nat_tests) in
        let m : length xs ≡ 32 = omega (arith, l, h) in
        let p : slice_get (xs ++ x ∷ []) 32 ≡ Some x = ap (slice_get (xs ++ x ∷ [])) (sym m) ∙ get-last xs x in
        ap (λ o. is_name o x) (at-place after (xs ++ x ∷ []) 32 x p) ∙ eq-refl x
    by-cases false g = let l : length xs < 32 = grind (arith, nat_tests) in not-at after 32 x (xs ++ x ∷ []) (has-new xs x) (omega (arith, l, length-push xs x))

count-one : (after : List Sight) (seen : List (ℕ × Kind)) (x : ℕ × Kind) → length seen ≤ 32 → (b : Bool) → has x.0 (names_of seen) ≡ b → is_name (slice_get (names_after (if b then names_of seen else names_of seen ++ x.0 ∷ []) after) 32) x.0 ≡ (nat_le 32 (length seen) && not b)
count-one after seen x h true e = not-at after 32 x.0 (names_of seen) e (omega (arith, h, length-names seen)) ∙ sym (and-false (nat_le 32 (length seen)))
count-one after seen x h false e = new-name (names_of seen) after x.0 (omega (arith, h, length-names seen)) ∙ (ap (nat_le 32) (length-names seen) ∙ sym (and-true (nat_le 32 (length seen))))

count-same : (script before : List Sight) (s : Sight) (after : List Sight) (seen : List (ℕ × Kind)) (y : Split script before s after seen) (a : Option (ℕ × Kind)) → assigned s.stmt ≡ a → fails_count script a ≡ is_one_more seen a
count-same script before s after seen y None e = refl
count-same script before s after seen y (Some x) e =
    let m : names_after [] script ≡ names_after (more_names (Some x) (names_of seen)) after =
    ap (names_after []) y.whole ∙ (names-append [] before (s ∷ after) ∙ (ap (λ l. names_after (more_names (assigned s.stmt) l) after) y.stands.names ∙ ap (λ a. names_after (more_names a (names_of seen)) after) e)) in
    ap (λ l. is_name (slice_get l 32) x.0) m
    ∙ (count-one after seen x y.few (has x.0 (names_of seen)) refl ∙ ap (λ b. nat_le 32 (length seen) && not b) (sym (some-has seen x.0)))

-- the rule that a statement fails is told by the statements before it
rule-here : (script before : List Sight) (s : Sight) (after : List Sight) (seen : List (ℕ × Kind)) → Split script before s after seen → rule_of script s ≡ rule_with seen s
rule-here script before s after seen y = by-cases (fails_known s) refl
  where
    by-cases : (b : Bool) → fails_known s ≡ b → rule_of script s ≡ rule_with seen s
    by-cases true e =
        ap (λ b. least b (fails_kind script s) (fails_depth s) (fails_count script (assigned s.stmt))) e
        ∙ sym (ap (λ b. least b (mistakes_kind seen s) (fails_depth s) (is_one_more seen (assigned s.stmt))) e)
    by-cases false e =
        ap (λ b. least (fails_known s) b (fails_depth s) (fails_count script (assigned s.stmt))) (kind-same script before s after seen y e)
        ∙ ap (λ b. least (fails_known s) (mistakes_kind seen s) (fails_depth s) b) (count-same script before s after seen y (assigned s.stmt) refl)

abbrev pub fault_in : Result Sofar (ℕ × ℕ) → Option (ℕ × ℕ)
fault_in (Ok st) = None
fault_in (Err e) = Some e

append-three : (xs : List Sight) (s : Sight) (ys : List Sight) → xs ++ s ∷ ys ≡ (xs ++ s ∷ []) ++ ys
append-three [] s ys = refl
append-three (x ∷ xs) s ys = ap (λ l. x ∷ l) (append-three xs s ys)

least-none-last : (a b c d : Bool) → least a b c d ≡ None → d ≡ false
least-none-last true b c d e = cc
least-none-last false true c d e = cc
least-none-last false false true d e = cc
least-none-last false false false true e = cc
least-none-last false false false false e = refl

length-if : (b : Bool) (seen : List (ℕ × Kind)) (x : ℕ × Kind) → length seen ≤ 32 → (nat_le 32 (length seen) && not b) ≡ false → length (if b then seen else seen ++ x ∷ []) ≤ 32
length-if true seen x h e = h
length-if false seen x h e =
    let f : nat_le 32 (length seen) ≡ false = sym (and-true (nat_le 32 (length seen))) ∙ e in
    let l : length seen < 32 = grind (arith, nat_tests) in omega (arith, l, length-push seen x)

few-with : (a : Option (ℕ × Kind)) (seen : List (ℕ × Kind)) → length seen ≤ 32 → is_one_more seen a ≡ false → length (seen_with a seen) ≤ 32
few-with None seen h e = h
few-with (Some x) seen h e = length-if (is_some (kind_in seen x.0)) seen x h e

judged-by : (s : Sight) (ss : List Sight) (script : List Sight) (st : Sofar) → rule_of script s ≡ rule_with st.seen s → (rule_with st.seen s ≡ None → fault_in (sights_run (noted (assigned s.stmt) st) ss) ≡ first_fault script (suc st.count) ss) → (r : Option ℕ) → rule_with st.seen s ≡ r → fault_in (sights_run st (s ∷ ss)) ≡ first_fault script st.count (s ∷ ss)
judged-by s ss script st same rest (Some n) f =
    ap (λ r. fault_in (and_on (sight_stepped r (assigned s.stmt) st) (λ next. sights_run next ss))) f
    ∙ sym (ap (λ r. found st.count r (first_fault script (suc st.count) ss)) (same ∙ f))
judged-by s ss script st same rest None f =
    ap (λ r. fault_in (and_on (sight_stepped r (assigned s.stmt) st) (λ next. sights_run next ss))) f
    ∙ (rest f ∙ sym (ap (λ r. found st.count r (first_fault script (suc st.count) ss)) (same ∙ f)))

pub judged : (left before script : List Sight) (st : Sofar) → script ≡ before ++ left → Stands before st.seen → length st.seen ≤ 32 → AllKnowing st.seen left → fault_in (sights_run st left) ≡ first_fault script st.count left
judged [] before script st e h l k = refl
judged (s ∷ ss) before script st e h l k =
    judged-by s ss script st (rule-here script before s ss st.seen (record { whole = e; stands = h; few = l; knowing = k.0 }))
    (λ f. judged ss (before ++ s ∷ []) script (noted (assigned s.stmt) st) (e ∙ append-three before s ss) (stands-more before s st.seen h)
    (few-with (assigned s.stmt) st.seen l (least-none-last (fails_known s) (mistakes_kind st.seen s) (fails_depth s) (is_one_more st.seen (assigned s.stmt)) f)) k.1)
    (rule_with st.seen s) refl

-- before the first statement
abbrev pub start : Sofar
start = record { seen = []; count = 0 }

pub first-judged : (t : Block) → fault_in (sights_run start (nodes t)) ≡ first_fault (nodes t) 0 (nodes t)
first-judged t = judged (nodes t) [] (nodes t) start refl stands-none (omega arith) (all-knowing t)

verdict-is : (t : Block) (r : Result Sofar (ℕ × ℕ)) → sights_run start (nodes t) ≡ r → verdict t ≡ or_work (fault_in r) (work t)
verdict-is t r e = ap (λ o. or_work o (work t)) (sym (first-judged t) ∙ ap fault_in e)

pub verdict-bad : (t : Block) (x : ℕ × ℕ) → sights_run start (nodes t) ≡ Err x → verdict t ≡ Some x
verdict-bad t x e = verdict-is t (Err x) e

pub verdict-none : (t : Block) (st : Sofar) (w : ℕ) → sights_run start (nodes t) ≡ Ok st → w ≡ cap (work t) → w ≤ 100000 → (verdict t ≡ None) × (w ≡ work t)
verdict-none t st w e f h =
    elim (cap-cases (work t)) [
      | inl k ↦ (verdict-is t (Ok st) e ∙ ap (λ b. if b then Some (5, 0) else None) (le-ltb 100000 (work t) k.0), f ∙ k.1)
      | inr k ↦ absurd (omega (arith, k.1, f, h))
    ]

pub verdict-work : (t : Block) (st : Sofar) (w : ℕ) → sights_run start (nodes t) ≡ Ok st → w ≡ cap (work t) → 100000 < w → verdict t ≡ Some (5, 0)
verdict-work t st w e f h =
    elim (cap-cases (work t)) [
      | inl k ↦ absurd (omega (arith, k.0, k.1, f, h))
      | inr k ↦ verdict-is t (Ok st) e ∙ ap (λ b. if b then Some (5, 0) else None) (lt-ltb 100000 (work t) k.0)
    ]

-- the work of statements that meet the rules
some-none : {A P : Type 0} (x : A) → Some x ≡ None → P
some-none x e = absurd (not-none x e)
  where
    not-none : {A : Type 0} (x : A) → Some x ≡ None → ⊥
    not-none x e = cc

work-of : (o : Option (ℕ × ℕ)) (n : ℕ) → or_work o n ≡ None → n ≤ 100000
work-of (Some x) n e = some-none x e
work-of None n e = elim (cap-cases n) [ inl k ↦ k.0 | inr k ↦ some-none (5, 0) (sym (ap (λ b. if b then Some (5, 0) else None) (lt-ltb 100000 n k.0)) ∙ e) ]

pub meets-work : (t : Block) → verdict t ≡ None → work t ≤ 100000
meets-work t e = work-of (first_fault (nodes t) 0 (nodes t)) (work t) e
