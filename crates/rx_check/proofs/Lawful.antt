-- What the rules say of each statement of a script, by the script's structure.
use Rattle.std.proofs.Common.{◌≡◌, ℕ, suc, ◌<◌, ◌==◌, Bool, true, false, not, cond, ◌&&◌, ◌||◌, List, [], ◌∷◌, ◌++◌, Option, Some, None, refl, ap, sym, subst, inl, inr}
use Rattle.std.specs.List.{list_all}
use Rattle.std.proofs.lemmas.Bool.{eqb-true, eq-eqb, or_right, not-false, not-true, or_parts}
use Rattle.rx_rules.proofs.Common.{Expr, Num, Name, Here, Bin, Stmt, SetTo, New, Get, Put, Forget, Census, Print, Throw, Async, AtAsync, At, Finish, If, Repeat, Try, Block, Nothing, Then, work, has}
use Rattle.rx_syntax.specs.Named.{Uses, StmtMentions, Mentions}
use Rattle.rx_check.specs.Rules.{Kind, ANumber, AReference, names_in, exprs_of, targets_of, assigned, Sight, learned, inside, sights, nodes, kind_of, is_kind, names_of_all, fails_known, gets_other, fails_kind, fails_depth, fails_count, rule_of, found, first_fault, or_work}
use Rattle.rx_check.specs.Checked.{Meets}

-- a statement keeps the rules, where the names of the list are known, each name has its kind, and names are below the limit
pub record Own (kinds : ℕ → Option Kind) (limit : ℕ) (known : List ℕ) (stmt : Stmt) : Type 0 where
  pub numbers : (n : ℕ) → has n (names_of_all (exprs_of stmt)) ≡ true → (has n known ≡ true) × (kinds n ≡ Some ANumber)
  pub targets : (n : ℕ) → has n (targets_of stmt) ≡ true → (has n known ≡ true) × (kinds n ≡ Some AReference)
  pub assigns : (x : ℕ × Kind) → assigned stmt ≡ Some x → (kinds x.0 ≡ Some x.1) × (x.0 < limit)

-- so do the statements inside a statement, and those of a block
abbrev mutual
  pub Inner : (ℕ → Option Kind) → ℕ → List ℕ → Stmt → Type 0
  Inner kinds limit known (Async body) = Lawful kinds limit known body
  Inner kinds limit known (AtAsync place body) = Lawful kinds limit known body
  Inner kinds limit known (At place body) = Lawful kinds limit known body
  Inner kinds limit known (Finish body) = Lawful kinds limit known body
  Inner kinds limit known (If test first other) = Lawful kinds limit known first × Lawful kinds limit known other
  Inner kinds limit known (Repeat times body) = Lawful kinds limit known body
  Inner kinds limit known (Try body dead_only handler) = Lawful kinds limit known body × Lawful kinds limit known handler
  Inner kinds limit known _ = Unit {0}

  pub Lawful : (ℕ → Option Kind) → ℕ → List ℕ → Block → Type 0
  Lawful kinds limit known Nothing = Unit {0}
  Lawful kinds limit known (Then t ts) =
      Own kinds limit known t × Inner kinds limit known t × Lawful kinds limit (learned (assigned t) known) ts

-- Lists of numbers.

pub has-left : (n : ℕ) (xs ys : List ℕ) → has n xs ≡ true → has n (xs ++ ys) ≡ true
has-left n [] ys h = cc
has-left n (x ∷ xs) ys h = (elim (n == x) as (λ b. (b || has n xs) ≡ true → (b || has n (xs ++ ys)) ≡ true) [
  | true ↦ λ e. refl
  | false ↦ λ e. has-left n xs ys e
]) h

pub has-right : (n : ℕ) (xs ys : List ℕ) → has n ys ≡ true → has n (xs ++ ys) ≡ true
has-right n [] ys h = h
has-right n (x ∷ xs) ys h = or_right (n == x) (has n (xs ++ ys)) (has-right n xs ys h)

-- a number of the list passes a test that all pass
all-has : (test : ℕ → Bool) (xs : List ℕ) (n : ℕ) → list_all test xs ≡ true → has n xs ≡ true → test n ≡ true
all-has test [] n a h = cc
all-has test (x ∷ xs) n a h =
    (elim (test x) as (λ b. test x ≡ b → (b && list_all test xs) ≡ true → (n == x || has n xs) ≡ true → test n ≡ true) [
      | true ↦ λ t a. (elim (n == x) as (λ c. n == x ≡ c → (c || has n xs) ≡ true → test n ≡ true) [
        | true ↦ λ e h. subst (λ (m : ℕ). test m ≡ true) (sym (eqb-true n x e)) t
        | false ↦ λ e h. all-has test xs n a h
      ]) refl
      | false ↦ λ t a h. cc
    ]) refl a h

-- What the verdict says.

if-none : (b : Bool) (rule : ℕ) (o : Option ℕ) → cond b (Some rule) o ≡ None → (b ≡ false) × (o ≡ None)
if-none true rule o h = cc
if-none false rule o h = (refl, h)

-- no statement of the list fails a rule
abbrev pub AllPass : List Sight → List Sight → Type 0
AllPass script [] = Unit {0}
AllPass script (s ∷ ss) = (rule_of script s ≡ None) × AllPass script ss

pub pass-left : (script ss us : List Sight) → AllPass script (ss ++ us) → AllPass script ss
pass-left script [] us h = tt
pass-left script (s ∷ ss) us h = (h.0, pass-left script ss us h.1)

pub pass-right : (script ss us : List Sight) → AllPass script (ss ++ us) → AllPass script us
pass-right script [] us h = h
pass-right script (s ∷ ss) us h = pass-right script ss us h.1

found-none : (n : ℕ) (o : Option ℕ) (later : Option (ℕ × ℕ)) → found n o later ≡ None → (o ≡ None) × (later ≡ None)
found-none n (Some rule) later h = cc
found-none n None later h = (refl, h)

all-pass : (script : List Sight) (n : ℕ) (ss : List Sight) → first_fault script n ss ≡ None → AllPass script ss
all-pass script n [] h = tt
all-pass script n (s ∷ ss) h =
    let e : (rule_of script s ≡ None) × (first_fault script (suc n) ss ≡ None) = found-none n (rule_of script s) (first_fault script (suc n) ss) h in
    (e.0, all-pass script (suc n) ss e.1)

work-none : (o : Option (ℕ × ℕ)) (n : ℕ) → or_work o n ≡ None → o ≡ None
work-none (Some x) n h = cc
work-none None n h = refl

pub meets-pass : (code : Block) → Meets code → AllPass (nodes code) (nodes code)
meets-pass code h = all-pass (nodes code) 0 (nodes code) (work-none (first_fault (nodes code) 0 (nodes code)) (work code) h)

-- the parts of the rules
pub record Passes (script : List Sight) (s : Sight) : Type 0 where
  pub known : fails_known s ≡ false
  pub kind : fails_kind script s ≡ false
  pub depth : fails_depth s ≡ false
  pub count : fails_count script (assigned s.stmt) ≡ false

pub passes : (script : List Sight) (s : Sight) → rule_of script s ≡ None → Passes script s
passes script s h =
    let a = if-none (fails_known s) 1 (cond (fails_kind script s) (Some 2) (cond (fails_depth s) (Some 3) (cond (fails_count script (assigned s.stmt)) (Some 4) None))) h in
    let b = if-none (fails_kind script s) 2 (cond (fails_depth s) (Some 3) (cond (fails_count script (assigned s.stmt)) (Some 4) None)) a.1 in
    let c = if-none (fails_depth s) 3 (cond (fails_count script (assigned s.stmt)) (Some 4) None) b.1 in
    let d = if-none (fails_count script (assigned s.stmt)) 4 None c.1 in
    record { known = a.0; kind = b.0; depth = c.0; count = d.0 }

-- each name of the list has a kind
abbrev pub Kinded : (ℕ → Option Kind) → List ℕ → Type 0
Kinded kinds known = (n : ℕ) → has n known ≡ true → (k : Kind) × (kinds n ≡ Some k)

is-kind : (k : Kind) (o : Option Kind) → is_kind k o ≡ true → o ≡ Some k
is-kind ANumber (Some ANumber) h = refl
is-kind ANumber (Some AReference) h = cc
is-kind AReference (Some ANumber) h = cc
is-kind AReference (Some AReference) h = refl
is-kind k None h = cc

-- a kind that is not the other
number-kind : (o : Option Kind) (k : Kind) → o ≡ Some k → is_kind AReference o ≡ false → o ≡ Some ANumber
number-kind o ANumber e h = e
number-kind o AReference e h = let bad : is_kind AReference (Some AReference) ≡ false = subst (λ (p : Option Kind). is_kind AReference p ≡ false) e h in cc

reference-kind : (o : Option Kind) (k : Kind) → o ≡ Some k → is_kind ANumber o ≡ false → o ≡ Some AReference
reference-kind o AReference e h = e
reference-kind o ANumber e h = let bad : is_kind ANumber (Some ANumber) ≡ false = subst (λ (p : Option Kind). is_kind ANumber p ≡ false) e h in cc

assigned-kind : (script : List Sight) (o : Option (ℕ × Kind)) (x : ℕ × Kind) → gets_other script o ≡ false → o ≡ Some x → kind_of script x.0 ≡ Some x.1
assigned-kind script None x h e = cc
assigned-kind script (Some y) x h e =
    let same : y ≡ x = cc in
    subst (λ (z : ℕ × Kind). kind_of script z.0 ≡ Some z.1) same (is-kind y.1 (kind_of script y.0) (not-false (is_kind y.1 (kind_of script y.0)) h))

some-pair : (x y : ℕ × Kind) → Some x ≡ Some y → x ≡ y
some-pair x y h = cc

-- a statement mentions the name that it assigns
assigned-name : (t : Stmt) (x : ℕ × Kind) → assigned t ≡ Some x → StmtMentions x.0 t
assigned-name (SetTo n e) x a = inl (sym (ap (λ p. p.0) (some-pair (n, ANumber) x a)))
assigned-name (New n k) x a = sym (ap (λ p. p.0) (some-pair (n, AReference) x a))
assigned-name (Get n t e) x a = inl (sym (ap (λ p. p.0) (some-pair (n, ANumber) x a)))
assigned-name (Census n) x a = sym (ap (λ p. p.0) (some-pair (n, ANumber) x a))
assigned-name _ x a = cc

own : (script : List Sight) (limit : ℕ) (s : Sight) → Kinded (kind_of script) s.known → rule_of script s ≡ None → ((n : ℕ) → StmtMentions n s.stmt → n < limit) → Own (kind_of script) limit s.known s.stmt
own script limit s kinded h names =
    let p : Passes script s = passes script s h in
    let uses : List ℕ = names_of_all (exprs_of s.stmt) in
    let all : list_all (λ n. has n s.known) (uses ++ targets_of s.stmt) ≡ true = not-false (list_all (λ n. has n s.known) (uses ++ targets_of s.stmt)) p.known in
    let ls = or_parts (not (list_all (λ n. not (is_kind AReference (kind_of script n))) uses) || not (list_all (λ n. not (is_kind ANumber (kind_of script n))) (targets_of s.stmt))) (gets_other script (assigned s.stmt)) p.kind in
    let ks = or_parts (not (list_all (λ n. not (is_kind AReference (kind_of script n))) uses)) (not (list_all (λ n. not (is_kind ANumber (kind_of script n))) (targets_of s.stmt))) ls.0 in
    record {
      numbers = λ n u.
          let k : has n s.known ≡ true = all-has (λ n. has n s.known) (uses ++ targets_of s.stmt) n all (has-left n uses (targets_of s.stmt) u) in
          let f = kinded n k in
          (k, number-kind (kind_of script n) f.0 f.1 (not-true (is_kind AReference (kind_of script n)) (all-has (λ n. not (is_kind AReference (kind_of script n))) uses n (not-false (list_all (λ n. not (is_kind AReference (kind_of script n))) uses) ks.0) u)));
      targets = λ n u.
          let k : has n s.known ≡ true = all-has (λ n. has n s.known) (uses ++ targets_of s.stmt) n all (has-right n uses (targets_of s.stmt) u) in
          let f = kinded n k in
          (k, reference-kind (kind_of script n) f.0 f.1 (not-true (is_kind ANumber (kind_of script n)) (all-has (λ n. not (is_kind ANumber (kind_of script n))) (targets_of s.stmt) n (not-false (list_all (λ n. not (is_kind ANumber (kind_of script n))) (targets_of s.stmt)) ks.1) u)));
      assigns = λ x a. (assigned-kind script (assigned s.stmt) x ls.1 a, names x.0 (assigned-name s.stmt x a));
    }

learn : (kinds : ℕ → Option Kind) (limit : ℕ) (known : List ℕ) (t : Stmt) (o : Option (ℕ × Kind)) → assigned t ≡ o → Own kinds limit known t → Kinded kinds known → Kinded kinds (learned o known)
learn kinds limit known t None e h k = k
learn kinds limit known t (Some x) e h k = λ n m.
    (elim (n == x.0) as (λ b. n == x.0 ≡ b → (b || has n known) ≡ true → (k : Kind) × (kinds n ≡ Some k)) [
      | true ↦ λ q m. (x.1, subst (λ (i : ℕ). kinds i ≡ Some x.1) (sym (eqb-true n x.0 q)) (h.assigns x e).0)
      | false ↦ λ q m. k n m
    ]) refl m

-- what passes the rules is lawful
mutual
  inner : (script : List Sight) (limit : ℕ) (known : List ℕ) (depth : ℕ) (t : Stmt) → Kinded (kind_of script) known → AllPass script (inside known depth t) → ((n : ℕ) → StmtMentions n t → n < limit) → Inner (kind_of script) limit known t
  inner script limit known depth (Async b) k h m = lawful script limit known (suc depth) b k h m
  inner script limit known depth (AtAsync e b) k h m = lawful script limit known (suc depth) b k h (λ n u. m n (inr u))
  inner script limit known depth (At e b) k h m = lawful script limit known (suc depth) b k h (λ n u. m n (inr u))
  inner script limit known depth (Finish b) k h m = lawful script limit known (suc depth) b k h m
  inner script limit known depth (If e a b) k h m = (
    lawful script limit known (suc depth) a k (pass-left script (sights known (suc depth) a) (sights known (suc depth) b) h) (λ n u. m n (inr (inl u))),
    lawful script limit known (suc depth) b k (pass-right script (sights known (suc depth) a) (sights known (suc depth) b) h) (λ n u. m n (inr (inr u))),
  )
  inner script limit known depth (Repeat n b) k h m = lawful script limit known (suc depth) b k h m
  inner script limit known depth (Try a d b) k h m = (
    lawful script limit known (suc depth) a k (pass-left script (sights known (suc depth) a) (sights known (suc depth) b) h) (λ n u. m n (inl u)),
    lawful script limit known (suc depth) b k (pass-right script (sights known (suc depth) a) (sights known (suc depth) b) h) (λ n u. m n (inr u)),
  )
  inner script limit known depth _ k h m = tt

  lawful : (script : List Sight) (limit : ℕ) (known : List ℕ) (depth : ℕ) (b : Block) → Kinded (kind_of script) known → AllPass script (sights known depth b) → ((n : ℕ) → Mentions n b → n < limit) → Lawful (kind_of script) limit known b
  lawful script limit known depth Nothing k h m = tt
  lawful script limit known depth (Then t ts) k h m =
      let o : Own (kind_of script) limit known t = own script limit (record { stmt = t; depth = depth; known = known }) k h.0 (λ n u. m n (inl u)) in (
        o,
        inner script limit known depth t k (pass-left script (inside known depth t) (sights (learned (assigned t) known) depth ts) h.1) (λ n u. m n (inl u)),
        lawful script limit (learned (assigned t) known) depth ts (learn (kind_of script) limit known t (assigned t) refl o k) (pass-right script (inside known depth t) (sights (learned (assigned t) known) depth ts) h.1) (λ n u. m n (inr u)),
      )

-- a script that meets the rules is lawful, where its names are below the limit
pub meets-lawful : (code : Block) (limit : ℕ) → Meets code → ((n : ℕ) → Mentions n code → n < limit) → Lawful (kind_of (nodes code)) limit [] code
meets-lawful code limit h m = lawful (nodes code) limit [] 0 code (λ n u. cc) (meets-pass code h) m

-- Each name that is mentioned has a kind.

uses-has : (e : Expr) (n : ℕ) → Uses n e → has n (names_in e) ≡ true
uses-has (Num z) n u = absurd u
uses-has (Name m) n u = ap (λ b. b || false) (eq-eqb n m u)
uses-has Here n u = absurd u
uses-has (Bin op a b) n (inl u) = has-left n (names_in a) (names_in b) (uses-has a n u)
uses-has (Bin op a b) n (inr u) = has-right n (names_in a) (names_in b) (uses-has b n u)

first-has : (e : Expr) (es : List Expr) (n : ℕ) → Uses n e → has n (names_of_all (e ∷ es)) ≡ true
first-has e es n u = has-left n (names_in e) (names_of_all es) (uses-has e n u)

second-has : (d e : Expr) (es : List Expr) (n : ℕ) → Uses n e → has n (names_of_all (d ∷ e ∷ es)) ≡ true
second-has d e es n u = has-right n (names_in d) (names_of_all (e ∷ es)) (first-has e es n u)

one-has : (n m : ℕ) → n ≡ m → has n (m ∷ []) ≡ true
one-has n m e = ap (λ b. b || false) (eq-eqb n m e)

abbrev HasKind : (ℕ → Option Kind) → ℕ → Type 0
HasKind kinds n = (k : Kind) × (kinds n ≡ Some k)

gets : (kinds : ℕ → Option Kind) (limit : ℕ) (known : List ℕ) (t : Stmt) (x : ℕ × Kind) (n : ℕ) → Own kinds limit known t → assigned t ≡ Some x → n ≡ x.0 → HasKind kinds n
gets kinds limit known t x n h a e = (x.1, subst (λ (i : ℕ). kinds i ≡ Some x.1) (sym e) (h.assigns x a).0)

uses : (kinds : ℕ → Option Kind) (limit : ℕ) (known : List ℕ) (t : Stmt) (n : ℕ) → Own kinds limit known t → has n (names_of_all (exprs_of t)) ≡ true → HasKind kinds n
uses kinds limit known t n h u = (ANumber, (h.numbers n u).1)

aims : (kinds : ℕ → Option Kind) (limit : ℕ) (known : List ℕ) (t : Stmt) (n : ℕ) → Own kinds limit known t → has n (targets_of t) ≡ true → HasKind kinds n
aims kinds limit known t n h u = (AReference, (h.targets n u).1)

mutual
  stmt-kind : (kinds : ℕ → Option Kind) (limit : ℕ) (known : List ℕ) (t : Stmt) (n : ℕ) → Own kinds limit known t → Inner kinds limit known t → StmtMentions n t → HasKind kinds n
  stmt-kind kinds limit known (SetTo m e) n o i (inl u) = gets kinds limit known (SetTo m e) (m, ANumber) n o refl u
  stmt-kind kinds limit known (SetTo m e) n o i (inr u) = uses kinds limit known (SetTo m e) n o (first-has e [] n u)
  stmt-kind kinds limit known (New m w) n o i u = gets kinds limit known (New m w) (m, AReference) n o refl u
  stmt-kind kinds limit known (Get m t e) n o i (inl u) = gets kinds limit known (Get m t e) (m, ANumber) n o refl u
  stmt-kind kinds limit known (Get m t e) n o i (inr (inl u)) = aims kinds limit known (Get m t e) n o (one-has n t u)
  stmt-kind kinds limit known (Get m t e) n o i (inr (inr u)) = uses kinds limit known (Get m t e) n o (first-has e [] n u)
  stmt-kind kinds limit known (Put t d e) n o i (inl u) = aims kinds limit known (Put t d e) n o (one-has n t u)
  stmt-kind kinds limit known (Put t d e) n o i (inr (inl u)) = uses kinds limit known (Put t d e) n o (first-has d (e ∷ []) n u)
  stmt-kind kinds limit known (Put t d e) n o i (inr (inr u)) = uses kinds limit known (Put t d e) n o (second-has d e [] n u)
  stmt-kind kinds limit known (Forget t) n o i u = aims kinds limit known (Forget t) n o (one-has n t u)
  stmt-kind kinds limit known (Census m) n o i u = gets kinds limit known (Census m) (m, ANumber) n o refl u
  stmt-kind kinds limit known (Print e) n o i u = uses kinds limit known (Print e) n o (first-has e [] n u)
  stmt-kind kinds limit known (Throw e) n o i u = uses kinds limit known (Throw e) n o (first-has e [] n u)
  stmt-kind kinds limit known (Async b) n o i u = block-kind kinds limit known b n i u
  stmt-kind kinds limit known (AtAsync e b) n o i (inl u) = uses kinds limit known (AtAsync e b) n o (first-has e [] n u)
  stmt-kind kinds limit known (AtAsync e b) n o i (inr u) = block-kind kinds limit known b n i u
  stmt-kind kinds limit known (At e b) n o i (inl u) = uses kinds limit known (At e b) n o (first-has e [] n u)
  stmt-kind kinds limit known (At e b) n o i (inr u) = block-kind kinds limit known b n i u
  stmt-kind kinds limit known (Finish b) n o i u = block-kind kinds limit known b n i u
  stmt-kind kinds limit known (If e a b) n o i (inl u) = uses kinds limit known (If e a b) n o (first-has e [] n u)
  stmt-kind kinds limit known (If e a b) n o i (inr (inl u)) = block-kind kinds limit known a n i.0 u
  stmt-kind kinds limit known (If e a b) n o i (inr (inr u)) = block-kind kinds limit known b n i.1 u
  stmt-kind kinds limit known (Repeat k b) n o i u = block-kind kinds limit known b n i u
  stmt-kind kinds limit known (Try a d b) n o i (inl u) = block-kind kinds limit known a n i.0 u
  stmt-kind kinds limit known (Try a d b) n o i (inr u) = block-kind kinds limit known b n i.1 u

  block-kind : (kinds : ℕ → Option Kind) (limit : ℕ) (known : List ℕ) (b : Block) (n : ℕ) → Lawful kinds limit known b → Mentions n b → HasKind kinds n
  block-kind kinds limit known Nothing n h u = absurd u
  block-kind kinds limit known (Then t ts) n h (inl u) = stmt-kind kinds limit known t n h.0 h.1 u
  block-kind kinds limit known (Then t ts) n h (inr u) = block-kind kinds limit (learned (assigned t) known) ts n h.2 u

pub mentioned-kind : (kinds : ℕ → Option Kind) (limit : ℕ) (known : List ℕ) (b : Block) (n : ℕ) → Lawful kinds limit known b → Mentions n b → (k : Kind) × (kinds n ≡ Some k)
mentioned-kind kinds limit known b n h u = block-kind kinds limit known b n h u
