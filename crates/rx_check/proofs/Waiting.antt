-- What the parts that wait use together.
use Rattle.std.proofs.Common.{◌≡◌, ℕ, ℤ, zero, suc, ◌+◌, ◌-◌, ◌<◌, ◌≤◌, ◌==◌, nat_lt, Bool, true, false, ◌||◌, List, [], ◌∷◌, ◌++◌, refl, ap, sym, ◌∙◌, arith, max}
use Rattle.std.proofs.lemmas.Bool.Decides.{nat_tests}
use Rattle.std.proofs.Math.Bool.{or-false}
use Rattle.rx_rules.proofs.Common.{Expr, Num, Name, Here, Bin}
use Rattle.rx_syntax.specs.declared.nodes.Expr.{Expr as Part}
use Rattle.rx_syntax.specs.Shape.{ExprStands}
use Rattle.rx_check.specs.Rules.{pairs_in}
use Rattle.rx_check.specs.Inside.Walk.{join, no_uses, uses_in, name_uses, pair_uses, Yields, weight, weights}
use Rattle.rx_check.specs.declared.uses.Uses.{Uses}
use Rattle.rx_check.specs.declared.uses.Part.{Part as Waiting}
use Rattle.rx_check.specs.declared.walk.Walk.{Walk}

uses-eq : (a b : Uses) → a.unknown ≡ b.unknown → a.reference ≡ b.reference → a.deep ≡ b.deep → a ≡ b
uses-eq a b x y z =
    let f : Bool → Uses = λ u. record { unknown = u; reference = a.reference; deep = a.deep } in
    let g : Bool → Uses = λ r. record { unknown = b.unknown; reference = r; deep = a.deep } in
    let h : Bool → Uses = λ d. record { unknown = b.unknown; reference = b.reference; deep = d } in
    ap f x ∙ (ap g y ∙ ap h z)

or-assoc : (a b c : Bool) → ((a || b) || c) ≡ (a || (b || c))
or-assoc true b c = refl
or-assoc false b c = refl

or-swap : (a b c : Bool) → (a || (b || c)) ≡ (b || (a || c))
or-swap true true c = refl
or-swap true false c = refl
or-swap false true c = refl
or-swap false false c = refl

pub join-assoc : (a b c : Uses) → join (join a b) c ≡ join a (join b c)
join-assoc a b c = uses-eq _ _ (or-assoc a.unknown b.unknown c.unknown) (or-assoc a.reference b.reference c.reference) (or-assoc a.deep b.deep c.deep)

pub join-swap : (a b c : Uses) → join a (join b c) ≡ join b (join a c)
join-swap a b c = uses-eq _ _ (or-swap a.unknown b.unknown c.unknown) (or-swap a.reference b.reference c.reference) (or-swap a.deep b.deep c.deep)

pub join-none : (a : Uses) → join a no_uses ≡ a
join-none a = uses-eq _ _ (or-false a.unknown) (or-false a.reference) (or-false a.deep)

-- the last part that waits
pub yields-last : (w : Walk) (es : List Part) (ps : List Waiting) (p : Waiting) (u : Uses) → Yields w es (ps ++ p ∷ []) u → (e : Expr) × (v : Uses) × ExprStands es p.id e × (u ≡ join (uses_in w p.pairs e) v) × Yields w es ps v
yields-last w es [] p u h = h
yields-last w es (q ∷ qs) p u h =
    let r = yields-last w es qs p h.1 h.4 in (
      r.0,
      join (uses_in w q.pairs h.0) r.1,
      r.2,
      h.3 ∙ (ap (join (uses_in w q.pairs h.0)) r.3 ∙ join-swap (uses_in w q.pairs h.0) (uses_in w p.pairs r.0) r.1),
      (h.0, r.1, h.2, refl, r.4),
    )

-- a part more waits
pub yields-more : (w : Walk) (es : List Part) (ps : List Waiting) (p : Waiting) (e : Expr) (v : Uses) → ExprStands es p.id e → Yields w es ps v → Yields w es (ps ++ p ∷ []) (join (uses_in w p.pairs e) v)
yields-more w es [] p e v s h = (e, v, s, refl, h)
yields-more w es (q ∷ qs) p e v s h = (
  h.0,
  join (uses_in w p.pairs e) h.1,
  h.2,
  ap (join (uses_in w p.pairs e)) h.3 ∙ join-swap (uses_in w p.pairs e) (uses_in w q.pairs h.0) h.1,
  yields-more w es qs p e h.1 s h.4,
)

deep-pair : (n a b : ℕ) → nat_lt n (suc (max a b)) ≡ ((n == 0) || (nat_lt (n - 1) a || nat_lt (n - 1) b))
deep-pair n a b = grind (arith, nat_tests)

-- a pair of parentheses uses what its operands use with a pair less
pub pair-uses : (w : Walk) (pairs : ℕ) (op : _) (l r : Expr) → uses_in w pairs (Bin op l r) ≡ join (pair_uses pairs) (join (uses_in w (pairs - 1) l) (uses_in w (pairs - 1) r))
pair-uses w pairs op l r = uses-eq _ _ refl refl (deep-pair pairs (pairs_in l) (pairs_in r))

no-pairs : (n : ℕ) → nat_lt n 0 ≡ false
no-pairs n = grind (arith, nat_tests)

pub num-uses : (w : Walk) (pairs : ℕ) (z : ℤ) → uses_in w pairs (Num z) ≡ no_uses
num-uses w pairs z = uses-eq _ _ refl refl (no-pairs pairs)

pub here-uses : (w : Walk) (pairs : ℕ) → uses_in w pairs Here ≡ no_uses
here-uses w pairs = uses-eq _ _ refl refl (no-pairs pairs)

pub one-name-uses : (w : Walk) (pairs n : ℕ) → uses_in w pairs (Name n) ≡ name_uses w n
one-name-uses w pairs n = uses-eq _ _ refl refl (no-pairs pairs)

weight-positive : (i : ℕ) → 0 < weight i
weight-positive zero = omega arith
weight-positive (suc i) = omega arith

weight-le : (i k : ℕ) → i ≤ k → weight i ≤ weight k
weight-le zero zero h = omega arith
weight-le zero (suc k) h = omega (arith, weight-positive k)
weight-le (suc i) zero h = absurd (omega (arith, h))
weight-le (suc i) (suc k) h = let r : weight i ≤ weight k = weight-le i k (omega (arith, h)) in omega (arith, r)

weight-pair : (i l r : ℕ) → l < i → r < i → weight l + weight r < weight i
weight-pair zero l r h k = absurd (omega (arith, h))
weight-pair (suc i) l r h k = omega (arith, weight-le l i (omega (arith, h)), weight-le r i (omega (arith, k)))

pub weights-more : (ps : List Waiting) (p : Waiting) → weights (ps ++ p ∷ []) ≡ weight p.id.0 + weights ps
weights-more [] p = refl
weights-more (q ∷ qs) p = omega (arith, weights-more qs p)

pub weights-less : (ps : List Waiting) (p : Waiting) → weights ps < weights (ps ++ p ∷ [])
weights-less ps p = omega (arith, weights-more ps p, weight-positive p.id.0)

pub weights-pair : (ps : List Waiting) (p l r : Waiting) → l.id.0 < p.id.0 → r.id.0 < p.id.0 → weights ((ps ++ l ∷ []) ++ r ∷ []) < weights (ps ++ p ∷ [])
weights-pair ps p l r h k = omega (arith, weights-more ps p, weights-more ps l, weights-more (ps ++ l ∷ []) r, weight-pair p.id.0 l.id.0 r.id.0 h k)

-- a name or a number
pub took : (w : Walk) (es : List Part) (ps : List Waiting) (p : Waiting) (so_far add v : Uses) → ((e : Expr) → ExprStands es p.id e → uses_in w p.pairs e ≡ add) → Yields w es (ps ++ p ∷ []) v → (x : Uses) × Yields w es ps x × (join so_far v ≡ join (join so_far add) x)
took w es ps p so_far add v f h =
    let r = yields-last w es ps p v h in (
      r.1,
      r.4,
      ap (join so_far) (r.3 ∙ ap (λ a. join a r.1) (f r.0 r.2)) ∙ sym (join-assoc so_far add r.1),
    )

pub took-none : (w : Walk) (es : List Part) (ps : List Waiting) (p : Waiting) (so_far v : Uses) → ((e : Expr) → ExprStands es p.id e → uses_in w p.pairs e ≡ no_uses) → Yields w es (ps ++ p ∷ []) v → (x : Uses) × Yields w es ps x × (join so_far v ≡ join so_far x)
took-none w es ps p so_far v f h =
    let r = yields-last w es ps p v h in (
      r.1,
      r.4,
      ap (join so_far) (r.3 ∙ ap (λ a. join a r.1) (f r.0 r.2)),
    )

-- a pair
pub took-pair : (w : Walk) (es : List Part) (ps : List Waiting) (p a b : Waiting) (so_far v : Uses) → a.pairs ≡ p.pairs - 1 → b.pairs ≡ p.pairs - 1 → ((e : Expr) → ExprStands es p.id e → (op : _) × (l : Expr) × (r : Expr) × (e ≡ Bin op l r) × ExprStands es a.id l × ExprStands es b.id r) → Yields w es (ps ++ p ∷ []) v → (x : Uses) × Yields w es ((ps ++ a ∷ []) ++ b ∷ []) x × (join so_far v ≡ join (join so_far (pair_uses p.pairs)) x)
took-pair w es ps p a b so_far v ea eb f h =
    let y = yields-last w es ps p v h in
    let q = f y.0 y.2 in
    let ul : Uses = uses_in w (p.pairs - 1) q.1 in
    let ur : Uses = uses_in w (p.pairs - 1) q.2 in
    let pu : Uses = pair_uses p.pairs in
    let one : uses_in w p.pairs y.0 ≡ join pu (join ul ur) = ap (uses_in w p.pairs) q.3 ∙ pair-uses w p.pairs q.0 q.1 q.2 in
    let la : uses_in w a.pairs q.1 ≡ ul = ap (λ n. uses_in w n q.1) ea in
    let lb : uses_in w b.pairs q.2 ≡ ur = ap (λ n. uses_in w n q.2) eb in
    let x : Uses = join (uses_in w b.pairs q.2) (join (uses_in w a.pairs q.1) y.1) in
    let ex : x ≡ join (join ul ur) y.1 = ap (λ u. join u (join (uses_in w a.pairs q.1) y.1)) lb ∙ (ap (λ u. join ur (join u y.1)) la ∙ (join-swap ur ul y.1 ∙ sym (join-assoc ul ur y.1))) in (
      x,
      yields-more w es (ps ++ a ∷ []) b q.2 (join (uses_in w a.pairs q.1) y.1) q.5 (yields-more w es ps a q.1 y.1 q.4 y.4),
      ap (join so_far) (y.3 ∙ (ap (λ u. join u y.1) one ∙ join-assoc pu (join ul ur) y.1)) ∙ (sym (join-assoc so_far pu (join (join ul ur) y.1)) ∙ ap (join (join so_far pu)) (sym ex)),
    )
