-- The statements of a block, as they are gone through.
use Rattle.std.proofs.Common.{◌≡◌, ℕ, suc, ◌+◌, ◌≤◌, Bool, true, false, ◌||◌, List, [], ◌∷◌, ◌++◌, length, drop, map, ◌==◌, refl, ap, sym, ◌∙◌, subst, arith, Option, Some, None, option_map, Result, Ok, Err, IfSome, slice_get, if◌then◌else◌}
use Rattle.std.proofs.lemmas.List.{drop_all}
use Rattle.std.proofs.lemmas.List.Folds.{list_any-append}
use Rattle.std.proofs.lemmas.Option.{same_Some}
use Rattle.std.proofs.lemmas.Bool.{eqb-true, ltb-false}
use Rattle.rx_base.proofs.Elements.{drop-next}
use Rattle.rx_base.proofs.Bools.{or-first}
use Rattle.rx_rules.proofs.Common.{Stmt, Block, Nothing, Then, work, work_of, has}
use Rattle.rx_syntax.specs.Shape.{Shape, StmtIs, ListStands, BlockStands}
use Rattle.rx_syntax.specs.declared.nodes.StmtId.{StmtId}
use Rattle.rx_syntax.specs.declared.nodes.BlockId.{BlockId}
use Rattle.rx_syntax.specs.declared.nodes.NameId.{NameId}
use Rattle.rx_syntax.specs.declared.nodes.Stmt.{Stmt as Node}
use Rattle.rx_check.specs.Rules.{Kind, Sight, assigned, fails_depth, fails_known, inside, learned, sights}
use Rattle.rx_check.specs.Inside.Walk.{Sofar, and_on, cap, is_in, is_one_more, mistakes_kind, known_with, noted, rule_with, sights_run, seen_as, sofar_of, sight_stepped, Extends, KnowsNames}
use Rattle.rx_check.specs.declared.names.Seen.{Seen}
use Rattle.rx_check.specs.declared.walk.Walk.{Walk}
use Rattle.rx_check.proofs.Statements.{least}
use Rattle.rx_check.proofs.Capping.{cap-more, cap-same}

-- one list of statements after another
and-on-and-on : (r : Result Sofar (ℕ × ℕ)) (f g : Sofar → Result Sofar (ℕ × ℕ)) → and_on (and_on r f) g ≡ and_on r (λ st. and_on (f st) g)
and-on-and-on (Ok st) f g = refl
and-on-and-on (Err e) f g = refl

and-on-same : (r : Result Sofar (ℕ × ℕ)) (f g : Sofar → Result Sofar (ℕ × ℕ)) → ((st : Sofar) → f st ≡ g st) → and_on r f ≡ and_on r g
and-on-same (Ok st) f g h = h st
and-on-same (Err e) f g h = refl

pub run-append : (st : Sofar) (xs ys : List Sight) → sights_run st (xs ++ ys) ≡ and_on (sights_run st xs) (λ next. sights_run next ys)
run-append st [] ys = refl
run-append st (x ∷ xs) ys =
    let r : Result Sofar (ℕ × ℕ) = sight_stepped (rule_with st.seen x) (assigned x.stmt) st in
    let f : Sofar → Result Sofar (ℕ × ℕ) = λ next. sights_run next (xs ++ ys) in
    let g : Sofar → Result Sofar (ℕ × ℕ) = λ next. and_on (sights_run next xs) (λ n. sights_run n ys) in
    and-on-same r f g (λ next. run-append next xs ys) ∙ sym (and-on-and-on r (λ next. sights_run next xs) (λ n. sights_run n ys))

pub run-on : (st next : Sofar) (xs ys : List Sight) → sights_run st xs ≡ Ok next → sights_run st (xs ++ ys) ≡ sights_run next ys
run-on st next xs ys e = run-append st xs ys ∙ ap (λ r. and_on r (λ n. sights_run n ys)) e

pub run-bad : (st : Sofar) (xs ys : List Sight) (e : ℕ × ℕ) → sights_run st xs ≡ Err e → sights_run st (xs ++ ys) ≡ Err e
run-bad st xs ys x e = run-append st xs ys ∙ ap (λ r. and_on r (λ n. sights_run n ys)) e

-- what is left of a block
pub record Going (s : Shape) (k : BlockId) (i depth total : ℕ) (old now : Walk) (t : Block) (known : List ℕ) : Type 0 where
  pub ids : List StmtId
  pub block : slice_get s.blocks k.0 ≡ Some ids
  pub rest : Block
  pub stands : ListStands s (drop i ids) rest
  pub names : List ℕ
  pub knows : KnowsNames now.known.items names
  pub same : sights_run (sofar_of old) (sights known depth t) ≡ sights_run (sofar_of now) (sights names depth rest)
  pub works : cap (work t) ≡ cap (total + work rest)

zero-more : (n : ℕ) → n ≡ 0 + n
zero-more n = omega arith

pub going-all : (s : Shape) (k : BlockId) (depth : ℕ) (w : Walk) (t : Block) (known : List ℕ) → KnowsNames w.known.items known → BlockStands s k t → Going s k 0 depth 0 w w t known
going-all s k depth w t known n b = record { ids = b.0; block = b.1; rest = t; stands = b.2; names = known; knows = n; same = refl; works = ap cap (zero-more (work t)) }

-- the next statement, and what is left after it
pub record Next (s : Shape) (k : BlockId) (i depth total : ℕ) (old now : Walk) (t : Block) (known : List ℕ) (node : Node) : Type 0 where
  pub ids : List StmtId
  pub block : slice_get s.blocks k.0 ≡ Some ids
  pub first : Stmt
  pub is : StmtIs s node first
  pub rest : Block
  pub stands : ListStands s (drop (i + 1) ids) rest
  pub names : List ℕ
  pub knows : KnowsNames now.known.items names
  pub same : sights_run (sofar_of old) (sights known depth t) ≡ sights_run (sofar_of now) (record { stmt = first; depth = depth; known = names } ∷ (inside names depth first ++ sights (learned (assigned first) names) depth rest))
  pub works : cap (work t) ≡ cap (total + (work_of first + work rest))

-- the number of the next statement stands for one
pub record Points (s : Shape) (id : StmtId) : Type 0 where
  pub node : Node
  pub at : slice_get s.stmts id.0 ≡ Some node

points-of : (s : Shape) (id : StmtId) (ids : List StmtId) (rest : Block) → ListStands s (id ∷ ids) rest → Points s id
points-of s id ids Nothing h = absurd h
points-of s id ids (Then u us) h = record { node = h.0.0; at = h.0.1 }

next-stands : (s : Shape) (k : BlockId) (i depth total : ℕ) (old now : Walk) (t : Block) (known : List ℕ) (id : StmtId) (g : Going s k i depth total old now t known) → IfSome (slice_get s.blocks k.0) (λ ids. slice_get ids i ≡ Some id) → ListStands s (id ∷ drop (i + 1) g.ids) g.rest
next-stands s k i depth total old now t known id g f =
    let at : slice_get g.ids i ≡ Some id = subst (λ (o : Option (List StmtId)). IfSome o (λ ids. slice_get ids i ≡ Some id)) g.block f in
    subst (λ (ids : List StmtId). ListStands s ids g.rest) (drop-next g.ids i id at) g.stands

pub points : (s : Shape) (k : BlockId) (i depth total : ℕ) (old now : Walk) (t : Block) (known : List ℕ) (id : StmtId) → Going s k i depth total old now t known → IfSome (slice_get s.blocks k.0) (λ ids. slice_get ids i ≡ Some id) → Points s id
points s k i depth total old now t known id g f = points-of s id (drop (i + 1) g.ids) g.rest (next-stands s k i depth total old now t known id g f)

next-of : (s : Shape) (k : BlockId) (i depth total : ℕ) (old now : Walk) (t : Block) (known : List ℕ) (id : StmtId) (node : Node) (ids : List StmtId) (rest : Block) (names : List ℕ) → slice_get s.stmts id.0 ≡ Some node → slice_get s.blocks k.0 ≡ Some ids → ListStands s (id ∷ drop (i + 1) ids) rest → KnowsNames now.known.items names → sights_run (sofar_of old) (sights known depth t) ≡ sights_run (sofar_of now) (sights names depth rest) → cap (work t) ≡ cap (total + work rest) → Next s k i depth total old now t known node
next-of s k i depth total old now t known id node ids Nothing names a b h n e w = absurd h
next-of s k i depth total old now t known id node ids (Then u us) names a b h n e w = record {
  ids = ids;
  block = b;
  first = u;
  is = subst (λ (m : Node). StmtIs s m u) (same_Some h.0.0 node (sym h.0.1 ∙ a)) h.0.2;
  rest = us;
  stands = h.1;
  names = names;
  knows = n;
  same = e;
  works = w;
}

pub going-next : (s : Shape) (k : BlockId) (i depth total : ℕ) (old now : Walk) (t : Block) (known : List ℕ) (id : StmtId) (node : Node) → Going s k i depth total old now t known → IfSome (slice_get s.blocks k.0) (λ ids. slice_get ids i ≡ Some id) → slice_get s.stmts id.0 ≡ Some node → Next s k i depth total old now t known node
going-next s k i depth total old now t known id node g f a = next-of s k i depth total old now t known id node g.ids g.rest g.names a g.block (next-stands s k i depth total old now t known id g f) g.knows g.same g.works

-- the statements of the next one
abbrev pub its : {s : Shape} {k : BlockId} {i depth total : ℕ} {old now : Walk} {t : Block} {known : List ℕ} {node : Node} → Next s k i depth total old now t known node → List Sight
its {depth = depth} n = record { stmt = n.first; depth = depth; known = n.names } ∷ inside n.names depth n.first

pub going-on : (s : Shape) (k : BlockId) (i depth total : ℕ) (old now new : Walk) (t : Block) (known : List ℕ) (node : Node) (w : ℕ) (n : Next s k i depth total old now t known node) → sights_run (sofar_of now) (its n) ≡ Ok (sofar_of new) → KnowsNames new.known.items (learned (assigned n.first) n.names) → w ≡ cap (work_of n.first) → Going s k (i + 1) depth (cap (total + w)) old new t known
going-on s k i depth total old now new t known node w n e l v = record {
  ids = n.ids;
  block = n.block;
  rest = n.rest;
  stands = n.stands;
  names = learned (assigned n.first) n.names;
  knows = l;
  same = n.same ∙ run-on (sofar_of now) (sofar_of new) (its n) (sights (learned (assigned n.first) n.names) depth n.rest) e;
  works = n.works ∙ (cap-more total (work_of n.first) (work n.rest) ∙ ap (λ x. cap (cap (total + x) + work n.rest)) (sym v));
}

pub going-bad : (s : Shape) (k : BlockId) (i depth total : ℕ) (old now : Walk) (t : Block) (known : List ℕ) (node : Node) (x : ℕ × ℕ) (n : Next s k i depth total old now t known node) → sights_run (sofar_of now) (its n) ≡ Err x → sights_run (sofar_of old) (sights known depth t) ≡ Err x
going-bad s k i depth total old now t known node x n e = n.same ∙ run-bad (sofar_of now) (its n) (sights (learned (assigned n.first) n.names) depth n.rest) x e

none : (s : Shape) (b : Block) (ids : List StmtId) → ids ≡ [] → ListStands s ids b → b ≡ Nothing
none s Nothing ids e h = refl
none s (Then u us) ids e h = absurd (subst (λ (js : List StmtId). ListStands s js (Then u us)) e h)

add-none : (n : ℕ) → n + 0 ≡ n
add-none n = omega arith

-- nothing is left
pub going-end : (s : Shape) (k : BlockId) (i depth total len : ℕ) (old now : Walk) (t : Block) (known : List ℕ) → Going s k i depth total old now t known → IfSome (slice_get s.blocks k.0) (λ ids. len ≡ length ids) → len ≤ i → total ≤ 100001 → (sights_run (sofar_of old) (sights known depth t) ≡ Ok (sofar_of now)) × (total ≡ cap (work t))
going-end s k i depth total len old now t known g f h m =
    let e : len ≡ length g.ids = subst (λ (o : Option (List StmtId)). IfSome o (λ ids. len ≡ length ids)) g.block f in
    let r : g.rest ≡ Nothing = none s g.rest (drop i g.ids) (drop_all i g.ids (omega (arith, e, h))) g.stands in (
      g.same ∙ ap (λ b. sights_run (sofar_of now) (sights g.names depth b)) r,
      sym (g.works ∙ (ap (λ b. cap (total + work b)) r ∙ (ap cap (add-none total) ∙ cap-same total m))),
    )

pub append-none : {A : Type 0} (xs : List A) → xs ≡ xs ++ []
append-none [] = refl
append-none (x ∷ xs) = ap (λ ys. x ∷ ys) (append-none xs)

append-three : {A : Type 0} (xs ys zs : List A) → (xs ++ ys) ++ zs ≡ xs ++ (ys ++ zs)
append-three [] ys zs = refl
append-three (x ∷ xs) ys zs = ap (λ l. x ∷ l) (append-three xs ys zs)

pub extends-trans : (a b c : List NameId) → Extends a b → Extends b c → Extends a c
extends-trans a b c x y = (x.0 ++ y.0, y.1 ∙ (ap (λ l. l ++ y.0) x.1 ∙ append-three a x.0 y.0))

-- the numbers of the names
pub numbers : List NameId → List ℕ
numbers ns = map (λ n. n.0) ns

pub knows-own : (ns : List NameId) → KnowsNames ns (numbers ns)
unfolding numbers
knows-own [] n = refl
knows-own (m ∷ ms) n = ap (λ b. (n == m.0) || b) (knows-own ms n)

pub knows-same : (ns ms : List NameId) (known : List ℕ) → ns ≡ ms → KnowsNames ms known → KnowsNames ns known
knows-same ns ms known e k n = ap (is_in n) e ∙ k n

or-true : (a b : Bool) → (a ≡ true → b ≡ true) → b ≡ (a || b)
or-true true b f = f refl
or-true false b f = refl

or-end : (a b : Bool) → (a || (b || false)) ≡ (b || a)
or-end true true = refl
or-end true false = refl
or-end false true = refl
or-end false false = refl

-- what is known after a statement
pub knows-more : (a : Option Seen) (ns : List NameId) (known : List ℕ) → KnowsNames ns known → KnowsNames (known_with a ns) (learned (option_map seen_as a) known)
knows-more None ns known k n = k n
knows-more (Some s) ns known k n = by-cases (is_in s.name.0 ns) refl
  where
    by-cases : (b : Bool) → is_in s.name.0 ns ≡ b → is_in n (known_with (Some s) ns) ≡ ((n == s.name.0) || has n known)
    by-cases true e =
        ap (λ b. is_in n (if b then ns else ns ++ s.name ∷ [])) e
        ∙ (or-true (n == s.name.0) (is_in n ns) (λ h. ap (λ m. is_in m ns) (eqb-true n s.name.0 h) ∙ e) ∙ ap (λ b. (n == s.name.0) || b) (k n))
    by-cases false e =
        ap (λ b. is_in n (if b then ns else ns ++ s.name ∷ [])) e
        ∙ (list_any-append (λ m. n == m.0) ns (s.name ∷ []) ∙ (or-end (is_in n ns) (n == s.name.0) ∙ ap (λ b. (n == s.name.0) || b) (k n)))

pub one-more : (n : ℕ) → n + 1 ≡ suc n
one-more n = omega arith

pub stepped-none : (r : Option ℕ) (a : Option (ℕ × Kind)) (st : Sofar) (f : Sofar → Result Sofar (ℕ × ℕ)) → r ≡ None → and_on (sight_stepped r a st) f ≡ f (noted a st)
stepped-none r a st f e = ap (λ o. and_on (sight_stepped o a st) f) e

least-none : (a b c d : Bool) → least a b c d ≡ None → c ≡ false
least-none true b c d e = cc
least-none false true c d e = cc
least-none false false true d e = cc
least-none false false false d e = refl

pub not-deep : (seen : List (ℕ × Kind)) (x : Sight) → rule_with seen x ≡ None → x.depth ≤ 32
not-deep seen x e = ltb-false 32 x.depth (or-first _ _ (least-none (fails_known x) (mistakes_kind seen x) (fails_depth x) (is_one_more seen (assigned x.stmt)) e))
