use Rattle.std.proofs.Common.{◌≡◌, ◌∙◌, ℕ, ◌<◌, ◌^◌, List, length, map, ap, sym, subst, arith, rules}
use Rattle.std.specs.List.Sorted.{IsPermutation}
use Rattle.std.proofs.lemmas.List.{length-map}
use Rattle.std.proofs.lemmas.List.Sorted.{length_permutation}
use Rattle.rx_rules.proofs.Common.{Block, told}
use Rattle.rx_syntax.specs.Shape.{Stands}
use Rattle.rx_span.specs.Paths.{ArePaths}
use Rattle.rx_span.specs.Inside.Sorting.{backwards}
use Rattle.rx_span.specs.Inside.Best.{pick, best_chains}
use Rattle.rx_span.specs.Inside.Kept.{Linked}
use Rattle.rx_span.proofs.Lists.{paths-permutation}
use Rattle.rx_span.proofs.Picked.{spanned}
use Rattle.rx_span.proofs.longest.span_counted.Goals as goal

-- how many statements there are
count : {X : Type 0} (f : X → List ℕ) (ys : List (List ℕ)) (xs : List X) → IsPermutation ys (map f xs) → length xs ≡ length ys
count f ys xs p = sym (length-map xs f) ∙ length_permutation ys (map f xs) p

pub link-requires-clause-few : goal.link-requires-clause-few
link-requires-clause-few g c =
    let n = ap length c.deref.ensures.value ∙ count (λ p. p.now) (told c.args.history.now.entries) c.in_ok-paths.paths.items (c.in_ok-paths.ensures.same (told c.args.history.now.entries) c.in_ok-copies.ensures) in
    let few = c.requires.few in
    omega arith

pub link-requires-clause-paths : goal.link-requires-clause-paths
link-requires-clause-paths g c code st =
    subst (λ l. ArePaths code (map (λ p. p.now) l)) (sym c.deref.ensures.value)
    (paths-permutation code (told c.args.history.now.entries) (map (λ p. p.now) c.in_ok-paths.paths.items) (c.in_ok-paths.ensures.same (told c.args.history.now.entries) c.in_ok-copies.ensures) (c.requires.paths code st))

pub returns-in_err-linked-clause-looks : goal.returns-in_err-linked-clause-looks
returns-in_err-linked-clause-looks g c =
    let n = ap length c.deref.ensures.value ∙ count (λ p. p.now) (told c.args.history.now.entries) c.in_ok-paths.paths.items (c.in_ok-paths.ensures.same (told c.args.history.now.entries) c.in_ok-copies.ensures) in
    let looks = c.link.ensures.looks in
    omega arith

pub returns-in_err-chain-clause-looks : goal.returns-in_err-chain-clause-looks
returns-in_err-chain-clause-looks g c =
    let n = ap length c.deref.ensures.value ∙ count (λ p. p.now) (told c.args.history.now.entries) c.in_ok-paths.paths.items (c.in_ok-paths.ensures.same (told c.args.history.now.entries) c.in_ok-copies.ensures) in
    let looks = c.link.ensures.looks in
    omega arith

pub returns-clause-looks : goal.returns-clause-looks
returns-clause-looks g c =
    let n = ap length c.deref.ensures.value ∙ count (λ p. p.now) (told c.args.history.now.entries) c.in_ok-paths.paths.items (c.in_ok-paths.ensures.same (told c.args.history.now.entries) c.in_ok-copies.ensures) in
    let looks = c.link.ensures.looks in
    omega arith

-- both views of the sorted paths are one
same_view : {X : Type 0} (P : List X → Type 0) (xs ys items : List X) → xs ≡ items → ys ≡ items → P xs → P ys
same_view P xs ys items e f h = subst P (e ∙ sym f) h

pub read-requires : goal.read-requires
read-requires g c =
    let t : Block = c.checked.ensures.0 in
    let st : Stands c.args.program.now.script t = c.checked.ensures.1 in
    let cs = best_chains t (backwards (length c.deref.result.now) (map (λ p. p.now) c.deref.result.now)) in (
      cs,
      pick cs,
      same_view (λ l. Linked cs (map (λ p. p.now) l) c.deref-3.result.now) c.deref.result.now c.deref-2.result.now c.in_ok-paths.paths.items c.deref.ensures.value c.deref-2.ensures.value
          (subst (Linked cs (map (λ p. p.now) c.deref.result.now)) (sym c.deref-3.ensures.value) (c.in_ok-linked.ensures.linked t st)),
      c.in_ok-linked.ensures.longest t st,
    )

pub overflow_cast-result : goal.overflow_cast-result
overflow_cast-result g c =
    let n = count (λ p. p.now) (told c.args.history.now.entries) c.in_ok-paths.paths.items (c.in_ok-paths.ensures.same (told c.args.history.now.entries) c.in_ok-copies.ensures) in
    let few = c.requires.few in
    let bound : c.len.result < 2 ^ 32 = omega (arith, c.len.ensures, c.in_ok-paths.paths.ok.0) in
    search rules

pub returns-clause-span : goal.returns-clause-span
returns-clause-span g c code st =
    let cs = best_chains code (backwards (length c.deref.result.now) (map (λ p. p.now) c.deref.result.now)) in
    let items = c.in_ok-paths.paths.items in
    let ys : List (List ℕ) = map (λ p. p.now) items in
    let linked : Linked cs (map (λ p. p.now) c.deref-2.result.now) c.deref-3.result.now =
    same_view (λ l. Linked cs (map (λ p. p.now) l) c.deref-3.result.now) c.deref.result.now c.deref-2.result.now items c.deref.ensures.value c.deref-2.ensures.value
    (subst (Linked cs (map (λ p. p.now) c.deref.result.now)) (sym c.deref-3.ensures.value) (c.in_ok-linked.ensures.linked code st)) in
    let chain : c.in_ok-chain.chain ≡ pick cs = c.in_ok-chain.ensures cs (pick cs) linked (c.in_ok-linked.ensures.longest code st) in
    let whole : length c.deref.result.now ≡ length ys = ap length c.deref.ensures.value ∙ sym (length-map items (λ p. p.now)) in
    let same : pick cs ≡ pick (best_chains code (backwards (length ys) ys)) =
    ap (λ n. pick (best_chains code (backwards n (map (λ p. p.now) c.deref.result.now)))) whole ∙ ap (λ l. pick (best_chains code (backwards (length ys) (map (λ p. p.now) l)))) c.deref.ensures.value in
    let n : c.len.result ≡ length ys = let e = length-map items (λ p. p.now) in omega (arith, c.len.ensures, c.in_ok-paths.paths.ok.0) in
    spanned code (told c.args.history.now.entries) ys c.len.result c.in_ok-chain.chain (c.in_ok-paths.ensures.same (told c.args.history.now.entries) c.in_ok-copies.ensures) c.in_ok-paths.ensures.descends n (chain ∙ same)
