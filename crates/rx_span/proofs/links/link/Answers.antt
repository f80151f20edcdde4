use Rattle.std.proofs.Common.{◌≡◌, ◌∙◌, ℕ, ◌+◌, ◌^◌, ◌<◌, ◌≤◌, List, length, map, filter, drop, ap, sym, subst, refl, arith, rules, add-one}
use Rattle.std.proofs.lemmas.List.{length-map}
use Rattle.rx_base.proofs.Elements.{length-push}
use Rattle.rx_rules.proofs.Common.{Block}
use Rattle.rx_syntax.specs.Shape.{Stands}
use Rattle.rx_order.specs.Marks.{marks_of}
use Rattle.rx_span.specs.Inside.Sorting.{shared, next_of, backwards}
use Rattle.rx_span.specs.Inside.Best.{may_lead, pick, best_chains}
use Rattle.rx_span.specs.Inside.Kept.{follow, past, IsLaid, IsKept}
use Rattle.rx_span.proofs.Sharing.{shared-left, shared-right, marks_of-all}
use Rattle.rx_span.proofs.Depths.{path-short}
use Rattle.rx_span.proofs.Passing.{is_path, table, kept_follows, kept_short, next_linked, next_state, all-passed}
use Rattle.rx_span.proofs.links.link.Goals as goal

length_now : {X : Type 0} (f : X → List ℕ) (xs : List X) (n : ℕ) → n < length xs → n < length (map f xs)
length_now f xs n l = let e = length-map xs f in omega arith

pub look-looked-requires : goal.look-looked-requires
look-looked-requires g c =
    let t : Block = c.checked.ensures.0 in
    let st : Stands c.args.program.now.script t = c.checked.ensures.1 in
    let xs : List (List ℕ) = map (λ p. p.now) c.args.paths.now in
    let n : ℕ = c.loop-at.at in
    let low : n < length xs = length_now (λ p. p.now) c.args.paths.now n c.loop-at-test.true in
    let x : c.path_at-x.result.now ≡ next_of n xs = c.path_at-x.ensures in
    let len : length c.path_at-x.result.now ≡ length (next_of n xs) = ap length x in
    let lay : IsLaid c.loop-at.from c.loop-at.passed (length (next_of n xs)) c.loop-at.rows.items c.lay.new.rows.items c.in_ok-inside.inside = subst (λ m. IsLaid c.loop-at.from c.loop-at.passed m c.loop-at.rows.items c.lay.new.rows.items c.in_ok-inside.inside) len c.in_ok-inside.ensures in
    let tab = table t xs n low c.requires.descends (c.requires.paths t st) c.loop-at.rows.items c.lay.new.rows.items c.loop-at.from c.loop-at.passed c.in_ok-inside.inside (c.loop-at.invariant.state t st) c.loop-at.invariant.rows lay in
    let ms : c.mark_numbers.new.marks.items ≡ marks_of t (next_of n xs) = c.in_ok-mark_numbers.ensures t st ∙ ap (marks_of t) x in
    ap length c.deref.ensures.value ∙ tab.long ∙ sym (ap length (c.deref-in-loop-at.ensures.value ∙ ms) ∙ marks_of-all t (next_of n xs) (is_path t xs n low c.requires.descends (c.requires.paths t st)))

pub returns-in_err-push-clause-looks : goal.returns-in_err-push-clause-looks
returns-in_err-push-clause-looks g c =
    let t : Block = c.checked.ensures.0 in
    let st : Stands c.args.program.now.script t = c.checked.ensures.1 in
    let xs : List (List ℕ) = map (λ p. p.now) c.args.paths.now in
    let n : ℕ = c.loop-at.at in
    let low : n < length xs = length_now (λ p. p.now) c.args.paths.now n c.loop-at-test.true in
    let x : c.path_at-x.result.now ≡ next_of n xs = c.path_at-x.ensures in
    let len : length c.path_at-x.result.now ≡ length (next_of n xs) = ap length x in
    let lay : IsLaid c.loop-at.from c.loop-at.passed (length (next_of n xs)) c.loop-at.rows.items c.lay.new.rows.items c.in_ok-inside.inside = subst (λ m. IsLaid c.loop-at.from c.loop-at.passed m c.loop-at.rows.items c.lay.new.rows.items c.in_ok-inside.inside) len c.in_ok-inside.ensures in
    let tab = table t xs n low c.requires.descends (c.requires.paths t st) c.loop-at.rows.items c.lay.new.rows.items c.loop-at.from c.loop-at.passed c.in_ok-inside.inside (c.loop-at.invariant.state t st) c.loop-at.invariant.rows lay in
    let path : length (next_of n xs) ≤ 65 = path-short t c.checked.ensures.4 (next_of n xs) (is_path t xs n low c.requires.descends (c.requires.paths t st)) in
    let long : length c.deref.result.now ≡ length (next_of n xs) = ap length c.deref.ensures.value ∙ tab.long in
    let looked = c.look-looked.ensures.looks in
    let looks = c.loop-at.invariant.looks in
    let test : n < length c.args.paths.now = c.loop-at-test.true in
    omega arith

pub overflow_add-own : goal.overflow_add-own
overflow_add-own g c =
    let t : Block = c.checked.ensures.0 in
    let st : Stands c.args.program.now.script t = c.checked.ensures.1 in
    let xs : List (List ℕ) = map (λ p. p.now) c.args.paths.now in
    let n : ℕ = c.loop-at.at in
    let low : n < length xs = length_now (λ p. p.now) c.args.paths.now n c.loop-at-test.true in
    let x : c.path_at-x.result.now ≡ next_of n xs = c.path_at-x.ensures in
    let len : length c.path_at-x.result.now ≡ length (next_of n xs) = ap length x in
    let lay : IsLaid c.loop-at.from c.loop-at.passed (length (next_of n xs)) c.loop-at.rows.items c.lay.new.rows.items c.in_ok-inside.inside = subst (λ m. IsLaid c.loop-at.from c.loop-at.passed m c.loop-at.rows.items c.lay.new.rows.items c.in_ok-inside.inside) len c.in_ok-inside.ensures in
    let tab = table t xs n low c.requires.descends (c.requires.paths t st) c.loop-at.rows.items c.lay.new.rows.items c.loop-at.from c.loop-at.passed c.in_ok-inside.inside (c.loop-at.invariant.state t st) c.loop-at.invariant.rows lay in
    let ms : c.deref-in-loop-at.result.now ≡ marks_of t (next_of n xs) = c.deref-in-loop-at.ensures.value ∙ c.in_ok-mark_numbers.ensures t st ∙ ap (marks_of t) x in
    let kept : IsKept (best_chains t (backwards n xs)) c.look-looked.result.follows (pick (filter (may_lead t (next_of n xs)) (best_chains t (backwards n xs)))) =
    kept_follows t xs n low c.requires.descends (c.requires.paths t st) c.lay.new.rows.items c.in_ok-inside.inside c.deref-in-loop-at.result.now c.look-looked.result.follows tab ms (c.look-looked.ensures.follows ∙ ap (follow c.deref-in-loop-at.result.now) c.deref.ensures.value) in
    let short : c.look-looked.result.follows.length ≤ n = kept_short t xs n low c.requires.descends (c.requires.paths t st) c.look-looked.result.follows kept in
    let test : n < length c.args.paths.now = c.loop-at-test.true in
    let few : length c.args.paths.now < 2 ^ 32 = c.requires.few in
    let bound : c.look-looked.result.follows.length + 1 < 2 ^ 32 = omega arith in
    search rules

pub overflow_cast-own : goal.overflow_cast-own
overflow_cast-own g c =
    let test : c.loop-at.at < length c.args.paths.now = c.loop-at-test.true in
    let few : length c.args.paths.now < 2 ^ 32 = c.requires.few in
    let bound : c.loop-at.at < 2 ^ 32 = omega arith in
    search rules

pub loop-at-preserved : goal.loop-at-preserved
loop-at-preserved g c =
    let t : Block = c.checked.ensures.0 in
    let st : Stands c.args.program.now.script t = c.checked.ensures.1 in
    let xs : List (List ℕ) = map (λ p. p.now) c.args.paths.now in
    let n : ℕ = c.loop-at.at in
    let low : n < length xs = length_now (λ p. p.now) c.args.paths.now n c.loop-at-test.true in
    let x : c.path_at-x.result.now ≡ next_of n xs = c.path_at-x.ensures in
    let len : length c.path_at-x.result.now ≡ length (next_of n xs) = ap length x in
    let lay : IsLaid c.loop-at.from c.loop-at.passed (length (next_of n xs)) c.loop-at.rows.items c.lay.new.rows.items c.in_ok-inside.inside = subst (λ m. IsLaid c.loop-at.from c.loop-at.passed m c.loop-at.rows.items c.lay.new.rows.items c.in_ok-inside.inside) len c.in_ok-inside.ensures in
    let tab = table t xs n low c.requires.descends (c.requires.paths t st) c.loop-at.rows.items c.lay.new.rows.items c.loop-at.from c.loop-at.passed c.in_ok-inside.inside (c.loop-at.invariant.state t st) c.loop-at.invariant.rows lay in
    let path : length (next_of n xs) ≤ 65 = path-short t c.checked.ensures.4 (next_of n xs) (is_path t xs n low c.requires.descends (c.requires.paths t st)) in
    let long : length c.deref.result.now ≡ length (next_of n xs) = ap length c.deref.ensures.value ∙ tab.long in
    let looked = c.look-looked.ensures.looks in
    let looks = c.loop-at.invariant.looks in
    let test : n < length c.args.paths.now = c.loop-at-test.true in
    let pushed : length c.push.new.self.items ≡ length c.loop-at.links.items + 1 = ap length c.in_ok-push.ensures.items ∙ length-push c.loop-at.links.items c.look-looked.result.follows ∙ sym (add-one (length c.loop-at.links.items)) in
    let held = c.loop-at.invariant.links in
    let from : c.next_shared-from.result ≡ shared (next_of (n + 1) xs) (next_of n xs) = c.next_shared-from.ensures in
    let left = shared-left (next_of (n + 1) xs) (next_of n xs) in
    let right = shared-right (next_of (n + 1) xs) (next_of n xs) in
    let rows : length c.lay.new.rows.items ≡ length (next_of n xs) = tab.long in
    record {
      within = omega arith;
      links = omega arith;
      rows = omega arith;
      from = omega arith;
      looks = omega arith;
      linked = λ t st. (
          let tab = table t xs n low c.requires.descends (c.requires.paths t st) c.loop-at.rows.items c.lay.new.rows.items c.loop-at.from c.loop-at.passed c.in_ok-inside.inside (c.loop-at.invariant.state t st) c.loop-at.invariant.rows lay in
          let ms : c.deref-in-loop-at.result.now ≡ marks_of t (next_of n xs) = c.deref-in-loop-at.ensures.value ∙ c.in_ok-mark_numbers.ensures t st ∙ ap (marks_of t) x in
          let kept : IsKept (best_chains t (backwards n xs)) c.look-looked.result.follows (pick (filter (may_lead t (next_of n xs)) (best_chains t (backwards n xs)))) =
          kept_follows t xs n low c.requires.descends (c.requires.paths t st) c.lay.new.rows.items c.in_ok-inside.inside c.deref-in-loop-at.result.now c.look-looked.result.follows tab ms (c.look-looked.ensures.follows ∙ ap (follow c.deref-in-loop-at.result.now) c.deref.ensures.value) in
          next_linked t xs n low c.requires.descends (c.requires.paths t st) c.loop-at.links.items c.push.new.self.items c.look-looked.result.follows (c.loop-at.invariant.linked t st) held kept c.in_ok-push.ensures.items);
      state = λ t st. (
          let tab = table t xs n low c.requires.descends (c.requires.paths t st) c.loop-at.rows.items c.lay.new.rows.items c.loop-at.from c.loop-at.passed c.in_ok-inside.inside (c.loop-at.invariant.state t st) c.loop-at.invariant.rows lay in
          let ms : c.deref-in-loop-at.result.now ≡ marks_of t (next_of n xs) = c.deref-in-loop-at.ensures.value ∙ c.in_ok-mark_numbers.ensures t st ∙ ap (marks_of t) x in
          let kept : IsKept (best_chains t (backwards n xs)) c.look-looked.result.follows (pick (filter (may_lead t (next_of n xs)) (best_chains t (backwards n xs)))) =
          kept_follows t xs n low c.requires.descends (c.requires.paths t st) c.lay.new.rows.items c.in_ok-inside.inside c.deref-in-loop-at.result.now c.look-looked.result.follows tab ms (c.look-looked.ensures.follows ∙ ap (follow c.deref-in-loop-at.result.now) c.deref.ensures.value) in
          next_state t xs n low c.requires.descends (c.requires.paths t st) c.lay.new.rows.items c.in_ok-inside.inside c.look-looked.result.follows (record { length = c.look-looked.result.follows.length + 1; head = n }) c.look-looked.result.passed c.better-passed.result c.next_shared-from.result tab kept refl (c.look-looked.ensures.passed ∙ ap (λ r. past (drop c.next_shared-from.result r) c.in_ok-inside.inside) c.deref.ensures.value) from c.better-passed.ensures);
    }

pub returns-clause-longest : goal.returns-clause-longest
returns-clause-longest g c code sc =
    let xs : List (List ℕ) = map (λ p. p.now) c.args.paths.now in
    let all : length xs ≡ length c.args.paths.now = length-map c.args.paths.now (λ p. p.now) in
    let over : length c.args.paths.now ≤ c.loop-at.at = c.loop-at-test.false in
    let within : c.loop-at.at ≤ length c.args.paths.now = c.loop-at.invariant.within in
    subst (λ m. IsKept (best_chains code (backwards m xs)) c.loop-at.passed (pick (best_chains code (backwards m xs)))) all
    (all-passed code xs c.loop-at.at c.loop-at.from c.loop-at.rows.items c.loop-at.passed (omega arith) c.loop-at.invariant.from (c.loop-at.invariant.state code sc))
