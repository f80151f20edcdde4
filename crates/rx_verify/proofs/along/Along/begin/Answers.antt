use Rattle.std.proofs.Common.{rules, ◌≡◌, ℕ, ◌+◌, true, false, List, Some, sym, subst, arith, ◌∙◌}
use Rattle.std.proofs.lemmas.Bool.{true≢false}
use Rattle.std.proofs.lemmas.Option.{slice_get_within}
use Rattle.rx_rules.proofs.Common.{begins, begun}
use Rattle.rx_verify.specs.declared.along.Along.{Along}
use Rattle.rx_verify.specs.Along.{GoesAlong}
use Rattle.rx_verify.proofs.GoingAlong.{begun_none, goes_on, parts}
use Rattle.rx_verify.proofs.along.Along.begin.Goals as goal
use Rattle.rx_verify.proofs.along.Along.begin.Goals.{else-self-len-via-then-self-len+else-begins, else-self-len-via-else-self-len, in-Some, in-None}
use Rattle.rx_tree_laws.proofs.Beginning.{begun_one}

pub returns-then-begins : goal.returns-then-begins
returns-then-begins c = λ t batch so_far s g.
    let a = c.args.self.now in
    let x = c.item.result.now in
    let b : begins t ≡ Some x = (c.begins.ensures t s).0 c.if-begins.true in
    let same : a.same ≡ true = search rules in
    subst (λ (l : List (List ℕ)). GoesAlong batch (record a { count = a.count + 1 }) l) (sym (begun_one t so_far x b))
    (goes_on batch so_far a g x same c.item.ensures (slice_get_within a.paths.now a.count x c.item.ensures))

pub returns : goal.returns
returns c = λ t batch so_far s g.
    let a = c.args.self.now in
    elim c.match-branch-2.branch as (λ _. GoesAlong batch c.match-branch-2.self (begun t so_far)) [
      | in-Some w ↦
          let x = w.in-Some.field-0 in
          let b : begins t ≡ Some x = sym (c.in_ok-path.ensures t s) ∙ w.in-Some.is in
          subst (λ (v : Along). GoesAlong batch v (begun t so_far)) (sym w.self-is)
          (subst (λ (l : List (List ℕ)). GoesAlong batch (record a { same = false }) l) (sym (begun_one t so_far x b))
          (parts batch so_far a g x (λ same at.
          elim c.else-self-len.branch [
            | else-self-len-via-then-self-len+else-begins v ↦ true≢false (sym ((v.begins.ensures t s).1 (b ∙ (sym at ∙ v.item.ensures))) ∙ v.if-begins.false)
            | else-self-len-via-else-self-len v ↦
                let inside = slice_get_within a.paths.now a.count x at in
                let past = v.if-self-len.false in
                let all = c.len.ensures in
                omega (arith, inside, past, all)
          ])))
      | in-None w ↦
          subst (λ (v : Along). GoesAlong batch v (begun t so_far)) (sym w.self-is)
          (subst (λ (l : List (List ℕ)). GoesAlong batch a l) (sym (begun_none t so_far (sym (c.in_ok-path.ensures t s) ∙ w.in-None.is))) g)
    ]
