use Rattle.std.proofs.Common.{◌≡◌, List, ℕ, Some, slice_get, ap, sym, ◌∙◌, arith}
use Rattle.std.proofs.lemmas.Bool.{true≢false}
use Rattle.std.proofs.lemmas.Option.{same_Some, slice_get_within}
use Rattle.rx_verify.proofs.GoingAlong.{goes_on, parts}
use Rattle.rx_verify.proofs.along.Along.tell.Goals as goal
use Rattle.rx_verify.proofs.along.Along.tell.Goals.{else-self-via-then-self+then-self-len+else-same_path, else-self-via-then-self+else-self-len, else-self-via-else-self}

pub returns-then-same_path : goal.returns-then-same_path
returns-then-same_path c = λ batch so_far g.
    let a = c.args.self.now in
    let path : c.item.result.now ≡ c.args.path.now = c.same_path.ensures.0 c.if-same_path.true in
    let at : slice_get a.paths.now a.count ≡ Some c.args.path.now = c.item.ensures ∙ ap (λ (p : List ℕ). Some p) path in
    goes_on batch so_far a g c.args.path.now c.if-self.true at (slice_get_within a.paths.now a.count c.args.path.now at)

pub returns-else-self : goal.returns-else-self
returns-else-self c = λ batch so_far g.
    let a = c.args.self.now in
    let x = c.args.path.now in
    parts batch so_far a g x (λ same at.
    elim c.else-self.branch [
      | else-self-via-then-self+then-self-len+else-same_path v ↦ true≢false (sym (v.same_path.ensures.1 (same_Some _ _ (sym v.item.ensures ∙ at))) ∙ v.if-same_path.false)
      | else-self-via-then-self+else-self-len v ↦
          let inside = slice_get_within a.paths.now a.count x at in
          let past = v.if-self-len.false in
          let all = v.len.ensures in
          omega (arith, inside, past, all)
      | else-self-via-else-self v ↦ true≢false (sym same ∙ v.if-self.false)
    ])
