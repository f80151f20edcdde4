use Rattle.std.proofs.Common.{arith, ℕ, ◌+◌, ◌/◌, ◌<◌, List, length, set, ap, sym, subst}
use Rattle.std.proofs.lemmas.List.{length-set}
use Rattle.rx_rank.proofs.Leaves.{bit-most}
use Rattle.rx_rank.specs.Counts.{IsLate}
use Rattle.rx_rank.proofs.Adding.{IsUp, fits, up-begins, up-goes_on, up-marked, late-begins, late-goes_on, mark-same}
use Rattle.rx_rank.proofs.counts.mark.Goals as goal

pub returns-then-counts-i-clause-marked : goal.returns-then-counts-i-clause-marked
returns-then-counts-i-clause-marked c =
    mark-same c.args.stands c.args.x c.from-bit.result (length c.args.counts.now / 2) c.args.counts.now c.requires.tree.bare c.requires.inside c.from-bit.ensures c.if-counts-i.true

pub up-init : goal.up-init
up-init c =
    let cs : List ℕ = c.args.counts.now in
    let half : ℕ = length cs / 2 in
    let i : ℕ = half + c.args.x in
    let n : ℕ = c.from-bit.result in
    let inside = c.requires.inside in (
      subst (λ z. IsUp (z / 2) i (set cs i n) (set cs i n)) (sym (length-set cs i n))
          (up-begins half i n cs c.requires.tree (omega arith) (omega arith) (bit-most c.args.stands n c.from-bit.ensures)),
      λ more. late-begins c.args.stands half i n cs c.requires.tree (omega arith) (omega arith) c.from-bit.ensures c.if-counts-i.false more,
    )

pub count_one-requires-clause-fits : goal.count_one-requires-clause-fits
count_one-requires-clause-fits c =
    let cs : List ℕ = c.args.counts.now in
    let start : List ℕ = set cs (length cs / 2 + c.args.x) c.from-bit.result in
    let more = c.up-test.true in
    fits (length start / 2) (c.up.i / 2) c.up.counts c.up.invariant.0.bare (omega arith)

pub count_one-requires-clause-late : goal.count_one-requires-clause-late
count_one-requires-clause-late c = c.up.invariant.1 c.up-test.true

pub up-preserved : goal.up-preserved
up-preserved c =
    let cs : List ℕ = c.args.counts.now in
    let i : ℕ = length cs / 2 + c.args.x in
    let start : List ℕ = set cs i c.from-bit.result in
    subst (λ (z : List ℕ). IsUp (length start / 2) (c.up.i / 2) start z × (1 < c.up.i / 2 → IsLate c.args.stands z (c.up.i / 2 / 2))) (sym c.count_one.ensures) (
      up-goes_on (length start / 2) c.up.i start c.up.counts c.up.invariant.0 c.up-test.true,
      late-goes_on c.args.stands (length start / 2) c.up.i start c.up.counts c.up.invariant.0 c.up-test.true (c.up.invariant.1 c.up-test.true),
    )

pub returns-clause-marked : goal.returns-clause-marked
returns-clause-marked c =
    let cs : List ℕ = c.args.counts.now in
    let i : ℕ = length cs / 2 + c.args.x in
    let start : List ℕ = set cs i c.from-bit.result in
    up-marked c.args.stands c.args.x c.from-bit.result (length start / 2) c.up.i cs c.up.counts c.requires.tree.bare (ap (λ z. z / 2) (length-set cs i c.from-bit.result)) c.requires.inside c.from-bit.ensures c.up.invariant.0
