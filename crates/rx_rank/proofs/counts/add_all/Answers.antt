use Rattle.std.proofs.Common.{ℕ, ◌-◌, ◌/◌, List, length, sym, subst}
use Rattle.rx_rank.proofs.Adding.{IsDown, down-goes_on}
use Rattle.rx_rank.proofs.counts.add_all.Goals as goal

pub down-preserved : goal.down-preserved
down-preserved c =
    let start : List ℕ = c.args.counts.now in
    subst (λ (z : List ℕ). IsDown (length start / 2) (c.down.i - 1) start z) (sym c.add_up.ensures)
    (down-goes_on (length start / 2) c.down.i start c.down.counts c.down.invariant c.down-test.true)
