use Rattle.std.proofs.Common.{◌≡◌, ◌∙◌, ap, ℕ, ◌≤◌, arith, refl, ◌||◌, ◌&&◌, ◌==◌, ltb}
use Rattle.rx_rules.proofs.Common.{has_bit}
use Rattle.rx_counts.specs.Inside.Dying.{hits}
use Rattle.rx_counts.proofs.Clearing.{struck_cells}
use Rattle.rx_counts.proofs.record.Sums.strike.Goals as goal

pub returns-clause-strikes : goal.returns-clause-strikes
returns-clause-strikes c =
    let sum : c.clear_hit-hurt.result ≡ hits c.args.self.now.places c.args.d.0 c.args.self.now.counts = c.clear_hit-hurt.ensures.sum in
    let le : hits c.args.self.now.places c.args.d.0 c.args.self.now.counts ≤ c.args.self.now.total = c.requires.1.total in
    record {
      places = refl;
      cells = c.clear_hit-hurt.ensures.len;
      counts = struck_cells c.args.d c.args.self.now.places c.args.self.now.counts c.clear_hit-hurt.new.counts c.requires.1.cells c.clear_hit-hurt.ensures.len c.clear_hit-hurt.ensures.cleared;
      total = omega arith;
      orphans = refl;
      masked = refl;
      lost = λ p low. c.lost_if-self.ensures p low ∙ ap (λ (n : ℕ). has_bit c.args.self.now.lost.0 p || (ltb 0 n && (c.args.d.0 == p))) sum;
    }
