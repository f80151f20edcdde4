use Rattle.std.proofs.Common.{arith, ◌≡◌, ℕ, ◌/◌, List, Some, length, slice_get, ap, sym, ◌∙◌}
use Rattle.rx_rank.specs.Numbers.{Numbers, inserted}
use Rattle.rx_rank.specs.Counts.{numbers, leaves}
use Rattle.rx_rank.proofs.Keeping.{set_again}
use Rattle.rx_rank.proofs.ranks.Ranks.insert.Goals as goal

pub invariant_of-self : goal.invariant_of-self
invariant_of-self c =
    let x : ℕ = c.args.x in
    let items : List ℕ = c.self.inside.counts.items in
    let new : List ℕ = c.mark.new.counts in
    let room : length items / 2 ≡ c.args.self.now.room = ap (λ (z : Numbers). z.room) c.self.view_is in
    let within = c.requires in
    let old : c.deref_mut.result.now ≡ items = c.deref_mut.ensures.value in
    let long : length new ≡ length items = c.mark.auto.counts ∙ ap (λ (z : List ℕ). length z) old in
    let told : numbers 0 (leaves new) ≡ inserted x (numbers 0 (leaves items)) = c.mark.ensures.marked ∙ ap (λ (z : List ℕ). inserted x (numbers 0 (leaves z))) old in
    let first = c.lesser.ensures (numbers 0 (leaves items)) c.self.invariant.first ∙ ap (λ (z : List ℕ). slice_get z 0) (sym told) in
    set_again c.self.inside.height c.self.inside.counts.len items new (Some c.lesser.result) c.self.invariant.kept c.self.inside.counts.ok.0 long (omega arith) c.mark.ensures.tree first
