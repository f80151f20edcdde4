use Rattle.std.proofs.Common.{arith, ◌≡◌, ℕ, ◌/◌, ◌^◌, ◌<◌, List, length, ap}
use Rattle.rx_rank.specs.Numbers.{Numbers}
use Rattle.rx_rank.proofs.Adding.{half-is}
use Rattle.rx_rank.proofs.Keeping.{kept_doubles}
use Rattle.rx_rank.proofs.ranks.Ranks.grow.Goals as goal

pub returns-clause-doubles : goal.returns-clause-doubles
returns-clause-doubles c =
    let items : List ℕ = c.self.inside.counts.items in
    let less = c.requires in
    let h : ℕ = c.height_for-height.result in
    let room : length items / 2 ≡ c.args.self.now.room = ap (λ (z : Numbers). z.room) c.self.view_is in
    let below : length items / 2 < c.args.n = omega (arith, room, less) in
    let twice = kept_doubles c.self.inside.height h c.args.n items c.self.invariant.kept below c.height_for-height.ensures.room in
    let same = half-is (2 ^ h) c.in_ok-self-inside.field-0.items c.in_ok-self-inside.ensures.tree.bare in
    omega (arith, room, twice, same)
