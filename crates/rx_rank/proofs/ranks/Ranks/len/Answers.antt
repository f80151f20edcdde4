use Rattle.std.proofs.Common.{arith, ◌≡◌, ◌/◌, ◌<◌, ◌≤◌, ℕ, List, length, ap, subst, ◌∙◌, slice_index}
use Rattle.rx_rank.specs.Numbers.{Numbers, Ascends}
use Rattle.rx_rank.specs.Counts.{numbers, leaves}
use Rattle.rx_rank.proofs.Leaves.{numbers-ascend}
use Rattle.rx_rank.proofs.Keeping.{kept_first, kept_none, kept_most}
use Rattle.rx_rank.proofs.ranks.Ranks.len.Goals as goal

pub returns-in-Some : goal.returns-in-Some
returns-in-Some c =
    let h : ℕ = c.self.inside.height in
    let items : List ℕ = c.self.inside.counts.items in
    let S : List ℕ → Type 0 = λ z. c.in-Some.count.now ≡ slice_index z 1 in
    let L : List ℕ → Type 0 = λ z. 1 < length z in
    let first : c.in-Some.count.now ≡ length (numbers 0 (leaves items)) =
    kept_first h c.in-Some.count.now items c.self.invariant.kept (subst L c.deref.ensures.value c.in-Some.ensures.lookup.3.0) (subst S c.deref.ensures.value (c.in-Some.ensures.lookup.3.1 0)) in
    let most = kept_most h items c.self.invariant.kept in
    let room : length items / 2 ≡ c.args.self.now.room = ap (λ (z : Numbers). z.room) c.self.view_is in
    let A : Numbers → Type 0 = λ z. Ascends 0 z.members in
    record {
      len = first ∙ ap (λ (z : Numbers). length z.members) c.self.view_is;
      once = subst A c.self.view_is (numbers-ascend 0 (leaves items));
      most = omega arith;
    }

pub returns-in-None : goal.returns-in-None
returns-in-None c =
    let h : ℕ = c.self.inside.height in
    let items : List ℕ = c.self.inside.counts.items in
    let L : List ℕ → Type 0 = λ z. length z ≤ 1 in
    let A : Numbers → Type 0 = λ z. Ascends 0 z.members in
    record {
      len = kept_none h items c.self.invariant.kept (subst L c.deref.ensures.value c.in-None.ensures.lookup.3)
          ∙ ap (λ (z : Numbers). length z.members) c.self.view_is;
      once = subst A c.self.view_is (numbers-ascend 0 (leaves items));
      most = omega arith;
    }
