use Rattle.std.proofs.Common.{◌≡◌, ◌<◌, ◌*◌, ℕ, List, All, length, arith, sym, subst, ap, ◌∙◌}
use Rattle.rx_heap.specs.Region.{Region, Extent, IsLiveExtent}
use Rattle.rx_heap.specs.Inside.Longest.{IsBounded}
use Rattle.rx_heap.proofs.Finding.{written_back, All-raised}
use Rattle.rx_heap.proofs.Laying.{laid_give}
use Rattle.rx_heap.proofs.heap.Heap.give.Goals as goal

pub returns-clause-laid : goal.returns-clause-laid
returns-clause-laid c =
    let R : Region = record { words = c.self.inside.words.items; holes = c.self.inside.holes.items; lengths = c.self.inside.lengths.items } in
    let b : Extent = record { start = c.b.inside.start; len = c.b.inside.len } in
    let K : Region → Type 0 = λ z. IsLiveExtent z c.args.b in
    let L : Extent → Type 0 = λ z. IsLiveExtent R z in
    let live : IsLiveExtent R b = subst L (sym c.b.view_is) (subst K (sym c.self.view_is) c.requires) in
    laid_give R c.put-joined.new.holes.items b c.self.invariant.laid live c.put-joined.ensures.joins

pub invariant_of-self : goal.invariant_of-self
invariant_of-self c =
    let room = c.self.invariant.room in
    let capacity = c.put-joined.ensures.capacity in
    let R : Region = record { words = c.self.inside.words.items; holes = c.self.inside.holes.items; lengths = c.self.inside.lengths.items } in
    let b : Extent = record { start = c.b.inside.start; len = c.b.inside.len } in
    let K : Region → Type 0 = λ z. IsLiveExtent z c.args.b in
    let L : Extent → Type 0 = λ z. IsLiveExtent R z in
    let live : IsLiveExtent R b = subst L (sym c.b.view_is) (subst K (sym c.self.view_is) c.requires) in
    let longest = c.self.inside.longest.items in
    let same : length c.raise.new.longest ≡ length longest = c.raise.ensures.size ∙ ap (λ (z : List ℕ). length z) c.deref_mut.ensures.value in
    let back = written_back longest c.raise.new.longest c.self.inside.longest.len c.self.inside.longest.ok.0 same in
    let A : List ℕ → Type 0 = λ z. All (IsBounded z) R.holes in
    let raised = All-raised c.deref_mut.result.now c.raise.new.longest R.holes c.raise.ensures.others (subst A (sym c.deref_mut.ensures.value) c.self.invariant.bounded) in
    record {
      laid = laid_give R c.put-joined.new.holes.items b c.self.invariant.laid live c.put-joined.ensures.joins;
      small = c.self.invariant.small;
      room = omega arith;
      groups = (let G : List ℕ → Type 0 = λ z. length R.words < 64 * length z in subst G (sym back) (let g = c.self.invariant.groups in omega arith));
      bounded = (let B : List ℕ → Type 0 = λ z. All (IsBounded z) c.put-joined.new.holes.items in subst B (sym back) (c.put-joined.ensures.bounded c.raise.new.longest raised c.raise.ensures.hole));
    }
