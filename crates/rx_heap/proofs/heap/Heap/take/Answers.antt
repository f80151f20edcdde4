use Rattle.std.proofs.Common.{◌≡◌, ℕ, ◌+◌, ◌*◌, ◌<◌, ◌≤◌, List, length, get_or, take, arith, sym, subst, ◌∙◌, ap, ℤ, All}
use Rattle.rx_heap.specs.declared.block.Hole.{Hole}
use Rattle.rx_heap.specs.Region.{Region, IsFree, IsLeastFree}
use Rattle.rx_heap.specs.Inside.HoleEdits.{Cuts}
use Rattle.std.specs.List.Sorted.{IsNonDecreasingBy}
use Rattle.rx_heap.specs.Inside.Longest.{IsBounded}
use Rattle.rx_heap.proofs.Finding.{rising, written_back, All-raised}
use Rattle.rx_heap.proofs.Joining.{LieApart-get_or}
use Rattle.rx_heap.proofs.Laying.{cut_inside, laid_take, none_free, least_free, length-put_back}
use Rattle.rx_heap.proofs.heap.Heap.take.Goals as goal

pub returns-in_default-clause-no_start : goal.returns-in_default-clause-no_start
returns-in_default-clause-no_start c = λ a f.
    let R : Region = record { words = c.self.inside.words.items; holes = c.self.inside.holes.items; lengths = c.self.inside.lengths.items } in
    let S : List Hole → Type 0 = λ z. All (λ h. h.len < c.args.n) z in
    let short = subst S c.deref.ensures.value c.in_default.ensures.none in
    let G : Region → Type 0 = λ z. IsFree z c.args.n a → ⊥ in
    subst G c.self.view_is (none_free R c.args.n c.self.invariant.laid c.requires short a) f

pub cut-start-requires-clause-ends : goal.cut-start-requires-clause-ends
cut-start-requires-clause-ends c = λ d.
    let hs = c.self.inside.holes.items in
    let W : List Hole → Type 0 = λ z. c.in-Some.i < length z in
    let lt = subst W c.deref.ensures.value c.in-Some.ensures.within in
    let ends = (LieApart-get_or _ 0 hs c.in-Some.i d lt c.self.invariant.laid.holes).1 in
    let small = c.self.invariant.small in
    omega arith

pub clear-requires : goal.clear-requires
clear-requires c =
    let R : Region = record { words = c.self.inside.words.items; holes = c.self.inside.holes.items; lengths = c.self.inside.lengths.items } in
    let inside = cut_inside R _ _ c.args.n c.self.invariant.laid c.requires c.cut-start.ensures.cuts in
    let W : List ℤ → Type 0 = λ z. c.cut-start.result.start + c.args.n ≤ length z in
    subst W (sym c.deref_mut-3.ensures.value) inside

pub invariant_of-self : goal.invariant_of-self
invariant_of-self c =
    let longest = c.self.inside.longest.items in
    let same : length c.fitting.new.longest ≡ length longest = c.fitting.ensures.size ∙ ap (λ (z : List ℕ). length z) c.deref_mut.ensures.value in
    let back = written_back longest c.fitting.new.longest c.self.inside.longest.len c.self.inside.longest.ok.0 same in
    let G : List ℕ → Type 0 = λ z. length c.self.inside.words.items < 64 * length z in
    let B : List ℕ → Type 0 = λ z. All (IsBounded z) c.self.inside.holes.items in
    let H : List Hole → Type 0 = λ z. All (IsBounded c.fitting.new.longest) z in
    record {
      laid = c.self.invariant.laid;
      small = c.self.invariant.small;
      room = c.self.invariant.room;
      groups = subst G (sym back) (let g = c.self.invariant.groups in omega arith);
      bounded = subst B (sym back) (subst H c.deref.ensures.value c.fitting.ensures.bounded);
    }

pub fitting-requires-clause-rising : goal.fitting-requires-clause-rising
fitting-requires-clause-rising c =
    let R : List Hole → Type 0 = λ z. IsNonDecreasingBy (λ h. h.start) z in
    subst R (sym c.deref.ensures.value) (rising _ 0 _ c.self.invariant.laid.holes)

pub overflow_add-start : goal.overflow_add-start
overflow_add-start c =
    let R : Region = record { words = c.self.inside.words.items; holes = c.self.inside.holes.items; lengths = c.self.inside.lengths.items } in
    let inside = cut_inside R _ _ c.args.n c.self.invariant.laid c.requires c.cut-start.ensures.cuts in
    let small = c.self.invariant.small in
    omega arith

pub overflow_sub-len : goal.overflow_sub-len
overflow_sub-len c =
    let none : Hole = record { start = 0; len = 0 } in
    let W : List Hole → Type 0 = λ z. c.args.n ≤ (get_or z c.in-Some.i none).len in
    let fits = subst W c.deref.ensures.value (c.in-Some.ensures.fits none) in
    let e = ap (λ (z : Hole). z.len) (c.cut-start.ensures.hole none) in
    omega arith

pub raise-requires : goal.raise-requires
raise-requires c =
    let R : Region = record { words = c.self.inside.words.items; holes = c.self.inside.holes.items; lengths = c.self.inside.lengths.items } in
    let inside = cut_inside R _ _ c.args.n c.self.invariant.laid c.requires c.cut-start.ensures.cuts in
    let longest = c.self.inside.longest.items in
    let same : length c.fitting.new.longest ≡ length longest = c.fitting.ensures.size ∙ ap (λ (z : List ℕ). length z) c.deref_mut.ensures.value in
    let kept = length-put_back longest c.fitting.new.longest c.self.inside.longest.len c.self.inside.longest.ok.0 same in
    let now = ap (λ (z : List ℕ). length z) c.deref_mut-2.ensures.value in
    let groups = c.self.invariant.groups in
    omega arith

pub invariant_of-self-2 : goal.invariant_of-self-2
invariant_of-self-2 c =
    let R : Region = record { words = c.self.inside.words.items; holes = c.self.inside.holes.items; lengths = c.self.inside.lengths.items } in
    let same = length-put_back R.words c.clear.new.words c.self.inside.words.len c.self.inside.words.ok.0 (c.clear.auto.words ∙ ap (λ (z : List ℤ). length z) c.deref_mut-3.ensures.value) in
    let small = c.self.invariant.small in
    let room = c.self.invariant.room in
    let longest = c.self.inside.longest.items in
    let fitted = c.fitting.new.longest in
    let raised = c.raise.new.longest in
    let same_fitted : length fitted ≡ length longest = c.fitting.ensures.size ∙ ap (λ (z : List ℕ). length z) c.deref_mut.ensures.value in
    let n = c.self.inside.longest.len in
    let kept = length-put_back longest fitted n c.self.inside.longest.ok.0 same_fitted in
    let first = written_back longest fitted n c.self.inside.longest.ok.0 same_fitted in
    let same_raised = c.raise.ensures.size ∙ ap (λ (z : List ℕ). length z) c.deref_mut-2.ensures.value in
    let back = written_back _ raised n (c.self.inside.longest.ok.0 ∙ sym kept) same_raised in
    let H : List Hole → Type 0 = λ z. All (IsBounded fitted) z in
    let B : List ℕ → Type 0 = λ z. All (IsBounded z) R.holes in
    let before = subst B (sym (c.deref_mut-2.ensures.value ∙ first)) (subst H c.deref.ensures.value c.fitting.ensures.bounded) in
    let bounded = c.cut-start.ensures.bounded raised (All-raised _ raised R.holes c.raise.ensures.others before) c.raise.ensures.hole in
    let N : List ℕ → Type 0 = λ z. All (IsBounded z) c.cut-start.new.holes.items in
    record {
      laid = laid_take R _ _ c.cut-start.result.start c.args.n c.self.invariant.laid c.requires c.cut-start.ensures.cuts same;
      small = omega arith;
      room = (let capacity = c.cut-start.ensures.capacity in omega arith);
      groups = (let l = ap (λ (z : List ℕ). length z) back in let g = c.self.invariant.groups in omega arith);
      bounded = subst N (sym back) bounded;
    }

pub returns-clause-least : goal.returns-clause-least
returns-clause-least c =
    let R : Region = record { words = c.self.inside.words.items; holes = c.self.inside.holes.items; lengths = c.self.inside.lengths.items } in
    let W : List Hole → Type 0 = λ z. c.in-Some.i < length z in
    let lt = subst W c.deref.ensures.value c.in-Some.ensures.within in
    let S : List Hole → Type 0 = λ z. All (λ h. h.len < c.args.n) (take c.in-Some.i z) in
    let short = subst S c.deref.ensures.value c.in-Some.ensures.before in
    let none : Hole = record { start = 0; len = 0 } in
    let e = ap (λ (z : Hole). z.start) (c.cut-start.ensures.hole none) in
    let C : ℕ → Type 0 = λ z. Cuts R.holes c.cut-start.new.holes.items z c.args.n in
    let L : ℕ → Type 0 = λ z. IsLeastFree R c.args.n z in
    let G : Region → Type 0 = λ z. IsLeastFree z c.args.n c.cut-start.result.start in
    subst G c.self.view_is (subst L (sym e) (least_free R c.cut-start.new.holes.items c.in-Some.i c.args.n none c.self.invariant.laid c.requires lt short (subst C e c.cut-start.ensures.cuts)))

pub returns-clause-laid : goal.returns-clause-laid
returns-clause-laid c =
    let R : Region = record { words = c.self.inside.words.items; holes = c.self.inside.holes.items; lengths = c.self.inside.lengths.items } in
    let same = length-put_back R.words c.clear.new.words c.self.inside.words.len c.self.inside.words.ok.0 (c.clear.auto.words ∙ ap (λ (z : List ℤ). length z) c.deref_mut-3.ensures.value) in
    laid_take R _ _ c.cut-start.result.start c.args.n c.self.invariant.laid c.requires c.cut-start.ensures.cuts same

pub returns-clause-full : goal.returns-clause-full
returns-clause-full c = (
  λ e. cc,
  λ all.
      let none : Hole = record { start = 0; len = 0 } in
      let W : List Hole → Type 0 = λ z. c.in-Some.i < length z in
      let F : List Hole → Type 0 = λ z. c.args.n ≤ (get_or z c.in-Some.i none).len in
      let to : c.deref.result.now ≡ c.args.self.now.holes = c.deref.ensures.value ∙ ap (λ (z : Region). z.holes) c.self.view_is in
      let lt = subst W to c.in-Some.ensures.within in
      let fits = subst F to (c.in-Some.ensures.fits none) in
      let short = all c.in-Some.i none lt in
      absurd (omega arith),
)
