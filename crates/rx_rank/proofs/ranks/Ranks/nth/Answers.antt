use Rattle.std.proofs.Common.{arith, ◌≡◌, ◌/◌, ◌<◌, ◌^◌, ℕ, List, Option, length, slice_get, ap, sym, subst, ◌∙◌, slice_index}
use Rattle.rx_rank.specs.Numbers.{Numbers}
use Rattle.rx_rank.specs.Counts.{IsTree}
use Rattle.rx_rank.proofs.Keeping.{kept_numbers, kept_within, kept_room, kept_least}
use Rattle.rx_rank.proofs.ranks.Ranks.nth.Goals as goal

pub nth-requires-clause-tree : goal.nth-requires-clause-tree
nth-requires-clause-tree c =
    let L : Numbers → Type 0 = λ z. c.args.k < length z.members in
    let C : List ℕ → Type 0 = λ z. IsTree (2 ^ c.self.inside.height) z in
    subst C (sym c.deref.ensures.value) (kept_numbers c.self.inside.height c.args.k c.self.inside.counts.items c.self.invariant.kept (subst L (sym c.self.view_is) c.requires))

pub nth-requires-clause-within : goal.nth-requires-clause-within
nth-requires-clause-within c =
    let L : Numbers → Type 0 = λ z. c.args.k < length z.members in
    let W : List ℕ → Type 0 = λ z. c.args.k < slice_index z 1 in
    subst W (sym c.deref.ensures.value) (kept_within c.self.inside.height c.args.k c.self.inside.counts.items c.self.invariant.kept (subst L (sym c.self.view_is) c.requires))

pub returns-in_default-clause-below : goal.returns-in_default-clause-below
returns-in_default-clause-below c =
    let h : ℕ = c.self.inside.height in
    let items : List ℕ = c.self.inside.counts.items in
    let L : Numbers → Type 0 = λ z. c.args.k < length z.members in
    let at = kept_room h c.args.k items c.self.invariant.kept (subst L (sym c.self.view_is) c.requires) in
    let below = c.nth.ensures.below in
    let room : length items / 2 ≡ c.args.self.now.room = ap (λ (z : Numbers). z.room) c.self.view_is in
    omega arith

pub returns-in-Some-clause-at : goal.returns-in-Some-clause-at
returns-in-Some-clause-at c =
    let at : ℕ → Option ℕ = λ k. slice_get c.args.self.now.members k in
    let first : c.self.inside.least ≡ at 0 = c.self.invariant.first ∙ ap (λ (z : Numbers). slice_get z.members 0) c.self.view_is in
    ap at c.if-k-eq0.true ∙ sym first ∙ c.in-Some.is

pub returns-in-Some-clause-below : goal.returns-in-Some-clause-below
returns-in-Some-clause-below c =
    let items : List ℕ = c.self.inside.counts.items in
    let room : length items / 2 ≡ c.args.self.now.room = ap (λ (z : Numbers). z.room) c.self.view_is in
    let below = kept_least c.self.inside.height c.in-Some.least items c.self.invariant.kept (sym c.self.invariant.first ∙ c.in-Some.is) in
    omega arith
