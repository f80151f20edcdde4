use Rattle.std.proofs.Common.{rules, ℕ, ◌≡◌, ◌-◌, ◌/◌, ◌^◌, ◌≤◌, List, ◌++◌, length, drop, replicate, ap, sym, subst, ◌∙◌}
use Rattle.std.proofs.lemmas.List.{take_at, take_rest}
use Rattle.rx_rank.specs.Counts.{numbers, leaves}
use Rattle.rx_rank.proofs.Adding.{grown-is, grown-bare, grown-numbers, leaves-fit, power-some, power-most}
use Rattle.rx_rank.proofs.counts.grown.Goals as goal

pub add_all-requires : goal.add_all-requires
add_all-requires c =
    let n : ℕ = 2 ^ c.args.height in
    let cs : List ℕ = c.args.counts.now in
    let half : ℕ = c.leaf_count-half.result in
    let few : length (leaves cs) ≤ half = subst (λ z. length (leaves cs) ≤ z) (sym c.leaf_count-half.ensures) (leaves-fit n cs c.requires.less c.requires.tree) in
    let at_half : c.resize-2.new.self.items ≡ replicate half 0 ++ (leaves cs ++ replicate (half - length (leaves cs)) 0) =
    grown-is half _ _ c.in_ok-larger.larger.items c.resize.new.self.items c.extend_from_slice.new.self.items c.resize-2.new.self.items (leaves cs)
    c.in_ok-larger.ensures.items c.in_ok-resize.ensures.items (search rules)
    (c.in_ok-extend_from_slice.ensures.items ∙ ap (λ (z : List ℕ). c.resize.new.self.items ++ z) (take_rest cs (length cs / 2)))
    c.in_ok-resize-2.ensures.items (search rules) few
    in
    let made : c.resize-2.new.self.items ≡ replicate n 0 ++ (leaves cs ++ replicate (n - length (leaves cs)) 0) =
    subst (λ z. c.resize-2.new.self.items ≡ replicate z 0 ++ (leaves cs ++ replicate (z - length (leaves cs)) 0)) c.leaf_count-half.ensures at_half
    in
    grown-bare n cs c.deref_mut.result.now (power-some c.args.height) (power-most c.args.height c.requires.height) c.requires.less c.requires.tree (c.deref_mut.ensures.value ∙ made)

pub returns-clause-numbers : goal.returns-clause-numbers
returns-clause-numbers c =
    let n : ℕ = 2 ^ c.args.height in
    let cs : List ℕ = c.args.counts.now in
    let half : ℕ = c.leaf_count-half.result in
    let few : length (leaves cs) ≤ half = subst (λ z. length (leaves cs) ≤ z) (sym c.leaf_count-half.ensures) (leaves-fit n cs c.requires.less c.requires.tree) in
    let at_half : c.resize-2.new.self.items ≡ replicate half 0 ++ (leaves cs ++ replicate (half - length (leaves cs)) 0) =
    grown-is half _ _ c.in_ok-larger.larger.items c.resize.new.self.items c.extend_from_slice.new.self.items c.resize-2.new.self.items (leaves cs)
    c.in_ok-larger.ensures.items c.in_ok-resize.ensures.items (search rules)
    (c.in_ok-extend_from_slice.ensures.items ∙ ap (λ (z : List ℕ). c.resize.new.self.items ++ z) (take_rest cs (length cs / 2)))
    c.in_ok-resize-2.ensures.items (search rules) few
    in
    let made : c.resize-2.new.self.items ≡ replicate n 0 ++ (leaves cs ++ replicate (n - length (leaves cs)) 0) =
    subst (λ z. c.resize-2.new.self.items ≡ replicate z 0 ++ (leaves cs ++ replicate (z - length (leaves cs)) 0)) c.leaf_count-half.ensures at_half
    in
    let us : List ℕ = c.add_all.new.counts in
    let items : List ℕ = c.resize-2.new.self.items in
    let len : length us ≡ c.resize-2.new.self.len = (let l = c.deref_mut.ensures.len in let a = c.add_all.auto.counts in search rules) in
    ap (λ (z : List ℕ). numbers 0 (leaves z)) (take_at us (drop (length us) items) c.resize-2.new.self.len len)
    ∙ grown-numbers n cs c.deref_mut.result.now us (power-some c.args.height) (power-most c.args.height c.requires.height) c.requires.less c.requires.tree (c.deref_mut.ensures.value ∙ made) c.add_all.ensures.leaves
