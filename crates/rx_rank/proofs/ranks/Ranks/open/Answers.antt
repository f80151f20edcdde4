use Rattle.std.proofs.Common.{rules, ℕ, ◌/◌, List, length, slice_get, ap, sym, ◌∙◌}
use Rattle.rx_rank.specs.Numbers.{Numbers}
use Rattle.rx_rank.specs.Counts.{numbers, leaves}
use Rattle.rx_rank.proofs.Leaves.{empty}
use Rattle.rx_rank.proofs.ranks.Ranks.open.Goals as goal

pub returns : goal.returns
returns c =
    let N : List ℕ → Numbers = λ z. record { members = numbers 0 (leaves z); room = length z / 2 } in
    let M : List ℕ → Numbers = λ z. record { members = z; room = 0 } in
    ap N c.new.ensures.items ∙ ap M (empty 0)

pub invariant_of-result : goal.invariant_of-result
invariant_of-result c = record { kept = search rules; first = sym (ap (λ (z : List ℕ). slice_get (numbers 0 (leaves z)) 0) c.new.ensures.items ∙ ap (λ (z : List ℕ). slice_get z 0) (empty 0)) }
