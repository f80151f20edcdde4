use Rattle.std.proofs.Common.{◌≡◌, ℕ, zero, suc, ◌<◌, length, true, false, refl, ◌∙◌, arith}
use Rattle.std.proofs.lemmas.Bool.{false≢true}
use Rattle.std.proofs.lemmas.List.{nil_from_length}
use Rattle.rx_stations.proofs.queue.give_up_waiting.Goals as goal

-- where no first entry is left there is none
none-left : (n : ℕ) → (0 < n → false ≡ true) → n ≡ 0
none-left zero h = refl
none-left (suc n) h = absurd (false≢true (h (omega arith)))

pub destroy_empty-requires : goal.destroy_empty-requires
destroy_empty-requires g c =
    let entries = c.rest.activities.entries in
    c.in_default.ensures.unchanged ∙ nil_from_length entries (none-left (length entries) c.in_default.ensures.variant.1)
