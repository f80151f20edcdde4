-- Which setups are proper.
use Rattle.std.proofs.Common.{◌≡◌, zero, suc, ◌+◌, ◌≤◌, refl, lit<, lit≤, arith}
use Rattle.rx_rules.proofs.Common.{Proper, Joined, p}
use Rattle.rx_rules.specs.Examples.{joiner_setup}

-- a place that joins at moment 5 does not die before
pub early_kill : Proper (joiner_setup 4) → ⊥
early_kill h = let e : 5 ≤ 4 = h.kills.2 0 5 refl refl in omega (arith, e)

joined : Joined (joiner_setup 5) (record { place = p 2; moment = 5 })
joined zero e h k = let q : 5 ≡ e = cc in omega (arith, q)
joined (suc i) e h k = let q : 2 ≡ 2 + suc i = k in absurd (omega (arith, q))

-- it may die at once
pub kill_at_join : Proper (joiner_setup 5)
kill_at_join =
    record {
      some = lit≤ tt;
      few = lit≤ tt;
      words = lit≤ tt;
      small = lit≤ tt;
      kills = (lit< tt, (λ e. cc), joined, tt, tt, tt);
      joins = (lit≤ tt, tt);
    }
