-- Moments in their order.
use Rattle.std.specs.Prelude.{◌≡◌, ℕ, List}
use Rattle.std.specs.List.Sorted.{IsPermutation}
use Rattle.rx_history.specs.JoinOrder.{NeverFalls}

-- The named moments in order: these moments, each as often as it is named, none below the one before it. There is such a list for
-- each list of named moments, `rising` of Inside/Rising.antt, and no second one.
pub record OrderedMoments (named : List ℕ) : Type 0 where
  pub moments : List ℕ
  pub never_falls : NeverFalls moments
  pub same : IsPermutation named moments

-- two such lists are one
abbrev pub OneMomentOrder : Type 0
OneMomentOrder = (named : List ℕ) (a b : OrderedMoments named) → a.moments ≡ b.moments
