-- Lists of kills in their order.
use Rattle.std.specs.Prelude.{◌≡◌, ◌==◌, ◌&&◌, ◌||◌, nat_lt, Bool, List, [], ◌∷◌, Contains}
use Rattle.rx_base.specs.declared.ids.Kill.{Kill}
use Rattle.rx_rules.specs.Run.{ComesAfter, Ascends}

-- each kill comes after the one before it
abbrev pub IsAscending : List Kill → Type 0
IsAscending [] = Unit {0}
IsAscending (k ∷ ks) = Ascends k ks

-- the kill comes after the last of the list
abbrev pub ComesLast : List Kill → Kill → Type 0
ComesLast [] item = Unit {0}
ComesLast (k ∷ []) item = ComesAfter k item
ComesLast (k ∷ j ∷ ks) item = ComesLast (j ∷ ks) item

-- the test of `ComesAfter a b`: b comes after a
abbrev pub is_before : Kill → Kill → Bool
is_before a b = nat_lt a.moment b.moment || (a.moment == b.moment && nat_lt a.place.0 b.place.0)

-- The named kills in order: these kills and no others, each after the one before it. There is such a list for each list of named
-- kills, `in_order` of proofs/InOrder.antt, and no second one.
pub record OrderedKills (named : List Kill) : Type 0 where
  pub kills : List Kill
  pub ascending : IsAscending kills
  pub all : (k : Kill) → Contains named k → Contains kills k
  pub only : (k : Kill) → Contains kills k → Contains named k

-- two such lists are one
abbrev pub OneOrder : Type 0
OneOrder = (named : List Kill) (a b : OrderedKills named) → a.kills ≡ b.kills
