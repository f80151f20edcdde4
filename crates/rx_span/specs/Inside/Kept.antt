-- What a kept chain stands for, and what the rows of a path tell.
use Rattle.std.specs.Prelude.{◌≡◌, ◌⊎◌, ℕ, suc, ◌+◌, ◌<◌, Bool, true, false, cond, nat_lt, List, [], ◌∷◌, ◌++◌, length, take}
use Rattle.std.specs.Prelude.{replicate, Some, slice_get}
use Rattle.rx_order.specs.declared.marks.Role.{Role}
use Rattle.rx_order.specs.declared.marks.Role.TheVariants.{Starts, Waits, Follows, Branches}
use Rattle.rx_span.specs.declared.chains.Kept.{Kept}

-- the empty chain
abbrev pub none : Kept
none = record { length = 0; head = 0 }

-- the longer chain, and of two that are as long the inner one
abbrev pub better_kept : Kept → Kept → Kept
better_kept inner outer = cond (nat_lt inner.length outer.length) outer inner

-- each `async` of these numbers has a `finish` before it
abbrev pub kept_from : List Role → Bool
kept_from [] = true
kept_from (Starts ∷ ms) = false
kept_from (Waits ∷ ms) = true
kept_from (Follows ∷ ms) = kept_from ms
kept_from (Branches ∷ ms) = kept_from ms

-- what has a greater number in the place of the first of these follows
abbrev pub leads : List Role → Bool
leads [] = false
leads (Starts ∷ ms) = false
leads (Waits ∷ ms) = true
leads (Follows ∷ ms) = kept_from ms
leads (Branches ∷ ms) = false

-- the best chain of the rows whose number leads
abbrev pub follow : List Role → List Kept → Kept
follow [] rows = none
follow (m ∷ ms) [] = none
follow (m ∷ ms) (r ∷ rs) = cond (leads (m ∷ ms)) (better_kept (follow ms rs) r) (follow ms rs)

-- the best chain of these rows and of what is inside
abbrev pub past : List Kept → Kept → Kept
past [] inside = inside
past (r ∷ rs) inside = better_kept (past rs inside) r

-- the rows of a path of this length, which goes with the last one for `from` numbers, and what begins inside it
abbrev pub IsLaid : ℕ → Kept → ℕ → List Kept → List Kept → Kept → Type 0
IsLaid from passed len old new inside =
    ((from ≡ len) × (new ≡ take from old) × (inside ≡ passed))
    ⊎ ((k : ℕ) × (from + suc k ≡ len) × (new ≡ take from old ++ passed ∷ replicate k none) × (inside ≡ none))

-- c is the chain of statement number h; the chains are those of the statements passed, the last passed first
abbrev pub IsChainOf : List (List (List ℕ)) → ℕ → List (List ℕ) → Type 0
IsChainOf [] h c = ⊥
IsChainOf (d ∷ ds) h c = ((h ≡ length ds) × (c ≡ d)) ⊎ IsChainOf ds h c

-- the kept chain is c
pub record IsKept (cs : List (List (List ℕ))) (k : Kept) (c : List (List ℕ)) : Type 0 where
  pub len : k.length ≡ length c
  pub at : 0 < length c → IsChainOf cs k.head c

-- each chain is its statement and then the rest, which is kept beside the statement
abbrev pub Linked : List (List (List ℕ)) → List (List ℕ) → List Kept → Type 0
Linked [] xs links = Unit {0}
Linked (c ∷ cs) xs links =
    (x : List ℕ) × (rest : List (List ℕ)) × (l : Kept) × (c ≡ x ∷ rest) × (slice_get xs (length cs) ≡ Some x)
    × (slice_get links (length cs) ≡ Some l) × IsKept cs l rest × Linked cs xs links
