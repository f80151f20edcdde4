use Rattle.std.proofs.Common.{◌≡◌, ℕ, Bool, true, ◌&&◌, List, [], ◌∷◌, refl}
use Rattle.std.specs.List.{list_all}
use Rattle.std.proofs.lemmas.Bool.{and_parts}
use Rattle.rx_rules.proofs.Common.{orphan_script, at_waits, told}
use Rattle.rx_span.specs.Paths.{ComesBefore}
use Rattle.rx_span.specs.Inside.Sorting.{comes}
use Rattle.rx_span.specs.Examples.{script, statements}
use Rattle.rx_span.proofs.Sharing.{comes-true}
use Rattle.rx_span.proofs.Lists.{All, Ascends}
use Rattle.rx_span.proofs.Picked.{span-is}
use Rattle.rx_span.proofs.laws.span_computes.Goals as goal

-- the test of an ascending list
abbrev ascends : List (List ℕ) → Bool
ascends [] = true
ascends (x ∷ xs) = list_all (comes x) xs && ascends xs

all-true : (x : List ℕ) (xs : List (List ℕ)) → list_all (comes x) xs ≡ true → All (ComesBefore x) xs
all-true x [] h = tt
all-true x (y ∷ ys) h = let p = and_parts (comes x y) (list_all (comes x) ys) h in (comes-true x y p.0, all-true x ys p.1)

ascends-true : (xs : List (List ℕ)) → ascends xs ≡ true → Ascends xs
ascends-true [] h = tt
ascends-true (x ∷ xs) h = let p = and_parts (list_all (comes x) xs) (ascends xs) h in (all-true x xs p.0, ascends-true xs p.1)

pub returns-clause-waiting : goal.returns-clause-waiting
returns-clause-waiting c = span-is orphan_script (told at_waits) (told at_waits) 7 _ refl (ascends-true (told at_waits) refl) (λ x h. h) (λ x h. h) refl

pub returns-clause-starting : goal.returns-clause-starting
returns-clause-starting c = span-is script statements statements 3 _ refl (ascends-true statements refl) (λ x h. h) (λ x h. h) refl

pub returns-clause-empty : goal.returns-clause-empty
returns-clause-empty c = span-is script [] [] 0 _ refl tt (λ x h. h) (λ x h. h) refl
