use Rattle.std.proofs.Common.{◌≡◌, true, nat_lt, ℕ, ◌<◌, ◌≤◌, List, Option, Some, ap, sym, ◌∙◌, arith, ℤ, pos, FitsSigned}
use Rattle.std.specs.Int.{w64}
use mir.Val.{to_z, of_z}
use Rattle.std.specs.Int.Signed.{lt_z}
use lib.IntN.{nat_abs}
use Rattle.std.proofs.lemmas.Bool.Decides.{nat_tests}
use Rattle.rx_rules.proofs.Common.{Kill}
use Rattle.rx_kills.specs.Words.{IsKillWord}
use Rattle.rx_kills.proofs.Marks.{kept, not-none, one-answer}
use Rattle.rx_kills.proofs.word.read_kill.Goals as goal
use Rattle.rx_kills.proofs.word.read_kill.Goals.{then-place-lt0-via-then-place-lt0, then-place-lt0-via-else-place-lt0+then-place-gt15, then-place-lt0-via-else-place-lt0+else-place-gt15+then-moment-lt0, then-place-lt0-via-else-place-lt0+else-place-gt15+else-moment-lt0+then-moment-gt1000000}

fits-place : (n : ℕ) → n < 16 → FitsSigned w64 (pos n)
fits-place n small = record { sfits = omega arith }

fits-moment : (n : ℕ) → n ≤ 1000000 → FitsSigned w64 (pos n)
fits-moment n small = record { sfits = omega arith }

-- the numbers that were read are the kill's
parts : (r : Option (ℤ × ℤ)) (x : ℤ × ℤ) (word : List ℕ) (kill : Kill) → IsKillWord word kill → r ≡ Some x → r ≡ Some (pos kill.place.0, pos kill.moment) → (to_z w64 (of_z w64 x.0) ≡ pos kill.place.0) × (to_z w64 (of_z w64 x.1) ≡ pos kill.moment)
parts r x word kill is was exact =
    let same = one-answer r x (pos kill.place.0, pos kill.moment) was exact in (
      kept x.0 (pos kill.place.0) (fits-place kill.place.0 is.place) (ap (λ y. y.0) same),
      kept x.1 (pos kill.moment) (fits-moment kill.moment is.moment) (ap (λ y. y.1) same),
    )

not-low : (z : ℤ) (n : ℕ) → z ≡ pos n → lt_z z (pos 0) ≡ true → ⊥
not-low z n same low =
    let h : nat_lt n 0 ≡ true = sym (ap (λ y. lt_z y (pos 0)) same) ∙ low in grind (arith, nat_tests)

not-high : (z : ℤ) (n top : ℕ) → z ≡ pos n → n ≤ top → lt_z (pos top) z ≡ true → ⊥
not-high z n top same within high =
    let h : nat_lt top n ≡ true = sym (ap (lt_z (pos top)) same) ∙ high in grind (arith, nat_tests)

pub returns-in_err-place-clause-exact : goal.returns-in_err-place-clause-exact
returns-in_err-place-clause-exact c = λ kill is.
    let h = c.numbers_of.ensures.exact (pos kill.place.0) (pos kill.moment) (fits-place kill.place.0 is.place) (fits-moment kill.moment is.moment) is.spelled in
    absurd (not-none c.numbers_of.result _ c.in_err-place.was h)

pub returns-then-place-lt0-clause-exact : goal.returns-then-place-lt0-clause-exact
returns-then-place-lt0-clause-exact c = λ kill is.
    let h = c.numbers_of.ensures.exact (pos kill.place.0) (pos kill.moment) (fits-place kill.place.0 is.place) (fits-moment kill.moment is.moment) is.spelled in
    let both = parts c.numbers_of.result (c.in_ok-place.place, c.in_ok-place.moment) c.args.word.now kill is c.in_ok-place.was h in
    let few : kill.place.0 ≤ 15 = let k : kill.place.0 < 16 = is.place in omega arith in
    absurd (elim c.then-place-lt0.branch [ then-place-lt0-via-then-place-lt0 w ↦ not-low _ kill.place.0 both.0 w.if-place-lt0.true | then-place-lt0-via-else-place-lt0+then-place-gt15 w ↦ not-high _ kill.place.0 15 both.0 few w.if-place-gt15.true | then-place-lt0-via-else-place-lt0+else-place-gt15+then-moment-lt0 w ↦ not-low _ kill.moment both.1 w.if-moment-lt0.true | then-place-lt0-via-else-place-lt0+else-place-gt15+else-moment-lt0+then-moment-gt1000000 w ↦ not-high _ kill.moment 1000000 both.1 is.moment w.if-moment-gt1000000.true ])

made : ℕ → ℕ → Option Kill
made place moment = Some (record { place = record { 0 = place }; moment = moment })

one-kill : (a b c d : ℕ) → a ≡ c → b ≡ d → made a b ≡ made c d
one-kill a b c d first second = cc

pub returns-clause-exact : goal.returns-clause-exact
unfolding made
returns-clause-exact c = λ kill is.
    let h = c.numbers_of.ensures.exact (pos kill.place.0) (pos kill.moment) (fits-place kill.place.0 is.place) (fits-moment kill.moment is.moment) is.spelled in
    let both = parts c.numbers_of.result (c.in_ok-place.place, c.in_ok-place.moment) c.args.word.now kill is c.in_ok-place.was h in
    one-kill _ _ kill.place.0 kill.moment (ap nat_abs both.0) (ap nat_abs both.1)
