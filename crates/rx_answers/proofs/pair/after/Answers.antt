use Rattle.std.proofs.Common.{◌≡◌, ℕ, ◌+◌, Bor, true, false, List, ◌++◌, length, take, drop, Some, None, ap, sym, ◌∙◌, Option, IfSome}
use Rattle.std.specs.Option.{MatchOption}
use Rattle.std.specs.Str.{bytes_eq}
use Rattle.rx_answers.proofs.Heads.{front-is, front-not}
use Rattle.rx_answers.proofs.pair.after.Goals as goal

some-after : (r : Option (Bor (List ℕ))) (word front : List ℕ)
    → MatchOption r (bytes_eq (take (length front) word) front ≡ false) (λ x. (bytes_eq (take (length front) word) front ≡ true) × (x.now ≡ drop (length front) word) × (length x.now + length front ≡ length word))
    → IfSome r (λ rest. word ≡ front ++ rest.now)
some-after None word front h = tt
some-after (Some x) word front h = front-is word front h.0 ∙ ap (λ y. front ++ y) (sym h.1)

pub returns-clause-some : goal.returns-clause-some
returns-clause-some c = some-after c.strip_prefix.result c.args.bytes.now c.args.front.now c.strip_prefix.ensures.cases

none-after : (r : Option (Bor (List ℕ))) (word front : List ℕ)
    → MatchOption r (bytes_eq (take (length front) word) front ≡ false) (λ x. (bytes_eq (take (length front) word) front ≡ true) × (x.now ≡ drop (length front) word) × (length x.now + length front ≡ length word))
    → r ≡ None → (rest : List ℕ) → word ≡ front ++ rest → ⊥
none-after None word front h e rest is = front-not word front rest h is
none-after (Some x) word front h e rest is = cc

pub returns-clause-none : goal.returns-clause-none
returns-clause-none c = none-after c.strip_prefix.result c.args.bytes.now c.args.front.now c.strip_prefix.ensures.cases
