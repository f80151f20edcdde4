use Rattle.std.proofs.Common.{◌≡◌, ◌∙◌, ℕ, ◌+◌, List, ◌∷◌, length, ap, subst, arith}
use Rattle.rx_words.specs.Words.{taken, choice}
use Rattle.rx_words.specs.Commands.{IsTaken, wants_of}
use Rattle.rx_words.proofs.Onward.{one-option}
use Rattle.rx_words.proofs.options.read_options.Goals as goal

pub options-preserved : goal.options-preserved
options-preserved c =
    let verb = c.args.verb in
    let said = c.options.said in
    let new = c.take.new.said in
    let name : List ℕ = c.in-Some.name.now in
    let value : List ℕ = c.in-Some-split_first.value.now in
    let first : c.options.left.now ≡ name ∷ c.in-Some.after.now = c.in-Some.ensures.cases.0 in
    let second : c.in-Some.after.now ≡ value ∷ c.in-Some-split_first.rest.now = c.in-Some-split_first.ensures.cases.0 in
    let P : List ℕ → Type 0 = λ bs. IsTaken c.in_ok-take.field-0 new (taken (choice verb (wants_of said) bs) (wants_of said) (c.options.k + 1) c.bytes-in-Some-2.result.now) in
    let Q : List ℕ → Type 0 = λ bs. IsTaken c.in_ok-take.field-0 new (taken (choice verb (wants_of said) name) (wants_of said) (c.options.k + 1) bs) in
    let took = subst Q c.bytes-in-Some-2.ensures (subst P c.bytes-in-Some.ensures c.in_ok-take.ensures) in
    let one = one-option verb said new c.in_ok-take.field-0 c.options.k name value c.options.left.now c.in-Some.after.now c.in-Some-split_first.rest.now first second c.in-Good.is took in
    (c.options.invariant.0 ∙ one.0, one.1, omega (arith, c.options.invariant.2, ap length first, ap length second))
