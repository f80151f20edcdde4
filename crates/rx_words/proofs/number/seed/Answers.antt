use Rattle.std.proofs.Common.{◌≡◌, ◌∙◌, ℕ, ◌<◌, ◌^◌, ◌-◌, true, false, List, ap, sym, subst, arith, Result, Ok, Err}
use Rattle.std.specs.Str.{IsUtf8, bytes_eq}
use Rattle.std.specs.Str.Parse.{ParsesUnsigned}
use Rattle.std.proofs.lemmas.Fmt.{IsAscii-decimal, parse-decimal}
use Rattle.std.proofs.lemmas.Str.{IsUtf8-from_ascii}
use Rattle.std.proofs.lemmas.Slice.Eq.{bytes_eq-Decides}
use Rattle.rx_text.specs.Numbers.{natural_text}
use Rattle.rx_words.proofs.Numbers.{spelled-number, no-number}
use Rattle.rx_words.proofs.number.seed.Goals as goal

-- `parse` reads the text of a number as that number
read-back : {E : Type 0} (r : Result ℕ E) (n : ℕ) (text word : List ℕ) → n < 2 ^ 64 → word ≡ natural_text n → text ≡ word → ParsesUnsigned 64 10 text r → r ≡ Ok n
read-back r n text word small is same gives = parse-decimal 64 n text r small small (same ∙ is) gives

one-number : {E : Type 0} (r : Result ℕ E) (m n : ℕ) → r ≡ Ok m → r ≡ Ok n → m ≡ n
one-number r m n first second = cc

no-error : {E : Type 0} (r : Result ℕ E) (e : E) (n : ℕ) → r ≡ Err e → r ≡ Ok n → ⊥
no-error r e n first second = cc

-- and a number that it reads has 64 bits
fits : {E : Type 0} (r : Result ℕ E) (n : ℕ) (text : List ℕ) → r ≡ Ok n → ParsesUnsigned 64 10 text r → n < 2 ^ 64
fits (Ok m) n text is gives =
    let same : m ≡ n = ok-is m n is in omega (arith, same, gives.0.1, gives.1)
  where
    ok-is : {E : Type 0} (m n : ℕ) → ◌≡◌ {A = Result ℕ E} (Ok m) (Ok n) → m ≡ n
    ok-is m n e = cc
fits (Err e) n text is gives = cc

pub returns-in_default : goal.returns-in_default
returns-in_default c = no-number 0 (2 ^ 64 - 1) c.args.word.now (λ n is low high.
    absurd (c.in_default.ensures.cases.0 (subst IsUtf8 (sym is) (IsUtf8-from_ascii (natural_text n) (IsAscii-decimal n (omega (arith, high)))))))

pub returns-in_default-parse : goal.returns-in_default-parse
returns-in_default-parse c = no-number 0 (2 ^ 64 - 1) c.args.word.now (λ n is low high.
    no-error c.parse.result c.in_default-parse.field-0 n c.in_default-parse.is
    (read-back c.parse.result n c.in-Ok.text.now c.args.word.now (omega (arith, high)) is c.in-Ok.ensures.cases.0 c.parse.ensures.value.0))

pub returns-then-eq : goal.returns-then-eq
returns-then-eq c =
    let small : c.in-Ok-parse.n < 2 ^ 64 = fits c.parse.result c.in-Ok-parse.n c.in-Ok.text.now c.in-Ok-parse.is c.parse.ensures.value.0 in
    let both : c.format.result.now ≡ c.in-Ok.text.now = (bytes_eq-Decides c.format.result.now c.in-Ok.text.now).0 (sym c.if-eq.ensures) in
    let is : c.args.word.now ≡ natural_text c.in-Ok-parse.n = sym c.in-Ok.ensures.cases.0 ∙ sym both ∙ c.format.ensures.text in
    sym (spelled-number 0 (2 ^ 64 - 1) c.in-Ok-parse.n c.args.word.now is small (omega arith) (omega (arith, small)))

pub returns-else-eq : goal.returns-else-eq
returns-else-eq c = no-number 0 (2 ^ 64 - 1) c.args.word.now (λ n is low high.
    let same : c.in-Ok-parse.n ≡ n = one-number c.parse.result c.in-Ok-parse.n n c.in-Ok-parse.is
    (read-back c.parse.result n c.in-Ok.text.now c.args.word.now (omega (arith, high)) is c.in-Ok.ensures.cases.0 c.parse.ensures.value.0) in
    let both : c.format.result.now ≡ c.in-Ok.text.now = c.format.ensures.text ∙ ap natural_text same ∙ sym is ∙ sym c.in-Ok.ensures.cases.0 in
    let yes : bytes_eq c.format.result.now c.in-Ok.text.now ≡ true = (bytes_eq-Decides c.format.result.now c.in-Ok.text.now).1 both in
    let no : false ≡ bytes_eq c.format.result.now c.in-Ok.text.now = c.if-eq.ensures in cc)
