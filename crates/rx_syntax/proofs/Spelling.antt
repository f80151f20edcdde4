-- The tokens of bytes are tokens that bytes can spell.
use Rattle.std.proofs.Common.{◌≡◌, ℕ, zero, suc, ◌≤◌, Bool, true, false, cond, ◌&&◌, ◌==◌, not, nat_lt, nat_le, List, [], ◌∷◌, length, take, drop, slice_index, Some, None, refl, subst, pos, arith, Option, option_map}
use Rattle.std.specs.List.{prefix_len}
use Rattle.std.specs.Str.{all_ascii_digits}
use Rattle.std.specs.Str.Parse.{digits_value}
use Rattle.std.proofs.lemmas.Bool.Decides.{nat_tests}
use Rattle.rx_base.proofs.Bools.{and-second}
use Rattle.rx_syntax.specs.declared.token.Keyword.{Keyword}
use Rattle.rx_syntax.specs.declared.token.Op.TheVariants as ops
use Rattle.rx_syntax.specs.declared.token.Sign.TheVariants as signs
use Rattle.rx_syntax.specs.declared.token.Token.{Token}
use Rattle.rx_syntax.specs.declared.token.Token.TheVariants.{Key, Called, Number, Oper, Mark, Bad}
use Rattle.rx_syntax.specs.declared.token.Lexeme.{Lexeme}
use Rattle.rx_syntax.specs.declared.token.Lexeme.TheVariants as lexemes
use Rattle.rx_syntax.specs.Lexical.{skipped, is_word_byte, is_word_start, most, is_number, keyword_of, word_or_name, run_token, equals_sign, sign_of_byte, sign_at, token_of, token_at}
use Rattle.rx_syntax.specs.Tokens.{TextBegins}
use Rattle.rx_syntax.specs.Texts.{AreSpelled}

-- a number is from 0 to the greatest
abbrev pub Fine : Lexeme → Type 0
Fine (lexemes.Number (pos n)) = n ≤ most
Fine (lexemes.Number _) = ⊥
Fine (lexemes.Word k) = Unit {0}
Fine (lexemes.Name n) = Unit {0}
Fine (lexemes.Oper o) = Unit {0}
Fine (lexemes.Mark s) = Unit {0}

abbrev pub FineOption : Option Lexeme → Type 0
FineOption None = Unit {0}
FineOption (Some x) = Fine x

abbrev pub FineAnswer : Option (Lexeme × List ℕ) → Type 0
FineAnswer None = Unit {0}
FineAnswer (Some x) = Fine x.0

with-rest : (o : Option Lexeme) (rest : List ℕ) → FineOption o → FineAnswer (option_map (λ x. (x, rest)) o)
with-rest None rest h = tt
with-rest (Some x) rest h = h

either : (b : Bool) (x y : Option Lexeme) → FineOption x → FineOption y → FineOption (cond b x y)
either true x y h k = h
either false x y h k = k

word-fine : (o : Option Keyword) (word : List ℕ) → Fine (word_or_name o word)
word-fine None word = tt
word-fine (Some k) word = tt

number-fine : (run : List ℕ) (b : Bool) → is_number run ≡ b → FineOption (option_map (λ n. lexemes.Number n) (cond b (Some (pos (digits_value 10 run))) None))
number-fine run false e = tt
number-fine run true e =
    let small : nat_le (digits_value 10 run) most ≡ true = and-second (not (length run == 0) && not (slice_index run 0 == 48 && nat_lt 1 (length run)) && all_ascii_digits run) (nat_le (digits_value 10 run) most) e in
    grind (arith, nat_tests)

run-fine : (run : List ℕ) → FineOption (run_token run)
run-fine run =
    either (is_word_start (slice_index run 0)) (cond (nat_le (length run) 16) (Some (word_or_name (keyword_of run) run)) None) (option_map (λ n. lexemes.Number n) (cond (is_number run) (Some (pos (digits_value 10 run))) None))
    (either (nat_le (length run) 16) (Some (word_or_name (keyword_of run) run)) None (word-fine (keyword_of run) run) tt)
    (number-fine run (is_number run) refl)

equals-fine : (bs : List ℕ) → Fine (equals_sign bs).0
equals-fine [] = tt
equals-fine (b ∷ bs) = elim (b == 61) as (λ c. Fine (cond {A = Lexeme × List ℕ} c (lexemes.Oper ops.Equal, bs) (lexemes.Mark signs.Equals, b ∷ bs)).0) [ true ↦ tt | false ↦ tt ]

sign-fine : (b : ℕ) → FineOption (sign_of_byte b)
sign-fine b =
    either (b == 123) _ _ tt (either (b == 125) _ _ tt (either (b == 40) _ _ tt (either (b == 41) _ _ tt (either (b == 91) _ _ tt (either (b == 93) _ _ tt
    (either (b == 59) _ _ tt (either (b == 44) _ _ tt (either (b == 43) _ _ tt (either (b == 45) _ _ tt (either (b == 42) _ _ tt (either (b == 60) _ _ tt tt)))))))))))

sign-at-fine : (bytes : List ℕ) → FineAnswer (sign_at bytes)
sign-at-fine [] = tt
sign-at-fine (b ∷ bs) = elim (b == 61) as (λ c. FineAnswer (cond c (Some (equals_sign bs)) (option_map (λ x. (x, bs)) (sign_of_byte b)))) [ true ↦ equals-fine bs | false ↦ with-rest (sign_of_byte b) bs (sign-fine b) ]

token-of-fine : (n : ℕ) (bytes : List ℕ) → FineAnswer (token_of n bytes)
token-of-fine zero bytes = sign-at-fine bytes
token-of-fine (suc n) bytes = with-rest (run_token (take (suc n) bytes)) (drop (suc n) bytes) (run-fine (take (suc n) bytes))

-- a token that is scanned is one that bytes can spell
token-fine : (bytes after : List ℕ) (x : Lexeme) → token_at bytes ≡ Some (x, after) → Fine x
token-fine bytes after x e = subst (λ (o : Option (Lexeme × List ℕ)). FineAnswer o) e (token-of-fine (prefix_len is_word_byte bytes) bytes)

pub begins-spelled : (names : List (List ℕ)) (bytes : List ℕ) (ts : List Token) (rest : List ℕ) → TextBegins names bytes ts rest → AreSpelled ts
begins-spelled names bytes [] rest h = tt
begins-spelled names bytes (Key k ∷ ts) rest h = begins-spelled names h.1 ts rest h.4
begins-spelled names bytes (Called n ∷ ts) rest h = begins-spelled names h.1 ts rest h.4
begins-spelled names bytes (Number (pos n) ∷ ts) rest h =
    let e : h.0 ≡ lexemes.Number (pos n) = cc in
    (subst Fine e (token-fine (skipped false bytes) h.1 h.0 h.3), begins-spelled names h.1 ts rest h.4)
begins-spelled names bytes (Number n ∷ ts) rest h =
    let e : h.0 ≡ lexemes.Number n = cc in
    subst Fine e (token-fine (skipped false bytes) h.1 h.0 h.3)
begins-spelled names bytes (Oper o ∷ ts) rest h = begins-spelled names h.1 ts rest h.4
begins-spelled names bytes (Mark s ∷ ts) rest h = begins-spelled names h.1 ts rest h.4
begins-spelled names bytes (Bad ∷ ts) rest h = cc
