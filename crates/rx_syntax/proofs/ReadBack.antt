-- What was written is scanned as the tokens that it was written from.
use Rattle.std.proofs.Common.{◌≡◌, ℕ, zero, suc, ◌+◌, ◌<◌, ◌≤◌, ◌^◌, true, false, cond, not, ◌&&◌, ◌==◌, nat_lt, nat_le, List, [], ◌∷◌, ◌++◌, length, take, drop, slice_index, Some, None, refl, ap, sym, ◌∙◌, append_assoc, pos, inl, inr, arith, slice_get, option_map}
use Rattle.std.specs.Char.{is_ascii_digit}
use Rattle.std.specs.Fmt.{decimal}
use Rattle.std.specs.List.{flat_map, list_all, prefix_len}
use Rattle.std.specs.Str.{all_ascii_digits}
use Rattle.std.specs.Str.Parse.{digits_value}
use Rattle.std.proofs.lemmas.Bool.Decides.{nat_tests}
use Rattle.std.proofs.lemmas.Fmt.{decimal_nonempty, decimal_digit, first_decimal, digits_decimal, digits_value-decimal}
use Rattle.std.proofs.lemmas.Option.{slice_get-get_or}
use Rattle.std.proofs.Math.Seq.{take-append_seam, drop-append_seam}
use Rattle.rx_base.proofs.Bools.{and-first, and-second}
use Rattle.rx_text.proofs.Digits.{own}
use Rattle.rx_syntax.specs.declared.token.Op.TheVariants as ops
use Rattle.rx_syntax.specs.declared.token.Keyword.{Keyword}
use Rattle.rx_syntax.specs.declared.token.Keyword.TheVariants as keywords
use Rattle.rx_syntax.specs.declared.token.Sign.TheVariants as signs
use Rattle.rx_syntax.specs.declared.token.Token.{Token}
use Rattle.rx_syntax.specs.declared.token.Token.TheVariants.{Key, Called, Number, Oper, Mark, Bad}
use Rattle.rx_syntax.specs.declared.token.Lexeme.{Lexeme}
use Rattle.rx_syntax.specs.declared.token.Lexeme.TheVariants as lexemes
use Rattle.rx_syntax.specs.Lexical.{is_blank, skipped, is_word_byte, is_word_start, most, is_number, number_of_run, padded, keyword_of, word_or_name, run_token, equals_sign, token_of, token_at}
use Rattle.rx_syntax.specs.Tokens.{lexeme_of, TextBegins, NamesInOrder, IsName}
use Rattle.rx_syntax.specs.Texts.{keyword_text, name_text, token_text, spaced, with_blanks, AreSpelled}

-- neither a byte of a word or number nor a `=` is in front
pub record Stops (rest : List ℕ) : Type 0 where
  pub no_word : is_word_byte (slice_index rest 0) ≡ false
  pub no_equals : (slice_index rest 0 == 61) ≡ false

-- a run of such bytes goes as far as they go
run-len : (xs rest : List ℕ) → list_all is_word_byte xs ≡ true → is_word_byte (slice_index rest 0) ≡ false → prefix_len is_word_byte (xs ++ rest) ≡ length xs
run-len [] [] all stop = refl
run-len [] (r ∷ rest) all stop = rw stop refl
run-len (b ∷ bs) rest all stop =
    let here : is_word_byte b ≡ true = and-first (is_word_byte b) (list_all is_word_byte bs) all in
    let more = run-len bs rest (and-second (is_word_byte b) (list_all is_word_byte bs) all) stop in
    rw here (omega (arith, more))

of-run : (k : ℕ) (bytes : List ℕ) → 0 < k → token_of k bytes ≡ option_map (λ t. (t, drop k bytes)) (run_token (take k bytes))
of-run zero bytes some = absurd (omega arith)
of-run (suc k) bytes some = refl

-- the token of a run is scanned where the run ends
run-token : (xs rest : List ℕ) (x : Lexeme) → 0 < length xs → list_all is_word_byte xs ≡ true → is_word_byte (slice_index rest 0) ≡ false → run_token xs ≡ Some x → token_at (xs ++ rest) ≡ Some (x, rest)
run-token xs rest x some all stop is =
    ap (λ k. token_of k (xs ++ rest)) (run-len xs rest all stop)
    ∙ of-run (length xs) (xs ++ rest) some
    ∙ ap (λ ys. option_map (λ t. (t, drop (length xs) (xs ++ rest))) (run_token ys)) (take-append_seam xs rest)
    ∙ ap (λ o. option_map (λ t. (t, drop (length xs) (xs ++ rest))) o) is
    ∙ ap (λ r. Some (x, r)) (drop-append_seam xs rest)

not-blank : (b : ℕ) (bs : List ℕ) → is_word_byte b ≡ true → skipped false (b ∷ bs) ≡ b ∷ bs
not-blank b bs word =
    let e : (b == 35) ≡ false = grind (arith, nat_tests) in
    let f : is_blank b ≡ false = grind (arith, nat_tests) in
    rw e (rw f refl)

run-shows : (xs rest : List ℕ) → 0 < length xs → list_all is_word_byte xs ≡ true → skipped false (xs ++ rest) ≡ xs ++ rest
run-shows [] rest some all = absurd (omega arith)
run-shows (b ∷ bs) rest some all = not-blank b (bs ++ rest) (and-first (is_word_byte b) (list_all is_word_byte bs) all)

-- a token that bytes can spell, whose name is known
abbrev pub Plain : List (List ℕ) → Token → Type 0
Plain names (Called n) = (name : List ℕ) × (slice_get names n ≡ Some name) × IsName name
Plain names (Number (pos n)) = n ≤ most
Plain names (Number _) = ⊥
Plain names Bad = ⊥
Plain names _ = Unit {0}

abbrev pub AllPlain : List (List ℕ) → List Token → Type 0
AllPlain names [] = Unit {0}
AllPlain names (t ∷ ts) = Plain names t × AllPlain names ts

-- the text of the token is scanned as it
pub record Scanned (names : List (List ℕ)) (t : Token) (rest : List ℕ) : Type 0 where
  pub lexeme : Lexeme
  pub is_lexeme : lexeme_of names t ≡ Some lexeme
  pub shows : skipped false (token_text names t ++ rest) ≡ token_text names t ++ rest
  pub token : token_at (token_text names t ++ rest) ≡ Some (lexeme, rest)

-- a word
pub record IsWord (k : Keyword) : Type 0 where
  pub some : 0 < length (keyword_text k)
  pub letters : list_all is_word_byte (keyword_text k) ≡ true
  pub token : run_token (keyword_text k) ≡ Some (lexemes.Word k)

keyword-run : (k : Keyword) → IsWord k
keyword-run keywords.Set = record { some = omega arith; letters = refl; token = refl }
keyword-run keywords.New = record { some = omega arith; letters = refl; token = refl }
keyword-run keywords.Get = record { some = omega arith; letters = refl; token = refl }
keyword-run keywords.Put = record { some = omega arith; letters = refl; token = refl }
keyword-run keywords.Forget = record { some = omega arith; letters = refl; token = refl }
keyword-run keywords.Print = record { some = omega arith; letters = refl; token = refl }
keyword-run keywords.Throw = record { some = omega arith; letters = refl; token = refl }
keyword-run keywords.Async = record { some = omega arith; letters = refl; token = refl }
keyword-run keywords.At = record { some = omega arith; letters = refl; token = refl }
keyword-run keywords.Finish = record { some = omega arith; letters = refl; token = refl }
keyword-run keywords.If = record { some = omega arith; letters = refl; token = refl }
keyword-run keywords.Else = record { some = omega arith; letters = refl; token = refl }
keyword-run keywords.Repeat = record { some = omega arith; letters = refl; token = refl }
keyword-run keywords.Try = record { some = omega arith; letters = refl; token = refl }
keyword-run keywords.Catch = record { some = omega arith; letters = refl; token = refl }
keyword-run keywords.Dead = record { some = omega arith; letters = refl; token = refl }
keyword-run keywords.Here = record { some = omega arith; letters = refl; token = refl }
keyword-run keywords.Census = record { some = omega arith; letters = refl; token = refl }

name-some : (name : List ℕ) (x : Lexeme) → run_token name ≡ Some x → 0 < length name
name-some [] x h = cc
name-some (b ∷ bs) x h = omega arith

-- numbers

digit-word : (b : ℕ) → is_ascii_digit b ≡ true → is_word_byte b ≡ true
digit-word b digit = grind (arith, nat_tests)

digits-word : (ds : List ℕ) → all_ascii_digits ds ≡ true → list_all is_word_byte ds ≡ true
digits-word [] all = refl
digits-word (d ∷ ds) all = rw (digit-word d (and-first (is_ascii_digit d) (all_ascii_digits ds) all)) (digits-word ds (and-second (is_ascii_digit d) (all_ascii_digits ds) all))

digit-no-letter : (b : ℕ) → is_ascii_digit b ≡ true → is_word_start b ≡ false
digit-no-letter b digit = grind (arith, nat_tests)

digits-no-letter : (ds : List ℕ) → all_ascii_digits ds ≡ true → is_word_start (slice_index ds 0) ≡ false
digits-no-letter [] all = refl
digits-no-letter (d ∷ ds) all = digit-no-letter d (and-first (is_ascii_digit d) (all_ascii_digits ds) all)

no-leading : (n : ℕ) → n < 2 ^ 64 → not (slice_index (decimal n) 0 == 48 && nat_lt 1 (length (decimal n))) ≡ true
no-leading zero small = ap (λ ds. not (slice_index ds 0 == 48 && nat_lt 1 (length ds))) (decimal_digit zero (omega arith))
no-leading (suc n) small =
    let e : (slice_index (decimal (suc n)) 0 == 48) ≡ false = grind (arith, nat_tests, first_decimal (suc n) (omega arith) small) in
    ap (λ b. not (b && nat_lt 1 (length (decimal (suc n))))) e

is-number : (n : ℕ) → n ≤ most → is_number (decimal n) ≡ true
is-number n small =
    let low : n < 2 ^ 64 = omega arith in
    let some : not (length (decimal n) == 0) ≡ true = grind (arith, nat_tests, decimal_nonempty n low) in
    let value : nat_le (digits_value 10 (decimal n)) most ≡ true = grind (arith, nat_tests, digits_value-decimal own n low) in
    rw (some, no-leading n low, digits_decimal own n low, value) refl

number-run : (n : ℕ) → n ≤ most → run_token (decimal n) ≡ Some (lexemes.Number (pos n))
number-run n small =
    let low : n < 2 ^ 64 = omega arith in
    let digits = digits_decimal own n low in
    ap (λ b. cond b (cond (nat_le (length (decimal n)) 16) (Some (word_or_name (keyword_of (decimal n)) (decimal n))) None) (option_map (λ m. lexemes.Number m) (number_of_run (decimal n)))) (digits-no-letter (decimal n) digits)
    ∙ ap (λ b. option_map (λ m. lexemes.Number m) (cond b (Some (pos (digits_value 10 (decimal n)))) None)) (is-number n small)
    ∙ ap (λ m. Some (lexemes.Number (pos m))) (digits_value-decimal own n low)

equals-alone : (rest : List ℕ) → (slice_index rest 0 == 61) ≡ false → equals_sign rest ≡ (lexemes.Mark signs.Equals, rest)
equals-alone [] stop = refl
equals-alone (b ∷ bs) stop = rw stop refl

pub scan-token : (names : List (List ℕ)) (t : Token) (rest : List ℕ) → Plain names t → Stops rest → Scanned names t rest
scan-token names (Key k) rest h stop =
    let w = keyword-run k in
    record { lexeme = lexemes.Word k; is_lexeme = refl; shows = run-shows (keyword_text k) rest w.some w.letters; token = run-token (keyword_text k) rest (lexemes.Word k) w.some w.letters stop.no_word w.token }
scan-token names (Called n) rest h stop =
    let some = name-some h.0 _ h.2.token in
    let e : token_text names (Called n) ≡ h.0 = ap name_text h.1 in
    record {
      lexeme = lexemes.Name (padded h.0);
      is_lexeme = ap (λ o. option_map (λ name. lexemes.Name (padded name)) o) h.1;
      shows = ap (λ bs. skipped false (bs ++ rest)) e ∙ run-shows h.0 rest some h.2.letters ∙ ap (λ bs. bs ++ rest) (sym e);
      token = ap (λ bs. token_at (bs ++ rest)) e ∙ run-token h.0 rest (lexemes.Name (padded h.0)) some h.2.letters stop.no_word h.2.token;
    }
scan-token names (Number (pos n)) rest h stop =
    let low : n < 2 ^ 64 = omega arith in
    let letters = digits-word (decimal n) (digits_decimal own n low) in
    record { lexeme = lexemes.Number (pos n); is_lexeme = refl; shows = run-shows (decimal n) rest (decimal_nonempty n low) letters; token = run-token (decimal n) rest (lexemes.Number (pos n)) (decimal_nonempty n low) letters stop.no_word (number-run n h) }
scan-token names (Number _) rest h stop = absurd h
scan-token names (Oper ops.Add) rest h stop = record { lexeme = lexemes.Oper ops.Add; is_lexeme = refl; shows = refl; token = refl }
scan-token names (Oper ops.Sub) rest h stop = record { lexeme = lexemes.Oper ops.Sub; is_lexeme = refl; shows = refl; token = refl }
scan-token names (Oper ops.Mul) rest h stop = record { lexeme = lexemes.Oper ops.Mul; is_lexeme = refl; shows = refl; token = refl }
scan-token names (Oper ops.Less) rest h stop = record { lexeme = lexemes.Oper ops.Less; is_lexeme = refl; shows = refl; token = refl }
scan-token names (Oper ops.Equal) rest h stop = record { lexeme = lexemes.Oper ops.Equal; is_lexeme = refl; shows = refl; token = refl }
scan-token names (Mark signs.OpenBrace) rest h stop = record { lexeme = lexemes.Mark signs.OpenBrace; is_lexeme = refl; shows = refl; token = refl }
scan-token names (Mark signs.CloseBrace) rest h stop = record { lexeme = lexemes.Mark signs.CloseBrace; is_lexeme = refl; shows = refl; token = refl }
scan-token names (Mark signs.OpenParen) rest h stop = record { lexeme = lexemes.Mark signs.OpenParen; is_lexeme = refl; shows = refl; token = refl }
scan-token names (Mark signs.CloseParen) rest h stop = record { lexeme = lexemes.Mark signs.CloseParen; is_lexeme = refl; shows = refl; token = refl }
scan-token names (Mark signs.OpenSquare) rest h stop = record { lexeme = lexemes.Mark signs.OpenSquare; is_lexeme = refl; shows = refl; token = refl }
scan-token names (Mark signs.CloseSquare) rest h stop = record { lexeme = lexemes.Mark signs.CloseSquare; is_lexeme = refl; shows = refl; token = refl }
scan-token names (Mark signs.Equals) rest h stop = record { lexeme = lexemes.Mark signs.Equals; is_lexeme = refl; shows = refl; token = ap Some (equals-alone rest stop.no_equals) }
scan-token names (Mark signs.Semicolon) rest h stop = record { lexeme = lexemes.Mark signs.Semicolon; is_lexeme = refl; shows = refl; token = refl }
scan-token names (Mark signs.Comma) rest h stop = record { lexeme = lexemes.Mark signs.Comma; is_lexeme = refl; shows = refl; token = refl }
scan-token names Bad rest h stop = absurd h

-- the tokens after the first, and the newline
abbrev others : List (List ℕ) → List Token → List ℕ
others names ts = flat_map (spaced names) ts ++ 10 ∷ []

stops-after : (names : List (List ℕ)) (ts : List Token) → Stops (others names ts)
stops-after names [] = record { no_word = refl; no_equals = refl }
stops-after names (t ∷ ts) = record { no_word = refl; no_equals = refl }

spaced-begin : (names : List (List ℕ)) (ts : List Token) → AllPlain names ts → TextBegins names (others names ts) ts []
spaced-begin names [] h = refl
spaced-begin names (t ∷ ts) h =
    let s = scan-token names t (others names ts) h.0 (stops-after names ts) in
    (s.lexeme, others names ts, s.is_lexeme, ap (λ bs. token_at (skipped false bs)) (append_assoc (token_text names t) (flat_map (spaced names) ts) (10 ∷ [])) ∙ ap token_at s.shows ∙ s.token, spaced-begin names ts h.1)

-- a text begins with the tokens that it was written from
pub joined-begin : (names : List (List ℕ)) (ts : List Token) → AllPlain names ts → TextBegins names (with_blanks names ts ++ 10 ∷ []) ts []
joined-begin names [] h = refl
joined-begin names (t ∷ ts) h = spaced-begin names (t ∷ ts) h

-- the next number is never less
in-order-le : (ts : List Token) (next last : ℕ) → NamesInOrder next ts last → next ≤ last
in-order-le [] next last h = omega arith
in-order-le (Called n ∷ ts) next last (inl h) = in-order-le ts next last h.1
in-order-le (Called n ∷ ts) next last (inr h) = omega (arith, in-order-le ts (next + 1) last h.1)
in-order-le (Key k ∷ ts) next last h = in-order-le ts next last h
in-order-le (Number n ∷ ts) next last h = in-order-le ts next last h
in-order-le (Oper o ∷ ts) next last h = in-order-le ts next last h
in-order-le (Mark s ∷ ts) next last h = in-order-le ts next last h
in-order-le (Bad ∷ ts) next last h = in-order-le ts next last h

abbrev Named : List (List ℕ) → Type 0
Named names = (i : ℕ) (name : List ℕ) → slice_get names i ≡ Some name → IsName name

known : (names : List (List ℕ)) (n : ℕ) → Named names → n < length names → Plain names (Called n)
known names n are here = let e = slice_get-get_or names n [] here in (_, e, are n _ e)

-- the tokens of a tree with its names are such tokens
pub all-plain : (names : List (List ℕ)) (ts : List Token) (next : ℕ) → Named names → NamesInOrder next ts (length names) → AreSpelled ts → AllPlain names ts
all-plain names [] next are order h = tt
all-plain names (Called n ∷ ts) next are (inl order) h = (known names n are (omega (arith, order.0, in-order-le ts next (length names) order.1)), all-plain names ts next are order.1 h)
all-plain names (Called n ∷ ts) next are (inr order) h = (known names n are (omega (arith, order.0, in-order-le ts (next + 1) (length names) order.1)), all-plain names ts (next + 1) are order.1 h)
all-plain names (Key k ∷ ts) next are order h = (tt, all-plain names ts next are order h)
all-plain names (Number (pos n) ∷ ts) next are order h = (h.0, all-plain names ts next are order h.1)
all-plain names (Number _ ∷ ts) next are order h = absurd h
all-plain names (Oper o ∷ ts) next are order h = (tt, all-plain names ts next are order h)
all-plain names (Mark s ∷ ts) next are order h = (tt, all-plain names ts next are order h)
all-plain names (Bad ∷ ts) next are order h = absurd h
